-- Laws of text: pieces put one behind the other are one text, digits are spelt from the last to the first, and how long a line can be.
use Rattle.std.proofs.Common.{◌≡◌, ℕ, zero, suc, ◌+◌, ◌*◌, ◌/◌, ◌%◌, ◌^◌, ◌<◌, ◌≤◌, Bool, true, false, cond, ltb, List, [], ◌∷◌, ◌++◌, length, get_or, take, set, refl, ap, ◌∙◌, add-one, arith, length-append, length-take-le, take-suc, le-ltb, lt-ltb, Option, Some, None}
use native.Mathlib.Nat.{pow-succ'}
use lib.Seq.{sets-eq}
use Rattle.octets.specs.Places.{placed}
use Rattle.octets.proofs.PlaceLaws.{length_placed, placed_on}
use Rattle.unit.specs.Fate.{fate_number, fate_status}
use Rattle.unit.specs.declared.fate.Fate.{Fate}
use Rattle.records.specs.declared.text.Page.{Page}
use Rattle.records.specs.Between.{HasRoom, Put}
use Rattle.records.specs.Text.{glyph, decimal_in, decimal, hex, hexes, spaced, ended, status_text, reply_text, record_line}

-- ---- text on a page

-- where there is room for a text there is room for its start
pub start_room : (p : Page) (s t : List ℕ) → HasRoom (s ++ t) p → HasRoom s p
start_room p s t h = omega (arith, length-append s t, h)

-- and, for a record's line, for what its first, its first two and its first three parts make
pub line_rooms : (p : Page) (k : ℕ) (fate : Fate) (s : List ℕ) → HasRoom (record_line k fate s) p
    → HasRoom (spaced (decimal k)) p
    × HasRoom (spaced (decimal k) ++ spaced (decimal (fate_number fate))) p
    × HasRoom (spaced (decimal k) ++ spaced (decimal (fate_number fate)) ++ spaced (status_text (fate_status fate))) p
unfolding record_line
line_rooms p k fate s h =
    let one = spaced (decimal k) in
    let two = spaced (decimal (fate_number fate)) in
    let three = spaced (status_text (fate_status fate)) in
    let third = start_room p (one ++ two ++ three) (ended (reply_text s)) h in
    let second = start_room p (one ++ two) three third in
    (start_room p one two second, second, third)

module _ {s : List ℕ} {p p' : Page} (put : Put s p p') where
  pub put_length : HasRoom s p → length p'.out.now ≡ length p.out.now
  put_length h = rw put.bytes (length_placed p.at s p.out.now h)

  -- there is room for what is to come behind it
  pub put_room : (t : List ℕ) → HasRoom (s ++ t) p → HasRoom t p'
  put_room t h = omega (arith, length-append s t, put.next, put_length (omega (arith, length-append s t, h)))

  -- text behind text is one text
  pub put_then : {t : List ℕ} {p'' : Page} → HasRoom (s ++ t) p → Put t p' p'' → Put (s ++ t) p p''
  put_then {t} h more = record {
    same_reference = more.same_reference ∙ put.same_reference;
    bytes = rw (more.bytes, put.bytes, put.next) (placed_on p.at s t p.out.now (omega (arith, length-append s t)));
    next = omega (arith, length-append s t, put.next, more.next);
  }

-- ---- bytes in hexadecimal

pub length_hexes : (s : List ℕ) → length (hexes s) ≡ 2 * length s
length_hexes [] = refl
length_hexes (b ∷ bs) = omega (arith, length_hexes bs)

hexes_append : (s t : List ℕ) → hexes (s ++ t) ≡ hexes s ++ hexes t
hexes_append [] t = refl
hexes_append (b ∷ bs) t = ap (λ (l : List ℕ). glyph (b / 16) ∷ glyph (b % 16) ∷ l) (hexes_append bs t)

pub hexes_next : (s : List ℕ) (i : ℕ) → i < length s → hexes (take (suc i) s) ≡ hexes (take i s) ++ hex (get_or s i 0)
hexes_next s i h = ap hexes (take-suc s i 0 h) ∙ hexes_append (take i s) (get_or s i 0 ∷ [])

-- a byte behind the first i of them
pub hex_step : (s d : List ℕ) (at i : ℕ) → i < length s → at + 2 * length s ≤ length d
    → set (set (placed at (hexes (take i s)) d) (at + 2 * i) (glyph (get_or s i 0 / 16))) (at + 2 * i + 1) (glyph (get_or s i 0 % 16))
    ≡ placed at (hexes (take (i + 1) s)) d
hex_step s d at i there room =
    let before = hexes (take i s) in
    let n = length_hexes (take i s) in
    let k = length-take-le i s (omega arith) in
    let e : at + length before ≡ at + 2 * i = omega (arith, n, k) in
    let fits : at + length before ≤ length d = omega (arith, n, k, room) in
    let next : hexes (take (i + 1) s) ≡ before ++ hex (get_or s i 0) = rw add-one (hexes_next s i there) in
    rw (next, ← e, add-one)
    (sets-eq (hex (get_or s i 0)) (placed at before d) (at + length before) (rw (length_placed at before d fits) (omega (arith, n, k, room)))
    ∙ placed_on at before (hex (get_or s i 0)) d (omega (arith, n, k, room, length-append before (hex (get_or s i 0)))))

-- ---- a number

-- a place more for its digits makes no difference, once there are enough
pub decimal_spare : (most n : ℕ) → n < 10 ^ suc most → decimal_in (suc (suc most)) n ≡ decimal_in (suc most) n
decimal_spare zero n h = rw (lt-ltb n 10 (omega arith))
decimal_spare (suc most) n h = go (ltb n 10) (decimal_spare most (n / 10) (let e = pow-succ' 10 (suc most) in omega (arith, e, h)))
  where
    go : (t : Bool) → decimal_in (suc (suc most)) (n / 10) ≡ decimal_in (suc most) (n / 10)
        → cond t (glyph n ∷ []) (decimal_in (suc (suc most)) (n / 10) ++ (glyph (n % 10) ∷ []))
        ≡ cond t (glyph n ∷ []) (decimal_in (suc most) (n / 10) ++ (glyph (n % 10) ∷ []))
    go true e = refl
    go false e = ap (λ (l : List ℕ). l ++ (glyph (n % 10) ∷ [])) e

-- one digit, or its last one behind the others
pub decimal_one : (n : ℕ) → n < 10 → decimal n ≡ glyph n ∷ []
unfolding decimal
decimal_one n h = rw (lt-ltb n 10 h)

pub decimal_more : (n : ℕ) → 10 ≤ n → n < 2 ^ 64 → decimal n ≡ decimal (n / 10) ++ (glyph (n % 10) ∷ [])
unfolding decimal
decimal_more n h l =
    rw (le-ltb n 10 h, decimal_spare 18 (n / 10) (omega (arith, l)))

-- ---- a reply's text

pub reply_none : (s : List ℕ) → length s ≡ 0 → reply_text s ≡ decimal 0
reply_none [] e = refl
reply_none (b ∷ bs) e = absurd (omega arith)

pub reply_shown : (s : List ℕ) → (length s ≡ 0 → ⊥) → reply_text s ≡ spaced (decimal (length s)) ++ hexes s
reply_shown [] some = absurd (some refl)
reply_shown (b ∷ bs) some = refl

-- ---- how long a line can be

decimal_in_law : (most n : ℕ) → length (decimal_in most n) ≤ most
decimal_in_law zero n = omega arith
decimal_in_law (suc most) n = go (ltb n 10) (decimal_in_law most (n / 10))
  where
    go : (t : Bool) → length (decimal_in most (n / 10)) ≤ most
        → length (cond t (glyph n ∷ []) (decimal_in most (n / 10) ++ (glyph (n % 10) ∷ []))) ≤ suc most
    go true l = omega arith
    go false l = omega (arith, length-append (decimal_in most (n / 10)) (glyph (n % 10) ∷ []), l)

pub decimal_length : (n : ℕ) → length (decimal n) ≤ 20
unfolding decimal
decimal_length n = decimal_in_law 20 n

status_length : (t : Option ℕ) → length (status_text t) ≤ 2
status_length None = omega arith
status_length (Some b) = omega arith

reply_length_law : (s : List ℕ) → length (reply_text s) ≤ 21 + 2 * length s
reply_length_law [] = omega (arith, decimal_length 0)
reply_length_law (b ∷ bs) =
    omega (
      arith,
      length-append (spaced (decimal (length (b ∷ bs)))) (hexes (b ∷ bs)),
      length-append (decimal (length (b ∷ bs))) (0x20 ∷ []),
      decimal_length (length (b ∷ bs)),
      length_hexes (b ∷ bs),
    )

pub line_length : (n : ℕ) (fate : Fate) (s : List ℕ) → length (record_line n fate s) ≤ 67 + 2 * length s
unfolding record_line
line_length n fate s =
    let a = spaced (decimal n) in
    let b = spaced (decimal (fate_number fate)) in
    let c = spaced (status_text (fate_status fate)) in
    omega (
      arith,
      length-append (a ++ b ++ c) (ended (reply_text s)),
      length-append (a ++ b) c,
      length-append a b,
      length-append (decimal n) (0x20 ∷ []),
      length-append (decimal (fate_number fate)) (0x20 ∷ []),
      length-append (status_text (fate_status fate)) (0x20 ∷ []),
      length-append (reply_text s) (0x0A ∷ []),
      decimal_length n,
      decimal_length (fate_number fate),
      status_length (fate_status fate),
      reply_length_law s,
    )

-- a word of four bytes and a number
pub word_length : (w : List ℕ) (n : ℕ) → length w ≡ 4 → length (w ++ ended (decimal n)) ≤ 25
word_length w n e = omega (arith, length-append w (ended (decimal n)), length-append (decimal n) (0x0A ∷ []), decimal_length n)
