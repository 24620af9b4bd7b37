-- Laws of what is done: bytes combined, a byte to be repeated, the last of bytes.
use Rattle.std.proofs.Common.{◌≡◌, zero-add, append-nil, drop_of_length-le, false, eqb, ◌≢◌, ne_eqb, ℕ, zero, suc, ◌+◌, ◌-◌, ◌<◌, ◌≤◌, List, [], ◌∷◌, ◌++◌, length, get_or, take, drop, drop_at, replicate, set, sym, refl, ap, ◌∙◌, add-one, arith, length-take-le}
use lib.Seq.{paste, paste-suc}
use Rattle.octets.specs.Places.{part, placed}
use Rattle.octets.proofs.PlaceLaws.{pasted, length_part, length_placed, part_at, part_bytes, part_placed, part_split, placed_after, placed_none}
use Rattle.packets.specs.Reading.{number_of}
use Rattle.unit.specs.Fate.{Status, fate_number}
use Rattle.unit.specs.declared.fate.Fate.{Fate}
use Rattle.unit.specs.declared.fate.Fate.TheVariants.{TimeChanged, Unusable, NoSuchLink, NoRoom, Unread, TimeThrownAway, NotObeyed, Obeyed, TimeTaken, Replied}
use Rattle.unit.proofs.FateLaws.{unread_number}
use Rattle.unit.specs.Act.{combine_byte, combined, last_of}

-- ---- bytes combined, one by one

pub length_combined : (rs ds ms : List ℕ) → length ds ≡ length rs → length ms ≡ length rs → length (combined rs ds ms) ≡ length rs
length_combined [] ds ms d m = refl
length_combined (r ∷ rs) [] ms d m = absurd (omega arith)
length_combined (r ∷ rs) (x ∷ ds) [] d m = absurd (omega arith)
length_combined (r ∷ rs) (x ∷ ds) (y ∷ ms) d m = ap suc (length_combined rs ds ms (omega arith) (omega arith))

pub combined_at : (rs ds ms : List ℕ) (i : ℕ) → i < length rs → length ds ≡ length rs → length ms ≡ length rs
    → get_or (combined rs ds ms) i 0 ≡ combine_byte (get_or ms i 0) (get_or ds i 0) (get_or rs i 0)
combined_at [] ds ms i h d m = absurd (omega arith)
combined_at (r ∷ rs) [] ms i h d m = absurd (omega arith)
combined_at (r ∷ rs) (x ∷ ds) [] i h d m = absurd (omega arith)
combined_at (r ∷ rs) (x ∷ ds) (y ∷ ms) zero h d m = refl
combined_at (r ∷ rs) (x ∷ ds) (y ∷ ms) (suc i) h d m = combined_at rs ds ms i (omega arith) (omega arith) (omega arith)

-- what a read-modify-write combines has as many bytes as its span
pub length_now : (p m : List ℕ) (from count at : ℕ) → at + count ≤ length m → from + count + count ≤ length p
    → length (combined (part at count m) (part from count p) (part (from + count) count p)) ≡ count
length_now p m from count at room whole =
    let r = length_part at count m room in
    let d = length_part from count p (omega arith) in
    let k = length_part (from + count) count p whole in
    length_combined (part at count m) (part from count p) (part (from + count) count p) (d ∙ sym r) (k ∙ sym r) ∙ r

-- after i turns the bytes are what they were with the first i combined ones pasted, and the next one is still what was read
module _ (rs ds ms : List ℕ) (d : length ds ≡ length rs) (m : length ms ≡ length rs) where
  abbrev all : List ℕ
  all = combined rs ds ms

  still_there : (i : ℕ) → i < length rs → get_or (paste rs 0 all i) i 0 ≡ get_or rs i 0
  still_there i h =
      let l : length (take i all) ≡ i = length-take-le i all (omega (arith, length_combined rs ds ms d m)) in
      let e : paste rs 0 all i ≡ placed 0 (take i all) rs = rw l in
      ap (λ (s : List ℕ). get_or s i 0) e ∙ placed_after 0 (take i all) rs (omega (arith, l)) i (omega (arith, l))

  pub combined_next : {before : List ℕ} {b : ℕ} (i : ℕ) → i < length rs → before ≡ paste rs 0 all i
      → b ≡ combine_byte (get_or ms i 0) (get_or ds i 0) (get_or before i 0) → set before i b ≡ paste rs 0 all (i + 1)
  combined_next {before} {b} i h e f =
      let g : b ≡ get_or all i 0 =
      f ∙ ap (λ (x : ℕ). combine_byte (get_or ms i 0) (get_or ds i 0) x) (ap (λ (s : List ℕ). get_or s i 0) e ∙ still_there i h)
      ∙ sym (combined_at rs ds ms i h d m) in
      rw (e, g, add-one)
      (ap (λ (x : ℕ). set (paste rs 0 all i) x (get_or all i 0)) (sym (zero-add i))
      ∙ paste-suc rs 0 all i 0 (omega arith) (omega (arith, length_combined rs ds ms d m)))

  pub combined_end : {then : List ℕ} → then ≡ paste rs 0 all (length rs) → then ≡ all
  combined_end e =
      let l = length_combined rs ds ms d m in
      e ∙ pasted rs 0 all (length rs) l ∙ rw (drop_of_length-le rs {i = 0 + length all} (omega (arith, l))) (append-nil all)

-- and so where memory itself is written, at its place: its next byte is still what was read
module _ (p m : List ℕ) (from count at : ℕ) (room : at + count ≤ length m) (whole : from + count + count ≤ length p) where
  abbrev pub now_combined : List ℕ
  now_combined = combined (part at count m) (part from count p) (part (from + count) count p)

  next_byte : (i : ℕ) → i < count
      → get_or now_combined i 0 ≡ combine_byte (get_or p (from + count + i) 0) (get_or p (from + i) 0) (get_or m (at + i) 0)
  next_byte i h =
      let r = length_part at count m room in
      let d = length_part from count p (omega arith) in
      let k = length_part (from + count) count p whole in
      combined_at (part at count m) (part from count p) (part (from + count) count p) i (rw r h) (d ∙ sym r) (k ∙ sym r)
      ∙ rw (part_at (from + count) count p i h, part_at from count p i h, part_at at count m i h)

  memory_there : (i : ℕ) → i < count → get_or (paste m at now_combined i) (at + i) 0 ≡ get_or m (at + i) 0
  memory_there i h =
      let l : length (take i now_combined) ≡ i = length-take-le i now_combined (omega (arith, length_now p m from count at room whole)) in
      let e : paste m at now_combined i ≡ placed at (take i now_combined) m = rw l in
      ap (λ (s : List ℕ). get_or s (at + i) 0) e
      ∙ placed_after at (take i now_combined) m (omega (arith, l)) (at + i) (omega (arith, l))

  pub memory_next : {before : List ℕ} {b : ℕ} (i place : ℕ) → at + i ≡ place → i < count → before ≡ paste m at now_combined i
      → b ≡ combine_byte (get_or p (from + count + i) 0) (get_or p (from + i) 0) (get_or before place 0)
      → set before place b ≡ paste m at now_combined (i + 1)
  memory_next {before} {b} i place there h e f =
      let g : b ≡ get_or now_combined i 0 =
      rw (← there) at f ∙ ap (λ (x : ℕ). combine_byte (get_or p (from + count + i) 0) (get_or p (from + i) 0) x) (ap (λ (s : List ℕ). get_or s (at + i) 0) e ∙ memory_there i h)
      ∙ sym (next_byte i h) in
      rw (e, g, add-one, ← there) (paste-suc m at now_combined i 0 (omega arith) (omega (arith, length_now p m from count at room whole)))

-- bytes are gathered into a local, combined there, and scattered
pub combined_between : (p m room : List ℕ) {read new then : List ℕ} (from count at : ℕ) → at + count ≤ length m → from + count + count ≤ length p → count ≤ length room
    → read ≡ placed 0 (part at count m) room
    → new ≡ placed 0 (combined (part 0 count read) (part from count p) (part (from + count) count p)) read
    → then ≡ placed at (part 0 count new) m
    → then ≡ placed at (combined (part at count m) (part from count p) (part (from + count) count p)) m
combined_between p m room {read} {new} from count at fits whole few e f g =
    let was = part at count m in
    let l = length_part at count m fits in
    let here : part 0 count read ≡ was =
    ap (part 0 count) e ∙ ap (λ (n : ℕ). part 0 n (placed 0 was room)) (sym l) ∙ part_placed 0 was room (omega (arith, l)) in
    let size : length read ≡ length room = ap length e ∙ length_placed 0 was room (omega (arith, l)) in
    let both = combined was (part from count p) (part (from + count) count p) in
    let k = length_now p m from count at fits whole in
    let there : part 0 count new ≡ both =
    ap (part 0 count) (rw here at f) ∙ ap (λ (n : ℕ). part 0 n (placed 0 both read)) (sym k) ∙ part_placed 0 both read (omega (arith, k, size)) in
    g ∙ ap (λ (b : List ℕ). placed at b m) there

-- ---- a byte to be repeated

pub byte_gathered : (m : List ℕ) {byte : List ℕ} (at count : ℕ) → at + 1 ≤ length m → byte ≡ placed 0 (part at 1 m) (0 ∷ [])
    → replicate count (get_or byte 0 0) ≡ replicate count (get_or m at 0)
byte_gathered m at count h e =
    ap (λ (b : List ℕ). replicate count (get_or b 0 0)) (e ∙ ap (λ (b : List ℕ). placed 0 b (0 ∷ [])) (part_bytes at 0 m h))

-- ---- the last of bytes

pub last_part : (p : List ℕ) (from count : ℕ) → 1 ≤ count → from + count ≤ length p → last_of (part from count p) ≡ part (from + count - 1) 1 p
last_part p from count h k =
    let n = count - 1 in
    let c : count ≡ n + 1 = omega arith in
    let e : from + n ≡ from + count - 1 = omega arith in
    let l : length (part from count p) - 1 ≡ n = omega (arith, length_part from count p k) in
    let front : length (part from n p) ≡ n = length_part from n p (omega arith) in
    let s : part from count p ≡ part from n p ++ part (from + count - 1) 1 p = ap (λ (x : ℕ). part from x p) c ∙ part_split from n 1 (from + count - 1) p e in
    ap (λ (x : ℕ). drop x (part from count p)) l
    ∙ ap (drop n) s
    ∙ drop_at (part from n p) (part (from + count - 1) 1 p) n front

pub last_none : (p m : List ℕ) (from count at : ℕ) → count ≡ 0 → m ≡ placed at (last_of (part from count p)) m
last_none p m from count at e = rw e (sym (placed_none at m))

pub last_scattered : (p m : List ℕ) {then : List ℕ} (from count at : ℕ) → 1 ≤ count → from + count ≤ length p
    → then ≡ placed at (part (from + count - 1) 1 p) m → then ≡ placed at (last_of (part from count p)) m
last_scattered p m from count at h l e = e ∙ ap (λ (b : List ℕ). placed at b m) (sym (last_part p from count h l))

-- a part as a slice of the code has it
pub slice_is : (p : List ℕ) (from count : ℕ) → take (from + count - from) (drop from p) ≡ part from count p
slice_is p from count = ap (λ (n : ℕ). take n (drop from p)) (omega arith)

-- ---- a fate without a reply

pub not_replied : (fate : Fate) → ((s : Status) → fate ≢ Replied s) → eqb (fate_number fate) 20 ≡ false
not_replied TimeChanged n = refl
not_replied Unusable n = refl
not_replied NoSuchLink n = refl
not_replied NoRoom n = refl
not_replied (Unread why) n = ne_eqb (number_of why) 20 (λ e. omega (arith, e, (unread_number why).1))
not_replied TimeThrownAway n = refl
not_replied (NotObeyed s) n = refl
not_replied Obeyed n = refl
not_replied TimeTaken n = refl
not_replied (Replied s) n = absurd (n s refl)
