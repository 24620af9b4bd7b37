-- Laws of records: how long a right one is, which numbers stand for its kind and its end, that a whole one is all there, and that what comes behind a record changes nothing of it.
use Rattle.std.proofs.Common.{◌≡◌, ℕ, ◌+◌, ◌<◌, ◌≤◌, Bool, true, false, cond, not, ◌&&◌, ◌||◌, eqb, ltb, leb, List, Result, Ok, Err, ◌++◌, length, get_or, take, drop, sym, refl, ap, ◌∙◌, arith, length-append, length-drop, take-append-drop, length-take-le, ltb-false, ltb-true, le-ltb, lt-ltb, ne_eqb, eqb-true, leb-true}
use mathlib.Core.Bool.{or-false}
use borrow.Author.Tests.{eqb-false}
use lib.ListN.{get_or-append}
use lib.Seq.{take-append-le, drop-append-le}
use Rattle.std.proofs.lemmas.List.{get_or-take, get_or-drop}
use Rattle.octets.specs.Places.{part}
use Rattle.octets.specs.Numbers.{number}
use Rattle.octets.proofs.PlaceLaws.{first_true, second_true}
use Rattle.records.specs.Record.{kind_number, end_number, is_right, body_size, is_head, end_of, item_of, read_record, size_of}
use Rattle.records.specs.Between.{read_behind}
use Rattle.packets.specs.declared.reading.End.{End}
use Rattle.packets.specs.declared.reading.End.TheVariants.{Eop, Eep}
use Rattle.records.specs.declared.record.Item.{Item}
use Rattle.records.specs.declared.record.Item.TheVariants.{Packet, TimeCode, Ticks}
use Rattle.records.specs.declared.record.NoRecord.{NoRecord}
use Rattle.records.specs.declared.record.NoRecord.TheVariants.{Wrong, Cut}

-- a Time-Code has a body of one byte, ticks have one of four
module _ (s : List ℕ) (head : is_head s ≡ true) where
  fits_kind : is_right (get_or s 2 0) (get_or s 3 0) (get_or s 4 0) (body_size s) ≡ true
  fits_kind = second_true (eqb (get_or s 0 0) 0x5A && eqb (get_or s 1 0) 0x57) (is_right (get_or s 2 0) (get_or s 3 0) (get_or s 4 0) (body_size s)) head

  pub code_body : get_or s 2 0 ≡ 2 → body_size s ≡ 1
  code_body two =
      eqb-true (body_size s) 1
      (second_true (eqb (get_or s 3 0) 0 && eqb (get_or s 4 0) 0) (eqb (body_size s) 1)
      (sym (or-false (eqb (get_or s 3 0) 0 && eqb (get_or s 4 0) 0 && eqb (body_size s) 1)) ∙ (rw two at fits_kind)))

  pub ticks_body : (get_or s 2 0 ≡ 1 → ⊥) → (get_or s 2 0 ≡ 2 → ⊥) → body_size s ≡ 4
  ticks_body one two =
      eqb-true (body_size s) 4
      (second_true (eqb (get_or s 2 0) 3 && eqb (get_or s 3 0) 0 && eqb (get_or s 4 0) 0) (eqb (body_size s) 4)
      (rw (ne_eqb (get_or s 2 0) 1 one, ne_eqb (get_or s 2 0) 2 two) at fits_kind))

  -- there is no fourth kind, and a packet has end 0 or 1
  third : (get_or s 2 0 ≡ 1 → ⊥) → (get_or s 2 0 ≡ 2 → ⊥) → get_or s 2 0 ≡ 3
  third one two =
      let link = eqb (get_or s 3 0) 0 in
      let end = eqb (get_or s 4 0) 0 in
      let body = eqb (body_size s) 4 in
      eqb-true (get_or s 2 0) 3
      (first_true (eqb (get_or s 2 0) 3) link
      (first_true (eqb (get_or s 2 0) 3 && link) end
      (first_true (eqb (get_or s 2 0) 3 && link && end) body
      (rw (ne_eqb (get_or s 2 0) 1 one, ne_eqb (get_or s 2 0) 2 two) at fits_kind))))

  packet_fits : get_or s 2 0 ≡ 1 → (leb (get_or s 4 0) 1 && leb (body_size s) 4096) ≡ true
  packet_fits one =
      let fits = leb (get_or s 4 0) 1 && leb (body_size s) 4096 in
      sym (or-false fits) ∙ sym (or-false (fits || false)) ∙ (rw one at fits_kind)

  packet_end : get_or s 2 0 ≡ 1 → get_or s 4 0 ≤ 1
  packet_end one = leb-true (get_or s 4 0) 1 (first_true (leb (get_or s 4 0) 1) (leb (body_size s) 4096) (packet_fits one))

  -- and no body is longer than 4,096
  pub body_most : body_size s ≤ 4096
  body_most = go (eqb (get_or s 2 0) 1) (eqb (get_or s 2 0) 2) refl refl
    where
      go : (a b : Bool) → eqb (get_or s 2 0) 1 ≡ a → eqb (get_or s 2 0) 2 ≡ b → body_size s ≤ 4096
      go true b e f =
          leb-true (body_size s) 4096 (second_true (leb (get_or s 4 0) 1) (leb (body_size s) 4096) (packet_fits (eqb-true (get_or s 2 0) 1 e)))
      go false true e f = let n = code_body (eqb-true (get_or s 2 0) 2 f) in omega arith
      go false false e f = let n = ticks_body (eqb-false (get_or s 2 0) 1 e) (eqb-false (get_or s 2 0) 2 f) in omega arith

  pub item_size : size_of (item_of s) ≡ 7 + body_size s
  item_size = go (eqb (get_or s 2 0) 1) (eqb (get_or s 2 0) 2) refl refl
    where
      go : (a b : Bool) → eqb (get_or s 2 0) 1 ≡ a → eqb (get_or s 2 0) 2 ≡ b
          → size_of (cond a (Packet (end_of (get_or s 4 0)) (get_or s 3 0) (body_size s)) (cond b (TimeCode (get_or s 7 0)) (Ticks (number (part 7 4 s))))) ≡ 7 + body_size s
      go true b e f = refl
      go false true e f = let n = code_body (eqb-true (get_or s 2 0) 2 f) in omega arith
      go false false e f = let n = ticks_body (eqb-false (get_or s 2 0) 1 e) (eqb-false (get_or s 2 0) 2 f) in omega arith

-- ---- kind and end, as cases and as their numbers

-- from an end to its number and back, and from a number that document 01 has
pub end_back : (e : End) → end_of (end_number e) ≡ e
end_back Eop = refl
end_back Eep = refl

pub number_back : (b : ℕ) → b ≤ 1 → end_number (end_of b) ≡ b
number_back b h = go (eqb b 0) refl
  where
    go : (t : Bool) → eqb b 0 ≡ t → end_number (cond t Eop Eep) ≡ b
    go true e = sym (eqb-true b 0 e)
    go false e = let other = eqb-false b 0 e in omega arith

module _ (s : List ℕ) (head : is_head s ≡ true) where
  -- a right head is read as the kind whose number its byte 2 is
  pub kind_told : kind_number (item_of s) ≡ get_or s 2 0
  kind_told = go (eqb (get_or s 2 0) 1) (eqb (get_or s 2 0) 2) refl refl
    where
      go : (a b : Bool) → eqb (get_or s 2 0) 1 ≡ a → eqb (get_or s 2 0) 2 ≡ b
          → kind_number (cond a (Packet (end_of (get_or s 4 0)) (get_or s 3 0) (body_size s)) (cond b (TimeCode (get_or s 7 0)) (Ticks (number (part 7 4 s))))) ≡ get_or s 2 0
      go true b e f = sym (eqb-true (get_or s 2 0) 1 e)
      go false true e f = sym (eqb-true (get_or s 2 0) 2 f)
      go false false e f = sym (third s head (eqb-false (get_or s 2 0) 1 e) (eqb-false (get_or s 2 0) 2 f))

  -- a packet's end, link and length are those of its head
  pub packet_told : (end : End) (link size : ℕ) → item_of s ≡ Packet end link size
      → (end_number end ≡ get_or s 4 0) × (link ≡ get_or s 3 0) × (size ≡ body_size s)
  packet_told end link size is =
      let one : get_or s 2 0 ≡ 1 = sym kind_told ∙ ap kind_number is in
      let e : Packet (end_of (get_or s 4 0)) (get_or s 3 0) (body_size s) ≡ Packet end link size = rw one at is in
      (sym (ap end_in e) ∙ number_back (get_or s 4 0) (packet_end s head one), sym (ap link_in e), sym (ap size_in e))
    where
      end_in : Item → ℕ
      end_in i = elim i [ Packet a b c ↦ end_number a | TimeCode a ↦ 0 | Ticks a ↦ 0 ]

      link_in : Item → ℕ
      link_in i = elim i [ Packet a b c ↦ b | TimeCode a ↦ 0 | Ticks a ↦ 0 ]

      size_in : Item → ℕ
      size_in i = elim i [ Packet a b c ↦ c | TimeCode a ↦ 0 | Ticks a ↦ 0 ]

-- ---- what bytes begin with is one of four

module _ (s : List ℕ) where
  pub record_is : (P : Result Item NoRecord → Type 0) → (length s < 7 → P (Err Cut)) → (7 ≤ length s → is_head s ≡ false → P (Err Wrong))
      → (7 ≤ length s → is_head s ≡ true → length s < 7 + body_size s → P (Err Cut))
      → (is_head s ≡ true → 7 + body_size s ≤ length s → P (Ok (item_of s))) → P (read_record s)
  unfolding read_record
  record_is P few wrong cut whole = go (ltb (length s) 7) (is_head s) (ltb (length s) (7 + body_size s)) refl refl refl
    where
      go : (a b c : Bool) → ltb (length s) 7 ≡ a → is_head s ≡ b → ltb (length s) (7 + body_size s) ≡ c
          → P (cond a (Err Cut) (cond (not b) (Err Wrong) (cond c (Err Cut) (Ok (item_of s)))))
      go true b c e f g = few (ltb-true (length s) 7 e)
      go false false c e f g = wrong (ltb-false (length s) 7 e) f
      go false true true e f g = cut (ltb-false (length s) 7 e) f (ltb-true (length s) (7 + body_size s) g)
      go false true false e f g = whole f (ltb-false (length s) (7 + body_size s) g)

  -- a whole record is all there
  abbrev WholeFits : Result Item NoRecord → Type 0
  WholeFits r = (item : Item) → r ≡ Ok item → (7 ≤ size_of item) × (size_of item ≤ length s)

  pub whole_fits : WholeFits (read_record s)
  whole_fits =
      record_is WholeFits (λ l item e. absurd (none_whole Cut item e)) (λ l f item e. absurd (none_whole Wrong item e)) (λ l f g item e. absurd (none_whole Cut item e))
      (λ f l item e. let n = item_size s f in let z = ap size_in e in (omega (arith, n, z, l), omega (arith, n, z, l)))
    where
      size_in : Result Item NoRecord → ℕ
      size_in r = elim r [ Ok i ↦ size_of i | Err why ↦ 0 ]

      none_whole : (why : NoRecord) (item : Item) → Err why ≡ Ok item → ⊥
      none_whole why item e = let z : ◌≡◌ {A = ℕ} 0 1 = cc in omega arith

  -- no record is wrong before seven bytes are there
  pub wrong_long : read_record s ≡ Err Wrong → 7 ≤ length s
  wrong_long =
      record_is (λ r. r ≡ Err Wrong → 7 ≤ length s) (λ l e. absurd (cut_wrong e)) (λ l f e. l) (λ l f g e. l) (λ f l e. omega arith)
    where
      cut_wrong : ◌≡◌ {A = Result Item NoRecord} (Err Cut) (Err Wrong) → ⊥
      cut_wrong e = let z : ◌≡◌ {A = ℕ} 0 1 = cc in omega arith

  -- and none is cut that has 4,103
  pub cut_short : read_record s ≡ Err Cut → length s < 7 + 4096
  cut_short =
      record_is (λ r. r ≡ Err Cut → length s < 7 + 4096) (λ l e. omega arith) (λ l f e. absurd (wrong_cut e)) (λ l f g e. omega (arith, body_most s f, g))
      (λ f l e. absurd (whole_cut (item_of s) e))
    where
      wrong_cut : ◌≡◌ {A = Result Item NoRecord} (Err Wrong) (Err Cut) → ⊥
      wrong_cut e = let z : ◌≡◌ {A = ℕ} 0 1 = cc in omega arith

      whole_cut : (item : Item) → ◌≡◌ {A = Result Item NoRecord} (Ok item) (Err Cut) → ⊥
      whole_cut item e = let z : ◌≡◌ {A = ℕ} 0 1 = cc in omega arith

-- ---- what comes behind a record that can be told changes nothing of it

module _ (s t : List ℕ) where
  more_at : (i : ℕ) → i < length s → get_or (s ++ t) i 0 ≡ get_or s i 0
  more_at i h = get_or-append s t 0 i h

  pub more_part : (from count : ℕ) → from + count ≤ length s → part from count (s ++ t) ≡ part from count s
  more_part from count h =
      ap (take count) (drop-append-le from s t (omega arith)) ∙ take-append-le count (drop from s) t (simp length-drop (omega arith))

  module _ (long : 7 ≤ length s) where
    more_size : body_size (s ++ t) ≡ body_size s
    more_size = ap number (more_part 5 2 (omega arith))

    more_head : is_head (s ++ t) ≡ is_head s
    more_head =
        rw (more_at 0 (omega arith), more_at 1 (omega arith), more_at 2 (omega arith), more_at 3 (omega arith), more_at 4 (omega arith), more_size)

    more_item : is_head s ≡ true → 7 + body_size s ≤ length s → item_of (s ++ t) ≡ item_of s
    more_item head whole =
        rw (more_at 2 (omega arith), more_at 3 (omega arith), more_at 4 (omega arith), more_size) (go (eqb (get_or s 2 0) 1) (eqb (get_or s 2 0) 2) refl refl)
      where
        go : (a b : Bool) → eqb (get_or s 2 0) 1 ≡ a → eqb (get_or s 2 0) 2 ≡ b
            → cond a (Packet (end_of (get_or s 4 0)) (get_or s 3 0) (body_size s)) (cond b (TimeCode (get_or (s ++ t) 7 0)) (Ticks (number (part 7 4 (s ++ t)))))
            ≡ cond a (Packet (end_of (get_or s 4 0)) (get_or s 3 0) (body_size s)) (cond b (TimeCode (get_or s 7 0)) (Ticks (number (part 7 4 s))))
        go true b e f = refl
        go false true e f = let n = code_body s head (eqb-true (get_or s 2 0) 2 f) in ap TimeCode (more_at 7 (omega arith))
        go false false e f =
            let n = ticks_body s head (eqb-false (get_or s 2 0) 1 e) (eqb-false (get_or s 2 0) 2 f) in
            ap (λ (l : List ℕ). Ticks (number l)) (more_part 7 4 (omega arith))

  pub record_more : (read_record s ≡ Err Cut → ⊥) → read_record (s ++ t) ≡ read_record s
  unfolding read_record
  record_more told =
      record_is s (λ r. (r ≡ Err Cut → ⊥) → read_record (s ++ t) ≡ r) (λ l c. absurd (c refl))
      (λ l f c. let n = length-append s t in rw (le-ltb (length (s ++ t)) 7 (omega arith), more_head l ∙ f)) (λ l f g c. absurd (c refl))
      (λ f l c.
      let n = length-append s t in
      let h : 7 ≤ length s = omega arith in
      let b = more_size h in
      rw (le-ltb (length (s ++ t)) 7 (omega arith), more_head h ∙ f, le-ltb (length (s ++ t)) (7 + body_size (s ++ t)) (omega arith), more_item h f l)) told

-- ---- a head is the first seven bytes

module _ (s : List ℕ) (enough : 7 ≤ length s) where
  pub first_size : body_size (take 7 s) ≡ body_size s
  first_size = sym (more_size (take 7 s) (drop 7 s) (omega (arith, length-take-le 7 s enough))) ∙ ap body_size (take-append-drop 7 s)

  pub first_head : is_head (take 7 s) ≡ is_head s
  first_head = sym (more_head (take 7 s) (drop 7 s) (omega (arith, length-take-le 7 s enough))) ∙ ap is_head (take-append-drop 7 s)

  short : ltb (length (drop 7 s)) (body_size s) ≡ ltb (length s) (7 + body_size s)
  short = go (ltb (length s) (7 + body_size s)) refl
    where
      go : (t : Bool) → ltb (length s) (7 + body_size s) ≡ t → ltb (length (drop 7 s)) (body_size s) ≡ t
      go true e = lt-ltb _ _ (omega (arith, length-drop 7 s, ltb-true (length s) (7 + body_size s) e))
      go false e = le-ltb _ _ (omega (arith, length-drop 7 s, ltb-false (length s) (7 + body_size s) e))

  -- so a record is read from the head and from what is behind it
  pub parted : read_behind (take 7 s) (drop 7 s) ≡ read_record s
  unfolding read_record
  parted =
      rw (
        le-ltb (length s) 7 enough,
        first_head,
        first_size,
        get_or-take 7 s 2 0 (omega arith),
        get_or-take 7 s 3 0 (omega arith),
        get_or-take 7 s 4 0 (omega arith),
        get_or-drop 7 s 0 0,
        short,
      )
