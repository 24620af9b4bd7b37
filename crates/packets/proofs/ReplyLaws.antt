-- Laws of replies: how long they are, and what stands in a buffer after their pieces were put into it.
use mathlib.Core.Path.{◌≡◌, refl, sym, ap, ◌∙◌}
use mathlib.Core.Bool.{Bool, true, false, cond, not, ◌&&◌, and-false}
use mathlib.Core.Logic.{inr}
use mathlib.Core.List.{List, [], ◌∷◌, ◌++◌, append_assoc, append-nil}
use Prim.Native.Nat.{ℕ, ◌+◌, ◌-◌, ◌^◌, ◌<◌, ◌≤◌, min}
use native.Mathlib.Omega.{arith}
use native.Mathlib.Decide.{dec_le}
use native.Mathlib.Nat.{lt_of_not-le, zero-add}
use borrow.Author.Tests.{ltb-true, leb-true, lt-leb, not-true}
use lib.Dec.{eqb, leb, ltb}
use lib.ListN.{length, length-append, length-replicate, length-take, length-drop}
use Rattle.octets.specs.Places.{part, placed}
use Rattle.octets.specs.Numbers.{bytes_of}
use Rattle.octets.specs.Crc.{crc, with_crc}
use Rattle.octets.proofs.PlaceLaws.{length_placed, length_part, part_placed, part_beside, placed_on, placed_same, placed_hides}
use Rattle.octets.proofs.PlaceLaws.{placed_if_length, first_true, second_true}
use Rattle.packets.specs.Instruction.{is_write}
use Rattle.packets.specs.Path.{path_bytes}
use Rattle.packets.specs.Reply.{reply_start, reply_head, reply_with, data_place, data_in, data_size, carries_data, carried, carried_count, reply_of, reply_length, reply_fits, replied}
use Rattle.packets.specs.declared.path.Path.{Path}
use Rattle.packets.specs.declared.header.Header.{Header}
use Rattle.packets.specs.declared.reply.Data.{Data}
use Rattle.packets.specs.declared.reply.Data.TheVariants.{Bytes, Repeated, InPlace}

-- ---- pieces put into a buffer

-- none of them changes the buffer's length
pub placed_length : {o : List ℕ} (x out : List ℕ) → o ≡ placed 0 x out → length x ≤ length out → length o ≡ length out
placed_length x out e h = ap length e ∙ length_placed 0 x out (omega arith)

-- bytes behind the bytes at the start, where the place is told as a number
placed_next : (x y out : List ℕ) (at : ℕ) → at ≡ length x → at + length y ≤ length out → placed at y (placed 0 x out) ≡ placed 0 (x ++ y) out
placed_next x y out at e h =
    ap (λ (k : ℕ). placed k y (placed 0 x out)) (e ∙ sym (zero-add (length x))) ∙ placed_on 0 x y out (omega arith)

-- a path at the start, and a header copied behind it
pub head_placed : (x head out : List ℕ) {first then : List ℕ} (n m : ℕ) → n ≡ length x → length head ≡ m → n + m ≤ length out
    → first ≡ placed 0 x out → then ≡ placed n head first → then ≡ placed 0 (x ++ head) out
head_placed x head out n m e f h p q = q ∙ rw p (placed_next x head out n e (omega (arith, f)))

-- behind x at the start stand n bytes, and their CRC is put behind them
pub data_ended : (x out : List ℕ) {first then : List ℕ} (at n : ℕ) → at ≡ length x → at + n < length out → first ≡ placed 0 x out
    → then ≡ placed (at + n) (crc (part at n first) ∷ []) first → then ≡ placed 0 (x ++ with_crc (part at n out)) out
data_ended x out {first} {then} at n e h p q =
    let d = part at n out in
    let l : length first ≡ length out = placed_length x out p (omega arith) in
    let m : length d ≡ n = length_part at n out (omega arith) in
    let k : length (x ++ d) ≡ at + n = omega (arith, length-append x d) in
    let there : part at n first ≡ d = ap (part at n) p ∙ part_beside 0 x out (omega arith) at n (inr (omega arith)) in
    let with-data : first ≡ placed 0 (x ++ d) out =
    sym (placed_same at n first (omega arith)) ∙ rw (there, p) (placed_next x d out at e (omega arith)) in
    q
    ∙ rw (there, with-data, ← append_assoc x d (crc d ∷ [])) (placed_next (x ++ d) (crc d ∷ []) out (at + n) (sym k) (omega arith))

-- ---- the pieces are the reply

module _ (k : Path) (h : Header) (status : ℕ) where
  pub reply_short : (d : List ℕ) (n : ℕ) → is_write h.instruction ≡ true → reply_with k h status d ≡ path_bytes k ++ reply_head h status n
  unfolding reply_with
  reply_short d n e = rw (e, append-nil)

  pub reply_long : (d : List ℕ) (n : ℕ) → is_write h.instruction ≡ false → length d ≡ n
      → reply_with k h status d ≡ path_bytes k ++ reply_head h status n ++ with_crc d
  unfolding reply_with
  reply_long d n e f = rw (f, e)

  pub length_head : (n : ℕ) → is_write h.instruction ≡ false → length (path_bytes k ++ reply_head h status n) ≡ length (path_bytes k) + 12
  length_head n e = rw e (length-append (path_bytes k) (with_crc (reply_start h status ++ (0 ∷ bytes_of 3 n))))

-- ---- lengths

-- the data that are not carried do not count
pub same_length : (path : Path) (h : Header) (status n k : ℕ) → (carries_data h status ≡ true → n ≡ k) → reply_length path h status n ≡ reply_length path h status k
unfolding reply_length
same_length path h status n k f = go (carries_data h status) refl
  where
    go : (t : Bool) → carries_data h status ≡ t
        → length (path_bytes path) + cond (is_write h.instruction) 8 (13 + cond t n 0) ≡ length (path_bytes path) + cond (is_write h.instruction) 8 (13 + cond t k 0)
    go true e = rw (f e)
    go false e = refl

length_cond : (t : Bool) (d : List ℕ) → length (cond t d []) ≡ cond t (length d) 0
length_cond true d = refl
length_cond false d = refl

module _ (k : Path) (h : Header) (status : ℕ) where
  length_with : (d : List ℕ) → length (reply_with k h status d) ≡ length (path_bytes k) + cond (is_write h.instruction) 8 (13 + length d)
  unfolding reply_with
  length_with d = go (is_write h.instruction)
    where
      s : List ℕ
      s = reply_start h status

      go : (w : Bool)
          → length (path_bytes k ++ cond w (with_crc s) (with_crc (s ++ (0 ∷ bytes_of 3 (length d)))) ++ cond w [] (with_crc d))
          ≡ length (path_bytes k) + cond w 8 (13 + length d)
      go true = simp length-append (omega arith)
      go false = simp length-append (omega arith)

  -- the length that is known before anything is written is that of the reply
  pub length_reply : (d : List ℕ) → length (reply_of k h status d) ≡ reply_length k h status (length d)
  unfolding reply_length
  length_reply d = length_with (carried h status d) ∙ rw (length_cond (carries_data h status) d)

-- a buffer keeps its length, whether the reply fits or not
pub length_replied : (k : Path) (h : Header) (status : ℕ) (d out : List ℕ) → length (replied k h status d out) ≡ length out
unfolding replied
length_replied k h status d out =
    placed_if_length 0 (reply_of k h status d) out (reply_fits k h status (length d) (length out))
    (λ e.
    let r = leb-true (reply_length k h status (length d)) (length out)
    (second_true (ltb (carried_count h status (length d)) (256 ^ 3)) (leb (reply_length k h status (length d)) (length out)) e) in
    omega (arith, length_reply k h status d))

-- where not all of n bytes are in the place of the data, a reply with n of them has no room, and neither has one with those that are there
pub around_fits : (k : Path) (h : Header) (status n : ℕ) (out : List ℕ)
    → reply_fits k h status (length (part (data_place k) n out)) (length out) ≡ reply_fits k h status n (length out)
unfolding reply_length
around_fits k h status n out = go (is_write h.instruction) (eqb status 0) (dec_le (data_place k + n) (length out))
  where
    there : ℕ
    there = length (part (data_place k) n out)

    Fits : Bool → Bool → ℕ → Bool
    Fits w z count = ltb (cond (not w && z) count 0) (256 ^ 3) && leb (length (path_bytes k) + cond w 8 (13 + cond (not w && z) count 0)) (length out)

    go : (w z : Bool) → Dec (data_place k + n ≤ length out) → Fits w z there ≡ Fits w z n
    go true z d = refl
    go false false d = refl
    go false true (yes d) = rw (length_part (data_place k) n out d)
    go false true (no d) =
        let less = lt_of_not-le d in
        let l : there ≡ min n (length out - data_place k) = simp (length-take, length-drop) in
        rw (lt-leb (length (path_bytes k) + (13 + there)) (length out) (omega (arith, l, less)), lt-leb (length (path_bytes k) + (13 + n)) (length out) (omega (arith, less)))
        (and-false (ltb there (256 ^ 3)) ∙ sym (and-false (ltb n (256 ^ 3))))

-- as data are said to be so many
data_fits : (k : Path) (h : Header) (status : ℕ) (b : Data) (out : List ℕ)
    → reply_fits k h status (length (data_in k b out)) (length out) ≡ reply_fits k h status (data_size b) (length out)
data_fits k h status (Bytes bytes) out = refl
data_fits k h status (Repeated byte count) out = rw length-replicate
data_fits k h status (InPlace count) out = around_fits k h status count out

-- data that are there have their size
size_in : (k : Path) (b : Data) (out : List ℕ) → data_place k + data_size b ≤ length out → length (data_in k b out) ≡ data_size b
size_in k (Bytes bytes) out room = refl
size_in k (Repeated byte count) out room = length-replicate count byte
size_in k (InPlace count) out room = length_part (data_place k) count out room

-- ---- the writer: t is its test

module _ (k : Path) (h : Header) (status : ℕ) (b : Data) (m : ℕ) (counts : m ≡ carried_count h status (data_size b)) (out : List ℕ) where
  carried_length : reply_length k h status m ≡ reply_length k h status (data_size b)
  carried_length = same_length k h status m (data_size b) (λ e. rw (counts, e))

  module _ {t : Bool} (test : t ≡ (ltb m (256 ^ 3) && leb (reply_length k h status m) (length out))) where
    pub reply_answer : t ≡ reply_fits k h status (data_size b) (length out)
    reply_answer = test ∙ rw (carried_length, counts)

    pub reply_room : t ≡ true → length (path_bytes k) + cond (is_write h.instruction) 8 (13 + m) ≤ length out
    unfolding reply_length
    reply_room e =
        let r = leb-true (reply_length k h status (data_size b)) (length out)
        (second_true (ltb m (256 ^ 3)) (leb (reply_length k h status (data_size b)) (length out)) (rw carried_length at (sym test ∙ e))) in
        rw counts r

    told : (s : Bool) → t ≡ s → reply_fits k h status (length (data_in k b out)) (length out) ≡ s
    told s e = data_fits k h status b out ∙ sym reply_answer ∙ e

    pub reply_refused : t ≡ false → (false ≡ reply_fits k h status (data_size b) (length out)) × (out ≡ replied k h status (data_in k b out) out)
    unfolding replied
    reply_refused e = (sym e ∙ reply_answer, rw (told false e))

    -- where data are carried, their place is there
    pub data_room : t ≡ true → carries_data h status ≡ true → data_place k + data_size b ≤ length out
    data_room e s =
        let room = rw (not-true (is_write h.instruction) (first_true (not (is_write h.instruction)) (eqb status 0) s)) at (reply_room e) in
        omega (arith, room, rw s at counts)

    -- they were put into it, and then all else around them
    pub reply_around : {first then : List ℕ} → t ≡ true → carries_data h status ≡ true → first ≡ placed (data_place k) (data_in k b out) out
        → then ≡ placed 0 (reply_with k h status (part (data_place k) m first)) first → then ≡ replied k h status (data_in k b out) out
    unfolding replied
    reply_around {first} {then} e s p q =
        let at = data_place k in
        let d = data_in k b out in
        let w = not-true (is_write h.instruction) (first_true (not (is_write h.instruction)) (eqb status 0) s) in
        let size = size_in k b out (data_room e s) ∙ sym (rw s at counts) in
        let room = rw w at (reply_room e) in
        let there : part at m first ≡ d = ap (part at m) p ∙ rw (← size) (part_placed at d out (omega (arith, size))) in
        let long : length (reply_with k h status d) ≡ length (path_bytes k) + (13 + length d) =
        length_with k h status d ∙ ap (λ (b : Bool). length (path_bytes k) + cond b 8 (13 + length d)) w in
        rw (told true e, s, q, there, p) (placed_hides 0 at (reply_with k h status d) d out (omega arith) (omega (arith, size)) (omega (arith, size)))

    -- where none are, it was written as it is
    pub reply_alone : {then : List ℕ} → t ≡ true → carries_data h status ≡ false
        → then ≡ placed 0 (reply_with k h status (part (data_place k) m out)) out → then ≡ replied k h status (data_in k b out) out
    unfolding replied
    reply_alone {then} e s q = rw (told true e, s) (q ∙ rw (counts, s))

-- ---- a reply that carries n bytes of data, and has room with them

module _ (k : Path) (h : Header) (status n : ℕ) (out : List ℕ) (carries : carries_data h status ≡ true)
    (fits : reply_fits k h status n (length out) ≡ true) where
  carrying : reply_length k h status n ≡ data_place k + n + 1
  unfolding reply_length
  carrying =
      let w = is_write h.instruction in
      rw (carries, not-true w (first_true (not w) (eqb status 0) carries)) (omega arith)

  pub carried_few : n < 256 ^ 3
  carried_few =
      let few = ltb (carried_count h status n) (256 ^ 3) in
      rw carries at (ltb-true (carried_count h status n) (256 ^ 3) (first_true few (leb (reply_length k h status n) (length out)) fits))

  pub carried_room : data_place k + n < length out
  carried_room =
      let few = ltb (carried_count h status n) (256 ^ 3) in
      let r = leb-true (reply_length k h status n) (length out) (second_true few (leb (reply_length k h status n) (length out)) fits) in
      omega (arith, r, carrying)

  -- the data were put into their place, and then the reply around them
  pub gathered_reply : (d : List ℕ) {first then : List ℕ} → length d ≡ n → first ≡ placed (data_place k) d out
      → then ≡ replied k h status (part (data_place k) n first) first → then ≡ replied k h status d out
  unfolding replied
  gathered_reply d {first} {then} l p q =
      let at = data_place k in
      let room : at + length d ≤ length out = omega (arith, l, carried_room) in
      let there : part at n first ≡ d = ap (part at n) p ∙ rw (← l) (part_placed at d out room) in
      let same : length first ≡ length out = ap length p ∙ length_placed at d out room in
      let long : length (reply_of k h status d) ≡ at + n + 1 = length_reply k h status d ∙ ap (reply_length k h status) l ∙ carrying in
      q
      ∙ rw (there, same, l, fits, p)
      (placed_hides 0 at (reply_of k h status d) d out (omega arith) (omega (arith, l, long)) (omega (arith, l, long, carried_room)))
