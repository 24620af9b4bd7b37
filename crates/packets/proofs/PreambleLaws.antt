-- Laws of time packets with added octets: the bytes from the parts and back, and the time that was sent.
use Rattle.std.specs.Prelude.{Some}
use mathlib.Core.Path.{◌≡◌, refl, sym, ap, ap₂, ◌∙◌}
use mathlib.Core.Logic.{◌⊎◌}
use mathlib.Core.List.{List, [], ◌∷◌, ◌++◌, append_assoc}
use Prim.Native.Nat.{ℕ, zero, suc, ◌+◌, ◌*◌, ◌^◌, ◌<◌, ◌≤◌}
use native.Mathlib.Omega.{arith}
use native.Mathlib.Nat.{zero-mul, zero-add, add-zero, add-mul, div-eq_of_lt}
use lib.ListN.{length, get_or, replicate, length-append, length-replicate}
use lib.Seq.{take_at, take_all}
use Rattle.octets.specs.Places.{part}
use Rattle.octets.specs.Numbers.{number, bytes_of, Digits}
use Rattle.octets.specs.Crc.{crc, with_crc}
use Rattle.octets.proofs.PlaceLaws.{length_part, part_bytes, part_split, part_behind}
use Rattle.octets.proofs.NumberLaws.{pow_some, worth_append, length_digits, digits_at, number_bytes, bytes_part, number_below}
use Rattle.octets.proofs.Tabulate.{same}
use Rattle.octets.proofs.CrcLaws.{crc_checked, crc_only}
use Rattle.packets.specs.Time.{when_number, when_of, preamble_of, time_packet_of, octet_bits, preamble_bits, added_seconds, added_fraction, time_at, read_time}
use Rattle.packets.specs.declared.reading.End.{End}
use Rattle.packets.specs.declared.reading.End.TheVariants.{Eop}
use Rattle.packets.specs.declared.time.Time.{Time as TheTime}
use Rattle.packets.specs.declared.time.When.{When}
use Rattle.packets.specs.declared.time.When.TheVariants.{AtWrap, AtOnce}
use Rattle.packets.proofs.TimeLaws.{Passed, passed_time, when_back, when_told}

-- ---- the second octet: its five fields are all of its bits, each once

pub octet_fields : (o : ℕ) → o < 256
    → octet_bits 0 0 o * 2 ^ 7 + octet_bits 1 2 o * 2 ^ 5 + octet_bits 3 5 o * 2 ^ 2 + octet_bits 6 6 o * 2 + octet_bits 7 7 o ≡ o
octet_fields =
    same (λ o. octet_bits 0 0 o * 2 ^ 7 + octet_bits 1 2 o * 2 ^ 5 + octet_bits 3 5 o * 2 ^ 2 + octet_bits 6 6 o * 2 + octet_bits 7 7 o) (λ o. o) 256 refl

-- ---- bytes that are worth nothing

zeros_worth : (k : ℕ) → number (replicate k 0) ≡ 0
zeros_worth zero = refl
zeros_worth (suc k) = simp (zero-mul, zero-add) (zeros_worth k)

bytes_of_nothing : (k : ℕ) → bytes_of k 0 ≡ replicate k 0
bytes_of_nothing zero = refl
bytes_of_nothing (suc k) = rw (div-eq_of_lt (pow_some 256 (omega arith) k)) (ap (λ (l : List ℕ). 0 ∷ l) (bytes_of_nothing k))

-- ---- from parts to bytes and back

when_small : (w : When) → when_number w < 2
when_small AtWrap = omega arith
when_small AtOnce = omega arith

module _ (address n : ℕ) (t : TheTime) (zeros : ℕ) (cut : List ℕ) (few : zeros < 4) (fewer : length cut < 8) where
  -- the second octet says what was added
  seconds_back : added_seconds (time_packet_of address n t zeros cut) ≡ zeros
  unfolding time_packet_of
  seconds_back = omega (arith, when_small t.when)

  fraction_back : added_fraction (time_packet_of address n t zeros cut) ≡ length cut
  unfolding time_packet_of
  fraction_back = omega (arith, when_small t.when)

  -- what stands before T, and what stands behind it
  abbrev front : List ℕ
  front = address ∷ n ∷ t.epoch ∷ preamble_of zeros (length cut) t.when ∷ replicate zeros 0

  abbrev rear : List ℕ
  rear = cut ++ (crc (front ++ bytes_of 7 t.value ++ cut) ∷ [])

  shape : time_packet_of address n t zeros cut ≡ front ++ (bytes_of 7 t.value ++ rear)
  unfolding time_packet_of
  shape =
      append_assoc (front ++ bytes_of 7 t.value) cut (crc (front ++ bytes_of 7 t.value ++ cut) ∷ []) ∙ append_assoc front (bytes_of 7 t.value) rear

  zeros_there : part 4 zeros (time_packet_of address n t zeros cut) ≡ replicate zeros 0
  zeros_there = ap (part 4 zeros) shape ∙ take_at (replicate zeros 0) (bytes_of 7 t.value ++ rear) zeros (length-replicate zeros 0)

  value_there : part (4 + zeros) 7 (time_packet_of address n t zeros cut) ≡ bytes_of 7 t.value
  value_there =
      let none : ℕ = 0 in
      let l : length front ≡ 4 + zeros = omega (arith, length-replicate zeros none) in
      ap (part (4 + zeros) 7) shape
      ∙ ap (λ (k : ℕ). part k 7 (front ++ (bytes_of 7 t.value ++ rear))) (sym (add-zero (4 + zeros)))
      ∙ part_behind front (bytes_of 7 t.value ++ rear) (4 + zeros) 0 7 l

  -- a time packet made of parts is taken, and what it says is the time that it was made of
  module _ (logical : ℕ) (addressed : (address ≡ logical) ⊎ (address ≡ 0xFE)) (known : (t.epoch ≡ 0x9F) ⊎ (t.epoch ≡ 0xAF)) where
    passed_made : Passed (time_packet_of address n t zeros cut) Eop logical n
    unfolding time_packet_of
    passed_made = record {
      size = rw (seconds_back, fraction_back) (simp (length-append, length-replicate, length_digits) (omega arith));
      eop = refl;
      address = addressed;
      protocol = refl;
      epoch = known;
      bit_0 = omega (arith, when_small t.when);
      bit_6 = omega (arith, when_small t.when);
      nothing = rw seconds_back (ap number zeros_there ∙ zeros_worth zeros);
      sum = crc_checked (front ++ bytes_of 7 t.value ++ cut);
    }

    when_made : (time_at (time_packet_of address n t zeros cut)).when ≡ t.when
    unfolding time_packet_of
    when_made =
        let bit : preamble_bits 7 7 (time_packet_of address n t zeros cut) ≡ when_number t.when = omega (arith, when_small t.when) in
        ap when_of bit ∙ when_back t.when

    pub time_read : t.value < 256 ^ 7 → read_time (time_packet_of address n t zeros cut) Eop logical n ≡ Some t
    unfolding read_time time_packet_of
    time_read small =
        rw (passed_time (time_packet_of address n t zeros cut) Eop logical n passed_made, when_made, seconds_back, value_there, number_bytes 7 t.value small)

-- ---- from bytes to parts and back

module _ (p : List ℕ) (bytes : Digits 256 p) (end : End) (logical n : ℕ) (passed : Passed p end logical n) where
  abbrev at : ℕ
  at = 4 + added_seconds p

  abbrev cut : List ℕ
  cut = part (at + 7) (added_fraction p) p

  pub length_cut : length cut ≡ added_fraction p
  length_cut = length_part (at + 7) (added_fraction p) p (omega (arith, passed.size))

  -- piece by piece
  front_made : part 0 4 p ≡ get_or p 0 0 ∷ n ∷ get_or p 2 0 ∷ preamble_of (added_seconds p) (length cut) (time_at p).when ∷ []
  front_made =
      let octet : get_or p 3 0 ≡ preamble_of (added_seconds p) (length cut) (time_at p).when =
      omega (arith, octet_fields (get_or p 3 0) (digits_at 256 p 3 (omega arith) bytes), passed.bit_0, passed.bit_6, length_cut, when_told p) in
      part_bytes 0 3 p (omega (arith, passed.size)) ∙ ap₂ (λ (a b : ℕ). get_or p 0 0 ∷ a ∷ get_or p 2 0 ∷ b ∷ []) passed.protocol octet

  zeros_made : part 4 (added_seconds p) p ≡ replicate (added_seconds p) 0
  zeros_made =
      sym (bytes_part p 4 (added_seconds p) bytes (omega (arith, passed.size))) ∙ ap (bytes_of (added_seconds p)) passed.nothing ∙ bytes_of_nothing (added_seconds p)

  value_made : part at 7 p ≡ bytes_of 7 (time_at p).value
  value_made = sym (bytes_part p at 7 bytes (omega (arith, passed.size)))

  body_made : part 0 (at + 7 + added_fraction p) p
      ≡ (get_or p 0 0 ∷ n ∷ get_or p 2 0 ∷ preamble_of (added_seconds p) (length cut) (time_at p).when ∷ []) ++ replicate (added_seconds p) 0 ++ bytes_of 7 (time_at p).value ++ cut
  body_made =
      part_split 0 (at + 7) (added_fraction p) (at + 7) p (zero-add (at + 7))
      ∙ ap (λ (l : List ℕ). l ++ cut) (part_split 0 at 7 at p (zero-add at)
      ∙ ap₂ (λ (l m : List ℕ). l ++ m) (part_split 0 4 (added_seconds p) 4 p refl ∙ ap₂ (λ (l m : List ℕ). l ++ m) front_made zeros_made) value_made)

  -- what has passed is the time packet made of what it says
  pub passed_is_made : p ≡ time_packet_of (get_or p 0 0) n (time_at p) (added_seconds p) cut
  unfolding time_packet_of
  passed_is_made =
      let m = at + 7 + added_fraction p in
      let b = part 0 m p in
      let k = get_or p m 0 in
      let whole : p ≡ b ++ (k ∷ []) =
      sym (take_all (m + 1) p (omega (arith, passed.size))) ∙ part_split 0 m 1 m p (zero-add m) ∙ ap (λ (l : List ℕ). b ++ l) (part_bytes m 0 p (omega (arith, passed.size))) in
      let own : k ≡ crc b = crc_only b k (digits_at 256 p m (omega arith) bytes) (sym (ap crc whole) ∙ passed.sum) in
      whole ∙ ap (λ (j : ℕ). b ++ (j ∷ [])) own ∙ ap with_crc body_made

  -- ---- the time that was sent: all octets between the preamble and the CRC, as one number

  -- it is T with the octets that are cut off, which are less than one of its ticks
  pub sent_is : number (part 4 (added_seconds p + 7 + added_fraction p) p) ≡ (time_at p).value * 256 ^ added_fraction p + number cut
  sent_is =
      let seven : length (part at 7 p) ≡ 7 = length_part at 7 p (omega (arith, passed.size)) in
      ap number (part_split 4 (added_seconds p + 7) (added_fraction p) (at + 7) p (omega arith))
      ∙ worth_append 256 (part 4 (added_seconds p + 7) p) cut
      ∙ ap₂ (λ (m k : ℕ). m * 256 ^ k + number cut)
      (ap number (part_split 4 (added_seconds p) 7 at p refl) ∙ worth_append 256 (part 4 (added_seconds p) p) (part at 7 p) ∙ rw passed.nothing (simp (zero-mul, zero-add))) length_cut

  pub cut_below : number cut < 256 ^ added_fraction p
  cut_below = number_below p (at + 7) (added_fraction p) bytes (omega (arith, passed.size))

  -- so T is the greatest tick that is not after it
  pub tick_not_after : (time_at p).value * 256 ^ added_fraction p ≤ number (part 4 (added_seconds p + 7 + added_fraction p) p)
  tick_not_after = omega (arith, sent_is)

  pub next_tick_after : number (part 4 (added_seconds p + 7 + added_fraction p) p) < ((time_at p).value + 1) * 256 ^ added_fraction p
  next_tick_after = omega (arith, sent_is, cut_below, add-mul (time_at p).value 1 (256 ^ added_fraction p))
