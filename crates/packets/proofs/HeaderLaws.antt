-- Laws of the header: reading gives back the parts that a header was made of, and what was read is the header of its parts.
use mathlib.Core.Path.{◌≡◌, refl, sym, ap, ◌∙◌}
use mathlib.Core.Logic.{◌⊎◌}
use mathlib.Core.List.{List, [], ◌∷◌, ◌++◌, append_assoc}
use Prim.Native.Nat.{ℕ, ◌+◌, ◌-◌, ◌^◌, ◌<◌, ◌≤◌}
use native.Mathlib.Omega.{arith}
use lib.ListN.{length, get_or, take, drop, length-append}
use lib.Seq.{take_at, get_or_at}
use Rattle.octets.specs.Places.{part}
use Rattle.octets.specs.Numbers.{Digits}
use Rattle.octets.specs.Crc.{crc, with_crc}
use Rattle.octets.proofs.PlaceLaws.{part_bytes, part_behind, part_at_behind, part_split, part_first}
use Rattle.octets.proofs.NumberLaws.{number_bytes, bytes_part, digits_at}
use Rattle.octets.proofs.CrcLaws.{crc_checked, crc_only}
use Rattle.packets.specs.Instruction.{type_of, reply_address_size, header_size}
use Rattle.packets.specs.Path.{kept}
use Rattle.packets.specs.Header.{front_of, rear_of, header_of, parts_at}
use Rattle.packets.specs.Reading.{command, read_command, read_packet}
use Rattle.packets.specs.declared.header.Header.{Header}
use Rattle.packets.specs.declared.reading.Command.{Command as TheCommand}
use Rattle.packets.specs.declared.reading.Packet.TheVariants.{Command}
use Rattle.std.specs.Prelude.{Ok}
use Rattle.packets.proofs.ReadingLaws.{read_whole, protocol_command, packet_protocol}

-- ---- the numbers of a header, byte by byte from their places

module _ (p : List ℕ) (at : ℕ) (whole : at + 12 ≤ length p) where
  pub transaction_bytes : part (at + 1) 2 p ≡ get_or p (at + 1) 0 ∷ get_or p (at + 1 + 1) 0 ∷ []
  transaction_bytes = part_bytes (at + 1) 1 p (omega arith)

  pub address_bytes : part (at + 4) 4 p ≡ get_or p (at + 4) 0 ∷ get_or p (at + 4 + 1) 0 ∷ get_or p (at + 4 + 2) 0 ∷ get_or p (at + 4 + 3) 0 ∷ []
  address_bytes = part_bytes (at + 4) 3 p (omega arith)

  pub length_bytes : part (at + 8) 3 p ≡ get_or p (at + 8) 0 ∷ get_or p (at + 8 + 1) 0 ∷ get_or p (at + 8 + 2) 0 ∷ []
  length_bytes = part_bytes (at + 8) 2 p (omega arith)

-- ---- from parts to bytes and back

-- the numbers of a header, as a struct of u16, u32 and three bytes holds them
pub record Sized (h : Header) (a : List ℕ) : Type 0 where
  pub reply : length a ≡ reply_address_size h.instruction
  pub transaction : h.transaction < 256 ^ 2
  pub address : h.address < 256 ^ 4
  pub size : h.length < 256 ^ 3

module _ (h : Header) (a : List ℕ) (s : Sized h a) where
  -- the parts, whatever follows
  parts_back : (y : List ℕ) → parts_at (front_of h ++ a ++ (rear_of h ++ y)) (4 + reply_address_size h.instruction) ≡ h
  parts_back y =
      let x = front_of h ++ a in
      let at = 4 + reply_address_size h.instruction in
      let z = rear_of h ++ y in
      let l : length x ≡ at = simp length-append (omega (arith, s.reply)) in
      rw (
        get_or_at x h.initiator (drop 1 z) 0 at l,
        part_behind x z at 1 2 l,
        part_at_behind x z at 3 l,
        part_behind x z at 4 4 l,
        part_behind x z at 8 3 l,
        number_bytes 2 h.transaction s.transaction,
        number_bytes 4 h.address s.address,
        number_bytes 3 h.length s.size,
      )

  command_back : (y : List ℕ) → command (front_of h ++ a ++ (rear_of h ++ y)) ≡ record { header = h; path = kept a }
  command_back y = rw (parts_back y, take_at a (rear_of h ++ y) (reply_address_size h.instruction) s.reply)

  length_header : length (header_of h a) ≡ header_size h.instruction
  unfolding header_of
  length_header = simp length-append (omega (arith, s.reply))

  -- a command made of parts is read with the same parts, and with the path of its reply address, whatever follows its header
  pub header_read : (type_of h.instruction ≡ 0 → ⊥) → (y : List ℕ)
      → read_command (header_of h a ++ y) ≡ Ok (Command (record { header = h; path = kept a }))
  unfolding header_of
  header_read is-command y =
      let b = front_of h ++ a ++ rear_of h in
      let p = header_of h a ++ y in
      let whole : header_size h.instruction ≤ length p = simp length-append (omega (arith, s.reply)) in
      let sum : crc (take (header_size h.instruction) p) ≡ 0 =
      ap crc (take_at (header_of h a) y (header_size h.instruction) length_header) ∙ crc_checked b in
      let tail = crc b ∷ y in
      let shape : p ≡ front_of h ++ a ++ (rear_of h ++ tail) =
      append_assoc b (crc b ∷ []) y ∙ append_assoc (front_of h ++ a) (rear_of h) tail in
      sym (read_whole p (omega arith) is-command whole sum) ∙ ap (λ (c : TheCommand). Ok (Command c)) (ap command shape ∙ command_back tail)

  -- and so is a packet that begins with it, whatever the time number
  pub packet_read : (type_of h.instruction ≡ 0 → ⊥) → (h.protocol ≡ 0x01) ⊎ (h.protocol ≡ 0x03) → (y : List ℕ) (n : ℕ)
      → read_packet (header_of h a ++ y) n ≡ Ok (Command (record { header = h; path = kept a }))
  unfolding header_of
  packet_read is-command protocol y n =
      let p = header_of h a ++ y in
      sym (packet_protocol p n (omega arith)) ∙ sym (protocol_command h.protocol p n protocol) ∙ header_read is-command y

-- ---- from bytes to parts and back

rear_of_law : {b c d b' c' d' : List ℕ} (x y : ℕ) → b ≡ b' → c ≡ c' → d ≡ d' → (x ∷ b) ++ (y ∷ c) ++ d ≡ (x ∷ b') ++ (y ∷ c') ++ d'
rear_of_law x y e f g = rw (e, f, g)

module _ (p : List ℕ) (bytes : Digits 256 p) (at : ℕ) (four : 4 ≤ at) (whole : at + 12 ≤ length p) where
  front_parts : front_of (parts_at p at) ≡ part 0 4 p
  front_parts = sym (part_bytes 0 3 p (omega arith))

  rear_parts : rear_of (parts_at p at) ≡ part at 11 p
  rear_parts =
      rear_of_law (get_or p at 0) (get_or p (at + 3) 0)
      (bytes_part p (at + 1) 2 bytes (omega arith))
      (bytes_part p (at + 4) 4 bytes (omega arith))
      (bytes_part p (at + 8) 3 bytes (omega arith))
      ∙ sym (part_split at 8 3 (at + 8) p refl
      ∙ ap (λ (l : List ℕ). l ++ part (at + 8) 3 p) (part_split at 3 5 (at + 3) p refl)
      ∙ ap (λ (l : List ℕ). l ++ part (at + 3) 5 p ++ part (at + 8) 3 p) (part_first at 2 (at + 1) p refl (omega arith))
      ∙ ap (λ (l : List ℕ). (get_or p at 0 ∷ part (at + 1) 2 p) ++ l ++ part (at + 8) 3 p) (part_first (at + 3) 4 (at + 4) p (omega arith) (omega arith)))

  body_parts : front_of (parts_at p at) ++ part 4 (at - 4) p ++ rear_of (parts_at p at) ≡ part 0 (at + 11) p
  body_parts =
      let e : 4 + (at - 4) ≡ at = omega arith in
      let a = part 4 (at - 4) p in
      ap (λ (l : List ℕ). l ++ a ++ rear_of (parts_at p at)) front_parts
      ∙ ap (λ (l : List ℕ). part 0 4 p ++ a ++ l) rear_parts
      ∙ (sym (part_split 0 at 11 at p (omega arith) ∙ ap (λ (l : List ℕ). l ++ part at 11 p) (ap (λ (k : ℕ). part 0 k p) (sym e) ∙ part_split 0 4 (at - 4) 4 p refl)))

  -- what ends in its own CRC is the header of its parts and its reply address
  pub parts_header : crc (part 0 (at + 12) p) ≡ 0 → header_of (parts_at p at) (part 4 (at - 4) p) ≡ part 0 (at + 12) p
  unfolding header_of
  parts_header sum =
      let k = get_or p (at + 11) 0 in
      let b = part 0 (at + 11) p in
      let next : at + 12 ≡ at + 11 + 1 = omega arith in
      let e : part 0 (at + 12) p ≡ b ++ (k ∷ []) =
      ap (λ (n : ℕ). part 0 n p) next ∙ part_split 0 (at + 11) 1 (at + 11) p (omega arith)
      ∙ ap (λ (l : List ℕ). b ++ l) (part_bytes (at + 11) 0 p (omega arith)) in
      let own : k ≡ crc b = crc_only b k (digits_at 256 p (at + 11) (omega arith) bytes) (sym (ap crc e) ∙ sum) in
      ap with_crc body_parts ∙ ap (λ (n : ℕ). b ++ (n ∷ [])) (sym own) ∙ sym e
