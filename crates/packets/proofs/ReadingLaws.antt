-- Laws of reading: what a packet is read as, case by case.
use mathlib.Core.Path.{◌≡◌, refl, sym, ◌∙◌, ap}
use mathlib.Core.Bool.{Bool, true, false, cond, ◌&&◌, ◌||◌}
use mathlib.Core.Logic.{◌⊎◌, inl, inr}
use mathlib.Core.List.{List}
use Prim.Native.Nat.{ℕ, ◌+◌, ◌^◌, ◌<◌, ◌≤◌}
use native.Mathlib.Nat.{lt_of_not-le}
use native.Mathlib.Decide.{dec_le}
use native.Mathlib.Omega.{arith}
use borrow.Author.Tests.{lt-ltb, le-ltb, le-leb, lt-leb, eq-eqb, ne_eqb, ltb-false, eqb-true, eqb-false}
use lib.Dec.{eqb, leb, ltb}
use lib.ListN.{length, get_or, take, drop, length-take}
use Rattle.octets.specs.Places.{part}
use Rattle.octets.specs.Crc.{crc}
use Rattle.octets.specs.Numbers.{Digits}
use Rattle.octets.proofs.NumberLaws.{number_below}
use Rattle.packets.specs.Instruction.{type_of, reply_address_size, header_size}
use Rattle.packets.specs.Header.{instruction_at, parts_at}
use Rattle.packets.specs.Path.{path_of}
use Rattle.std.specs.Prelude.{Result, Ok, Err}
use Rattle.packets.specs.Reading.{bare, command, read_command, read_protocol, read_packet, path_read}
use Rattle.packets.specs.declared.instruction.Instruction.{Instruction}
use Rattle.packets.specs.declared.path.Path.{Path}
use Rattle.packets.specs.declared.header.Header.{Header}
use Rattle.packets.specs.declared.reading.Command.{Command as TheCommand}
use Rattle.packets.specs.declared.reading.Packet.{Packet}
use Rattle.packets.specs.declared.reading.Packet.TheVariants.{Time, Command}
use Rattle.packets.specs.declared.reading.Refusal.{Refusal}
use Rattle.packets.specs.declared.reading.Refusal.TheVariants.{Incomplete, UnknownProtocol, ExtendedProtocol, Reply, HeaderCrc}
use Rattle.packets.proofs.PathLaws.{path_short}
use Rattle.packets.proofs.BareLaws.{bare_zero, bare_other}

-- ---- the checks of a command, in their order

module _ (p : List ℕ) where
  pub read_short : length p < 3 → Err Incomplete ≡ read_command p
  unfolding read_command
  read_short h = simp (lt-ltb _ _ h)

  module _ (three : 3 ≤ length p) where
    pub read_reply : type_of (instruction_at p) ≡ 0 → Err Reply ≡ read_command p
    unfolding read_command
    read_reply h = simp (le-ltb _ _ three, eq-eqb _ _ h)

    module _ (no-reply : type_of (instruction_at p) ≡ 0 → ⊥) where
      pub read_cut : length p < header_size (instruction_at p) → Err Incomplete ≡ read_command p
      unfolding read_command
      read_cut h = simp (le-ltb _ _ three, ne_eqb _ _ no-reply, lt-ltb _ _ h)

      module _ (whole : header_size (instruction_at p) ≤ length p) where
        pub read_damaged : (crc (take (header_size (instruction_at p)) p) ≡ 0 → ⊥) → Err HeaderCrc ≡ read_command p
        unfolding read_command
        read_damaged h = simp (le-ltb _ _ three, ne_eqb _ _ no-reply, le-ltb _ _ whole, ne_eqb _ _ h)

        pub read_whole : crc (take (header_size (instruction_at p)) p) ≡ 0 → Ok (Command (command p)) ≡ read_command p
        unfolding read_command
        read_whole h = simp (le-ltb _ _ three, ne_eqb _ _ no-reply, le-ltb _ _ whole, eq-eqb _ _ h)

-- ---- the protocol

module _ (q : ℕ) (p : List ℕ) (n : ℕ) where
  pub protocol_extended : q ≡ 0x00 → Err ExtendedProtocol ≡ read_protocol q p n
  unfolding read_protocol
  protocol_extended e = rw e

  pub protocol_command : (q ≡ 0x01) ⊎ (q ≡ 0x03) → read_command p ≡ read_protocol q p n
  unfolding read_protocol
  protocol_command (inl e) = rw e
  protocol_command (inr e) = rw e

  module _ (h : 0xF0 ≤ q) (k : q ≤ 0xFE) where
    other : (m : ℕ) → m < 0xF0 → q ≡ m → ⊥
    other m l e = omega arith

    in_range : read_protocol q p n ≡ cond (eqb q n) (Ok Time) (Err UnknownProtocol)
    unfolding read_protocol
    in_range = rw (
      ne_eqb q 0x01 (other 0x01 (omega arith)),
      ne_eqb q 0x03 (other 0x03 (omega arith)),
      ne_eqb q 0x00 (other 0x00 (omega arith)),
      le-leb 0xF0 q h,
      le-leb q 0xFE k,
    )

    pub protocol_time : q ≡ n → Ok Time ≡ read_protocol q p n
    protocol_time e = rw (in_range, eq-eqb q n e)

    pub protocol_other_number : (q ≡ n → ⊥) → Err UnknownProtocol ≡ read_protocol q p n
    protocol_other_number e = rw (in_range, ne_eqb q n e)

  module _ (x : q ≡ 0x00 → ⊥) (y : q ≡ 0x01 → ⊥) (z : q ≡ 0x03 → ⊥) where
    pub protocol_below : q < 0xF0 → Err UnknownProtocol ≡ read_protocol q p n
    unfolding read_protocol
    protocol_below h = rw (ne_eqb q 0x01 y, ne_eqb q 0x03 z, ne_eqb q 0x00 x, lt-leb 0xF0 q h)

    pub protocol_above : 0xFE < q → Err UnknownProtocol ≡ read_protocol q p n
    unfolding read_protocol
    protocol_above h = rw (ne_eqb q 0x01 y, ne_eqb q 0x03 z, ne_eqb q 0x00 x, le-leb 0xF0 q (omega arith), lt-leb q 0xFE h)

pub packet_short : (p : List ℕ) (n : ℕ) → length p < 2 → Err Incomplete ≡ read_packet p n
unfolding read_packet
packet_short p n h = rw (lt-ltb _ _ h)

pub packet_protocol : (p : List ℕ) (n : ℕ) → 2 ≤ length p → read_protocol (get_or p 1 0) p n ≡ read_packet p n
unfolding read_packet
packet_protocol p n h = rw (le-ltb _ _ h)

-- so by its second byte: the time number, or none of those that are known
module _ (p : List ℕ) (n : ℕ) (two : 2 ≤ length p) where
  abbrev second : ℕ
  second = get_or p 1 0

  pub packet_time : 0xF0 ≤ n → n ≤ 0xFE → second ≡ n → read_packet p n ≡ Ok Time
  packet_time low high e =
      sym (packet_protocol p n two) ∙ sym (protocol_time second p n (omega (arith, low, e)) (omega (arith, high, e)) e)

  pub packet_unknown : (second ≡ 0x00 → ⊥) → (second ≡ 0x01 → ⊥) → (second ≡ 0x03 → ⊥) → (second ≡ n → ⊥) → read_packet p n ≡ Err UnknownProtocol
  packet_unknown x y z other = sym (packet_protocol p n two) ∙ go (dec_le 0xF0 second) (dec_le second 0xFE)
    where
      go : Dec (0xF0 ≤ second) → Dec (second ≤ 0xFE) → read_protocol second p n ≡ Err UnknownProtocol
      go (no h) k = sym (protocol_below second p n x y z (lt_of_not-le h))
      go (yes h) (no k) = sym (protocol_above second p n x y z (lt_of_not-le k))
      go (yes h) (yes k) = sym (protocol_other_number second p n h k other)

-- ---- back from a packet that was read as a command: what the checks have shown

abbrev rank : Result Packet Refusal → ℕ
rank (Err why) = 0
rank (Ok Time) = 1
rank (Ok (Command c)) = 2

-- what is read as something else is no command
pub not_command : {c : TheCommand} (r : Result Packet Refusal) → rank r < 2 → r ≡ Ok (Command c) → ⊥
not_command r l e = omega (arith, l, ap rank e)

one_of_two : (q : ℕ) → (eqb q 0x01 || eqb q 0x03) ≡ true → (q ≡ 0x01) ⊎ (q ≡ 0x03)
one_of_two q e = go (eqb q 0x01) refl
  where
    go : (t : Bool) → eqb q 0x01 ≡ t → (q ≡ 0x01) ⊎ (q ≡ 0x03)
    go true f = inl (eqb-true q 0x01 f)
    go false f = inr (eqb-true q 0x03 (rw f at e))

abbrev command_or : TheCommand → Result Packet Refusal → TheCommand
command_or d (Err why) = d
command_or d (Ok Time) = d
command_or d (Ok (Command c)) = c

-- of four tests in a row, each of which refuses, none did
module _ {c : TheCommand} where
  passed : (a b c' d : Bool) (r s t u : Refusal) (p : Result Packet Refusal)
      → cond a (Err r) (cond b (Err s) (cond c' (Err t) (cond d p (Err u)))) ≡ Ok (Command c)
      → (a ≡ false) × (b ≡ false) × (c' ≡ false) × (p ≡ Ok (Command c))
  passed true b c' d r s t u p e = absurd (not_command (Err r) (omega arith) e)
  passed false true c' d r s t u p e = absurd (not_command (Err s) (omega arith) e)
  passed false false true d r s t u p e = absurd (not_command (Err t) (omega arith) e)
  passed false false false true r s t u p e = (refl, refl, refl, e)
  passed false false false false r s t u p e = absurd (not_command (Err u) (omega arith) e)

  protocol_passed : (a b c' d : Bool) (r s t : Refusal) (p : Result Packet Refusal)
      → cond a (Err r) (cond b p (cond c' (Err s) (cond d (Ok Time) (Err t)))) ≡ Ok (Command c)
      → (b ≡ true) × (p ≡ Ok (Command c))
  protocol_passed true b c' d r s t p e = absurd (not_command (Err r) (omega arith) e)
  protocol_passed false true c' d r s t p e = (refl, e)
  protocol_passed false false true d r s t p e = absurd (not_command (Err s) (omega arith) e)
  protocol_passed false false false true r s t p e = absurd (not_command (Ok Time) (omega arith) e)
  protocol_passed false false false false r s t p e = absurd (not_command (Err t) (omega arith) e)

  -- it has protocol 01 or 03, and was read by the checks above
  pub packet_command : (p : List ℕ) (n : ℕ) → read_packet p n ≡ Ok (Command c)
      → ((get_or p 1 0 ≡ 0x01) ⊎ (get_or p 1 0 ≡ 0x03)) × (read_command p ≡ Ok (Command c))
  unfolding read_packet read_protocol
  packet_command p n e =
      let q = get_or p 1 0 in
      let t = protocol_passed (ltb (length p) 2) (eqb q 0x01 || eqb q 0x03) (eqb q 0x00) (leb 0xF0 q && leb q 0xFE && eqb q n)
      Incomplete ExtendedProtocol UnknownProtocol (read_command p) e in
      (one_of_two q t.0, t.1)

  -- its header is whole, it is no reply, and its parts and its path are those at their places
  pub command_read : (p : List ℕ) → read_command p ≡ Ok (Command c)
      → (header_size (instruction_at p) ≤ length p) × (type_of (instruction_at p) ≡ 0 → ⊥) × (command p ≡ c)
  unfolding read_command
  command_read p e =
      let i = instruction_at p in
      let t = passed (ltb (length p) 3) (eqb (type_of i) 0) (ltb (length p) (header_size i)) (eqb (crc (take (header_size i) p)) 0)
      Incomplete Reply Incomplete HeaderCrc (Ok (Command (command p))) e in
      (ltb-false (length p) (header_size i) t.2, eqb-false (type_of i) 0 t.1, ap (command_or c) t.3)

-- ---- a packet that was read as a command is that one command

-- with the path that was read
pub with_path : (r : Result Packet Refusal) (c : TheCommand) → r ≡ Ok (Command c) → r ≡ Ok (Command (record { header = c.header; path = path_read r }))
with_path r c e = e ∙ ap (λ (k : Path). Ok (Command (record { header = c.header; path = k }))) (sym (ap path_read e))

-- the same of its header alone
pub one_command : (r : Result Packet Refusal) (h k : Header) {a b : Path}
    → r ≡ Ok (Command (record { header = h; path = a })) → r ≡ Ok (Command (record { header = k; path = b })) → k ≡ h
one_command r h k {a} {b} e f =
    let c : TheCommand = record { header = h; path = a } in
    ap (λ (x : Result Packet Refusal). (command_or c x).header) (sym f ∙ e)

module _ (p : List ℕ) (n : ℕ) (h : Header) {k : Path} (is : read_packet p n ≡ Ok (Command (record { header = h; path = k }))) where
  shown : (header_size (instruction_at p) ≤ length p) × (type_of (instruction_at p) ≡ 0 → ⊥) × (command p ≡ record { header = h; path = k })
  shown = command_read p (packet_command p n is).1

  parts_read : parts_at p (4 + reply_address_size (instruction_at p)) ≡ h
  parts_read = ap (λ (c : TheCommand). c.header) shown.2

  -- its header has the size that the third byte tells, and is whole
  pub size_read : header_size h.instruction ≡ header_size (instruction_at p)
  size_read = sym (ap (λ (k : Header). header_size k.instruction) parts_read)

  pub header_whole : header_size h.instruction ≤ length p
  header_whole = omega (arith, shown.0, size_read)

  -- its target is the first byte
  pub target_read : h.target ≡ get_or p 0 0
  target_read = sym (ap (λ (k : Header). k.target) parts_read)

  -- its protocol is the second byte, 01 or 03
  pub protocol_read : h.protocol ≡ get_or p 1 0
  protocol_read = sym (ap (λ (k : Header). k.protocol) parts_read)

  pub protocol_other : (h.protocol ≡ 0x01 → ⊥) → h.protocol ≡ 0x03
  protocol_other other = go (packet_command p n is).0
    where
      go : (get_or p 1 0 ≡ 0x01) ⊎ (get_or p 1 0 ≡ 0x03) → h.protocol ≡ 0x03
      go (inl a) = absurd (other (protocol_read ∙ a))
      go (inr b) = protocol_read ∙ b

  -- its L has three bytes
  pub length_below : Digits 256 p → h.length < 256 ^ 3
  length_below d =
      rw (ap (λ (k : Header). k.length) parts_read) at
      (number_below p (4 + reply_address_size (instruction_at p) + 8) 3 d (omega (arith, shown.0)))

-- ---- a packet with protocol 01 or 03 is no time packet

command_no_time : (p : List ℕ) → rank (read_command p) ≡ 1 → ⊥
unfolding read_command
command_no_time p =
    go (ltb (length p) 3) (eqb (type_of i) 0) (ltb (length p) (header_size i)) (eqb (crc (take (header_size i) p)) 0)
  where
    i : Instruction
    i = instruction_at p

    go : (a b c d : Bool) → rank (cond a (Err Incomplete) (cond b (Err Reply) (cond c (Err Incomplete) (cond d (Ok (Command (command p))) (Err HeaderCrc))))) ≡ 1 → ⊥
    go true b c d e = omega (arith, e)
    go false true c d e = omega (arith, e)
    go false false true d e = omega (arith, e)
    go false false false true e = omega (arith, e)
    go false false false false e = omega (arith, e)

pub no_time : (p : List ℕ) (n : ℕ) → (get_or p 1 0 ≡ 0x01) ⊎ (get_or p 1 0 ≡ 0x03) → read_packet p n ≡ Ok Time → ⊥
unfolding read_packet
no_time p n commands e = go (ltb (length p) 2) (rw (← protocol_command (get_or p 1 0) p n commands) at (ap rank e))
  where
    go : (a : Bool) → rank (cond a (Err Incomplete) (read_command p)) ≡ 1 → ⊥
    go true t = omega (arith, t)
    go false t = command_no_time p t

-- so one that is read as a time packet had no zero in front
pub time_bare : (p : List ℕ) (n : ℕ) → read_packet (bare p) n ≡ Ok Time → bare p ≡ p
time_bare p n t = bare_other p (λ q e. no_time (bare p) n (inr (ap (λ (b : List ℕ). get_or b 1 0) (ap bare e ∙ bare_zero q))) t)

-- ---- the path of a packet that was read has at most twelve bytes

abbrev Short : Result Packet Refusal → Type 0
Short k = (path_read k).count ≤ 12

either : (t : Bool) (a b : Result Packet Refusal) → Short a → Short b → Short (cond t a b)
either true a b x y = x
either false a b x y = y

command_path : (p : List ℕ) → Short (Ok (Command (command p)))
command_path p =
    let n = reply_address_size (instruction_at p) in
    path_short (part 4 n p) (omega (arith, length-take n (drop 4 p)))

read_path : (p : List ℕ) → Short (read_command p)
unfolding read_command path_of
read_path p =
    let i = instruction_at p in
    let whole = cond (eqb (crc (take (header_size i) p)) 0) (Ok (Command (command p))) (Err HeaderCrc) in
    let cut = cond (ltb (length p) (header_size i)) (Err Incomplete) whole in
    either (ltb (length p) 3) (Err Incomplete) (cond (eqb (type_of i) 0) (Err Reply) cut) (omega arith)
    (either (eqb (type_of i) 0) (Err Reply) cut (omega arith)
    (either (ltb (length p) (header_size i)) (Err Incomplete) whole (omega arith)
    (either (eqb (crc (take (header_size i) p)) 0) (Ok (Command (command p))) (Err HeaderCrc) (command_path p) (omega arith))))

protocol_path : (q : ℕ) (p : List ℕ) (n : ℕ) → Short (read_protocol q p n)
unfolding read_protocol path_of
protocol_path q p n =
    let time = leb 0xF0 q && leb q 0xFE && eqb q n in
    let other = cond time (Ok Time) (Err UnknownProtocol) in
    either (eqb q 0x01 || eqb q 0x03) (read_command p) (cond (eqb q 0x00) (Err ExtendedProtocol) other) (read_path p)
    (either (eqb q 0x00) (Err ExtendedProtocol) other (omega arith) (either time (Ok Time) (Err UnknownProtocol) (omega arith) (omega arith)))

pub packet_path : (p : List ℕ) (n : ℕ) → (path_read (read_packet p n)).count ≤ 12
unfolding read_packet path_of
packet_path p n =
    either (ltb (length p) 2) (Err Incomplete) (read_protocol (get_or p 1 0) p n) (omega arith) (protocol_path (get_or p 1 0) p n)
