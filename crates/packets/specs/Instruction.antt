-- The instruction byte (document 01, 'Reading a packet'; 001, 5.1.4).
use Rattle.std.specs.Prelude.{Bool, true, false, cond, ◌||◌, ℕ, ◌+◌, ◌*◌, ◌/◌, ◌%◌, ◌^◌, eqb, leb}
use Rattle.packets.specs.declared.instruction.Instruction.{Instruction}
use Rattle.packets.specs.declared.instruction.Kind.{Kind}
use Rattle.packets.specs.declared.instruction.Kind.TheVariants.{Unused, Read, ReadModifyWrite, Write}

-- Bits 7-6 are the type: 00 reply, 01 command, the rest unused.
abbrev pub type_of : Instruction → ℕ
type_of i = i.byte / 2 ^ 6

-- Whether bit n of the byte is set.
abbrev pub bit : ℕ → Instruction → Bool
bit n i = eqb (i.byte / 2 ^ n % 2) 1

-- Bit 5 write, 4 verify, 3 reply wanted, 2 incrementing.
abbrev pub is_write : Instruction → Bool
is_write i = bit 5 i

abbrev pub is_verified : Instruction → Bool
is_verified i = bit 4 i

abbrev pub wants_reply : Instruction → Bool
wants_reply i = bit 3 i

abbrev pub is_incrementing : Instruction → Bool
is_incrementing i = bit 2 i

-- Bits 1-0 are r.
abbrev pub r_of : Instruction → ℕ
r_of i = i.byte % 2 ^ 2

-- Bits 5 to 2 are the command code.
abbrev pub code_of : Instruction → ℕ
code_of i = i.byte % 2 ^ 6 / 2 ^ 2

-- Codes 0010 and 0011 read; 0111 read-modify-write; 1000 to 1111 write; the other five unused.
unfoldable pub kind_of : ℕ → Kind
kind_of code =
    cond (eqb code 0b0010 || eqb code 0b0011) Read
    (cond (eqb code 0b0111) ReadModifyWrite (cond (leb 0b1000 code) Write Unused))

-- Which of the four it is; a write is none of these.
abbrev pub is_unused : Kind → Bool
is_unused Unused = true
is_unused Read = false
is_unused ReadModifyWrite = false
is_unused Write = false

abbrev pub is_read : Kind → Bool
is_read Unused = false
is_read Read = true
is_read ReadModifyWrite = false
is_read Write = false

abbrev pub is_rmw : Kind → Bool
is_rmw Unused = false
is_rmw Read = false
is_rmw ReadModifyWrite = true
is_rmw Write = false

-- The reply address has 4r bytes, and the header 16 + 4r.
abbrev pub reply_address_size : Instruction → ℕ
reply_address_size i = 4 * r_of i

abbrev pub header_size : Instruction → ℕ
header_size i = 16 + reply_address_size i

-- The reply's instruction: the command's with type 00.
abbrev pub reply_form : Instruction → Instruction
reply_form i = record { byte = i.byte % 2 ^ 6 }
