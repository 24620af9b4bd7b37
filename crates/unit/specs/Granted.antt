-- What the functions inside ask of each other. No promise of a public function speaks of it, and no sentence of document 01 stands here.
use Rattle.std.specs.Prelude.{◌≡◌, ℕ, ◌+◌, ◌^◌, ◌≤◌, min, true}
use Rattle.packets.specs.Reply.{carries_data, reply_fits}
use Rattle.packets.specs.declared.instruction.Kind.{Kind}
use Rattle.packets.specs.declared.instruction.Kind.TheVariants.{Unused, Read, ReadModifyWrite, Write}
use Rattle.packets.specs.declared.header.Header.{Header}
use Rattle.packets.specs.declared.path.Path.{Path}
use Rattle.unit.specs.Fate.{byte_of, fate_number}
use Rattle.unit.specs.Fields.{field_of}
use Rattle.unit.specs.declared.judging.Ruling.{Ruling}
use Rattle.unit.specs.declared.judging.Ruling.TheVariants.{Ends, SetsTime, Planned}
use Rattle.unit.specs.declared.decide.Action.{Action}
use Rattle.unit.specs.declared.decide.Action.TheVariants.{Nothing, ReadMemory, RepeatByte, Store, StoreLast, Combine, ReadFields, Swap, WriteField}
use Rattle.unit.specs.declared.decide.Plan.{Plan}
use Rattle.unit.specs.declared.calls.Lent.{Lent as TheLent}

-- In a packet of n bytes the words are there that a swap or a write to a field reads, from the place `from` on.
abbrev pub WordsThere : Kind → ℕ → ℕ → Type 0
WordsThere Unused from n = Unit
WordsThere Read from n = Unit
WordsThere ReadModifyWrite from n = from + 8 ≤ n
WordsThere Write from n = from + 4 ≤ n

-- The places that an action reads for its reply are there, in a memory of m bytes.
abbrev pub Readable : Action → ℕ → Type 0
Readable Nothing m = Unit
Readable (ReadMemory at count) m = at + count ≤ m
Readable (RepeatByte at count) m = at + min count 1 ≤ m
Readable (Store at from count) m = Unit
Readable (StoreLast at from count) m = Unit
Readable (Combine at from count) m = at + count ≤ m
Readable (ReadFields address count) m = (count ≤ 16) × (field_of address + count ≤ 2 ^ 14)
Readable (Swap new expected) m = Unit
Readable (WriteField address word) m = Unit

-- The places that an action stores to are there, and those of the packet, of p bytes, that it stores. A read-modify-write has at most four bytes.
abbrev pub Storable : Action → ℕ → ℕ → Type 0
Storable Nothing p m = Unit
Storable (ReadMemory at count) p m = Unit
Storable (RepeatByte at count) p m = Unit
Storable (Store at from count) p m = (at + count ≤ m) × (from + count ≤ p)
Storable (StoreLast at from count) p m = (at + min count 1 ≤ m) × (from + count ≤ p)
Storable (Combine at from count) p m = (at + count ≤ m) × (from + count + count ≤ p) × (count ≤ 4)
Storable (ReadFields address count) p m = Unit
Storable (Swap new expected) p m = Unit
Storable (WriteField address word) p m = Unit

abbrev pub Granted : Action → ℕ → ℕ → Type 0
Granted a p m = Readable a m × Storable a p m

-- The reply, with that status, carries `count` bytes, and has room with them in a buffer of r bytes.
abbrev pub Gatherable : ℕ → Header → Path → ℕ → ℕ → Type 0
Gatherable count h path status r = (carries_data h status ≡ true) × (reply_fits path h status count r ≡ true)

-- The bytes that an action gathers into the reply are carried by it, and have room.
abbrev pub Answerable : Action → Header → Path → ℕ → ℕ → Type 0
Answerable Nothing h path status r = Unit
Answerable (ReadMemory at count) h path status r = Gatherable count h path status r
Answerable (RepeatByte at count) h path status r = Unit
Answerable (Store at from count) h path status r = Unit
Answerable (StoreLast at from count) h path status r = Unit
Answerable (Combine at from count) h path status r = Gatherable count h path status r
Answerable (ReadFields address count) h path status r = Unit
Answerable (Swap new expected) h path status r = Unit
Answerable (WriteField address word) h path status r = Unit

-- All of that, of a plan; what the reply asks, only with fate 20, where one is written.
abbrev pub GrantedTo : Plan → Header → Path → ℕ → ℕ → ℕ → Type 0
GrantedTo plan h path p m r =
    Granted plan.action p m × (fate_number plan.fate ≡ 20 → Answerable plan.action h path (byte_of plan.status) r)

-- The same of what a ruling has planned.
abbrev pub GrantedBy : Ruling → ℕ → ℕ → ℕ → Type 0
GrantedBy (Ends fate) p m r = Unit
GrantedBy (SetsTime t) p m r = Unit
GrantedBy (Planned c plan) p m r = GrantedTo plan c.header c.path p m r

-- The same memory and reply buffer are lent.
pub record SameLent (l l' : TheLent) : Type 0 where
  pub memory : l'.memory.ghost_name ≡ l.memory.ghost_name
  pub reply : l'.reply.ghost_name ≡ l.reply.ghost_name
