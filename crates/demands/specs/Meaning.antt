-- Demand 2: each packet does what document 01 says, byte by byte.
use Rattle.std.specs.Prelude.{◌≡◌, true, false, ◌&&◌, ◌||◌, ◌⊎◌, ◌≢◌, List, [], ◌∷◌, ℕ, ◌<◌, eqb, length, get_or, Option, Some}
use Rattle.octets.specs.Numbers.{Digits}
use Rattle.packets.specs.Instruction.{is_rmw, is_write, is_verified}
use Rattle.packets.specs.Header.{kind_in}
use Rattle.packets.specs.declared.header.Header.{Header}
use Rattle.unit.specs.Some.{some}
use Rattle.unit.specs.Fate.{Status, fate_status}
use Rattle.unit.specs.Owner.{is_owner}
use Rattle.unit.specs.Fields.{device_id, time_code_counter, divider, missing, row_of, values_of}
use Rattle.unit.specs.Given.{Arrived, as_read, Lent, sizes_of}
use Rattle.unit.specs.Calls.{Outcome, take_packet, take_time_code, take_ticks}
use Rattle.unit.specs.declared.fate.Fate.TheVariants.{Replied}
use Rattle.unit.specs.declared.unit.Unit.{Unit as TheUnit}
use Rattle.unit.specs.Judge.{judged, fate_in, length_in}
use Rattle.unit.proofs.judge.Reads.{Learnt as promise-of-judge}
use Rattle.unit.proofs.take_packet.Reads.{Learnt as promise-of-take_packet}
use Rattle.unit.proofs.take_time_code.Reads.{Learnt as promise-of-take_time_code}
use Rattle.unit.proofs.take_ticks.Reads.{Learnt as promise-of-take_ticks}
use Rattle.demands.specs.Terminal.{Terminal, IsCommand, path_in}
use Rattle.demands.specs.ReplyDue.{ReplyBytes}

-- ---- byte by byte

-- The demand itself is this equation, for every unit, whatever arrives and whatever is lent: unit, fate with its status, length of the reply,
-- memory and reply buffer are those that the definitions give. Of our own terminal it says nothing more than that, since ours is those
-- definitions; that the code is ours is said next.
abbrev pub ByteByByte : Terminal → Type 0
ByteByByte t =
    ((u : TheUnit) (p : Arrived) (lent : Lent) → t.packet u p lent ≡ take_packet u p lent)
    × ((u : TheUnit) (byte : ℕ) → t.time_code u byte ≡ take_time_code u byte)
    × ((u : TheUnit) (count : ℕ) → t.ticks u count ≡ take_ticks u count)

-- The promise of a function, as the checker makes it of the function's own `ensures`, is a claim on lifetimes κs, the row of its arguments, its result,
-- and the row of what the arguments are at exit ('). What the promise of `take_packet` claims is this: result, memory and reply buffer are those of the
-- definition.
abbrev pub PacketPromise : Type 0
PacketPromise =
    (κs : _) (unit : _) (bytes : _) (end : _) (link : _) (memory : _) (reply : _)
    (answer : _) (unit' : _) (bytes' : _) (end' : _) (link' : _) (memory' : _) (reply' : _)
    → promise-of-take_packet κs (unit, (bytes, (end, (link, (memory, (reply, tt)))))) answer (unit', (bytes', (end', (link', (memory', (reply', tt))))))
    → record { answer = answer; memory = memory'.now; reply = reply'.now }
    ≡ take_packet unit (record { packet = bytes.now; end = end; link = link }) (record { memory = memory.now; reply = reply.now })

abbrev pub TimeCodePromise : Type 0
TimeCodePromise =
    (κs : _) (unit : _) (byte : _) (answer : _) (exit : _) → promise-of-take_time_code κs (unit, (byte, tt)) answer exit → answer ≡ take_time_code unit byte

abbrev pub TicksPromise : Type 0
TicksPromise =
    (κs : _) (unit : _) (count : _) (answer : _) (exit : _) → promise-of-take_ticks κs (unit, (count, tt)) answer exit → answer ≡ take_ticks unit count

-- What the promise of `judge` claims: what the packet comes to, from the sizes of what would be lent.
abbrev pub JudgePromise : Type 0
JudgePromise =
    (κs : _) (unit : _) (bytes : _) (end : _) (link : _) (sizes : _) (ruling : _) (exit : _)
    → promise-of-judge κs (unit, (bytes, (end, (link, (sizes, tt))))) ruling exit
    → ruling ≡ judged unit (as_read (record { packet = bytes.now; end = end; link = link })) sizes

-- What is judged is what becomes of the packet: its fate, with the status, and the length of the reply.
abbrev pub AsJudged : Terminal → Type 0
AsJudged t =
    (u : TheUnit) (p : Arrived) (lent : Lent)
    → ((t.packet u p lent).answer.fate ≡ fate_in (judged u (as_read p) (sizes_of lent)))
    × ((t.packet u p lent).answer.length ≡ length_in (judged u (as_read p) (sizes_of lent)))

-- So of the code: the fate, with its status, and the length of the reply that `judge` tells are those that `take_packet` answers, of the same unit, to
-- the same bytes, end and link, with memory and a reply buffer of those sizes.
abbrev pub JudgeForetells : Type 0
JudgeForetells =
    (κs : _) (unit : _) (bytes : _) (end : _) (link : _) (sizes : _) (ruling : _) (exit : _)
    (κs' : _) (again : _) (memory : _) (reply : _) (answer : _) (unit' : _) (again' : _) (end' : _) (link' : _) (memory' : _) (reply' : _)
    → promise-of-judge κs (unit, (bytes, (end, (link, (sizes, tt))))) ruling exit
    → promise-of-take_packet κs' (unit, (again, (end, (link, (memory, (reply, tt)))))) answer (unit', (again', (end', (link', (memory', (reply', tt))))))
    → bytes.now ≡ again.now → sizes ≡ record { memory = length memory.now; reply = length reply.now }
    → (answer.fate ≡ fate_in ruling) × (answer.length ≡ length_in ruling)

-- What follows are consequences of the equation that the customer named.

-- ---- refused, and memory unchanged

-- A command stores with a status: a write or an RMW with 0; and a write without verify also with 4, 5, 6 or 7.
abbrev pub StoresWith : Header → Option ℕ → Type 0
StoresWith h told =
    (((is_write h.instruction || is_rmw (kind_in h)) ≡ true) × (told ≡ Some 0))
    ⊎ ((is_write h.instruction ≡ true)
    × (is_verified h.instruction ≡ false)
    × ((status : ℕ) × (told ≡ Some status) × (some (eqb status) (4 ∷ 5 ∷ 6 ∷ 7 ∷ []) ≡ true)))

-- Memory is as it was, or the packet is an RMAP command that stores with the status it has.
abbrev pub KeepsOrStores : TheUnit → Arrived → Lent → Outcome → Type 0
KeepsOrStores u p lent o =
    (o.memory ≡ lent.memory) ⊎ ((h : Header) × IsCommand u p h × (h.protocol ≡ 0x01) × StoresWith h (fate_status o.answer.fate))

-- So it is with every packet. Nothing changes where the header is cut or its CRC is wrong (then the packet is no command), by a packet of another
-- protocol, or by a command that has no status.
abbrev pub OnlyStoresChange : Terminal → Type 0
OnlyStoresChange t = (u : TheUnit) (p : Arrived) (lent : Lent) → KeepsOrStores u p lent (t.packet u p lent)

-- Of these the customer named two: a verified write or a read-modify-write that does not have status 0, for whatever reason, changes no memory.
abbrev pub RefusedChangesNone : Terminal → Type 0
RefusedChangesNone t =
    (u : TheUnit) (p : Arrived) (lent : Lent) (h : Header) → IsCommand u p h
    → ((is_write h.instruction && is_verified h.instruction) || is_rmw (kind_in h)) ≡ true
    → fate_status (t.packet u p lent).answer.fate ≢ Some 0 → (t.packet u p lent).memory ≡ lent.memory

-- ---- what can be owned

-- The sender of the command h in the packet p, known by initiator address, reply path and link, is the owner of u.
abbrev pub FromOwner : TheUnit → Arrived → Header → Type 0
FromOwner u p h = is_owner u.owner h.initiator (path_in u p) p.link ≡ true

-- The unit u was unowned (Device ID 0), the command is a swap on Device ID, and the sender owns the unit v that it leaves.
abbrev pub Claims : TheUnit → Arrived → Header → TheUnit → Type 0
Claims u p h v =
    (u.owner.device ≡ 0)
    × (is_rmw (kind_in h) ≡ true)
    × (row_of h.address ≡ device_id)
    × (is_owner v.owner h.initiator (path_in u p) p.link ≡ true)

-- A plug-and-play command of the owner, or one that claims an unowned unit.
abbrev pub OwnersOrClaim : TheUnit → Arrived → TheUnit → Type 0
OwnersOrClaim u p v = (h : Header) × IsCommand u p h × (h.protocol ≡ 0x03) × (FromOwner u p h ⊎ Claims u p h v)

-- The unit u with owner, last Time-Code and divider from v: what can be owned. Logical address, key, time number, link count, windows, the other fields, ET,
-- the waiting value and the counters are those of u.
abbrev pub with_ownable : TheUnit → TheUnit → TheUnit
with_ownable u v = record {
  logical = u.logical;
  key = u.key;
  number = u.number;
  links = u.links;
  windows = u.windows;
  fields = record {
    vendor = u.fields.vendor;
    version = u.fields.version;
    status = u.fields.status;
    active = u.fields.active;
    information = u.fields.information;
    maker = u.fields.maker;
    serial = u.fields.serial;
    base = u.fields.base;
    range = u.fields.range;
    divider = v.fields.divider;
  };
  owner = v.owner;
  clock = record { last = v.clock.last; elapsed = u.clock.elapsed; waiting = u.clock.waiting };
  counters = u.counters;
}

-- No other packet changes what can be owned: owner (Device ID, initiator address, path with its count, link), last Time-Code, divider.
abbrev pub OwnableIsOwners : Terminal → Type 0
OwnableIsOwners t =
    (u : TheUnit) (p : Arrived) (lent : Lent) → with_ownable u (t.packet u p lent).answer.unit ≢ u
    → OwnersOrClaim u p (t.packet u p lent).answer.unit

-- And the owner changes by a swap on Device ID alone.
abbrev pub OwnerIsSwapped : Terminal → Type 0
OwnerIsSwapped t =
    (u : TheUnit) (p : Arrived) (lent : Lent) → (t.packet u p lent).answer.unit.owner ≢ u.owner
    → (h : Header) × IsCommand u p h × (h.protocol ≡ 0x03) × (is_rmw (kind_in h) ≡ true) × (row_of h.address ≡ device_id)

-- The same of fields. What the field of a row shows to a read on some link:
abbrev pub shown_by : TheUnit → ℕ → ℕ → ℕ
shown_by u link row = get_or (values_of u.fields u.owner u.clock.last u.links link) row 0

-- No other packet changes any field.
abbrev pub FieldsAreOwners : Terminal → Type 0
FieldsAreOwners t =
    (u : TheUnit) (p : Arrived) (lent : Lent) (row shown : ℕ)
    → shown_by (t.packet u p lent).answer.unit shown row ≢ shown_by u shown row
    → OwnersOrClaim u p (t.packet u p lent).answer.unit

-- Ownable are fields 5 to 8, the Time-Code counter and the divider, here by their rows of the table. The others are changed by no packet at all, but for
-- Link Information (4), which shows the owner.
abbrev pub ownable : List ℕ
ownable = 5 ∷ 6 ∷ 7 ∷ device_id ∷ time_code_counter ∷ divider ∷ []

abbrev pub OthersStay : Terminal → Type 0
OthersStay t =
    (u : TheUnit) (p : Arrived) (lent : Lent) (row shown : ℕ) → row < missing → some (eqb row) (4 ∷ ownable) ≡ false
    → shown_by (t.packet u p lent).answer.unit shown row ≡ shown_by u shown row

-- ---- the reply

-- A reply, when one is sent, is the one that is due. (So says row 20 of demand 1 too, which shuts out what only claims to have replied.)
abbrev pub Replies : Terminal → Type 0
Replies t =
    (u : TheUnit) (p : Arrived) (lent : Lent) (s : Status) → Digits 256 p.packet
    → (t.packet u p lent).answer.fate ≡ Replied s → ReplyBytes u p lent s (t.packet u p lent)
