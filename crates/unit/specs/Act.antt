-- What is done (document 01, 'Effects', 'Fields', 'Owner'): what is stored, what the reply carries, what changes in the unit.
use Rattle.std.specs.Prelude.{ℕ, ◌+◌, ◌-◌, cond, List, [], ◌∷◌, length, drop, replicate, ◌==◌, bit_and, bit_or, bit_xor, slice_index}
use Rattle.octets.specs.Places.{part, placed}
use Rattle.octets.specs.Numbers.{bytes_of}
use Rattle.packets.specs.Reply.{replied}
use Rattle.packets.specs.declared.header.Header.{Header}
use Rattle.packets.specs.declared.path.Path.{Path}
use Rattle.unit.specs.Fate.{byte_of, fate_number}
use Rattle.unit.specs.Given.{Lent}
use Rattle.unit.specs.Clock.{time_code_written}
use Rattle.unit.specs.Owner.{swapped}
use Rattle.unit.specs.Fields.{row_of, time_code_counter, divider, named, values_of, field_bytes, divider_written}
use Rattle.unit.specs.Counters.{counted_for}
use Rattle.unit.specs.declared.fate.Fate.{Fate}
use Rattle.unit.specs.declared.clock.Clock.{Clock}
use Rattle.unit.specs.declared.fields.Fields.{Fields}
use Rattle.unit.specs.declared.owner.Owner.{Owner}
use Rattle.unit.specs.declared.decide.Action.{Action}
use Rattle.unit.specs.declared.decide.Action.TheVariants.{Nothing, ReadMemory, RepeatByte, Store, StoreLast, Combine, ReadFields, Swap, WriteField}
use Rattle.unit.specs.declared.decide.Plan.{Plan}
use Rattle.unit.specs.declared.unit.Unit.{Unit as TheUnit}

-- ---- memory

-- RMW stores (mask AND data) OR (NOT mask AND read). NOT turns every bit of a byte over.
abbrev pub combine_byte : ℕ → ℕ → ℕ → ℕ
combine_byte mask byte read = bit_or (bit_and mask byte) (bit_and (bit_xor mask 0xFF) read)

-- Byte by byte: what was read, the data, the masks.
abbrev pub combined : List ℕ → List ℕ → List ℕ → List ℕ
combined [] ds ms = []
combined (r ∷ rs) [] ms = []
combined (r ∷ rs) (d ∷ ds) [] = []
combined (r ∷ rs) (d ∷ ds) (m ∷ ms) = combine_byte m d r ∷ combined rs ds ms

-- The last of some bytes; none of none.
abbrev pub last_of : List ℕ → List ℕ
last_of bytes = drop (length bytes - 1) bytes

-- What memory m holds after an action of the packet p. Data precede masks.
unfoldable pub stored : Action → List ℕ → List ℕ → List ℕ
stored Nothing p m = m
stored (ReadMemory at count) p m = m
stored (RepeatByte at count) p m = m
stored (Store at from count) p m = placed at (part from count p) m
stored (StoreLast at from count) p m = placed at (last_of (part from count p)) m
stored (Combine at from count) p m = placed at (combined (part at count m) (part from count p) (part (from + count) count p)) m
stored (ReadFields address count) p m = m
stored (Swap new expected) p m = m
stored (WriteField address word) p m = m

-- ---- the reply

-- The data of the reply, from memory and unit as they were before: RMW holds the bytes read, a swap the old value. (With L = 0 there may
-- be no byte at A, and none is repeated.)
unfoldable pub data_for : Action → TheUnit → ℕ → List ℕ → List ℕ
data_for Nothing u link m = []
data_for (ReadMemory at count) u link m = part at count m
data_for (RepeatByte at count) u link m = replicate count (slice_index m at)
data_for (Store at from count) u link m = []
data_for (StoreLast at from count) u link m = []
data_for (Combine at from count) u link m = part at count m
data_for (ReadFields address count) u link m =
    field_bytes (values_of u.fields u.owner u.clock.last u.links link) (named address count)
data_for (Swap new expected) u link m = bytes_of 4 u.owner.device
data_for (WriteField address word) u link m = []

-- The reply buffer after a plan: 20 writes the reply, any other fate nothing.
unfoldable pub replied_to : Plan → TheUnit → Header → Path → ℕ → Lent → List ℕ
replied_to plan u h path link lent =
    cond (fate_number plan.fate == 20)
    (replied path h (byte_of plan.status) (data_for plan.action u link lent.memory) lent.reply)
    lent.reply

-- ---- the unit

-- With another part, and the rest as it was: that all of it is, is a law, in UnitLaws.
abbrev pub with_owner : TheUnit → Owner → TheUnit
with_owner u o = record {
  logical = u.logical;
  key = u.key;
  number = u.number;
  links = u.links;
  windows = u.windows;
  fields = u.fields;
  owner = o;
  clock = u.clock;
  counters = u.counters;
}

abbrev pub with_fields : TheUnit → Fields → TheUnit
with_fields u f = record {
  logical = u.logical;
  key = u.key;
  number = u.number;
  links = u.links;
  windows = u.windows;
  fields = f;
  owner = u.owner;
  clock = u.clock;
  counters = u.counters;
}

abbrev pub with_clock : TheUnit → Clock → TheUnit
with_clock u c = record {
  logical = u.logical;
  key = u.key;
  number = u.number;
  links = u.links;
  windows = u.windows;
  fields = u.fields;
  owner = u.owner;
  clock = c;
  counters = u.counters;
}

abbrev pub with_counters : TheUnit → List ℕ → TheUnit
with_counters u c = record {
  logical = u.logical;
  key = u.key;
  number = u.number;
  links = u.links;
  windows = u.windows;
  fields = u.fields;
  owner = u.owner;
  clock = u.clock;
  counters = c;
}

-- A write to a field: the Time-Code counter, or the divider; no other passes the checks.
unfoldable pub field_written : TheUnit → ℕ → ℕ → TheUnit
field_written u address word =
    cond (row_of address == time_code_counter) (with_clock u (time_code_written u.clock word))
    (cond (row_of address == divider) (with_fields u (divider_written u.fields word)) u)

-- What an action changes in the unit, for the sender with that initiator address, path and link.
unfoldable pub changed : Action → TheUnit → ℕ → Path → ℕ → TheUnit
changed Nothing u initiator path link = u
changed (ReadMemory at count) u initiator path link = u
changed (RepeatByte at count) u initiator path link = u
changed (Store at from count) u initiator path link = u
changed (StoreLast at from count) u initiator path link = u
changed (Combine at from count) u initiator path link = u
changed (ReadFields address count) u initiator path link = u
changed (Swap new expected) u initiator path link = with_owner u (swapped u.owner new expected initiator path link)
changed (WriteField address word) u initiator path link = field_written u address word

-- The unit with its counters as they are after a fate.
abbrev pub counted_unit : Fate → TheUnit → TheUnit
counted_unit fate u = with_counters u (counted_for fate u.counters)
