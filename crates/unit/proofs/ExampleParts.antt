-- Of what the worked examples are made. What is not given is 0, or the bench's.
use Rattle.std.proofs.Common.{ℕ, Bool, List, replicate, Option}
use Rattle.packets.specs.declared.path.Path.{Path}
use Rattle.unit.specs.declared.windows.Window.{Window}
use Rattle.unit.specs.declared.windows.Windows.{Windows}
use Rattle.unit.specs.declared.owner.Owner.{Owner}
use Rattle.unit.specs.declared.clock.Elapsed.{Elapsed}
use Rattle.unit.specs.declared.clock.Clock.{Clock}
use Rattle.unit.specs.declared.fields.Fields.{Fields}
use Rattle.unit.specs.declared.unit.Unit.{Unit as TheUnit}

abbrev pub window : ℕ → ℕ → Bool → Bool → Window
window start end r w = record { start = start; end = end; read = r; write = w }

abbrev pub windows : ℕ → List Window → Windows
windows count table = record { table = table; count = count }

-- so many zero bytes
abbrev pub zeros : ℕ → Path
zeros count = record { bytes = replicate 12 0; count = count }

-- Device ID, initiator address, count of the path, link
abbrev pub owner : ℕ → ℕ → ℕ → ℕ → Owner
owner device initiator count link = record { device = device; initiator = initiator; path = zeros count; link = link }

-- last Time-Code, ET with its epoch code, what waits; and with the epoch code 9F
abbrev pub clock_of : ℕ → ℕ → ℕ → Option Elapsed → Clock
clock_of last et epoch waiting = record { last = last; elapsed = record { value = et; epoch = epoch }; waiting = waiting }

abbrev pub clock : ℕ → ℕ → Option Elapsed → Clock
clock last et waiting = clock_of last et 0x9F waiting

-- fields of which no two are the same, with a divider. Rate range: maximum 10 in the high half, minimum 4 in the low half
abbrev pub fields : ℕ → Fields
fields divider = record {
  vendor = 0xA0;
  version = 0xA1;
  status = 0xA2;
  active = 0xA3;
  information = 0;
  maker = 0xA9;
  serial = 0xAA;
  base = 0xB1;
  range = 0x00100004;
  divider = divider;
}

-- time number, link count, windows, Link Information as held, owner, clock
abbrev pub unit : ℕ → ℕ → Windows → ℕ → Owner → Clock → TheUnit
unit number links w information o c = record {
  logical = 0x43;
  key = 0x2A;
  number = number;
  links = links;
  windows = w;
  fields = record {
    vendor = 0;
    version = 0;
    status = 0;
    active = 0;
    information = information;
    maker = 0;
    serial = 0;
    base = 0;
    range = 0;
    divider = 0;
  };
  owner = o;
  clock = c;
  counters = replicate 11 0;
}
