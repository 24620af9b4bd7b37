-- Witnesses: a small unit and packets to it. Their CRCs, and what document 01 says of them, were worked out apart from the definitions.
use mathlib.Core.Path.{◌≡◌, refl, sym}
use mathlib.Core.Bool.{Bool, true, false, ◌||◌, false≢true}
use mathlib.Core.List.{List, [], ◌∷◌}
use Prim.Native.Nat.{ℕ}
use Rattle.std.proofs.Common.{None}
use borrow.Author.Tests.{leb-false}
use lib.Dec.{leb}
use lib.ListN.{replicate}
use Rattle.octets.specs.Numbers.{Digits}
use Rattle.unit.specs.Some.{some}
use Rattle.packets.specs.declared.reading.End.TheVariants.{Eop}
use Rattle.unit.specs.Given.{Arrived, Lent}
use Rattle.unit.specs.declared.windows.Window.{Window}
use Rattle.unit.specs.declared.unit.Unit.{Unit as TheUnit}

-- a unit as the bench's, with 8 bytes of memory and one window over them, that has counted a number of packets

abbrev pub none : Window
none = record { start = 0; end = 0; read = false; write = false }

abbrev pub unit : ℕ → TheUnit
unit before = record {
  logical = 0x43;
  key = 0x2A;
  number = 0xF0;
  links = 4;
  windows = record { table = record { start = 0; end = 8; read = true; write = true } ∷ replicate 15 none; count = 1 };
  fields = record {
    vendor = 0;
    version = 0;
    status = 0;
    active = 0;
    information = 0;
    maker = 0;
    serial = 0;
    base = 0;
    range = 0;
    divider = 0;
  };
  owner = record { device = 0; initiator = 0; path = record { bytes = replicate 12 0; count = 0 }; link = 0 };
  clock = record { last = 0; elapsed = record { value = 0; epoch = 0x9F }; waiting = None };
  counters = 0 ∷ 0 ∷ 0 ∷ 0 ∷ 0 ∷ 0 ∷ 0 ∷ 0 ∷ 0 ∷ before ∷ before ∷ [];
}

abbrev pub memory : List ℕ
memory = replicate 8 0x10

-- and half of it
abbrev pub shorter : List ℕ
shorter = replicate 4 0x10

abbrev pub buffer : List ℕ
buffer = replicate 20 0xEE

-- a packet that ended by EOP, on a link; and what is lent
abbrev pub arrived : List ℕ → ℕ → Arrived
arrived p link = record { packet = p; end = Eop; link = link }

abbrev pub lent : List ℕ → List ℕ → Lent
lent m r = record { memory = m; reply = r }

-- a write of 61 62 at 0, one of 63 64 at 4, and a read that passes the end of memory by one
abbrev pub write_0 : List ℕ
write_0 =
    0xFE ∷ 0x01 ∷ 0x6C ∷ 0x2A ∷ 0x67 ∷ 0x00 ∷ 0x01 ∷ 0x00 ∷ 0x00 ∷ 0x00 ∷ 0x00 ∷ 0x00 ∷ 0x00 ∷ 0x00 ∷ 0x02 ∷ 0xA0 ∷ 0x61 ∷ 0x62 ∷ 0xB8 ∷ []

-- it is bytes, by a test that computes
pub tested : (ds : List ℕ) → some (leb 256) ds ≡ false → Digits 256 ds
tested [] e = tt
tested (d ∷ ds) e = go (leb 256 d) refl e (tested ds)
  where
    go : (t : Bool) → leb 256 d ≡ t → (t || some (leb 256) ds) ≡ false → (some (leb 256) ds ≡ false → Digits 256 ds) → Digits 256 (d ∷ ds)
    go true f g rest = absurd (false≢true (sym g))
    go false f g rest = (leb-false 256 d f, rest g)

pub write_0_bytes : Digits 256 write_0
write_0_bytes = tested write_0 refl

abbrev pub write_4 : List ℕ
write_4 =
    0xFE ∷ 0x01 ∷ 0x6C ∷ 0x2A ∷ 0x67 ∷ 0x00 ∷ 0x01 ∷ 0x00 ∷ 0x00 ∷ 0x00 ∷ 0x00 ∷ 0x04 ∷ 0x00 ∷ 0x00 ∷ 0x02 ∷ 0xD3 ∷ 0x63 ∷ 0x64 ∷ 0x86 ∷ []

abbrev pub read_past : List ℕ
read_past = 0xFE ∷ 0x01 ∷ 0x4C ∷ 0x2A ∷ 0x67 ∷ 0x00 ∷ 0x01 ∷ 0x00 ∷ 0x00 ∷ 0x00 ∷ 0x00 ∷ 0x07 ∷ 0x00 ∷ 0x00 ∷ 0x02 ∷ 0xFC ∷ []

-- that read with a wrong header CRC; an unused code; a write of 61 62 at 0, no reply asked for; a time packet
abbrev pub wrong_crc : List ℕ
wrong_crc = 0xFE ∷ 0x01 ∷ 0x4C ∷ 0x2A ∷ 0x67 ∷ 0x00 ∷ 0x01 ∷ 0x00 ∷ 0x00 ∷ 0x00 ∷ 0x00 ∷ 0x07 ∷ 0x00 ∷ 0x00 ∷ 0x02 ∷ 0x00 ∷ []

abbrev pub unused_code : List ℕ
unused_code = 0xFE ∷ 0x01 ∷ 0x44 ∷ 0x2A ∷ 0x67 ∷ 0x00 ∷ 0x01 ∷ 0x00 ∷ 0x00 ∷ 0x00 ∷ 0x00 ∷ 0x00 ∷ 0x00 ∷ 0x00 ∷ 0x00 ∷ 0xC7 ∷ []

abbrev pub silent_write : List ℕ
silent_write = 0xFE ∷ 0x01 ∷ 0x64 ∷ 0x2A ∷ 0x67 ∷ 0x00 ∷ 0x01 ∷ 0x00 ∷ 0x00 ∷ 0x00 ∷ 0x00 ∷ 0x00 ∷ 0x00 ∷ 0x00 ∷ 0x02 ∷ 0x5E ∷ 0x61 ∷ 0x62 ∷ 0xB8 ∷ []

abbrev pub time : List ℕ
time = 0xFE ∷ 0xF0 ∷ 0x9F ∷ 0x01 ∷ 0x00 ∷ 0x00 ∷ 0x00 ∷ 0x07 ∷ 0x12 ∷ 0x34 ∷ 0x56 ∷ 0x96 ∷ []
