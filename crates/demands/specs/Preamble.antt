-- The newer preamble of a time packet (document 02, 12; 004, 'Draft P-Field format'): which packets are taken, that ET is the greatest tick not after the time sent,
-- and what the receiver of before makes of packets, its own and the newer ones.
--
-- Bytes and bits are taken apart and put together in numerals here, and not by the words that `read_time` is made of: these and the code could slip together, and what is
-- said here has to show it.
use Rattle.std.specs.Prelude.{◌≡◌, Bool, true, cond, ◌&&◌, ◌||◌, ◌⊎◌, List, [], ◌∷◌, ◌++◌, ℕ, ◌+◌, ◌-◌, ◌*◌, ◌/◌, ◌%◌, ◌^◌, ◌<◌, ◌≤◌, eqb, length, get_or, replicate, None, Some, Option, Result, Ok, Err}
use Rattle.octets.specs.Places.{part}
use Rattle.octets.specs.Numbers.{number, bytes_of, Digits}
use Rattle.octets.specs.Crc.{crc, with_crc}
use Rattle.packets.specs.Reading.{is_eop}
use Rattle.packets.specs.Time.{read_time}
use Rattle.packets.specs.declared.reading.End.{End}
use Rattle.packets.specs.declared.reading.End.TheVariants.{Eop}
use Rattle.packets.specs.declared.reading.Packet.{Packet}
use Rattle.packets.specs.declared.reading.Refusal.{Refusal}
use Rattle.packets.specs.declared.reading.Packet.TheVariants.{Time, Command}
use Rattle.packets.specs.declared.time.When.{When}
use Rattle.packets.specs.declared.time.When.TheVariants.{AtWrap, AtOnce}
use Rattle.packets.specs.declared.time.Time.{Time as TheTime}
use Rattle.unit.specs.Fate.{fate_number}
use Rattle.unit.specs.Usable.{usable, usable_unit}
use Rattle.unit.specs.Act.{with_clock}
use Rattle.unit.specs.Given.{Arrived, as_read, Lent}
use Rattle.unit.specs.Judge.{time_ruling, is_link}
use Rattle.unit.specs.Calls.{Outcome, done, take_packet, take_time_code, take_ticks}
use Rattle.unit.specs.declared.clock.Clock.{Clock}
use Rattle.unit.specs.declared.clock.Elapsed.{Elapsed}
use Rattle.unit.specs.declared.unit.Unit.{Unit as TheUnit}
use Rattle.demands.specs.Terminal.{Terminal, ours, read_of, Call, packet, time_code, ticks, after}
use Rattle.demands.specs.Refusals.{counted_as, NoReply, OnlyCounted}
use Rattle.demands.specs.Seconds.{et_of, NotTaken, Wraps}
use Rattle.demands.specs.Zero.{BeginsOtherwise}

-- The number that a packet gets.
abbrev pub number_got : Outcome → ℕ
number_got o = fate_number o.answer.fate

-- The second octet of the preamble, as it arrived. The weights of its bits, from 004's bit 0 on: 128, 64, 32, 16, 8, 4, 2, 1.
abbrev pub octet_in : Arrived → ℕ
octet_in p = get_or p.packet 3 0

-- ---- which packets are taken

-- The mission's bit, the last: 1 at once, 0 at the wrap.
abbrev pub last_bit : When → ℕ
last_bit AtWrap = 0
last_bit AtOnce = 1

-- The bytes of a time packet in their order: address, number, epoch code, the second octet, so many zeros, T in seven bytes, what is cut off, and the CRC of all these.
abbrev pub bytes_made : ℕ → ℕ → TheTime → ℕ → List ℕ → List ℕ
bytes_made address timeNumber time zeros cut =
    with_crc ((address ∷ timeNumber ∷ time.epoch ∷ (zeros * 32 + length cut * 4 + last_bit time.when) ∷ []) ++ replicate zeros 0x00 ++ bytes_of 7 time.value ++ cut)

-- What arrived is a time packet to the unit, made of these parts: to its address or to FE, with its time number, of an epoch that is known; up to three octets of
-- seconds are added, all 0, and up to seven of fraction, whatever they are; and it ended by EOP.
abbrev pub MadeOf : TheUnit → Arrived → TheTime → ℕ → List ℕ → Type 0
MadeOf u p time zeros cut =
    (address : ℕ)
    × ((address ≡ u.logical) ⊎ (address ≡ 0xFE))
    × ((time.epoch ≡ 0x9F) ⊎ (time.epoch ≡ 0xAF))
    × (time.value < 2 ^ 56)
    × (zeros ≤ 3)
    × (length cut ≤ 7)
    × (p.packet ≡ bytes_made address u.number time zeros cut)
    × (p.end ≡ Eop)

-- The clock behind it: at once ET is that time, with its epoch code, and nothing waits; else that time waits, and ET stays. The last Time-Code stays.
abbrev pub clock_set : When → Clock → TheTime → Clock
clock_set AtOnce c time = record { last = c.last; elapsed = record { value = time.value; epoch = time.epoch }; waiting = None }
clock_set AtWrap c time = record { last = c.last; elapsed = c.elapsed; waiting = Some (record { value = time.value; epoch = time.epoch }) }

-- It gets 19, and sets the time.
abbrev pub Sets : TheUnit → Lent → TheTime → Outcome → Type 0
Sets u lent time o =
    (number_got o ≡ 19)
    × (o.answer.unit ≡ counted_as 19 (with_clock u (clock_set time.when u.clock time)))
    × (o.memory ≡ lent.memory)
    × NoReply lent o

-- Every such packet sets the time that it was made of, whatever was added;
abbrev pub MadeIsTaken : Terminal → Type 0
MadeIsTaken t =
    (u : TheUnit) (p : Arrived) (lent : Lent) (time : TheTime) (zeros : ℕ) (cut : List ℕ) → usable u (length lent.memory) ≡ true → is_link u p.link ≡ true
    → MadeOf u p time zeros cut → Sets u lent time (t.packet u p lent)

-- and no other packet of bytes is taken.
abbrev pub TakenIsMade : Terminal → Type 0
TakenIsMade t =
    (u : TheUnit) (p : Arrived) (lent : Lent) → Digits 256 p.packet → number_got (t.packet u p lent) ≡ 19
    → (time : TheTime) × (zeros : ℕ) × (cut : List ℕ) × MadeOf u p time zeros cut × Sets u lent time (t.packet u p lent)

-- Else 16: so of every other packet of bytes with the unit's time number, save one that begins 00 FE 03, which is no time packet.
abbrev pub ElseSixteen : Terminal → Type 0
ElseSixteen t =
    (u : TheUnit) (p : Arrived) (lent : Lent) → Digits 256 p.packet → BeginsOtherwise p → 2 ≤ length p.packet → get_or p.packet 1 0 ≡ u.number
    → usable u (length lent.memory) ≡ true → is_link u p.link ≡ true
    → ((time : TheTime) (zeros : ℕ) (cut : List ℕ) → MadeOf u p time zeros cut → ⊥) → number_got (t.packet u p lent) ≡ 16

-- ---- the greatest tick

-- The time sent, as a whole number: all octets between the preamble and the CRC. So many of its units are a tick of ET; each octet of fraction that was added makes them
-- finer by 256.
abbrev pub sent_in : Arrived → ℕ
sent_in p = number (part 4 (length p.packet - 5) p.packet)

abbrev pub per_tick : Arrived → ℕ
per_tick p = 256 ^ (octet_in p / 4 % 8)

-- So many ticks are not after the time sent, and one more is.
abbrev pub IsGreatest : Arrived → ℕ → Type 0
IsGreatest p et = (et * per_tick p ≤ sent_in p) × (sent_in p < (et + 1) * per_tick p)

-- A packet of bytes that is taken sets ET to that at once, or makes that wait, by the last bit of its second preamble octet.
abbrev pub GreatestTick : Terminal → Type 0
GreatestTick t =
    (u : TheUnit) (p : Arrived) (lent : Lent) → Digits 256 p.packet → number_got (t.packet u p lent) ≡ 19
    → (octet_in p % 2 ≡ 1 → IsGreatest p (et_of (t.packet u p lent).answer.unit))
    × (octet_in p % 2 ≡ 0 → (w : Elapsed) × ((t.packet u p lent).answer.unit.clock.waiting ≡ Some w) × IsGreatest p w.value)

-- Calls among which no time packet is taken, and no Time-Code is a wrap.
abbrev pub BeforeWrap : Terminal → TheUnit → List Call → Type 0
BeforeWrap t u [] = Unit
BeforeWrap t u (packet p lent ∷ cs) = NotTaken t u p lent × BeforeWrap t (t.packet u p lent).answer.unit cs
BeforeWrap t u (time_code byte ∷ cs) = (Wraps u byte → ⊥) × BeforeWrap t (t.time_code u byte).unit cs
BeforeWrap t u (ticks n ∷ cs) = BeforeWrap t (t.ticks u n).unit cs

-- A packet of bytes that is taken and is to wait, such calls, and a wrap in a unit that is usable.
abbrev pub WaitsUntil : Terminal → TheUnit → Arrived → Lent → List Call → ℕ → Type 0
WaitsUntil t u p lent between byte =
    Digits 256 p.packet
    × (number_got (t.packet u p lent) ≡ 19)
    × (octet_in p % 2 ≡ 0)
    × BeforeWrap t (t.packet u p lent).answer.unit between
    × (usable_unit (after t (t.packet u p lent).answer.unit between) ≡ true)
    × Wraps (after t (t.packet u p lent).answer.unit between) byte

-- Then ET behind the wrap is the greatest tick; and there are such calls.
abbrev pub GreatestAtWrap : Terminal → Type 0
GreatestAtWrap t =
    ((u : TheUnit) (p : Arrived) (lent : Lent) (between : List Call) (byte : ℕ) → WaitsUntil t u p lent between byte
    → IsGreatest p (et_of (t.time_code (after t (t.packet u p lent).answer.unit between) byte).unit))
    × ((u : TheUnit) × (p : Arrived) × (lent : Lent) × (between : List Call) × (byte : ℕ) × WaitsUntil t u p lent between byte)

-- ---- the receiver of before

-- Document 01 without the request: exactly 12 bytes and EOP: address (the unit's or FE), number, 9F or AF, 00 or 01, seven bytes of T, and a CRC over the eleven before.
-- Kept for what is said here alone.
abbrev pub was_time_packet : List ℕ → End → ℕ → ℕ → Bool
was_time_packet p end logical timeNumber =
    eqb (length p) 12 && is_eop end
    && (eqb (get_or p 0 0) logical || eqb (get_or p 0 0) 0xFE)
    && eqb (get_or p 1 0) timeNumber
    && (eqb (get_or p 2 0) 0x9F || eqb (get_or p 2 0) 0xAF)
    && (eqb (get_or p 3 0) 0x00 || eqb (get_or p 3 0) 0x01)
    && eqb (crc p) 0

abbrev pub was_read : List ℕ → End → ℕ → ℕ → Option TheTime
was_read p end logical timeNumber =
    cond (was_time_packet p end logical timeNumber) (Some (record { epoch = get_or p 2 0; when = cond (eqb (get_or p 3 0) 0x01) AtOnce AtWrap; value = number (part 4 7 p) })) None

-- The terminal that reads time packets so, and does all else as ours.
abbrev pub take_by : (List ℕ → End → ℕ → ℕ → Option TheTime) → Result Packet Refusal → TheUnit → Arrived → Lent → Outcome
take_by reads (Err why) u p lent = take_packet u p lent
take_by reads (Ok (Command c)) u p lent = take_packet u p lent
take_by reads (Ok Time) u p lent =
    cond (usable u (length lent.memory) && is_link u p.link)
    (done (time_ruling (reads (as_read p).packet p.end u.logical u.number)) u (as_read p).packet p.link lent) (take_packet u p lent)

abbrev pub reading : (List ℕ → End → ℕ → ℕ → Option TheTime) → Terminal
reading reads = record { packet = λ u p lent. take_by reads (read_of u p) u p lent; time_code = take_time_code; ticks = take_ticks }

abbrev pub before : Terminal
before = reading was_read

-- The reader is all that it has of its own: with ours in its place it is ours.
abbrev pub ReaderAlone : Type 0
ReaderAlone = (u : TheUnit) (p : Arrived) (lent : Lent) → (reading read_time).packet u p lent ≡ ours.packet u p lent

-- Every packet of 12 bytes, whatever it is, has in every part the outcome that it had before: so all time packets of the old kind, taken or thrown away.
abbrev pub TwelveAsBefore : Terminal → Type 0
TwelveAsBefore t =
    (u : TheUnit) (p : Arrived) (lent : Lent) → Digits 256 p.packet → length p.packet ≡ 12 → t.packet u p lent ≡ before.packet u p lent

-- Octets are added, by the second octet of the preamble.
abbrev pub Adds : Arrived → Type 0
Adds p = (1 ≤ octet_in p / 32 % 4) ⊎ (1 ≤ octet_in p / 4 % 8)

-- And so has every packet, of any length, that adds none.
abbrev pub OldAsBefore : Terminal → Type 0
OldAsBefore t =
    (u : TheUnit) (p : Arrived) (lent : Lent) → Digits 256 p.packet → (Adds p → ⊥) → t.packet u p lent ≡ before.packet u p lent

-- Given a packet that adds some, the receiver of before throws it away: 16, counted, and nothing else changes.
abbrev pub WasThrownAway : Type 0
WasThrownAway =
    (u : TheUnit) (p : Arrived) (lent : Lent) → BeginsOtherwise p → Adds p → get_or p.packet 1 0 ≡ u.number
    → usable u (length lent.memory) ≡ true → is_link u p.link ≡ true
    → (number_got (before.packet u p lent) ≡ 16) × OnlyCounted 16 u lent (before.packet u p lent)

-- So it never shows a wrong time: what it takes has, in every part, the outcome that ours has, and what it shows is the greatest tick not after the time sent.
abbrev pub NeverWrong : Terminal → Type 0
NeverWrong t =
    ((u : TheUnit) (p : Arrived) (lent : Lent) → Digits 256 p.packet → number_got (before.packet u p lent) ≡ 19 → t.packet u p lent ≡ before.packet u p lent)
    × GreatestTick before
