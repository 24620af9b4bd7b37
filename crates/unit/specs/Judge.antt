-- What a packet comes to, judged before anything is touched (document 01, 'Numbers a caller gets', 'Reading a packet'): from the unit, from what
-- arrived, as it is read, and from the sizes of what is lent. Nothing here speaks of what memory holds.
use Rattle.packets.specs.declared.time.Time.{Time as TheTime}
use Rattle.std.specs.Prelude.{ℕ, Bool, cond, not, ◌&&◌, nat_le, Option, Some, None, Result, Ok, Err}
use Rattle.packets.specs.Reading.{read_packet}
use Rattle.packets.specs.Time.{read_time}
use Rattle.packets.specs.declared.reading.Packet.{Packet}
use Rattle.packets.specs.declared.reading.Packet.TheVariants.{Time, Command}
use Rattle.packets.specs.declared.reading.Refusal.{Refusal}
use Rattle.unit.specs.Usable.{usable}
use Rattle.unit.specs.Given.{Arrived}
use Rattle.unit.specs.Plan.{decided}
use Rattle.unit.specs.declared.fate.Fate.{Fate}
use Rattle.unit.specs.declared.fate.Fate.TheVariants.{Unusable, NoSuchLink, Unread, TimeThrownAway, TimeTaken}
use Rattle.unit.specs.declared.judging.Sizes.{Sizes}
use Rattle.unit.specs.declared.judging.Ruling.{Ruling}
use Rattle.unit.specs.declared.judging.Ruling.TheVariants.{Ends, SetsTime, Planned}
use Rattle.unit.specs.declared.unit.Unit.{Unit as TheUnit}

-- A time packet: 16 thrown away, or 19 taken.
abbrev pub time_ruling : Option TheTime → Ruling
time_ruling None = Ends TimeThrownAway
time_ruling (Some t) = SetsTime t

-- What was read: refused (11 to 15), time, or a command, which is decided.
abbrev pub ruling_on : Result Packet Refusal → TheUnit → Arrived → Sizes → Ruling
ruling_on (Err why) u p sizes = Ends (Unread why)
ruling_on (Ok Time) u p sizes = time_ruling (read_time p.packet p.end u.logical u.number)
ruling_on (Ok (Command c)) u p sizes = Planned c (decided u c.header c.path p sizes.reply)

-- A link of the unit: 1 up to the link count.
abbrev pub is_link : TheUnit → ℕ → Bool
is_link u link = nat_le 1 link && nat_le link u.links

-- 1 goes before 2, 2 before all else.
unfoldable pub judged : TheUnit → Arrived → Sizes → Ruling
judged u p sizes =
    cond (not (usable u sizes.memory)) (Ends Unusable)
    (cond (not (is_link u p.link)) (Ends NoSuchLink)
    (ruling_on (read_packet p.packet u.number) u p sizes))

-- The fate that a ruling comes to, and how long the reply then is.
abbrev pub fate_in : Ruling → Fate
fate_in (Ends fate) = fate
fate_in (SetsTime t) = TimeTaken
fate_in (Planned c plan) = plan.fate

abbrev pub length_in : Ruling → ℕ
length_in (Ends fate) = 0
length_in (SetsTime t) = 0
length_in (Planned c plan) = plan.length
