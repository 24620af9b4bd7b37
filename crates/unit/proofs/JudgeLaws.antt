-- The ways that a judgement can go: what holds of each of them holds of every one.
use Rattle.std.specs.Prelude.{Option, Some, None, Result, Ok, Err}
use Rattle.std.proofs.Common.{◌≡◌, Bool, true, false, cond, not, refl}
use Rattle.packets.specs.Reading.{read_packet}
use Rattle.packets.specs.Time.{read_time}
use Rattle.packets.specs.declared.reading.Packet.{Packet}
use Rattle.packets.specs.declared.reading.Packet.TheVariants.{Time, Command}
use Rattle.packets.specs.declared.reading.Command.{Command as TheCommand}
use Rattle.packets.specs.declared.reading.Refusal.{Refusal}
use Rattle.packets.specs.declared.time.Time.{Time as TheTime}
use Rattle.unit.specs.Usable.{usable}
use Rattle.unit.specs.Given.{Arrived}
use Rattle.unit.specs.Plan.{decided}
use Rattle.unit.specs.Judge.{time_ruling, ruling_on, is_link, judged}
use Rattle.unit.specs.declared.fate.Fate.TheVariants.{Unusable, NoSuchLink, Unread, TimeThrownAway}
use Rattle.unit.specs.declared.judging.Sizes.{Sizes}
use Rattle.unit.specs.declared.judging.Ruling.{Ruling}
use Rattle.unit.specs.declared.judging.Ruling.TheVariants.{Ends, SetsTime, Planned}
use Rattle.unit.specs.declared.unit.Unit.{Unit as TheUnit}

-- 1, 2, refused as it was read, a time packet thrown away or taken, or a command
module _ (u : TheUnit) (p : Arrived) (sizes : Sizes) (Q : Ruling → Type 0) where
  abbrev read : Result Packet Refusal
  read = read_packet p.packet u.number

  abbrev time : Option TheTime
  time = read_time p.packet p.end u.logical u.number

  abbrev Works : Bool → Type 0
  Works t = usable u sizes.memory ≡ t

  abbrev Linked : Bool → Type 0
  Linked t = is_link u p.link ≡ t

  pub judged_is : (Works false → Q (Ends Unusable))
      → (Works true → Linked false → Q (Ends NoSuchLink))
      → (Works true → Linked true → (why : Refusal) → read ≡ Err why → Q (Ends (Unread why)))
      → (Works true → Linked true → read ≡ Ok Time → time ≡ None → Q (Ends TimeThrownAway))
      → (Works true → Linked true → read ≡ Ok Time → (t : TheTime) → time ≡ Some t → Q (SetsTime t))
      → (Works true → Linked true → (c : TheCommand) → read ≡ Ok (Command c) → Q (Planned c (decided u c.header c.path p sizes.reply)))
      → Q (judged u p sizes)
  unfolding judged
  judged_is one two refused away taken command = go (usable u sizes.memory) (is_link u p.link) refl refl
    where
      times : Works true → Linked true → read ≡ Ok Time → (t : Option TheTime) → time ≡ t → Q (time_ruling t)
      times e f g None w = away e f g w
      times e f g (Some t) w = taken e f g t w

      reads : Works true → Linked true → (q : Result Packet Refusal) → read ≡ q → Q (ruling_on q u p sizes)
      reads e f (Err why) g = refused e f why g
      reads e f (Ok Time) g = times e f g time refl
      reads e f (Ok (Command c)) g = command e f c g

      go : (t s : Bool) → Works t → Linked s → Q (cond (not t) (Ends Unusable) (cond (not s) (Ends NoSuchLink) (ruling_on read u p sizes)))
      go false s e f = one e
      go true false e f = two e f
      go true true e f = reads e f read refl
