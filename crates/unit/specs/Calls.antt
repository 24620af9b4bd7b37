-- The three calls (document 01, 'The terminal and its neighbours', 'Numbers a caller gets'). This is what a packet means.
use Rattle.std.specs.Prelude.{ℕ, ◌%◌, ◌^◌, cond, List}
use Rattle.packets.specs.declared.header.Header.{Header}
use Rattle.packets.specs.declared.path.Path.{Path}
use Rattle.unit.specs.Usable.{usable_unit}
use Rattle.unit.specs.Given.{Arrived, as_read, Lent, sizes_of}
use Rattle.unit.specs.Clock.{after_time, after_code, after_ticks}
use Rattle.unit.specs.Judge.{judged}
use Rattle.unit.specs.Act.{stored, replied_to, with_clock, changed, counted_unit}
use Rattle.unit.specs.declared.fate.Fate.{Fate}
use Rattle.unit.specs.declared.fate.Fate.TheVariants.{TimeChanged, Unusable, TimeTaken}
use Rattle.unit.specs.declared.decide.Plan.{Plan}
use Rattle.unit.specs.declared.judging.Ruling.{Ruling}
use Rattle.unit.specs.declared.judging.Ruling.TheVariants.{Ends, SetsTime, Planned}
use Rattle.unit.specs.declared.calls.Answer.{Answer}
use Rattle.unit.specs.declared.unit.Unit.{Unit as TheUnit}

-- What a call answers and leaves: unit, fate and length of the reply; memory; reply buffer.
pub record Outcome : Type 0 where
  pub answer : Answer
  pub memory : List ℕ
  pub reply : List ℕ

-- A fate without a reply, with the unit after it.
abbrev pub without_reply : Fate → TheUnit → Answer
without_reply fate u = record { unit = u; fate = fate; length = 0 }

-- What is lent is left as it was.
abbrev pub leaving : Answer → Lent → Outcome
leaving a lent = record { answer = a; memory = lent.memory; reply = lent.reply }

-- A command, from a packet's bytes: the reply is written, memory stored to, the unit changed and counted, as the plan has it.
abbrev pub acted : Plan → TheUnit → Header → Path → List ℕ → ℕ → Lent → Outcome
acted plan u h path bytes link lent = record {
  answer = record {
    unit = counted_unit plan.fate (changed plan.action u h.initiator path link);
    fate = plan.fate;
    length = plan.length;
  };
  memory = stored plan.action bytes lent.memory;
  reply = replied_to plan u h path link lent;
}

-- What is done by a ruling on a packet of these bytes, from that link. Where the fate is all, it is counted (1 and 2 count nothing); a time packet that is
-- taken sets the time.
abbrev pub done : Ruling → TheUnit → List ℕ → ℕ → Lent → Outcome
done (Ends fate) u bytes link lent = leaving (without_reply fate (counted_unit fate u)) lent
done (SetsTime t) u bytes link lent = leaving (without_reply TimeTaken (counted_unit TimeTaken (with_clock u (after_time u.clock t)))) lent
done (Planned c plan) u bytes link lent = acted plan u c.header c.path bytes link lent

-- A packet as it is read, with what is lent for it: judged, then done. (This is what became of every packet before request 2 of document 02.)
abbrev pub take_read : TheUnit → Arrived → Lent → Outcome
take_read u p lent = done (judged u p (sizes_of lent)) u p.packet p.link lent

-- A packet that arrived.
unfoldable pub take_packet : TheUnit → Arrived → Lent → Outcome
take_packet u p lent = take_read u (as_read p) lent

-- The small calls answer 1 (less its two memory causes) or 0.
abbrev pub small_call : TheUnit → TheUnit → Answer
small_call before after = cond (usable_unit before) (without_reply TimeChanged after) (without_reply Unusable before)

-- Of a Time-Code the low six bits count.
unfoldable pub take_time_code : TheUnit → ℕ → Answer
take_time_code u byte = small_call u (with_clock u (after_code u.clock (byte % 2 ^ 6)))

unfoldable pub take_ticks : TheUnit → ℕ → Answer
take_ticks u ticks = small_call u (with_clock u (after_ticks u.clock ticks))
