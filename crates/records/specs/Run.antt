-- A log that comes in parts, and a text that leaves in parts: what one call of `run` does with what it has. That all calls together print the
-- meaning of the whole log is `PrintsMeaning`, in Printed.
use Rattle.std.specs.Prelude.{ℕ, zero, suc, ◌+◌, ◌-◌, ◌*◌, Bool, true, false, cond, List, [], ◌++◌, length, drop, nat_le, Option, Some, None, Result, Ok, Err}
use Rattle.std.specs.Option.{option_map_or}
use Rattle.records.specs.Record.{read_record, size_of}
use Rattle.records.specs.Text.{heading}
use Rattle.records.specs.Log.{Held, outcome_of, line_for, held_after, last_line}
use Rattle.records.specs.declared.record.Item.{Item}
use Rattle.records.specs.declared.record.NoRecord.{NoRecord}
use Rattle.records.specs.declared.record.NoRecord.TheVariants.{Wrong, Cut}
use Rattle.records.specs.declared.bench.Bench.{Bench}
use Rattle.records.specs.declared.log.Ran.{Ran}
use Rattle.records.specs.declared.bench.Stage.{Stage}
use Rattle.records.specs.declared.bench.Stage.TheVariants.{Fresh, Running, Over}
use Rattle.records.specs.declared.log.Next.{Next}
use Rattle.records.specs.declared.log.Next.TheVariants.{Heading, Line, Last}

-- All is printed.
abbrev pub is_over : Stage → Bool
is_over Fresh = false
is_over Running = false
is_over Over = true

-- ---- what is printed next

-- Of what the bytes that are there begin with: the line of a record; the last line; or nothing yet, where that is no whole record and more bytes
-- may come.
abbrev pub next_for : Result Item NoRecord → Bool → Option Next
next_for (Ok item) last = Some (Line item)
next_for (Err Wrong) last = Some Last
next_for (Err Cut) last = cond last (Some Last) None

abbrev pub next_of : Stage → List ℕ → Bool → Option Next
next_of Fresh s last = Some Heading
next_of Running s last = next_for (read_record s) last
next_of Over s last = None

-- ---- a step

-- What has been done so far in a call: what is held, how many bytes of the log are used, and the text.
pub record Progress : Type 0 where
  pub held : Held
  pub used : ℕ
  pub text : List ℕ

abbrev pub at_stage : Stage → Bench → Bench
at_stage stage b = record { stage = stage; unit = b.unit; items = b.items; offset = b.offset }

abbrev pub held_at : Stage → Held → Held
held_at stage h = record { bench = at_stage stage h.bench; memory = h.memory; reply = h.reply }

-- What a step leaves, how many bytes it uses, and what it prints.
abbrev pub left_by : Next → List ℕ → Held → Held
left_by Heading s h = held_at Running h
left_by (Line item) s h = held_after (outcome_of item s h) (size_of item) h
left_by Last s h = held_at Over h

abbrev pub used_by : Next → ℕ
used_by Heading = 0
used_by (Line item) = size_of item
used_by Last = 0

abbrev pub text_of : Next → List ℕ → Held → List ℕ
text_of Heading s h = heading
text_of (Line item) s h = line_for (outcome_of item s h) h
text_of Last s h = last_line s h.bench

abbrev pub stepped : Next → List ℕ → Progress → Progress
stepped next s p = record {
  held = left_by next s p.held;
  used = p.used + used_by next;
  text = p.text ++ text_of next s p.held;
}

-- ---- a call

-- No line is longer than this, where the reply buffer has r bytes: three numbers of at most 20 digits, a status of two, and five bytes between
-- and behind them.
abbrev pub longest_line : ℕ → ℕ
longest_line r = 67 + 2 * r

-- What is next where a call has got to; and the step that it takes: that one, if there is room for any line. It goes on while there is a step.
abbrev pub next_in : List ℕ → Bool → Progress → Option Next
next_in log last p = next_of p.held.bench.stage (drop p.used log) last

abbrev pub next_step : List ℕ → Bool → ℕ → Progress → Option Next
next_step log last room p = cond (nat_le (length p.text + longest_line (length p.held.reply)) room) (next_in log last p) None

abbrev pub ran_in : ℕ → List ℕ → Bool → ℕ → Progress → Progress
ran_in zero log last room p = p
ran_in (suc most) log last room p =
    option_map_or (λ next. ran_in most log last room (stepped next (drop p.used log) p)) (next_step log last room p) p

-- The heading and the last line are a step each, and there are no more records than bytes.
abbrev pub steps : Stage → ℕ
steps Fresh = 2
steps Running = 1
steps Over = 0

abbrev pub steps_left : List ℕ → Progress → ℕ
steps_left log p = length log - p.used + steps p.held.bench.stage

unfoldable pub ran : List ℕ → Bool → ℕ → Progress → Progress
ran log last room p = ran_in (steps_left log p) log last room p

-- A call begins with nothing used and nothing printed.
abbrev pub begun : Held → Progress
begun h = record { held = h; used = 0; text = [] }

-- The bench b with part of a log, memory m, reply buffer r, and a buffer with that much room.
abbrev pub run_of : Bench → List ℕ → Bool → List ℕ → List ℕ → ℕ → Progress
run_of b log last m r room = ran log last room (begun (record { bench = b; memory = m; reply = r }))

abbrev pub answer_of : Progress → Ran
answer_of p = record { bench = p.held.bench; used = p.used; written = length p.text }
