-- A log that is run by any number of calls of `run`: what they print (document 01, 'Bench program').
use Rattle.std.specs.Prelude.{◌≡◌, ℕ, ◌+◌, ◌<◌, ◌≤◌, Bool, true, false, ◌⊎◌, List, [], ◌++◌, length, drop, Err}
use Rattle.records.specs.Record.{read_record}
use Rattle.records.specs.Text.{heading}
use Rattle.records.specs.Log.{Held, start_held, lines, meaning}
use Rattle.records.specs.Run.{longest_line, ran, begun}
use Rattle.records.specs.declared.record.NoRecord.TheVariants.{Cut}
use Rattle.records.specs.declared.bench.Stage.{Stage}
use Rattle.records.specs.declared.bench.Stage.TheVariants.{Fresh, Running, Over}

-- The text that is still to come, where h is held and s is left of the log.
abbrev pub by_stage : Stage → List ℕ → List ℕ
by_stage Fresh text = heading ++ text
by_stage Running text = text
by_stage Over text = []

abbrev pub to_come : Held → List ℕ → List ℕ
to_come h s = by_stage h.bench.stage (lines s h)

-- `Calls h s h' s' text`: where h is held and s is left of the log, some calls of `run` print the text, and then h' is held and s' is left. A call
-- gets the first bytes of what is left, as many as there are at hand, and prints into a buffer of any size; the calls after it go on with what
-- it did not use. It is told that its part is the last only where no byte of the log comes behind it.
pub data Calls : Held → List ℕ → Held → List ℕ → List ℕ → Type 0 where
  none : {h : Held} {s : List ℕ} → Calls h s h s []
  call : {h h' : Held} {s s' rest text all : List ℕ} (part more : List ℕ) (last : Bool) (room : ℕ) → s ≡ part ++ more → (last ≡ true → more ≡ [])
      → rest ≡ drop (ran part last room (begun h)).used part ++ more → Calls (ran part last room (begun h)).held rest h' s' text
      → all ≡ (ran part last room (begun h)).text ++ text → Calls h s h' s' all

-- However a log is cut into parts, and whatever room each call has: what is printed is the beginning of what the log means, and all of it where
-- the calls say that it is over.
abbrev pub PrintsMeaning : Type 0
PrintsMeaning =
    (log text rest : List ℕ) (h : Held) → Calls start_held log h rest text
    → (meaning log ≡ text ++ to_come h rest) × (h.bench.stage ≡ Over → text ≡ meaning log)

-- One call is enough for a whole log, where the buffer has room for its text and a line more.
abbrev pub OneCall : Type 0
OneCall =
    (log : List ℕ) (room : ℕ) → length (meaning log) + longest_line 8192 ≤ room
    → ((ran log true room (begun start_held)).text ≡ meaning log) × ((ran log true room (begun start_held)).held.bench.stage ≡ Over)

-- No call stands still: where there is room for a line, one that prints nothing has all behind it, or wants more of a log whose record is cut.
abbrev pub NoStandstill : Type 0
NoStandstill =
    (h : Held) (part : List ℕ) (last : Bool) (room : ℕ) → longest_line (length h.reply) ≤ room → (ran part last room (begun h)).text ≡ []
    → (h.bench.stage ≡ Over) ⊎ ((last ≡ false) × (read_record part ≡ Err Cut))

-- And then few bytes are left, so that more of the log fits behind them.
abbrev pub CutIsShort : Type 0
CutIsShort = (s : List ℕ) → read_record s ≡ Err Cut → length s < 7 + 4096
