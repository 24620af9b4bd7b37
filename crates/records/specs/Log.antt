-- What a log means: the text that the bench prints of it (document 01, 'Bench program').
use Rattle.std.specs.Prelude.{ℕ, zero, suc, ◌+◌, ◌%◌, ◌^◌, true, false, cond, List, ◌∷◌, ◌++◌, length, take, drop, replicate, ◌==◌, Result, Ok, Err, None}
use Rattle.octets.specs.Places.{part}
use Rattle.packets.specs.declared.reading.End.{End}
use Rattle.unit.specs.Owner.{unowned}
use Rattle.unit.specs.Given.{Arrived, Lent}
use Rattle.unit.specs.Calls.{Outcome, leaving, take_packet, take_time_code, take_ticks}
use Rattle.unit.specs.declared.windows.Window.{Window}
use Rattle.unit.specs.declared.calls.Answer.{Answer}
use Rattle.unit.specs.declared.unit.Unit.{Unit as TheUnit}
use Rattle.records.specs.Record.{read_record, size_of}
use Rattle.records.specs.Text.{heading, record_line, end_line, bad_line}
use Rattle.records.specs.declared.record.Item.{Item}
use Rattle.records.specs.declared.record.Item.TheVariants.{Packet, TimeCode, Ticks}
use Rattle.records.specs.declared.record.NoRecord.{NoRecord}
use Rattle.records.specs.declared.bench.Bench.{Bench}
use Rattle.records.specs.declared.bench.Stage.TheVariants.{Fresh}

-- ---- the bench's unit

abbrev pub no_window : Window
no_window = record { start = 0; end = 0; read = false; write = false }

-- Address 43, key 2A, number F0, 4 links, one window over 4,096 bytes with both rights, other fields 0.
abbrev pub bench_unit : TheUnit
bench_unit = record {
  logical = 0x43;
  key = 0x2A;
  number = 0xF0;
  links = 4;
  windows = record { table = record { start = 0; end = 4096; read = true; write = true } ∷ replicate 15 no_window; count = 1 };
  fields = record {
    vendor = 0;
    version = 0;
    status = 0;
    active = 0;
    information = 0;
    maker = 0;
    serial = 0;
    base = 0;
    range = 0;
    divider = 0;
  };
  owner = unowned;
  clock = record { last = 0; elapsed = record { value = 0; epoch = 0 }; waiting = None };
  counters = replicate 11 0;
}

-- Before the first record: nothing printed, no records, offset 0.
abbrev pub start_bench : Bench
start_bench = record { stage = Fresh; unit = bench_unit; items = 0; offset = 0 }

-- ---- records

-- What goes from record to record: the bench with its unit, memory and reply buffer.
pub record Held : Type 0 where
  pub bench : Bench
  pub memory : List ℕ
  pub reply : List ℕ

-- Before the first record: 4,096 zero bytes of memory, a reply buffer of 8,192.
abbrev pub start_held : Held
start_held = record { bench = start_bench; memory = replicate 4096 0; reply = replicate 8192 0 }

-- A packet is the body of its record in the log s.
abbrev pub arrived_in : List ℕ → End → ℕ → ℕ → Arrived
arrived_in s end link size = record { packet = part 7 size s; end = end; link = link }

-- The call on a unit that an item of the log s stands for, with what is lent to it.
abbrev pub called : Item → List ℕ → TheUnit → Lent → Outcome
called (Packet end link size) s u lent = take_packet u (arrived_in s end link size) lent
called (TimeCode byte) s u lent = leaving (take_time_code u byte) lent
called (Ticks count) s u lent = leaving (take_ticks u count) lent

abbrev pub lent_by : Held → Lent
lent_by h = record { memory = h.memory; reply = h.reply }

abbrev pub outcome_of : Item → List ℕ → Held → Outcome
outcome_of item s h = called item s h.bench.unit (lent_by h)

-- The number of the next record, from 1 on. Numbers of records and of bytes have 64 bits here, which no log uses up.
abbrev pub number_after : Bench → ℕ
number_after b = (b.items + 1) % 2 ^ 64

-- The bench after a record of so many bytes.
abbrev pub bench_after : Answer → ℕ → Bench → Bench
bench_after a size b = record {
  stage = b.stage;
  unit = a.unit;
  items = number_after b;
  offset = (b.offset + size) % 2 ^ 64;
}

abbrev pub held_after : Outcome → ℕ → Held → Held
held_after o size h = record { bench = bench_after o.answer size h.bench; memory = o.memory; reply = o.reply }

-- The line of a record: its number, its fate and its reply.
abbrev pub line_for : Outcome → Held → List ℕ
line_for o h = record_line (number_after h.bench) o.answer.fate (take o.answer.length o.reply)

-- ---- a log

-- The last line: how many records there were, where the log ends behind them; else that one is wrong or cut, and where.
abbrev pub last_line : List ℕ → Bench → List ℕ
last_line s b = cond (length s == 0) (end_line b.items) (bad_line b.offset)

-- By what a log begins with: a whole record, or none.
abbrev pub by_record : Result Item NoRecord → (Item → List ℕ) → List ℕ → List ℕ
by_record (Ok item) whole none = whole item
by_record (Err why) whole none = none

-- The lines from the record that s begins with on, for at most so many records.
abbrev pub lines_in : ℕ → List ℕ → Held → List ℕ
lines_in zero s h = last_line s h.bench
lines_in (suc most) s h =
    by_record (read_record s)
    (λ item. line_for (outcome_of item s h) h ++ lines_in most (drop (size_of item) s) (held_after (outcome_of item s h) (size_of item) h))
    (last_line s h.bench)

-- No log has more records than bytes.
unfoldable pub lines : List ℕ → Held → List ℕ
lines s h = lines_in (length s) s h

-- What the bench prints of a log: the heading, and the lines.
abbrev pub meaning : List ℕ → List ℕ
meaning log = heading ++ lines log start_held
