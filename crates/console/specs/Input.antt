-- An input that is read in parts, and run as far as its lines are whole.
use Rattle.std.specs.Prelude.{List, [], false, cond, ℕ, ◌+◌, ◌-◌, min, ltb, length, take, replicate}
use Rattle.octets.specs.Places.{within, part, placed}
use Rattle.script.specs.Fields.{runnable}
use Rattle.console.specs.declared.lines.Input.{Input}

-- How many bytes the buffer holds.
abbrev pub buffer : ℕ
buffer = 65536

-- Before anything is read.
abbrev pub none_read : Input
none_read = record { space = replicate buffer 0; whole = 0; have = 0; last = false }

-- What is read behind the whole lines: the bytes from `whole` up to `have`.
abbrev pub unfinished : Input → List ℕ
unfinished i = cond (within i.whole (i.have - i.whole) i.space) (part i.whole (i.have - i.whole) i.space) []

-- The whole lines are gone: what stood behind them is at the buffer's start, and behind it is room for more.
abbrev pub moved : Input → Input
moved i = record { space = placed 0 (unfinished i) i.space; whole = 0; have = length (unfinished i); last = i.last }

-- After n bytes more came behind what was read. The input has ended where they do not fill the buffer, and then all is of whole lines.
abbrev pub have_come : ℕ → Input → ℕ
have_come n i = min (i.have + n) buffer

abbrev pub come : ℕ → Input → Input
come n i =
    record {
      space = i.space;
      whole = runnable (ltb (have_come n i) buffer) (take (have_come n i) i.space);
      have = have_come n i;
      last = ltb (have_come n i) buffer;
    }
