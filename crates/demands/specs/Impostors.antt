-- Impostors (document 01, 'What a promise has to say'): terminals that a demand has to shut out.
use Rattle.std.specs.Prelude.{◌≡◌, Bool, true, cond, ◌&&◌, ◌||◌, List, [], ℕ, ◌+◌, ◌/◌, ◌%◌, ◌^◌, eqb, length, get_or, drop, replicate, Option, None, Some, Ok, Result, Err}
use Rattle.octets.specs.Places.{part}
use Rattle.octets.specs.Numbers.{number}
use Rattle.octets.specs.Crc.{crc}
use Rattle.packets.specs.Reading.{is_eop}
use Rattle.packets.specs.Time.{read_time}
use Rattle.packets.specs.Reply.{reply_length, replied}
use Rattle.packets.specs.declared.header.Header.{Header}
use Rattle.packets.specs.declared.path.Path.{Path}
use Rattle.packets.specs.declared.reading.Packet.{Packet}
use Rattle.packets.specs.declared.reading.Refusal.{Refusal}
use Rattle.packets.specs.declared.reading.Packet.TheVariants.{Time, Command}
use Rattle.packets.specs.declared.reading.End.{End}
use Rattle.packets.specs.declared.time.When.TheVariants.{AtWrap, AtOnce}
use Rattle.packets.specs.declared.time.Time.{Time as TheTime}
use Rattle.unit.specs.Fate.{fate_number}
use Rattle.unit.specs.Usable.{usable}
use Rattle.unit.specs.Counters.{total}
use Rattle.unit.specs.Clock.{seconds_of, time_of, after_code}
use Rattle.unit.specs.Act.{with_clock, with_counters, counted_unit}
use Rattle.unit.specs.Given.{Arrived, Lent, sizes_of}
use Rattle.unit.specs.Judge.{ruling_on, is_link}
use Rattle.unit.specs.Calls.{Outcome, without_reply, leaving, done, take_read, take_packet, small_call, take_time_code, take_ticks}
use Rattle.unit.specs.declared.fate.Offence.TheVariants.{NotAuthorised}
use Rattle.unit.specs.declared.fate.Fate.TheVariants.{NotObeyed, Obeyed, Replied}
use Rattle.unit.specs.declared.clock.Elapsed.{Elapsed}
use Rattle.unit.specs.declared.clock.Clock.{Clock}
use Rattle.unit.specs.declared.unit.Unit.{Unit as TheUnit}
use Rattle.demands.specs.Terminal.{Terminal, read_of, Call, after, Every}
use Rattle.demands.specs.ReplyDue.{Written}
use Rattle.demands.specs.Refusals.{RowByRow}
use Rattle.demands.specs.Bounds.{OfBytes, Lends, StaysUsable}
use Rattle.demands.specs.Meaning.{ByteByByte, OnlyStoresChange, RefusedChangesNone}
use Rattle.demands.specs.Lists.{Merges}
use Rattle.demands.specs.Counts.{CountersAreHistory}
use Rattle.demands.specs.Seconds.{WrapMovesHalf, OneSecond, OneSecondInOrder}
use Rattle.demands.specs.Zero.{with_bytes, AsWithoutIt, OthersAsBefore, BySecondByte, OnlyAddressed}
use Rattle.demands.specs.Preamble.{reading, before, MadeIsTaken, TakenIsMade, GreatestTick, TwelveAsBefore}
use Rattle.demands.specs.Demands.{Demand1}

-- A terminal that does something else with packets. Its small calls are ours.
abbrev pub faking : (TheUnit → Arrived → Lent → Outcome) → Terminal
faking takes = record { packet = takes; time_code = take_time_code; ticks = take_ticks }

-- It refuses everything: 17 with status 10, counted.
abbrev pub refuses_all : Terminal
refuses_all = faking (λ u p lent.
    leaving (without_reply (NotObeyed (Err NotAuthorised)) (counted_unit (NotObeyed (Err NotAuthorised)) u)) lent)

-- It does nothing, and says that it obeyed.
abbrev pub does_nothing : Terminal
does_nothing = faking (λ u p lent. leaving (without_reply Obeyed u) lent)

-- A reply with status 0 and without data, counted as such, and no effect.
abbrev pub acknowledged : TheUnit → Header → Path → Lent → Outcome
acknowledged u h path lent = record {
  answer = record { unit = counted_unit (Replied (Ok tt)) u; fate = Replied (Ok tt); length = reply_length path h 0 0 };
  memory = lent.memory;
  reply = replied path h 0 [] lent.reply;
}

-- It replies status 0 to every command.
abbrev pub zero_to : Result Packet Refusal → TheUnit → Arrived → Lent → Outcome
zero_to (Err why) u p lent = take_packet u p lent
zero_to (Ok Time) u p lent = take_packet u p lent
zero_to (Ok (Command c)) u p lent = acknowledged u c.header c.path lent

abbrev pub replies_zero : Terminal
replies_zero = faking (λ u p lent. zero_to (read_of u p) u p lent)

-- It obeys the first packet, which it knows by its total, and only acknowledges the rest.
abbrev pub obeys_first : Terminal
obeys_first = faking (λ u p lent.
    cond (eqb (get_or u.counters total 0) 0) (take_packet u p lent) (zero_to (read_of u p) u p lent))

-- It invents its counters.
abbrev pub invented : Outcome → Outcome
invented o = record {
  answer = record { unit = with_counters o.answer.unit (replicate 11 7); fate = o.answer.fate; length = o.answer.length };
  memory = o.memory;
  reply = o.reply;
}

abbrev pub invents_counters : Terminal
invents_counters = faking (λ u p lent. invented (take_packet u p lent))

-- It does as ours, but a reply it only claims: the fate says that it replied, the length is 0, and the buffer is as it was.
abbrev pub unsaid : Outcome → Lent → Outcome
unsaid o lent = record {
  answer = record { unit = o.answer.unit; fate = o.answer.fate; length = 0 };
  memory = o.memory;
  reply = lent.reply;
}

abbrev pub replies_nothing : Terminal
replies_nothing = faking (λ u p lent. unsaid (take_packet u p lent) lent)

-- It does as ours, but a packet that gets 1 it never gets over: from then on its last Time-Code is 64, and no unit with that is usable.
abbrev pub given_up : TheUnit → TheUnit
given_up u = with_clock u (record { last = 64; elapsed = u.clock.elapsed; waiting = u.clock.waiting })

abbrev pub sulking : Outcome → Outcome
sulking o = record {
  answer = record {
    unit = cond (eqb (fate_number o.answer.fate) 1) (given_up o.answer.unit) o.answer.unit;
    fate = o.answer.fate;
    length = o.answer.length;
  };
  memory = o.memory;
  reply = o.reply;
}

abbrev pub gives_up : Terminal
gives_up = faking (λ u p lent. sulking (take_packet u p lent))

-- It does as ours, but where a header CRC is wrong (15) it clears memory.
abbrev pub cleared : Outcome → Outcome
cleared o = record {
  answer = o.answer;
  memory = cond (eqb (fate_number o.answer.fate) 15) (replicate (length o.memory) 0) o.memory;
  reply = o.reply;
}

abbrev pub clears_memory : Terminal
clears_memory = faking (λ u p lent. cleared (take_packet u p lent))

-- Its packets and ticks are ours, but at the wrap seconds go up whatever the fraction: document 01's terminal before request 3.
abbrev pub always_up : Option Elapsed → Clock → ℕ → Clock
always_up (Some w) c v = after_code c v
always_up None c v =
    cond (eqb c.last 63 && eqb v 0)
    (record {
      last = v;
      elapsed = record { value = time_of ((seconds_of c.elapsed.value + 1) % 2 ^ 32) 0; epoch = c.elapsed.epoch };
      waiting = None;
    })
    (after_code c v)

abbrev pub second_ahead : Terminal
second_ahead = record {
  packet = take_packet;
  time_code = λ u byte. small_call u (with_clock u (always_up u.clock.waiting u.clock (byte % 2 ^ 6)));
  ticks = take_ticks;
}

-- It reads a zero in front of plug-and-play as if it were the address: document 01's terminal before request 2.
abbrev pub reads_the_zero : Terminal
reads_the_zero = faking take_read

-- It leaves the zero out where it reads the header, and not where it looks for the data behind that.
abbrev pub shifts_data : Terminal
shifts_data = faking (λ u p lent.
    cond (usable u (length lent.memory) && is_link u p.link)
    (done (ruling_on (read_of u p) u p (sizes_of lent)) u p.packet p.link lent) (take_packet u p lent))

-- It takes the zero off where the instruction is 5C, a swap with a reply and no reply address.
abbrev pub swaps_alone : Terminal
swaps_alone = faking (λ u p lent. cond (eqb (get_or p.packet 3 0) 0x5C) (take_packet u p lent) (take_read u p lent))

-- It takes a zero off whatever begins with one, RMAP too.
abbrev pub takes_any_zero : Terminal
takes_any_zero = faking (λ u p lent. take_read u (with_bytes p (cond (eqb (get_or p.packet 0 1) 0x00) (drop 1 p.packet) p.packet)) lent)

-- How many octets a time packet tells of, of seconds and of fraction, and what it says where its T begins at a place; in numerals, as in Preamble.
abbrev pub of_seconds : List ℕ → ℕ
of_seconds p = get_or p 3 0 / 32 % 4

abbrev pub of_fraction : List ℕ → ℕ
of_fraction p = get_or p 3 0 / 4 % 8

abbrev pub time_from : ℕ → List ℕ → TheTime
time_from at p = record { epoch = get_or p 2 0; when = cond (eqb (get_or p 3 0 % 2) 1) AtOnce AtWrap; value = number (part at 7 p) }

-- It takes time packets by the newer preamble, but rounds to the nearest tick instead of cutting off: by the first octet that is cut off.
abbrev pub rounded : List ℕ → Option TheTime → Option TheTime
rounded p None = None
rounded p (Some t) = Some (record {
  epoch = t.epoch;
  when = t.when;
  value = t.value + get_or (part (11 + of_seconds p) (of_fraction p) p) 0 0 / 0x80;
})

abbrev pub rounds_time : Terminal
rounds_time = reading (λ p end logical timeNumber. rounded p (read_time p end logical timeNumber))

-- What is right of a time packet, its length and its octets of seconds aside.
abbrev pub sound_but : List ℕ → End → ℕ → ℕ → Bool
sound_but p end logical timeNumber =
    is_eop end && (eqb (get_or p 0 0) logical || eqb (get_or p 0 0) 0xFE) && eqb (get_or p 1 0) timeNumber && (eqb (get_or p 2 0) 0x9F || eqb (get_or p 2 0) 0xAF)
    && (eqb (get_or p 3 0 / 128 % 2) 0 && eqb (get_or p 3 0 / 2 % 2) 0) && eqb (crc p) 0

-- It does not look at the octets of seconds that were added, and so drops what they hold.
abbrev pub drops_seconds : Terminal
drops_seconds = reading (λ p end logical timeNumber.
    cond (eqb (length p) (12 + of_seconds p + of_fraction p) && sound_but p end logical timeNumber) (Some (time_from (4 + of_seconds p) p)) None)

-- It takes twelve bytes, whatever their second octet adds, as if nothing were added.
abbrev pub counts_nothing : Terminal
counts_nothing = reading (λ p end logical timeNumber.
    cond (eqb (length p) 12 && sound_but p end logical timeNumber) (Some (time_from 4 p)) (read_time p end logical timeNumber))

-- ---- which demand shuts out which

abbrev pub ShutsOut : (Terminal → Type 0) → Terminal → Type 0
ShutsOut Demand t = Demand t → ⊥

-- Demand 2, which names status, reply and memory, for any unit and memory, shuts out the first four; demand 3, of whole lists, the fourth too; the
-- history's counts the fifth. What only claims to reply is shut out by the rows of demand 1; what gives up, by the history of demand 1, in which memory of
-- another length may be lent; what clears memory, by the part of demand 2 that says what changes it. What gets a second ahead is shut out by what is said of a wrap,
-- and of two, whether the Time-Codes between them are lost or come. What does not take the zero off, or not everywhere, is shut out by what is said of it, what
-- takes off too much by what is said of other packets, and all four by demand 1 as well. Of those that read time packets otherwise, the receiver of before is shut
-- out by what is taken; one that rounds by the greatest tick; what drops seconds, by that and by what else is taken; what does not count, by that and by what
-- was before; and all four by demand 1.
abbrev pub ImpostorsShutOut : Type 0
ImpostorsShutOut =
    ShutsOut ByteByByte refuses_all
    × ShutsOut ByteByByte replies_zero
    × ShutsOut ByteByByte does_nothing
    × ShutsOut ByteByByte obeys_first
    × ShutsOut Merges obeys_first
    × ShutsOut CountersAreHistory invents_counters
    × ShutsOut RowByRow replies_nothing
    × ShutsOut StaysUsable gives_up
    × ShutsOut OnlyStoresChange clears_memory
    × ShutsOut WrapMovesHalf second_ahead
    × ShutsOut OneSecond second_ahead
    × ShutsOut OneSecondInOrder second_ahead
    × ShutsOut AsWithoutIt reads_the_zero
    × ShutsOut Demand1 reads_the_zero
    × ShutsOut AsWithoutIt shifts_data
    × ShutsOut Demand1 shifts_data
    × ShutsOut AsWithoutIt swaps_alone
    × ShutsOut Demand1 swaps_alone
    × ShutsOut OthersAsBefore takes_any_zero
    × ShutsOut BySecondByte takes_any_zero
    × ShutsOut OnlyAddressed takes_any_zero
    × ShutsOut Demand1 takes_any_zero
    × ShutsOut MadeIsTaken before
    × ShutsOut Demand1 before
    × ShutsOut GreatestTick rounds_time
    × ShutsOut Demand1 rounds_time
    × ShutsOut GreatestTick drops_seconds
    × ShutsOut TakenIsMade drops_seconds
    × ShutsOut Demand1 drops_seconds
    × ShutsOut TakenIsMade counts_nothing
    × ShutsOut TwelveAsBefore counts_nothing
    × ShutsOut Demand1 counts_nothing

-- Demand 3 alone would not do: one that does nothing does it in any order. It is asked beside demand 2.
abbrev pub ThreeAloneLetsBy : Type 0
ThreeAloneLetsBy = Merges does_nothing

-- What only claims to reply, what gives up and what clears memory were let by by less than the demands say now. That some bytes were written as a reply: the
-- first has written none of them. That a unit stays usable where every memory has one length: the second is never given another. That refused commands change no
-- memory: the third clears it where a header CRC is wrong, and that is no command.
abbrev pub SomeReplyLetsBy : Type 0
SomeReplyLetsBy = (u : TheUnit) (p : Arrived) (lent : Lent) → (bytes : List ℕ) × Written bytes lent (replies_nothing.packet u p lent)

abbrev pub OneLengthLetsBy : Type 0
OneLengthLetsBy =
    (u : TheUnit) (n : ℕ) (calls : List Call) → usable u n ≡ true → Every (λ c. OfBytes c × Lends n c) calls → usable (after gives_up u calls) n ≡ true

abbrev pub RefusedAloneLetsBy : Type 0
RefusedAloneLetsBy = RefusedChangesNone clears_memory
