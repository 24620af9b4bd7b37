-- No impostor gets by: for each a witness that computes.
use Rattle.std.proofs.Common.{Some, Ok}
use Rattle.std.specs.Prelude.{Err}
use mathlib.Core.Path.{◌≡◌, refl, sym, ◌∙◌, ap}
use mathlib.Core.Bool.{true, false, ◌&&◌, and-false, or-false, false≢true}
use mathlib.Core.Logic.{inl, inr}
use mathlib.Core.List.{List, [], ◌∷◌}
use Prim.Native.Nat.{ℕ, ◌^◌, ◌<◌}
use native.Mathlib.Omega.{arith}
use borrow.Author.Tests.{ltb-true, leb-true, lt-leb, le-ltb, ne_eqb}
use lib.Dec.{eqb, leb, ltb}
use lib.ListN.{length, get_or}
use Rattle.octets.specs.Crc.{crc, mirrored, bits, remainder, message, modulo}
use Rattle.octets.proofs.PlaceLaws.{first_true, second_true}
use Rattle.packets.specs.Instruction.{kind_of}
use Rattle.packets.specs.Path.{without_leading_zeros, or_one_zero, path_of}
use Rattle.packets.specs.Header.{parts_at}
use Rattle.packets.specs.Reading.{bare, read_command, read_protocol, read_packet}
use Rattle.packets.specs.Reply.{reply_with, reply_length, replied}
use Rattle.packets.specs.declared.header.Header.{Header}
use Rattle.packets.specs.declared.reading.Refusal.TheVariants.{HeaderCrc}
use Rattle.packets.proofs.ReadingLaws.{one_command, not_command}
use Rattle.unit.specs.Fate.{fate_number, fate_status}
use Rattle.unit.specs.Counters.{total, counted_for}
use Rattle.unit.specs.Usable.{usable_unit, usable}
use Rattle.unit.specs.Decide.{opening_status, span_size, is_authorised, span_status, header_status, wanted_count, data_status}
use Rattle.unit.specs.Plan.{reply_count, planned_for, decided_by_data, decided_on}
use Rattle.unit.specs.Judge.{judged}
use Rattle.unit.specs.Act.{stored, data_for, replied_to, changed}
use Rattle.unit.specs.Given.{Arrived, as_read, Lent}
use Rattle.unit.specs.Calls.{Outcome, take_packet}
use Rattle.unit.specs.declared.unit.Unit.{Unit as TheUnit}
use Rattle.unit.specs.declared.fate.Fate.TheVariants.{Replied}
use Rattle.demands.proofs.Witnesses.{unit, memory, shorter, buffer, arrived, lent, write_0, write_0_bytes, write_4, read_past, wrong_crc}
use Rattle.demands.specs.Terminal.{read_of, IsCommand, path_in, Call, packet, time_code, ticks, answer_to, after, fates_of}
use Rattle.demands.specs.ReplyDue.{reply_due}
use Rattle.demands.specs.Refusals.{Leaves, RowByRow}
use Rattle.demands.specs.Bounds.{OfBytes, Lends, StaysUsable}
use Rattle.demands.specs.Meaning.{ByteByByte, KeepsOrStores, OnlyStoresChange}
use Rattle.demands.specs.Lists.{one, other, neither, from_one, from_other, Sent, State, heard, ends, refers, is_store, stores, Clear, Apart, Merge, Side, Merges}
use Rattle.demands.specs.Counts.{count_of, count_of_all, Counting, counted, CountersAreHistory}
use Rattle.demands.specs.Impostors.{refuses_all, does_nothing, replies_zero, obeys_first, invents_counters, replies_nothing, gives_up, clears_memory, ImpostorsShutOut, ThreeAloneLetsBy, SomeReplyLetsBy, OneLengthLetsBy, RefusedAloneLetsBy}
use Rattle.demands.proofs.NamesHold.{byte_in}
use Rattle.demands.proofs.NumbersHold.{one_two_three}
use Rattle.demands.proofs.SecondsShown.{ahead_moves_more, ahead_by_ticks, ahead_in_order}
use Rattle.demands.proofs.ZeroShown.{reads_the_zero_shut_out, shifts_data_shut_out, swaps_alone_shut_out, takes_any_zero_shut_out}
use Rattle.demands.proofs.PreambleShown.{before_shut_out, rounds_time_shut_out, drops_seconds_shut_out, counts_nothing_shut_out}
use Rattle.demands.proofs.MeaningHolds.{refused_changes_none}
use Rattle.unit.proofs.UsableLaws.{packet_with_memory, code_with_memory, ticks_with_memory}
use Rattle.unit.proofs.CommandLaws.{packet_is, command_fate}

abbrev x : Sent
x = record { arrived = arrived write_0 1; buffer = buffer }

abbrev y : Sent
y = record { arrived = arrived write_4 1; buffer = buffer }

abbrev start : State
start = record { unit = unit 0; memory = memory }

abbrev history : List Call
history = packet (arrived write_0 1) (lent memory buffer) ∷ []

-- ---- what ours and the impostors do with them, computed

computed :
    -- the write is replied to, and stores, whatever was counted before; the read has status 10
    (fate_number (take_packet (unit 0) (arrived write_0 1) (lent memory buffer)).answer.fate ≡ 20)
    × (get_or (take_packet (unit 0) (arrived write_0 1) (lent memory buffer)).memory 0 0 ≡ 0x61)
    × (get_or (take_packet (unit 1) (arrived write_0 1) (lent memory buffer)).memory 0 0 ≡ 0x61)
    × (fate_status (take_packet (unit 0) (arrived read_past 1) (lent memory buffer)).answer.fate ≡ Some 10)
    -- status 0 for that read
    × (fate_status (replies_zero.packet (unit 0) (arrived read_past 1) (lent memory buffer)).answer.fate ≡ Some 0)
    -- the second packet is not obeyed, and of two merged lists the first stores
    × (get_or (obeys_first.packet (unit 1) (arrived write_0 1) (lent memory buffer)).memory 0 0 ≡ 0x10)
    × (get_or (ends obeys_first start (x ∷ y ∷ [])).memory 0 0 ≡ 0x61)
    × (get_or (ends obeys_first start (y ∷ x ∷ [])).memory 0 0 ≡ 0x10)
    -- the total after one packet
    × (get_or (after invents_counters (unit 0) history).counters total 0 ≡ 7)
    × (counted (get_or (unit 0).counters total 0) (count_of_all (fates_of invents_counters (unit 0) history)) ≡ 1)
    -- usable with eight bytes before four were lent, and not after
    × (usable (unit 0) 8 ≡ true)
    × (usable (after gives_up (unit 0) (packet (arrived write_0 1) (lent shorter buffer) ∷ [])) 8 ≡ false)
    -- a wrong header CRC, and memory
    × (read_of (unit 0) (arrived wrong_crc 1) ≡ Err HeaderCrc)
    × (get_or (clears_memory.packet (unit 0) (arrived wrong_crc 1) (lent memory buffer)).memory 0 0 ≡ 0)
unfolding take_packet bare judged decided_on decided_by_data planned_for header_status opening_status span_status span_size is_authorised wanted_count data_status reply_count stored data_for replied_to changed counted_for usable usable_unit read_packet read_protocol read_command kind_of without_leading_zeros or_one_zero path_of reply_length replied reply_with crc mirrored bits remainder message modulo ends after fates_of count_of
computed = (refl, refl, refl, refl, refl, refl, refl, refl, refl, refl, refl, refl, refl, refl)

-- ---- demand 2 shuts out the first three

refuses_all_shut_out : ByteByByte refuses_all → ⊥
refuses_all_shut_out meets =
    let e = ap (λ (o : Outcome). fate_number o.answer.fate) (meets.0 (unit 0) (arrived write_0 1) (lent memory buffer)) in
    omega (arith, e, computed.0)

replies_zero_shut_out : ByteByByte replies_zero → ⊥
replies_zero_shut_out meets =
    let e = ap (λ (o : Outcome). fate_status o.answer.fate) (meets.0 (unit 0) (arrived read_past 1) (lent memory buffer)) in
    let f : Some 0 ≡ Some 10 = sym computed.4 ∙ e ∙ computed.3 in
    omega (arith, ap byte_in f)

does_nothing_shut_out : ByteByByte does_nothing → ⊥
does_nothing_shut_out meets =
    let e = ap (λ (o : Outcome). get_or o.memory 0 0) (meets.0 (unit 0) (arrived write_0 1) (lent memory buffer)) in
    omega (arith, e, computed.1)

-- ---- demand 2, for any unit and memory, and demand 3, for whole lists, shut out the fourth

obeys_first_shut_out : ByteByByte obeys_first → ⊥
obeys_first_shut_out meets =
    let e = ap (λ (o : Outcome). get_or o.memory 0 0) (meets.0 (unit 1) (arrived write_0 1) (lent memory buffer)) in
    omega (arith, e, computed.2, computed.5)

-- the two writes are apart: one refers to bytes 0 and 1, the other to 4 and 5
refers_0 : (i : ℕ) → refers start x i ≡ (leb 0 i && ltb i 2)
unfolding refers take_packet bare judged decided_on decided_by_data planned_for header_status opening_status span_status span_size is_authorised wanted_count data_status reply_count stored data_for replied_to changed counted_for usable usable_unit read_packet read_protocol read_command kind_of without_leading_zeros or_one_zero path_of reply_length replied reply_with crc mirrored bits remainder message modulo
refers_0 i = refl

refers_4 : (i : ℕ) → refers start y i ≡ (leb 4 i && ltb i 6)
unfolding refers take_packet bare judged decided_on decided_by_data planned_for header_status opening_status span_status span_size is_authorised wanted_count data_status reply_count stored data_for replied_to changed counted_for usable usable_unit read_packet read_protocol read_command kind_of without_leading_zeros or_one_zero path_of reply_length replied reply_with crc mirrored bits remainder message modulo
refers_4 i = refl

one_only : (c d : Sent) → ((i : ℕ) → refers start c i ≡ true → refers start d i ≡ false) → Clear start (c ∷ []) (d ∷ [])
unfolding stores
one_only c d apart i e =
    rw (apart i (second_true (is_store (read_of (unit 0) c.arrived)) (refers start c i) (sym (or-false (stores start c i)) ∙ e)))

apart : Apart start (x ∷ []) (y ∷ [])
apart = (
  one_only x y (λ i e. rw (refers_4 i) (low i (rw (refers_0 i) at e))),
  one_only y x (λ i e. rw (refers_0 i) (high i (rw (refers_4 i) at e))),
)
  where
    low : (i : ℕ) → (leb 0 i && ltb i 2) ≡ true → (leb 4 i && ltb i 6) ≡ false
    low i e = let b = ltb-true i 2 (second_true (leb 0 i) (ltb i 2) e) in rw (lt-leb 4 i (omega (arith, b)))

    high : (i : ℕ) → (leb 4 i && ltb i 6) ≡ true → (leb 0 i && ltb i 2) ≡ false
    high i e =
        let b = leb-true 4 i (first_true (leb 4 i) (ltb i 6) e) in
        rw (le-ltb i 2 (omega (arith, b))) (and-false (leb 0 i))

obeys_first_does_not_merge : Merges obeys_first → ⊥
obeys_first_does_not_merge merges =
    let both = (merges start (x ∷ []) (y ∷ []) (refl, tt) (refl, tt) apart).1 in
    let e = ap (λ (s : State). get_or s.memory 0 0) (both (one ∷ other ∷ []) (other ∷ one ∷ []) (x ∷ y ∷ []) (y ∷ x ∷ []) (from_one (from_other neither)) (from_other (from_one neither))) in
    omega (arith, e, computed.6, computed.7)

-- demand 3 alone would not shut out the ones before: one that does nothing does it in any order
pub three_alone_lets_by : ThreeAloneLetsBy
unfolding heard ends
three_alone_lets_by s xs ys rx ry apart = (λ pattern zs w. alone w, λ pattern pattern' zs zs' w w'. still zs ∙ sym (still zs'))
  where
    alone : {pattern : List Side} {xs ys zs : List Sent} → Merge pattern xs ys zs → Merge pattern (heard does_nothing s xs) (heard does_nothing s ys) (heard does_nothing s zs)
    alone neither = neither
    alone (from_one w) = from_one (alone w)
    alone (from_other w) = from_other (alone w)

    still : (zs : List Sent) → ends does_nothing s zs ≡ s
    still [] = refl
    still (z ∷ zs) = still zs

-- ---- counters that are no history

invents_counters_shut_out : CountersAreHistory invents_counters → ⊥
invents_counters_shut_out history-of =
    let z : 0 < 2 ^ 32 = omega arith in
    let words : Counting (unit 0) = (refl, (z, (z, (z, (z, (z, (z, (z, (z, (z, (z, (z, tt)))))))))))) in
    let e = (history-of (unit 0) history words).1 in
    omega (arith, e, computed.8, computed.9)

-- ---- a reply that is only claimed

-- the write is replied to with status 0, and that reply has eight bytes
due : (h : Header) → IsCommand (unit 0) (arrived write_0 1) h → length (reply_due (unit 0) (arrived write_0 1) (lent memory buffer) h (Ok tt)) ≡ 8
unfolding take_packet bare judged decided_on decided_by_data planned_for header_status opening_status span_status span_size is_authorised wanted_count data_status reply_count stored data_for replied_to changed counted_for usable usable_unit read_packet read_protocol read_command kind_of without_leading_zeros or_one_zero path_of reply_length replied reply_with crc mirrored bits remainder message modulo
due h is =
    let same = one_command (read_of (unit 0) (arrived write_0 1)) (parts_at write_0 4) h refl is in
    let eight : length (reply_due (unit 0) (arrived write_0 1) (lent memory buffer) (parts_at write_0 4) (Ok tt)) ≡ 8 = refl in
    ap (λ (k : Header). length (reply_due (unit 0) (arrived write_0 1) (lent memory buffer) k (Ok tt))) same ∙ eight

replies_nothing_shut_out : RowByRow replies_nothing → ⊥
unfolding take_packet bare judged decided_on decided_by_data planned_for header_status opening_status span_status span_size is_authorised wanted_count data_status reply_count stored data_for replied_to changed counted_for usable usable_unit read_packet read_protocol read_command kind_of without_leading_zeros or_one_zero path_of reply_length replied reply_with crc mirrored bits remainder message modulo
replies_nothing_shut_out meets =
    let row : Leaves (Replied (Ok tt)) (unit 0) (arrived write_0 1) (lent memory buffer) (replies_nothing.packet (unit 0) (arrived write_0 1) (lent memory buffer)) =
    meets (unit 0) (arrived write_0 1) (lent memory buffer) write_0_bytes in
    let reply = row.2 in
    omega (arith, reply.3.1, due reply.0 reply.1)

-- ---- one that never gets over 1

gives_up_shut_out : StaysUsable gives_up → ⊥
gives_up_shut_out stays =
    let e = stays (unit 0) 8 (packet (arrived write_0 1) (lent shorter buffer) ∷ []) (write_0_bytes, tt) in
    false≢true (sym computed.11 ∙ e ∙ computed.10)

-- ---- memory changed by what is no command

clears_memory_shut_out : OnlyStoresChange clears_memory → ⊥
clears_memory_shut_out only = go (only (unit 0) (arrived wrong_crc 1) (lent memory buffer))
  where
    o : Outcome
    o = clears_memory.packet (unit 0) (arrived wrong_crc 1) (lent memory buffer)

    go : KeepsOrStores (unit 0) (arrived wrong_crc 1) (lent memory buffer) o → ⊥
    go (inl same) = let e = ap (λ (m : List ℕ). get_or m 0 0) same in omega (arith, e, computed.13)
    go (inr stores) = not_command (Err HeaderCrc) (omega arith) (sym computed.12 ∙ stores.1)

-- ---- what let the last three by

pub some_reply_lets_by : SomeReplyLetsBy
some_reply_lets_by u p lent = ([], (refl, refl, omega arith))

-- lent n bytes it gets no 1, and does as ours
call_lets_by : (u : TheUnit) (n : ℕ) (c : Call) → usable u n ≡ true → OfBytes c → Lends n c → usable (answer_to gives_up u c).unit n ≡ true
call_lets_by u n (packet p lent) e b l =
    let not_one = ne_eqb (fate_number (take_packet u p lent).answer.fate) 1 (λ one. false≢true (sym ((one_two_three u p lent).0.0 one) ∙ rw l e)) in
    rw not_one (packet_with_memory u n p lent b ∙ e)
call_lets_by u n (time_code byte) e b l = code_with_memory u n byte ∙ e
call_lets_by u n (ticks count) e b l = ticks_with_memory u n count ∙ e

pub one_length_lets_by : OneLengthLetsBy
unfolding after
one_length_lets_by u n [] e l = e
one_length_lets_by u n (c ∷ cs) e l = one_length_lets_by (answer_to gives_up u c).unit n cs (call_lets_by u n c e l.0.0 l.0.1) l.1

-- a command never has the fate 15
not_fifteen : (u : TheUnit) (p : Arrived) (lent : Lent) (h : Header) → IsCommand u p h → eqb (fate_number (take_packet u p lent).answer.fate) 15 ≡ false
not_fifteen u p lent h is =
    packet_is u p lent (λ o. eqb (fate_number o.answer.fate) 15 ≡ false) (λ e. refl) (λ e f. refl)
    (λ e f why g. absurd (not_command (Err why) (omega arith) (sym g ∙ is))) (λ e f g. refl) (λ e f g t. refl)
    (λ e f k g. command_fate u k (path_in u p) (as_read p) lent (λ f. eqb (fate_number f) 15 ≡ false) refl (λ s. refl) (λ o. refl) refl)

pub refused_alone_lets_by : RefusedAloneLetsBy
refused_alone_lets_by u p lent h is guarded status = rw (not_fifteen u p lent h is) (refused_changes_none u p lent h is guarded status)

pub impostors_shut_out : ImpostorsShutOut
impostors_shut_out = (
  refuses_all_shut_out,
  replies_zero_shut_out,
  does_nothing_shut_out,
  obeys_first_shut_out,
  obeys_first_does_not_merge,
  invents_counters_shut_out,
  replies_nothing_shut_out,
  gives_up_shut_out,
  clears_memory_shut_out,
  ahead_moves_more,
  ahead_by_ticks,
  ahead_in_order,
  reads_the_zero_shut_out.0,
  reads_the_zero_shut_out.1,
  shifts_data_shut_out.0,
  shifts_data_shut_out.1,
  swaps_alone_shut_out.0,
  swaps_alone_shut_out.1,
  takes_any_zero_shut_out.0,
  takes_any_zero_shut_out.1,
  takes_any_zero_shut_out.2,
  takes_any_zero_shut_out.3,
  before_shut_out.0,
  before_shut_out.1,
  rounds_time_shut_out.0,
  rounds_time_shut_out.1,
  drops_seconds_shut_out.0,
  drops_seconds_shut_out.1,
  drops_seconds_shut_out.2,
  counts_nothing_shut_out.0,
  counts_nothing_shut_out.1,
  counts_nothing_shut_out.2,
)
