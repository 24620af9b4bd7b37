-- The customer's demands hold of our terminal.
use Rattle.demands.specs.Terminal.{ours}
use Rattle.demands.specs.Demands.{Demand1, Demand2, Demand3, Histories, NamesKept, SecondsKept, ZeroIgnored, PreambleAccepted}
use Rattle.demands.proofs.RefusalsHold.{row_by_row}
use Rattle.demands.proofs.NumbersHold.{one_two_three, small_rows, listed}
use Rattle.demands.proofs.RowsReached.{no_row_empty}
use Rattle.demands.proofs.BoundsHold.{never_strays, set_up_stays, stays_usable, comes_back}
use Rattle.demands.proofs.MeaningHolds.{byte_by_byte, only_stores_change, refused_changes_none}
use Rattle.demands.proofs.OwnableHolds.{ownable_is_owners, owner_is_swapped, fields_are_owners, others_stay}
use Rattle.demands.proofs.RepliesHold.{replies}
use Rattle.demands.proofs.ListsHold.{merges}
use Rattle.demands.proofs.CountsHold.{counters_are_history, low_count_nothing}
use Rattle.demands.proofs.NamesHold.{rows_kept, missing_refused, missing_is_f1, obeyed_in_window}
use Rattle.demands.proofs.SecondsHold.{others_leave_time, wrap_moves_half, one_is_nearest, ticks_are_seconds, one_second, one_second_in_order}
use Rattle.demands.proofs.SecondsShown.{some_turn}
use Rattle.demands.proofs.ZeroHolds.{read_so, as_without_it, others_as_before, by_second_byte, only_addressed, taken_once, was_refused, none_with_zero}
use Rattle.demands.proofs.PreambleHolds.{made_is_taken, taken_is_made, else_sixteen, greatest_tick, reader_alone, twelve_as_before, old_as_before, was_thrown_away, never_wrong}
use Rattle.demands.proofs.PreambleShown.{greatest_at_wrap}

pub demand_1 : Demand1 ours
demand_1 = (row_by_row, one_two_three, small_rows, listed, no_row_empty, never_strays, set_up_stays, stays_usable, comes_back)

pub demand_2 : Demand2 ours
demand_2 = (byte_by_byte, only_stores_change, refused_changes_none, ownable_is_owners, owner_is_swapped, fields_are_owners, others_stay, replies)

pub demand_3 : Demand3 ours
demand_3 = merges

pub histories : Histories ours
histories = (counters_are_history, low_count_nothing)

pub names_kept : NamesKept ours
names_kept = (rows_kept, missing_refused, missing_is_f1, obeyed_in_window)

pub seconds_kept : SecondsKept ours
seconds_kept = (others_leave_time, wrap_moves_half, one_is_nearest, ticks_are_seconds, one_second, one_second_in_order, some_turn)

pub zero_ignored : ZeroIgnored ours
zero_ignored = (read_so, as_without_it, others_as_before, by_second_byte, only_addressed, taken_once, was_refused, none_with_zero)

pub preamble_accepted : PreambleAccepted ours
preamble_accepted =
    (made_is_taken, taken_is_made, else_sixteen, greatest_tick, greatest_at_wrap, reader_alone, twelve_as_before, old_as_before, was_thrown_away, never_wrong)
