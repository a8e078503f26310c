use Rattle.std.proofs.Common.{arith, sym, ap, subst}
use Rattle.std.specs.List.Sorted.{IsStrictlySortedBy}
use Rattle.kit_queue.proofs.Waiting.{apart_empty}
use Rattle.kit_calendar.specs.Rows.{joined}
use Rattle.kit_calendar.specs.Held.{waiting}
use Rattle.kit_calendar.specs.Buckets.{IsArranged, IsDealt, IsFromDay, gathered}
use Rattle.kit_calendar.proofs.Gathered.{in_order_gathered, apart_gathered}
use Rattle.kit_calendar.proofs.calendar.CalendarOrder.empty.Goals as goal

pub invariant_of-result-clause-has_rows : goal.invariant_of-result-clause-has_rows
invariant_of-result-clause-has_rows c = λ l. absurd (omega (arith, c.none.ensures.most))

pub invariant_of-result-clause-dealt : goal.invariant_of-result-clause-dealt
invariant_of-result-clause-dealt c = subst (IsDealt 1 16 0) (sym c.none.ensures.held) tt

pub invariant_of-result-clause-arranged : goal.invariant_of-result-clause-arranged
unfolding IsStrictlySortedBy
invariant_of-result-clause-arranged c = subst (IsArranged 1 16) (sym (ap joined c.none.ensures.held)) tt

pub invariant_of-result-clause-from_today : goal.invariant_of-result-clause-from_today
invariant_of-result-clause-from_today c = subst (IsFromDay 1 0) (sym (ap joined c.none.ensures.held)) tt

pub invariant_of-result-clause-apart : goal.invariant_of-result-clause-apart
invariant_of-result-clause-apart c = apart_empty (waiting c.none.result) (ap joined c.none.ensures.held)

pub invariant_of-result-clause-in_order : goal.invariant_of-result-clause-in_order
invariant_of-result-clause-in_order c = in_order_gathered (waiting c.none.result) (invariant_of-result-clause-apart c)

pub invariant_of-result-clause-numbered_apart : goal.invariant_of-result-clause-numbered_apart
invariant_of-result-clause-numbered_apart c = apart_gathered (waiting c.none.result) (invariant_of-result-clause-apart c)

pub returns : goal.returns
returns c = ap (λ ls. gathered (joined ls)) c.none.ensures.held
