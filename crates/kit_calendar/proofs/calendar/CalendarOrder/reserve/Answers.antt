use Rattle.std.proofs.Common.{length, sym, ap, ◌∙◌, subst}
use Rattle.kit_queue.specs.Entries.{AreNumberedApart, IsInOrder}
use Rattle.kit_calendar.specs.Rows.{joined}
use Rattle.kit_calendar.specs.Held.{held}
use Rattle.kit_calendar.specs.Buckets.{IsDealt, IsArranged, IsFromDay, gathered}
use Rattle.kit_calendar.proofs.Dealt.{dealt_none}
use Rattle.kit_calendar.proofs.calendar.CalendarOrder.reserve.Goals as goal

pub lay_out-requires-clause-dealt : goal.lay_out-requires-clause-dealt
lay_out-requires-clause-dealt c =
    let w = c.next_width-width.result in
    let m = length (held c.in_ok-rows.rows) in
    subst (IsDealt w m 0) (sym c.in_ok-rows.ensures.0) (dealt_none w m 0 c.buckets_for-buckets.result)

pub invariant_of-self-clause-has_rows : goal.invariant_of-self-clause-has_rows
invariant_of-self-clause-has_rows c = λ l. ap length c.reserve.ensures.held ∙ c.args.self.now.has_rows c.if-self-gt0.true

pub invariant_of-self-clause-dealt : goal.invariant_of-self-clause-dealt
invariant_of-self-clause-dealt c =
    let q = c.args.self.now in
    subst (IsDealt q.width q.buckets 0) (sym c.reserve.ensures.held) q.dealt

pub invariant_of-self-clause-arranged : goal.invariant_of-self-clause-arranged
invariant_of-self-clause-arranged c =
    let q = c.args.self.now in
    subst (λ ls. IsArranged q.width q.buckets (joined ls)) (sym c.reserve.ensures.held) q.arranged

pub invariant_of-self-clause-from_today : goal.invariant_of-self-clause-from_today
invariant_of-self-clause-from_today c =
    let q = c.args.self.now in
    subst (λ ls. IsFromDay q.width q.today (joined ls)) (sym c.reserve.ensures.held) q.from_today

pub invariant_of-self-clause-apart : goal.invariant_of-self-clause-apart
invariant_of-self-clause-apart c = subst (λ ls. AreNumberedApart (joined ls)) (sym c.reserve.ensures.held) c.args.self.now.apart

pub invariant_of-self-clause-in_order : goal.invariant_of-self-clause-in_order
invariant_of-self-clause-in_order c = subst (λ ls. IsInOrder (gathered (joined ls))) (sym c.reserve.ensures.held) c.args.self.now.in_order

pub invariant_of-self-clause-numbered_apart : goal.invariant_of-self-clause-numbered_apart
invariant_of-self-clause-numbered_apart c = subst (λ ls. AreNumberedApart (gathered (joined ls))) (sym c.reserve.ensures.held) c.args.self.now.numbered_apart
