use Rattle.std.proofs.Common.{◌∷◌, ◌≤◌, ◌/◌, ◌+◌, arith, sym, subst, ap, ◌∙◌, rules}
use Rattle.kit_queue.specs.Entries.{AreNumberedApart, first_due}
use Rattle.kit_calendar.specs.Rows.{offset}
use Rattle.kit_calendar.specs.Held.{held, waiting}
use Rattle.kit_calendar.specs.Buckets.{IsArranged, IsFromDay, bucket_cmp, gathered}
use Rattle.kit_calendar.proofs.Gathered.{in_order_gathered, apart_gathered}
use Rattle.kit_calendar.proofs.Arranged.{sorted_remove, apart_remove, each_removed}
use Rattle.kit_calendar.proofs.Calls.{least_first}
use Rattle.kit_calendar.proofs.Days.{from_least}
use Rattle.kit_calendar.proofs.Edited.{as_many_lists, waiting_removed, dealt_removed}
use Rattle.kit_calendar.proofs.calendar.CalendarOrder.pop_due.Goals as goal

pub returns-then-spot-time-clause-first : goal.returns-then-spot-time-clause-first
returns-then-spot-time-clause-first c =
    let q = c.args.self.now in
    let s = c.in_ok-spot.spot in
    let first = ap (first_due c.args.time) (least_first (waiting q.rows) (offset (held q.rows) s.row + s.at, s.entry) q.apart c.in_ok-spot.ensures.best) in
    search rules

pub invariant_of-self-2-clause-has_rows : goal.invariant_of-self-2-clause-has_rows
invariant_of-self-2-clause-has_rows c = λ l. as_many_lists (held c.args.self.now.rows) (held c.remove.new.self) c.in_ok-spot.spot.row _ c.remove.ensures.held ∙ c.args.self.now.has_rows (omega (arith, c.remove.ensures.most))

pub invariant_of-self-2-clause-dealt : goal.invariant_of-self-2-clause-dealt
invariant_of-self-2-clause-dealt c =
    let q = c.args.self.now in
    let s = c.in_ok-spot.spot in
    dealt_removed q.width q.buckets (held q.rows) (held c.remove.new.self) s.row s.at q.dealt c.remove.ensures.held

pub invariant_of-self-2-clause-arranged : goal.invariant_of-self-2-clause-arranged
invariant_of-self-2-clause-arranged c =
    let q = c.args.self.now in
    let s = c.in_ok-spot.spot in
    let items = waiting_removed (held q.rows) (held c.remove.new.self) s.row s.at c.in_ok-spot.ensures.there.0 c.in_ok-spot.ensures.there.1 c.remove.ensures.held in
    subst (IsArranged q.width q.buckets) (sym items) (sorted_remove (bucket_cmp q.width q.buckets) (waiting q.rows) (offset (held q.rows) s.row + s.at) q.arranged)

pub invariant_of-self-2-clause-from_today : goal.invariant_of-self-2-clause-from_today
invariant_of-self-2-clause-from_today c =
    let q = c.args.self.now in
    let s = c.in_ok-spot.spot in
    let at = offset (held q.rows) s.row + s.at in
    let day = s.entry.message.time / q.width in
    let items = waiting_removed (held q.rows) (held c.remove.new.self) s.row s.at c.in_ok-spot.ensures.there.0 c.in_ok-spot.ensures.there.1 c.remove.ensures.held in
    subst (IsFromDay q.width day) (sym items) (each_removed (λ m. day ≤ m.time / q.width) (waiting q.rows) at (from_least q.width (waiting q.rows) at s.entry q.has_width c.in_ok-spot.ensures.best))

pub invariant_of-self-2-clause-apart : goal.invariant_of-self-2-clause-apart
invariant_of-self-2-clause-apart c =
    let q = c.args.self.now in
    let s = c.in_ok-spot.spot in
    let items = waiting_removed (held q.rows) (held c.remove.new.self) s.row s.at c.in_ok-spot.ensures.there.0 c.in_ok-spot.ensures.there.1 c.remove.ensures.held in
    subst AreNumberedApart (sym items) (apart_remove (waiting q.rows) (offset (held q.rows) s.row + s.at) q.apart)

pub invariant_of-self-2-clause-in_order : goal.invariant_of-self-2-clause-in_order
invariant_of-self-2-clause-in_order c = in_order_gathered (waiting c.remove.new.self) (invariant_of-self-2-clause-apart c)

pub invariant_of-self-2-clause-numbered_apart : goal.invariant_of-self-2-clause-numbered_apart
invariant_of-self-2-clause-numbered_apart c = apart_gathered (waiting c.remove.new.self) (invariant_of-self-2-clause-apart c)

pub returns-clause-first : goal.returns-clause-first
returns-clause-first c =
    let q = c.args.self.now in
    let s = c.in_ok-spot.spot in
    let first = ap (first_due c.args.time) (least_first (waiting q.rows) (offset (held q.rows) s.row + s.at, s.entry) q.apart c.in_ok-spot.ensures.best) in
    search rules

pub returns-clause-rest : goal.returns-clause-rest
returns-clause-rest c =
    let q = c.args.self.now in
    let s = c.in_ok-spot.spot in
    let items = waiting_removed (held q.rows) (held c.remove.new.self) s.row s.at c.in_ok-spot.ensures.there.0 c.in_ok-spot.ensures.there.1 c.remove.ensures.held in
    least_first (waiting q.rows) (offset (held q.rows) s.row + s.at, s.entry) q.apart c.in_ok-spot.ensures.best ∙ ap (λ es. s.entry ∷ gathered es) (sym items)
