use Rattle.std.proofs.Common.{◌≤◌, ◌/◌, ◌+◌, arith, sym, subst, ap, ◌∙◌, rules}
use Rattle.kit_queue.specs.Entries.{AreNumberedApart, is_numbered}
use Rattle.kit_queue.specs.declared.entry.Entry.{Entry}
use Rattle.kit_queue.proofs.Places.{none_removed}
use Rattle.kit_calendar.specs.Rows.{offset}
use Rattle.kit_calendar.specs.Held.{held, waiting}
use Rattle.kit_calendar.specs.Buckets.{IsArranged, IsFromDay, bucket_cmp, gathered}
use Rattle.kit_calendar.proofs.Gathered.{in_order_gathered, apart_gathered}
use Rattle.kit_calendar.proofs.Arranged.{sorted_remove, apart_remove, each_removed}
use Rattle.kit_calendar.proofs.Calls.{first_sought, none_sought, rest_numbered}
use Rattle.kit_calendar.proofs.Edited.{as_many_lists, waiting_removed, dealt_removed}
use Rattle.kit_calendar.proofs.calendar.CalendarOrder.retract.Goals as goal

pub returns-in_err-spot-clause-taken : goal.returns-in_err-spot-clause-taken
returns-in_err-spot-clause-taken c =
    let none = none_sought (λ (x : Entry). is_numbered c.args.sender c.args.number x.message) (waiting c.args.self.now.rows) c.in_err-spot.ensures.best in
    search rules

pub returns-in_err-spot-clause-rest : goal.returns-in_err-spot-clause-rest
returns-in_err-spot-clause-rest c =
    let es = waiting c.args.self.now.rows in
    sym (none_removed c.args.sender c.args.number (gathered es) (none_sought (λ (x : Entry). is_numbered c.args.sender c.args.number x.message) es c.in_err-spot.ensures.best))

pub invariant_of-self-clause-has_rows : goal.invariant_of-self-clause-has_rows
invariant_of-self-clause-has_rows c = λ l. as_many_lists (held c.args.self.now.rows) (held c.remove.new.self) c.in_ok-spot.spot.row _ c.remove.ensures.held ∙ c.args.self.now.has_rows (omega (arith, c.remove.ensures.most))

pub invariant_of-self-clause-dealt : goal.invariant_of-self-clause-dealt
invariant_of-self-clause-dealt c =
    let q = c.args.self.now in
    let s = c.in_ok-spot.spot in
    dealt_removed q.width q.buckets (held q.rows) (held c.remove.new.self) s.row s.at q.dealt c.remove.ensures.held

pub invariant_of-self-clause-arranged : goal.invariant_of-self-clause-arranged
invariant_of-self-clause-arranged c =
    let q = c.args.self.now in
    let s = c.in_ok-spot.spot in
    let items = waiting_removed (held q.rows) (held c.remove.new.self) s.row s.at c.in_ok-spot.ensures.there.0 c.in_ok-spot.ensures.there.1 c.remove.ensures.held in
    subst (IsArranged q.width q.buckets) (sym items) (sorted_remove (bucket_cmp q.width q.buckets) (waiting q.rows) (offset (held q.rows) s.row + s.at) q.arranged)

pub invariant_of-self-clause-from_today : goal.invariant_of-self-clause-from_today
invariant_of-self-clause-from_today c =
    let q = c.args.self.now in
    let s = c.in_ok-spot.spot in
    let items = waiting_removed (held q.rows) (held c.remove.new.self) s.row s.at c.in_ok-spot.ensures.there.0 c.in_ok-spot.ensures.there.1 c.remove.ensures.held in
    subst (IsFromDay q.width q.today) (sym items) (each_removed (λ m. q.today ≤ m.time / q.width) (waiting q.rows) (offset (held q.rows) s.row + s.at) q.from_today)

pub invariant_of-self-clause-apart : goal.invariant_of-self-clause-apart
invariant_of-self-clause-apart c =
    let q = c.args.self.now in
    let s = c.in_ok-spot.spot in
    let items = waiting_removed (held q.rows) (held c.remove.new.self) s.row s.at c.in_ok-spot.ensures.there.0 c.in_ok-spot.ensures.there.1 c.remove.ensures.held in
    subst AreNumberedApart (sym items) (apart_remove (waiting q.rows) (offset (held q.rows) s.row + s.at) q.apart)

pub invariant_of-self-clause-in_order : goal.invariant_of-self-clause-in_order
invariant_of-self-clause-in_order c = in_order_gathered (waiting c.remove.new.self) (invariant_of-self-clause-apart c)

pub invariant_of-self-clause-numbered_apart : goal.invariant_of-self-clause-numbered_apart
invariant_of-self-clause-numbered_apart c = apart_gathered (waiting c.remove.new.self) (invariant_of-self-clause-apart c)

pub returns-clause-taken : goal.returns-clause-taken
returns-clause-taken c =
    let q = c.args.self.now in
    let s = c.in_ok-spot.spot in
    sym (first_sought (λ (x : Entry). is_numbered c.args.sender c.args.number x.message) (waiting q.rows) (offset (held q.rows) s.row + s.at, s.entry) q.apart c.in_ok-spot.ensures.best)

pub returns-clause-rest : goal.returns-clause-rest
returns-clause-rest c =
    let q = c.args.self.now in
    let s = c.in_ok-spot.spot in
    let items = waiting_removed (held q.rows) (held c.remove.new.self) s.row s.at c.in_ok-spot.ensures.there.0 c.in_ok-spot.ensures.there.1 c.remove.ensures.held in
    ap gathered items ∙ sym (rest_numbered c.args.sender c.args.number (waiting q.rows) (offset (held q.rows) s.row + s.at, s.entry) q.apart c.in_ok-spot.ensures.best)
