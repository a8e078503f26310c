use Rattle.std.proofs.Common.{◌≡◌, ◌≤◌, ◌/◌, ◌+◌, get_or, arith, sym, subst, ap, ◌∙◌, rules}
use Rattle.std.specs.List.{IsDistinct, AllByRecursion}
use Rattle.std.specs.List.Sorted.{IsStrictlySortedBy}
use Rattle.kit_queue.specs.declared.entry.Entry.{Entry}
use Rattle.kit_queue.specs.Entries.{AreNumberedApart, shares_number, without_buffer}
use Rattle.kit_queue.proofs.Places.{none_settled, has_buffer, buffer_found, no_buffer}
use Rattle.kit_calendar.specs.Rows.{offset, list_at}
use Rattle.kit_calendar.specs.Held.{held, waiting}
use Rattle.kit_calendar.specs.Buckets.{IsArranged, IsFromDay, bucket_cmp, gathered}
use Rattle.kit_calendar.proofs.Gathered.{in_order_gathered, apart_gathered}
use Rattle.kit_calendar.proofs.Calls.{same_messages, settled_gathered, settleable_found, no_settleable}
use Rattle.kit_calendar.proofs.Spotted.{joined_at}
use Rattle.kit_calendar.proofs.Edited.{as_many_lists, waiting_set, dealt_with, bucket_there}
use Rattle.kit_calendar.proofs.calendar.CalendarOrder.settle.Goals as goal

pub returns-in_err-spot-clause-taken : goal.returns-in_err-spot-clause-taken
returns-in_err-spot-clause-taken c =
    let es = waiting c.args.self.now.rows in
    let none = no_buffer c.args.below (gathered es) (no_settleable c.args.below es c.in_err-spot.ensures.best) in
    search rules

pub returns-in_err-spot-clause-rest : goal.returns-in_err-spot-clause-rest
returns-in_err-spot-clause-rest c =
    let es = waiting c.args.self.now.rows in
    sym (none_settled c.args.below (gathered es) (no_settleable c.args.below es c.in_err-spot.ensures.best))

pub returns-in_err-buffer-clause-taken : goal.returns-in_err-buffer-clause-taken
returns-in_err-buffer-clause-taken c = absurd (has_buffer c.args.below c.in_ok-spot.spot.entry c.in_ok-spot.ensures.best.passes c.in_err-buffer.was)

pub returns-in_err-buffer-clause-rest : goal.returns-in_err-buffer-clause-rest
returns-in_err-buffer-clause-rest c = absurd (has_buffer c.args.below c.in_ok-spot.spot.entry c.in_ok-spot.ensures.best.passes c.in_err-buffer.was)

pub invariant_of-self-clause-has_rows : goal.invariant_of-self-clause-has_rows
invariant_of-self-clause-has_rows c = λ l. as_many_lists (held c.args.self.now.rows) (held c.set.new.self) c.in_ok-spot.spot.row _ c.set.ensures.held ∙ c.args.self.now.has_rows (omega (arith, c.set.ensures.most))

pub invariant_of-self-clause-dealt : goal.invariant_of-self-clause-dealt
invariant_of-self-clause-dealt c =
    let q = c.args.self.now in
    let s = c.in_ok-spot.spot in
    let there = c.in_ok-spot.ensures.there in
    let stands : s.entry ≡ get_or (list_at (held q.rows) s.row) s.at s.entry = c.in_ok-spot.ensures.best.stands ∙ joined_at (held q.rows) s.row s.at (offset (held q.rows) s.row + s.at) s.entry there.0 there.1 (omega arith) in
    dealt_with q.width q.buckets (held q.rows) (held c.set.new.self) s.row s.at (without_buffer s.entry) (bucket_there q.width q.buckets (held q.rows) s.row s.at s.entry q.dealt there.1 stands) q.dealt c.set.ensures.held

pub invariant_of-self-clause-arranged : goal.invariant_of-self-clause-arranged
invariant_of-self-clause-arranged c =
    let q = c.args.self.now in
    let s = c.in_ok-spot.spot in
    let best = c.in_ok-spot.ensures.best in
    let items = waiting_set (held q.rows) (held c.set.new.self) s.row s.at (without_buffer s.entry) c.in_ok-spot.ensures.there.0 c.in_ok-spot.ensures.there.1 c.set.ensures.held in
    let same = same_messages (waiting q.rows) (offset (held q.rows) s.row + s.at) (without_buffer s.entry) s.entry best.within (ap (λ (e : Entry). e.message) best.stands) in
    subst (IsArranged q.width q.buckets) (sym items) (subst (IsStrictlySortedBy (bucket_cmp q.width q.buckets)) (sym same) q.arranged)

pub invariant_of-self-clause-from_today : goal.invariant_of-self-clause-from_today
invariant_of-self-clause-from_today c =
    let q = c.args.self.now in
    let s = c.in_ok-spot.spot in
    let best = c.in_ok-spot.ensures.best in
    let items = waiting_set (held q.rows) (held c.set.new.self) s.row s.at (without_buffer s.entry) c.in_ok-spot.ensures.there.0 c.in_ok-spot.ensures.there.1 c.set.ensures.held in
    let same = same_messages (waiting q.rows) (offset (held q.rows) s.row + s.at) (without_buffer s.entry) s.entry best.within (ap (λ (e : Entry). e.message) best.stands) in
    subst (IsFromDay q.width q.today) (sym items) (subst (AllByRecursion (λ m. q.today ≤ m.time / q.width)) (sym same) q.from_today)

pub invariant_of-self-clause-apart : goal.invariant_of-self-clause-apart
invariant_of-self-clause-apart c =
    let q = c.args.self.now in
    let s = c.in_ok-spot.spot in
    let best = c.in_ok-spot.ensures.best in
    let items = waiting_set (held q.rows) (held c.set.new.self) s.row s.at (without_buffer s.entry) c.in_ok-spot.ensures.there.0 c.in_ok-spot.ensures.there.1 c.set.ensures.held in
    let same = same_messages (waiting q.rows) (offset (held q.rows) s.row + s.at) (without_buffer s.entry) s.entry best.within (ap (λ (e : Entry). e.message) best.stands) in
    subst AreNumberedApart (sym items) (subst (IsDistinct shares_number) (sym same) q.apart)

pub invariant_of-self-clause-in_order : goal.invariant_of-self-clause-in_order
invariant_of-self-clause-in_order c = in_order_gathered (waiting c.set.new.self) (invariant_of-self-clause-apart c)

pub invariant_of-self-clause-numbered_apart : goal.invariant_of-self-clause-numbered_apart
invariant_of-self-clause-numbered_apart c = apart_gathered (waiting c.set.new.self) (invariant_of-self-clause-apart c)

pub returns-clause-taken : goal.returns-clause-taken
returns-clause-taken c =
    let q = c.args.self.now in
    let s = c.in_ok-spot.spot in
    sym (buffer_found c.args.below (gathered (waiting q.rows)) s.entry c.in_ok-buffer.buffer (settleable_found c.args.below (waiting q.rows) (offset (held q.rows) s.row + s.at, s.entry) q.apart c.in_ok-spot.ensures.best) c.in_ok-buffer.was)

pub returns-clause-rest : goal.returns-clause-rest
returns-clause-rest c =
    let q = c.args.self.now in
    let s = c.in_ok-spot.spot in
    let items = waiting_set (held q.rows) (held c.set.new.self) s.row s.at (without_buffer s.entry) c.in_ok-spot.ensures.there.0 c.in_ok-spot.ensures.there.1 c.set.ensures.held in
    ap gathered items ∙ settled_gathered c.args.below (waiting q.rows) (offset (held q.rows) s.row + s.at, s.entry) q.apart c.in_ok-spot.ensures.best
