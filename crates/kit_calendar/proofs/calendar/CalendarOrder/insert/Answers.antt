use Rattle.std.proofs.Common.{◌≡◌, length, arith, sym, ap, ◌∙◌, subst}
use Rattle.kit_queue.specs.Entries.{AreNumberedApart, put_entry, entry_of}
use Rattle.kit_calendar.specs.Held.{held, waiting}
use Rattle.kit_calendar.specs.Buckets.{IsDealt, IsArranged, IsFromDay, bucket_cmp, gathered, put_by}
use Rattle.kit_calendar.proofs.Arranged.{apart_put_by}
use Rattle.kit_calendar.proofs.Calls.{is_new, arranged_put, gathered_put}
use Rattle.kit_calendar.proofs.Days.{from_put}
use Rattle.kit_calendar.proofs.Gathered.{in_order_gathered, apart_gathered}
use Rattle.kit_calendar.proofs.calendar.CalendarOrder.insert.Goals as goal

pub put-requires-clause-rows : goal.put-requires-clause-rows
put-requires-clause-rows c =
    let q = c.make_room.new.self in
    let len : length (held q.rows) ≡ q.buckets = q.has_rows (omega (arith, c.in_ok-make_room.ensures.room)) in
    omega (arith, len, q.has_buckets)

pub put-requires-clause-dealt : goal.put-requires-clause-dealt
put-requires-clause-dealt c =
    let q = c.make_room.new.self in
    let len : length (held q.rows) ≡ q.buckets = q.has_rows (omega (arith, c.in_ok-make_room.ensures.room)) in
    subst (λ n. IsDealt q.width n 0 (held q.rows)) (sym len) q.dealt

pub put-requires-clause-arranged : goal.put-requires-clause-arranged
put-requires-clause-arranged c =
    let q = c.make_room.new.self in
    let len : length (held q.rows) ≡ q.buckets = q.has_rows (omega (arith, c.in_ok-make_room.ensures.room)) in
    subst (λ n. IsArranged q.width n (waiting q.rows)) (sym len) q.arranged

pub invariant_of-self-clause-has_rows : goal.invariant_of-self-clause-has_rows
invariant_of-self-clause-has_rows c =
    let q = c.make_room.new.self in
    λ l. c.put.ensures.rows ∙ q.has_rows (omega (arith, c.in_ok-make_room.ensures.room))

pub invariant_of-self-clause-dealt : goal.invariant_of-self-clause-dealt
invariant_of-self-clause-dealt c =
    let q = c.make_room.new.self in
    let len : length (held q.rows) ≡ q.buckets = q.has_rows (omega (arith, c.in_ok-make_room.ensures.room)) in
    subst (λ n. IsDealt q.width n 0 (held c.put.new.rows)) len c.put.ensures.dealt

pub invariant_of-self-clause-arranged : goal.invariant_of-self-clause-arranged
invariant_of-self-clause-arranged c =
    let q = c.make_room.new.self in
    let e = c.args.entry in
    let es = waiting q.rows in
    let len : length (held q.rows) ≡ q.buckets = q.has_rows (omega (arith, c.in_ok-make_room.ensures.room)) in
    let items = c.put.ensures.waiting ∙ ap (λ n. put_by (bucket_cmp q.width n) e es) len in
    let free = ap (entry_of e.message.sender e.message.number) c.in_ok-make_room.ensures.same ∙ c.requires in
    subst (IsArranged q.width q.buckets) (sym items) (arranged_put q.width q.buckets e es (is_new e es free) q.arranged)

pub invariant_of-self-clause-from_today : goal.invariant_of-self-clause-from_today
invariant_of-self-clause-from_today c =
    let q = c.make_room.new.self in
    let e = c.args.entry in
    let es = waiting q.rows in
    let len : length (held q.rows) ≡ q.buckets = q.has_rows (omega (arith, c.in_ok-make_room.ensures.room)) in
    let items = c.put.ensures.waiting ∙ ap (λ n. put_by (bucket_cmp q.width n) e es) len in
    subst (IsFromDay q.width c.min-self.result) (sym items) (from_put (bucket_cmp q.width q.buckets) q.width q.today c.min-self.result e es (omega (arith, c.min-self.ensures)) (omega (arith, c.min-self.ensures)) q.from_today)

pub invariant_of-self-clause-apart : goal.invariant_of-self-clause-apart
invariant_of-self-clause-apart c =
    let q = c.make_room.new.self in
    let e = c.args.entry in
    let es = waiting q.rows in
    let len : length (held q.rows) ≡ q.buckets = q.has_rows (omega (arith, c.in_ok-make_room.ensures.room)) in
    let items = c.put.ensures.waiting ∙ ap (λ n. put_by (bucket_cmp q.width n) e es) len in
    let free = ap (entry_of e.message.sender e.message.number) c.in_ok-make_room.ensures.same ∙ c.requires in
    subst AreNumberedApart (sym items) (apart_put_by (bucket_cmp q.width q.buckets) e es (is_new e es free) q.apart)

pub invariant_of-self-clause-in_order : goal.invariant_of-self-clause-in_order
invariant_of-self-clause-in_order c = in_order_gathered (waiting c.put.new.rows) (invariant_of-self-clause-apart c)

pub invariant_of-self-clause-numbered_apart : goal.invariant_of-self-clause-numbered_apart
invariant_of-self-clause-numbered_apart c = apart_gathered (waiting c.put.new.rows) (invariant_of-self-clause-apart c)

pub returns-clause-ok : goal.returns-clause-ok
returns-clause-ok c =
    let q = c.make_room.new.self in
    let e = c.args.entry in
    let es = waiting q.rows in
    let len : length (held q.rows) ≡ q.buckets = q.has_rows (omega (arith, c.in_ok-make_room.ensures.room)) in
    let items = c.put.ensures.waiting ∙ ap (λ n. put_by (bucket_cmp q.width n) e es) len in
    let free = ap (entry_of e.message.sender e.message.number) c.in_ok-make_room.ensures.same ∙ c.requires in
    ap gathered items ∙ gathered_put q.width q.buckets e es (is_new e es free) ∙ ap (put_entry e) c.in_ok-make_room.ensures.same
