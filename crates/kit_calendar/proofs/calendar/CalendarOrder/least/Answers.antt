use Rattle.std.proofs.Common.{◌+◌, ap, sym}
use Rattle.kit_queue.specs.Entries.{first_time}
use Rattle.kit_calendar.specs.Rows.{offset}
use Rattle.kit_calendar.specs.Held.{held, waiting}
use Rattle.kit_calendar.proofs.Calls.{least_first}
use Rattle.kit_calendar.proofs.calendar.CalendarOrder.least.Goals as goal

pub returns-clause-first : goal.returns-clause-first
returns-clause-first c =
    let q = c.args.self.now in
    let s = c.in_ok-spot.spot in
    sym (ap first_time (least_first (waiting q.rows) (offset (held q.rows) s.row + s.at, s.entry) q.apart c.in_ok-spot.ensures.best))

pub returns-clause-none : goal.returns-clause-none
returns-clause-none c =
    let q = c.args.self.now in
    let s = c.in_ok-spot.spot in
    let first = least_first (waiting q.rows) (offset (held q.rows) s.row + s.at, s.entry) q.apart c.in_ok-spot.ensures.best in
    ((λ h. cc), (λ h. cc))
