use Rattle.std.proofs.Common.{sym, ◌∙◌, subst}
use Rattle.kit_calendar.specs.Rows.{lists, joined}
use Rattle.kit_calendar.specs.Buckets.{IsFromDay}
use Rattle.kit_calendar.specs.Spots.{placed}
use Rattle.kit_calendar.proofs.Days.{from_best}
use Rattle.kit_calendar.proofs.Spotted.{day_placed}
use Rattle.kit_calendar.proofs.calendar.first_day.Goals as goal

pub returns : goal.returns
returns c =
    let q = c.args.rows.now in
    let ls = lists q.places.items q.rows.items in
    subst (λ day. IsFromDay c.args.width day (joined ls)) (sym (c.day_of.ensures ∙ day_placed c.args.width ls c.best_of.result)) (from_best c.args.width (joined ls) (placed ls c.best_of.result) c.requires c.best_of.ensures.best)
