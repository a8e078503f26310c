use Rattle.std.proofs.Common.{◌≡◌, length, arith, ap, ◌∙◌, subst}
use Rattle.std.proofs.lemmas.List.{length-map}
use Rattle.kit_calendar.specs.Rows.{row_of, lists, joined, offset}
use Rattle.kit_calendar.specs.Least.{IsBestOf}
use Rattle.kit_calendar.specs.Spots.{is_sought, placed}
use Rattle.kit_calendar.proofs.Spotted.{offset_all}
use Rattle.kit_calendar.proofs.calendar.best_of.Goals as goal

pub best_of_row-best-requires-clause-row : goal.best_of_row-best-requires-clause-row
best_of_row-best-requires-clause-row c =
    let q = c.args.rows.now in
    omega (arith, length-map q.rows.items (row_of q.places.items))

pub returns-clause-best : goal.returns-clause-best
returns-clause-best c =
    let q = c.args.rows.now in
    let ls = lists q.places.items q.rows.items in
    let last : c.loop-row.row ≡ length ls = omega (arith, length-map q.rows.items (row_of q.places.items)) in
    subst (λ n. IsBestOf (is_sought c.args.sought) (joined ls) n (placed ls c.loop-row.best)) (ap (offset ls) last ∙ offset_all ls) c.loop-row.invariant.best
