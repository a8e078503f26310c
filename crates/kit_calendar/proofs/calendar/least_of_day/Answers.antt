use Rattle.std.proofs.Common.{◌≡◌, ◌%◌, ◌<◌, length, get_or, sym, ◌∙◌, subst}
use Rattle.kit_calendar.specs.Rows.{lists, joined}
use Rattle.kit_calendar.specs.Least.{IsLeastOfDay}
use Rattle.kit_calendar.specs.Spots.{placed}
use Rattle.kit_calendar.proofs.Spotted.{none_in_list, not_first, is_first, is_row, no_entries}
use Rattle.kit_calendar.proofs.calendar.least_of_day.Goals as goal

pub returns-in_err-entry-clause-least : goal.returns-in_err-entry-clause-least
returns-in_err-entry-clause-least c =
    let q = c.args.rows.now in
    let ls = lists q.places.items q.rows.items in
    let empty = sym c.row.ensures ∙ no_entries c.row.result.now c.in_err-entry.ensures.item.3 in
    subst (λ b. IsLeastOfDay c.args.width c.args.day (joined ls) (placed ls b)) (sym c.from_residual.ensures) (none_in_list c.args.width c.args.buckets c.args.day ls c.requires.dealt empty c.requires.from)

pub returns-then-entry-width-clause-least : goal.returns-then-entry-width-clause-least
returns-then-entry-width-clause-least c =
    let q = c.args.rows.now in
    let ls = lists q.places.items q.rows.items in
    let row = c.args.day % c.args.buckets in
    let e = c.in_ok-entry.field-0.now in
    let m = subst (λ es. 0 < length es) c.row.ensures c.in_ok-entry.ensures.item.3.0 in
    let h = subst (λ es. e ≡ get_or es 0 e) c.row.ensures c.in_ok-entry.ensures.item.1 in
    not_first c.args.width c.args.buckets c.args.day ls e c.requires.width c.requires.dealt c.requires.arranged c.requires.from (is_row ls row m) m h c.if-entry-width.true

pub returns-clause-least : goal.returns-clause-least
returns-clause-least c =
    let q = c.args.rows.now in
    let ls = lists q.places.items q.rows.items in
    let row = c.args.day % c.args.buckets in
    let e = c.in_ok-entry.field-0.now in
    let m = subst (λ es. 0 < length es) c.row.ensures c.in_ok-entry.ensures.item.3.0 in
    let h = subst (λ es. e ≡ get_or es 0 e) c.row.ensures c.in_ok-entry.ensures.item.1 in
    is_first c.args.width c.args.buckets c.args.day ls e c.requires.width c.requires.dealt c.requires.arranged c.requires.from (is_row ls row m) m h c.if-entry-width.false

pub returns-clause-there : goal.returns-clause-there
returns-clause-there c =
    let q = c.args.rows.now in
    let ls = lists q.places.items q.rows.items in
    let m = subst (λ es. 0 < length es) c.row.ensures c.in_ok-entry.ensures.item.3.0 in
    (is_row ls (c.args.day % c.args.buckets) m, m)
