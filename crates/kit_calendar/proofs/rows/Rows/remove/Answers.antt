use Rattle.std.proofs.Common.{◌≡◌, ◌-◌, ◌≤◌, length, set, arith, refl, sym, ap, ◌∙◌}
use Rattle.std.specs.List.{remove}
use Rattle.kit_calendar.specs.declared.row.Row.{Row}
use Rattle.kit_calendar.specs.Rows.{lists, joined, list_at}
use Rattle.kit_calendar.proofs.Joined.{offset_within, count_remove}
use Rattle.kit_calendar.proofs.Changed.{as_many, row_within, list_is, lists_changed, within_changed, apart_changed}
use Rattle.kit_calendar.proofs.rows.Rows.remove.Goals as goal

pub overflow_sub-self : goal.overflow_sub-self
overflow_sub-self c =
    let q = c.args.self.now in
    let ls = lists q.places.items q.rows.items in
    omega (arith, offset_within ls c.args.index c.requires.index, c.requires.at, q.counted)

pub invariant_of-self-clause-within : goal.invariant_of-self-clause-within
invariant_of-self-clause-within c =
    let q = c.args.self.now in
    let l = as_many q.places.items q.rows.items c.args.index c.requires.index in
    let r = c.index-row.result.now in
    let w = row_within (length q.places.items) q.rows.items c.args.index r l c.index-row.ensures q.within in
    within_changed (length q.places.items) _ q.rows.items c.args.index _ c.remove_at.ensures.len (omega (arith, w.0), w.1) q.within

pub invariant_of-self-clause-apart : goal.invariant_of-self-clause-apart
invariant_of-self-clause-apart c =
    let q = c.args.self.now in
    let l = as_many q.places.items q.rows.items c.args.index c.requires.index in
    apart_changed q.rows.items c.args.index c.index-row.result.now _ l c.index-row.ensures refl refl q.apart

pub invariant_of-self-clause-counted : goal.invariant_of-self-clause-counted
invariant_of-self-clause-counted c =
    let q = c.args.self.now in
    let old = q.places.items in
    let l = as_many old q.rows.items c.args.index c.requires.index in
    let r = c.index-row.result.now in
    let ls = lists old q.rows.items in
    let then : Row = record { start = r.start; len = r.len - 1; room = r.room } in
    let is = lists_changed old c.remove_at.new.places.items q.rows.items c.args.index r then (remove (list_at ls c.args.index) c.args.at) l c.index-row.ensures q.within q.apart c.remove_at.ensures.before c.remove_at.ensures.behind (c.remove_at.ensures.row ∙ ap (λ es. remove es c.args.at) (sym (list_is old q.rows.items c.args.index r l c.index-row.ensures))) in
    let fewer = count_remove ls c.args.index c.args.at c.requires.index c.requires.at in
    let less : q.count - 1 ≡ length (joined (set ls c.args.index (remove (list_at ls c.args.index) c.args.at))) = omega (arith, fewer, q.counted) in
    less ∙ sym (ap (λ ks. length (joined ks)) is)

pub returns-clause-held : goal.returns-clause-held
returns-clause-held c =
    let q = c.args.self.now in
    let old = q.places.items in
    let l = as_many old q.rows.items c.args.index c.requires.index in
    let r = c.index-row.result.now in
    lists_changed old c.remove_at.new.places.items q.rows.items c.args.index r _ _ l c.index-row.ensures q.within q.apart c.remove_at.ensures.before c.remove_at.ensures.behind (c.remove_at.ensures.row ∙ ap (λ es. remove es c.args.at) (sym (list_is old q.rows.items c.args.index r l c.index-row.ensures)))

pub returns-clause-count : goal.returns-clause-count
returns-clause-count c =
    let q = c.args.self.now in
    let ls = lists q.places.items q.rows.items in
    let one : 1 ≤ q.count = omega (arith, offset_within ls c.args.index c.requires.index, c.requires.at, q.counted) in
    omega arith
