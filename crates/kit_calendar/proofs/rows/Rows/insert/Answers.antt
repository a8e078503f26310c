use Rattle.std.proofs.Common.{◌+◌, ◌<◌, ◌≤◌, length, set, arith, refl, sym, ap, ◌∙◌, subst}
use Rattle.std.specs.List.{insert}
use Rattle.kit_calendar.specs.declared.row.Row.{Row}
use Rattle.kit_calendar.specs.Rows.{lists, joined, list_at}
use Rattle.kit_calendar.proofs.Joined.{count_insert}
use Rattle.kit_calendar.proofs.Changed.{as_many, row_within, list_is, lists_changed, within_changed, apart_changed}
use Rattle.kit_calendar.proofs.rows.Rows.insert.Goals as goal

pub invariant_of-self-clause-within : goal.invariant_of-self-clause-within
invariant_of-self-clause-within c =
    let q = c.widen.new.self in
    let i = c.args.index in
    let there : i < length (lists q.places.items q.rows.items) = subst (λ ls. i < length ls) (sym c.widen.ensures.held) c.requires.index in
    let l = as_many q.places.items q.rows.items i there in
    let r = c.index-row.result.now in
    let w = row_within (length q.places.items) q.rows.items i r l c.index-row.ensures q.within in
    let room = subst (λ (x : Row). x.len < x.room) (sym c.index-row.ensures) (c.widen.ensures.room r) in
    within_changed (length q.places.items) _ q.rows.items i _ c.insert_at.ensures.len (omega (arith, room), w.1) q.within

pub invariant_of-self-clause-apart : goal.invariant_of-self-clause-apart
invariant_of-self-clause-apart c =
    let q = c.widen.new.self in
    let i = c.args.index in
    let there : i < length (lists q.places.items q.rows.items) = subst (λ ls. i < length ls) (sym c.widen.ensures.held) c.requires.index in
    apart_changed q.rows.items i c.index-row.result.now _ (as_many q.places.items q.rows.items i there) c.index-row.ensures refl refl q.apart

pub invariant_of-self-clause-counted : goal.invariant_of-self-clause-counted
invariant_of-self-clause-counted c =
    let q = c.widen.new.self in
    let i = c.args.index in
    let old = q.places.items in
    let ls = lists old q.rows.items in
    let there : i < length ls = subst (λ ks. i < length ks) (sym c.widen.ensures.held) c.requires.index in
    let at : c.args.at ≤ length (list_at ls i) = subst (λ ks. c.args.at ≤ length (list_at ks i)) (sym c.widen.ensures.held) c.requires.at in
    let l = as_many old q.rows.items i there in
    let r = c.index-row.result.now in
    let then : Row = record { start = r.start; len = r.len + 1; room = r.room } in
    let is = lists_changed old c.insert_at.new.places.items q.rows.items i r then (insert (list_at ls i) c.args.at c.args.entry) l c.index-row.ensures q.within q.apart c.insert_at.ensures.before c.insert_at.ensures.behind (c.insert_at.ensures.row ∙ ap (λ es. insert es c.args.at c.args.entry) (sym (list_is old q.rows.items i r l c.index-row.ensures))) in
    ap (λ n. n + 1) q.counted ∙ sym (count_insert ls i c.args.at c.args.entry there at) ∙ sym (ap (λ ks. length (joined ks)) is)

pub returns-clause-held : goal.returns-clause-held
returns-clause-held c =
    let q = c.widen.new.self in
    let i = c.args.index in
    let old = q.places.items in
    let there : i < length (lists old q.rows.items) = subst (λ ks. i < length ks) (sym c.widen.ensures.held) c.requires.index in
    let l = as_many old q.rows.items i there in
    let r = c.index-row.result.now in
    lists_changed old c.insert_at.new.places.items q.rows.items i r _ _ l c.index-row.ensures q.within q.apart c.insert_at.ensures.before c.insert_at.ensures.behind (c.insert_at.ensures.row ∙ ap (λ es. insert es c.args.at c.args.entry) (sym (list_is old q.rows.items i r l c.index-row.ensures)))
    ∙ ap (λ ks. set ks i (insert (list_at ks i) c.args.at c.args.entry)) c.widen.ensures.held
