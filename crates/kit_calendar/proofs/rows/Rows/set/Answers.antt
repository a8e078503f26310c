use Rattle.std.proofs.Common.{length, set, sym, ap, ◌∙◌, subst}
use Rattle.kit_calendar.specs.Rows.{lists, joined, list_at, AreWithin}
use Rattle.kit_calendar.proofs.Joined.{count_set}
use Rattle.kit_calendar.proofs.Changed.{as_many, list_is, lists_changed, set_same}
use Rattle.kit_calendar.proofs.rows.Rows.set.Goals as goal

pub invariant_of-self-clause-within : goal.invariant_of-self-clause-within
invariant_of-self-clause-within c = subst (λ n. AreWithin n c.args.self.now.rows.items) (sym c.set_at.ensures.len) c.args.self.now.within

pub invariant_of-self-clause-apart : goal.invariant_of-self-clause-apart
invariant_of-self-clause-apart c = c.args.self.now.apart

pub invariant_of-self-clause-counted : goal.invariant_of-self-clause-counted
invariant_of-self-clause-counted c =
    let q = c.args.self.now in
    let old = q.places.items in
    let l = as_many old q.rows.items c.args.index c.requires.index in
    let r = c.index-row.result.now in
    let ls = lists old q.rows.items in
    let is = lists_changed old c.set_at.new.places.items q.rows.items c.args.index r r (set (list_at ls c.args.index) c.args.at c.args.entry) l c.index-row.ensures q.within q.apart c.set_at.ensures.before c.set_at.ensures.behind (c.set_at.ensures.row ∙ ap (λ es. set es c.args.at c.args.entry) (sym (list_is old q.rows.items c.args.index r l c.index-row.ensures))) in
    q.counted
    ∙ sym (count_set ls c.args.index c.args.at c.args.entry c.requires.index c.requires.at)
    ∙ sym (ap (λ ks. length (joined ks)) is)
    ∙ ap (λ rs. length (joined (lists c.set_at.new.places.items rs))) (set_same q.rows.items c.args.index r c.index-row.ensures)

pub returns-clause-held : goal.returns-clause-held
returns-clause-held c =
    let q = c.args.self.now in
    let old = q.places.items in
    let l = as_many old q.rows.items c.args.index c.requires.index in
    let r = c.index-row.result.now in
    sym (ap (lists c.set_at.new.places.items) (set_same q.rows.items c.args.index r c.index-row.ensures))
    ∙ lists_changed old c.set_at.new.places.items q.rows.items c.args.index r r _ l c.index-row.ensures q.within q.apart c.set_at.ensures.before c.set_at.ensures.behind (c.set_at.ensures.row ∙ ap (λ es. set es c.args.at c.args.entry) (sym (list_is old q.rows.items c.args.index r l c.index-row.ensures)))
