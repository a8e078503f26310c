use Rattle.std.proofs.Common.{◌∙◌, ℕ, Bool, true, false, nat_eq, sym, ap, ◌++◌, ◌∷◌, [], slice_index_or}
use Rattle.std.proofs.lemmas.Bool.{eq-eqb, ne_eqb}
use Rattle.std.proofs.lemmas.List.{append-nil, get_or_default}
use Rattle.kit_regions.specs.declared.region.Update.{Update}
use Rattle.kit_regions.specs.Plan.{no_update}
use Rattle.kit_regions.proofs.Growing.{rules_more}
use Rattle.kit_regions.proofs.lowering.add_for_updates.Goals.{then-update-group+in_ok-rule_on+in_ok-push, else-update-group}
use Rattle.kit_regions.proofs.lowering.add_for_updates.Goals as goal

pub loop-u-preserved : goal.loop-u-preserved
loop-u-preserved c =
    let p : ℕ → Bool = λ u. nat_eq (slice_index_or c.args.updates.now u no_update).group c.args.group in
    let is = ap (λ (u : Update). u.group) (c.index-updates-u.is ∙ get_or_default c.args.updates.now c.loop-u.u c.index-updates-u.result no_update c.loop-u-test.true) in
    elim c.if-update-group.branch [
      | then-update-group+in_ok-rule_on+in_ok-push w ↦ w.made-is ∙ w.in_ok-push.ensures.ok
          ∙ ap (λ r. c.loop-u.made ++ r ∷ []) w.in_ok-rule_on.ensures
          ∙ rules_more p c.args.rule.now c.args.made.now c.loop-u.made c.loop-u.u true (eq-eqb _ c.args.group (sym is ∙ w.if-update-group.true)) c.loop-u.invariant
      | else-update-group w ↦ w.made-is ∙ sym (append-nil c.loop-u.made)
          ∙ rules_more p c.args.rule.now c.args.made.now c.loop-u.made c.loop-u.u false (ne_eqb _ c.args.group (λ e. w.if-update-group.false (is ∙ e))) c.loop-u.invariant
    ]
