use Rattle.std.proofs.Common.{sym, subst, arith, rules}
use Rattle.kit_rules.specs.declared.table.Rule.{Rule}
use Rattle.kit_rules.specs.Step.{CanRun}
use Rattle.std.proofs.lemmas.Result.{err_from_is_err_and}
use Rattle.kit_rules.proofs.Steps.{kept_on, past_from_rule}
use Rattle.kit_rules.proofs.running.apply_rules.Goals as goal

pub returns-in_err-apply_rule : goal.returns-in_err-apply_rule
returns-in_err-apply_rule c =
    let p = err_from_is_err_and c.from_residual.result c.from_residual.ensures.1 in
    record {
      state = search rules;
      kept = kept_on c.args.state.now.sends c.loop-rule.state.sends _ c.loop-rule.invariant.kept c.in_err-apply_rule.ensures.kept;
      spent = λ e. rw (← c.loop-rule.invariant.rest) (past_from_rule c.args.scene.now c.args.on c.loop-rule.state c.args.rules.now c.loop-rule.rule-index 16385 c.rule-item.result (omega arith) c.rule-item.is (c.in_err-apply_rule.ensures.spent (cc (p.1, p.2))));
      room = search rules;
    }

pub apply_rule-requires-clause-rule : goal.apply_rule-requires-clause-rule
apply_rule-requires-clause-rule c =
    let P : Rule → Type 0 = λ r. CanRun c.args.scene.now.lookahead r in
    subst P (sym c.rule-item.is) (c.requires.rules c.loop-rule.rule-index c.rule-item.result (omega arith))
