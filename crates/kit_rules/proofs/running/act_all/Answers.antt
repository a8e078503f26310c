use Rattle.std.proofs.Common.{arith, rules}
use Rattle.std.proofs.lemmas.Result.{err_from_is_err_and}
use Rattle.kit_rules.proofs.Steps.{past_from_here}
use Rattle.kit_rules.proofs.running.act_all.Goals as goal

pub returns-in_err-act : goal.returns-in_err-act
returns-in_err-act c =
    let p = err_from_is_err_and c.from_residual.result c.from_residual.ensures.1 in
    record {
      state = search rules;
      kept = search rules;
      spent = λ e. rw (← c.loop-action.invariant.rest) (past_from_here c.args.scene.now c.loop-action.state c.args.actions.now c.loop-action.action-index 16385 _ (omega arith) (c.in_err-act.ensures.spent (cc (p.1, p.2))));
      room = search rules;
    }
