use Rattle.std.proofs.Common.{◌∙◌, ap, length, drop, ◌++◌, rules}
use Rattle.std.proofs.lemmas.Result.{err_from_is_err_and, on_ok_weaker}
use Rattle.kit_laws.proofs.Joins.{sent_in_a_row, deliveries_longer, past_from_deliveries}
use Rattle.kit_oracle.specs.Pending.{front_until}
use Rattle.kit_oracle.proofs.grants.run_block.Goals as goal

pub returns-in_err-deliver_all-clause-runs : goal.returns-in_err-deliver_all-clause-runs
returns-in_err-deliver_all-clause-runs g c =
    let p = err_from_is_err_and c.from_residual.result c.from_residual.ensures.1 in
    record {
      state = search rules;
      made = search rules;
      spent = λ e. past_from_deliveries c.args.federation.now c.args.i c.args.d 16385 c.args.state.now (front_until c.args.d c.args.queue.now) (c.in_err-deliver_all.ensures.runs.spent (cc (p.1, p.2)));
    }

pub returns-clause-runs : goal.returns-clause-runs
returns-clause-runs g c =
    record {
      state = search rules;
      made = on_ok_weaker c.apply.result (λ e. e ∙ ap (λ xs. xs ++ drop (length c.deliver_all.new.state.sends) c.apply.new.state.sends) c.in_ok-deliver_all.ensures.runs.made
          ∙ sent_in_a_row _ c.deliver_all.new.state.sends c.apply.new.state.sends _
          (deliveries_longer c.args.federation.now c.args.i c.args.d c.args.state.now c.deliver_all.new.state (front_until c.args.d c.args.queue.now) c.in_ok-deliver_all.ensures.runs.state) c.apply.ensures.comes.kept)
          c.apply.ensures.sends;
      spent = search rules;
    }
