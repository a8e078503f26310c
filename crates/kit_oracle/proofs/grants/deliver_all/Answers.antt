use Rattle.std.proofs.Common.{◌∙◌, ◌<◌, ◌++◌, List, length, map, drop, ap, sym, subst, arith, rules}
use Rattle.std.proofs.lemmas.Result.{err_from_is_err_and}
use Rattle.kit_base.specs.declared.message.Message.{Message}
use Rattle.kit_base.specs.declared.history.Line.{Line}
use Rattle.kit_base.specs.declared.history.Line.TheVariants as line
use Rattle.kit_rules.specs.declared.scene.State.{State}
use Rattle.kit_oracle.specs.Pending.{front_until}
use Rattle.kit_laws.proofs.Joins.{sent_in_a_row, kept_longer}
use Rattle.kit_oracle.proofs.Observed.{Comes, comes_more, comes_last}
use Rattle.kit_oracle.proofs.Delivering.{front_first, behind_first, behind_none, deliver_first, past_first}
use Rattle.kit_oracle.proofs.grants.deliver_all.Goals as goal

pub loop-message-preserved : goal.loop-message-preserved
loop-message-preserved g c =
    let d = c.args.d in
    let m = c.in-Some.message in
    let q = c.loop-message.queue in
    let rest = c.pop_due.new.self in
    let old = c.loop-message.state in
    let new = c.deliver.new.state in
    let lines : List Message → List Line = map (line.Deliver d c.args.i) in
    let inv = c.loop-message.invariant in record {
      state = deliver_first c.args.federation.now c.args.i d old new q m rest c.in-Some.ensures.some c.in-Some.ensures.due c.in_ok-deliver.ensures.runs.state ∙ inv.state;
      queue = sym (behind_first d q m rest c.in-Some.ensures.some c.in-Some.ensures.due) ∙ inv.queue;
      more = omega (arith, inv.more, kept_longer old.sends new.sends c.deliver.ensures.kept);
      made = c.in_ok-deliver.ensures.runs.made ∙ ap (λ xs. xs ++ drop (length old.sends) new.sends) inv.made
          ∙ sent_in_a_row c.args.made.now.items old.sends new.sends (length c.args.state.now.sends) inv.more c.deliver.ensures.kept;
      lines = comes_more g.O.Observer.shows c.args.observer.now c.loop-message.observer c.deliver.new.observer (line.Deliver d c.args.i m) (lines (front_until d q)) (lines (front_until d c.args.queue.now)) (lines (front_until d rest)) inv.lines c.in_ok-deliver.ensures.lines (ap lines (front_first d q m rest c.in-Some.ensures.some c.in-Some.ensures.due));
    }

pub returns-in_err-deliver-clause-runs : goal.returns-in_err-deliver-clause-runs
returns-in_err-deliver-clause-runs g c =
    let p = err_from_is_err_and c.from_residual.result c.from_residual.ensures.1 in
    let P : State → Type 0 = λ s. 16385 < s.next in
    record {
      state = search rules;
      made = search rules;
      spent = λ e. subst P c.loop-message.invariant.state
          (past_first c.args.federation.now c.args.i c.args.d 16385 c.loop-message.state c.loop-message.queue c.in-Some.message c.pop_due.new.self c.in-Some.ensures.some c.in-Some.ensures.due
          (c.in_err-deliver.ensures.runs.spent (cc (p.1, p.2))));
    }

pub returns-clause-queue : goal.returns-clause-queue
returns-clause-queue g c = c.in_default.ensures.unchanged ∙ sym (behind_none c.args.d c.loop-message.queue c.in_default.ensures.none) ∙ c.loop-message.invariant.queue

pub returns-clause-lines : goal.returns-clause-lines
returns-clause-lines g c =
    let lines : List Message → List Line = map (line.Deliver c.args.d c.args.i) in
    comes_last g.O.Observer.shows c.args.observer.now c.loop-message.observer (lines (front_until c.args.d c.args.queue.now)) (let P : List Message → Type 0 = λ ms. Comes g.O.Observer.shows c.args.observer.now c.loop-message.observer (lines ms) (lines (front_until c.args.d c.args.queue.now)) in subst P c.in_default.ensures.none c.loop-message.invariant.lines)
