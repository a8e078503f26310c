-- the conditions so far hold, so all hold where the rest do
use Rattle.std.proofs.Common.{◌≡◌, drop}
use Rattle.kit_rules.specs.Step.{conditions_hold}
use Rattle.kit_rules.proofs.act.are_met.Given as goal

abbrev pub invariant-loop-cond : goal.invariant-loop-cond
invariant-loop-cond l = conditions_hold l.scene l.vars (drop l.cond-index l.conds) ≡ conditions_hold l.scene l.vars l.conds
