use Rattle.std.proofs.Common.{◌∙◌, ap, length, rules}
use Rattle.kit_oracle.proofs.Outstanding.{needs_are}
use Rattle.kit_oracle.proofs.Progress.{spent_within}
use Rattle.kit_oracle.proofs.simulation.need.Goals as goal

pub returns-clause-needs : goal.returns-clause-needs
returns-clause-needs c = c.most.ensures ∙ needs_are c.args.federation.now c.run_all.new.observer.times.items c.run_all.new.observer.most.items c.in_ok-run_all.ensures.shows

pub returns-clause-each : goal.returns-clause-each
returns-clause-each c = ap length c.most.ensures ∙ c.in_ok-run_all.ensures.shows.each_most

pub returns-in_err-desks-clause-within : goal.returns-in_err-desks-clause-within
returns-in_err-desks-clause-within c = spent_within c.args.federation.now c.from_residual.result c.in_err-desks.ensures.sound (search rules)

pub returns-in_err-run_all-clause-within : goal.returns-in_err-run_all-clause-within
returns-in_err-run_all-clause-within c = spent_within c.args.federation.now c.from_residual-in_err-run_all.result c.in_ok-desks.ensures.sound (search rules)
