use Rattle.std.proofs.Common.{◌≡◌, Some, Err}
use Rattle.kit_regions.specs.declared.lowering.RegionEnd.TheVariants.{TooManyRules}
use Rattle.kit_regions.specs.Lowered.{crowded_federate}
use Rattle.kit_file.proofs.plans.lowered_in.Goals as goal

pub returns-in-Err-TooManyRules-clause-exact : goal.returns-in-Err-TooManyRules-clause-exact
returns-in-Err-TooManyRules-clause-exact c =
    let is = c.in-Err-TooManyRules.is in
    let here : c.lower.result ≡ Err (TooManyRules c.in-Err-TooManyRules.federate) = cc in
    let crowded : crowded_federate c.args.plan.now ≡ Some c.in-Err-TooManyRules.federate = (c.lower.ensures.crowded c.in-Err-TooManyRules.federate).0 here in
    rw crowded c.too_many_rules.ensures
