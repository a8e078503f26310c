use Rattle.kit_file.proofs.KeysMean.{plans_mean, others_have_none, same_faults}
use Rattle.kit_file.proofs.laws.plans_mean.Goals as goal

pub returns-clause-lowered : goal.returns-clause-lowered
returns-clause-lowered c = plans_mean

pub returns-clause-none : goal.returns-clause-none
returns-clause-none c = others_have_none

pub returns-clause-faults : goal.returns-clause-faults
returns-clause-faults c = same_faults
