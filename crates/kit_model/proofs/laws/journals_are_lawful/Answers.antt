use Rattle.kit_model.proofs.Lawful.{empty_is_lawful, pushes_are_lawful, receipts_are_lawful, deliveries_are_lawful, grants_are_lawful, others_keep_the_time, fronts_are_lawful}
use Rattle.kit_model.proofs.laws.journals_are_lawful.Goals as goal

pub returns-clause-empty : goal.returns-clause-empty
returns-clause-empty c = empty_is_lawful

pub returns-clause-pushed : goal.returns-clause-pushed
returns-clause-pushed c = pushes_are_lawful

pub returns-clause-received : goal.returns-clause-received
returns-clause-received c = receipts_are_lawful

pub returns-clause-delivered : goal.returns-clause-delivered
returns-clause-delivered c = deliveries_are_lawful

pub returns-clause-granted : goal.returns-clause-granted
returns-clause-granted c = grants_are_lawful

pub returns-clause-same_time : goal.returns-clause-same_time
returns-clause-same_time c = others_keep_the_time

pub returns-clause-front : goal.returns-clause-front
returns-clause-front c = fronts_are_lawful
