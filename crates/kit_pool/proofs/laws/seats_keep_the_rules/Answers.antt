use Rattle.kit_pool.proofs.GuestSteps.{sees}
use Rattle.kit_pool.proofs.Joining.{joins}
use Rattle.kit_pool.proofs.SeatSteps.{finds, finds_zero, stores}
use Rattle.kit_pool.proofs.Splitting.{opens, splits}
use Rattle.kit_pool.proofs.laws.seats_keep_the_rules.Goals as goal

pub returns-clause-steps : goal.returns-clause-steps
returns-clause-steps g c = λ n b front. finds g.P.Protocol.rule n b front

pub returns-clause-zeros : goal.returns-clause-zeros
returns-clause-zeros g c = λ n b front. finds_zero g.P.Protocol.rule n b front

pub returns-clause-stores : goal.returns-clause-stores
returns-clause-stores g c = λ n b front. stores g.P.Protocol.rule n b front

pub returns-clause-looks : goal.returns-clause-looks
returns-clause-looks g c = λ n b front. sees g.P.Protocol.rule n b front

pub returns-clause-cut : goal.returns-clause-cut
returns-clause-cut g c = splits g.P.Protocol.rule

pub returns-clause-taken_in : goal.returns-clause-taken_in
returns-clause-taken_in g c = joins g.P.Protocol.rule

pub returns-clause-opening : goal.returns-clause-opening
returns-clause-opening g c = opens g.P.Protocol.rule
