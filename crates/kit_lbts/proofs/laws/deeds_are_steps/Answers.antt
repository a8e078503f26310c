use Rattle.kit_lbts.proofs.AsideSteps.{asides_leave_ledgers}
use Rattle.kit_lbts.proofs.PostSteps.{posts_are}
use Rattle.kit_lbts.proofs.ReceiptSteps.{receipts_are}
use Rattle.kit_lbts.proofs.ReadySteps.{ready_is, collects_are, grants_are}
use Rattle.kit_lbts.proofs.Contributions.{contributions_are}
use Rattle.kit_lbts.proofs.laws.deeds_are_steps.Goals as goal

pub returns-clause-asides : goal.returns-clause-asides
returns-clause-asides c = asides_leave_ledgers

pub returns-clause-posts : goal.returns-clause-posts
returns-clause-posts c = posts_are

pub returns-clause-receipts : goal.returns-clause-receipts
returns-clause-receipts c = receipts_are

pub returns-clause-ready : goal.returns-clause-ready
returns-clause-ready c = ready_is

pub returns-clause-collects : goal.returns-clause-collects
returns-clause-collects c = collects_are

pub returns-clause-grants : goal.returns-clause-grants
returns-clause-grants c = grants_are

pub returns-clause-contributions : goal.returns-clause-contributions
returns-clause-contributions c = contributions_are
