use Rattle.kit_lbts.proofs.WithAgreement.{looks_agree, stop_looks_agree, stops_agree}
use Rattle.kit_lbts.proofs.laws.looks_keep_the_rule.Goals as goal

pub returns-clause-looks : goal.returns-clause-looks
returns-clause-looks c = looks_agree

pub returns-clause-stop_looks : goal.returns-clause-stop_looks
returns-clause-stop_looks c = stop_looks_agree

pub returns-clause-stops : goal.returns-clause-stops
returns-clause-stops c = stops_agree
