use Rattle.kit_lbts.proofs.SeatFacts.{dues_go_by_first, places_tell, dues_are_ahead, copies_are_few, next_shares_fit, receipts_are_near}
use Rattle.kit_lbts.proofs.laws.places_tell.Goals as goal

pub returns-clause-tell : goal.returns-clause-tell
returns-clause-tell c = places_tell

pub returns-clause-due : goal.returns-clause-due
returns-clause-due c = dues_are_ahead

pub returns-clause-few : goal.returns-clause-few
returns-clause-few c = copies_are_few

pub returns-clause-fit : goal.returns-clause-fit
returns-clause-fit c = next_shares_fit

pub returns-clause-near : goal.returns-clause-near
returns-clause-near c = receipts_are_near

pub returns-clause-first : goal.returns-clause-first
returns-clause-first c = dues_go_by_first
