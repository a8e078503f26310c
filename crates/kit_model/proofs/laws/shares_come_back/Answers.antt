use Rattle.kit_model.proofs.Packing.{shares_come_back_law, shares_are_words}
use Rattle.kit_model.proofs.laws.shares_come_back.Goals as goal

pub returns-clause-back : goal.returns-clause-back
returns-clause-back c = shares_come_back_law

pub returns-clause-only : goal.returns-clause-only
returns-clause-only c = shares_are_words
