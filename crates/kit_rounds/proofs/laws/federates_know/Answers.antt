use Rattle.kit_rounds.proofs.Knowing.{run_is_known, colours_are_near, copies_are_near, contributions_last, results_last}
use Rattle.kit_rounds.proofs.laws.federates_know.Goals as goal

pub returns-clause-run : goal.returns-clause-run
returns-clause-run c = run_is_known

pub returns-clause-colours : goal.returns-clause-colours
returns-clause-colours c = colours_are_near

pub returns-clause-copies : goal.returns-clause-copies
returns-clause-copies c = copies_are_near

pub returns-clause-contributions : goal.returns-clause-contributions
returns-clause-contributions c = contributions_last

pub returns-clause-results : goal.returns-clause-results
returns-clause-results c = results_last
