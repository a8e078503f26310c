use Rattle.kit_file.proofs.Ranges.{numbers_are_taken, lists_are_taken, names_are_taken}
use Rattle.kit_file.proofs.laws.places_take_their_range.Goals as goal

pub returns-clause-numbers : goal.returns-clause-numbers
returns-clause-numbers c = numbers_are_taken

pub returns-clause-lists : goal.returns-clause-lists
returns-clause-lists c = lists_are_taken

pub returns-clause-names : goal.returns-clause-names
returns-clause-names c = names_are_taken
