use Rattle.kit_model.proofs.Packing.{words_show_their_round_law, old_words_differ, zero_shows_no_round}
use Rattle.kit_model.proofs.laws.words_show_their_round.Goals as goal

pub returns-clause-own : goal.returns-clause-own
returns-clause-own c = words_show_their_round_law

pub returns-clause-old : goal.returns-clause-old
returns-clause-old c = old_words_differ

pub returns-clause-zero : goal.returns-clause-zero
returns-clause-zero c = zero_shows_no_round
