use Rattle.kit_model.proofs.OldCopies.{copies_count_once, posts_count, receipts_count, counts_keep_growing, later_runs_count_more, all_colours_get_old, new_copies_do_not_count}
use Rattle.kit_model.proofs.laws.copies_count.Goals as goal

pub returns-clause-once : goal.returns-clause-once
returns-clause-once c = copies_count_once

pub returns-clause-posted : goal.returns-clause-posted
returns-clause-posted c = posts_count

pub returns-clause-received : goal.returns-clause-received
returns-clause-received c = receipts_count

pub returns-clause-grows : goal.returns-clause-grows
returns-clause-grows c = counts_keep_growing

pub returns-clause-later : goal.returns-clause-later
returns-clause-later c = later_runs_count_more

pub returns-clause-all : goal.returns-clause-all
returns-clause-all c = all_colours_get_old

pub returns-clause-new : goal.returns-clause-new
returns-clause-new c = new_copies_do_not_count
