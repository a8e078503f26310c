use Rattle.kit_ground.proofs.DueSteps.{were_charged}
use Rattle.kit_ground.proofs.ReaderWords.{words_stay}
use Rattle.kit_ground.proofs.laws.readers_find_what_was_written.Goals as goal

pub returns-clause-charged : goal.returns-clause-charged
returns-clause-charged g c = were_charged

pub returns-clause-found : goal.returns-clause-found
returns-clause-found g c m stocks n b i k j x h li lk lj lx due = h.content i k x li lk lx

pub returns-clause-stay : goal.returns-clause-stay
returns-clause-stay g c = words_stay
