use Rattle.std.proofs.Common.{map}
use Rattle.kit_deal.proofs.tests.do_all.Given as goal

abbrev pub ghosts-do_named : goal.ghosts-do_named
ghosts-do_named g a = record { named = map (λ c. c.number) a.chores.items }
