use Rattle.kit_runner.proofs.lock.lock_run.Given as goal

abbrev pub ghosts-lock_named : goal.ghosts-lock_named
ghosts-lock_named g a = record { federation = a.federation.now }
