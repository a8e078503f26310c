-- the desks so far, and those that are still to be restored
use Rattle.std.proofs.Common.{◌≡◌, ◌++◌, drop}
use Rattle.kit_cut.specs.SinceCut.{desks_restored}
use Rattle.kit_cut.proofs.restoring.restored_desks.Given as goal

abbrev pub invariant-loop-i : goal.invariant-loop-i
invariant-loop-i l = l.desks.items ++ desks_restored l.i (drop l.i l.cut.next) (drop l.i l.cut.federates) ≡ desks_restored 0 l.cut.next l.cut.federates
