-- copies of the variables so far
use Rattle.std.proofs.Common.{◌≡◌, take}
use Rattle.kit_regions.proofs.lowering.copy_vars.Given as goal

abbrev pub invariant-loop-var : goal.invariant-loop-var
invariant-loop-var l = l.copies ≡ take l.var-index l.vars
