-- the variables of the desks so far
use Rattle.std.proofs.Common.{◌≡◌, map, take}
use Rattle.kit_oracle.specs.declared.desk.Desk.{Desk}
use Rattle.kit_oracle.proofs.simulation.vars_of.Given as goal

abbrev pub invariant-loop-desk : goal.invariant-loop-desk
invariant-loop-desk l = l.vars ≡ map (λ (d : Desk). d.state.vars) (take l.desk-index l.desks)
