-- The looks and the stop word: steps that keep the rule, each in the form that a floor's call asks.
use Rattle.std.specs.Prelude.{◌==◌}
use Rattle.kit_ground.specs.declared.address.Address.TheVariants.{Register, Stop}
use Rattle.kit_ground.specs.declared.address.Reg.{Reg}
use Rattle.kit_ground.specs.declared.place.Deed.TheVariants.{Looked, SawStop, Stopped}
use Rattle.kit_ground.specs.declared.place.Place.{Place}
use Rattle.kit_ground.specs.Rules.{Keeps, Rule}
use Rattle.kit_lbts.specs.declared.view.LbtsView.{LbtsView}
use Rattle.kit_lbts.specs.Progress.{view_after}

-- a federate may look at any register at any time
abbrev pub LooksKeep : Rule LbtsView → Type 0
LooksKeep rule = (p : Place LbtsView) (r : Reg) → Keeps rule view_after p (Register r) (λ word. Looked r word)

-- and at the stop word, and set it
abbrev pub StopLooksKeep : Rule LbtsView → Type 0
StopLooksKeep rule = (p : Place LbtsView) → Keeps rule view_after p Stop (λ word. SawStop (word == 1))

abbrev pub StopsKeep : Rule LbtsView → Type 0
StopsKeep rule = (p : Place LbtsView) → Keeps rule view_after p Stop (λ _. Stopped)
