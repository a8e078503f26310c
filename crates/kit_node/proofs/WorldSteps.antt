-- After a step that is allowed and keeps the rule there is a world again in which the seat has its place.
use Rattle.std.proofs.Common.{◌≡◌, ℕ}
use Rattle.kit_ground.specs.declared.address.Address.{Address}
use Rattle.kit_ground.specs.declared.place.Deed.{Deed}
use Rattle.kit_ground.specs.declared.place.Place.{Place}
use Rattle.kit_ground.specs.Rules.{Keeps, WasFound}
use Rattle.kit_ground.specs.Steps.{Allowed, address_of, place_after}
use Rattle.kit_ground.proofs.StepWorlds as step_worlds
use Rattle.kit_lbts.specs.declared.view.LbtsView.{LbtsView}
use Rattle.kit_lbts.specs.Agreement.{agreeing_rule}
use Rattle.kit_lbts.specs.Progress.{view_after}
use Rattle.kit_lbts.specs.SeatLaws.{IsInWorld}

-- a step of the seat leaves it in a world
pub goes_on : (p : Place LbtsView) (a : Address) (deed : ℕ → Deed) (word : ℕ) → a ≡ address_of p.own (deed word) → Allowed p.own (deed word) word
    → Keeps agreeing_rule view_after p a deed → WasFound agreeing_rule p a word → IsInWorld (place_after view_after (deed word) p)
goes_on p a deed word at allowed keeps told = step_worlds.goes_on agreeing_rule view_after p a deed word at allowed keeps told
