-- What one step of a seat did, as its place before and after tell it.
use Rattle.std.specs.Prelude.{◌≡◌, List}
use Rattle.kit_ground.specs.declared.place.Deed.{Deed}
use Rattle.kit_ground.specs.declared.place.Place.{Place}
use Rattle.kit_ground.specs.Memory.{Memory}
use Rattle.kit_ground.specs.Rules.{Rule, World}
use Rattle.kit_ground.specs.Steps.{Allowed, address_of, own_after}

-- there was a world in which the step was allowed, and the seat knows of itself what it did
pub record WasAllowedStep {V : Type 0} (rule : Rule V) (p : Place V) (deed : Deed) (q : Place V) : Type 0 where
  pub memory : Memory
  pub places : List (Place V)
  pub world : World rule p memory places
  pub allowed : Allowed p.own deed (memory (address_of p.own deed))
  pub own : q.own ≡ own_after deed p.own
