-- Steps of one seat that stands on a floor, one after another.
use Rattle.std.specs.Prelude.{◌≡◌, ℕ, ◌≤◌}
use Rattle.kit_ground.specs.declared.place.Place.{Place}
use Rattle.kit_ground.specs.Steps.{IsSameSeat}

-- steps of the seat of the federate i led from the one to the other: it is the same floor and the same federate
pub record AreStepsOfSeat {F V : Type 0} (f : F) (i : ℕ) (p : Place V) (h : F) (j : ℕ) (q : Place V) : Type 0 where
  pub floor : h ≡ f
  pub number : j ≡ i
  pub seat : IsSameSeat p q
  pub steps : p.own.steps ≤ q.own.steps
