-- Steps of one seat, one after another.
use Rattle.std.specs.Prelude.{◌≡◌, ◌≢◌, ℕ, ◌+◌, [], ◌∷◌, ◌++◌, length, replicate}
use lib.ListN.{get_elem?}
use Rattle.kit_ground.specs.declared.place.Deed.{Deed}
use Rattle.kit_ground.specs.Floors.{Floor, memory, place_of}
use Rattle.kit_ground.specs.Steps.{IsSameSeat, IsStep}

-- one step of the federate that is seated, which did this, led from the one floor to the other
pub record IsOneStep {O V : Type 0} (first : O → ℕ → V) (f : Floor O V) (deed : Deed) (h : Floor O V) : Type 0 where
  pub step : IsStep (place_of first f).own deed (memory f) (memory h)
  pub steps : h.steps ≡ f.steps ++ f.seated ∷ []

-- steps of the federate that is seated led from the one floor to the other
pub record AreSteps {O V : Type 0} (first : O → ℕ → V) (f h : Floor O V) : Type 0 where
  pub opening : h.opening ≡ f.opening
  pub buffers : h.buffers ≡ f.buffers
  pub seated : h.seated ≡ f.seated
  pub seat : IsSameSeat (place_of first f) (place_of first h)
  pub many : length h.places ≡ length f.places
  pub others : (k : ℕ) → k ≢ f.seated → get_elem? h.places k ≡ get_elem? f.places k
  pub made : ℕ
  pub steps : h.steps ≡ f.steps ++ replicate made f.seated
  pub counted : (place_of first h).own.steps ≡ (place_of first f).own.steps + made
