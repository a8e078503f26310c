-- A seat's own place, before and after a step.
use Rattle.std.proofs.Common.{◌≡◌, ℕ, ◌<◌, List, [], ◌∷◌, length, refl, sym, subst, arith}
use mathlib.Core.Option.{some, some-injective}
use lib.ListN.{get_elem?}
use Rattle.kit_ground.specs.declared.place.Deed.{Deed}
use Rattle.kit_ground.specs.declared.place.Place.{Place}
use Rattle.kit_ground.specs.Steps.{place_after}
use Rattle.kit_pool.specs.Seating.{HoldsOfOwnPlace, others_of, place_in}
use Rattle.kit_pool.specs.Seats.{IsOwn}

module _ {V : Type 0} (first : ℕ → V) where
  -- a seat has its own place and the others
  pub desk_is : (desk : List (Place V)) → 0 < length desk → desk ≡ place_in first desk ∷ others_of desk
  desk_is [] there = absurd (omega arith)
  desk_is (p ∷ ps) there = refl

  pub own_at : (desk : List (Place V)) → 0 < length desk → get_elem? desk 0 ≡ some (place_in first desk)
  own_at [] there = absurd (omega arith)
  own_at (p ∷ ps) there = refl

  pub on_own : (F : Place V → List (Place V) → Type 0) (desk : List (Place V)) → 0 < length desk → HoldsOfOwnPlace F desk → F (place_in first desk) (others_of desk)
  on_own F [] there h = absurd (omega arith)
  on_own F (p ∷ ps) there h = h

  module _ (number n b : ℕ) (desk : List (Place V)) (s : IsOwn number n b desk) where
    pub own_numbers : ((place_in first desk).own.number ≡ number) × ((place_in first desk).own.federates ≡ n) × ((place_in first desk).own.buffers ≡ b)
    own_numbers = s.own (place_in first desk) (own_at desk s.there)

    pub own_after_step : (now : List (Place V)) (next : Deed → Place V → V) (deed : Deed) → now ≡ place_after next deed (place_in first desk) ∷ others_of desk → IsOwn number n b now
    own_after_step now next deed is = subst (IsOwn number n b) (sym is) (record {
      there = omega arith;
      own = λ p e. subst (λ (q : Place V). (q.own.number ≡ number) × (q.own.federates ≡ n) × (q.own.buffers ≡ b)) (some-injective (place_after next deed (place_in first desk)) p e) own_numbers;
    })
