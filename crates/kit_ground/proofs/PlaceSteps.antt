-- The places of all federates, after one of them changed.
use Rattle.std.proofs.Common.{◌≡◌, ◌≢◌, ℕ, List, sym, ap, ◌∙◌, subst, ⊎_elim}
use Rattle.std.specs.Prelude.{slice_set}
use mathlib.Core.Option.{some}
use lib.ListN.{get_elem?}
use Rattle.atomic_table.proofs.Lists.{at_set}
use Rattle.kit_ground.specs.declared.place.Deed.{Deed}
use Rattle.kit_ground.specs.declared.place.Place.{Place}
use Rattle.kit_ground.specs.Steps.{place_after}

-- a fact of each place: of the one that changed, and of the others
pub each_after : {V : Type 0} (F : ℕ → Place V → Type 0) (places : List (Place V)) (me : ℕ) (q : Place V) → F me q
    → ((j : ℕ) (r : Place V) → j ≢ me → get_elem? places j ≡ some r → F j r)
    → (j : ℕ) (r : Place V) → get_elem? (slice_set places me q) j ≡ some r → F j r
each_after {V} F places me q mine others j r at = ⊎_elim
    (λ (t : (j ≡ me) × (q ≡ r)). subst (λ (x : ℕ × Place V). F x.0 x.1) (λ i. (sym t.0 i, t.1 i)) mine)
    (λ (t : (j ≢ me) × (get_elem? places j ≡ some r)). others j r t.0 t.1)
    (at_set places me j q r at)

-- a place that is known by the steps that led to it, one step further
pub stage : {V : Type 0} (next : Deed → Place V → V) (deed : Deed) (p q r : Place V) → r ≡ place_after next deed q → q ≡ p → r ≡ place_after next deed p
stage next deed p q r step at = step ∙ ap (place_after next deed) at
