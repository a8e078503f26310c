-- The rule of the clocks after a step: what was known stays below, since no clock falls.
use Rattle.std.proofs.Common.{ℕ, ◌<◌, ◌≤◌, List, length, sym, subst, arith, length-set}
use Rattle.std.specs.Prelude.{slice_set}
use Rattle.kit_ground.specs.declared.place.Place.{Place}
use Rattle.kit_ground.specs.Memory.{Memory}
use Rattle.kit_ground.proofs.PlaceSteps.{each_after}
use Rattle.kit_courier.specs.declared.view.CourierView.{CourierView}
use Rattle.kit_courier.specs.Clocks.{Clocks, Knows, clock}

module _ (m now : Memory) (places : List (Place CourierView)) (rises : (k : ℕ) → k < length places → clock m k ≤ clock now k) where
  pub knows_still : (v : CourierView) → Knows m (length places) v → Knows now (length places) v
  knows_still v h = record { wide = h.wide; behind = λ k lk. let a = h.behind k lk in let c = rises k lk in omega arith }

  module _ (me : ℕ) (q : Place CourierView) where
    pub clocks_after : Clocks m places → Knows now (length places) q.client → Clocks now (slice_set places me q)
    clocks_after h mine = record {
      each = λ j r at. subst (λ (n : ℕ). Knows now n r.client) (sym (length-set places me q))
          (each_after (λ j r. Knows now (length places) r.client) places me q mine (λ j r other at. knows_still r.client (h.each j r at)) j r at);
    }

    pub guest_after : (v : CourierView) → Knows m (length places) v → Knows now (length (slice_set places me q)) v
    guest_after v h = subst (λ (n : ℕ). Knows now n v) (sym (length-set places me q)) (knows_still v h)
