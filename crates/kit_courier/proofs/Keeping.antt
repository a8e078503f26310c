-- A step keeps the rule of this client where it keeps its two parts.
use Rattle.std.proofs.Common.{◌≡◌, ℕ, ◌<◌, ◌≤◌, List, length, subst, arith, sym}
use Rattle.std.specs.Prelude.{slice_index, slice_set}
use Rattle.kit_ground.specs.declared.place.Deed.{Deed}
use Rattle.kit_ground.specs.declared.place.Place.{Place}
use Rattle.kit_ground.specs.Memory.{Memory}
use Rattle.kit_ground.specs.Rules.{RuleStays, World}
use Rattle.kit_ground.specs.Steps.{place_after}
use Rattle.kit_courier.specs.declared.view.CourierView.{CourierView}
use Rattle.kit_courier.specs.Clocks.{Knows, clock}
use Rattle.kit_courier.specs.Couriers.{courier_rule}
use Rattle.kit_courier.specs.Deliveries.{view_after}
use Rattle.kit_courier.specs.Letters.{Letters}
use Rattle.kit_courier.proofs.ClockSteps.{clocks_after, guest_after, knows_still}

module _ (p : Place CourierView) (m : Memory) (places : List (Place CourierView)) (w : World courier_rule p m places) (now : Memory) (deed : Deed) where
  abbrev new : List (Place CourierView)
  new = slice_set places p.own.number (place_after view_after deed p)

  pub known_here : Knows m (length places) p.client
  known_here = w.client.clocks.each p.own.number p w.here

  pub kept : ((k : ℕ) → k < length places → clock m k ≤ clock now k) → Knows now (length places) (view_after deed p) → Letters now new → RuleStays courier_rule m places now new
  kept rises knows letters = record {
    client = record { clocks = clocks_after m now places rises p.own.number (place_after view_after deed p) w.client.clocks knows; letters = letters };
    guests = λ g sees. guest_after m now places rises p.own.number (place_after view_after deed p) g.client sees;
  }

  -- a step that leaves the clocks and what is known of them
  pub kept_aside : ((k : ℕ) → clock now k ≡ clock m k) → (view_after deed p).known ≡ p.client.known → Letters now new → RuleStays courier_rule m places now new
  kept_aside same known letters =
      let rises : (k : ℕ) → k < length places → clock m k ≤ clock now k = λ k lk. let e = same k in omega arith in
      let h = knows_still m now places rises p.client known_here in
      kept rises (record { wide = subst (λ (l : List ℕ). length l ≡ length places) (sym known) h.wide; behind = λ k lk. subst (λ (l : List ℕ). slice_index l k ≤ clock now k) (sym known) (h.behind k lk) }) letters
