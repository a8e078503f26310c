-- A floor stays quiet when a federate is seated, and when one makes steps that leave nothing owed.
use Rattle.std.proofs.Common.{◌≡◌, ℕ, ◌<◌, length, sym, ap, ◌∙◌, subst}
use mathlib.Core.Logic.{dite}
use mathlib.Core.Option.{some-injective}
use native.Mathlib.Decide.{ℕ_discrete}
use lib.ListN.{get_elem?}
use Rattle.kit_ground.specs.declared.place.Place.{Place}
use Rattle.kit_ground.specs.Coming.{AreSteps}
use Rattle.kit_ground.specs.Floors.{Floor, RulesHold, place_of}
use Rattle.kit_ground.specs.Steps.{buffer_of}
use Rattle.kit_ground.proofs.PlainSeats.{seated_at}
use Rattle.kit_ground.proofs.PlainSteps.{here, number, federates, buffers}
use Rattle.kit_courier.specs.declared.view.CourierView.{CourierView}
use Rattle.kit_courier.specs.Calls.{OwesTheSame}
use Rattle.kit_courier.specs.Couriers.{courier_rule}
use Rattle.kit_courier.specs.Deliveries.{courier_first}
use Rattle.letter_rounds.specs.declared.rounds.TheConstants.{BUFFERS, FEDERATES}
use Rattle.letter_rounds.specs.Quiet.{IsQuiet}

abbrev pub F : Type 0
F = Floor ℕ CourierView

pub quiet_seated : (f h : F) (k : ℕ) → IsQuiet f → h ≡ record f { seated = k } → IsQuiet h
quiet_seated f h k q is = subst IsQuiet (sym is) (record { federates = q.federates; buffers = q.buffers; owed = q.owed })

module _ (f : F) (r : RulesHold courier_rule f) (q : IsQuiet f) where
  pub place_number : (place_of courier_first f).own.number ≡ f.seated
  place_number = number courier_rule courier_first f r

  pub place_federates : (place_of courier_first f).own.federates ≡ FEDERATES
  place_federates = federates courier_rule courier_first f r ∙ q.federates

  pub place_buffers : (place_of courier_first f).own.buffers ≡ BUFFERS
  place_buffers = buffers courier_rule courier_first f r ∙ q.buffers

  pub place_owed : (k : ℕ) → (buffer_of (place_of courier_first f).own.stock k).to_post ≡ 0
  place_owed k = q.owed f.seated (place_of courier_first f) (here courier_rule courier_first f r) k

  pub quiet_after : (h : F) → AreSteps courier_first f h → OwesTheSame (place_of courier_first f) (place_of courier_first h) → IsQuiet h
  quiet_after h came owes =
      let inside : f.seated < length h.places = subst (λ (n : ℕ). f.seated < n) (sym came.many) r.seat in record {
        federates = came.many ∙ q.federates;
        buffers = came.buffers ∙ q.buffers;
        owed = λ j p at k. dite (ℕ_discrete j f.seated)
            (λ same. let is : place_of courier_first h ≡ p = some-injective _ _ (sym (seated_at courier_first h f.seated came.seated inside) ∙ (ap (λ (x : ℕ). get_elem? h.places x) (sym same) ∙ at)) in
            ap (λ (x : Place CourierView). (buffer_of x.own.stock k).to_post) (sym is) ∙ (owes k ∙ place_owed k))
            (λ apart. q.owed j p (sym (came.others j apart) ∙ at) k);
      }
