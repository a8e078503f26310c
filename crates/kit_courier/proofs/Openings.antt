-- The rule of this client holds at the opening.
use Rattle.std.proofs.Common.{◌≡◌, ℕ, ◌≤◌, [], length, map, refl, sym, ap, ◌∙◌, subst, arith}
use Rattle.std.proofs.lemmas.List.{length-replicate}
use Rattle.std.proofs.lemmas.Option.{none-some}
use Rattle.std.specs.Prelude.{Contains, slice_index}
use Rattle.kit_ground.specs.declared.place.SeatState.{SeatState}
use Rattle.kit_ground.specs.Rules.{places_at_first, stock_of, zero_memory}
use Rattle.kit_ground.proofs.Lists.{at_inside, same_everywhere}
use Rattle.kit_ground.proofs.SetFacts.{none_due}
use Rattle.kit_ground.proofs.Starts.{client_at_first, length_places_from, pool_at_first}
use Rattle.kit_courier.specs.declared.view.CourierView.{CourierView}
use Rattle.kit_courier.specs.Couriers.{courier_rule}
use Rattle.kit_courier.specs.Deliveries.{courier_first, newcomer}

pub nothing_in : {A : Type 0} (x : A) → Contains [] x → ⊥
nothing_in x h = let l = h.1 in omega arith

nothing_known : (n k : ℕ) → slice_index (newcomer n).known k ≤ 0
nothing_known n k = let zero : slice_index (newcomer n).known k ≡ 0 = same_everywhere n k 0 in omega arith

module _ (n b : ℕ) where
  abbrev first : ℕ → CourierView
  first = courier_first n

  pub opens : courier_rule.holds zero_memory (places_at_first first n b)
  opens = record {
    clocks = record {
      each = λ j p at.
          let is : newcomer n ≡ p.client = sym (client_at_first first n b j p at).0 in
          record { wide = ap (λ (v : CourierView). length v.known) (sym is) ∙ length-replicate {A = ℕ} n 0 ∙ sym (length_places_from first n b 0 n); behind = λ k lk. subst (λ (v : CourierView). slice_index v.known k ≤ 0) is (nothing_known n k) };
    };
    letters = record {
      each = λ j p at.
          let h = client_at_first first n b j p at in
          let is : p.client ≡ newcomer n = h.0 in
          let many = length_places_from first n b 0 n in
          let inside = at_inside (places_at_first first n b) j p at in
          let sizes : p.own.buffers ≡ b = ap (λ (o : SeatState). o.buffers) h.1 in
          record {
            due = λ k lk d ld one. let none = none_due zero_memory (map stock_of (places_at_first first n b)) n b (pool_at_first first n b) j k (omega arith) (omega arith) d (omega arith) refl in absurd (omega arith);
            reading = λ r e. absurd (none-some r (sym (ap (λ (v : CourierView). v.reading) is) ∙ e));
            got = λ t has. absurd (nothing_in t (subst (λ (v : CourierView). Contains v.got t) is has));
          };
    };
  }

-- and with an opening that is told to be that number
pub opens_told : (told n b : ℕ) → told ≡ n → courier_rule.holds zero_memory (places_at_first (courier_first told) n b)
opens_told told n b is = subst (λ (x : ℕ). courier_rule.holds zero_memory (places_at_first (courier_first x) n b)) (sym is) (opens n b)
