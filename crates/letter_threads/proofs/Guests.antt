-- A guest of the small client at the opening.
use Rattle.std.proofs.Common.{◌≡◌, ℕ, ◌≤◌, length, sym, ◌∙◌, subst, arith}
use Rattle.std.proofs.lemmas.List.{length-replicate}
use Rattle.std.specs.Prelude.{slice_index}
use Rattle.kit_ground.proofs.Lists.{same_everywhere}
use Rattle.kit_ground.proofs.Starts.{length_places_from}
use Rattle.kit_courier.specs.Couriers.{courier_rule}
use Rattle.kit_courier.specs.Deliveries.{courier_first, newcomer}
use Rattle.kit_pool.specs.Watching.{GuestsSee}

nothing_known : (n k : ℕ) → slice_index (newcomer n).known k ≤ 0
nothing_known n k = let zero : slice_index (newcomer n).known k ≡ 0 = same_everywhere n k 0 in omega arith

-- no guest knows more of the clocks than they show
pub guests_open : (told n b g : ℕ) → told ≡ n → GuestsSee courier_rule (courier_first told) n b g
guests_open told n b g is = subst (λ (x : ℕ). GuestsSee courier_rule (courier_first x) n b g) (sym is)
    (λ k lk. record { wide = length-replicate {A = ℕ} n 0 ∙ sym (length_places_from (courier_first n) n b 0 n); behind = λ j lj. nothing_known n j })
