-- Where nobody takes number 16,385 in the simulation, nobody does up to a time.
use Rattle.std.proofs.Common.{◌≡◌, ℕ, zero, suc, ◌+◌, ◌-◌, ◌*◌, ◌≤◌, List, ◌++◌, length, drop, find, Option, Some, None, arith, refl, sym, ap, ◌∙◌}
use Rattle.std.specs.Option.{option_map, option_or}
use Rattle.std.proofs.lemmas.List.Folds.{find-append}
use Rattle.kit_base.specs.declared.message.Message.{Message}
use Rattle.kit_rules.specs.Parts.{Parts}
use Rattle.kit_rules.specs.Simulation.{World, after_grants, is_spent, next_grant, next_world, seat_after_pair, seat_at, simulation, spender, world_after_pair, world_at_start}
use Rattle.kit_oracle.proofs.Progress.{after_more}
use Rattle.kit_cut.specs.Cuts.{spender_by}
use Rattle.kit_cut.proofs.Resuming.{by_is_after}

first_none : (xs ys : List Message) → find is_spent (xs ++ ys) ≡ None → find is_spent xs ≡ None
first_none xs ys h = by (find is_spent xs) (sym (find-append is_spent xs ys) ∙ h)
  where
    by : (o : Option Message) → option_or o (find is_spent ys) ≡ None → o ≡ None
    by None e = refl
    by (Some m) e = absurd (cc)

pair_none : (p : Parts) (w : World) (o : Option (ℕ × ℕ)) → find is_spent (world_after_pair p w o).messages ≡ None → find is_spent w.messages ≡ None
pair_none p w None h = h
pair_none p w (Some g) h = first_none w.messages (drop (length (seat_at w g.1).state.sends) (seat_after_pair p w g).state.sends) h

front_none : (p : Parts) (n : ℕ) (w : World) → find is_spent (after_grants p n w).messages ≡ None → find is_spent w.messages ≡ None
front_none p zero w h = h
front_none p (suc n) w h = pair_none p w (next_grant p w) (front_none p n (next_world p w) h)

none_found : (o : Option Message) → option_map (λ (m : Message). m.sender) o ≡ None → o ≡ None
none_found None e = refl
none_found (Some m) e = absurd (cc)

pub nobody_spends_by : (p : Parts) (t : ℕ) → spender p ≡ None → spender_by p t ≡ None
nobody_spends_by p t none =
    let turns : ℕ = length p.federates * p.end in
    let start : World = world_at_start p in
    let by = by_is_after p t turns start in
    let rest : ℕ = turns - by.count in
    let whole : find is_spent (after_grants p rest (after_grants p by.count start)).messages ≡ None =
    ap (λ (w : World). find is_spent w.messages) (sym (after_more p by.count rest turns start (omega (arith, by.few))))
    ∙ none_found (find is_spent (simulation p).messages) none in
    ap (option_map (λ (m : Message). m.sender)) (ap (λ (w : World). find is_spent w.messages) by.is ∙ front_none p rest (after_grants p by.count start) whole)
