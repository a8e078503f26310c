-- The run of least grants, as a relation.
use Rattle.std.proofs.Common.{◌≡◌, ℕ, zero, suc, ◌+◌, ◌*◌, ◌<◌, ◌≤◌, inl, inr, List, length, Option, Some, None, arith, refl, sym, subst, ap, ◌∙◌, add-one}
use Rattle.std.specs.List.{AllByRecursion}
use Rattle.std.proofs.lemmas.List.{get_or_default}
use Rattle.kit_rules.specs.Parts.{Parts}
use Rattle.kit_rules.specs.Federation.{IsFederation}
use Rattle.kit_rules.specs.Simulation.{Seat, World, seat_at, seat_due, nobody_seated, waiting_from, next_grant, world_at_start, world_after_grant, world_after_pair, next_world, after_grants, simulation}
use Rattle.kit_laws.specs.Laws.{GrantsRise, LastGrants, Waits, IsNext, Runs, done, more, OneSimulation}
use Rattle.kit_laws.proofs.Least.{Rank, next_stands, next_least, sooner_rank, waiting_covers}
use Rattle.kit_laws.proofs.Worlds.{after_none}
use Rattle.kit_laws.proofs.Rising.{Reached, reached_after, started_reached, granted_reached, rises_next, after_suc, simulated_done, last_grants, empty_from}

pub grants_rise_law : GrantsRise
grants_rise_law p f n g h e k =
    let r = reached_after p (0, 0) (world_at_start p) n f (started_reached p f) in
    let w = after_grants p n (world_at_start p) in
    let step : after_grants p (n + 1) (world_at_start p) ≡ world_after_grant p w g = ap (λ m. after_grants p m (world_at_start p)) (add-one n) ∙ after_suc p n (world_at_start p) ∙ ap (world_after_pair p w) e in
    rises_next p r.0 w g h f r.1 e (sym (ap (next_grant p) step) ∙ k)

pub last_grants_law : LastGrants
last_grants_law p f k d lt =
    let P : Seat → Type 0 = λ s. s.now ≡ p.end in
    subst P (get_or_default (simulation p).seats k nobody_seated d lt) (last_grants p f k lt)

few_seats : (p : Parts) (l : ℕ × ℕ) (w : World) → IsFederation p → Reached p l w → length w.seats ≤ 16
few_seats p l w f r = omega (arith, r.count, f.federates.count.1)

-- who waits is not before the next grant
next_is_next : (p : Parts) (l : ℕ × ℕ) (w : World) (g : ℕ × ℕ) → IsFederation p → Reached p l w → next_grant p w ≡ Some g → IsNext p w g
next_is_next p l w g f r e =
    let st = next_stands p w.messages w.seats g e in
    let few = few_seats p l w f r in
    record {
      waits = record { within = st.within; below = st.below; due = st.due };
      least = λ h waits.
          let le : Rank g ≤ Rank (seat_due p w.messages h.1 (seat_at w h.1), h.1) = next_least p w.messages w.seats g few e h.1 waits.within waits.below in
          elim (sooner_rank h g (omega (arith, waits.within)) (omega (arith, st.within))) [
            | inl lt ↦ absurd (let l : Rank h < Rank g = lt.1 in omega (arith, waits.due))
            | inr ge ↦ ge.0
          ];
    }

-- where none is next, nobody waits
none_is_over : (p : Parts) (l : ℕ × ℕ) (w : World) → next_grant p w ≡ None → (g : ℕ × ℕ) → Waits p w g → ⊥
none_is_over p l w e g waits =
    let empty = empty_from (waiting_from p w.messages 0 w.seats) e in
    let P : List (ℕ × ℕ) → Type 0 = AllByRecursion (λ x. ⊥) in
    let none : AllByRecursion (λ x. ⊥) (waiting_from p w.messages 0 w.seats) = subst P (sym empty) tt in
    waiting_covers (λ x. ⊥) p w.messages 0 w.seats none g.1 waits.within waits.below

-- two that are next are one
same_next : (p : Parts) (l : ℕ × ℕ) (w : World) (g h : ℕ × ℕ) → IsFederation p → Reached p l w → IsNext p w g → IsNext p w h → g ≡ h
same_next p l w g h f r a b =
    let few = few_seats p l w f r in
    let one : Rank g ≤ Rank h = elim (sooner_rank h g (omega (arith, b.waits.within)) (omega (arith, a.waits.within))) [ inl lt ↦ absurd (let x = a.least h b.waits in let y = lt.0 in cc) | inr ge ↦ ge.1 ] in
    let two : Rank h ≤ Rank g = elim (sooner_rank g h (omega (arith, a.waits.within)) (omega (arith, b.waits.within))) [ inl lt ↦ absurd (let x = b.least g a.waits in let y = lt.0 in cc) | inr ge ↦ ge.1 ] in
    let first : g.0 ≡ h.0 = omega (arith, a.waits.within, b.waits.within) in
    let second : g.1 ≡ h.1 = omega (arith, a.waits.within, b.waits.within) in
    ap (λ (x : ℕ). (x, g.1)) first ∙ ap (λ (y : ℕ). (h.0, y)) second

-- the function's grants are a run
runs_once : (p : Parts) (l : ℕ × ℕ) (w : World) (n : ℕ) → IsFederation p → Reached p l w → ((k : ℕ × ℕ) (v : World) → Reached p k v → Runs p v (after_grants p n v))
    → (o : Option (ℕ × ℕ)) → next_grant p w ≡ o → Runs p w (after_grants p n (world_after_pair p w o))
runs_once p l w n f r rest None e = rest l w r
runs_once p l w n f r rest (Some g) e = more w g (after_grants p n (world_after_grant p w g)) (next_is_next p l w g f r e) (rest g (world_after_grant p w g) (granted_reached p l w g f r e))

runs_on : (p : Parts) (n : ℕ) (l : ℕ × ℕ) (w : World) → IsFederation p → Reached p l w → Runs p w (after_grants p n w)
runs_on p zero l w f r = done w
runs_on p (suc n) l w f r = runs_once p l w n f r (λ k v q. runs_on p n k v f q) (next_grant p w) refl

-- what is next by the relation is what the function gives
is_the_next : (p : Parts) (l : ℕ × ℕ) (w : World) (g : ℕ × ℕ) → IsFederation p → Reached p l w → IsNext p w g → (o : Option (ℕ × ℕ)) → next_grant p w ≡ o → o ≡ Some g
is_the_next p l w g f r a None e = absurd (none_is_over p l w e g a.waits)
is_the_next p l w g f r a (Some h) e = ap Some (same_next p l w h g f r (next_is_next p l w h f r e) a)

over_is_none : (p : Parts) (w : World) → ((g : ℕ × ℕ) → Waits p w g → ⊥) → (o : Option (ℕ × ℕ)) → next_grant p w ≡ o → o ≡ None
over_is_none p w over None e = refl
over_is_none p w over (Some g) e = let st = next_stands p w.messages w.seats g e in absurd (over g (record { within = st.within; below = st.below; due = st.due }))

-- a run is so many grants of the function
run_is : (p : Parts) (l : ℕ × ℕ) {w v : World} → IsFederation p → Reached p l w → Runs p w v → (n : ℕ) × (after_grants p n w ≡ v)
run_is p l f r (done w) = (0, refl)
run_is p l f r (more w g v next rest) =
    let e : next_grant p w ≡ Some g = is_the_next p l w g f r next (next_grant p w) refl in
    let k = run_is p g f (granted_reached p l w g f r e) rest in
    (suc k.0, ap (λ o. after_grants p k.0 (world_after_pair p w o)) e ∙ k.1)

-- two that are over are one
same_end : (p : Parts) (n m : ℕ) (w : World) → next_grant p (after_grants p n w) ≡ None → next_grant p (after_grants p m w) ≡ None → after_grants p n w ≡ after_grants p m w
same_end p zero m w a b = sym (after_none p m w a)
same_end p (suc n) zero w a b = after_none p (suc n) w b
same_end p (suc n) (suc m) w a b = same_end p n m (next_world p w) a b

pub one_simulation_law : OneSimulation
one_simulation_law p f =
    let start = started_reached p f in
    let n = length p.federates * p.end in
    let end = (reached_after p (0, 0) (world_at_start p) n f start) in (
      record { run = runs_on p n (0, 0) (world_at_start p) f start; over = none_is_over p end.0 (simulation p) (simulated_done p f) },
      λ v sim.
          let k = run_is p (0, 0) f start sim.run in
          let none : next_grant p v ≡ None = over_is_none p v sim.over (next_grant p v) refl in
          let Q : World → Type 0 = λ w. next_grant p w ≡ None in
          sym k.1 ∙ same_end p k.0 n (world_at_start p) (subst Q (sym k.1) none) (simulated_done p f),
    )
