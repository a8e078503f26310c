-- What a federate has outstanding, from grant to grant.
use Rattle.std.proofs.Common.{◌≡◌, ◌≢◌, inl, inr, ℕ, zero, suc, ◌+◌, ◌-◌, ◌*◌, ◌≤◌, max, Bool, cond, List, [], ◌∷◌, ◌++◌, length, map, drop, fold, Option, Some, None, arith, refl, sym, subst, ap, ◌∙◌, add-zero, add-one}
use Rattle.std.specs.List.{count_by}
use Rattle.std.proofs.lemmas.Bool.{ne_eqb, cases_eq, cases_lt}
use Rattle.std.proofs.lemmas.List.{get_or-set_other, map-append}
use Rattle.std.proofs.lemmas.List.Sums.{sum_by-append, fold_push}
use Rattle.kit_base.specs.declared.message.Message.{Message}
use Rattle.kit_rules.specs.Parts.{Parts}
use Rattle.kit_rules.proofs.Growth.{AreNumbered}
use Rattle.kit_rules.specs.Simulation.{Seat, World, seat_at, nobody_seated, seat_after_pair, world_after_grant, world_after_pair, next_grant, next_world, world_at_start, after_grants}
use Rattle.kit_rules.specs.Need.{is_outstanding, outstanding, worlds_from, most_outstanding}
use Rattle.kit_laws.specs.Laws.{OutstandingStays, IsOwnMoment, NeedIsGreatest}
use Rattle.kit_laws.proofs.Numbers.{gained}
use Rattle.kit_laws.proofs.Worlds.{grows_by_grant}
use Rattle.kit_laws.proofs.Rising.{after_suc}

-- how many pass among two lists
pub count_by-append : {X : Type 0} (q : X → Bool) (xs ys : List X) → count_by q (xs ++ ys) ≡ count_by q xs + count_by q ys
count_by-append q xs ys = sum_by-append (λ x. cond (q x) 1 0) xs ys

-- no message of another sender is outstanding
none_of_others : (p : Parts) (i now sender n : ℕ) (ms : List Message) → sender ≢ i → AreNumbered sender n ms → count_by (is_outstanding p i now) ms ≡ 0
none_of_others p i now sender n [] ne h = refl
none_of_others p i now sender n (m ∷ ms) ne h =
    let other : m.sender ≢ i = λ e. ne (sym h.0 ∙ e) in
    rw (ne_eqb m.sender i other) (none_of_others p i now sender (n + 1) ms ne h.2)

-- the grant of another federate leaves what one has outstanding
pub outstanding_stays_law : OutstandingStays
outstanding_stays_law p i w g ne =
    let old = seat_at w g.1 in
    let new = seat_after_pair p w g in
    let gr = grows_by_grant p w g in
    let made = drop (length old.state.sends) new.state.sends in
    let same : seat_at (world_after_grant p w g) i ≡ seat_at w i = get_or-set_other w.seats g.1 i new nobody_seated ne in
    let none : count_by (is_outstanding p i (seat_at w i).now) made ≡ 0 =
    ap (count_by (is_outstanding p i (seat_at w i).now)) (gained g.1 old.state new.state gr) ∙ none_of_others p i (seat_at w i).now g.1 old.state.next gr.made (λ e. ne (sym e)) gr.numbered in
    ap (λ (s : Seat). count_by (is_outstanding p i s.now) (w.messages ++ made)) same
    ∙ count_by-append (is_outstanding p i (seat_at w i).now) w.messages made
    ∙ ap (λ n. outstanding p i w + n) none ∙ add-zero (outstanding p i w)

-- one turn more
pub after_one : (p : Parts) (n : ℕ) (o : Option (ℕ × ℕ)) → next_grant p (after_grants p n (world_at_start p)) ≡ o → after_grants p (n + 1) (world_at_start p) ≡ world_after_pair p (after_grants p n (world_at_start p)) o
after_one p n o e = ap (λ (k : ℕ). after_grants p k (world_at_start p)) (add-one n) ∙ after_suc p n (world_at_start p) ∙ ap (world_after_pair p (after_grants p n (world_at_start p))) e

-- and one world more, which is the last
worlds_more : (p : Parts) (n : ℕ) (w : World) → worlds_from p (suc n) w ≡ worlds_from p n w ++ after_grants p (suc n) w ∷ []
worlds_more p zero w = refl
worlds_more p (suc n) w = ap (λ ws. w ∷ ws) (worlds_more p n (next_world p w))

-- the most that a federate had outstanding up to the n-th grant
abbrev pub most_until : Parts → ℕ → ℕ → ℕ
most_until p i n = most_outstanding p i (worlds_from p n (world_at_start p))

-- with one turn more
pub most_next : (p : Parts) (i n : ℕ) → most_until p i (n + 1) ≡ max (most_until p i n) (outstanding p i (after_grants p (n + 1) (world_at_start p)))
most_next p i n =
    let ws = worlds_from p n (world_at_start p) in
    let v = after_grants p (suc n) (world_at_start p) in
    ap (most_until p i) (add-one n)
    ∙ ap (most_outstanding p i) (worlds_more p n (world_at_start p))
    ∙ ap (fold max 0) (map-append (outstanding p i) ws (v ∷ []))
    ∙ fold_push max 0 (map (outstanding p i) ws) (outstanding p i v)
    ∙ ap (λ (k : ℕ). max (most_until p i n) (outstanding p i (after_grants p k (world_at_start p)))) (sym (add-one n))

-- it is not less than what is outstanding then
pub most_has : (p : Parts) (i n : ℕ) → outstanding p i (after_grants p n (world_at_start p)) ≤ most_until p i n
most_has p i zero = omega arith
most_has p i (suc n) =
    let P : ℕ → Type 0 = λ k. outstanding p i (after_grants p k (world_at_start p)) ≤ most_until p i k in
    subst P (add-one n) (omega (arith, most_next p i n))

-- a turn that leaves what is outstanding leaves the most
most_kept : (p : Parts) (i n : ℕ) → outstanding p i (after_grants p (n + 1) (world_at_start p)) ≡ outstanding p i (after_grants p n (world_at_start p)) → most_until p i (n + 1) ≡ most_until p i n
most_kept p i n e = omega (arith, most_next p i n, most_has p i n, e)

-- as one in which nobody waits
pub most_still : (p : Parts) (i n : ℕ) → next_grant p (after_grants p n (world_at_start p)) ≡ None → most_until p i (n + 1) ≡ most_until p i n
most_still p i n none = most_kept p i n (ap (outstanding p i) (after_one p n None none))

-- and one of another federate
pub most_stays : (p : Parts) (i n : ℕ) (g : ℕ × ℕ) → next_grant p (after_grants p n (world_at_start p)) ≡ Some g → i ≢ g.1 → most_until p i (n + 1) ≡ most_until p i n
most_stays p i n g next ne = most_kept p i n (ap (outstanding p i) (after_one p n (Some g) next) ∙ outstanding_stays_law p i (after_grants p n (world_at_start p)) g ne)

-- the most does not fall
most_grows : (p : Parts) (i n k : ℕ) → most_until p i n ≤ most_until p i (n + k)
most_grows p i n zero = omega (arith, ap (most_until p i) (add-zero n))
most_grows p i n (suc k) = let e : (n + k) + 1 ≡ n + suc k = omega arith in omega (arith, most_grows p i n k, most_next p i (n + k), ap (most_until p i) e)

-- it is what is outstanding at the start or right after a grant of the federate itself
record Reached (p : Parts) (i n : ℕ) : Type 0 where
  moment : ℕ
  within : moment ≤ n
  own : IsOwnMoment p i moment
  reached : outstanding p i (after_grants p moment (world_at_start p)) ≡ most_until p i n

-- where it is still the most
later : (p : Parts) (i n : ℕ) → Reached p i n → most_until p i (n + 1) ≡ most_until p i n → Reached p i (n + 1)
later p i n r e = record { moment = r.moment; within = omega (arith, r.within); own = r.own; reached = r.reached ∙ sym e }

reached_next : (p : Parts) (i n : ℕ) (o : Option (ℕ × ℕ)) → next_grant p (after_grants p n (world_at_start p)) ≡ o → Reached p i n → Reached p i (n + 1)
reached_next p i n None e r = later p i n r (most_still p i n e)
reached_next p i n (Some g) e r =
    elim (cases_eq i g.1) [
      | inl same ↦ elim (cases_lt (most_until p i n) (outstanding p i (after_grants p (n + 1) (world_at_start p)))) [
        | inl lt ↦ (let P : ℕ → Type 0 = λ j. next_grant p (after_grants p n (world_at_start p)) ≡ Some (g.0, j) in
            let more : outstanding p i (after_grants p (n + 1) (world_at_start p)) ≡ most_until p i (n + 1) = omega (arith, lt, most_next p i n) in
            record { moment = n + 1; within = omega arith; own = inr (n, g.0, refl, subst P (sym same) e); reached = more })
        | inr ge ↦ later p i n r (omega (arith, ge, most_next p i n))
      ]
      | inr ne ↦ later p i n r (most_stays p i n g e ne)
    ]

reached_at : (p : Parts) (i n : ℕ) → Reached p i n
reached_at p i zero = record { moment = 0; within = omega arith; own = inl refl; reached = (let e : outstanding p i (world_at_start p) ≡ max 0 (outstanding p i (world_at_start p)) = omega arith in e) }
reached_at p i (suc n) = let P : ℕ → Type 0 = λ k. Reached p i k in subst P (add-one n) (reached_next p i n (next_grant p (after_grants p n (world_at_start p))) refl (reached_at p i n))

pub need_is_greatest_law : NeedIsGreatest
need_is_greatest_law p i =
    let most = length p.federates * p.end in
    let r = reached_at p i most in
    record {
      none_more = λ n le own. let e : n + (most - n) ≡ most = omega arith in omega (arith, most_has p i n, most_grows p i n (most - n), ap (most_until p i) e);
      moment = r.moment;
      within = r.within;
      own = r.own;
      reached = r.reached;
    }
