-- Each step of a federate leaves a bound a bound.
use Rattle.std.proofs.Common.{◌≡◌, ◌⊎◌, ℕ, inl, inr, ◌<◌, ◌≤◌, Bool, true, false, List, [], ◌∷◌, ◌++◌, length, Option, Some, None, IfSome, arith, refl, sym, subst}
use Rattle.std.specs.List.{Contains}
use Rattle.std.proofs.lemmas.Bool.{cases_lt}
use Rattle.kit_base.specs.declared.message.Message.{Message}
use Rattle.kit_rules.specs.Parts.{Parts}
use Rattle.kit_rules.specs.Federation.{IsFederation}
use Rattle.kit_rules.specs.Simulation.{Block}
use Rattle.kit_parts.specs.Fronts.{seat_after, IsFront}
use Rattle.kit_parts.specs.Promises.{promise, promise_after}
use Rattle.kit_parts.specs.Cuts.{PromiseHolds}
use Rattle.kit_parts.specs.Flows.{Moment, Bounds, progress, after_start, after_post, after_receipt, after_last_post, due_block, after_grant}
use Rattle.kit_parts.proofs.Among.{Among, among_right, among_cases, among_contains, contains_among}
use Rattle.kit_parts.proofs.Cutting.{bounds_are_cuts_law}
use Rattle.kit_parts.proofs.Safety.{all_is_heard_law}
use Rattle.kit_parts.proofs.Carrying.{bounds_carry_law}
use Rattle.kit_parts.proofs.Promising.{start_keeps_promise_law, grant_keeps_promise_law, post_keeps_promise_law, due_is_ahead_law, receipt_keeps_promise_law, ended_promise}
use Rattle.kit_parts.proofs.Places.{each_one, pair, among_more}
use Rattle.kit_parts.proofs.Moments.{Sound, Next, Good}

module _ (p : Parts) (f : IsFederation p) (a : Moment) (good : Good p a) where
  -- the promise when nothing waits any more
  settled : (i : ℕ) → i < length p.federates → (w : Bool) → (a.all i).waits ≡ w → (o : Option (List Block)) → (a.all i).done ≡ o → promise p i (a.all i) ≤ promise_after p i false (a.all i).received (a.all i).done
  settled i li w ew o eo =
      let P : Bool → Type 0 = λ v. promise_after p i v (a.all i).received (a.all i).done ≤ promise_after p i false (a.all i).received (a.all i).done in
      let Q : Option (List Block) → Type 0 = λ v. promise_after p i w (a.all i).received v ≤ promise_after p i false (a.all i).received v in
      subst P (sym ew) (subst Q (sym eo) (by w o eo))
    where
      by : (w : Bool) (o : Option (List Block)) → (a.all i).done ≡ o → promise_after p i w (a.all i).received o ≤ promise_after p i false (a.all i).received o
      by false o eo = omega arith
      by true None eo = omega arith
      by true (Some done) eo =
          let s = seat_after p i done in
          elim (cases_lt s.now p.end) [
            | inl below ↦ (let k = good.ahead i li done eo in
                let F : Option (List Block) → Type 0 = λ o. IfSome o (IsFront p i) in
                let heard = all_is_heard_law p f k.0 a.all (bounds_are_cuts_law p f k.0 a.all a.transit a.waiting k.2) i li in
                let due = due_is_ahead_law p f k.0 i li (a.all i).received heard done (subst F eo (k.2.sound.fronts i li)) below k.1 in
                post_keeps_promise_law p i (a.all i).received done (omega (arith, due)))
            | inr past ↦ omega (arith, ended_promise p i (a.all i).received done past)
          ]

  -- from the moment before to the moment after
  pub start_carries : (i : ℕ) → i < length p.federates → (a.all i).done ≡ None → Next p a (after_start p a i)
  start_carries i lt none = record {
    posted = λ j k lj lk m h. inl h;
    promised = each_one (λ k v. k < length p.federates → PromiseHolds p k (a.all k) v (λ j. a.transit j k)) a.all i (progress (Some []) true (a.all i).received)
        (λ l. inl (let P : Option (List Block) → Type 0 = λ o. promise_after p i (a.all i).waits (a.all i).received o ≤ promise_after p i true (a.all i).received (Some []) in
        subst P (sym none) (start_keeps_promise_law p f i (a.all i).waits true (a.all i).received)))
        (λ k ne l. inl (omega arith));
  }

  pub post_carries : (i j : ℕ) (before : List Message) (m : Message) (after : List Message) → a.waiting i j ≡ before ++ m ∷ after → Next p a (after_post a i j before m after)
  post_carries i j before m after is = record {
    posted = λ k l lk ll. pair (λ k l t w. (x : Message) → Contains t x → Contains (a.transit k l) x ⊎ Contains (a.waiting k l) x) a.transit a.waiting i j (a.transit i j ++ m ∷ []) (before ++ after)
        (λ x h. elim (among_cases x (a.transit i j) (m ∷ []) (contains_among x (a.transit i j ++ m ∷ []) h)) [
          | inl old ↦ inl (among_contains x (a.transit i j) old)
          | inr new ↦ elim new [
            | inl e ↦ inr (among_contains x (a.waiting i j) (subst (Among x) (sym is) (among_right x before (m ∷ after) (inl e))))
            | inr n ↦ elim n [ ]
          ]
        ])
        (λ k l x h. inl h) k l;
    promised = λ k l. inl (omega arith);
  }

  pub receipt_carries : (i j : ℕ) (before : List Message) (m : Message) (after : List Message) → i < length p.federates → j < length p.federates → a.transit i j ≡ before ++ m ∷ after → Next p a (after_receipt a i j before m after)
  receipt_carries i j before m after li lj is = record {
    posted = λ k l lk ll. pair (λ k l t w. (x : Message) → Contains t x → Contains (a.transit k l) x ⊎ Contains (a.waiting k l) x) a.transit a.waiting i j (before ++ after) []
        (λ x h. inl (among_contains x (a.transit i j) (subst (Among x) (sym is) (among_more x before m after (contains_among x (before ++ after) h)))))
        (λ k l x h. inl h) k l;
    promised = each_one (λ k v. k < length p.federates → PromiseHolds p k (a.all k) v (λ j. a.transit j k)) a.all j (progress (a.all j).done (a.all j).waits ((a.all j).received ++ m ∷ []))
        (λ l. inr (i, m, li, among_contains m (a.transit i j) (subst (Among m) (sym is) (among_right m before (m ∷ after) (inl refl))), receipt_keeps_promise_law p f j l (a.all j).waits (a.all j).received m (a.all j).done))
        (λ k ne l. inl (omega arith));
  }

  pub last_carries : (i : ℕ) → i < length p.federates → Next p a (after_last_post a i)
  last_carries i li = record {
    posted = λ j k lj lk m h. inl h;
    promised = each_one (λ k v. k < length p.federates → PromiseHolds p k (a.all k) v (λ j. a.transit j k)) a.all i (progress (a.all i).done false (a.all i).received)
        (λ l. inl (settled i l (a.all i).waits refl (a.all i).done refl)) (λ k ne l. inl (omega arith));
  }

  pub grant_carries : (i : ℕ) (done : List Block) → i < length p.federates → (a.all i).done ≡ Some done → (a.all i).waits ≡ false → (seat_after p i done).now < p.end → Next p a (after_grant p a i done)
  grant_carries i done li is idle below = record {
    posted = λ j k lj lk m h. inl h;
    promised = each_one (λ k v. k < length p.federates → PromiseHolds p k (a.all k) v (λ j. a.transit j k)) a.all i (progress (Some (done ++ due_block p i (a.all i).received done ∷ [])) true (a.all i).received)
        (λ l. let new = promise_after p i true (a.all i).received (Some (done ++ due_block p i (a.all i).received done ∷ [])) in
        let P : Option (List Block) → Type 0 = λ o. promise_after p i (a.all i).waits (a.all i).received o ≤ new in
        let Q : Bool → Type 0 = λ w. promise_after p i w (a.all i).received (Some done) ≤ new in
        inl (subst P (sym is) (subst Q (sym idle) (grant_keeps_promise_law p i true (a.all i).received done below))))
        (λ k ne l. inl (omega arith));
  }

-- so a bound stays a bound
pub carried : (p : Parts) (a c : Moment) → Sound p c → Next p a c → (bound : ℕ) → Bounds p bound a → Bounds p bound c
carried p a c sound next bound b = bounds_carry_law p bound a.all c.all a.transit c.transit a.waiting c.waiting b sound next
