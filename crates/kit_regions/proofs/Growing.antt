-- Lists that loops make, with one more number.
use Rattle.std.proofs.Common.{◌≡◌, ℕ, zero, suc, ◌+◌, ◌<◌, Bool, true, false, arith, refl, sym, ap, ◌∙◌, cond, List, [], ◌∷◌, ◌++◌, map, filter, find, Some, None, add-one}
use Rattle.std.specs.List.{range_with_len}
use Rattle.std.proofs.lemmas.List.{append_assoc, map-append}
use Rattle.std.proofs.lemmas.List.Elements.{filter-append}
use Rattle.kit_rules.specs.declared.table.Trigger.TheVariants.{Got}
use Rattle.kit_rules.specs.declared.table.Rule.{Rule}
use Rattle.kit_rules.specs.declared.table.Group.{Group}
use Rattle.kit_rules.specs.declared.table.Federate.{Federate}
use Rattle.kit_rules.specs.Federation.{IsFederation}
use Rattle.kit_regions.specs.Plan.{Plan}
use Rattle.kit_regions.specs.Limits.{IsPlan}
use Rattle.kit_regions.specs.Lowered.{with_trigger, lowered_group, lowered_federate, crowded_federate}
use Rattle.kit_regions.proofs.Fitness.{plans_make_federations_law}

range_from : (a n : ℕ) → range_with_len a (suc n) ≡ range_with_len a n ++ (a + n) ∷ []
range_from a zero = ap (λ x. x ∷ []) (let e : a ≡ a + 0 = omega arith in e)
range_from a (suc n) = ap (λ xs. a ∷ xs) (range_from (a + 1) n ∙ ap (λ x. range_with_len (a + 1) n ++ x ∷ []) (let e : a + 1 + n ≡ a + suc n = omega arith in e))

pub range_more : (n : ℕ) → range_with_len 0 (n + 1) ≡ range_with_len 0 n ++ n ∷ []
range_more n = rw add-one (range_from 0 n ∙ ap (λ x. range_with_len 0 n ++ x ∷ []) (let e : 0 + n ≡ n = omega arith in e))

-- the rules on Got of these
abbrev got_all : Rule → List ℕ → List Rule
got_all r ks = map (with_trigger r) (map (λ k. Got k) ks)

got_all_append : (r : Rule) (a b : List ℕ) → got_all r (a ++ b) ≡ got_all r a ++ got_all r b
got_all_append r a b = ap (map (with_trigger r)) (map-append (λ (k : ℕ). Got k) a b) ∙ map-append (with_trigger r) (map (λ k. Got k) a) (map (λ k. Got k) b)

last_one : (r : Rule) (u : ℕ) (b : Bool) → cond b (with_trigger r (Got u) ∷ []) [] ≡ got_all r (cond b (u ∷ []) [])
last_one r u true = refl
last_one r u false = refl

-- the rules for one more update
pub rules_more : (p : ℕ → Bool) (r : Rule) (before made : List Rule) (u : ℕ) (b : Bool) → p u ≡ b
    → made ≡ before ++ map (with_trigger r) (map (λ k. Got k) (filter p (range_with_len 0 u)))
    → made ++ cond b (with_trigger r (Got u) ∷ []) [] ≡ before ++ map (with_trigger r) (map (λ k. Got k) (filter p (range_with_len 0 (u + 1))))
rules_more p r before made u b e is =
    ap (λ xs. xs ++ cond b (with_trigger r (Got u) ∷ []) []) is
    ∙ append_assoc before (got_all r (filter p (range_with_len 0 u))) (cond b (with_trigger r (Got u) ∷ []) [])
    ∙ ap (λ xs. before ++ xs)
    (ap (λ xs. got_all r (filter p (range_with_len 0 u)) ++ xs) (last_one r u b ∙ ap (λ b. got_all r (cond b (u ∷ []) [])) (sym e))
    ∙ sym (ap (λ xs. got_all r (filter p xs)) (range_more u) ∙ ap (got_all r) (filter-append p (range_with_len 0 u) (u ∷ [])) ∙ got_all_append r (filter p (range_with_len 0 u)) (filter p (u ∷ []))))

-- the first that passes
pub found_first : (p : ℕ → Bool) (a k n i : ℕ) → find p (range_with_len a k) ≡ None → a + k ≡ i → k < n → p i ≡ true → find p (range_with_len a n) ≡ Some i
found_first p a k zero i none is lt e = absurd (omega arith)
found_first p a zero (suc n) i none is lt e =
    let same : a ≡ i = omega arith in
    ap (λ b. cond b (Some a) (find p (range_with_len (a + 1) n))) (ap p same ∙ e) ∙ ap Some same
found_first p a (suc k) (suc n) i none is lt e =
    one (p a) none (λ rest. found_first p (a + 1) k n i rest (omega arith) (omega arith) e) where
      one : (b : Bool) → cond b (Some a) (find p (range_with_len (a + 1) k)) ≡ None → (find p (range_with_len (a + 1) k) ≡ None → find p (range_with_len (a + 1) n) ≡ Some i)
          → cond b (Some a) (find p (range_with_len (a + 1) n)) ≡ Some i
      one true none rest = absurd (cc)
      one false none rest = rest none

none_after : (p : ℕ → Bool) (a k i : ℕ) → find p (range_with_len a k) ≡ None → a + k ≡ i → p i ≡ false → find p (range_with_len a (suc k)) ≡ None
none_after p a zero i none is e = ap (λ b. cond b (Some a) None) (ap p (let same : a ≡ i = omega arith in same) ∙ e)
none_after p a (suc k) i none is e =
    one (p a) none (λ rest. none_after p (a + 1) k i rest (omega arith) e) where
      one : (b : Bool) → cond b (Some a) (find p (range_with_len (a + 1) k)) ≡ None → (find p (range_with_len (a + 1) k) ≡ None → find p (range_with_len (a + 1) (suc k)) ≡ None)
          → cond b (Some a) (find p (range_with_len (a + 1) (suc k))) ≡ None
      one true none rest = absurd (cc)
      one false none rest = rest none

pub none_yet : (p : ℕ → Bool) (i : ℕ) → find p (range_with_len 0 i) ≡ None → p i ≡ false → find p (range_with_len 0 (i + 1)) ≡ None
none_yet p i none e = rw add-one (none_after p 0 i i none (omega arith) e)

-- the parts that were made are those of a federation
pub made_fits : (plan : Plan) (end buffers : ℕ) (groups : List Group) (federates : List Federate) → IsPlan plan → crowded_federate plan ≡ None
    → end ≡ plan.end → buffers ≡ plan.buffers → groups ≡ map (lowered_group plan.subscriptions) plan.updates → federates ≡ map (lowered_federate plan.updates) plan.federates
    → IsFederation (record { end = end; buffers = buffers; groups = groups; federates = federates })
made_fits plan end buffers groups federates f none e b g s =
    rw (e, b, g, s) (plans_make_federations_law plan f none)
