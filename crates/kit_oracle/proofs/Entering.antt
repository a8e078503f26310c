-- A queue in order: what enters it, and what stands at its front.
use Rattle.std.proofs.Common.{◌≡◌, ℕ, ◌<◌, ◌≤◌, inl, inr, Bool, true, false, cond, not, ◌&&◌, ◌||◌, List, [], ◌∷◌, ◌++◌, filter, nat_le, nat_eq, arith, refl, sym, ap, ◌∙◌}
use Rattle.std.specs.List.{AllByRecursion, list_any}
use Rattle.std.specs.Ordering.{match_ordering, is_eq, is_lt}
use Rattle.std.specs.declared.cmp.Ordering.{Ordering}
use Rattle.std.specs.declared.cmp.Ordering.TheVariants.{Less, Equal, Greater}
use Rattle.std.proofs.lemmas.Bool.{cases_Bool, and_from, eq-eqb, leb-false, lt-leb}
use Rattle.kit_base.specs.declared.message.Message.{Message}
use Rattle.kit_base.specs.Order.{in_order, is_before, key_cmp, put}
use Rattle.kit_rules.specs.Parts.{Parts}
use Rattle.kit_rules.specs.Delivery.{is_same, pending_messages, due_messages}
use Rattle.kit_oracle.specs.Pending.{queue_with, front_until, rest_after}
use Rattle.kit_oracle.proofs.Keeping.{same_key}
use Rattle.kit_base.proofs.Filtering.{Up, up_in_order}
use Rattle.kit_base.proofs.Lists.{each_weaker, none_pass}
use Rattle.kit_base.proofs.Orders.{not_before}
use Rattle.kit_oracle.proofs.Fronts.{due_is_front, left_is_back}

-- a message whose key is new is put in its place
pub enter_new : (m : Message) (xs : List Message) → list_any (is_same m) xs ≡ false → queue_with m xs ≡ put m xs
enter_new m [] h = refl
enter_new m (x ∷ xs) h =
    elim (cases_Bool (is_same m x)) [
      | inl e ↦ absurd (let f : (is_same m x || list_any (is_same m) xs) ≡ false = h in let t : (true || list_any (is_same m) xs) ≡ false = ap (λ b. b || list_any (is_same m) xs) (sym e) ∙ f in cc)
      | inr e ↦ by_order (key_cmp m x) (λ t. same_is e (same_key m x t)) (enter_new m xs (ap (λ b. b || list_any (is_same m) xs) (sym e) ∙ h))
    ]
  where
    same_is : is_same m x ≡ false → (m.time ≡ x.time) × (m.sender ≡ x.sender) × (m.number ≡ x.number) → ⊥
    same_is e s =
        let t : is_same m x ≡ true = and_from (nat_eq x.time m.time && nat_eq x.sender m.sender) (nat_eq x.number m.number)
        (and_from (nat_eq x.time m.time) (nat_eq x.sender m.sender) (eq-eqb x.time m.time (sym s.0)) (eq-eqb x.sender m.sender (sym s.1))) (eq-eqb x.number m.number (sym s.2)) in
        cc

    by_order : (o : Ordering) → (is_eq o ≡ true → ⊥) → queue_with m xs ≡ put m xs → match_ordering o (m ∷ x ∷ xs) (m ∷ xs) (x ∷ queue_with m xs) ≡ cond (is_lt o) (m ∷ x ∷ xs) (x ∷ put m xs)
    by_order Less f r = refl
    by_order Equal f r = absurd (f refl)
    by_order Greater f r = ap (λ ys. x ∷ ys) r

-- behind one that is late all are
late_behind : (d : ℕ) (x : Message) (xs : List Message) → nat_le x.time d ≡ false → AllByRecursion (λ (y : Message). is_before y x ≡ false) xs → AllByRecursion (λ (y : Message). nat_le y.time d ≡ false) xs
late_behind d x xs e u =
    each_weaker (λ (y : Message). is_before y x ≡ false) (λ (y : Message). nat_le y.time d ≡ false) xs
    (λ y up. let le : x.time ≤ y.time = not_before y x up in let lt : d < x.time = leb-false x.time d e in lt-leb y.time d (omega arith)) u

-- the front of a list in order is all that is timed d or less
front_is : (d : ℕ) (xs : List Message) → Up xs → front_until d xs ≡ filter (λ (m : Message). nat_le m.time d) xs
front_is d [] u = refl
front_is d (x ∷ xs) u =
    elim (cases_Bool (nat_le x.time d)) [
      | inl e ↦ rw e (ap (λ ys. x ∷ ys) (front_is d xs u.1))
      | inr e ↦ rw e (sym (none_pass (λ (m : Message). nat_le m.time d) xs (late_behind d x xs e u.0)))
    ]

-- a filter of what passes leaves all
pub all_left : (t : Message → Bool) (xs : List Message) → AllByRecursion (λ y. t y ≡ false) xs → filter (λ x. not (t x)) xs ≡ xs
all_left t [] h = refl
all_left t (x ∷ xs) h = rw h.0 (ap (λ ys. x ∷ ys) (all_left t xs h.1))

-- and what is behind it is the rest
behind_is : (d : ℕ) (xs : List Message) → Up xs → rest_after d xs ≡ filter (λ (m : Message). not (nat_le m.time d)) xs
behind_is d [] u = refl
behind_is d (x ∷ xs) u =
    elim (cases_Bool (nat_le x.time d)) [
      | inl e ↦ rw e (behind_is d xs u.1)
      | inr e ↦ rw e (ap (λ ys. x ∷ ys) (sym (all_left (λ (m : Message). nat_le m.time d) xs (late_behind d x xs e u.0))))
    ]

-- a grant of d delivers the front of what is pending in order
pub front_is_due : (p : Parts) (i d : ℕ) (got sent : List Message) → front_until d (in_order (pending_messages p i got sent)) ≡ due_messages p i d got sent
front_is_due p i d got sent = front_is d (in_order (pending_messages p i got sent)) (up_in_order (pending_messages p i got sent)) ∙ sym (due_is_front p i d got sent)

-- and leaves what is behind it
pub behind_is_left : (p : Parts) (i d : ℕ) (got sent : List Message) → rest_after d (in_order (pending_messages p i got sent)) ≡ in_order (pending_messages p i (got ++ due_messages p i d got sent) sent)
behind_is_left p i d got sent = behind_is d (in_order (pending_messages p i got sent)) (up_in_order (pending_messages p i got sent)) ∙ sym (left_is_back p i d got sent)
