-- Messages of which no two have one number of one sender, in whatever order; and lengths.
use Rattle.std.proofs.Common.{◌≡◌, ℕ, suc, ◌+◌, ◌<◌, ◌≤◌, Bool, true, false, cond, List, [], ◌∷◌, length, map, filter, fold, arith, refl, sym, subst, ap, ◌∙◌}
use Rattle.std.specs.List.{AllByRecursion}
use Rattle.std.specs.Ordering.{is_lt, is_eq, ordering_reverse}
use Rattle.std.specs.declared.cmp.Ordering.{Ordering}
use Rattle.std.specs.declared.cmp.Ordering.TheVariants.{Less, Equal, Greater}
use Rattle.std.proofs.lemmas.Bool.{eq-eqb}
use Rattle.kit_base.specs.declared.message.Message.{Message}
use Rattle.kit_base.specs.Order.{in_order, is_before, put, key_cmp}
use Rattle.kit_base.proofs.Lists.{each_weaker}
use Rattle.kit_base.proofs.Filtering.{Up}
use Rattle.kit_base.proofs.Orders.{key_total, all_put}
use Rattle.kit_laws.proofs.OwnSends.{from}
use Rattle.kit_oracle.proofs.Keeping.{same_key}
use Rattle.kit_oracle.proofs.Starting.{of_own}
use Rattle.kit_cut.specs.ValidCuts.{NumbersDiffer}
use Rattle.kit_cut.proofs.Pairwise.{Pairwise, Lower}

-- lists that are shorter
pub shorter_filter : {X : Type 0} (q : X → Bool) (xs : List X) → length (filter q xs) ≤ length xs
shorter_filter q [] = omega arith
shorter_filter q (x ∷ xs) = elim (q x) as (λ b. length (cond b (x ∷ filter q xs) (filter q xs)) ≤ suc (length xs)) [ true ↦ (let h = shorter_filter q xs in omega arith) | false ↦ (let h = shorter_filter q xs in omega arith) ]

pub same_length_map : {X Y : Type 0} (f : X → Y) (xs : List X) → length (map f xs) ≡ length xs
same_length_map f [] = refl
same_length_map f (x ∷ xs) = ap suc (same_length_map f xs)

-- numbers that a sender has differ, where those of each sender rise
pub differ_from : (bound : ℕ) (ms : List Message) → AllByRecursion (λ (m : Message). m.sender < bound) ms → ((k : ℕ) → k < bound → Pairwise Lower (filter (from k) ms)) → Pairwise NumbersDiffer ms
differ_from bound [] lt rise = tt
differ_from bound (m ∷ ms) lt rise =
    let P : Bool → Type 0 = λ b. Pairwise Lower (cond b (m ∷ filter (from m.sender) ms) (filter (from m.sender) ms)) in
    let here : Pairwise Lower (m ∷ filter (from m.sender) ms) = subst P (eq-eqb m.sender m.sender refl) (rise m.sender lt.0) in (
      each_weaker (λ (x : Message). x.sender ≡ m.sender → Lower m x) (NumbersDiffer m) ms (λ x h same is. let low : m.number < x.number = h (sym same) in omega arith) (of_own (Lower m) m.sender ms here.0),
      differ_from bound ms lt.1 (λ k below. tail k (rise k below)),
    )
  where
    tail : (k : ℕ) → Pairwise Lower (filter (from k) (m ∷ ms)) → Pairwise Lower (filter (from k) ms)
    tail k h = elim (from k m) as (λ b. Pairwise Lower (cond b (m ∷ filter (from k) ms) (filter (from k) ms)) → Pairwise Lower (filter (from k) ms)) [ true ↦ λ a. a.1 | false ↦ λ a. a ] h

differ_put : (m : Message) (xs : List Message) → AllByRecursion (NumbersDiffer m) xs → Pairwise NumbersDiffer xs → Pairwise NumbersDiffer (put m xs)
differ_put m [] a h = (tt, tt)
differ_put m (x ∷ xs) a h =
    elim (is_before m x) as (λ b. Pairwise NumbersDiffer (cond b (m ∷ x ∷ xs) (x ∷ put m xs)))
    [ true ↦ (a, h) | false ↦ (all_put (NumbersDiffer x) m xs (λ same is. a.0 (sym same) (sym is)) h.0, differ_put m xs a.1 h.1) ]

differ_fold : (acc xs : List Message) → Pairwise NumbersDiffer acc → Pairwise NumbersDiffer xs → AllByRecursion (λ x. AllByRecursion (NumbersDiffer x) acc) xs
    → Pairwise NumbersDiffer (fold (λ (sorted : List Message) (m : Message). put m sorted) acc xs)
differ_fold acc [] a h c = a
differ_fold acc (x ∷ xs) a h c =
    differ_fold (put x acc) xs (differ_put x acc c.0 a) h.1 (both xs (each_weaker (NumbersDiffer x) (λ y. NumbersDiffer y x) xs (λ y d same is. d (sym same) (sym is)) h.0) c.1)
  where
    both : (ys : List Message) → AllByRecursion (λ y. NumbersDiffer y x) ys → AllByRecursion (λ y. AllByRecursion (NumbersDiffer y) acc) ys → AllByRecursion (λ y. AllByRecursion (NumbersDiffer y) (put x acc)) ys
    both [] d e = tt
    both (y ∷ ys) d e = (all_put (NumbersDiffer y) x acc d.0 e.0, both ys d.1 e.1)

none_before : (xs : List Message) → AllByRecursion (λ x. AllByRecursion (NumbersDiffer x) []) xs
none_before [] = tt
none_before (x ∷ xs) = (tt, none_before xs)

pub differ_in_order : (xs : List Message) → Pairwise NumbersDiffer xs → Pairwise NumbersDiffer (in_order xs)
differ_in_order xs h = differ_fold [] xs tt h (none_before xs)

-- of two messages with other keys one comes before the other
strict : (x y : Message) → is_before y x ≡ false → NumbersDiffer x y → is_before x y ≡ true
strict x y h d = by_order (key_cmp y x) refl
  where
    by_order : (o : Ordering) → key_cmp y x ≡ o → is_before x y ≡ true
    by_order Less e = absurd (let no : is_lt Less ≡ false = sym (ap is_lt e) ∙ h in cc)
    by_order Equal e = let s = same_key y x (ap is_eq e) in absurd (d (sym s.1) (sym s.2))
    by_order Greater e = ap is_lt (key_total.antisymm x y ∙ ap ordering_reverse e)

-- those in order that differ come one before another
pub rise_in_order : (xs : List Message) → Up xs → Pairwise NumbersDiffer xs → Pairwise (λ a b. is_before a b ≡ true) xs
rise_in_order [] u d = tt
rise_in_order (x ∷ xs) u d = (both x xs u.0 d.0, rise_in_order xs u.1 d.1)
  where
    both : (x : Message) (ys : List Message) → AllByRecursion (λ y. is_before y x ≡ false) ys → AllByRecursion (NumbersDiffer x) ys → AllByRecursion (λ y. is_before x y ≡ true) ys
    both x [] u d = tt
    both x (y ∷ ys) u d = (strict x y u.0 d.0, both x ys u.1 d.1)

length_put : (m : Message) (xs : List Message) → length (put m xs) ≡ suc (length xs)
length_put m [] = refl
length_put m (x ∷ xs) = elim (is_before m x) as (λ b. length (cond b (m ∷ x ∷ xs) (x ∷ put m xs)) ≡ suc (suc (length xs))) [ true ↦ refl | false ↦ ap suc (length_put m xs) ]

pub length_fold : (acc xs : List Message) → length (fold (λ (sorted : List Message) (m : Message). put m sorted) acc xs) ≡ length acc + length xs
length_fold acc [] = omega arith
length_fold acc (x ∷ xs) = length_fold (put x acc) xs ∙ (let h = length_put x acc in let e : length (put x acc) + length xs ≡ length acc + suc (length xs) = omega arith in e)
