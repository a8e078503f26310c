-- Messages in the strict order of their keys, and with their numbers apart.
use Rattle.std.proofs.Common.{◌≡◌, Bool, true, false, cond, ◌&&◌, ◌==◌, List, [], ◌∷◌, filter, refl, sym, ap, ◌∙◌, true≢false}
use Rattle.std.specs.Ordering.{nat_cmp, is_lt, is_eq, ordering_then, ordering_reverse}
use Rattle.std.specs.declared.cmp.Ordering.TheVariants.{Less, Equal, Greater}
use Rattle.std.specs.Cmp.{both_tied, tied_then, unsigned_ties}
use Rattle.std.specs.List.{AllByRecursion, IsDistinct}
use Rattle.std.specs.List.Sorted.{IsStrictlySortedBy}
use Rattle.std.proofs.lemmas.Bool.{and_parts}
use Rattle.std.proofs.lemmas.Cmp.{nat_eq_equiv}
use Rattle.kit_base.specs.Order.{key_cmp, is_before, put}
use Rattle.kit_base.specs.declared.message.Message.{Message}
use Rattle.kit_base.proofs.Lists.{all_filter}
use Rattle.kit_base.proofs.Orders.{all_put, before_all, key_total}
use Rattle.kit_queue.specs.Entries.{shares_number}

-- messages of equal keys have the same sender and number
equal_shares : (a b : Message) → key_cmp a b ≡ Equal → shares_number a b ≡ true
equal_shares a b e =
    let back : key_cmp b a ≡ Equal = key_total.antisymm b a ∙ ap ordering_reverse e in
    let tied : is_eq (key_cmp b a) ≡ true = ap is_eq back in
    let numbers = ordering_then (nat_cmp b.sender a.sender) (nat_cmp b.number a.number) in
    both_tied (b.sender == a.sender) (b.number == a.number) (nat_cmp b.sender a.sender) (nat_cmp b.number a.number) (unsigned_ties b.sender a.sender) (unsigned_ties b.number a.number)
    ∙ (and_parts (is_eq (nat_cmp b.time a.time)) (is_eq numbers) (tied_then (nat_cmp b.time a.time) numbers ∙ tied)).1

-- to share a number is mutual
shares_flip : (a b : Message) → shares_number a b ≡ shares_number b a
shares_flip a b = ap (λ t. t && (b.number == a.number)) (nat_eq_equiv.symm b.sender a.sender) ∙ ap (λ t. (a.sender == b.sender) && t) (nat_eq_equiv.symm b.number a.number)

-- a message of a new number, put in its place, leaves the keys in strict order
pub sorted_put : (m : Message) (xs : List Message) → AllByRecursion (λ y. shares_number m y ≡ false) xs → IsStrictlySortedBy key_cmp xs → IsStrictlySortedBy key_cmp (put m xs)
unfolding IsStrictlySortedBy
sorted_put m [] a s = (tt, tt)
sorted_put m (x ∷ xs) a s =
    elim (key_cmp m x) as (λ o. key_cmp m x ≡ o → IsStrictlySortedBy key_cmp (cond (is_lt o) (m ∷ x ∷ xs) (x ∷ put m xs))) [
      | Less ↦ λ e. ((e, before_all m x xs e s.0), s)
      | Equal ↦ λ e. absurd (true≢false (sym (equal_shares m x e) ∙ a.0))
      | Greater ↦ λ e. (all_put (λ y. key_cmp x y ≡ Less) m xs (key_total.antisymm x m ∙ ap ordering_reverse e) s.0, sorted_put m xs a.1 s.1)
    ] refl

-- a message of a new number, put anywhere, leaves the numbers apart
pub distinct_put : (m : Message) (xs : List Message) → AllByRecursion (λ y. shares_number m y ≡ false) xs → IsDistinct shares_number xs → IsDistinct shares_number (put m xs)
unfolding IsDistinct
distinct_put m [] a d = (tt, tt)
distinct_put m (x ∷ xs) a d =
    elim (is_before m x) as (λ b. IsDistinct shares_number (cond b (m ∷ x ∷ xs) (x ∷ put m xs))) [
      | true ↦ (a, d)
      | false ↦ (all_put (λ y. shares_number x y ≡ false) m xs (shares_flip x m ∙ a.0) d.0, distinct_put m xs a.1 d.1)
    ]

-- those of them that pass a test are apart too
pub distinct_filter : (p : Message → Bool) (xs : List Message) → IsDistinct shares_number xs → IsDistinct shares_number (filter p xs)
unfolding IsDistinct
distinct_filter p [] d = tt
distinct_filter p (x ∷ xs) d =
    elim (p x) as (λ b. IsDistinct shares_number (cond b (x ∷ filter p xs) (filter p xs))) [
      | true ↦ (all_filter (λ y. shares_number x y ≡ false) p xs d.0, distinct_filter p xs d.1)
      | false ↦ distinct_filter p xs d.1
    ]
