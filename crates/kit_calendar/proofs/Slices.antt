-- The entries of a bucket, in order.
use Rattle.std.proofs.Common.{◌≡◌, ℕ, zero, suc, ◌+◌, ◌<◌, ◌≤◌, Bool, true, false, cond, ◌==◌, List, [], ◌∷◌, length, take, drop, filter, arith, refl, sym, ap, ◌∙◌, eqb-true, nat_lt}
use Rattle.std.specs.Ordering.{nat_cmp, is_lt, ordering_then}
use Rattle.std.specs.declared.cmp.Ordering.{Ordering}
use Rattle.std.specs.declared.cmp.Ordering.TheVariants.{Less}
use Rattle.std.specs.List.{AllByRecursion, IsDistinct}
use Rattle.std.specs.List.Sorted.{IsStrictlySortedBy}
use Rattle.kit_base.proofs.Lists.{all_filter, each_weaker}
use Rattle.kit_base.specs.Order.{key_cmp, is_before}
use Rattle.kit_queue.specs.declared.entry.Entry.{Entry}
use Rattle.kit_queue.specs.Entries.{messages_of, IsInOrder, AreNumberedApart, put_entry}
use Rattle.kit_base.proofs.Orders.{key_total}
use Rattle.kit_calendar.specs.Buckets.{bucket_of, bucket_cmp, IsArranged, gathered, in_bucket}
use Rattle.kit_calendar.proofs.Gathered.{first_put, each_entry, in_order_gathered}

-- a message before another is in no later bucket
pub no_later : (a b : ℕ) (o : Ordering) → ordering_then (nat_cmp a b) o ≡ Less → a ≤ b
no_later a b o h = grind arith

-- and in the same bucket it has the lesser key
pub same_bucket : (a b : ℕ) (o : Ordering) → a ≡ b → ordering_then (nat_cmp a b) o ≡ Less → o ≡ Less
same_bucket a b o e h = grind arith

-- a number is not one that it is below
not_above : (n index : ℕ) → n < index → (n == index) ≡ false
not_above n index l = grind arith

-- a number is not one that is below it
not_below : (n index : ℕ) → index + 1 ≤ n → (n == index) ≡ false
not_below n index l = grind arith

-- the first of a bucket stands no later than the first of the next
pub ordered : (f : Entry → ℕ) (index : ℕ) (es : List Entry) (from to : ℕ)
    → AllByRecursion (λ e. f e < index) (take from es) → AllByRecursion (λ e. index + 1 ≤ f e) (drop to es)
    → from ≤ length es → from ≤ to
ordered f index [] from to a d l = omega arith
ordered f index (x ∷ xs) zero to a d l = omega arith
ordered f index (x ∷ xs) (suc from) zero a d l = absurd (omega (arith, a.0, d.0))
ordered f index (x ∷ xs) (suc from) (suc to) a d l = let rest = ordered f index xs from to a.1 d (omega arith) in omega arith

-- those that are before one are before all that are after it
all_before : (e x : Entry) (xs : List Entry) → is_before e.message x.message ≡ true → AllByRecursion (λ y. key_cmp x.message y ≡ Less) (messages_of xs) → AllByRecursion (λ y. is_before e.message y.message ≡ true) xs
all_before e x xs h a =
    each_entry (λ y. is_before e.message y ≡ true) xs (each_weaker (λ y. key_cmp x.message y ≡ Less) (λ y. is_before e.message y ≡ true) (messages_of xs) (λ y l. ap is_lt (key_total.trans e.message x.message y (lt_less (key_cmp e.message x.message) h) l)) a)
  where
    lt_less : (o : Ordering) → is_lt o ≡ true → o ≡ Less
    lt_less o h = grind arith

-- a test of those in order and one more that is put in its place
filter_put : (p : Entry → Bool) (e : Entry) (es : List Entry) → IsInOrder es → filter p (put_entry e es) ≡ cond (p e) (put_entry e (filter p es)) (filter p es)
unfolding IsStrictlySortedBy
filter_put p e [] s = refl
filter_put p e (x ∷ xs) s =
    elim (is_before e.message x.message) as (λ b. is_before e.message x.message ≡ b → filter p (cond b (e ∷ x ∷ xs) (x ∷ put_entry e xs)) ≡ cond (p e) (put_entry e (filter p (x ∷ xs))) (filter p (x ∷ xs))) [
      | true ↦ λ h. ap (λ ys. cond (p e) ys (filter p (x ∷ xs))) (sym (first_put e (filter p (x ∷ xs)) (all_filter (λ y. is_before e.message y.message ≡ true) p (x ∷ xs) (h, all_before e x xs h s.0))))
      | false ↦ λ h. elim (p x) as (λ b. cond b (x ∷ filter p (put_entry e xs)) (filter p (put_entry e xs)) ≡ cond (p e) (put_entry e (cond b (x ∷ filter p xs) (filter p xs))) (cond b (x ∷ filter p xs) (filter p xs))) [
        | true ↦ ap (λ ys. x ∷ ys) (filter_put p e xs s.1) ∙ pushed (p e) h
        | false ↦ filter_put p e xs s.1
      ]
    ] refl
  where
    pushed : (b : Bool) → is_before e.message x.message ≡ false → x ∷ cond b (put_entry e (filter p xs)) (filter p xs) ≡ cond b (put_entry e (x ∷ filter p xs)) (x ∷ filter p xs)
    pushed true h = sym (ap (λ t. cond t (e ∷ x ∷ filter p xs) (x ∷ put_entry e (filter p xs))) h)
    pushed false h = refl

-- a test of those gathered
pub filter_gathered : (p : Entry → Bool) (es : List Entry) → AreNumberedApart es → filter p (gathered es) ≡ gathered (filter p es)
unfolding IsDistinct
filter_gathered p [] d = refl
filter_gathered p (x ∷ xs) d =
    filter_put p x (gathered xs) (in_order_gathered xs d.1)
    ∙ ap (λ ys. cond (p x) (put_entry x ys) ys) (filter_gathered p xs d.1)
    ∙ elim (p x) as (λ b. cond b (put_entry x (gathered (filter p xs))) (gathered (filter p xs)) ≡ gathered (cond b (x ∷ filter p xs) (filter p xs))) [ true ↦ refl | false ↦ refl ]

-- entries in order are gathered as they stand
pub gathered_in_order : (es : List Entry) → IsInOrder es → gathered es ≡ es
unfolding IsStrictlySortedBy
gathered_in_order [] s = refl
gathered_in_order (x ∷ xs) s =
    ap (put_entry x) (gathered_in_order xs s.1)
    ∙ first_put x xs (each_entry (λ y. is_before x.message y ≡ true) xs (each_weaker (λ y. key_cmp x.message y ≡ Less) (λ y. is_before x.message y ≡ true) (messages_of xs) (λ y l. ap is_lt l) s.0))

-- those of a bucket stand in the order of keys
pub bucket_in_order : (width buckets index : ℕ) (es : List Entry) → IsArranged width buckets es → IsInOrder (in_bucket width buckets index es)
unfolding IsStrictlySortedBy
bucket_in_order width buckets index [] s = tt
bucket_in_order width buckets index (x ∷ xs) s =
    elim (bucket_of width buckets x.message == index) as (λ b. (bucket_of width buckets x.message == index) ≡ b → IsInOrder (cond b (x ∷ in_bucket width buckets index xs) (in_bucket width buckets index xs))) [
      | true ↦ λ h. (lesser (eqb-true _ _ h) xs s.0, bucket_in_order width buckets index xs s.1)
      | false ↦ λ h. bucket_in_order width buckets index xs s.1
    ] refl
  where
    lesser : bucket_of width buckets x.message ≡ index → (ys : List Entry) → AllByRecursion (λ y. bucket_cmp width buckets x.message y ≡ Less) (messages_of ys) → AllByRecursion (λ y. key_cmp x.message y ≡ Less) (messages_of (in_bucket width buckets index ys))
    lesser own [] a = tt
    lesser own (y ∷ ys) a =
        elim (bucket_of width buckets y.message == index) as (λ b. (bucket_of width buckets y.message == index) ≡ b → AllByRecursion (λ z. key_cmp x.message z ≡ Less) (messages_of (cond b (y ∷ in_bucket width buckets index ys) (in_bucket width buckets index ys)))) [
          | true ↦ λ h. (same_bucket (bucket_of width buckets x.message) (bucket_of width buckets y.message) (key_cmp x.message y.message) (own ∙ sym (eqb-true _ _ h)) a.0, lesser own ys a.1)
          | false ↦ λ h. lesser own ys a.1
        ] refl

-- what the test says of a bucket below the index
pub below_index : (n index : ℕ) → nat_lt n index ≡ true → n < index
below_index n index h = grind arith

-- and of the others
pub not_below_index : (n index : ℕ) → nat_lt n index ≡ false → index ≤ n
not_below_index n index h = grind arith
