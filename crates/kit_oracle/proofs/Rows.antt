-- Messages in a row, in the order of their keys, and where a key stands among them.
use Rattle.std.proofs.Common.{◌≡◌, ℕ, zero, suc, ◌<◌, ◌≤◌, true, false, cond, not, List, [], ◌∷◌, ◌++◌, length, get_or, set, arith, refl, sym, ap, ◌∙◌, true≢false}
use Rattle.std.specs.List.{AllByRecursion, insert, remove}
use Rattle.std.specs.List.Sorted.{IsStrictlySortedBy, IsPartitionedBy}
use Rattle.std.specs.Ordering.{match_ordering, is_eq, is_lt, ordering_reverse}
use Rattle.std.specs.declared.cmp.Ordering.{Ordering}
use Rattle.std.specs.declared.cmp.Ordering.TheVariants.{Less, Equal, Greater}
use Rattle.kit_base.specs.declared.message.Message.{Message}
use Rattle.kit_base.specs.Order.{key_cmp}
use Rattle.kit_base.proofs.Lists.{each_weaker}
use Rattle.kit_base.proofs.Orders.{key_total, before_all}
use Rattle.kit_oracle.specs.declared.pending.Key.{Key}
use Rattle.kit_oracle.specs.Pending.{compare_keys, key_of, queue_with, has_key, without_key}
use Rattle.kit_oracle.proofs.Keeping.{key_tied, keys_total, is_equal}
use Rattle.kit_oracle.proofs.Entering.{all_left}

pub is_less : (o : Ordering) → is_lt o ≡ true → o ≡ Less
is_less Less h = refl
is_less Equal h = absurd (cc)
is_less Greater h = absurd (cc)

-- what holds of each holds at a place
at_place : (P : Message → Type 0) (xs : List Message) (k : ℕ) (d : Message) → AllByRecursion P xs → k < length xs → P (get_or xs k d)
at_place P [] k d h l = absurd (omega arith)
at_place P (x ∷ xs) zero d h l = h.0
at_place P (x ∷ xs) (suc k) d h l = at_place P xs k d h.1 (omega arith)

-- those before a key stand before the others
pub parted : (k : Key) (xs : List Message) → IsStrictlySortedBy key_cmp xs → IsPartitionedBy (λ (x : Message). is_lt (compare_keys (key_of x) k)) xs
unfolding IsStrictlySortedBy
parted k [] s i j d le l h = absurd (omega arith)
parted k (x ∷ xs) s zero zero d le l h = h
parted k (x ∷ xs) s zero (suc j) d le l h =
    ap is_lt (keys_total.trans (key_of x) (key_of (get_or xs j d)) k (at_place (λ y. key_cmp x y ≡ Less) xs j d s.0 (omega arith)) (is_less (compare_keys (key_of (get_or xs j d)) k) h))
parted k (x ∷ xs) s (suc i) zero d le l h = absurd (omega arith)
parted k (x ∷ xs) s (suc i) (suc j) d le l h = parted k xs s.1 i j d (omega arith) (omega arith) h

-- one that is before a message is passed by it
passed : (m x : Message) → is_lt (key_cmp x m) ≡ true → key_cmp m x ≡ Greater
passed m x h = key_total.antisymm m x ∙ ap ordering_reverse (is_less (key_cmp x m) h)

-- one that is neither before a message nor of its key comes after it
comes_after : (k : Key) (x : Message) → is_lt (compare_keys (key_of x) k) ≡ false → has_key k.time k.sender k.number x ≡ false → compare_keys k (key_of x) ≡ Less
comes_after k x h e =
    by_order (compare_keys k (key_of x)) (keys_total.antisymm (key_of x) k) (sym (key_tied k x) ∙ e)
  where
    by_order : (o : Ordering) → compare_keys (key_of x) k ≡ ordering_reverse o → is_eq o ≡ false → o ≡ Less
    by_order Less r f = refl
    by_order Equal r f = absurd (true≢false f)
    by_order Greater r f = absurd (true≢false (sym (ap is_lt r) ∙ h))

-- a message whose key is new enters the row between those before it and the others
pub entered : (m : Message) (xs : List Message) (i : ℕ) → i ≤ length xs → ((k : ℕ) (d : Message) → k < i → is_lt (key_cmp (get_or xs k d) m) ≡ true)
    → ((d : Message) → i < length xs → is_lt (key_cmp (get_or xs i d) m) ≡ false) → ((d : Message) → i < length xs → has_key m.time m.sender m.number (get_or xs i d) ≡ false)
    → queue_with m xs ≡ insert xs i m
entered m [] zero l f t e = refl
entered m [] (suc i) l f t e = absurd (omega arith)
entered m (x ∷ xs) zero l f t e = ap (λ o. match_ordering o (m ∷ x ∷ xs) (m ∷ xs) (x ∷ queue_with m xs)) (comes_after (key_of m) x (t m (omega arith)) (e m (omega arith)))
entered m (x ∷ xs) (suc i) l f t e =
    ap (λ o. match_ordering o (m ∷ x ∷ xs) (m ∷ xs) (x ∷ queue_with m xs)) (passed m x (f 0 m (omega arith)))
    ∙ ap (λ ys. x ∷ ys) (entered m xs i (omega arith) (λ k d h. f (suc k) d (omega arith)) (λ d h. t d (omega arith)) (λ d h. e d (omega arith)))

-- a message takes the place of the one with its key
pub replaced : (m : Message) (xs : List Message) (i : ℕ) (d : Message) → i < length xs → ((k : ℕ) (d : Message) → k < i → is_lt (key_cmp (get_or xs k d) m) ≡ true)
    → has_key m.time m.sender m.number (get_or xs i d) ≡ true → queue_with m xs ≡ set xs i m
replaced m [] i d l f e = absurd (omega arith)
replaced m (x ∷ xs) zero d l f e = ap (λ o. match_ordering o (m ∷ x ∷ xs) (m ∷ xs) (x ∷ queue_with m xs)) (is_equal (key_cmp m x) (sym (key_tied (key_of m) x) ∙ e))
replaced m (x ∷ xs) (suc i) d l f e =
    ap (λ o. match_ordering o (m ∷ x ∷ xs) (m ∷ xs) (x ∷ queue_with m xs)) (passed m x (f 0 m (omega arith)))
    ∙ ap (λ ys. x ∷ ys) (replaced m xs i d (omega arith) (λ k d h. f (suc k) d (omega arith)) e)

-- one that comes before a key, or behind it, has not that key
pub not_before : (k : Key) (x : Message) → is_lt (compare_keys (key_of x) k) ≡ true → has_key k.time k.sender k.number x ≡ false
not_before k x h = key_tied k x ∙ ap is_eq (keys_total.antisymm k (key_of x) ∙ ap ordering_reverse (is_less (compare_keys (key_of x) k) h))

not_behind : (k : Key) (x : Message) → compare_keys k (key_of x) ≡ Less → has_key k.time k.sender k.number x ≡ false
not_behind k x h = key_tied k x ∙ ap is_eq h

-- nothing is taken out where all come behind a key
pub all_behind : (k : Key) (xs : List Message) → AllByRecursion (λ (y : Message). compare_keys k (key_of y) ≡ Less) xs → without_key k.time k.sender k.number xs ≡ xs
all_behind k xs h = all_left (has_key k.time k.sender k.number) xs (each_weaker (λ (y : Message). compare_keys k (key_of y) ≡ Less) (λ y. has_key k.time k.sender k.number y ≡ false) xs (λ y l. not_behind k y l) h)

-- the one with a key is taken out
pub removed : (k : Key) (xs : List Message) (i : ℕ) (d : Message) → IsStrictlySortedBy key_cmp xs → i < length xs → ((j : ℕ) (d : Message) → j < i → is_lt (compare_keys (key_of (get_or xs j d)) k) ≡ true)
    → has_key k.time k.sender k.number (get_or xs i d) ≡ true → without_key k.time k.sender k.number xs ≡ remove xs i
unfolding IsStrictlySortedBy
removed k [] i d s l f e = absurd (omega arith)
removed k (x ∷ xs) zero d s l f e =
    let same : compare_keys k (key_of x) ≡ Equal = is_equal (compare_keys k (key_of x)) (sym (key_tied k x) ∙ e) in
    let rest = without_key k.time k.sender k.number xs in
    ap (λ b. cond (not b) (x ∷ rest) rest) e
    ∙ all_behind k xs (each_weaker (λ (y : Message). key_cmp x y ≡ Less) (λ (y : Message). compare_keys k (key_of y) ≡ Less) xs (λ y h. keys_total.congr k (key_of x) (key_of y) same ∙ h) s.0)
removed k (x ∷ xs) (suc i) d s l f e =
    let rest = without_key k.time k.sender k.number xs in
    ap (λ b. cond (not b) (x ∷ rest) rest) (not_before k x (f 0 d (omega arith))) ∙ ap (λ ys. x ∷ ys) (removed k xs i d s.1 (omega arith) (λ j d h. f (suc j) d (omega arith)) e)

-- nothing is taken out where none has the key
pub absent : (k : Key) (xs : List Message) (i : ℕ) → IsStrictlySortedBy key_cmp xs → i ≤ length xs → ((j : ℕ) (d : Message) → j < i → is_lt (compare_keys (key_of (get_or xs j d)) k) ≡ true)
    → ((d : Message) → i < length xs → is_lt (compare_keys (key_of (get_or xs i d)) k) ≡ false) → ((d : Message) → i < length xs → has_key k.time k.sender k.number (get_or xs i d) ≡ false)
    → without_key k.time k.sender k.number xs ≡ xs
unfolding IsStrictlySortedBy
absent k [] i s l f t e = refl
absent k (x ∷ xs) zero s l f t e =
    let first : compare_keys k (key_of x) ≡ Less = comes_after k x (t x (omega arith)) (e x (omega arith)) in
    all_behind k (x ∷ xs) (first, each_weaker (λ (y : Message). key_cmp x y ≡ Less) (λ (y : Message). compare_keys k (key_of y) ≡ Less) xs (λ y h. keys_total.trans k (key_of x) (key_of y) first h) s.0)
absent k (x ∷ xs) (suc i) s l f t e =
    let rest = without_key k.time k.sender k.number xs in
    ap (λ b. cond (not b) (x ∷ rest) rest) (not_before k x (f 0 x (omega arith)))
    ∙ ap (λ ys. x ∷ ys) (absent k xs i s.1 (omega arith) (λ j d h. f (suc j) d (omega arith)) (λ d h. t d (omega arith)) (λ d h. e d (omega arith)))

-- a message that all of the others come behind enters among the first
pub enters_near : (m : Message) (xs ys : List Message) → AllByRecursion (λ (y : Message). key_cmp m y ≡ Less) ys → queue_with m (xs ++ ys) ≡ queue_with m xs ++ ys
enters_near m [] [] h = refl
enters_near m [] (y ∷ ys) h = ap (λ o. match_ordering o (m ∷ y ∷ ys) (m ∷ ys) (y ∷ queue_with m ys)) h.0
enters_near m (x ∷ xs) ys h = by_order (key_cmp m x) (enters_near m xs ys h)
  where
    by_order : (o : Ordering) → queue_with m (xs ++ ys) ≡ queue_with m xs ++ ys
        → match_ordering o (m ∷ x ∷ (xs ++ ys)) (m ∷ (xs ++ ys)) (x ∷ queue_with m (xs ++ ys)) ≡ match_ordering o (m ∷ x ∷ xs) (m ∷ xs) (x ∷ queue_with m xs) ++ ys
    by_order Less r = refl
    by_order Equal r = refl
    by_order Greater r = ap (λ zs. x ∷ zs) r

-- a message that comes behind all of the first enters among the others
pub enters_far : (m : Message) (xs ys : List Message) → AllByRecursion (λ (x : Message). key_cmp x m ≡ Less) xs → queue_with m (xs ++ ys) ≡ xs ++ queue_with m ys
enters_far m [] ys h = refl
enters_far m (x ∷ xs) ys h = ap (λ o. match_ordering o (m ∷ x ∷ (xs ++ ys)) (m ∷ (xs ++ ys)) (x ∷ queue_with m (xs ++ ys))) (passed m x (ap is_lt h.0)) ∙ ap (λ zs. x ∷ zs) (enters_far m xs ys h.1)

-- what holds of a message and of each of a list holds of each once it has entered
all_with : (P : Message → Type 0) (m : Message) (xs : List Message) → P m → AllByRecursion P xs → AllByRecursion P (queue_with m xs)
all_with P m [] h a = (h, tt)
all_with P m (x ∷ xs) h a = by_order (key_cmp m x) (all_with P m xs h a.1)
  where
    by_order : (o : Ordering) → AllByRecursion P (queue_with m xs) → AllByRecursion P (match_ordering o (m ∷ x ∷ xs) (m ∷ xs) (x ∷ queue_with m xs))
    by_order Less r = (h, a)
    by_order Equal r = (h, a.1)
    by_order Greater r = (a.0, r)

-- a message that enters leaves the order
pub sorted_with : (m : Message) (xs : List Message) → IsStrictlySortedBy key_cmp xs → IsStrictlySortedBy key_cmp (queue_with m xs)
unfolding IsStrictlySortedBy
sorted_with m [] s = (tt, tt)
sorted_with m (x ∷ xs) s =
    elim (key_cmp m x) as (λ o. key_cmp m x ≡ o → IsStrictlySortedBy key_cmp (match_ordering o (m ∷ x ∷ xs) (m ∷ xs) (x ∷ queue_with m xs))) [
      | Less ↦ λ e. ((e, before_all m x xs e s.0), s)
      | Equal ↦ λ e. (each_weaker (λ (y : Message). key_cmp x y ≡ Less) (λ (y : Message). key_cmp m y ≡ Less) xs (λ y l. key_total.congr m x y e ∙ l) s.0, s.1)
      | Greater ↦ λ e. (all_with (λ y. key_cmp x y ≡ Less) m xs (key_total.antisymm x m ∙ ap ordering_reverse e) s.0, sorted_with m xs s.1)
    ] refl

-- the first part of what is in order is in order, and so is the second
pub sorted_first : (xs ys : List Message) → IsStrictlySortedBy key_cmp (xs ++ ys) → IsStrictlySortedBy key_cmp xs
unfolding IsStrictlySortedBy
sorted_first [] ys s = tt
sorted_first (x ∷ xs) ys s = (all_first (λ y. key_cmp x y ≡ Less) xs ys s.0, sorted_first xs ys s.1)
  where
    all_first : (P : Message → Type 0) (xs ys : List Message) → AllByRecursion P (xs ++ ys) → AllByRecursion P xs
    all_first P [] ys h = tt
    all_first P (x ∷ xs) ys h = (h.0, all_first P xs ys h.1)

pub sorted_second : (xs ys : List Message) → IsStrictlySortedBy key_cmp (xs ++ ys) → IsStrictlySortedBy key_cmp ys
unfolding IsStrictlySortedBy
sorted_second [] ys s = s
sorted_second (x ∷ xs) ys s = sorted_second xs ys s.1
