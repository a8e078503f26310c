-- Lists that have the entries of their buckets alone.
use Rattle.std.proofs.Common.{replicate, ◌≡◌, ℕ, zero, suc, ◌+◌, ◌<◌, ◌≤◌, ◌==◌, true, false, cond, List, [], ◌∷◌, ◌++◌, length, take, drop, set, filter, arith, refl, sym, ap, ◌∙◌, subst, eq-eqb}
use Rattle.std.specs.Ordering.{nat_cmp, is_lt, ordering_then}
use Rattle.std.specs.declared.cmp.Ordering.{Ordering}
use Rattle.std.specs.declared.cmp.Ordering.TheVariants.{Less}
use Rattle.std.specs.List.{AllByRecursion, insert, remove}
use Rattle.std.specs.List.Sorted.{IsStrictlySortedBy}
use Rattle.std.proofs.lemmas.List.{append-nil}
use Rattle.std.proofs.lemmas.List.Elements.{filter-append}
use Rattle.std.proofs.Math.Seq.{take-append-add, drop-append-add}
use Rattle.std.proofs.lemmas.List.{length-append}
use Rattle.kit_base.proofs.Lists.{all-append, each_weaker}
use Rattle.kit_base.specs.Order.{key_cmp, is_before}
use Rattle.kit_queue.specs.declared.entry.Entry.{Entry}
use Rattle.kit_queue.specs.Entries.{messages_of, IsInOrder, AreNumberedApart, put_entry}
use Rattle.kit_calendar.specs.Rows.{joined, offset, list_at}
use Rattle.kit_calendar.specs.Buckets.{bucket_of, bucket_cmp, IsDealt, IsArranged, gathered, in_bucket, put_by}
use Rattle.kit_calendar.proofs.Slices.{filter_gathered, gathered_in_order, bucket_in_order}

-- a message of an earlier bucket comes first
lt_then : (a b : ℕ) (o : Ordering) → a < b → is_lt (ordering_then (nat_cmp a b) o) ≡ true
lt_then a b o h = grind arith

-- and one of a later bucket does not
gt_then : (a b : ℕ) (o : Ordering) → b < a → is_lt (ordering_then (nat_cmp a b) o) ≡ false
gt_then a b o h = grind arith

-- in the same bucket the keys decide
eq_then : (a b : ℕ) (o : Ordering) → a ≡ b → is_lt (ordering_then (nat_cmp a b) o) ≡ is_lt o
eq_then a b o h = grind arith

less_then : (a b : ℕ) (o : Ordering) → a ≡ b → ordering_then (nat_cmp a b) o ≡ Less → o ≡ Less
less_then a b o e h = grind arith

-- the entries of the lists from the k-th on are of no earlier bucket
pub all_later : (width buckets k : ℕ) (ls : List (List Entry)) → IsDealt width buckets k ls → AllByRecursion (λ e. k ≤ bucket_of width buckets e.message) (joined ls)
all_later width buckets k [] d = tt
all_later width buckets k (l ∷ ls) d =
    all-append (λ e. k ≤ bucket_of width buckets e.message) l (joined ls)
    (each_weaker (λ (e : Entry). bucket_of width buckets e.message ≡ k) (λ e. k ≤ bucket_of width buckets e.message) l (λ e h. omega arith) d.0)
    (each_weaker (λ (e : Entry). k + 1 ≤ bucket_of width buckets e.message) (λ e. k ≤ bucket_of width buckets e.message) (joined ls) (λ e h. omega arith) (all_later width buckets (k + 1) ls d.1))

-- an entry that comes before all is put first
put_ahead : (width buckets : ℕ) (e : Entry) (rest : List Entry) → AllByRecursion (λ x. bucket_of width buckets e.message < bucket_of width buckets x.message) rest → put_by (bucket_cmp width buckets) e rest ≡ e ∷ rest
put_ahead width buckets e [] a = refl
put_ahead width buckets e (x ∷ xs) a = ap (λ t. cond t (e ∷ x ∷ xs) (x ∷ put_by (bucket_cmp width buckets) e xs)) (lt_then (bucket_of width buckets e.message) (bucket_of width buckets x.message) (key_cmp e.message x.message) a.0)

-- an entry is put among those of its bucket by its key
put_front : (width buckets : ℕ) (e : Entry) (l rest : List Entry) → AllByRecursion (λ x. bucket_of width buckets x.message ≡ bucket_of width buckets e.message) l → AllByRecursion (λ x. bucket_of width buckets e.message < bucket_of width buckets x.message) rest
    → put_by (bucket_cmp width buckets) e (l ++ rest) ≡ put_entry e l ++ rest
put_front width buckets e [] rest a later = put_ahead width buckets e rest later
put_front width buckets e (x ∷ xs) rest a later =
    ap (λ t. cond t (e ∷ x ∷ (xs ++ rest)) (x ∷ put_by (bucket_cmp width buckets) e (xs ++ rest))) (eq_then (bucket_of width buckets e.message) (bucket_of width buckets x.message) (key_cmp e.message x.message) (sym a.0))
    ∙ elim (is_before e.message x.message) as (λ t. cond t (e ∷ x ∷ (xs ++ rest)) (x ∷ put_by (bucket_cmp width buckets) e (xs ++ rest)) ≡ cond t (e ∷ x ∷ xs) (x ∷ put_entry e xs) ++ rest) [
      | true ↦ refl
      | false ↦ ap (λ ys. x ∷ ys) (put_front width buckets e xs rest a.1 later)
    ]

-- and behind those of earlier buckets
put_behind : (width buckets : ℕ) (e : Entry) (l rest : List Entry) → AllByRecursion (λ x. bucket_of width buckets x.message < bucket_of width buckets e.message) l
    → put_by (bucket_cmp width buckets) e (l ++ rest) ≡ l ++ put_by (bucket_cmp width buckets) e rest
put_behind width buckets e [] rest a = refl
put_behind width buckets e (x ∷ xs) rest a =
    ap (λ t. cond t (e ∷ x ∷ (xs ++ rest)) (x ∷ put_by (bucket_cmp width buckets) e (xs ++ rest))) (gt_then (bucket_of width buckets e.message) (bucket_of width buckets x.message) (key_cmp e.message x.message) a.0)
    ∙ ap (λ ys. x ∷ ys) (put_behind width buckets e xs rest a.1)

-- an entry put in the list of its bucket is put among the joined ones
pub put_joined : (width buckets k : ℕ) (e : Entry) (ls : List (List Entry)) (i at : ℕ) → IsDealt width buckets k ls → bucket_of width buckets e.message ≡ k + i → i < length ls → put_entry e (list_at ls i) ≡ insert (list_at ls i) at e
    → put_by (bucket_cmp width buckets) e (joined ls) ≡ joined (set ls i (insert (list_at ls i) at e))
put_joined width buckets k e [] i at d b l p = absurd (omega arith)
put_joined width buckets k e (x ∷ xs) zero at d b l p =
    put_front width buckets e x (joined xs)
    (each_weaker (λ (y : Entry). bucket_of width buckets y.message ≡ k) (λ y. bucket_of width buckets y.message ≡ bucket_of width buckets e.message) x (λ y h. omega arith) d.0)
    (each_weaker (λ (y : Entry). k + 1 ≤ bucket_of width buckets y.message) (λ y. bucket_of width buckets e.message < bucket_of width buckets y.message) (joined xs) (λ y h. omega arith) (all_later width buckets (k + 1) xs d.1))
    ∙ ap (λ ys. ys ++ joined xs) p
put_joined width buckets k e (x ∷ xs) (suc i) at d b l p =
    put_behind width buckets e x (joined xs) (each_weaker (λ (y : Entry). bucket_of width buckets y.message ≡ k) (λ y. bucket_of width buckets y.message < bucket_of width buckets e.message) x (λ y h. omega arith) d.0)
    ∙ ap (λ ys. x ++ ys) (put_joined width buckets (k + 1) e xs i at d.1 (omega arith) (omega arith) p)

-- a list of a bucket in the place of another
pub dealt_set : (width buckets k : ℕ) (ls : List (List Entry)) (i : ℕ) (l : List Entry) → IsDealt width buckets k ls → AllByRecursion (λ e. bucket_of width buckets e.message ≡ k + i) l → IsDealt width buckets k (set ls i l)
dealt_set width buckets k [] i l d a = tt
dealt_set width buckets k (x ∷ xs) zero l d a = (each_weaker (λ (e : Entry). bucket_of width buckets e.message ≡ k + 0) (λ e. bucket_of width buckets e.message ≡ k) l (λ e h. omega arith) a, d.1)
dealt_set width buckets k (x ∷ xs) (suc i) l d a =
    (d.0, dealt_set width buckets (k + 1) xs i l d.1 (each_weaker (λ (e : Entry). bucket_of width buckets e.message ≡ k + suc i) (λ e. bucket_of width buckets e.message ≡ (k + 1) + i) l (λ e h. omega arith) a))

-- the entries of a list are of its bucket
pub list_dealt : (width buckets k : ℕ) (ls : List (List Entry)) (i : ℕ) → IsDealt width buckets k ls → AllByRecursion (λ e. bucket_of width buckets e.message ≡ k + i) (list_at ls i)
list_dealt width buckets k [] zero d = tt
list_dealt width buckets k [] (suc i) d = tt
list_dealt width buckets k (x ∷ xs) zero d = each_weaker (λ (e : Entry). bucket_of width buckets e.message ≡ k) (λ e. bucket_of width buckets e.message ≡ k + 0) x (λ e h. omega arith) d.0
list_dealt width buckets k (x ∷ xs) (suc i) d =
    each_weaker (λ (e : Entry). bucket_of width buckets e.message ≡ (k + 1) + i) (λ e. bucket_of width buckets e.message ≡ k + suc i) (list_at xs i) (λ e h. omega arith) (list_dealt width buckets (k + 1) xs i d.1)

-- what holds of each entry holds of each that is left once one is taken out
pub each_left : (P : Entry → Type 0) (es : List Entry) (i : ℕ) → AllByRecursion P es → AllByRecursion P (remove es i)
each_left P [] zero a = a
each_left P [] (suc i) a = a
each_left P (x ∷ xs) zero a = a.1
each_left P (x ∷ xs) (suc i) a = (a.0, each_left P xs i a.1)

-- and of each once one is set
pub each_with : (P : Entry → Type 0) (es : List Entry) (i : ℕ) (e : Entry) → P e → AllByRecursion P es → AllByRecursion P (set es i e)
each_with P [] i e h a = tt
each_with P (x ∷ xs) zero e h a = (h, a.1)
each_with P (x ∷ xs) (suc i) e h a = (a.0, each_with P xs i e h a.1)

-- the first of some entries in order of buckets are in order of keys, where they are of one bucket
first_in_order : (width buckets k : ℕ) (l rest : List Entry) → AllByRecursion (λ e. bucket_of width buckets e.message ≡ k) l → IsStrictlySortedBy (bucket_cmp width buckets) (messages_of (l ++ rest)) → IsInOrder l
unfolding IsStrictlySortedBy
first_in_order width buckets k [] rest a s = tt
first_in_order width buckets k (x ∷ xs) rest a s = (below xs a.1 s.0, first_in_order width buckets k xs rest a.1 s.1)
  where
    below : (ys : List Entry) → AllByRecursion (λ e. bucket_of width buckets e.message ≡ k) ys → AllByRecursion (λ y. bucket_cmp width buckets x.message y ≡ Less) (messages_of (ys ++ rest)) → AllByRecursion (λ y. key_cmp x.message y ≡ Less) (messages_of ys)
    below [] b t = tt
    below (y ∷ ys) b t = (less_then (bucket_of width buckets x.message) (bucket_of width buckets y.message) (key_cmp x.message y.message) (a.0 ∙ sym b.0) t.0, below ys b.1 t.1)

-- those behind are in order
rest_in_order : (width buckets : ℕ) (l rest : List Entry) → IsStrictlySortedBy (bucket_cmp width buckets) (messages_of (l ++ rest)) → IsStrictlySortedBy (bucket_cmp width buckets) (messages_of rest)
unfolding IsStrictlySortedBy
rest_in_order width buckets [] rest s = s
rest_in_order width buckets (x ∷ xs) rest s = rest_in_order width buckets xs rest s.1

-- each list is in the order of keys
pub list_in_order : (width buckets k : ℕ) (ls : List (List Entry)) (i : ℕ) → IsDealt width buckets k ls → IsArranged width buckets (joined ls) → IsInOrder (list_at ls i)
unfolding IsStrictlySortedBy
list_in_order width buckets k [] zero d s = tt
list_in_order width buckets k [] (suc i) d s = tt
list_in_order width buckets k (x ∷ xs) zero d s = first_in_order width buckets k x (joined xs) d.0 s
list_in_order width buckets k (x ∷ xs) (suc i) d s = list_in_order width buckets (k + 1) xs i d.1 (rest_in_order width buckets x (joined xs) s)

-- a number is not one that it is below
not_above : (n index : ℕ) → n < index → (n == index) ≡ false
not_above n index l = grind arith

-- a number is not one that is below it
not_below : (n index : ℕ) → index < n → (n == index) ≡ false
not_below n index l = grind arith

-- of those that all pass the test none is left out, and of those that fail it all
passed : (f : Entry → ℕ) (index : ℕ) (l : List Entry) → AllByRecursion (λ e. f e ≡ index) l → filter (λ e. f e == index) l ≡ l
passed f index [] a = refl
passed f index (x ∷ xs) a = ap (λ t. cond t (x ∷ filter (λ e. f e == index) xs) (filter (λ e. f e == index) xs)) (eq-eqb (f x) index a.0) ∙ ap (λ ys. x ∷ ys) (passed f index xs a.1)

failed : (f : Entry → ℕ) (index : ℕ) (l : List Entry) → AllByRecursion (λ e. (f e == index) ≡ false) l → filter (λ e. f e == index) l ≡ []
failed f index [] a = refl
failed f index (x ∷ xs) a = ap (λ t. cond t (x ∷ filter (λ e. f e == index) xs) (filter (λ e. f e == index) xs)) a.0 ∙ failed f index xs a.1

-- the entries of a bucket are those of its list
filter_joined : (width buckets k index : ℕ) (ls : List (List Entry)) (i : ℕ) → index ≡ k + i → IsDealt width buckets k ls → in_bucket width buckets index (joined ls) ≡ list_at ls i
filter_joined width buckets k index [] zero h d = refl
filter_joined width buckets k index [] (suc i) h d = refl
filter_joined width buckets k index (x ∷ xs) zero h d =
    filter-append (λ (e : Entry). bucket_of width buckets e.message == index) x (joined xs)
    ∙ ap (λ ys. ys ++ in_bucket width buckets index (joined xs)) (passed (λ (e : Entry). bucket_of width buckets e.message) index x (each_weaker (λ (e : Entry). bucket_of width buckets e.message ≡ k) (λ e. bucket_of width buckets e.message ≡ index) x (λ e q. omega arith) d.0))
    ∙ ap (λ ys. x ++ ys) (failed (λ (e : Entry). bucket_of width buckets e.message) index (joined xs) (each_weaker (λ (e : Entry). k + 1 ≤ bucket_of width buckets e.message) (λ e. (bucket_of width buckets e.message == index) ≡ false) (joined xs) (λ e q. not_below (bucket_of width buckets e.message) index (omega arith)) (all_later width buckets (k + 1) xs d.1)))
    ∙ append-nil x
filter_joined width buckets k index (x ∷ xs) (suc i) h d =
    filter-append (λ (e : Entry). bucket_of width buckets e.message == index) x (joined xs)
    ∙ ap (λ ys. ys ++ in_bucket width buckets index (joined xs)) (failed (λ (e : Entry). bucket_of width buckets e.message) index x (each_weaker (λ (e : Entry). bucket_of width buckets e.message ≡ k) (λ e. (bucket_of width buckets e.message == index) ≡ false) x (λ e q. not_above (bucket_of width buckets e.message) index (omega arith)) d.0))
    ∙ filter_joined width buckets (k + 1) index xs i (omega arith) d.1

pub bucket_list : (width buckets index : ℕ) (ls : List (List Entry)) → IsDealt width buckets 0 ls → IsArranged width buckets (joined ls) → AreNumberedApart (joined ls) → list_at ls index ≡ in_bucket width buckets index (gathered (joined ls))
bucket_list width buckets index ls d s a =
    sym (filter_gathered (λ (e : Entry). bucket_of width buckets e.message == index) (joined ls) a
    ∙ gathered_in_order (in_bucket width buckets index (joined ls)) (bucket_in_order width buckets index (joined ls) s)
    ∙ filter_joined width buckets 0 index ls index (omega arith) d)

-- the entries of the lists before the i-th are of earlier buckets
pub before_offset : (width buckets k : ℕ) (ls : List (List Entry)) (i b : ℕ) → b ≡ k + i → IsDealt width buckets k ls → AllByRecursion (λ e. bucket_of width buckets e.message < b) (take (offset ls i) (joined ls))
before_offset width buckets k [] zero b h d = tt
before_offset width buckets k [] (suc i) b h d = tt
before_offset width buckets k (x ∷ xs) zero b h d = tt
before_offset width buckets k (x ∷ xs) (suc i) b h d =
    subst (AllByRecursion (λ (e : Entry). bucket_of width buckets e.message < b)) (sym (ap (λ n. take n (x ++ joined xs)) (length-append x (joined (take i xs))) ∙ take-append-add x (joined xs) (offset xs i)))
    (all-append (λ e. bucket_of width buckets e.message < b) x (take (offset xs i) (joined xs)) (each_weaker (λ (e : Entry). bucket_of width buckets e.message ≡ k) (λ e. bucket_of width buckets e.message < b) x (λ e q. omega arith) d.0) (before_offset width buckets (k + 1) xs i b (omega arith) d.1))

-- and the others are not
pub behind_offset : (width buckets k : ℕ) (ls : List (List Entry)) (i b : ℕ) → b ≡ k + i → IsDealt width buckets k ls → AllByRecursion (λ e. b ≤ bucket_of width buckets e.message) (drop (offset ls i) (joined ls))
behind_offset width buckets k [] zero b h d = tt
behind_offset width buckets k [] (suc i) b h d = tt
behind_offset width buckets k (x ∷ xs) zero b h d = each_weaker (λ (e : Entry). k ≤ bucket_of width buckets e.message) (λ e. b ≤ bucket_of width buckets e.message) (x ++ joined xs) (λ e q. omega arith) (all_later width buckets k (x ∷ xs) d)
behind_offset width buckets k (x ∷ xs) (suc i) b h d =
    subst (AllByRecursion (λ (e : Entry). b ≤ bucket_of width buckets e.message)) (sym (ap (λ n. drop n (x ++ joined xs)) (length-append x (joined (take i xs))) ∙ drop-append-add x (joined xs) (offset xs i)))
    (behind_offset width buckets (k + 1) xs i b (omega arith) d.1)

-- where a bucket's list is empty no entry is of that bucket
pub none_of_bucket : (width buckets k : ℕ) (ls : List (List Entry)) (i b : ℕ) → b ≡ k + i → IsDealt width buckets k ls → list_at ls i ≡ [] → AllByRecursion (λ e. bucket_of width buckets e.message ≡ b → ⊥) (joined ls)
none_of_bucket width buckets k [] i b h d n = tt
none_of_bucket width buckets k (x ∷ xs) zero b h d n =
    subst (λ ys. AllByRecursion (λ (e : Entry). bucket_of width buckets e.message ≡ b → ⊥) (ys ++ joined xs)) (sym n) (each_weaker (λ (e : Entry). k + 1 ≤ bucket_of width buckets e.message) (λ e. bucket_of width buckets e.message ≡ b → ⊥) (joined xs) (λ e q r. omega arith) (all_later width buckets (k + 1) xs d.1))
none_of_bucket width buckets k (x ∷ xs) (suc i) b h d n =
    all-append (λ e. bucket_of width buckets e.message ≡ b → ⊥) x (joined xs) (each_weaker (λ (e : Entry). bucket_of width buckets e.message ≡ k) (λ e. bucket_of width buckets e.message ≡ b → ⊥) x (λ e q r. omega arith) d.0) (none_of_bucket width buckets (k + 1) xs i b (omega arith) d.1 n)

-- lists without entries are dealt
pub dealt_none : (width buckets k n : ℕ) → IsDealt width buckets k (replicate n [])
dealt_none width buckets k zero = tt
dealt_none width buckets k (suc n) = (tt, dealt_none width buckets (k + 1) n)
