-- A queue as a row and the tree behind it.
use Rattle.std.proofs.Common.{◌≡◌, Bool, true, false, cond, not, List, [], ◌∷◌, ◌++◌, Option, Some, None, Result, Ok, Err, OnOk, OnErr, refl, sym, ap, subst, ◌∙◌, true≢false}
use Rattle.std.specs.Prelude.{slice_get}
use Rattle.std.specs.Option.{option_to_list}
use Rattle.std.specs.List.{AllByRecursion}
use Rattle.std.specs.List.Sorted.{IsStrictlySortedBy}
use Rattle.std.specs.Map.{keys_of, values_of}
use Rattle.std.specs.BTreeMap.{insert_entry}
use Rattle.std.specs.Ordering.{is_lt, ordering_reverse}
use Rattle.std.proofs.lemmas.List.Kept.{IsStrictlySortedBy-filter}
use Rattle.std.specs.declared.cmp.Ordering.TheVariants.{Less, Equal, Greater}
use Rattle.kit_base.specs.declared.message.Message.{Message}
use Rattle.kit_base.specs.Order.{key_cmp}
use Rattle.kit_base.proofs.Lists.{each_weaker}
use Rattle.kit_oracle.specs.declared.pending.Key.{Key}
use Rattle.kit_oracle.specs.Pending.{compare_keys, key_of, queue_with, has_key, without_key, AreKeyed, IsByKey}
use Rattle.kit_oracle.proofs.Keeping.{keys_total, insert_enters}
use Rattle.kit_oracle.proofs.Entering.{all_left}
use Rattle.kit_oracle.proofs.Rows.{enters_near, sorted_with, sorted_second, not_before}

-- nothing is in order
pub nothing_kept : (near : List Message) (es : List (Key × Message)) → near ≡ [] → es ≡ [] → IsByKey es × IsStrictlySortedBy key_cmp (near ++ values_of es)
unfolding IsStrictlySortedBy
nothing_kept near es n e =
    subst (λ (ns : List Message). IsByKey es × IsStrictlySortedBy key_cmp (ns ++ values_of es)) (sym n)
    (subst (λ (fs : List (Key × Message)). IsByKey fs × IsStrictlySortedBy key_cmp (values_of fs)) (sym e) (record { keyed = tt; ordered = tt }, tt))

-- what holds of each key holds of that of each message
all_values : (P : Key → Type 0) (es : List (Key × Message)) → AreKeyed es → AllByRecursion P (keys_of es) → AllByRecursion (λ (y : Message). P (key_of y)) (values_of es)
all_values P [] h a = tt
all_values P (e ∷ es) h a = (subst P h.0 a.0, all_values P es h.1 a.1)

-- a key before the first of a tree is before all of it
pub before_tree : (k : Key) (es : List (Key × Message)) (f : Key) (m : Message) → IsByKey es → slice_get es 0 ≡ Some (f, m) → compare_keys k f ≡ Less → AllByRecursion (λ (y : Message). compare_keys k (key_of y) ≡ Less) (values_of es)
unfolding IsStrictlySortedBy
before_tree k [] f m h g l = tt
before_tree k (e ∷ es) f m h g l =
    let s : e ≡ (f, m) = cc in
    let first : compare_keys k e.0 ≡ Less = ap (λ (p : Key × Message). compare_keys k p.0) s ∙ l in (
      ap (compare_keys k) (sym h.keyed.0) ∙ first,
      each_weaker (λ (y : Message). compare_keys e.0 (key_of y) ≡ Less) (λ (y : Message). compare_keys k (key_of y) ≡ Less) (values_of es) (λ y b. keys_total.trans k e.0 (key_of y) first b)
          (all_values (λ (y : Key). compare_keys e.0 y ≡ Less) es h.keyed.1 h.ordered.0),
    )

-- what is before all of a tree is before a key that is not before the first of it
pub before_key : (k : Key) (x : Message) (es : List (Key × Message)) (f : Key) (m : Message) → IsByKey es → slice_get es 0 ≡ Some (f, m) → is_lt (compare_keys k f) ≡ false → AllByRecursion (λ (y : Message). key_cmp x y ≡ Less) (values_of es) → compare_keys (key_of x) k ≡ Less
before_key k x [] f m h g l a = absurd (cc)
before_key k x (e ∷ es) f m h g l a =
    let s : e ≡ (f, m) = cc in
    let late : is_lt (compare_keys k e.0) ≡ false = ap (λ (p : Key × Message). is_lt (compare_keys k p.0)) s ∙ l in
    let less : compare_keys (key_of x) e.0 ≡ Less = ap (compare_keys (key_of x)) h.keyed.0 ∙ a.0 in
    elim (compare_keys k e.0) as (λ o. compare_keys k e.0 ≡ o → is_lt o ≡ false → compare_keys (key_of x) k ≡ Less) [
      | Less ↦ λ e f. absurd (true≢false f)
      | Equal ↦ λ eq f. keys_total.antisymm (key_of x) k ∙ ap ordering_reverse (keys_total.congr k e.0 (key_of x) eq ∙ keys_total.antisymm e.0 (key_of x) ∙ ap ordering_reverse less)
      | Greater ↦ λ gr f. keys_total.trans (key_of x) e.0 k less (keys_total.antisymm e.0 k ∙ ap ordering_reverse gr)
    ] refl late

-- what is left of the row is in order with the tree
pub popped : (o : Option Message) (near left ys : List Message) → near ≡ option_to_list o ++ left → IsStrictlySortedBy key_cmp (near ++ ys) → IsStrictlySortedBy key_cmp (left ++ ys)
unfolding IsStrictlySortedBy
popped None near left ys e s = subst (λ (n : List Message). IsStrictlySortedBy key_cmp (n ++ ys)) e s
popped (Some m) near left ys e s = let all : IsStrictlySortedBy key_cmp (m ∷ (left ++ ys)) = subst (λ (n : List Message). IsStrictlySortedBy key_cmp (n ++ ys)) e s in all.1

-- and so is what is left of a tree behind no row
pub popped_far : (o : Option Message) (near ys left : List Message) → near ≡ [] → ys ≡ option_to_list o ++ left → IsStrictlySortedBy key_cmp (near ++ ys) → IsStrictlySortedBy key_cmp (near ++ left)
popped_far o near ys left n e s =
    let all : IsStrictlySortedBy key_cmp ys = subst (λ (ns : List Message). IsStrictlySortedBy key_cmp (ns ++ ys)) n s in
    subst (λ (ns : List Message). IsStrictlySortedBy key_cmp (ns ++ left)) (sym n) (sorted_second (option_to_list o) left (subst (IsStrictlySortedBy key_cmp) e all))

-- a message that was put in the row, or was not, leaves the order
pub put_keeps : {E : Type 0} (r : Result (Unit {0}) E) (m : Message) (near after ys : List Message) → OnOk r (after ≡ queue_with m near) → OnErr r (after ≡ near) → AllByRecursion (λ (y : Message). key_cmp m y ≡ Less) ys
    → IsStrictlySortedBy key_cmp (near ++ ys) → IsStrictlySortedBy key_cmp (after ++ ys)
put_keeps (Ok u) m near after ys ok err h s = subst (λ (n : List Message). IsStrictlySortedBy key_cmp (n ++ ys)) (sym ok) (subst (IsStrictlySortedBy key_cmp) (enters_near m near ys h) (sorted_with m (near ++ ys) s))
put_keeps (Err x) m near after ys ok err h s = subst (λ (n : List Message). IsStrictlySortedBy key_cmp (n ++ ys)) (sym err) s

-- and enters the whole
pub put_enters : {E : Type 0} (r : Result (Unit {0}) E) (m : Message) (near after ys all : List Message) → OnOk r (after ≡ queue_with m near) → AllByRecursion (λ (y : Message). key_cmp m y ≡ Less) ys
    → near ++ ys ≡ all → OnOk r (after ++ ys ≡ queue_with m all)
put_enters (Ok u) m near after ys all ok h v = ap (λ (n : List Message). n ++ ys) ok ∙ sym (enters_near m near ys h) ∙ ap (queue_with m) v
put_enters (Err x) m near after ys all ok h v = tt

all_second : (P : Message → Type 0) (xs ys : List Message) → AllByRecursion P (xs ++ ys) → AllByRecursion P ys
all_second P [] ys h = h
all_second P (x ∷ xs) ys h = all_second P xs ys h.1

-- each of the row is before all of the tree
pub row_before : (P : Message → Type 0) (near ys : List Message) → IsStrictlySortedBy key_cmp (near ++ ys) → ((x : Message) → AllByRecursion (λ (y : Message). key_cmp x y ≡ Less) ys → P x) → AllByRecursion P near
unfolding IsStrictlySortedBy
row_before P [] ys s f = tt
row_before P (x ∷ xs) ys s f = (f x (all_second (λ (y : Message). key_cmp x y ≡ Less) xs ys s.0), row_before P xs ys s.1 f)

-- taking out a key goes by parts
pub without_parts : (k : Key) (xs ys : List Message) → without_key k.time k.sender k.number (xs ++ ys) ≡ without_key k.time k.sender k.number xs ++ without_key k.time k.sender k.number ys
without_parts k [] ys = refl
without_parts k (x ∷ xs) ys = by_test (has_key k.time k.sender k.number x) (without_parts k xs ys)
  where
    by_test : (b : Bool) → without_key k.time k.sender k.number (xs ++ ys) ≡ without_key k.time k.sender k.number xs ++ without_key k.time k.sender k.number ys
        → cond (not b) (x ∷ without_key k.time k.sender k.number (xs ++ ys)) (without_key k.time k.sender k.number (xs ++ ys)) ≡ cond (not b) (x ∷ without_key k.time k.sender k.number xs) (without_key k.time k.sender k.number xs) ++ without_key k.time k.sender k.number ys
    by_test true r = r
    by_test false r = ap (λ zs. x ∷ zs) r

-- taking out a key leaves the order
pub sorted_without : (k : Key) (xs : List Message) → IsStrictlySortedBy key_cmp xs → IsStrictlySortedBy key_cmp (without_key k.time k.sender k.number xs)
sorted_without k xs s = IsStrictlySortedBy-filter key_cmp (λ (x : Message). not (has_key k.time k.sender k.number x)) xs s

-- nothing is taken out of a row where all come before the key
pub all_before : (k : Key) (xs : List Message) → AllByRecursion (λ (x : Message). compare_keys (key_of x) k ≡ Less) xs → without_key k.time k.sender k.number xs ≡ xs
all_before k xs h = all_left (has_key k.time k.sender k.number) xs (each_weaker (λ (x : Message). compare_keys (key_of x) k ≡ Less) (λ x. has_key k.time k.sender k.number x ≡ false) xs (λ x l. not_before k x (ap is_lt l)) h)

-- the last of the row is before all of the tree
last_before : (last : Message) (left ys : List Message) → IsStrictlySortedBy key_cmp ((left ++ last ∷ []) ++ ys) → AllByRecursion (λ (y : Message). key_cmp last y ≡ Less) ys
unfolding IsStrictlySortedBy
last_before last [] ys s = s.0
last_before last (x ∷ xs) ys s = last_before last xs ys s.1

moved : (last : Message) (left ys : List Message) → left ++ (last ∷ ys) ≡ (left ++ last ∷ []) ++ ys
moved last [] ys = refl
moved last (x ∷ xs) ys = ap (λ zs. x ∷ zs) (moved last xs ys)

-- the whole stays as it is where the last of the row moves to the tree
pub spilled : (last : Message) (near left : List Message) (o : Option Message) (es : List (Key × Message)) → near ≡ left ++ option_to_list o → o ≡ Some last → AreKeyed es → IsStrictlySortedBy key_cmp (near ++ values_of es)
    → left ++ values_of (insert_entry compare_keys es (key_of last) last) ≡ near ++ values_of es
spilled last near left o es e is keyed s =
    let whole : near ≡ left ++ last ∷ [] = e ∙ ap (λ (p : Option Message). left ++ option_to_list p) is in
    let before = last_before last left (values_of es) (subst (λ (n : List Message). IsStrictlySortedBy key_cmp (n ++ values_of es)) whole s) in
    ap (λ (ys : List Message). left ++ ys) (insert_enters last es keyed ∙ enters_near last [] (values_of es) before) ∙ moved last left (values_of es) ∙ ap (λ (n : List Message). n ++ values_of es) (sym whole)
