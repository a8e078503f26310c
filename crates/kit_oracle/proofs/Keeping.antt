-- The entries of a queue, seen as its messages.
use Rattle.std.proofs.Common.{◌≡◌, ℕ, ◌<◌, Bool, true, false, cond, not, ◌&&◌, List, [], ◌∷◌, filter, Some, nat_le, nat_eq, refl, sym, ap, ◌∙◌, arith}
use Rattle.std.specs.Prelude.{slice_get}
use Rattle.std.specs.List.Sorted.{IsStrictlySortedBy}
use Rattle.std.specs.Map.{keys_of, values_of, remove_entry}
use Rattle.std.specs.BTreeMap.{insert_entry, is_at}
use Rattle.std.specs.Ordering.{nat_cmp, ordering_then, match_ordering, is_eq, eq_by_cmp}
use Rattle.std.specs.declared.cmp.Ordering.{Ordering}
use Rattle.std.specs.declared.cmp.Ordering.TheVariants.{Less, Equal, Greater}
use Rattle.std.specs.Cmp.{IsTotalOrder, both_tied, unsigned_ties}
use Rattle.std.proofs.lemmas.Cmp.{on_total, then_total, nat_cmp_total}
use Rattle.std.proofs.lemmas.Map.Keys.{IsDistinct-from_sorted}
use Rattle.std.proofs.lemmas.Bool.{and_parts, eqb-true}
use Rattle.kit_base.specs.declared.message.Message.{Message}
use Rattle.kit_base.specs.Order.{key_cmp}
use Rattle.kit_oracle.specs.declared.pending.Key.{Key}
use Rattle.kit_oracle.specs.Pending.{compare_keys, key_of, queue_with, front_until, first_time, has_key, without_key, AreKeyed}
use Rattle.kit_oracle.proofs.Removing.{remove_is_filter}

-- a message has the key with which its own compares equal
pub key_tied : (k : Key) (x : Message) → has_key k.time k.sender k.number x ≡ is_eq (compare_keys k (key_of x))
key_tied k x =
    both_tied (nat_eq k.time x.time) (nat_eq k.sender x.sender && nat_eq k.number x.number) (nat_cmp k.time x.time) (ordering_then (nat_cmp k.sender x.sender) (nat_cmp k.number x.number))
    (unsigned_ties k.time x.time)
    (both_tied (nat_eq k.sender x.sender) (nat_eq k.number x.number) (nat_cmp k.sender x.sender) (nat_cmp k.number x.number) (unsigned_ties k.sender x.sender) (unsigned_ties k.number x.number))

-- keys that compare equal are equal
pub same_key : (m x : Message) → is_eq (key_cmp m x) ≡ true → (m.time ≡ x.time) × (m.sender ≡ x.sender) × (m.number ≡ x.number)
same_key m x h =
    let a = and_parts (nat_eq m.time x.time) (nat_eq m.sender x.sender && nat_eq m.number x.number) (key_tied (key_of m) x ∙ h) in
    let b = and_parts (nat_eq m.sender x.sender) (nat_eq m.number x.number) a.1 in
    (eqb-true m.time x.time a.0, eqb-true m.sender x.sender b.0, eqb-true m.number x.number b.1)

-- where a key compares equal, it is the message's
own_key : (m x : Message) (k : Key) → k ≡ key_of x → is_eq (compare_keys (key_of m) k) ≡ true → k ≡ key_of m
own_key m x k is h =
    let s = same_key m x (ap (λ c. is_eq (compare_keys (key_of m) c)) (sym is) ∙ h) in
    let t : m.time ≡ x.time = s.0 in
    let u : m.sender ≡ x.sender = s.1 in
    let v : m.number ≡ x.number = s.2 in
    is ∙ (let e : key_of x ≡ key_of m = cc in e)

-- a message that is entered stands under its own key
pub insert_keyed : (m : Message) (es : List (Key × Message)) → AreKeyed es → AreKeyed (insert_entry compare_keys es (key_of m) m)
insert_keyed m [] h = (refl, tt)
insert_keyed m (e ∷ es) h = by_order (compare_keys (key_of m) e.0) (own_key m e.1 e.0 h.0) (insert_keyed m es h.1)
  where
    by_order : (o : Ordering) → (is_eq o ≡ true → e.0 ≡ key_of m) → AreKeyed (insert_entry compare_keys es (key_of m) m) → AreKeyed (match_ordering o ((key_of m, m) ∷ e ∷ es) ((e.0, m) ∷ es) (e ∷ insert_entry compare_keys es (key_of m) m))
    by_order Less f r = (refl, h)
    by_order Equal f r = (f refl, h.1)
    by_order Greater f r = (h.0, r)

-- an insertion into the map enters the message
pub insert_enters : (m : Message) (es : List (Key × Message)) → AreKeyed es → values_of (insert_entry compare_keys es (key_of m) m) ≡ queue_with m (values_of es)
insert_enters m [] h = refl
insert_enters m (e ∷ es) h =
    by_order (compare_keys (key_of m) e.0) (insert_enters m es h.1)
    ∙ ap (λ k. match_ordering (compare_keys (key_of m) k) (m ∷ e.1 ∷ values_of es) (m ∷ values_of es) (e.1 ∷ queue_with m (values_of es))) h.0
  where
    by_order : (o : Ordering) → values_of (insert_entry compare_keys es (key_of m) m) ≡ queue_with m (values_of es)
        → values_of (match_ordering o ((key_of m, m) ∷ e ∷ es) ((e.0, m) ∷ es) (e ∷ insert_entry compare_keys es (key_of m) m)) ≡ match_ordering o (m ∷ e.1 ∷ values_of es) (m ∷ values_of es) (e.1 ∷ queue_with m (values_of es))
    by_order Less r = refl
    by_order Equal r = refl
    by_order Greater r = ap (λ xs. e.1 ∷ xs) r

-- a removal keeps the others under their keys
pub remove_keyed : (test : Key → Bool) (es : List (Key × Message)) → AreKeyed es → AreKeyed (remove_entry test es)
remove_keyed test [] h = tt
remove_keyed test (e ∷ es) h = elim (test e.0) as (λ b. AreKeyed (cond b es (e ∷ remove_entry test es))) [ true ↦ h.1 | false ↦ (h.0, remove_keyed test es h.1) ]

-- a filter of the entries by key is one of the messages
filter_values : (test : Key → Bool) (q : Message → Bool) (es : List (Key × Message)) → ((x : Message) → test (key_of x) ≡ q x) → AreKeyed es
    → values_of (filter (λ (e : Key × Message). not (test e.0)) es) ≡ filter (λ (x : Message). not (q x)) (values_of es)
filter_values test q [] f h = refl
filter_values test q (e ∷ es) f h =
    let rest = filter (λ (e : Key × Message). not (test e.0)) es in
    by_test (test e.0) (filter_values test q es f h.1) ∙ ap (λ b. cond (not b) (e.1 ∷ filter (λ (x : Message). not (q x)) (values_of es)) (filter (λ (x : Message). not (q x)) (values_of es))) (ap test h.0 ∙ f e.1)
  where
    by_test : (b : Bool) → values_of (filter (λ (e : Key × Message). not (test e.0)) es) ≡ filter (λ (x : Message). not (q x)) (values_of es)
        → values_of (cond (not b) (e ∷ filter (λ (e : Key × Message). not (test e.0)) es) (filter (λ (e : Key × Message). not (test e.0)) es)) ≡ cond (not b) (e.1 ∷ filter (λ (x : Message). not (q x)) (values_of es)) (filter (λ (x : Message). not (q x)) (values_of es))
    by_test true r = r
    by_test false r = ap (λ xs. e.1 ∷ xs) r

-- the order of keys is total
pub keys_total : IsTotalOrder compare_keys
keys_total = then_total (on_total (λ (k : Key). k.time) nat_cmp_total) (then_total (on_total (λ (k : Key). k.sender) nat_cmp_total) (on_total (λ (k : Key). k.number) nat_cmp_total))

-- an ordering that tests as equal is it
pub is_equal : (o : Ordering) → is_eq o ≡ true → o ≡ Equal
is_equal Less h = absurd (cc)
is_equal Equal h = refl
is_equal Greater h = absurd (cc)

-- a removal from the map takes out the message of the key
pub remove_takes : (k : Key) (es : List (Key × Message)) → AreKeyed es → IsStrictlySortedBy compare_keys (keys_of es)
    → values_of (remove_entry (is_at (compare_keys k)) es) ≡ without_key k.time k.sender k.number (values_of es)
remove_takes k es h sorted =
    ap values_of (remove_is_filter (is_at (compare_keys k)) (eq_by_cmp compare_keys) (λ x y e. ap is_eq (keys_total.congr k x y (is_equal (compare_keys k x) e))) es (IsDistinct-from_sorted compare_keys (keys_of es) sorted))
    ∙ filter_values (is_at (compare_keys k)) (has_key k.time k.sender k.number) es (λ x. sym (key_tied k x)) h

-- the first message's time
pub first_is : (es : List (Key × Message)) (k : Key) (m : Message) → slice_get es 0 ≡ Some (k, m) → first_time (values_of es) ≡ Some m.time
first_is [] k m h = absurd (cc)
first_is (e ∷ es) k m h = ap (λ (x : Message). Some x.time) (let s : e ≡ (k, m) = cc in ap (λ (p : Key × Message). p.1) s)

-- the first message is too late, and so is the rest
pub none_at_front : (d : ℕ) (es : List (Key × Message)) (k : Key) (m : Message) → slice_get es 0 ≡ Some (k, m) → d < m.time → front_until d (values_of es) ≡ []
none_at_front d [] k m h lt = refl
none_at_front d (e ∷ es) k m h lt =
    let s : e ≡ (k, m) = cc in
    let is : e.1 ≡ m = ap (λ (p : Key × Message). p.1) s in
    let late : nat_le e.1.time d ≡ false = ap (λ (x : Message). nat_le x.time d) is ∙ late_test m.time d lt in
    ap (λ b. cond b (e.1 ∷ front_until d (values_of es)) []) late
  where
    late_test : (a d : ℕ) → d < a → nat_le a d ≡ false
    late_test a d lt = grind arith
