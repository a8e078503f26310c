-- The order in which the queue stands.
use Rattle.kit_parts.proofs.Due.{earliest_cases, earliest_among}
use Rattle.kit_laws.proofs.Pendings.{earliest_low}
use Rattle.kit_rules.specs.declared.table.Request.TheVariants.{Ner}
use Rattle.std.proofs.Common.{◌≡◌, ℕ, zero, suc, inl, inr, ◌⊎◌, ◌<◌, ◌≤◌, not, get_or, Bool, true, false, cond, ◌&&◌, nat_eq, nat_lt, nat_le, List, [], ◌∷◌, ◌++◌, filter, arith, refl, sym, ap, ◌∙◌}
use Rattle.std.specs.List.{AllByRecursion, AllPairs, Contains, list_any}
use Rattle.std.specs.Ordering.{is_lt, nat_cmp, ordering_then}
use Rattle.std.specs.declared.cmp.Ordering.TheVariants.{Less, Equal, Greater}
use Rattle.std.proofs.lemmas.Bool.{and_parts, eqb-true, false_from_ne_true, lt-ltb, le-ltb, le-leb, lt-leb, cases_lt}
use Rattle.std.proofs.lemmas.List.Elements.{All-contains, Contains-get_or}
use Rattle.kit_base.specs.declared.message.Message.{Message}
use Rattle.kit_base.specs.Order.{is_before, put}
use Rattle.kit_base.proofs.Filtering.{Up, filter_both, up_in_order}
use Rattle.kit_base.proofs.Lists.{each_weaker, none_pass}
use Rattle.kit_base.proofs.Orders.{not_before}
use Rattle.kit_rules.specs.Delivery.{due_time, is_same, retracts, is_pending, pending_messages, is_transported, has_bit, receivers_of, is_due, due_messages}
use Rattle.kit_parts.specs.Queues.{queue_of, QueueSplits, QueueIsOrdered, DueIsReceived, CopiesAreTransported, first_by, DueByFirst, NewIsPending}
use Rattle.kit_parts.proofs.Among.{Among, among_any, each_of, among_contains, contains_among, filter_among, distinct_filter, pairs_distinct}
use Rattle.kit_parts.proofs.Orders.{arranged_among, among_arranged, Rises, Before, rises_in_order}
use Rattle.kit_parts.proofs.Due.{is_held}
use Rattle.kit_parts.proofs.Agreement.{due_parts}
use Rattle.kit_parts.proofs.Whole.{one_key}
use Rattle.kit_rules.specs.Simulation.{simulation}
use Rattle.kit_parts.specs.Fronts.{is_transported_to}
use Rattle.kit_parts.proofs.Filtering.{filter_same}

-- the queue by time
all_pass : {X : Type 0} (test : X → Bool) (xs : List X) → AllByRecursion (λ x. test x ≡ true) xs → filter test xs ≡ xs
all_pass test [] h = refl
all_pass test (x ∷ xs) h = rw h.0 (ap (λ ys. x ∷ ys) (all_pass test xs h.1))

by_time : (d : ℕ) (xs : List Message) → Up xs → xs ≡ filter (λ m. nat_le m.time d) xs ++ filter (λ m. nat_lt d m.time) xs
by_time d [] u = refl
by_time d (x ∷ xs) u =
    elim (cases_lt d x.time) [
      | inl late ↦ (let l : d < x.time = late in
          let rest : (y : Message) → is_before y x ≡ false → d < y.time = λ y h. (let e = not_before y x h in omega arith) in
          let none : filter (λ m. nat_le m.time d) (x ∷ xs) ≡ [] = none_pass (λ m. nat_le m.time d) (x ∷ xs) (lt-leb x.time d l, each_weaker (λ y. is_before y x ≡ false) (λ m. nat_le m.time d ≡ false) xs (λ y h. lt-leb y.time d (rest y h)) u.0) in
          let all : filter (λ m. nat_lt d m.time) (x ∷ xs) ≡ x ∷ xs = all_pass (λ m. nat_lt d m.time) (x ∷ xs) (lt-ltb d x.time l, each_weaker (λ y. is_before y x ≡ false) (λ m. nat_lt d m.time ≡ true) xs (λ y h. lt-ltb d y.time (rest y h)) u.0) in
          sym (ap (λ ys. ys ++ filter (λ m. nat_lt d m.time) (x ∷ xs)) none ∙ all))
      | inr early ↦ (let e : x.time ≤ d = early in
          let here : nat_le x.time d ≡ true = le-leb x.time d e in
          let out : nat_lt d x.time ≡ false = le-ltb d x.time e in
          rw (here, out) (ap (λ ys. x ∷ ys) (by_time d xs u.1)))
    ]

pub queue_splits_law : QueueSplits
queue_splits_law p i d got received = by_time d (queue_of p i got received) (up_in_order (pending_messages p i got received))

before_pairs : (xs : List Message) → Rises Before xs → AllPairs (λ a b. is_before a b ≡ true) xs
before_pairs [] r i j d lt within = absurd (omega arith)
before_pairs (x ∷ xs) r i zero d lt within = absurd (omega arith)
before_pairs (x ∷ xs) r zero (suc j) d lt within = ap is_lt (each_of (Before x) (get_or xs j d) xs r.0 (contains_among (get_or xs j d) xs (Contains-get_or xs j d (omega arith))))
before_pairs (x ∷ xs) r (suc i) (suc j) d lt within = before_pairs xs r.1 i j d (omega arith) (omega arith)

pub queue_is_ordered_law : QueueIsOrdered
queue_is_ordered_law p f i got received real differ =
    let U : Message → Type 0 = λ m. Among m (simulation p).messages in
    let test = is_pending p i got received in
    before_pairs (queue_of p i got received) (rises_in_order U (λ a b x y e. one_key p a b f x y e) (filter test received) (distinct_filter test received (pairs_distinct received differ)) (λ m a.
    contains_among m (simulation p).messages (All-contains (Contains (simulation p).messages) received m real (among_contains m received (filter_among test m received a).0))))

pub due_is_received_law : DueIsReceived
due_is_received_law p i d got received m c =
    elim (arranged_among m [] (filter (is_due p i d got received) received) (contains_among m (due_messages p i d got received) c)) [
      | inl n ↦ elim n [ ]
      | inr a ↦ (let r = due_parts p i d got received m a in (among_contains m received r.0, r.1, is_held p i got received m r.2))
    ]

pub copies_are_transported_law : CopiesAreTransported
copies_are_transported_law p i sends =
    filter_same (is_transported_to p i) (λ m. has_bit (receivers_of p m.sender m.group) i && is_transported p m) sends (λ m a. swapped (is_transported p m) (has_bit (receivers_of p m.sender m.group) i))
    ∙ filter_both (λ m. has_bit (receivers_of p m.sender m.group) i) (is_transported p) sends
  where
    swapped : (a b : Bool) → (a && b) ≡ (b && a)
    swapped true true = refl
    swapped true false = refl
    swapped false true = refl
    swapped false false = refl

-- the first in the queue is the earliest
first_low : (t : ℕ) (xs : List Message) (m : Message) → Up xs → Among m xs → first_by t xs ≤ m.time
first_low t [] m u a = elim a [ ]
first_low t (x ∷ xs) m u (inl e) = let s : x.time ≡ m.time = ap (λ (y : Message). y.time) e in omega arith
first_low t (x ∷ xs) m u (inr a) = let l = not_before m x (each_of (λ y. is_before y x ≡ false) m xs u.0 a) in omega arith

first_cases : (t : ℕ) (xs : List Message) → (first_by t xs ≡ t) ⊎ ((m : Message) × Among m xs × (m.time ≡ first_by t xs))
first_cases t [] = inl refl
first_cases t (x ∷ xs) = elim (cases_lt x.time t) [
  | inl lt ↦ inr (x, inl refl, (let l : x.time < t = lt in omega arith))
  | inr ge ↦ inl (let l : t ≤ x.time = ge in omega arith)
]

first_capped : (t : ℕ) (xs : List Message) → first_by t xs ≤ t
first_capped t [] = omega arith
first_capped t (x ∷ xs) = omega arith

pub due_by_first_law : DueByFirst
due_by_first_law p i t got received =
    let ms = pending_messages p i got received in
    let q = queue_of p i got received in
    let up : Up q = up_in_order ms in
    let high : first_by t q ≤ due_time (Ner t) ms = elim (earliest_cases t ms) [
      | inl e ↦ omega (arith, e, first_capped t q)
      | inr g ↦ omega (arith, g.2, first_low t q g.0 up (among_arranged g.0 [] ms g.1))
    ] in
    let low : due_time (Ner t) ms ≤ first_by t q = elim (first_cases t q) [
      | inl e ↦ omega (arith, e, earliest_low t ms)
      | inr g ↦ elim (arranged_among g.0 [] ms g.1) [ inl n ↦ elim n [ ] | inr a ↦ omega (arith, g.2, earliest_among t ms g.0 a) ]
    ] in
    omega arith

pub new_is_pending_law : NewIsPending
new_is_pending_law p i got received m event here new =
    let for = is_transported p m in
    let bit = has_bit (receivers_of p m.sender m.group) i in
    let fresh : list_any (is_same m) got ≡ false = false_from_ne_true (list_any (is_same m) got) (λ y.
    let r = among_any (is_same m) got y in
    let a = and_parts (nat_eq r.0.time m.time && nat_eq r.0.sender m.sender) (nat_eq r.0.number m.number) r.2 in
    let b = and_parts (nat_eq r.0.time m.time) (nat_eq r.0.sender m.sender) a.0 in
    new r.0 (among_contains r.0 got r.1) (eqb-true r.0.sender m.sender b.1) (eqb-true r.0.number m.number a.1)) in
    let parts = and_parts for bit here in
    let k = not (list_any (retracts m) received) in
    ap (λ b. b && for && bit && not (list_any (is_same m) got) && k) event ∙ ap (λ b. true && b && bit && not (list_any (is_same m) got) && k) parts.0
    ∙ ap (λ b. true && true && b && not (list_any (is_same m) got) && k) parts.1 ∙ ap (λ b. true && true && true && not b && k) fresh
