-- A federate's pending messages, kept in order: what a grant takes from the front, and what it leaves.
use Rattle.std.proofs.Common.{◌≡◌, ℕ, ◌<◌, ◌≤◌, inl, inr, min, Bool, true, false, cond, not, ◌&&◌, ◌||◌, List, [], ◌∷◌, ◌++◌, filter, fold, nat_le, nat_eq, arith, refl, sym, subst, ap, ◌∙◌}
use Rattle.std.specs.List.{AllByRecursion, list_any}
use Rattle.std.proofs.lemmas.Bool.{cases_Bool, and_from, leb-true, ne_eqb}
use Rattle.std.proofs.lemmas.Bool.Decides.{leb_tells}
use Rattle.kit_base.specs.declared.message.Message.{Message}
use Rattle.kit_base.proofs.Filtering.{Up, filter_both, filter_in_order, up_in_order}
use Rattle.kit_base.proofs.Lists.{each_weaker}
use Rattle.kit_base.proofs.Orders.{not_before}
use Rattle.kit_rules.specs.declared.table.Request.TheVariants as request
use Rattle.kit_rules.specs.Parts.{Parts}
use Rattle.kit_rules.specs.Step.{is_event}
use Rattle.kit_base.specs.Order.{is_before, put, in_order}
use Rattle.kit_rules.specs.Delivery.{is_same, retracts, is_transported, has_bit, receivers_of, is_pending, pending_messages, is_due, due_messages, due_time, request_due}
use Rattle.kit_oracle.specs.Pending.{first_time}
use Rattle.kit_laws.proofs.Pendings.{filter_each, any_filter_here, any_filter_more, same_self, pending_got, pending_front, pending_sent, not_false, any_left, any_right, any_in_order}

-- what is due is the front, within d, of what is pending in order
pub due_is_front : (p : Parts) (i d : ℕ) (got sent : List Message) → due_messages p i d got sent ≡ filter (λ (m : Message). nat_le m.time d) (in_order (pending_messages p i got sent))
due_is_front p i d got sent =
    ap in_order (filter_both (λ (m : Message). nat_le m.time d) (is_pending p i got sent) sent) ∙ sym (filter_in_order (λ (m : Message). nat_le m.time d) (pending_messages p i got sent))

-- the least of a time and those of messages
abbrev earliest : ℕ → List Message → ℕ
earliest t ms = fold (λ (t : ℕ) (m : Message). min t m.time) t ms

-- a time that is there before is the same as one after
earliest_min : (t a : ℕ) (ms : List Message) → earliest (min t a) ms ≡ min (earliest t ms) a
earliest_min t a [] = refl
earliest_min t a (m ∷ ms) = ap (λ n. earliest n ms) (let e : min (min t a) m.time ≡ min (min t m.time) a = omega arith in e) ∙ earliest_min (min t m.time) a ms

-- putting a message in its place counts its time
earliest_put : (t : ℕ) (m : Message) (xs : List Message) → earliest t (put m xs) ≡ earliest (min t m.time) xs
earliest_put t m [] = refl
earliest_put t m (x ∷ xs) =
    elim (is_before m x) as (λ b. earliest t (cond b (m ∷ x ∷ xs) (x ∷ put m xs)) ≡ earliest (min t m.time) (x ∷ xs)) [
      | true ↦ refl
      | false ↦ earliest_put (min t x.time) m xs ∙ ap (λ n. earliest n xs) (let e : min (min t x.time) m.time ≡ min (min t m.time) x.time = omega arith in e)
    ]

-- the order does not change the least time
earliest_arranged : (t : ℕ) (acc xs : List Message) → earliest t (fold (λ (sorted : List Message) (m : Message). put m sorted) acc xs) ≡ earliest (earliest t acc) xs
earliest_arranged t acc [] = refl
earliest_arranged t acc (x ∷ xs) =
    earliest_arranged t (put x acc) xs ∙ ap (λ n. earliest n xs) (earliest_put t x acc ∙ earliest_min t x.time acc)

-- a time below all others is the least
earliest_same : (t : ℕ) (ms : List Message) → AllByRecursion (λ (m : Message). t ≤ m.time) ms → earliest t ms ≡ t
earliest_same t [] h = refl
earliest_same t (m ∷ ms) h = ap (λ n. earliest n ms) (let le : t ≤ m.time = h.0 in let e : min t m.time ≡ t = omega arith in e) ∙ earliest_same t ms h.1

-- of messages in order the first has the least time
earliest_up : (t : ℕ) (ms : List Message) → Up ms → earliest t ms ≡ request_due (request.Ner t) (first_time ms)
earliest_up t [] u = refl
earliest_up t (m ∷ ms) u =
    earliest_same (min t m.time) ms (each_weaker (λ (y : Message). is_before y m ≡ false) (λ (y : Message). min t m.time ≤ y.time) ms (λ y h. let le : m.time ≤ y.time = not_before y m h in omega arith) u.0)

-- a request for the next event is due at the first of what is pending in order
pub due_is_first : (t : ℕ) (ms : List Message) → due_time (request.Ner t) ms ≡ request_due (request.Ner t) (first_time (in_order ms))
due_is_first t ms = sym (earliest_arranged t [] ms) ∙ earliest_up t (in_order ms) (up_in_order ms)

-- two tests that agree on a list leave the same of it
pub filter_same : {X : Type 0} (p q : X → Bool) (xs : List X) → AllByRecursion (λ x. p x ≡ q x) xs → filter p xs ≡ filter q xs
filter_same p q [] h = refl
filter_same p q (x ∷ xs) h = ap (λ b. cond b (x ∷ filter p xs) (filter p xs)) h.0 ∙ ap (λ ys. cond (q x) (x ∷ ys) ys) (filter_same p q xs h.1)

-- what a filter leaves passes
filter_passes : {X : Type 0} (p : X → Bool) (xs : List X) → AllByRecursion (λ x. p x ≡ true) (filter p xs)
filter_passes p xs = filter_each (λ x. p x ≡ true) p xs (itself xs)
  where
    itself : (ys : List _) → AllByRecursion (λ x. p x ≡ true → p x ≡ true) ys
    itself [] = tt
    itself (y ∷ ys) = ((λ e. e), itself ys)

-- a later message is none of those timed d or less
none_same : (m : Message) (d : ℕ) (xs : List Message) → d < m.time → AllByRecursion (λ (x : Message). nat_le x.time d ≡ true) xs → list_any (is_same m) xs ≡ false
none_same m d [] lt h = refl
none_same m d (x ∷ xs) lt h =
    let le : x.time ≤ d = leb-true x.time d h.0 in
    let ne : nat_eq x.time m.time ≡ false = ne_eqb x.time m.time (λ e. omega arith) in
    rw ne (none_same m d xs lt h.1)

-- what is due at d is timed d or less
due_early : (p : Parts) (i d : ℕ) (got sent : List Message) → AllByRecursion (λ (x : Message). nat_le x.time d ≡ true) (due_messages p i d got sent)
due_early p i d got sent =
    let P : List Message → Type 0 = AllByRecursion (λ (x : Message). nat_le x.time d ≡ true) in
    subst P (sym (due_is_front p i d got sent)) (filter_passes (λ (m : Message). nat_le m.time d) (in_order (pending_messages p i got sent)))

-- a list in which none passes adds none
pub any_both : {X : Type 0} (p : X → Bool) (xs ys : List X) → list_any p ys ≡ false → list_any p (xs ++ ys) ≡ list_any p xs
any_both p [] ys h = h
any_both p (x ∷ xs) ys h = ap (λ b. p x || b) (any_both p xs ys h)

-- after a grant of d, a message that was sent is pending where it was, and is timed after d
left_each : (p : Parts) (i d : ℕ) (got sent xs : List Message)
    → ((m : Message) → list_any (is_same m) (filter (is_due p i d got sent) xs) ≡ true → list_any (is_same m) (due_messages p i d got sent) ≡ true)
    → AllByRecursion (λ m. is_pending p i (got ++ due_messages p i d got sent) sent m ≡ (not (nat_le m.time d) && is_pending p i got sent m)) xs
left_each p i d got sent [] given = tt
left_each p i d got sent (x ∷ xs) given =
    let due = due_messages p i d got sent in
    let front = is_event x.kind && is_transported p x && has_bit (receivers_of p x.sender x.group) i in (
      elim (leb_tells x.time d) [
        | inl early ↦ elim (cases_Bool (is_pending p i (got ++ due) sent x)) [
          | inl e ↦ absurd (
              let before : is_pending p i got sent x ≡ true = pending_before_got p i got due sent x e in
              let is : is_due p i d got sent x ≡ true = and_from (nat_le x.time d) (is_pending p i got sent x) early.0 before in
              let has : list_any (is_same x) due ≡ true = given x (any_filter_here (is_same x) (is_due p i d got sent) x xs is (same_self x)) in
              let none : list_any (is_same x) due ≡ false = any_right (is_same x) got due (pending_got p i (got ++ due) sent x e) in
              cc)
          | inr e ↦ e ∙ sym (ap (λ b. not b && is_pending p i got sent x) early.0)
        ]
        | inr late ↦
            ap (λ b. front && not b && not (list_any (retracts x) sent)) (any_both (is_same x) got due (none_same x d due late.1 (due_early p i d got sent)))
            ∙ sym (ap (λ b. not b && is_pending p i got sent x) late.0)
      ],
      left_each p i d got sent xs (λ m h. given m (any_filter_more (is_same m) (is_due p i d got sent) x xs h)),
    )
  where
    pending_before_got : (p : Parts) (i : ℕ) (got more sent : List Message) (m : Message) → is_pending p i (got ++ more) sent m ≡ true → is_pending p i got sent m ≡ true
    pending_before_got p i got more sent m h =
        and_from _ _
        (and_from _ _ (pending_front p i (got ++ more) sent m h) (not_false (list_any (is_same m) got) (any_left (is_same m) got more (pending_got p i (got ++ more) sent m h))))
        (not_false (list_any (retracts m) sent) (pending_sent p i (got ++ more) sent m h))

-- what a grant of d leaves is what was pending in order behind d
pub left_is_back : (p : Parts) (i d : ℕ) (got sent : List Message)
    → in_order (pending_messages p i (got ++ due_messages p i d got sent) sent) ≡ filter (λ (m : Message). not (nat_le m.time d)) (in_order (pending_messages p i got sent))
left_is_back p i d got sent =
    ap in_order (filter_same (is_pending p i (got ++ due_messages p i d got sent) sent) (λ (m : Message). not (nat_le m.time d) && is_pending p i got sent m) sent
    (left_each p i d got sent sent (λ m h. any_in_order (is_same m) [] (filter (is_due p i d got sent) sent) h))
    ∙ filter_both (λ (m : Message). not (nat_le m.time d)) (is_pending p i got sent) sent)
    ∙ sym (filter_in_order (λ (m : Message). not (nat_le m.time d)) (pending_messages p i got sent))
