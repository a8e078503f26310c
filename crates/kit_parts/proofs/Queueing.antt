-- The queue of a federate, as messages are received and delivered.
use Rattle.std.proofs.Common.{◌≡◌, ℕ, inl, inr, ◌⊎◌, Bool, true, false, cond, ◌&&◌, ◌||◌, not, nat_eq, nat_lt, nat_le, List, [], ◌∷◌, ◌++◌, filter, arith, refl, sym, ap, ◌∙◌}
use Rattle.std.specs.List.{list_any}
use Rattle.std.proofs.lemmas.Bool.{and_parts, and_from, ltb-true, lt-ltb, cases_lt, eqb-true, false_from_ne_true}
use Rattle.std.proofs.lemmas.Cmp.{nat_eq_equiv}
use Rattle.std.proofs.lemmas.List.{append-nil}
use Rattle.std.proofs.lemmas.List.Elements.{filter-append, filter_agree}
use Rattle.std.proofs.lemmas.List.Folds.{list_any-append}
use Rattle.std.proofs.lemmas.List.Sums.{fold_push}
use Rattle.kit_base.specs.declared.message.Message.{Message}
use Rattle.kit_base.specs.Order.{put, in_order}
use Rattle.kit_rules.specs.Parts.{Parts}
use Rattle.kit_rules.specs.Step.{is_event}
use Rattle.kit_rules.specs.Delivery.{is_pending, pending_messages, is_transported, has_bit, receivers_of, is_same, retracts, is_due, due_messages}
use Rattle.kit_laws.proofs.Pendings.{same_self}
use Rattle.kit_parts.specs.Queues.{queue_of, QueueTakesEvent, QueueTakesRetraction, QueueDelivers, QueueKeeps, QueueIsReceived}
use Rattle.kit_parts.proofs.Among.{Among, among_contains, contains_among, filter_among, any_among, among_any}
use Rattle.kit_parts.proofs.Orders.{arranged_among, among_arranged}
use Rattle.kit_parts.proofs.Due.{Held, held, is_held}
use Rattle.kit_parts.proofs.Agreement.{due_parts, due_from_parts}
use Rattle.kit_base.proofs.Filtering.{filter_both, filter_in_order}
use Rattle.kit_parts.proofs.Filtering.{filter_same, same_answer}

-- one more message
event_test : (p : Parts) (i : ℕ) (got received : List Message) (m x : Message) → is_event m.kind ≡ true → is_pending p i got (received ++ m ∷ []) x ≡ is_pending p i got received x
event_test p i got received m x e =
    let none : retracts x m ≡ false = ap (λ b. not b && nat_eq m.sender x.sender && nat_eq m.value x.number) e in
    ap (λ b. is_event x.kind && is_transported p x && has_bit (receivers_of p x.sender x.group) i && not (list_any (is_same x) got) && not b)
    (list_any-append (retracts x) received (m ∷ []) ∙ ap (λ b. list_any (retracts x) received || (b || false)) none ∙ or_false (list_any (retracts x) received))
  where
    or_false : (b : Bool) → (b || false) ≡ b
    or_false true = refl
    or_false false = refl

pub queue_takes_event_law : QueueTakesEvent
queue_takes_event_law p i got received m e =
    let new = is_pending p i got (received ++ m ∷ []) in
    let old = is_pending p i got received in
    ap in_order (filter-append new received (m ∷ []) ∙ ap (λ xs. xs ++ filter new (m ∷ [])) (filter_agree new old (λ x. event_test p i got received m x e) received)
    ∙ ap (λ b. filter old received ++ cond b (m ∷ []) []) (event_test p i got received m m e))
    ∙ elim (old m) as (λ b. in_order (filter old received ++ cond b (m ∷ []) []) ≡ cond b (put m (in_order (filter old received))) (in_order (filter old received))) [
      | true ↦ fold_push (λ (sorted : List Message) (x : Message). put x sorted) [] (filter old received) m
      | false ↦ ap in_order (append-nil (filter old received))
    ]

retraction_test : (p : Parts) (i : ℕ) (got received : List Message) (r x : Message) → is_pending p i got (received ++ r ∷ []) x ≡ (not (retracts x r) && is_pending p i got received x)
retraction_test p i got received r x =
    let front = is_event x.kind && is_transported p x && has_bit (receivers_of p x.sender x.group) i && not (list_any (is_same x) got) in
    ap (λ b. front && not b) (list_any-append (retracts x) received (r ∷ [])) ∙ moved front (list_any (retracts x) received) (retracts x r)
  where
    moved : (a b c : Bool) → (a && not (b || (c || false))) ≡ (not c && (a && not b))
    moved true true true = refl
    moved true true false = refl
    moved true false true = refl
    moved true false false = refl
    moved false true true = refl
    moved false true false = refl
    moved false false true = refl
    moved false false false = refl

pub queue_takes_retraction_law : QueueTakesRetraction
queue_takes_retraction_law p i got received r e =
    let new = is_pending p i got (received ++ r ∷ []) in
    let old = is_pending p i got received in
    let kept : Message → Bool = λ m. not (retracts m r) in
    let named : Message → Bool = λ m. not (nat_eq m.sender r.sender && nat_eq m.number r.value) in
    let same : (m : Message) → kept m ≡ named m = λ m.
    ap (λ b. not (not b && nat_eq r.sender m.sender && nat_eq r.value m.number)) e
    ∙ ap (λ b. not (true && b && nat_eq r.value m.number)) (nat_eq_equiv.symm r.sender m.sender) ∙ ap (λ b. not (true && nat_eq m.sender r.sender && b)) (nat_eq_equiv.symm r.value m.number) in
    let none : filter new (r ∷ []) ≡ [] = ap (λ b. cond b (r ∷ []) []) (no_event (is_event r.kind) e) in
    ap in_order (filter-append new received (r ∷ []) ∙ ap (λ xs. filter new received ++ xs) none ∙ append-nil (filter new received)
    ∙ filter_agree new (λ x. kept x && old x) (λ x. retraction_test p i got received r x) received ∙ filter_both kept old received ∙ filter_agree kept named same (filter old received))
    ∙ sym (filter_in_order named (filter old received))
  where
    no_event : (b : Bool) → b ≡ false → (b && is_transported p r && has_bit (receivers_of p r.sender r.group) i && not (list_any (is_same r) got) && not (list_any (retracts r) (received ++ r ∷ []))) ≡ false
    no_event true h = absurd (cc)
    no_event false h = refl

pub queue_delivers_law : QueueDelivers
queue_delivers_law p i d got received =
    let early : Message → Bool = λ m. nat_le m.time d in
    ap in_order (filter_both early (is_pending p i got received) received) ∙ sym (filter_in_order early (pending_messages p i got received))

-- what is pending after a grant
after_grant_test : (p : Parts) (i d : ℕ) (got received : List Message) (x : Message) → Among x received → is_pending p i (got ++ due_messages p i d got received) received x ≡ (nat_lt d x.time && is_pending p i got received x)
after_grant_test p i d got received x a =
    let due = due_messages p i d got received in
    same_answer (is_pending p i (got ++ due) received x) (nat_lt d x.time && is_pending p i got received x)
    (λ t. let h = held p i (got ++ due) received x t in
    let parts = any_parts (is_same x) got due h.fresh in
    let before : Held p i got received x = record { event = h.event; here = h.here; fresh = parts.0; kept = h.kept } in
    and_from (nat_lt d x.time) (is_pending p i got received x) (elim (cases_lt d x.time) [
      | inl lt ↦ lt-ltb d x.time lt
      | inr le ↦ absurd (let in_due : Among x due = among_arranged x [] (filter (is_due p i d got received) received) (due_from_parts p i d got received x a le before) in
          let t2 : list_any (is_same x) due ≡ true = any_among (is_same x) x due in_due (same_self x) in let f2 = parts.1 in cc)
    ]) (is_held p i got received x before))
    (λ t. let s = and_parts (nat_lt d x.time) (is_pending p i got received x) t in
    let lt = ltb-true d x.time s.0 in
    let h = held p i got received x s.1 in
    is_held p i (got ++ due) received x (record {
      event = h.event;
      here = h.here;
      fresh = list_any-append (is_same x) got due ∙ ap (λ b. b || list_any (is_same x) due) h.fresh ∙ false_from_ne_true (list_any (is_same x) due) (λ y.
          let q = among_any (is_same x) due y in
          let in_list : Among q.0 [] ⊎ Among q.0 (filter (is_due p i d got received) received) = arranged_among q.0 [] (filter (is_due p i d got received) received) q.1 in
          elim in_list [ inl n ↦ elim n [ ] | inr m ↦ (let e : q.0.time ≡ x.time = same_time x q.0 q.2 in omega (arith, (due_parts p i d got received q.0 m).1, lt)) ]);
      kept = h.kept;
    }))
  where
    any_parts : (test : Message → Bool) (xs ys : List Message) → list_any test (xs ++ ys) ≡ false → (list_any test xs ≡ false) × (list_any test ys ≡ false)
    any_parts test xs ys h = both (list_any test xs) (list_any test ys) (sym (list_any-append test xs ys) ∙ h)
      where
        both : (a b : Bool) → (a || b) ≡ false → (a ≡ false) × (b ≡ false)
        both true b h = absurd (cc)
        both false b h = (refl, h)

    same_time : (m y : Message) → is_same m y ≡ true → y.time ≡ m.time
    same_time m y h = eqb-true y.time m.time (and_parts (nat_eq y.time m.time) (nat_eq y.sender m.sender) (and_parts (nat_eq y.time m.time && nat_eq y.sender m.sender) (nat_eq y.number m.number) h).0).0

pub queue_keeps_law : QueueKeeps
queue_keeps_law p i d got received =
    let late : Message → Bool = λ m. nat_lt d m.time in
    ap in_order (filter_same (is_pending p i (got ++ due_messages p i d got received) received) (λ x. late x && is_pending p i got received x) received (λ x a. after_grant_test p i d got received x a)
    ∙ filter_both late (is_pending p i got received) received)
    ∙ sym (filter_in_order late (pending_messages p i got received))

pub queue_is_received_law : QueueIsReceived
queue_is_received_law p i got received m c =
    elim (arranged_among m [] (pending_messages p i got received) (contains_among m (queue_of p i got received) c)) [
      | inl n ↦ elim n [ ]
      | inr a ↦ (let r = filter_among (is_pending p i got received) m received a in (among_contains m received r.0, r.1))
    ]
