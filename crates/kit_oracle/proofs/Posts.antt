-- One more message sent: what it does to a federate's pending messages in order.
use Rattle.std.proofs.Common.{◌≡◌, ℕ, Bool, true, false, cond, not, ◌&&◌, ◌||◌, List, [], ◌∷◌, ◌++◌, filter, fold, nat_eq, refl, sym, ap, ◌∙◌}
use Rattle.std.specs.List.{AllByRecursion, list_any}
use Rattle.std.proofs.lemmas.List.{append-nil}
use Rattle.std.proofs.lemmas.List.Elements.{filter-append}
use Rattle.std.proofs.lemmas.List.Folds.{list_any-append}
use Rattle.kit_base.specs.declared.message.Message.{Message}
use Rattle.kit_rules.specs.Parts.{Parts}
use Rattle.kit_rules.specs.Step.{is_event}
use Rattle.kit_base.specs.Order.{put, in_order}
use Rattle.kit_rules.specs.Delivery.{is_same, retracts, is_transported, has_bit, receivers_of, is_pending, pending_messages}
use Rattle.kit_base.proofs.Filtering.{filter_both, filter_in_order}
use Rattle.kit_oracle.proofs.Fronts.{filter_same, any_both}

-- the last message is put in its place last
in_order_push : (acc xs : List Message) (m : Message) → fold (λ (sorted : List Message) (m : Message). put m sorted) acc (xs ++ m ∷ []) ≡ put m (fold (λ (sorted : List Message) (m : Message). put m sorted) acc xs)
in_order_push acc [] m = refl
in_order_push acc (x ∷ xs) m = in_order_push (put x acc) xs m

-- an Event takes nothing back
no_retraction : (x m : Message) → is_event m.kind ≡ true → list_any (retracts x) (m ∷ []) ≡ false
no_retraction x m e = ap (λ b. (not b && nat_eq m.sender x.sender && nat_eq m.value x.number) || false) e

-- one more Event leaves pending what was
same_each : (p : Parts) (j : ℕ) (got sent xs : List Message) (m : Message) → is_event m.kind ≡ true → AllByRecursion (λ x. is_pending p j got (sent ++ m ∷ []) x ≡ is_pending p j got sent x) xs
same_each p j got sent [] m e = tt
same_each p j got sent (x ∷ xs) m e =
    let front = is_event x.kind && is_transported p x && has_bit (receivers_of p x.sender x.group) j && not (list_any (is_same x) got) in
    (ap (λ b. front && not b) (any_both (retracts x) sent (m ∷ []) (no_retraction x m e)), same_each p j got sent xs m e)

-- an Event is pending at once where it is received
itself : (p : Parts) (j : ℕ) (got sent : List Message) (m : Message) → is_event m.kind ≡ true → list_any (is_same m) got ≡ false → list_any (retracts m) sent ≡ false
    → is_pending p j got (sent ++ m ∷ []) m ≡ (is_transported p m && has_bit (receivers_of p m.sender m.group) j)
itself p j got sent m e fresh kept =
    ap (λ b. is_event m.kind && is_transported p m && has_bit (receivers_of p m.sender m.group) j && not (list_any (is_same m) got) && not b) (any_both (retracts m) sent (m ∷ []) (no_retraction m m e) ∙ kept)
    ∙ ap (λ b. is_event m.kind && is_transported p m && has_bit (receivers_of p m.sender m.group) j && not b && true) fresh
    ∙ ap (λ b. b && is_transported p m && has_bit (receivers_of p m.sender m.group) j && true && true) e
    ∙ and_true (is_transported p m && has_bit (receivers_of p m.sender m.group) j)
  where
    and_true : (b : Bool) → (b && true && true) ≡ b
    and_true true = refl
    and_true false = refl

-- an Event goes to its place, where the federate receives it
pub event_posted : (p : Parts) (j : ℕ) (got sent : List Message) (m : Message) → is_event m.kind ≡ true → list_any (is_same m) got ≡ false → list_any (retracts m) sent ≡ false
    → in_order (pending_messages p j got (sent ++ m ∷ [])) ≡ cond (is_transported p m && has_bit (receivers_of p m.sender m.group) j) (put m (in_order (pending_messages p j got sent))) (in_order (pending_messages p j got sent))
event_posted p j got sent m e fresh kept =
    let q = is_pending p j got (sent ++ m ∷ []) in
    ap in_order (filter-append q sent (m ∷ []) ∙ ap (λ xs. xs ++ filter q (m ∷ [])) (filter_same q (is_pending p j got sent) sent (same_each p j got sent sent m e))
    ∙ ap (λ b. pending_messages p j got sent ++ cond b (m ∷ []) []) (itself p j got sent m e fresh kept))
    ∙ last (is_transported p m && has_bit (receivers_of p m.sender m.group) j)
  where
    last : (b : Bool) → in_order (pending_messages p j got sent ++ cond b (m ∷ []) []) ≡ cond b (put m (in_order (pending_messages p j got sent))) (in_order (pending_messages p j got sent))
    last true = in_order_push [] (pending_messages p j got sent) m
    last false = ap in_order (append-nil (pending_messages p j got sent))

-- one more Retraction leaves pending what it does not name
retracted_each : (p : Parts) (j : ℕ) (got sent xs : List Message) (r : Message) → AllByRecursion (λ x. is_pending p j got (sent ++ r ∷ []) x ≡ (not (retracts x r) && is_pending p j got sent x)) xs
retracted_each p j got sent [] r = tt
retracted_each p j got sent (x ∷ xs) r =
    let front = is_event x.kind && is_transported p x && has_bit (receivers_of p x.sender x.group) j && not (list_any (is_same x) got) in
    (ap (λ b. front && not b) (one (list_any (retracts x) sent) (retracts x r) ∙ refl) ∙ split front (list_any (retracts x) sent) (retracts x r), retracted_each p j got sent xs r)
  where
    one : (a b : Bool) → list_any (retracts x) (sent ++ r ∷ []) ≡ (list_any (retracts x) sent || (retracts x r || false))
    one a b = list_any-append (retracts x) sent (r ∷ [])

    split : (f a b : Bool) → (f && not (a || (b || false))) ≡ (not b && (f && not a))
    split true true true = refl
    split true true false = refl
    split true false true = refl
    split true false false = refl
    split false true true = refl
    split false true false = refl
    split false false true = refl
    split false false false = refl

-- a Retraction takes out what it names
pub retraction_posted : (p : Parts) (j : ℕ) (got sent : List Message) (r : Message) → is_event r.kind ≡ false
    → in_order (pending_messages p j got (sent ++ r ∷ [])) ≡ filter (λ x. not (retracts x r)) (in_order (pending_messages p j got sent))
retraction_posted p j got sent r e =
    let q = is_pending p j got (sent ++ r ∷ []) in
    let none : q r ≡ false = ap (λ b. b && is_transported p r && has_bit (receivers_of p r.sender r.group) j && not (list_any (is_same r) got) && not (list_any (retracts r) (sent ++ r ∷ []))) e in
    ap in_order (filter-append q sent (r ∷ []) ∙ ap (λ b. filter q sent ++ cond b (r ∷ []) []) none ∙ append-nil (filter q sent)
    ∙ filter_same q (λ x. not (retracts x r) && is_pending p j got sent x) sent (retracted_each p j got sent sent r)
    ∙ filter_both (λ x. not (retracts x r)) (is_pending p j got sent) sent)
    ∙ sym (filter_in_order (λ x. not (retracts x r)) (pending_messages p j got sent))
