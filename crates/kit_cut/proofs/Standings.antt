-- What is pending is Events, and stays so where it is all that may reach a federate.
use Rattle.std.proofs.Common.{◌≡◌, ℕ, Bool, true, false, not, ◌&&◌, List, [], ◌∷◌, ◌++◌, filter, nat_le, nat_eq, refl, sym, ap, ◌∙◌, subst, append_assoc}
use Rattle.std.proofs.lemmas.Bool.{and_parts}
use Rattle.std.proofs.lemmas.List.{append-nil}
use Rattle.std.specs.List.{AllByRecursion}
use Rattle.kit_base.specs.declared.message.Message.{Message}
use Rattle.kit_base.specs.Order.{is_before, put, in_order}
use Rattle.kit_base.proofs.Lists.{each_weaker}
use Rattle.kit_base.proofs.Filtering.{Up, arranged, up_in_order}
use Rattle.kit_rules.specs.Parts.{Parts}
use Rattle.kit_rules.specs.Step.{is_event}
use Rattle.kit_rules.specs.Delivery.{is_transported, has_bit, receivers_of, is_pending, pending_messages}
use Rattle.kit_laws.proofs.Fitting.{all_in_order}
use Rattle.kit_laws.proofs.Pendings.{pending_event, pending_front}
use Rattle.kit_oracle.proofs.Freshness.{all_at}
use Rattle.kit_cut.proofs.Parting.{IsEvent, events_take_none}
use Rattle.kit_cut.proofs.Pairwise.{all_passed}

-- of what is pending, what its test says of each message by itself
abbrev IsFit : Parts → ℕ → Message → Type 0
IsFit p i m = (is_event m.kind && is_transported p m && has_bit (receivers_of p m.sender m.group) i) ≡ true

pending_tested : (p : Parts) (i : ℕ) (got sent : List Message) → AllByRecursion (λ m. is_pending p i got sent m ≡ true) (in_order (pending_messages p i got sent))
pending_tested p i got sent =
    all_in_order (λ m. is_pending p i got sent m ≡ true) [] (pending_messages p i got sent) tt
    (each_weaker (λ m. Unit {0} × (is_pending p i got sent m ≡ true)) (λ m. is_pending p i got sent m ≡ true) (pending_messages p i got sent) (λ m t. t.1) (all_passed (λ m. Unit {0}) (is_pending p i got sent) sent (units sent)))
  where
    units : (xs : List Message) → AllByRecursion (λ m. Unit {0}) xs
    units [] = tt
    units (x ∷ xs) = (tt, units xs)

-- what is pending is Events
pub pending_events : (p : Parts) (i : ℕ) (got sent : List Message) → AllByRecursion IsEvent (in_order (pending_messages p i got sent))
pending_events p i got sent =
    each_weaker (λ m. is_pending p i got sent m ≡ true) IsEvent (in_order (pending_messages p i got sent)) (λ m t. pending_event p i got sent m t) (pending_tested p i got sent)

-- and timed by the end
pub pending_in_time : (p : Parts) (i : ℕ) (got sent : List Message) → AllByRecursion (λ (m : Message). nat_le m.time p.end ≡ true) (in_order (pending_messages p i got sent))
pending_in_time p i got sent =
    each_weaker (λ m. is_pending p i got sent m ≡ true) (λ (m : Message). nat_le m.time p.end ≡ true) (in_order (pending_messages p i got sent)) (λ m t.
    let transported = (and_parts (is_event m.kind) (is_transported p m) (and_parts (is_event m.kind && is_transported p m) (has_bit (receivers_of p m.sender m.group) i) (pending_front p i got sent m t)).0).1 in
    (and_parts (nat_le m.time p.end) (not (nat_eq (receivers_of p m.sender m.group) 0)) transported).0) (pending_tested p i got sent)

-- a list in which each passes is left whole
all_pass : (test : Message → Bool) (ms : List Message) → AllByRecursion (λ m. test m ≡ true) ms → filter test ms ≡ ms
all_pass test [] h = refl
all_pass test (m ∷ ms) h = rw h.0 (ap (λ xs. m ∷ xs) (all_pass test ms h.1))

-- Events that a federate receives are pending, where nothing else was sent and nothing delivered
pub fit_are_pending : (p : Parts) (i : ℕ) (ms : List Message) → AllByRecursion (IsFit p i) ms → AllByRecursion IsEvent ms → pending_messages p i [] ms ≡ ms
fit_are_pending p i ms fit events =
    all_pass (is_pending p i [] ms) ms
    (each_weaker (IsFit p i) (λ m. is_pending p i [] ms m ≡ true) ms (λ m t.
    ap (λ b. is_event m.kind && is_transported p m && has_bit (receivers_of p m.sender m.group) i && true && not b) (events_take_none m ms events) ∙ ap (λ b. b && true && true) t) fit)

-- messages in order, put in order, are themselves
pub arranged_up : (ms : List Message) → Up ms → in_order ms ≡ ms
arranged_up ms u = behind [] ms u
  where
    last : (m : Message) (xs : List Message) → AllByRecursion (λ x. is_before m x ≡ false) xs → put m xs ≡ xs ++ m ∷ []
    last m [] h = refl
    last m (x ∷ xs) h = rw h.0 (ap (λ ys. x ∷ ys) (last m xs h.1))

    after_all : (acc xs : List Message) (m : Message) → Up (acc ++ m ∷ xs) → AllByRecursion (λ x. is_before m x ≡ false) acc
    after_all [] xs m u = tt
    after_all (x ∷ acc) xs m u = (all_at (λ y. is_before y x ≡ false) acc xs m u.0, after_all acc xs m u.1)

    behind : (acc xs : List Message) → Up (acc ++ xs) → arranged acc xs ≡ acc ++ xs
    behind acc [] u = sym (append-nil acc)
    behind acc (x ∷ xs) u =
        ap (λ ys. arranged ys xs) (last x acc (after_all acc xs x u)) ∙ behind (acc ++ x ∷ []) xs (subst Up (sym (append_assoc acc (x ∷ []) xs)) u) ∙ append_assoc acc (x ∷ []) xs

-- so what was pending at a cut is pending again
pub pending_restored : (p : Parts) (i : ℕ) (got sent : List Message) → in_order (pending_messages p i [] (in_order (pending_messages p i got sent))) ≡ in_order (pending_messages p i got sent)
pending_restored p i got sent =
    let ms = in_order (pending_messages p i got sent) in
    ap in_order (fit_are_pending p i ms (each_weaker (λ m. is_pending p i got sent m ≡ true) (IsFit p i) ms (λ m t. pending_front p i got sent m t) (pending_tested p i got sent)) (pending_events p i got sent))
    ∙ arranged_up ms (up_in_order (pending_messages p i got sent))
