-- Deliveries from the front of a queue, one after another.
use Rattle.std.proofs.Common.{◌≡◌, ℕ, ◌<◌, ◌≤◌, Bool, true, false, cond, List, [], ◌∷◌, nat_le, refl, ap, ◌∙◌, arith}
use Rattle.kit_base.specs.declared.message.Message.{Message}
use Rattle.kit_rules.specs.Parts.{Parts}
use Rattle.kit_rules.specs.declared.scene.State.{State}
use Rattle.kit_rules.specs.Simulation.{after_deliveries}
use Rattle.kit_laws.proofs.Joins.{grows_by_deliveries}
use Rattle.kit_oracle.specs.Pending.{front_until, rest_after}

-- an early time passes the test
early_test : (a d : ℕ) → a ≤ d → nat_le a d ≡ true
early_test a d le = grind arith

-- the first message of a queue is at its front, where it is early
pub front_first : (d : ℕ) (q : List Message) (m : Message) (rest : List Message) → q ≡ m ∷ rest → m.time ≤ d → front_until d q ≡ m ∷ front_until d rest
front_first d q m rest e le = ap (front_until d) e ∙ ap (λ b. cond b (m ∷ front_until d rest) []) (early_test m.time d le)

-- and is not behind it
pub behind_first : (d : ℕ) (q : List Message) (m : Message) (rest : List Message) → q ≡ m ∷ rest → m.time ≤ d → rest_after d q ≡ rest_after d rest
behind_first d q m rest e le = ap (rest_after d) e ∙ ap (λ b. cond b (rest_after d rest) (m ∷ rest)) (early_test m.time d le)

-- where nothing is at the front, all is behind it
pub behind_none : (d : ℕ) (q : List Message) → front_until d q ≡ [] → rest_after d q ≡ q
behind_none d [] h = refl
behind_none d (m ∷ ms) h = by_test (nat_le m.time d) h
  where
    by_test : (b : Bool) → cond b (m ∷ front_until d ms) [] ≡ [] → cond b (rest_after d ms) (m ∷ ms) ≡ m ∷ ms
    by_test true e = absurd (cc)
    by_test false e = refl

-- the first delivery, and then the rest, are all
pub deliver_first : (p : Parts) (i d : ℕ) (s t : State) (q : List Message) (m : Message) (rest : List Message) → q ≡ m ∷ rest → m.time ≤ d → t ≡ after_deliveries p i d s (m ∷ [])
    → after_deliveries p i d t (front_until d rest) ≡ after_deliveries p i d s (front_until d q)
deliver_first p i d s t q m rest e le is =
    ap (λ u. after_deliveries p i d u (front_until d rest)) is ∙ ap (after_deliveries p i d s) (let f : m ∷ front_until d rest ≡ front_until d q = cc (front_first d q m rest e le) in f)

-- where the first delivery goes past a number, so do all
pub past_first : (p : Parts) (i d n : ℕ) (s : State) (q : List Message) (m : Message) (rest : List Message) → q ≡ m ∷ rest → m.time ≤ d → n < (after_deliveries p i d s (m ∷ [])).next
    → n < (after_deliveries p i d s (front_until d q)).next
past_first p i d n s q m rest e le past =
    let first = after_deliveries p i d s (m ∷ []) in
    let all = deliver_first p i d s first q m rest e le refl in
    omega (arith, past, (grows_by_deliveries p i d first (front_until d rest)).next, ap (λ (t : State). t.next) all)
