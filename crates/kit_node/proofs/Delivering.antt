-- The first of the entries that are due.
use Rattle.std.proofs.Common.{◌≡◌, ◌≤◌, arith, ℕ, Bool, true, false, cond, List, [], ◌∷◌, nat_le, Option, Some, None, refl, sym, ap, ◌∙◌}
use Rattle.kit_queue.specs.declared.entry.Entry.{Entry}
use Rattle.kit_queue.specs.Entries.{first_due}
use Rattle.kit_base.specs.declared.message.Message.{Message}
use Rattle.kit_rules.specs.declared.scene.State.{State}
use Rattle.kit_rules.specs.declared.table.Trigger.{Trigger}
use Rattle.kit_rules.specs.declared.table.Trigger.TheVariants.{Got}
use Rattle.kit_rules.specs.Parts.{Parts, federate_at}
use Rattle.kit_rules.specs.Simulation.{after_deliveries}
use Rattle.kit_rules.specs.Step.{scene_of, state_after}
use Rattle.kit_rules.proofs.Steps.{next_grows_by_rules}
use Rattle.kit_node.specs.Granting.{front_due}

-- and with the rules of any trigger
pub state_grows : (p : Parts) (i : ℕ) (t : Trigger) (d v : ℕ) (s : State) → s.next ≤ (state_after p i t d v s).next
state_grows p i t d v s = next_grows_by_rules (scene_of p i d v) t s (federate_at p i).rules

-- what is taken from the front is early
taken_test : (b : Bool) (e x : Entry) → cond b (Some x) None ≡ Some e → b ≡ true
taken_test true e x h = refl
taken_test false e x h = absurd (cc)

pub is_early : (d : ℕ) (e : Entry) (q rest : List Entry) → q ≡ e ∷ rest → Some e ≡ first_due d q → nat_le e.message.time d ≡ true
is_early d e q rest is taken = taken_test (nat_le e.message.time d) e e (sym (taken ∙ ap (first_due d) is))

-- it is the first at the front
pub front_first : (d : ℕ) (e : Entry) (q rest : List Entry) → q ≡ e ∷ rest → Some e ≡ first_due d q → front_due d q ≡ e.message ∷ front_due d rest
front_first d e q rest is taken = ap (front_due d) is ∙ ap (λ b. cond b (e.message ∷ front_due d rest) []) (is_early d e q rest is taken)

-- numbers only grow with deliveries
pub numbers_grow : (p : Parts) (i d : ℕ) (s : State) (ms : List Message) → s.next ≤ (after_deliveries p i d s ms).next
numbers_grow p i d s [] = omega arith
numbers_grow p i d s (m ∷ ms) =
    let s' = state_after p i (Got m.group) d m.value s in
    let a = state_grows p i (Got m.group) d m.value s in
    let b = numbers_grow p i d s' ms in
    omega arith
