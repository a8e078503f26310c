-- The rule step of the federation of a plan.
use Rattle.std.proofs.Common.{◌≡◌, ℕ, zero, suc, inl, inr, ◌+◌, ◌<◌, ◌≤◌, Bool, true, false, ◌&&◌, nat_eq, arith, refl, sym, ap, ◌∙◌, cond, List, [], ◌∷◌, ◌++◌, length, get_or, map, filter, subst, unwrap_or}
use Rattle.std.specs.List.{range_with_len}
use Rattle.std.proofs.lemmas.Bool.{cases_eq, eq-eqb, eqb-true, eqb-false, ne_eqb}
use Rattle.std.proofs.Math.ListN.{get_or-map}
use Rattle.kit_rules.specs.declared.table.Trigger.{Trigger}
use Rattle.kit_rules.specs.declared.table.Trigger.TheVariants.{Start, Grant, Got}
use Rattle.kit_rules.specs.declared.table.Rule.{Rule}
use Rattle.kit_rules.specs.declared.table.Federate.{Federate}
use Rattle.kit_rules.specs.declared.scene.Scene.{Scene}
use Rattle.kit_rules.specs.declared.scene.State.{State}
use Rattle.kit_rules.specs.Parts.{nobody, federate_at, effective_lookahead}
use Rattle.kit_rules.specs.Step.{same_trigger, conditions_hold, after_actions, after_rule, after_rules, scene_of, state_after, opening_state}
use Rattle.kit_regions.specs.declared.region.Update.{Update}
use Rattle.kit_regions.specs.Plan.{Plan, no_update, update_at, planned_federate_at}
use Rattle.kit_regions.specs.Lowered.{with_trigger, updates_of, lowered_triggers, lowered_rule, lowered_rules, lowered_federate, federation_of}
use Rattle.kit_regions.specs.Regional.{regional_scene, regional_state_after}

pub rules_append : (scene : Scene) (on : Trigger) (s : State) (a b : List Rule) → after_rules scene on s (a ++ b) ≡ after_rules scene on (after_rules scene on s a) b
rules_append scene on s [] b = refl
rules_append scene on s (r ∷ rs) b = rules_append scene on (after_rule scene on s r) rs b

-- whether update k is one of group g
abbrev of_group : List Update → ℕ → ℕ → Bool
of_group updates g k = nat_eq (get_or updates k no_update).group g

-- the rules that stand for those of the updates from a to a + n that are of group g
abbrev rules_for : List Update → ℕ → Rule → ℕ → ℕ → List Rule
rules_for updates g r a n = map (with_trigger r) (map (λ k. Got k) (filter (of_group updates g) (range_with_len a n)))

-- a rule that is on Got of another update does nothing
passed_over : (scene : Scene) (u k : ℕ) (s : State) (r : Rule) → (k ≡ u → ⊥) → after_rule scene (Got u) s (with_trigger r (Got k)) ≡ s
passed_over scene u k s r apart = ap (λ b. cond (b && conditions_hold scene s.vars r.conds) (after_actions scene s r.actions) s) (ne_eqb k u apart)

-- one more update
more_rules : (updates : List Update) (g u : ℕ) (scene : Scene) (s t : State) (r : Rule) (a n : ℕ) (b : Bool)
    → after_rules scene (Got u) s (rules_for updates g r (a + 1) n) ≡ t → (a ≡ u → ⊥)
    → after_rules scene (Got u) s (map (with_trigger r) (map (λ k. Got k) (cond b (a ∷ filter (of_group updates g) (range_with_len (a + 1) n)) (filter (of_group updates g) (range_with_len (a + 1) n))))) ≡ t
more_rules updates g u scene s t r a n true rest apart = ap (λ x. after_rules scene (Got u) x (rules_for updates g r (a + 1) n)) (passed_over scene u a s r apart) ∙ rest
more_rules updates g u scene s t r a n false rest apart = rest

-- updates past u do nothing for it
none_past_it : (updates : List Update) (g u : ℕ) (scene : Scene) (s : State) (r : Rule) (a n : ℕ) → u < a → after_rules scene (Got u) s (rules_for updates g r a n) ≡ s
none_past_it updates g u scene s r a zero lt = refl
none_past_it updates g u scene s r a (suc n) lt = more_rules updates g u scene s s r a n (of_group updates g a) (none_past_it updates g u scene s r (a + 1) n (omega arith)) (λ e. omega arith)

-- its own rule runs as the rule on Got of the group does
own_rule : (updates : List Update) (g u : ℕ) (scene : Scene) (s : State) (r : Rule) (n : ℕ) (b : Bool) → of_group updates g u ≡ b
    → after_rules scene (Got u) s (map (with_trigger r) (map (λ k. Got k) (cond b (u ∷ filter (of_group updates g) (range_with_len (u + 1) n)) (filter (of_group updates g) (range_with_len (u + 1) n)))))
    ≡ cond (nat_eq g (get_or updates u no_update).group && conditions_hold scene s.vars r.conds) (after_actions scene s r.actions) s
own_rule updates g u scene s r n true e =
    let same : nat_eq g (get_or updates u no_update).group ≡ true = eq-eqb g (get_or updates u no_update).group (sym (eqb-true (get_or updates u no_update).group g e)) in
    let own : after_rule scene (Got u) s (with_trigger r (Got u)) ≡ cond (conditions_hold scene s.vars r.conds) (after_actions scene s r.actions) s =
    ap (λ b. cond (b && conditions_hold scene s.vars r.conds) (after_actions scene s r.actions) s) (eq-eqb u u refl) in
    none_past_it updates g u scene (after_rule scene (Got u) s (with_trigger r (Got u))) r (u + 1) n (omega arith)
    ∙ own ∙ sym (ap (λ b. cond (b && conditions_hold scene s.vars r.conds) (after_actions scene s r.actions) s) same)
own_rule updates g u scene s r n false e =
    let other : nat_eq g (get_or updates u no_update).group ≡ false = ne_eqb g (get_or updates u no_update).group (λ same. eqb-false (get_or updates u no_update).group g e (sym same)) in
    none_past_it updates g u scene s r (u + 1) n (omega arith)
    ∙ sym (ap (λ b. cond (b && conditions_hold scene s.vars r.conds) (after_actions scene s r.actions) s) other)

among_them : (updates : List Update) (g u : ℕ) (scene : Scene) (s : State) (r : Rule) (a n : ℕ) → a ≤ u → u < a + n
    → after_rules scene (Got u) s (rules_for updates g r a n) ≡ cond (nat_eq g (get_or updates u no_update).group && conditions_hold scene s.vars r.conds) (after_actions scene s r.actions) s
among_them updates g u scene s r a zero le lt = absurd (omega arith)
among_them updates g u scene s r a (suc n) le lt = elim (cases_eq a u) [
  | inl same ↦ (let P : ℕ → Type 0 = λ x. after_rules scene (Got u) s (rules_for updates g r x (suc n)) ≡ cond (nat_eq g (get_or updates u no_update).group && conditions_hold scene s.vars r.conds) (after_actions scene s r.actions) s in
      subst P (sym same) (own_rule updates g u scene s r n (of_group updates g u) refl))
  | inr apart ↦ more_rules updates g u scene s _ r a n (of_group updates g a) (among_them updates g u scene s r (a + 1) n (omega arith) (omega arith)) apart
]

-- what a rule becomes does at update u what the rule does at the update's group
rule_got : (updates : List Update) (u : ℕ) (scene : Scene) (s : State) (r : Rule) (on : Trigger) → u < length updates
    → after_rules scene (Got u) s (map (with_trigger r) (lowered_triggers updates on)) ≡ after_rule scene (Got (get_or updates u no_update).group) s (with_trigger r on)
rule_got updates u scene s r Start lt = refl
rule_got updates u scene s r Grant lt = refl
rule_got updates u scene s r (Got g) lt = among_them updates g u scene s r 0 (length updates) (omega arith) (omega arith)

pub rules_got : (updates : List Update) (u : ℕ) (scene : Scene) (s : State) (rs : List Rule) → u < length updates
    → after_rules scene (Got u) s (lowered_rules updates rs) ≡ after_rules scene (Got (get_or updates u no_update).group) s rs
rules_got updates u scene s [] lt = refl
rules_got updates u scene s (r ∷ rs) lt =
    rules_append scene (Got u) s (lowered_rule updates r) (lowered_rules updates rs)
    ∙ ap (λ x. after_rules scene (Got u) x (lowered_rules updates rs)) (rule_got updates u scene s r r.on lt)
    ∙ rules_got updates u scene (after_rule scene (Got (get_or updates u no_update).group) s r) rs lt

-- no rule on Got runs at the start or at a grant
abbrev IsOwn : Trigger → Type 0
IsOwn on = (k : ℕ) → same_trigger (Got k) on ≡ false

got_not : (scene : Scene) (on : Trigger) (s : State) (r : Rule) (ks : List ℕ) → IsOwn on → after_rules scene on s (map (with_trigger r) (map (λ k. Got k) ks)) ≡ s
got_not scene on s r [] own = refl
got_not scene on s r (k ∷ ks) own =
    ap (λ b. after_rules scene on (cond (b && conditions_hold scene s.vars r.conds) (after_actions scene s r.actions) s) (map (with_trigger r) (map (λ k. Got k) ks))) (own k)
    ∙ got_not scene on s r ks own

rule_own : (updates : List Update) (scene : Scene) (on : Trigger) (s : State) (r : Rule) (his : Trigger) → IsOwn on
    → after_rules scene on s (map (with_trigger r) (lowered_triggers updates his)) ≡ after_rule scene on s (with_trigger r his)
rule_own updates scene on s r Start own = refl
rule_own updates scene on s r Grant own = refl
rule_own updates scene on s r (Got g) own =
    got_not scene on s r (updates_of updates g) own
    ∙ sym (ap (λ b. cond (b && conditions_hold scene s.vars r.conds) (after_actions scene s r.actions) s) (own g))

pub rules_own : (updates : List Update) (scene : Scene) (on : Trigger) (s : State) (rs : List Rule) → ((k : ℕ) → same_trigger (Got k) on ≡ false)
    → after_rules scene on s (lowered_rules updates rs) ≡ after_rules scene on s rs
rules_own updates scene on s [] own = refl
rules_own updates scene on s (r ∷ rs) own =
    rules_append scene on s (lowered_rule updates r) (lowered_rules updates rs)
    ∙ ap (λ x. after_rules scene on x (lowered_rules updates rs)) (rule_own updates scene on s r r.on own)
    ∙ rules_own updates scene on (after_rule scene on s r) rs own

-- the federates of the federation
pub federate_same : (plan : Plan) (i : ℕ) → federate_at (federation_of plan) i ≡ lowered_federate plan.updates (planned_federate_at plan i)
federate_same plan i = get_or-map (lowered_federate plan.updates) plan.federates i nobody

pub scene_same : (plan : Plan) (i now value : ℕ) → scene_of (federation_of plan) i now value ≡ regional_scene plan i now value
unfolding effective_lookahead
scene_same plan i now value = ap (λ (f : Federate). record { end = plan.end; sender = i; lookahead = unwrap_or f.lookahead (plan.end + 1); time = now; value = value }) (federate_same plan i)

step_is : (plan : Plan) (i : ℕ) (on : Trigger) (now value : ℕ) (s : State)
    → state_after (federation_of plan) i on now value s ≡ after_rules (regional_scene plan i now value) on s (lowered_rules plan.updates (planned_federate_at plan i).rules)
step_is plan i on now value s =
    ap (λ (f : Federate). after_rules (scene_of (federation_of plan) i now value) on s f.rules) (federate_same plan i)
    ∙ ap (λ x. after_rules x on s (lowered_rules plan.updates (planned_federate_at plan i).rules)) (scene_same plan i now value)

pub got_same : (plan : Plan) (i u now value : ℕ) (s : State) → u < length plan.updates
    → state_after (federation_of plan) i (Got u) now value s ≡ regional_state_after plan i (Got (update_at plan u).group) now value s
got_same plan i u now value s lt = step_is plan i (Got u) now value s ∙ rules_got plan.updates u (regional_scene plan i now value) s (planned_federate_at plan i).rules lt

pub own_same : (plan : Plan) (i : ℕ) (on : Trigger) (now value : ℕ) (s : State) → ((k : ℕ) → same_trigger (Got k) on ≡ false)
    → state_after (federation_of plan) i on now value s ≡ regional_state_after plan i on now value s
own_same plan i on now value s own = step_is plan i on now value s ∙ rules_own plan.updates (regional_scene plan i now value) on s (planned_federate_at plan i).rules own

pub opening_same : (plan : Plan) (i : ℕ) → opening_state (federate_at (federation_of plan) i) ≡ opening_state (planned_federate_at plan i)
opening_same plan i = ap opening_state (federate_same plan i)
