-- The federation of a plan keeps the limits of a federation.
use Rattle.std.proofs.Common.{◌≡◌, ◌≢◌, ℕ, zero, suc, inl, inr, ◌+◌, ◌<◌, ◌≤◌, ◌^◌, Bool, true, false, nat_eq, arith, refl, sym, subst, ap, ◌∙◌, cond, List, [], ◌∷◌, length, get_or, map, filter, find, Option, Some, None}
use Rattle.std.specs.List.{All, AllByRecursion, AllPairs, range_with_len}
use Rattle.std.proofs.lemmas.Bool.{cases_eq, ltb-false}
use Rattle.std.proofs.lemmas.List.{get_or-map, get_or_default, length-map}
use Rattle.std.proofs.lemmas.List.Elements.{All-from_recursion, recursion_from_All, All-map}
use Rattle.kit_base.proofs.Lists.{all-append}
use Rattle.kit_rules.specs.declared.table.Trigger.{Trigger}
use Rattle.kit_rules.specs.declared.table.Trigger.TheVariants.{Start, Grant, Got}
use Rattle.kit_rules.specs.declared.table.Rule.{Rule}
use Rattle.kit_rules.specs.declared.table.Group.{Group}
use Rattle.kit_rules.specs.declared.table.Federate.{Federate}
use Rattle.kit_rules.specs.Parts.{nobody}
use Rattle.kit_rules.specs.Federation.{IsTrigger, IsRule, IsFederate, IsGroup}
use Rattle.kit_regions.specs.declared.region.Update.{Update}
use Rattle.kit_regions.specs.Plan.{Plan, no_update}
use Rattle.kit_regions.specs.Limits.{IsPlannedRule, IsPlannedFederate, IsPlan}
use Rattle.kit_regions.specs.Overlap.{is_subscribed, mask_of}
use Rattle.kit_regions.specs.Lowered.{with_trigger, lowered_triggers, lowered_rule, lowered_rules, lowered_federate, lowered_group, federation_of, is_crowded, crowded_federate}
use Rattle.kit_regions.specs.Laws.{PlansMakeFederations}
use Rattle.kit_regions.proofs.Masks.{mask_within}
use Rattle.kit_regions.proofs.Receivers.{none_past, subscribers_within}

-- names that differ, differ after a change that leaves them
pairs_map : {X Y : Type 0} (name : Y → List ℕ) (f : X → Y) (e : X) (xs : List X) → AllPairs (λ (a b : X). name (f a) ≢ name (f b)) xs → AllPairs (λ (a b : Y). name a ≢ name b) (map f xs)
pairs_map name f e xs h j k d below lt same =
    let within : k < length xs = omega (arith, length-map xs f) in
    h j k e below within (sym (ap name (get_or-map f xs j e d (omega arith))) ∙ same ∙ ap name (get_or-map f xs k e d within))

-- a rule on another trigger that is there
rule_on : (groups updates vars : ℕ) (lookahead : Option ℕ) (r : Rule) (on : Trigger) → IsPlannedRule groups updates vars lookahead r → IsTrigger updates on → IsRule updates vars lookahead (with_trigger r on)
rule_on groups updates vars lookahead r on h t = record { on = t; few_conds = h.few_conds; conds = h.conds; few_actions = h.few_actions; actions = h.actions }

got_rules : (groups most vars : ℕ) (lookahead : Option ℕ) (r : Rule) (p : ℕ → Bool) (a n : ℕ) → IsPlannedRule groups most vars lookahead r → a + n ≤ most
    → AllByRecursion (IsRule most vars lookahead) (map (with_trigger r) (map (λ k. Got k) (filter p (range_with_len a n))))
got_rules groups most vars lookahead r p a zero h le = tt
got_rules groups most vars lookahead r p a (suc n) h le = one (p a) (got_rules groups most vars lookahead r p (a + 1) n h (omega arith)) where
  one : (b : Bool) → AllByRecursion (IsRule most vars lookahead) (map (with_trigger r) (map (λ k. Got k) (filter p (range_with_len (a + 1) n))))
      → AllByRecursion (IsRule most vars lookahead) (map (with_trigger r) (map (λ k. Got k) (cond b (a ∷ filter p (range_with_len (a + 1) n)) (filter p (range_with_len (a + 1) n)))))
  one true rest = (rule_on groups most vars lookahead r (Got a) h (let lt : a < most = omega arith in lt), rest)
  one false rest = rest

rule_fits : (updates : List Update) (groups vars : ℕ) (lookahead : Option ℕ) (r : Rule) (on : Trigger) → IsPlannedRule groups (length updates) vars lookahead r
    → AllByRecursion (IsRule (length updates) vars lookahead) (map (with_trigger r) (lowered_triggers updates on))
rule_fits updates groups vars lookahead r Start h = (rule_on groups (length updates) vars lookahead r Start h tt, tt)
rule_fits updates groups vars lookahead r Grant h = (rule_on groups (length updates) vars lookahead r Grant h tt, tt)
rule_fits updates groups vars lookahead r (Got g) h = got_rules groups (length updates) vars lookahead r (λ u. nat_eq (get_or updates u no_update).group g) 0 (length updates) h (omega arith)

rules_fit : (updates : List Update) (groups vars : ℕ) (lookahead : Option ℕ) (rs : List Rule) → AllByRecursion (IsPlannedRule groups (length updates) vars lookahead) rs
    → AllByRecursion (IsRule (length updates) vars lookahead) (lowered_rules updates rs)
rules_fit updates groups vars lookahead [] h = tt
rules_fit updates groups vars lookahead (r ∷ rs) h =
    all-append (IsRule (length updates) vars lookahead) (lowered_rule updates r) (lowered_rules updates rs) (rule_fits updates groups vars lookahead r r.on h.0) (rules_fit updates groups vars lookahead rs h.1)

federate_fits : (updates : List Update) (groups : ℕ) (f : Federate) → IsPlannedFederate groups (length updates) f → is_crowded updates f ≡ false → IsFederate (length updates) (lowered_federate updates f)
federate_fits updates groups f h few = record {
  name = h.name;
  lookahead = h.lookahead;
  advance = h.advance;
  vars = h.vars;
  few_rules = ltb-false 64 (length (lowered_rules updates f.rules)) few;
  rules = All-from_recursion (IsRule (length updates) (length f.vars) f.lookahead) (lowered_rules updates f.rules)
      (rules_fit updates groups (length f.vars) f.lookahead f.rules (recursion_from_All (IsPlannedRule groups (length updates) (length f.vars) f.lookahead) f.rules h.rules));
}

-- where none is crowded, each is not
none_passes : (p : ℕ → Bool) (a n j : ℕ) → find p (range_with_len a n) ≡ None → a ≤ j → j < a + n → p j ≡ false
none_passes p a zero j e le lt = absurd (omega arith)
none_passes p a (suc n) j e le lt = one (p a) refl e (λ rest apart. none_passes p (a + 1) n j rest (omega arith) (omega arith)) where
  one : (b : Bool) → p a ≡ b → cond b (Some a) (find p (range_with_len (a + 1) n)) ≡ None → (find p (range_with_len (a + 1) n) ≡ None → (a ≡ j → ⊥) → p j ≡ false) → p j ≡ false
  one true is none rest = absurd (cc)
  one false is none rest = elim (cases_eq a j) [ inl same ↦ ap p (sym same) ∙ is | inr apart ↦ rest none apart ]

each_fits : (plan : Plan) → IsPlan plan → crowded_federate plan ≡ None → All (IsFederate (length plan.updates)) (map (lowered_federate plan.updates) plan.federates)
each_fits plan f none = All-map (IsFederate (length plan.updates)) (lowered_federate plan.updates) plan.federates (λ k d lt.
    federate_fits plan.updates (length plan.groups) (get_or plan.federates k d) (f.federates.each k d lt)
    (ap (is_crowded plan.updates) (get_or_default plan.federates k d nobody lt) ∙ none_passes (λ i. is_crowded plan.updates (get_or plan.federates i nobody)) 0 (length plan.federates) k none (omega arith) (omega arith)))

-- the members of a group are federates
mask_fits : (plan : Plan) → IsPlan plan → (u : Update) → mask_of plan.subscriptions u < 2 ^ length plan.federates
unfolding mask_of
mask_fits plan f u = mask_within (is_subscribed plan.subscriptions u) (length plan.federates) 16 (f.federates.count.1) (λ j le. none_past plan.subscriptions u (length plan.federates) j (subscribers_within plan f) le)

each_group_fits : (plan : Plan) → IsPlan plan → (n : ℕ) → n ≡ length plan.federates → All (IsGroup n) (map (lowered_group plan.subscriptions) plan.updates)
each_group_fits plan f n e = All-map (IsGroup n) (lowered_group plan.subscriptions) plan.updates (λ k d lt. record {
  name = (f.updates.each k d lt).name;
  members = subst (λ m. mask_of plan.subscriptions (get_or plan.updates k d) < 2 ^ m) (sym e) (mask_fits plan f (get_or plan.updates k d));
})

pub plans_make_federations_law : PlansMakeFederations
plans_make_federations_law plan f none =
    let federates : length (federation_of plan).federates ≡ length plan.federates = length-map plan.federates (lowered_federate plan.updates) in
    let groups : length (federation_of plan).groups ≡ length plan.updates = length-map plan.updates (lowered_group plan.subscriptions) in
    record {
      end = f.end;
      buffers = f.buffers;
      groups = record {
        few = omega (arith, groups, f.updates.few);
        each = each_group_fits plan f (length (federation_of plan).federates) federates;
        differ = pairs_map (λ (g : Group). g.name) (lowered_group plan.subscriptions) no_update plan.updates f.updates.differ;
      };
      federates = record {
        count = (omega (arith, federates, f.federates.count), omega (arith, federates, f.federates.count));
        each = subst (λ n. All (IsFederate n) (federation_of plan).federates) (sym groups) (each_fits plan f none);
        differ = pairs_map (λ (f : Federate). f.name) (lowered_federate plan.updates) nobody plan.federates f.federates.differ;
      };
    }
