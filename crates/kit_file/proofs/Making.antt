-- What was read makes a plan, or a federation.
use Rattle.std.proofs.Common.{◌≡◌, ℕ, ◌≤◌, List, length, map, Option, sym, ap, subst, ◌∙◌}
use Rattle.std.proofs.lemmas.List.{length-map}
use Rattle.kit_rules.specs.declared.table.Rule.{Rule}
use Rattle.kit_rules.specs.declared.table.Group.{Group}
use Rattle.kit_rules.specs.declared.table.Federate.{Federate}
use Rattle.kit_rules.specs.Limits.{most_buffers, most_groups}
use Rattle.kit_rules.specs.Federation.{IsStep, IsRule, IsFederate, AreFederates}
use Rattle.kit_regions.specs.declared.region.Update.{Update}
use Rattle.kit_regions.specs.declared.region.Subscription.{Subscription}
use Rattle.kit_regions.specs.Limits.{IsPlannedRule, IsPlannedFederate, ArePlannedFederates, AreUpdates, AreSubscriptions, IsPlan}
use Rattle.kit_file.specs.Names.{group_name, update_name}
use Rattle.kit_file.specs.SoFar.{AreSubscribed}

-- rules that send to the groups that they know are rules of a federation
rule_is : (n vars : ℕ) (lookahead : Option ℕ) (r : Rule) → IsPlannedRule n n vars lookahead r → IsRule n vars lookahead r
rule_is n vars lookahead r is = record { on = is.on; few_conds = is.few_conds; conds = is.conds; few_actions = is.few_actions; actions = is.actions }

federate_is : (n : ℕ) (f : Federate) → IsPlannedFederate n n f → IsFederate n f
federate_is n f is = record {
  name = is.name;
  lookahead = is.lookahead;
  advance = is.advance;
  vars = is.vars;
  few_rules = is.few_rules;
  rules = λ i d h. rule_is n (length f.vars) f.lookahead _ (is.rules i d h);
}

federates_are : (n : ℕ) (fs : List Federate) → ArePlannedFederates n n fs → AreFederates n fs
federates_are n fs are = record { count = are.count; each = λ i d h. federate_is n _ (are.each i d h); differ = are.differ }

-- so the federates of a file whose targets are its groups are those of a federation
pub are_federates : (groups : List Group) (known targets : List (List ℕ)) (fs : List Federate) → known ≡ map group_name groups → targets ≡ map group_name groups
    → ArePlannedFederates (length known) (length targets) fs → AreFederates (length groups) fs
are_federates groups known targets fs k t are =
    let there : (names : List (List ℕ)) → names ≡ map group_name groups → length names ≡ length groups = λ names e. ap length e ∙ length-map groups group_name in
    let first : ArePlannedFederates (length groups) (length targets) fs = subst (λ n. ArePlannedFederates n (length targets) fs) (there known k) are in
    federates_are (length groups) fs (subst (λ n. ArePlannedFederates (length groups) n fs) (there targets t) first)

-- and what a file with regions says is a plan
pub is_plan : (end buffers count : ℕ) (groups targets : List (List ℕ)) (updates : List Update) (subscriptions : List Subscription) (federates : List Federate)
    → IsStep end → (1 ≤ buffers) × (buffers ≤ most_buffers) → length groups ≤ most_groups → AreSubscribed count (record { groups = groups; subscriptions = subscriptions })
    → AreUpdates (length groups) updates → targets ≡ map update_name updates → ArePlannedFederates (length groups) (length targets) federates → length federates ≡ count
    → IsPlan (record { end = end; buffers = buffers; groups = groups; updates = updates; subscriptions = subscriptions; federates = federates })
is_plan end buffers count groups targets updates subscriptions federates e b few subscribed us t fs is =
    let there : length targets ≡ length updates = ap length t ∙ length-map updates update_name in
    record {
      end = e;
      buffers = b;
      groups = record { few = few; each = subscribed.names.names; differ = subscribed.names.differ };
      updates = us;
      subscriptions = subst (λ n. AreSubscriptions (length groups) n subscriptions) (sym is) subscribed.subscriptions;
      federates = subst (λ n. ArePlannedFederates (length groups) n federates) there fs;
    }
