-- When the parts make a plan.
use Rattle.std.specs.Prelude.{◌≢◌, ℕ, ◌<◌, ◌≤◌, ◌^◌, ◌==◌, List, length, Option, IfSome, All, AllPairs, count_by}
use Rattle.kit_rules.specs.declared.table.Rule.{Rule}
use Rattle.kit_rules.specs.declared.table.Federate.{Federate}
use Rattle.kit_rules.specs.Limits.{most_buffers, most_federates, most_groups, most_rules, most_conds, most_actions}
use Rattle.kit_rules.specs.Names.{IsName}
use Rattle.kit_rules.specs.Federation.{IsStep, IsWish, IsTrigger, IsCond, IsAction, AreVars}
use Rattle.kit_regions.specs.declared.region.Range.{Range}
use Rattle.kit_regions.specs.declared.region.Update.{Update}
use Rattle.kit_regions.specs.declared.region.Subscription.{Subscription}
use Rattle.kit_regions.specs.Plan.{Plan}

-- the most updates of a plan
abbrev pub most_updates : ℕ
most_updates = 32

-- the most subscriptions to one group
abbrev pub most_subscriptions : ℕ
most_subscriptions = 256

-- a range has a number, and its end is a number of 32 bits
abbrev pub IsRange : Range → Type 0
IsRange r = (r.from < r.to) × (r.to < 2 ^ 32)

-- a rule of a federate with so many variables and this lookahead: it is on Got of a group, and sends to an update
pub record IsPlannedRule (groups updates vars : ℕ) (lookahead : Option ℕ) (r : Rule) : Type 0 where
  pub on : IsTrigger groups r.on
  pub few_conds : length r.conds ≤ most_conds
  pub conds : All (IsCond vars) r.conds
  pub few_actions : length r.actions ≤ most_actions
  pub actions : All (IsAction updates vars lookahead) r.actions

-- a federate, where there are so many groups and updates
pub record IsPlannedFederate (groups updates : ℕ) (f : Federate) : Type 0 where
  pub name : IsName f.name
  pub lookahead : IfSome f.lookahead IsStep
  pub advance : IsWish f.advance
  pub vars : AreVars f.vars
  pub few_rules : length f.rules ≤ most_rules
  pub rules : All (IsPlannedRule groups updates (length f.vars) f.lookahead) f.rules

-- the names of the groups
pub record AreGroupNames (groups : List (List ℕ)) : Type 0 where
  pub few : length groups ≤ most_groups
  pub each : All IsName groups
  pub differ : AllPairs (λ (a b : List ℕ). a ≢ b) groups

-- an update, where there are so many groups
pub record IsUpdate (groups : ℕ) (u : Update) : Type 0 where
  pub name : IsName u.name
  pub group : u.group < groups
  pub range : IsRange u.range

-- the updates, where there are so many groups
pub record AreUpdates (groups : ℕ) (updates : List Update) : Type 0 where
  pub few : length updates ≤ most_updates
  pub each : All (IsUpdate groups) updates
  pub differ : AllPairs (λ (a b : Update). a.name ≢ b.name) updates

-- a subscription, where there are so many groups and federates
pub record IsSubscription (groups federates : ℕ) (s : Subscription) : Type 0 where
  pub group : s.group < groups
  pub federate : s.federate < federates
  pub range : IsRange s.range

-- the subscriptions, where there are so many groups and federates
pub record AreSubscriptions (groups federates : ℕ) (subscriptions : List Subscription) : Type 0 where
  pub each : All (IsSubscription groups federates) subscriptions
  pub few : (g : ℕ) → count_by (λ (s : Subscription). s.group == g) subscriptions ≤ most_subscriptions

-- the federates, where there are so many groups and updates
pub record ArePlannedFederates (groups updates : ℕ) (federates : List Federate) : Type 0 where
  pub count : (1 ≤ length federates) × (length federates ≤ most_federates)
  pub each : All (IsPlannedFederate groups updates) federates
  pub differ : AllPairs (λ (a b : Federate). a.name ≢ b.name) federates

-- the parts of a plan
pub record IsPlan (plan : Plan) : Type 0 where
  pub end : IsStep plan.end
  pub buffers : (1 ≤ plan.buffers) × (plan.buffers ≤ most_buffers)
  pub groups : AreGroupNames plan.groups
  pub updates : AreUpdates (length plan.groups) plan.updates
  pub subscriptions : AreSubscriptions (length plan.groups) (length plan.federates) plan.subscriptions
  pub federates : ArePlannedFederates (length plan.groups) (length plan.updates) plan.federates
