-- What holds of the members of a list that were read so far.
use Rattle.std.specs.Prelude.{◌≡◌, ◌≢◌, ◌≤◌, ℕ, ◌<◌, List, All, AllPairs, map, take, length}
use Rattle.kit_rules.specs.declared.table.Group.{Group}
use Rattle.kit_rules.specs.declared.table.Federate.{Federate}
use Rattle.kit_rules.specs.Names.{IsName}
use Rattle.kit_rules.specs.Federation.{IsGroup}
use Rattle.kit_rules.specs.Limits.{most_groups}
use Rattle.kit_regions.specs.declared.region.Update.{Update}
use Rattle.kit_regions.specs.declared.region.Subscription.{Subscription}
use Rattle.kit_regions.specs.Limits.{IsRange, IsPlannedFederate, IsUpdate, AreSubscriptions, most_updates}
use Rattle.kit_file.specs.declared.known.Known.{Known}
use Rattle.kit_file.specs.declared.subscribers.Subscribed.{Subscribed}
use Rattle.kit_file.specs.Names.{itself}

-- each has the form of a name, and no two are the same
pub record AreNames {X : Type 0} (name_of : X → List ℕ) (xs : List X) : Type 0 where
  pub names : All (λ x. IsName (name_of x)) xs
  pub differ : AllPairs (λ a b. name_of a ≢ name_of b) xs

-- one more name beside these
pub record IsNewName {X : Type 0} (name_of : X → List ℕ) (xs : List X) (s : List ℕ) : Type 0 where
  pub form : IsName s
  pub fresh : All (λ x. name_of x ≢ s) xs

-- groups of so many federates
pub record AreGroupsSoFar (federates : ℕ) (gs : List Group) : Type 0 where
  pub each : All (IsGroup federates) gs
  pub differ : AllPairs (λ (a b : Group). a.name ≢ b.name) gs

-- updates of so many groups
pub record AreUpdatesSoFar (groups : ℕ) (us : List Update) : Type 0 where
  pub each : All (IsUpdate groups) us
  pub differ : AllPairs (λ (a b : Update). a.name ≢ b.name) us

-- a subscription to this group, where there are so many federates
pub record IsSubscriptionTo (group federates : ℕ) (s : Subscription) : Type 0 where
  pub to : s.group ≡ group
  pub federate : s.federate < federates
  pub range : IsRange s.range

-- groups, with the subscriptions to them of so many federates
pub record AreSubscribed (federates : ℕ) (s : Subscribed) : Type 0 where
  pub names : AreNames itself s.groups
  pub subscriptions : AreSubscriptions (length s.groups) federates s.subscriptions

-- no more groups and targets than a file may have
pub record AreKnown (known : Known) : Type 0 where
  pub groups : length known.groups ≤ most_groups
  pub targets : length known.targets ≤ most_updates

-- federates beside so many groups and targets, with the first of these names
pub record AreFederatesSoFar (groups targets : ℕ) (names : List (List ℕ)) (fs : List Federate) : Type 0 where
  pub each : All (IsPlannedFederate groups targets) fs
  pub named : map (λ (f : Federate). f.name) fs ≡ take (length fs) names
