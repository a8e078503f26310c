-- The groups of a file of version 3, and the federates that subscribe to ranges of them.
use Rattle.std.specs.Prelude.{ℕ, List, [], ◌∷◌, ◌++◌, Result, Ok, codes}
use Rattle.serde_json.specs.Data.{Data}
use Rattle.kit_regions.specs.Limits.{most_subscriptions}
use Rattle.kit_regions.specs.declared.region.Subscription.{Subscription}
use Rattle.kit_walk.specs.declared.fault.Fault.{Fault}
use Rattle.kit_file.specs.declared.subscribers.Subscribed.{Subscribed}
use Rattle.kit_walk.specs.Paths.{item_path}
use Rattle.kit_walk.specs.Reading.{◌>>=◌, within, each}
use Rattle.kit_walk.specs.Places.{object, list}
use Rattle.kit_file.specs.Names.{itself, new_name, reference}
use Rattle.kit_file.specs.Groups.{group_list_of}
use Rattle.kit_file.specs.Regions.{range_of}

-- a subscription to group g: federate, from, to
unfoldable pub subscription_of : List (List ℕ) → ℕ → Data → Result Subscription Fault
subscription_of names g d = do
  u ← object d
  federate ← reference itself names (codes "federate") d
  range ← range_of d
  Ok (record { group = g; federate = federate; range = range })

-- one more subscription, the i-th of the list subscribers
unfoldable pub subscription_step : List (List ℕ) → ℕ → ℕ → List Subscription → Data → Result (List Subscription) Fault
subscription_step names g i done d = within (item_path (codes "subscribers") i) (subscription_of names g d) >>= λ s. Ok (done ++ s ∷ [])

-- the members of the list subscribers
abbrev pub subscriber_list_of : Data → Result (List Data) Fault
subscriber_list_of d = list (codes "subscribers") 0 most_subscriptions d

-- the list subscribers of group g
unfoldable pub subscriptions_of : List (List ℕ) → ℕ → Data → Result (List Subscription) Fault
subscriptions_of names g d = do
  ds ← subscriber_list_of d
  each (subscription_step names g) 0 [] ds

-- group g after these: its name, new among theirs, and the subscriptions to it after those to them
unfoldable pub subscribed_of : List (List ℕ) → ℕ → Subscribed → Data → Result Subscribed Fault
subscribed_of names g done d = do
  u ← object d
  n ← new_name itself done.groups (codes "name") d
  more ← subscriptions_of names g d
  Ok (record { groups = done.groups ++ n ∷ []; subscriptions = done.subscriptions ++ more })

-- one more group, the g-th of the list groups
unfoldable pub subscribed_step : List (List ℕ) → ℕ → Subscribed → Data → Result Subscribed Fault
subscribed_step names g done d = within (item_path (codes "groups") g) (subscribed_of names g done d)

-- no groups yet
abbrev pub none_subscribed : Subscribed
none_subscribed = record { groups = []; subscriptions = [] }

-- the list groups
unfoldable pub subscribed_groups_of : List (List ℕ) → Data → Result Subscribed Fault
subscribed_groups_of names d = do
  ds ← group_list_of d
  each (subscribed_step names) 0 none_subscribed ds
