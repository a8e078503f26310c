-- What the federation of a plan is.
use Rattle.std.specs.Prelude.{◌≡◌, ℕ, ◌<◌, None, List, All}
use Rattle.kit_rules.specs.Limits.{most_federates}
use Rattle.kit_rules.specs.Federation.{IsFederation}
use Rattle.kit_rules.specs.Delivery.{has_bit, receivers_of}
use Rattle.kit_rules.specs.Simulation.{simulation, spender}
use Rattle.kit_rules.specs.Need.{need_of}
use Rattle.kit_rules.specs.Text.{simulation_text}
use Rattle.kit_regions.specs.Needs.{regional_need}
use Rattle.kit_regions.specs.Text.{regional_text}
use Rattle.kit_regions.specs.Plan.{Plan}
use Rattle.kit_regions.specs.Limits.{IsPlan}
use Rattle.kit_regions.specs.declared.region.Update.{Update}
use Rattle.kit_regions.specs.declared.region.Subscription.{Subscription}
use Rattle.kit_regions.specs.Overlap.{receives, is_subscribed, mask_of}
use Rattle.kit_regions.specs.Lowered.{federation_of, crowded_federate}
use Rattle.kit_regions.specs.Regional.{regional_simulation, regional_spender}

-- where no table becomes too long, it is a federation
abbrev pub PlansMakeFederations : Type 0
PlansMakeFederations = (plan : Plan) → IsPlan plan → crowded_federate plan ≡ None → IsFederation (federation_of plan)

-- who receives a message in it has an overlapping subscription, and is not the sender
abbrev pub ReceiversOverlap : Type 0
ReceiversOverlap = (plan : Plan) → IsPlan plan → (sender u j : ℕ) → has_bit (receivers_of (federation_of plan) sender u) j ≡ receives plan sender u j

-- its simulation is that of the plan: grants with their deliveries, closing variables, and all else
abbrev pub SameSimulation : Type 0
SameSimulation = (plan : Plan) → IsPlan plan → simulation (federation_of plan) ≡ regional_simulation plan

-- the mask of an update has the federates with an overlapping subscription
abbrev pub MasksAreSubscribers : Type 0
MasksAreSubscribers = (subscriptions : List Subscription) (u : Update) (j : ℕ) → All (λ (s : Subscription). s.federate < most_federates) subscriptions
    → has_bit (mask_of subscriptions u) j ≡ is_subscribed subscriptions u j

-- who first takes number 16,385 in it, does so in the plan
abbrev pub SameSpender : Type 0
SameSpender = (plan : Plan) → IsPlan plan → spender (federation_of plan) ≡ regional_spender plan

-- what a federate needs in it, it needs in the plan
abbrev pub SameNeeds : Type 0
SameNeeds = (plan : Plan) → IsPlan plan → (i : ℕ) → need_of (federation_of plan) i ≡ regional_need plan i

-- the text of its simulation is that of the plan's
abbrev pub SameText : Type 0
SameText = (plan : Plan) → IsPlan plan → simulation_text (federation_of plan) ≡ regional_text plan
