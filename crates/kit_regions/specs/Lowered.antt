-- The federation of a plan.
use Rattle.std.specs.Prelude.{ℕ, ◌==◌, nat_lt, Bool, List, [], ◌∷◌, length, map, filter, slice_index_or, Option, find}
use Rattle.std.specs.List.{range_with_len, flat_map}
use Rattle.kit_rules.specs.Limits.{most_rules}
use Rattle.kit_rules.specs.declared.table.Trigger.{Trigger}
use Rattle.kit_rules.specs.declared.table.Trigger.TheVariants.{Start, Grant, Got}
use Rattle.kit_rules.specs.declared.table.Rule.{Rule}
use Rattle.kit_rules.specs.declared.table.Group.{Group}
use Rattle.kit_rules.specs.declared.table.Federate.{Federate}
use Rattle.kit_rules.specs.Parts.{Parts, nobody}
use Rattle.kit_regions.specs.declared.region.Update.{Update}
use Rattle.kit_regions.specs.declared.region.Subscription.{Subscription}
use Rattle.kit_regions.specs.Plan.{Plan, no_update}
use Rattle.kit_regions.specs.Overlap.{mask_of}

-- the numbers of a group's updates, in order
abbrev pub updates_of : List Update → ℕ → List ℕ
updates_of updates g = filter (λ u. (slice_index_or updates u no_update).group == g) (range_with_len 0 (length updates))

-- a rule on another trigger
abbrev pub with_trigger : Rule → Trigger → Rule
with_trigger r on = record { on = on; conds = r.conds; actions = r.actions }

-- the triggers that a trigger becomes: Got of each update of its group, and another stays
abbrev pub lowered_triggers : List Update → Trigger → List Trigger
lowered_triggers updates Start = Start ∷ []
lowered_triggers updates Grant = Grant ∷ []
lowered_triggers updates (Got g) = map (λ u. Got u) (updates_of updates g)

-- the rules that a rule becomes, in the order of the updates
abbrev pub lowered_rule : List Update → Rule → List Rule
lowered_rule updates r = map (with_trigger r) (lowered_triggers updates r.on)

-- a table's rules, each in its place
abbrev pub lowered_rules : List Update → List Rule → List Rule
lowered_rules updates rs = flat_map (lowered_rule updates) rs

-- a federate with the rules that its own become
abbrev pub lowered_federate : List Update → Federate → Federate
lowered_federate updates f = record { name = f.name; lookahead = f.lookahead; advance = f.advance; vars = f.vars; rules = lowered_rules updates f.rules }

-- an update as a group, whose members are the federates with an overlapping subscription
abbrev pub lowered_group : List Subscription → Update → Group
lowered_group subscriptions u = record { name = u.name; members = mask_of subscriptions u }

-- the federation of a plan: its groups are the updates
abbrev pub federation_of : Plan → Parts
federation_of plan = record { end = plan.end; buffers = plan.buffers; groups = map (lowered_group plan.subscriptions) plan.updates; federates = map (lowered_federate plan.updates) plan.federates }

-- whether a federate's table becomes one of too many rules
abbrev pub is_crowded : List Update → Federate → Bool
is_crowded updates f = nat_lt most_rules (length (lowered_rules updates f.rules))

-- the first federate of which that holds
abbrev pub first_crowded : List Update → List Federate → Option ℕ
first_crowded updates fs = find (λ i. is_crowded updates (slice_index_or fs i nobody)) (range_with_len 0 (length fs))

-- the first federate of a plan of which that holds
abbrev pub crowded_federate : Plan → Option ℕ
crowded_federate plan = first_crowded plan.updates plan.federates
