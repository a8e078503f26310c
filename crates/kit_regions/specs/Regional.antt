-- The sequential simulation of a plan: what a federate receives goes by its subscriptions, and its rules are told the group of the update.
use Rattle.std.specs.Prelude.{ℕ, zero, suc, ◌+◌, ◌*◌, nat_lt, nat_le, Bool, ◌&&◌, not, if◌then◌else◌, List, [], ◌∷◌, ◌++◌, length, map, drop, filter, slice_set, Option, Some, None, find, unwrap_or}
use Rattle.std.specs.Option.{option_map}
use Rattle.std.specs.List.{range_with_len, flat_map, list_any}
use Rattle.kit_base.specs.declared.message.Message.{Message}
use Rattle.kit_base.specs.Order.{in_order}
use Rattle.kit_rules.specs.declared.table.Trigger.{Trigger}
use Rattle.kit_rules.specs.declared.table.Trigger.TheVariants as trigger
use Rattle.kit_rules.specs.declared.scene.Scene.{Scene}
use Rattle.kit_rules.specs.declared.scene.State.{State}
use Rattle.kit_rules.specs.Step.{is_event, after_rules, opening_state}
use Rattle.kit_rules.specs.Delivery.{retracts, is_same, due_time}
use Rattle.kit_rules.specs.Simulation.{Seat, World, block, request_at, least_pair, seat_at, is_spent}
use Rattle.kit_regions.specs.Plan.{Plan, update_at, planned_federate_at}
use Rattle.kit_regions.specs.Overlap.{receives}

-- where the rules of a federate run, at a time and with a value; one that is not regulating sends nothing up to the end
abbrev pub regional_scene : Plan → ℕ → ℕ → ℕ → Scene
regional_scene plan i now value = record { end = plan.end; sender = i; lookahead = unwrap_or (planned_federate_at plan i).lookahead (plan.end + 1); time = now; value = value }

-- the rules of a trigger, at a time and with a value
abbrev pub regional_state_after : Plan → ℕ → Trigger → ℕ → ℕ → State → State
regional_state_after plan i on now value s = after_rules (regional_scene plan i now value) on s (planned_federate_at plan i).rules

-- what the delivery of a message triggers: Got of its update's group
abbrev pub delivery_trigger : Plan → Message → Trigger
delivery_trigger plan m = trigger.Got (update_at plan m.group).group

-- whether federate j receives a message
abbrev pub is_receiver : Plan → Message → ℕ → Bool
is_receiver plan m j = receives plan m.sender m.group j

-- in time, and some federate receives it
abbrev pub is_regionally_transported : Plan → Message → Bool
is_regionally_transported plan m = nat_le m.time plan.end && list_any (is_receiver plan m) (range_with_len 0 (length plan.federates))

-- an Event for federate i that is transported, not delivered and not retracted
abbrev pub is_regional_pending : Plan → ℕ → List Message → List Message → Message → Bool
is_regional_pending plan i got sent m = is_event m.kind && is_regionally_transported plan m && is_receiver plan m i && not (list_any (is_same m) got) && not (list_any (retracts m) sent)

-- the pending Events of federate i, of those that were sent
abbrev pub regional_pending : Plan → ℕ → List Message → List Message → List Message
regional_pending plan i got sent = filter (is_regional_pending plan i got sent) sent

-- a pending message timed d or less
abbrev pub is_regional_due : Plan → ℕ → ℕ → List Message → List Message → Message → Bool
is_regional_due plan i d got sent m = nat_le m.time d && is_regional_pending plan i got sent m

-- those in the order of delivery
abbrev pub regional_due_messages : Plan → ℕ → ℕ → List Message → List Message → List Message
regional_due_messages plan i d got sent = in_order (filter (is_regional_due plan i d got sent) sent)

-- a federate whose start's rules have run, and that has made its first request
abbrev pub regional_seat_at_start : Plan → ℕ → Seat
regional_seat_at_start plan i =
    let s = regional_state_after plan i trigger.Start 0 0 (opening_state (planned_federate_at plan i)) in
    record { now = 0; request = request_at s.wish 0 plan.end; state = s; got = [] }

-- the start's rules of all federates have run, in the order of the federates
abbrev pub regional_world_at_start : Plan → World
regional_world_at_start plan =
    let seats = map (regional_seat_at_start plan) (range_with_len 0 (length plan.federates)) in
    record { seats = seats; messages = flat_map (λ (s : Seat). s.state.sends) seats; blocks = [] }

-- due time and number of each federate below the end
abbrev pub regional_waiting : Plan → List Message → ℕ → List Seat → List (ℕ × ℕ)
regional_waiting plan sent i [] = []
regional_waiting plan sent i (s ∷ ss) = if nat_lt s.now plan.end then (due_time s.request (regional_pending plan i s.got sent), i) ∷ regional_waiting plan sent (i + 1) ss else regional_waiting plan sent (i + 1) ss

-- the least pair of a due time and a federate below the end
abbrev pub regional_next_grant : Plan → World → Option (ℕ × ℕ)
regional_next_grant plan w = least_pair None (regional_waiting plan w.messages 0 w.seats)

-- the rules of the deliveries, in order
abbrev pub regional_after_deliveries : Plan → ℕ → ℕ → State → List Message → State
regional_after_deliveries plan i d s [] = s
regional_after_deliveries plan i d s (m ∷ ms) = regional_after_deliveries plan i d (regional_state_after plan i (delivery_trigger plan m) d m.value s) ms

-- and then those of the grant
abbrev pub regional_after_block : Plan → ℕ → ℕ → State → List Message → State
regional_after_block plan i d s due = regional_state_after plan i trigger.Grant d 0 (regional_after_deliveries plan i d s due)

-- federate i after a grant of d
abbrev pub regional_seat_after_grant : Plan → ℕ → ℕ → List Message → Seat → Seat
regional_seat_after_grant plan i d sent s =
    let due = regional_due_messages plan i d s.got sent in
    let after = regional_after_block plan i d s.state due in
    record { now = d; request = if nat_lt d plan.end then request_at after.wish d plan.end else s.request; state = after; got = s.got ++ due }

-- the world after the grant of the pair's time to its federate
abbrev pub regional_world_after_grant : Plan → World → ℕ × ℕ → World
regional_world_after_grant plan w g =
    let old = seat_at w g.1 in
    let new = regional_seat_after_grant plan g.1 g.0 w.messages old in
    record { seats = slice_set w.seats g.1 new; messages = w.messages ++ drop (length old.state.sends) new.state.sends; blocks = w.blocks ++ block g.1 g.0 (regional_due_messages plan g.1 g.0 old.got w.messages) ∷ [] }

-- the world after a grant, if there is one
abbrev pub regional_world_after_pair : Plan → World → Option (ℕ × ℕ) → World
regional_world_after_pair plan w None = w
regional_world_after_pair plan w (Some g) = regional_world_after_grant plan w g

-- one grant, while a federate stands below the end
abbrev pub regional_next_world : Plan → World → World
regional_next_world plan w = regional_world_after_pair plan w (regional_next_grant plan w)

-- the world after so many grants
abbrev pub regional_after_grants : Plan → ℕ → World → World
regional_after_grants plan zero w = w
regional_after_grants plan (suc n) w = regional_after_grants plan n (regional_next_world plan w)

-- as many grants as there can be
abbrev pub regional_simulation : Plan → World
regional_simulation plan = regional_after_grants plan (length plan.federates * plan.end) (regional_world_at_start plan)

-- the federate that takes number 16,385, the first to do so
abbrev pub regional_spender : Plan → Option ℕ
regional_spender plan = option_map (λ (m : Message). m.sender) (find is_spent (regional_simulation plan).messages)
