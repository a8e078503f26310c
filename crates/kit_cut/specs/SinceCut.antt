-- The desks of a simulation that goes on from a cut.
use Rattle.std.specs.Prelude.{ℕ, ◌+◌, ◌<◌, ◌==◌, All, slice_index, ◌&&◌, Bool, if◌then◌else◌, List, [], ◌∷◌, length, drop, slice_set, unwrap_or}
use Rattle.kit_base.specs.declared.message.Message.{Message}
use Rattle.kit_rules.specs.declared.table.Request.TheVariants as request
use Rattle.kit_rules.specs.Parts.{Parts}
use Rattle.kit_rules.specs.Step.{is_event}
use Rattle.kit_rules.specs.Delivery.{has_bit}
use Rattle.kit_rules.specs.Own.{restored_state}
use Rattle.kit_rules.specs.Simulation.{Seat, World}
use Rattle.kit_oracle.specs.declared.desk.Desk.{Desk}
use Rattle.kit_oracle.specs.Pending.{queue_with, without_key}
use Rattle.kit_oracle.specs.Desks.{receiver_mask, desk_at, desk_after_turn_at, desk_of_seat}
use Rattle.kit_cut.specs.declared.cut.Standing.{Standing}
use Rattle.kit_cut.specs.declared.cut.Cut.{Cut}
use Rattle.kit_cut.specs.ValidCuts.{standing_at}
use Rattle.kit_cut.specs.Resuming.{since_cut}

-- federate i's desk as a cut has it
abbrev pub desk_restored : ℕ → ℕ → Standing → Desk
desk_restored i next s = record { now = s.now; request = unwrap_or s.request (request.Tar 0); state = restored_state i s.vars s.wish next s.own; queue = s.pending }

-- and those of the federates from number i on
abbrev pub desks_restored : ℕ → List ℕ → List Standing → List Desk
desks_restored i (n ∷ ns) (s ∷ ss) = desk_restored i n s ∷ desks_restored (i + 1) ns ss
desks_restored i _ _ = []

-- what the desks show of seats since a cut, from number i on
abbrev pub desks_since : Parts → Cut → List Message → ℕ → List Seat → List Desk
desks_since p c sent i [] = []
desks_since p c sent i (s ∷ ss) = desk_of_seat p (since_cut c i sent) i s ∷ desks_since p c sent (i + 1) ss

-- the desks of a world since a cut
abbrev pub desks_of_world_since : Parts → Cut → World → List Desk
desks_of_world_since p c w = desks_since p c w.messages 0 w.seats

-- what is pending at a cut has numbers below its senders' next
abbrev pub AreBelowNext : Cut → Type 0
AreBelowNext c = (j : ℕ) → All (λ (m : Message). m.number < slice_index c.next m.sender) (standing_at c j).pending

-- whether a Retraction names a message, whatever its time
abbrev pub is_named : Message → Message → Bool
is_named r m = m.sender == r.sender && m.number == r.value

-- the time of the message that a Retraction names among these, or its own time
abbrev pub named_time : List Message → Message → ℕ
named_time [] r = r.time
named_time (m ∷ ms) r = if is_named r m then m.time else named_time ms r

-- the queue of federate j, for which these were pending at the cut, after one more message was sent to these members
abbrev pub queue_after_since : ℕ → ℕ → List Message → Message → List Message → List Message
queue_after_since mask j pending m q = if is_event m.kind then (if has_bit mask j then queue_with m q else q) else without_key (named_time pending m) m.sender m.value q

-- the desks, from number j on, after one more message
abbrev pub desks_after_message_since : Cut → ℕ → Message → ℕ → List Desk → List Desk
desks_after_message_since c mask m j [] = []
desks_after_message_since c mask m j (d ∷ ds) =
    record { now = d.now; request = d.request; state = d.state; queue = queue_after_since mask j (standing_at c j).pending m d.queue } ∷ desks_after_message_since c mask m (j + 1) ds

-- the desks after these messages, one after another
abbrev pub desks_after_messages_since : Parts → Cut → List Message → List Desk → List Desk
desks_after_messages_since p c [] ds = ds
desks_after_messages_since p c (m ∷ ms) ds = desks_after_messages_since p c ms (desks_after_message_since c (receiver_mask p m) m 0 ds)

-- the desks after the grant of the pair's time to its federate
abbrev pub desks_after_grant_since : Parts → Cut → ℕ × ℕ → List Desk → List Desk
desks_after_grant_since p c g ds = desks_after_messages_since p c (drop (length (desk_at ds g.1).state.sends) (desk_after_turn_at p g ds).state.sends) (slice_set ds g.1 (desk_after_turn_at p g ds))
