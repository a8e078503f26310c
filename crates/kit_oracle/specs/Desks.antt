-- A federate's desk: what the simulation keeps of it.
use Rattle.std.specs.Prelude.{ℕ, ◌+◌, nat_lt, if◌then◌else◌, List, [], ◌∷◌, length, drop, slice_index_or, slice_set}
use Rattle.kit_base.specs.declared.message.Message.{Message}
use Rattle.kit_base.specs.Order.{in_order}
use Rattle.kit_rules.specs.declared.table.Request.TheVariants as request
use Rattle.kit_rules.specs.declared.table.Wish.TheVariants as wish
use Rattle.kit_rules.specs.Parts.{Parts}
use Rattle.kit_rules.specs.Delivery.{is_transported, receivers_of, pending_messages, request_due}
use Rattle.kit_rules.specs.Simulation.{Seat, World, request_at, after_block}
use Rattle.kit_oracle.specs.declared.desk.Desk.{Desk}
use Rattle.kit_oracle.specs.Pending.{first_time, front_until, rest_after, queue_after_message}

-- due time and number of each federate below the end
abbrev pub waiting_at : ℕ → ℕ → List Desk → List (ℕ × ℕ)
waiting_at end i [] = []
waiting_at end i (d ∷ ds) = if nat_lt d.now end then (request_due d.request (first_time d.queue), i) ∷ waiting_at end (i + 1) ds else waiting_at end (i + 1) ds

-- federate i's desk after a grant of d, before its messages are posted
abbrev pub desk_after_turn : Parts → ℕ → ℕ → Desk → Desk
desk_after_turn p i d desk =
    let after = after_block p i d desk.state (front_until d desk.queue) in
    record { now = d; request = if nat_lt d p.end then request_at after.wish d p.end else desk.request; state = after; queue = rest_after d desk.queue }

-- those that a message reaches
abbrev pub receiver_mask : Parts → Message → ℕ
receiver_mask p m = if is_transported p m then receivers_of p m.sender m.group else 0

-- the desks, from number j on, after one more message
abbrev pub desks_after_message_from : ℕ → Message → ℕ → List Desk → List Desk
desks_after_message_from mask m j [] = []
desks_after_message_from mask m j (d ∷ ds) = record { now = d.now; request = d.request; state = d.state; queue = queue_after_message mask j m d.queue } ∷ desks_after_message_from mask m (j + 1) ds

-- the desks after these messages, one after another
abbrev pub desks_after_messages : Parts → List Message → List Desk → List Desk
desks_after_messages p [] ds = ds
desks_after_messages p (m ∷ ms) ds = desks_after_messages p ms (desks_after_message_from (receiver_mask p m) m 0 ds)

abbrev pub nobody_there : Desk
nobody_there = record { now = 0; request = request.Tar 0; state = record { vars = []; wish = wish.Tar 0; next = 1; sends = [] }; queue = [] }

abbrev pub desk_at : List Desk → ℕ → Desk
desk_at ds i = slice_index_or ds i nobody_there

-- the desk of the pair's federate after its grant
abbrev pub desk_after_turn_at : Parts → ℕ × ℕ → List Desk → Desk
desk_after_turn_at p g ds = desk_after_turn p g.1 g.0 (desk_at ds g.1)

-- the desks after the grant of the pair's time to its federate
abbrev pub desks_after_grant : Parts → ℕ × ℕ → List Desk → List Desk
desks_after_grant p g ds = desks_after_messages p (drop (length (desk_at ds g.1).state.sends) (desk_after_turn_at p g ds).state.sends) (slice_set ds g.1 (desk_after_turn_at p g ds))

-- what a desk shows of a seat: its messages that are pending, in order
abbrev pub desk_of_seat : Parts → List Message → ℕ → Seat → Desk
desk_of_seat p sent i s = record { now = s.now; request = s.request; state = s.state; queue = in_order (pending_messages p i s.got sent) }

abbrev pub desks_of_seats_from : Parts → List Message → ℕ → List Seat → List Desk
desks_of_seats_from p sent i [] = []
desks_of_seats_from p sent i (s ∷ ss) = desk_of_seat p sent i s ∷ desks_of_seats_from p sent (i + 1) ss

-- the desks of a world
abbrev pub desks_of : Parts → World → List Desk
desks_of p w = desks_of_seats_from p w.messages 0 w.seats
