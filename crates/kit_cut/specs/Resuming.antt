-- The simulation that goes on from a cut: the sequential simulation, begun in the cut's state.
use Rattle.std.specs.Prelude.{ℕ, zero, suc, ◌+◌, ◌*◌, nat_lt, if◌then◌else◌, List, [], ◌∷◌, ◌++◌, length, drop, find, slice_set, Option, Some, None, unwrap_or}
use Rattle.std.specs.Option.{option_map}
use Rattle.kit_base.specs.declared.message.Message.{Message}
use Rattle.kit_rules.specs.declared.table.Request.TheVariants as request
use Rattle.kit_rules.specs.Parts.{Parts}
use Rattle.kit_rules.specs.Delivery.{due_messages}
use Rattle.kit_rules.specs.Simulation.{Seat, World, world, block, least_pair, is_spent, seat_due, seat_at, seat_after_grant}
use Rattle.kit_rules.specs.Own.{restored_state}
use Rattle.kit_cut.specs.declared.cut.Standing.{Standing}
use Rattle.kit_cut.specs.declared.cut.Cut.{Cut}
use Rattle.kit_cut.specs.ValidCuts.{standing_at}

-- what may reach federate i: the messages that were pending for it at the cut, and those that were sent since
abbrev pub since_cut : Cut → ℕ → List Message → List Message
since_cut c i sent = (standing_at c i).pending ++ sent

-- federate i as a cut has it; nothing was delivered to it since
abbrev pub seat_restored : ℕ → ℕ → Standing → Seat
seat_restored i next s = record { now = s.now; request = unwrap_or s.request (request.Tar 0); state = restored_state i s.vars s.wish next s.own; got = [] }

-- the federates from number i on
abbrev pub seats_restored : ℕ → List ℕ → List Standing → List Seat
seats_restored i (n ∷ ns) (s ∷ ss) = seat_restored i n s ∷ seats_restored (i + 1) ns ss
seats_restored i _ _ = []

-- the world as a cut has it: nothing was sent since, and nothing granted
abbrev pub world_restored : Cut → World
world_restored c = world (seats_restored 0 c.next c.federates) [] []

-- due time and number of each federate below the end
abbrev pub waiting_since : Parts → Cut → List Message → ℕ → List Seat → List (ℕ × ℕ)
waiting_since p c sent i [] = []
waiting_since p c sent i (s ∷ ss) = if nat_lt s.now p.end then (seat_due p (since_cut c i sent) i s, i) ∷ waiting_since p c sent (i + 1) ss else waiting_since p c sent (i + 1) ss

-- the least pair of a due time and a federate below the end
abbrev pub next_since : Parts → Cut → World → Option (ℕ × ℕ)
next_since p c w = least_pair None (waiting_since p c w.messages 0 w.seats)

-- the federate of a pair after its grant
abbrev pub seat_after_since : Parts → Cut → World → ℕ × ℕ → Seat
seat_after_since p c w g = seat_after_grant p g.1 g.0 (since_cut c g.1 w.messages) (seat_at w g.1)

-- the world after the grant of the pair's time to its federate
abbrev pub world_after_since : Parts → Cut → World → ℕ × ℕ → World
world_after_since p c w g =
    let old = seat_at w g.1 in
    let new = seat_after_since p c w g in
    world (slice_set w.seats g.1 new) (w.messages ++ drop (length old.state.sends) new.state.sends) (w.blocks ++ block g.1 g.0 (due_messages p g.1 g.0 old.got (since_cut c g.1 w.messages)) ∷ [])

-- the world after a grant, if there is one
abbrev pub world_after_pair_since : Parts → Cut → World → Option (ℕ × ℕ) → World
world_after_pair_since p c w None = w
world_after_pair_since p c w (Some g) = world_after_since p c w g

-- the world after so many grants
abbrev pub after_grants_since : Parts → Cut → ℕ → World → World
after_grants_since p c zero w = w
after_grants_since p c (suc n) w = after_grants_since p c n (world_after_pair_since p c w (next_since p c w))

-- the simulation that goes on from a cut, to the end; its messages and grants are those since the cut
abbrev pub resumed : Parts → Cut → World
resumed p c = after_grants_since p c (length p.federates * p.end) (world_restored c)

-- the federate that takes number 16,385 after a cut, the first to do so
abbrev pub resumed_spender : Parts → Cut → Option ℕ
resumed_spender p c = option_map (λ (m : Message). m.sender) (find is_spent (resumed p c).messages)
