-- The sequential simulation.
use Rattle.std.specs.Prelude.{ℕ, zero, suc, ◌+◌, ◌*◌, ◌==◌, nat_lt, min, Bool, ◌&&◌, ◌||◌, if◌then◌else◌, List, [], ◌∷◌, ◌++◌, length, map, drop, slice_index_or, slice_set, Option, Some, None, find}
use Rattle.std.specs.Option.{option_map}
use Rattle.std.specs.List.{range_with_len, flat_map}
use Rattle.kit_base.specs.declared.message.Message.{Message}
use Rattle.kit_base.specs.declared.history.Line.{Line}
use Rattle.kit_base.specs.declared.history.Line.TheVariants as line
use Rattle.kit_rules.specs.declared.table.Wish.{Wish}
use Rattle.kit_rules.specs.declared.table.Wish.TheVariants as wish
use Rattle.kit_rules.specs.declared.table.Trigger.TheVariants as trigger
use Rattle.kit_rules.specs.declared.table.Request.{Request}
use Rattle.kit_rules.specs.declared.table.Request.TheVariants as request
use Rattle.kit_rules.specs.Parts.{Parts, federate_at}
use Rattle.kit_rules.specs.declared.scene.State.{State}
use Rattle.kit_rules.specs.Step.{state_after, opening_state}
use Rattle.kit_rules.specs.Delivery.{pending_messages, due_messages, due_time}

-- a federate in the simulation: its time, its request, its state, and what was delivered to it
pub record Seat : Type 0 where
  pub now : ℕ
  pub request : Request
  pub state : State
  pub got : List Message

-- one grant: what was delivered with it, in order
pub record Block : Type 0 where
  pub time : ℕ
  pub federate : ℕ
  pub delivered : List Message

-- all federates, all messages sent so far in the order of sending, and the grants so far
pub record World : Type 0 where
  pub seats : List Seat
  pub messages : List Message
  pub blocks : List Block

-- a world of these parts
abbrev pub world : List Seat → List Message → List Block → World
world seats messages blocks = record { seats = seats; messages = messages; blocks = blocks }

-- the request that is made at a time
abbrev pub request_at : Wish → ℕ → ℕ → Request
request_at (wish.Tar step) now end = request.Tar (min (now + step) end)
request_at (wish.Ner step) now end = request.Ner (min (now + step) end)

-- a federate whose start's rules have run, and that has made its first request
abbrev pub seat_at_start : Parts → ℕ → Seat
seat_at_start p i =
    let s = state_after p i trigger.Start 0 0 (opening_state (federate_at p i)) in
    record { now = 0; request = request_at s.wish 0 p.end; state = s; got = [] }

-- the start's rules of all federates have run, in the order of the federates
abbrev pub world_at_start : Parts → World
world_at_start p =
    let seats = map (seat_at_start p) (range_with_len 0 (length p.federates)) in
    record { seats = seats; messages = flat_map (λ (s : Seat). s.state.sends) seats; blocks = [] }

-- the due time of a federate
abbrev pub seat_due : Parts → List Message → ℕ → Seat → ℕ
seat_due p sent i s = due_time s.request (pending_messages p i s.got sent)

-- due time and number of each federate below the end
abbrev pub waiting_from : Parts → List Message → ℕ → List Seat → List (ℕ × ℕ)
waiting_from p sent i [] = []
waiting_from p sent i (s ∷ ss) = if nat_lt s.now p.end then (seat_due p sent i s, i) ∷ waiting_from p sent (i + 1) ss else waiting_from p sent (i + 1) ss

-- whether a pair of due time and federate is less than another
abbrev pub is_sooner : ℕ × ℕ → ℕ × ℕ → Bool
is_sooner a b = nat_lt a.0 b.0 || (a.0 == b.0 && nat_lt a.1 b.1)

-- the less of two pairs
abbrev pub sooner_pair : Option (ℕ × ℕ) → ℕ × ℕ → ℕ × ℕ
sooner_pair None b = b
sooner_pair (Some a) b = if is_sooner b a then b else a

-- the least of the pairs and one that is known
abbrev pub least_pair : Option (ℕ × ℕ) → List (ℕ × ℕ) → Option (ℕ × ℕ)
least_pair best [] = best
least_pair best (x ∷ xs) = least_pair (Some (sooner_pair best x)) xs

-- the least pair of a due time and a federate below the end
abbrev pub next_grant : Parts → World → Option (ℕ × ℕ)
next_grant p w = least_pair None (waiting_from p w.messages 0 w.seats)

-- the rules of the deliveries, in order
abbrev pub after_deliveries : Parts → ℕ → ℕ → State → List Message → State
after_deliveries p i d s [] = s
after_deliveries p i d s (m ∷ ms) = after_deliveries p i d (state_after p i (trigger.Got m.group) d m.value s) ms

-- and then those of the grant
abbrev pub after_block : Parts → ℕ → ℕ → State → List Message → State
after_block p i d s due = state_after p i trigger.Grant d 0 (after_deliveries p i d s due)

-- federate i after a grant of d
abbrev pub seat_after_grant : Parts → ℕ → ℕ → List Message → Seat → Seat
seat_after_grant p i d sent s =
    let due = due_messages p i d s.got sent in
    let after = after_block p i d s.state due in
    record { now = d; request = if nat_lt d p.end then request_at after.wish d p.end else s.request; state = after; got = s.got ++ due }

-- the lines of a grant: its deliveries, and then itself
abbrev pub block_lines : Block → List Line
block_lines b = map (line.Deliver b.time b.federate) b.delivered ++ line.Grant b.time b.federate ∷ []

-- the lines of the grants, in order
abbrev pub lines_of : List Block → List Line
lines_of blocks = flat_map block_lines blocks

-- the grant of d to federate i, with these messages
abbrev pub block : ℕ → ℕ → List Message → Block
block i d due = record { time = d; federate = i; delivered = due }

-- what stands for a federate past the last
abbrev pub nobody_seated : Seat
nobody_seated = record { now = 0; request = request.Tar 0; state = record { vars = []; wish = wish.Tar 0; next = 1; sends = [] }; got = [] }

-- the federate of a number in the simulation
abbrev pub seat_at : World → ℕ → Seat
seat_at w i = slice_index_or w.seats i nobody_seated

-- the federate of a pair after its grant
abbrev pub seat_after_pair : Parts → World → ℕ × ℕ → Seat
seat_after_pair p w g = seat_after_grant p g.1 g.0 w.messages (seat_at w g.1)

-- the world after the grant of the pair's time to its federate
abbrev pub world_after_grant : Parts → World → ℕ × ℕ → World
world_after_grant p w g =
    let old = seat_at w g.1 in
    let new = seat_after_pair p w g in
    record { seats = slice_set w.seats g.1 new; messages = w.messages ++ drop (length old.state.sends) new.state.sends; blocks = w.blocks ++ block g.1 g.0 (due_messages p g.1 g.0 old.got w.messages) ∷ [] }

-- the world after a grant, if there is one
abbrev pub world_after_pair : Parts → World → Option (ℕ × ℕ) → World
world_after_pair p w None = w
world_after_pair p w (Some g) = world_after_grant p w g

-- one grant, while a federate stands below the end
abbrev pub next_world : Parts → World → World
next_world p w = world_after_pair p w (next_grant p w)

-- the world after so many grants
abbrev pub after_grants : Parts → ℕ → World → World
after_grants p zero w = w
after_grants p (suc n) w = after_grants p n (next_world p w)

-- as many grants as there can be
abbrev pub simulation : Parts → World
simulation p = after_grants p (length p.federates * p.end) (world_at_start p)

-- the closing variables of each federate
abbrev pub closing_vars : World → List (List ℕ)
closing_vars w = map (λ (s : Seat). s.state.vars) w.seats

-- a message that takes number 16,385
abbrev pub is_spent : Message → Bool
is_spent m = m.number == 16385

-- the federate that takes number 16,385, the first to do so
abbrev pub spender : Parts → Option ℕ
spender p = option_map (λ (m : Message). m.sender) (find is_spent (simulation p).messages)

-- the same, of those that do so at the start
abbrev pub start_spender : Parts → Option ℕ
start_spender p = option_map (λ (m : Message). m.sender) (find is_spent (world_at_start p).messages)
