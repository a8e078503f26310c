-- A federate by itself: what its blocks make of it, and which blocks it has in the simulation.
use Rattle.std.specs.Prelude.{◌≡◌, ℕ, ◌==◌, nat_lt, Bool, ◌&&◌, if◌then◌else◌, List, [], ◌∷◌, ◌++◌, length, take, filter, Option, Some, None, IfSome}
use Rattle.kit_base.specs.declared.message.Message.{Message}
use Rattle.kit_rules.specs.Parts.{Parts}
use Rattle.kit_rules.specs.Delivery.{is_transported, has_bit, receivers_of}
use Rattle.kit_rules.specs.Simulation.{Seat, Block, request_at, seat_at_start, after_block, simulation}
pub use Rattle.kit_rules.specs.Merging.{blocks_of, is_grant_of}

-- federate i after a block: a grant with its deliveries
abbrev pub seat_with : Parts → ℕ → Block → Seat → Seat
seat_with p i b s =
    let after = after_block p i b.time s.state b.delivered in
    record { now = b.time; request = if nat_lt b.time p.end then request_at after.wish b.time p.end else s.request; state = after; got = s.got ++ b.delivered }

-- and after blocks one after another
abbrev pub seat_from : Parts → ℕ → Seat → List Block → Seat
seat_from p i s [] = s
seat_from p i s (b ∷ bs) = seat_from p i (seat_with p i b s) bs

-- after its start's rules and these blocks
abbrev pub seat_after : Parts → ℕ → List Block → Seat
seat_after p i done = seat_from p i (seat_at_start p i) done

-- federate i's part of the simulation
abbrev pub part : Parts → ℕ → List Block
part p i = blocks_of i (simulation p).blocks

-- these blocks are the first of the part
abbrev pub IsFront : Parts → ℕ → List Block → Type 0
IsFront p i done = done ≡ take (length done) (part p i)

-- whether a message is transported to federate i
abbrev pub is_transported_to : Parts → ℕ → Message → Bool
is_transported_to p i m = is_transported p m && has_bit (receivers_of p m.sender m.group) i

-- whether federate j sent a message
abbrev pub is_by : ℕ → Message → Bool
is_by j m = m.sender == j

-- how far a federate is: its blocks, or None where its start's rules have not run; whether sends of it
-- wait, or it is in the midst of its start or of a grant; and what it received
pub record Standing : Type 0 where
  pub done : Option (List Block)
  pub waits : Bool
  pub received : List Message

-- its blocks are the first of the part, if it has started
abbrev pub AreFront : Parts → ℕ → Standing → Type 0
AreFront p i q = IfSome q.done (IsFront p i)

-- all that it has sent, transported or not
abbrev pub sends_after : Parts → ℕ → Option (List Block) → List Message
sends_after p i None = []
sends_after p i (Some done) = (seat_after p i done).state.sends

abbrev pub sent_by : Parts → ℕ → Standing → List Message
sent_by p i q = sends_after p i q.done
