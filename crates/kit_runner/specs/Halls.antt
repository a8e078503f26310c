-- Nodes with their seats, and the floor that all stand on.
use Rattle.std.specs.Prelude.{◌≡◌, ℕ, ◌<◌, ◌≤◌, Bool, true, false, List, [], length, vec_capacity, Option, None, Some}
use Rattle.std.specs.Box.{box_value}
use Rattle.std.specs.List.{range_with_len}
use mathlib.Core.Option.{some}
use lib.ListN.{get_elem?}
use Rattle.kit_rules.specs.Parts.{Parts}
use Rattle.kit_ground.specs.declared.place.Deed.TheVariants.{Stopped}
use Rattle.kit_ground.specs.Steps.{place_after}
use Rattle.kit_floor.specs.declared.floor.TableFloor.{TableFloor}
use Rattle.kit_floor.specs.FloorViews.{CanStand, IsNewSeatOf, buffers_of, federates_of, opening_of, place_of}
use Rattle.kit_ground.specs.declared.ground.Protocol.{Ghosts}
use Rattle.kit_pool.specs.declared.seat.TableSeat.{TableSeat}
use Rattle.kit_lbts.specs.declared.view.Scheme.TheVariants as scheme
use Rattle.kit_lbts.specs.declared.lbts.Lbts.{Lbts}
use Rattle.kit_lbts.specs.declared.lbts.Opening.{Opening}
use Rattle.kit_lbts.specs.declared.view.LbtsView.{LbtsView}
use Rattle.kit_lbts.specs.Progress.{lbts_first, view_after}
use Rattle.kit_node.specs.declared.ends.Turn.{Turn}
use Rattle.kit_node.specs.Frames.{last_stop}
use Rattle.kit_node.specs.Nodes as nodes
use Rattle.kit_node.specs.Nodes.{end_in, number_of}
use Rattle.kit_node.specs.Seats.{IsSeatOf}
use Rattle.kit_node.specs.Turns.{TurnIs}
use Rattle.kit_replay.specs.Stages.{QueueNode, shown}
use Rattle.kit_runner.specs.declared.hall.Player.{Player}
use Rattle.kit_runner.specs.declared.runs.Ready.{Ready}
use Rattle.kit_runner.specs.Ends.{is_bad_answer}
use Rattle.kit_runner.specs.Runs.{Seat, most_rounds}

abbrev pub SharedFloor : Type 0
SharedFloor = TableFloor Lbts LbtsView Opening

-- one run: its floor and its federation
pub record RunName : Type 0 where
  pub floor : SharedFloor
  pub federation : Parts

-- the node of a player, and its federate's place on the floor
abbrev pub node_in : Player → QueueNode
node_in x = box_value x.node

abbrev pub place_on_floor : SharedFloor → Player → Seat
place_on_floor floor x = place_of lbts_first floor x.seat

-- A PLAYER of a run: its seat is of the floor, and its node is of that seat. Where it has ended by no end of its node,
-- the node saw that the run is to stop
pub record IsPlayerOf (run : RunName) (x : Player) : Type 0 where
  pub stands : CanStand run.floor x.seat
  pub number : number_of (node_in x) ≡ x.seat.number
  pub seat : IsSeatOf shown run.federation (node_in x) (place_on_floor run.floor x)
  pub limit : nodes.most_rounds (node_in x) ≡ most_rounds
  pub goes_on : x.has_ended ≡ false → end_in (node_in x) ≡ None
  pub stopped : x.has_ended ≡ true → end_in (node_in x) ≡ None → (last_stop (place_on_floor run.floor x)).gave ≡ true

-- whichever run this is
abbrev pub FitsRun : Option RunName → Player → Type 0
FitsRun None x = ⊥
FitsRun (Some run) x = IsPlayerOf run x

abbrev pub number_in : Player → ℕ
number_in x = x.seat.number

-- A TURN OF A NODE with its seat: where its answer ends the node badly, a step that sets the stop word follows it
abbrev pub place_then : Bool → Seat → Seat
place_then true q = place_after view_after Stopped q
place_then false q = q

pub record HasPlayed (p : Parts) (answer : Turn) (n n' : QueueNode) (before after : Seat) : Type 0 where
  pub after_turn : Seat
  pub seat : IsSeatOf shown p n' after_turn
  pub turn : TurnIs n.ended answer n n' before after_turn
  pub place : after ≡ place_then (is_bad_answer answer) after_turn

-- the numbers of the federates of a run
abbrev pub numbers_of : Option RunName → List ℕ
numbers_of None = []
numbers_of (Some run) = range_with_len 0 (length run.federation.federates)

-- THE BEGINNING of a run: its floor is new, for this federation, with its seats in the order of the federates
pub record IsNewHall {g : Ghosts Lbts LbtsView Opening} (p : Parts) (floor : SharedFloor) (seats : List (TableSeat Lbts LbtsView Opening g)) : Type 0 where
  pub federates : federates_of floor ≡ length p.federates
  pub buffers : buffers_of floor ≡ p.buffers
  pub federation : (opening_of floor).federation.value ≡ p
  pub scheme : (opening_of floor).scheme ≡ scheme.Butterfly
  pub many : length seats ≡ length p.federates
  pub each : (k : ℕ) (s : TableSeat Lbts LbtsView Opening g) → get_elem? seats k ≡ some s → IsNewSeatOf lbts_first floor k s

abbrev pub run_on : SharedFloor → Parts → RunName
run_on floor p = record { floor = floor; federation = p }

-- the player of federate k, before its first turn
pub record IsNewPlayer (run : RunName) (k : ℕ) (x : Player) : Type 0 where
  pub player : IsPlayerOf run x
  pub number : number_in x ≡ k
  pub new : x.has_ended ≡ false

-- a floor with a player for each federate, and room for all that comes back
pub record IsReady (p : Parts) (r : Ready) : Type 0 where
  pub federates : federates_of r.floor ≡ length p.federates
  pub buffers : buffers_of r.floor ≡ p.buffers
  pub nonempty : 0 < length p.federates
  pub many : length r.players.items ≡ length p.federates
  pub each : (k : ℕ) (x : Player) → get_elem? r.players.items k ≡ some x → IsNewPlayer (run_on r.floor p) k x
  pub no_seats : r.seats.items ≡ []
  pub no_reports : r.reports.items ≡ []
  pub seats : length p.federates ≤ vec_capacity r.seats
  pub reports : length p.federates ≤ vec_capacity r.reports

-- THE END of a run: the player of each federate has come back, and has ended
pub record HasComeBack (run : RunName) (k : ℕ) (x : Player) : Type 0 where
  pub player : IsPlayerOf run x
  pub number : number_in x ≡ k
  pub ended : x.has_ended ≡ true

pub record HaveEnded (p : Parts) (floor : SharedFloor) (players : List Player) : Type 0 where
  pub federates : federates_of floor ≡ length p.federates
  pub buffers : buffers_of floor ≡ p.buffers
  pub many : length players ≡ length p.federates
  pub each : (k : ℕ) (x : Player) → get_elem? players k ≡ some x → HasComeBack (run_on floor p) k x
