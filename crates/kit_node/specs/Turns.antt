-- What a turn comes to: from the node and the seat's place before, n and p, to those after, n' and q.
use Rattle.std.specs.Prelude.{◌≡◌, ◌≢◌, ℕ, ◌+◌, ◌-◌, ◌<◌, ◌≤◌, ◌⊎◌, Bool, true, false, List, [], ◌∷◌, ◌++◌, length, take, drop, count_by, slice_index, Option, Some, None}
use Rattle.std.specs.Int.{bit_at}
use Rattle.kit_base.specs.declared.message.Message.{Message}
use Rattle.kit_ground.specs.declared.place.Deed.TheVariants.{SawStop}
use Rattle.kit_ground.specs.declared.place.Place.{Place}
use Rattle.kit_ground.specs.Steps.{place_after}
use Rattle.kit_lbts.specs.declared.view.LbtsView.{LbtsView}
use Rattle.kit_lbts.specs.Agreement.{blocks_in}
use Rattle.kit_lbts.specs.LedgerLaws.{ready_place}
use Rattle.kit_lbts.specs.Progress.{is_under_way, view_after}
use Rattle.kit_lbts.specs.Promises.{bound_of}
use Rattle.kit_lbts.specs.Seats.{waits_in}
use Rattle.kit_node.specs.declared.ends.NodeEnd.{NodeEnd}
use Rattle.kit_node.specs.declared.ends.NodeEnd.TheVariants as node_end
use Rattle.kit_node.specs.declared.ends.Turn.{Turn}
use Rattle.kit_node.specs.declared.ends.Turn.TheVariants as turn
use Rattle.kit_node.specs.declared.node.Node.{Node}
use Rattle.kit_node.specs.Ends.{answer_of, end_by}
use Rattle.kit_node.specs.Frames.{IsOther, IsSameSeat, last_stop}
use Rattle.kit_node.specs.Granting.{MayGrant}
use Rattle.kit_node.specs.Nodes.{SameBesidesTurns, turns_in}
use Rattle.kit_node.specs.Receiving.{IsCollected, IsSilent}
use Rattle.kit_node.specs.Reducing.{IsAwaited, ShowsReached}
use Rattle.kit_node.specs.Seats.{HasEndedBadly, IsBelowEnd, IsWithinEnd}
use Rattle.kit_node.specs.Sending.{HasSent, IsFull, IsHeldUp, copies_of_all}
use Rattle.kit_node.specs.Settling.{IsSettled}

abbrev Seat : Type 0
Seat = Place LbtsView

-- THE OUTBOX as a turn finds it, with what the start's rules send where they run in it
abbrev pub waiting : Seat → List Message
waiting p = (ready_place p).client.outbox

-- so many of the messages that waited were posted, in their order, each to all of its receivers
abbrev pub ArePosted : ℕ → Seat → Seat → Type 0
ArePosted count p q = q.client.posted ≡ p.client.posted ++ copies_of_all p.client p.own.federates (take count (waiting p))

-- the others wait: all own counts were found above 0, and some buffer has a message that is not timed after the federate's time
pub record StillWait (count : ℕ) (p q : Seat) : Type 0 where
  pub some : count < length (waiting p)
  pub left : q.client.outbox ≡ drop count (waiting p)
  pub full : IsFull p q
  pub hope : IsHeldUp q → ⊥

pub record SendsGoOn (p q : Seat) : Type 0 where
  pub count : ℕ
  pub posted : ArePosted count p q
  pub others : (count ≡ length (waiting p)) ⊎ StillWait count p q

-- GRANTS, as the journal has them
abbrev pub grants_of : Seat → ℕ
grants_of p = length (blocks_in p.own.number p.client)

-- exactly one was made, where nothing waited to be posted and the due time was below the known bound; and none elsewhere
abbrev pub GrantsGoOn : Seat → Seat → Type 0
GrantsGoOn p q = (grants_of q ≡ grants_of p + 1) ⊎ ((grants_of q ≡ grants_of p) × (MayGrant q.client → ⊥))

-- WHAT IS HELD: the buffers of the queue's entries that have one, and no other
abbrev pub HoldsItsEntries : Seat → Type 0
HoldsItsEntries q = (i k : ℕ) → i < q.own.federates → k < q.own.buffers → bit_at (slice_index q.own.stock.holds i) k ≡ count_by (waits_in i k) q.client.queue

-- A TURN THAT WENT THROUGH all of its parts
pub record HasGoneThrough (p q : Seat) : Type 0 where
  -- the start's rules have run
  pub start : q.client.request ≢ None
  -- each mail word of each other federate was collected once, and what was collected was received
  pub mail : (i : ℕ) → IsOther q i → IsCollected i p q
  pub received : (q.client.in_hand ≡ []) × (q.client.spent ≡ [])
  -- what waited in the outbox was posted, or the first that was not waits
  pub sends : SendsGoOn p q
  -- a round is under way, or was closed in this turn, or the bound is beyond the end
  pub rounds : (is_under_way q.client ≡ true) ⊎ (length p.client.results < length q.client.results) ⊎ (q.client.federation.end < bound_of q.client)
  -- where one is under way, its next register was looked at in this turn and did not show it
  pub looks : is_under_way q.client ≡ true → IsAwaited p q
  -- what is published from the registers that were taken in is shown
  pub slots : ShowsReached q
  -- what is timed below the bound has no buffer, and what is held is the queue's
  pub settled : IsSettled q.client
  pub held : HoldsItsEntries q
  pub grants : GrantsGoOn p q

-- IDLE: nothing but looks and empty collects was done
pub record IsIdle (p q : Seat) : Type 0 where
  pub started : p.client.request ≢ None
  pub mail : IsSilent q
  pub posts : q.client.posted ≡ p.client.posted
  pub contributions : q.client.contributions ≡ p.client.contributions
  pub taken : q.client.taken ≡ p.client.taken
  pub results : q.client.results ≡ p.client.results
  pub releases : q.own.stock.holds ≡ p.own.stock.holds
  pub grants : grants_of q ≡ grants_of p

-- STOPPED: this turn's look found the stop word set, and nothing else has changed
pub record IsStopped {Q R : Type 0} (n n' : Node Q R) (p q : Seat) : Type 0 where
  pub place : q ≡ place_after view_after (SawStop true) p
  pub node : SameBesidesTurns n n'

-- any other turn found it not set
pub record HasSeenNoStop (p q : Seat) : Type 0 where
  pub step : (last_stop q).step ≡ p.own.steps + 1
  pub gave : (last_stop q).gave ≡ false

-- PROGRESS, after a turn that answers Worked or Idle
pub record Progress (p q : Seat) : Type 0 where
  pub parts : HasGoneThrough p q
  pub unset : HasSeenNoStop p q
  pub early : IsBelowEnd q.client

-- AN END in this turn: its cause stands in the relation of the node and its seat; where a buffer was lacking, the counts were
-- looked at in this turn
abbrev pub LooksAtEnd : NodeEnd → Seat → Seat → Type 0
LooksAtEnd (node_end.NoBuffer number) p q = IsFull p q
LooksAtEnd node_end.Finished p q = HasGoneThrough p q
LooksAtEnd _ p q = Unit {0}

pub record EndsNow (end : NodeEnd) (p q : Seat) : Type 0 where
  pub unset : HasSeenNoStop p q
  pub looks : LooksAtEnd end p q

-- WHAT A TURN ANSWERS, of a node that had not ended
abbrev pub Answers : {Q R : Type 0} → Turn → Node Q R → Node Q R → Seat → Seat → Type 0
Answers turn.Worked n n' p q = Progress p q × (IsIdle p q → ⊥)
Answers turn.Idle n n' p q = Progress p q × IsIdle p q
Answers turn.Stopped n n' p q = IsStopped n n' p q
Answers turn.Finished n n' p q = EndsNow node_end.Finished p q
Answers (turn.NoBuffer number) n n' p q = EndsNow (node_end.NoBuffer number) p q
Answers turn.SendsSpent n n' p q = EndsNow node_end.SendsSpent p q
Answers turn.RoundsSpent n n' p q = EndsNow node_end.RoundsSpent p q
Answers turn.NoMemory n n' p q = EndsNow node_end.NoMemory p q

-- WHAT EVERY TURN LEAVES of a node that had not ended
pub record SameNode {Q R : Type 0} (n n' : Node Q R) : Type 0 where
  pub me : n'.me ≡ n.me
  pub limit : n'.rounds.limit ≡ n.rounds.limit
  pub turns : n'.turns ≡ n.turns
  pub ended : n'.ended ≡ n.ended

-- a turn of a node that had ended answers its end, and makes no step
pub record HadEnded {Q R : Type 0} (end : NodeEnd) (answer : Turn) (n n' : Node Q R) (p q : Seat) : Type 0 where
  pub answer_is : answer ≡ answer_of end
  pub node : SameBesidesTurns n n'
  pub place : q ≡ p

-- a turn of a node that had not: its answer has its cause, and ends the node where it is an end. It makes a step at least,
-- opens one round at most, sets no stop word, and leaves the limit of rounds
pub record HasTurned {Q R : Type 0} (answer : Turn) (n n' : Node Q R) (p q : Seat) : Type 0 where
  pub cause : Answers answer n n' p q
  pub ended : n'.ended ≡ end_by answer
  pub seat : IsSameSeat p q
  pub steps : p.own.steps < q.own.steps
  pub rounds : length q.client.contributions ≤ length p.client.contributions + 1
  pub me : n'.me ≡ n.me
  pub limit : n'.rounds.limit ≡ n.rounds.limit

-- WHAT A TURN COMES TO
abbrev pub TurnIs : {Q R : Type 0} → Option NodeEnd → Turn → Node Q R → Node Q R → Seat → Seat → Type 0
TurnIs (Some end) answer n n' p q = HadEnded end answer n n' p q
TurnIs None answer n n' p q = HasTurned answer n n' p q

-- and its entry in the list of turns: how many steps it made
abbrev pub IsListed : {Q R : Type 0} → Node Q R → Node Q R → Seat → Seat → Type 0
IsListed n n' p q = turns_in n' ≡ turns_in n ++ (q.own.steps - p.own.steps) ∷ []

-- THE OUTBOX was posted as far as it goes, and what waits may be posted later
pub record IsPosted (posted : Bool) (p q : Seat) : Type 0 where
  pub waits : Option ℕ
  pub sent : HasSent posted waits p q
  pub hope : IsHeldUp q → waits ≡ None

-- or it cannot be, and the message of this number is the first
pub record IsHeldUpBy (end : NodeEnd) (p q : Seat) : Type 0 where
  pub number : ℕ
  pub posted : Bool
  pub end_is : end ≡ node_end.NoBuffer number
  pub sent : HasSent posted (Some number) p q
  pub held_up : IsHeldUp q

-- STILL: nothing came, so what is held is as before, and so is the view once the start's rules have run
pub record IsStill (p q : Seat) : Type 0 where
  pub view : (ready_place q).client ≡ (ready_place p).client
  pub holds : q.own.stock.holds ≡ p.own.stock.holds

-- WHAT THE PARTS COME TO, after the look at the stop word, p: in all, and where one of them ends the node
pub record HasWorked (busy : Bool) (p q : Seat) : Type 0 where
  pub parts : HasGoneThrough p q
  pub seat : IsSameSeat p q
  pub stop : q.own.stop ≡ p.own.stop
  pub rounds : length q.client.contributions ≤ length p.client.contributions + 1
  pub within : IsWithinEnd q.client
  pub idle : busy ≡ false → IsIdle p q
  pub not_idle : busy ≡ true → IsIdle p q → ⊥

abbrev pub LooksAtBadEnd : NodeEnd → Seat → Seat → Type 0
LooksAtBadEnd (node_end.NoBuffer number) p q = IsFull p q
LooksAtBadEnd node_end.Finished p q = ⊥
LooksAtBadEnd _ p q = Unit {0}

pub record HasEndedBy {Q R : Type 0} (end : NodeEnd) (n' : Node Q R) (p q : Seat) : Type 0 where
  pub ended : HasEndedBadly end n' q
  pub looks : LooksAtBadEnd end p q
  pub seat : IsSameSeat p q
  pub stop : q.own.stop ≡ p.own.stop
  pub rounds : length q.client.contributions ≤ length p.client.contributions + 1
