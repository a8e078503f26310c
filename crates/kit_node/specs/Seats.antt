-- That a node and a seat belong together, between two turns: what each node shows of its seat's place, and, where it has ended,
-- why. These are facts of state, which later turns leave.
use Rattle.std.specs.Prelude.{◌≡◌, ◌≢◌, ℕ, ◌<◌, ◌≤◌, ◌⊎◌, true, false, [], length, slice_index, Option, Some, None}
use Rattle.std.specs.Int.{bit_at}
use Rattle.kit_ground.specs.declared.place.Place.{Place}
use Rattle.kit_rules.specs.Parts.{Parts}
use Rattle.kit_lbts.specs.declared.view.LbtsView.{LbtsView}
use Rattle.kit_lbts.specs.AgreementLaws.{IsComplete}
use Rattle.kit_lbts.specs.Progress.{is_under_way}
use Rattle.kit_lbts.specs.Promises.{bound_of}
use Rattle.kit_lbts.specs.PublishLaws.{ShowsLast}
use Rattle.kit_lbts.specs.Views.{time_of}
use Rattle.kit_lbts.specs.SeatLaws.{IsInWorld}
use Rattle.kit_node.specs.declared.ends.NodeEnd.{NodeEnd}
use Rattle.kit_node.specs.declared.ends.NodeEnd.TheVariants as node_end
use Rattle.kit_node.specs.declared.node.Node.{Node}
use Rattle.kit_node.specs.Frames.{last_count}
use Rattle.kit_node.specs.Granting.{SpendsAtGrant, SpendsAtStart}
use Rattle.kit_node.specs.Mirrors.{IsCalm, IsReportOf, Mirrors, Shown}
use Rattle.kit_node.specs.Reducing.{HasSpentRounds}
use Rattle.kit_node.specs.Sending.{IsHeldUp, first_waiting}

abbrev Seat : Type 0
Seat = Place LbtsView

-- the federate has not been granted the end
abbrev pub IsBelowEnd : LbtsView → Type 0
IsBelowEnd v = time_of v < v.federation.end

-- a round is under way only where the bound is not beyond the end
abbrev pub IsWithinEnd : LbtsView → Type 0
IsWithinEnd v = is_under_way v ≡ true → bound_of v ≤ v.federation.end

-- FINISHED: it was granted the end and has made its whole part of the simulation; nothing is to be posted, no buffer is held,
-- no round is under way, and all own slots of the last round show it
pub record HasFinished (p : Seat) : Type 0 where
  pub started : p.client.request ≢ None
  pub granted : time_of p.client ≡ p.client.federation.end
  pub complete : IsComplete p.own.number p.client
  pub sent : p.client.outbox ≡ []
  pub free : (i k : ℕ) → i < p.own.federates → k < p.own.buffers → bit_at (slice_index p.own.stock.holds i) k ≡ 0
  pub closed : length p.client.contributions ≡ length p.client.results
  pub shows : ShowsLast p

-- NO BUFFER for the message of this number, the first that waits: no own count was 0 when it was last looked at, and each
-- buffer has a message that is timed after the federate's time
pub record LacksBuffer (number : ℕ) (p : Seat) : Type 0 where
  pub started : p.client.request ≢ None
  pub waits : p.client.outbox ≢ []
  pub first : (first_waiting p).number ≡ number
  pub full : (k : ℕ) → k < p.own.buffers → (last_count p k).gave ≡ false
  pub held_up : IsHeldUp p

-- SENDS SPENT: the rules of the start, or of the grant that is due, would take number 16,385
abbrev pub SpendsNumbers : Seat → Type 0
SpendsNumbers p = SpendsAtStart p ⊎ SpendsAtGrant p

-- why a node ended, with its limit of rounds
abbrev pub Cause : ℕ → NodeEnd → Seat → Type 0
Cause limit node_end.Finished p = HasFinished p
Cause limit (node_end.NoBuffer number) p = LacksBuffer number p
Cause limit node_end.SendsSpent p = SpendsNumbers p
Cause limit node_end.RoundsSpent p = HasSpentRounds limit p
Cause limit node_end.NoMemory p = Unit {0}

-- a node that ended badly: its report is told, its cause stands, no copy is left unread and no message half posted
pub record HasEndedBadly {Q R : Type 0} (end : NodeEnd) (n : Node Q R) (p : Seat) : Type 0 where
  pub report : IsReportOf n p
  pub calm : IsCalm p.client
  pub early : IsBelowEnd p.client
  pub cause : Cause n.rounds.limit end p

-- one that was granted the end, and one that goes on
pub record HasEndedWell {Q R : Type 0} (sh : Shown Q R) (n : Node Q R) (p : Seat) : Type 0 where
  pub mirrors : Mirrors sh n p
  pub cause : HasFinished p

pub record GoesOn {Q R : Type 0} (sh : Shown Q R) (n : Node Q R) (p : Seat) : Type 0 where
  pub mirrors : Mirrors sh n p
  pub early : IsBelowEnd p.client
  pub within : IsWithinEnd p.client

abbrev pub IsNodeOf : {Q R : Type 0} → Shown Q R → Option NodeEnd → Node Q R → Seat → Type 0
IsNodeOf sh None n p = GoesOn sh n p
IsNodeOf sh (Some node_end.Finished) n p = HasEndedWell sh n p
IsNodeOf sh (Some end) n p = HasEndedBadly end n p

-- THE NODE AND ITS SEAT: it is the seat of this federation's federate, whichever turns it had
pub record IsSeatOf {Q R : Type 0} (sh : Shown Q R) (federation : Parts) (n : Node Q R) (p : Seat) : Type 0 where
  pub world : IsInWorld p
  pub federation_is : p.client.federation ≡ federation
  pub node : IsNodeOf sh n.ended n p
