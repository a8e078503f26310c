-- What contracts see of a node and of its report.
use Rattle.std.specs.Prelude.{◌≡◌, ℕ, List, [], Option, None}
use Rattle.kit_ground.specs.declared.place.Place.{Place}
use Rattle.kit_ground.specs.Rules.{own_at_first}
use Rattle.kit_model.specs.declared.journal.Journal.{Journal}
use Rattle.kit_rules.specs.Parts.{Parts}
use Rattle.kit_lbts.specs.declared.lbts.Opening.{Opening}
use Rattle.kit_lbts.specs.declared.view.LbtsView.{LbtsView}
use Rattle.kit_lbts.specs.Progress.{lbts_first}
use Rattle.kit_lbts.specs.SeatLaws.{IsInWorld}
use Rattle.kit_node.specs.declared.ends.NodeEnd.{NodeEnd}
use Rattle.kit_node.specs.declared.node.Node.{Node}
use Rattle.kit_node.specs.declared.node.NodeReport.{NodeReport}
use Rattle.kit_node.specs.Mirrors.{Shown}
use Rattle.kit_node.specs.Seats.{IsSeatOf}

abbrev pub number_of : {Q R : Type 0} → Node Q R → ℕ
number_of n = n.me

abbrev pub logical_time : {Q R : Type 0} → Node Q R → ℕ
logical_time n = n.course.now

abbrev pub known_bound : {Q R : Type 0} → Node Q R → ℕ
known_bound n = n.rounds.bound

abbrev pub rounds_in : {Q R : Type 0} → Node Q R → ℕ
rounds_in n = n.rounds.taken

abbrev pub most_rounds : {Q R : Type 0} → Node Q R → ℕ
most_rounds n = n.rounds.limit

abbrev pub journal_in : {Q R : Type 0} → Node Q R → Journal
journal_in n = n.journal

abbrev pub end_in : {Q R : Type 0} → Node Q R → Option NodeEnd
end_in n = n.ended

abbrev pub turns_in : {Q R : Type 0} → Node Q R → List ℕ
turns_in n = n.turns.value

-- of a node only its list of turns was changed
pub record SameBesidesTurns {Q R : Type 0} (n n' : Node Q R) : Type 0 where
  pub others : n' ≡ record n { turns = n'.turns }

-- the place of a federate on a new floor for these parts, before any step
pub record IsFirstPlace (o : Opening) (federate : ℕ) (p : Place LbtsView) : Type 0 where
  pub own : p.own ≡ own_at_first p.own.federates p.own.buffers federate
  pub client : p.client ≡ lbts_first o federate
  pub world : IsInWorld p

-- a node before its first turn: it has had none, and stands for its federate's place on a new floor
pub record BeginsAs {Q R : Type 0} (sh : Shown Q R) (federation : Parts) (federate rounds : ℕ) (n : Node Q R) : Type 0 where
  pub me : number_of n ≡ federate
  pub ended : end_in n ≡ None
  pub turns : turns_in n ≡ []
  pub limit : most_rounds n ≡ rounds
  pub seat : (o : Opening) (p : Place LbtsView) → o.federation.value ≡ federation → o.scheme ≡ sh.scheme → IsFirstPlace o federate p → IsSeatOf sh federation n p

-- the report of a node
pub record IsReported {Q R : Type 0} (n : Node Q R) (r : NodeReport) : Type 0 where
  pub journal : r.journal ≡ n.journal
  pub vars : r.vars ≡ n.course.state.vars
  pub bound : r.bound ≡ known_bound n
  pub rounds : r.rounds ≡ rounds_in n
  pub turns : r.turns ≡ n.turns
  pub ended : r.ended ≡ end_in n
