-- A plain floor with the nodes of a run, between two turns: the value of the lock.
use Rattle.std.specs.Prelude.{◌≡◌, ◌≢◌, ℕ, ◌≤◌, true, false, List, [], length, vec_capacity, Option, None, Some}
use mathlib.Core.Option.{some}
use lib.ListN.{get_elem?}
use Rattle.kit_rules.specs.Parts.{Parts}
use Rattle.kit_lbts.specs.declared.view.Scheme.TheVariants as scheme
use Rattle.kit_node.specs.declared.ends.NodeEnd.{NodeEnd}
use Rattle.kit_node.specs.declared.ends.NodeEnd.TheVariants as node_end
use Rattle.kit_node.specs.Frames.{last_stop}
use Rattle.kit_node.specs.Nodes as nodes
use Rattle.kit_node.specs.Nodes.{end_in, number_of}
use Rattle.kit_node.specs.Seats.{IsSeatOf}
use Rattle.kit_replay.specs.Stages.{QueueNode, shown}
use Rattle.kit_runner.specs.declared.stage.Member.{Member}
use Rattle.kit_runner.specs.declared.stage.Stage.{Stage}
use Rattle.kit_runner.specs.Locks.{HasSetStop}
use Rattle.kit_runner.specs.Runs.{Seat, most_rounds}

-- what stands for the federation where a run has not picked one
abbrev pub no_federation : Parts
no_federation = record { end = 0; buffers = 0; groups = []; federates = [] }

abbrev pub node_of : Member → QueueNode
node_of x = x.node

abbrev pub end_of : Member → Option NodeEnd
end_of x = end_in x.node

-- A MEMBER: the node of federate i, which has this place. Where it has ended by no end of its node, the node saw that the run is to stop,
-- and where its node ended badly, its seat has set the stop word
pub record IsMemberAt (p : Parts) (i : ℕ) (x : Member) (q : Seat) : Type 0 where
  pub number : number_of x.node ≡ i
  pub seat : IsSeatOf shown p x.node q
  pub limit : nodes.most_rounds x.node ≡ most_rounds
  pub goes_on : x.has_ended ≡ false → end_in x.node ≡ None
  pub stopped : x.has_ended ≡ true → end_in x.node ≡ None → (last_stop q).gave ≡ true
  pub told : (e : NodeEnd) → end_in x.node ≡ Some e → e ≢ node_end.Finished → HasSetStop q

-- THE STAGE of a run: a floor for this federation, each of whose federates has its node, and room for the reports
pub record IsStage (p : Parts) (s : Stage) : Type 0 where
  pub federation : s.floor.opening.federation.value ≡ p
  pub scheme : s.floor.opening.scheme ≡ scheme.Butterfly
  pub buffers : s.floor.buffers ≡ p.buffers
  pub places : length s.floor.places ≡ length p.federates
  pub many : length s.members.items ≡ length p.federates
  pub few : length p.federates ≤ 16
  pub each : (i : ℕ) (x : Member) (q : Seat) → get_elem? s.members.items i ≡ some x → get_elem? s.floor.places i ≡ some q → IsMemberAt p i x q
  pub room : length s.members.items ≤ vec_capacity s.reports
  pub none : s.reports.items ≡ []

-- the node of federate i gets no further turns
abbrev pub HasEnded : Stage → ℕ → Type 0
HasEnded s i = (x : Member) → get_elem? s.members.items i ≡ some x → x.has_ended ≡ true

abbrev pub AllHaveEnded : Stage → Type 0
AllHaveEnded s = (i : ℕ) → HasEnded s i

-- one that has ended stays so
abbrev pub StaysEnded : Stage → Stage → Type 0
StaysEnded s s' = (i : ℕ) → HasEnded s i → HasEnded s' i

-- the nodes are in the order of their federates
abbrev pub AreNumbered : List Member → Type 0
AreNumbered members = (i : ℕ) (x : Member) → get_elem? members i ≡ some x → number_of x.node ≡ i
