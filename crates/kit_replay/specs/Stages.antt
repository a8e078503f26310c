-- A plain floor with its nodes, between two turns.
use Rattle.std.specs.Prelude.{◌≡◌, ◌≢◌, ℕ, ◌<◌, ◌≤◌, List, [], ◌∷◌, ◌++◌, length, map, vec_capacity, Option, None, Some}
use mathlib.Core.Option.{some}
use lib.ListN.{get_elem?}
use Rattle.kit_rules.specs.Parts.{Parts}
use Rattle.kit_queue.specs.declared.entry.Entry.{Entry}
use Rattle.kit_batch.specs.Gathered.{gathered}
use Rattle.kit_batch.specs.declared.batch_queue.BatchQueue.{BatchQueue}
use Rattle.kit_ground.specs.Floors.{new_floor}
use Rattle.kit_lbts.specs.declared.view.Scheme.TheVariants as scheme
use Rattle.kit_lbts.specs.Progress.{lbts_first}
use Rattle.kit_fly.specs.declared.butterfly.Butterfly.{Butterfly}
use Rattle.kit_fly.specs.Rounds.{RoundState}
use Rattle.kit_node.specs.declared.ends.End.{End}
use Rattle.kit_node.specs.declared.ends.End.TheVariants as ends
use Rattle.kit_node.specs.declared.ends.NodeEnd.{NodeEnd}
use Rattle.kit_node.specs.declared.ends.NodeEnd.TheVariants as node_end
use Rattle.kit_node.specs.declared.node.Node.{Node}
use Rattle.kit_node.specs.declared.node.NodeReport.{NodeReport}
use Rattle.kit_node.specs.Mirrors.{Shown, shows}
use Rattle.kit_node.specs.Nodes as nodes
use Rattle.kit_node.specs.Nodes.{IsReported, end_in, most_rounds}
use Rattle.kit_node.specs.Seats.{IsSeatOf}
use Rattle.kit_replay.specs.declared.stage.Stage.{Stage}
use Rattle.kit_replay.specs.Replays.{LbtsFloor}
use Rattle.kit_replay.specs.Endings.{Seat}
use Rattle.kit_replay.specs.Schedules.{GivenTurn, StepsUntil, entries_below, steps_of, turns_of, whose}

abbrev pub QueueNode : Type 0
QueueNode = Node BatchQueue Butterfly

-- how contracts see what such a node is made of
abbrev pub entries_in : BatchQueue → List Entry
entries_in queue = gathered (queue.fresh.items ++ queue.waiting.items)

abbrev pub round_in : Butterfly → RoundState
round_in r = record { federates = r.federates; number = r.me; round = r.round; value = r.value; taken = r.taken }

abbrev pub shown : Shown BatchQueue Butterfly
shown = shows entries_in scheme.Butterfly round_in

-- a new floor for this federation
pub record IsNewFloor (p : Parts) (f : LbtsFloor) : Type 0 where
  pub federation : f.opening.federation.value ≡ p
  pub scheme : f.opening.scheme ≡ scheme.Butterfly
  pub new : f ≡ new_floor lbts_first f.opening (length p.federates) p.buffers

-- a node that goes on, or was granted the end
abbrev pub IsWell : Option NodeEnd → Type 0
IsWell None = Unit {0}
IsWell (Some end) = end ≡ node_end.Finished

-- A NODE AT ITS PLACE, which was given these turns
pub record IsAtPlace (p : Parts) (limit : ℕ) (turns : List ℕ) (n : QueueNode) (q : Seat) : Type 0 where
  pub seat : IsSeatOf shown p n q
  pub limited : most_rounds n ≡ limit
  pub listed : nodes.turns_in n ≡ turns
  pub steps : StepsUntil (end_in n ≡ Some node_end.Finished) turns
  pub few : length q.client.contributions ≤ length turns

-- THE STAGE after these entries of a schedule: no node ended badly, but for that of this federate
pub record IsStage (p : Parts) (limit : ℕ) (taken : List ℕ) (bad : Option ℕ) (s : Stage) : Type 0 where
  pub federation : s.floor.opening.federation.value ≡ p
  pub scheme : s.floor.opening.scheme ≡ scheme.Butterfly
  pub buffers : s.floor.buffers ≡ p.buffers
  pub places : length s.floor.places ≡ length p.federates
  pub many : length s.nodes.items ≡ length p.federates
  pub given : List GivenTurn
  pub order : map whose given ≡ entries_below (length p.federates) taken
  pub made : s.floor.steps ≡ steps_of given
  pub each : (i : ℕ) (n : QueueNode) (q : Seat) → get_elem? s.nodes.items i ≡ some n → get_elem? s.floor.places i ≡ some q → IsAtPlace p limit (turns_of i given) n q
  pub well : (i : ℕ) (n : QueueNode) → get_elem? s.nodes.items i ≡ some n → bad ≢ Some i → IsWell (end_in n)
  pub room : length s.nodes.items ≤ vec_capacity s.reports
  pub none : s.reports.items ≡ []

-- after some entries, at which no node ended badly
pub record GoesOn (p : Parts) (s : Stage) : Type 0 where
  pub limit : ℕ
  pub taken : List ℕ
  pub stage : IsStage p limit taken None s

-- the end of a run in which the node of a federate ended so, if that is a bad end
abbrev pub end_at : ℕ → NodeEnd → Option End
end_at f node_end.Finished = None
end_at f (node_end.NoBuffer number) = Some (ends.NoBuffer f number)
end_at f node_end.SendsSpent = Some (ends.SendsSpent f)
end_at f node_end.RoundsSpent = Some (ends.RoundsSpent f)
end_at f node_end.NoMemory = Some ends.NoMemory

abbrev pub end_by : ℕ → Option NodeEnd → Option End
end_by f None = None
end_by f (Some end) = end_at f end

-- the last of these entries ended the node of its federate badly
pub record EndsBadly (p : Parts) (limit : ℕ) (taken : List ℕ) (end : End) (s : Stage) : Type 0 where
  pub federate : ℕ
  pub before : List ℕ
  pub last : taken ≡ before ++ federate ∷ []
  pub stage : IsStage p limit taken (Some federate) s
  pub node : QueueNode
  pub there : get_elem? s.nodes.items federate ≡ some node
  pub end_is : end_by federate (end_in node) ≡ Some end

-- what one more entry comes to
abbrev pub TurnsTo : Parts → ℕ → List ℕ → Option End → Stage → Type 0
TurnsTo p limit taken None s = IsStage p limit taken None s
TurnsTo p limit taken (Some end) s = EndsBadly p limit taken end s

-- what a schedule comes to: all of its entries, or those up to a bad end
pub record EndsWithin (p : Parts) (limit : ℕ) (schedule : List ℕ) (end : End) (s : Stage) : Type 0 where
  pub taken : List ℕ
  pub left : List ℕ
  pub split : schedule ≡ taken ++ left
  pub ends : EndsBadly p limit taken end s

abbrev pub RunsTo : Parts → ℕ → List ℕ → Option End → Stage → Type 0
RunsTo p limit schedule None s = IsStage p limit schedule None s
RunsTo p limit schedule (Some end) s = EndsWithin p limit schedule end s

-- THE END where no node ended badly, by the ends of the nodes
pub record HasEnded (nodes : List QueueNode) (i : ℕ) : Type 0 where
  pub node : QueueNode
  pub there : get_elem? nodes i ≡ some node
  pub end_is : end_in node ≡ Some node_end.Finished

pub record IsFirstBelowEnd (nodes : List QueueNode) (f : ℕ) : Type 0 where
  pub node : QueueNode
  pub there : get_elem? nodes f ≡ some node
  pub goes_on : end_in node ≢ Some node_end.Finished
  pub least : (i : ℕ) → i < f → HasEnded nodes i

abbrev pub ClosesWith : List QueueNode → End → Type 0
ClosesWith nodes ends.Done = (i : ℕ) → i < length nodes → HasEnded nodes i
ClosesWith nodes (ends.Unfinished f) = IsFirstBelowEnd nodes f
ClosesWith nodes _ = ⊥

-- THE REPORTS of the nodes, in their order
pub record AreReported (nodes : List QueueNode) (reports : List NodeReport) : Type 0 where
  pub many : length reports ≡ length nodes
  pub each : (i : ℕ) (n : QueueNode) (r : NodeReport) → get_elem? nodes i ≡ some n → get_elem? reports i ≡ some r → IsReported n r
