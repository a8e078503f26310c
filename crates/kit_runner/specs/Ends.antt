-- The end of a run, by the ends of its federates' nodes.
use Rattle.std.specs.Prelude.{◌≡◌, ◌≢◌, ℕ, ◌<◌, Bool, true, false, List, All, Option, None, Some}
use mathlib.Core.Option.{some}
use lib.ListN.{get_elem?}
use Rattle.kit_deal.specs.declared.dealing.Activity.{Activity}
use Rattle.kit_deal.specs.declared.dealing.Activity.TheVariants as activity
use Rattle.kit_node.specs.declared.ends.End.{End}
use Rattle.kit_node.specs.declared.ends.End.TheVariants as ends
use Rattle.kit_node.specs.declared.ends.NodeEnd.{NodeEnd}
use Rattle.kit_node.specs.declared.ends.NodeEnd.TheVariants as node_end
use Rattle.kit_node.specs.declared.ends.Turn.{Turn}
use Rattle.kit_node.specs.declared.ends.Turn.TheVariants as turn

-- an answer that ends its node, but for the grant of the end time
abbrev pub is_bad_answer : Turn → Bool
is_bad_answer turn.Worked = false
is_bad_answer turn.Idle = false
is_bad_answer turn.Finished = false
is_bad_answer turn.Stopped = false
is_bad_answer (turn.NoBuffer number) = true
is_bad_answer turn.SendsSpent = true
is_bad_answer turn.RoundsSpent = true
is_bad_answer turn.NoMemory = true

-- a node whose turn answers so gets further turns, or none
abbrev pub activity_by : Turn → Activity
activity_by turn.Worked = activity.Worked
activity_by turn.Idle = activity.Idle
activity_by turn.Finished = activity.Ended
activity_by turn.Stopped = activity.Ended
activity_by (turn.NoBuffer number) = activity.Ended
activity_by turn.SendsSpent = activity.Ended
activity_by turn.RoundsSpent = activity.Ended
activity_by turn.NoMemory = activity.Ended

-- HOW THE NODES ENDED, a list by federates: each by its end, or by none where it saw that the run is to stop.
-- The end of a run that names the federate, if the end of its node does
abbrev pub named_end : ℕ → Option NodeEnd → Option End
named_end f None = None
named_end f (Some node_end.Finished) = None
named_end f (Some (node_end.NoBuffer number)) = Some (ends.NoBuffer f number)
named_end f (Some node_end.SendsSpent) = Some (ends.SendsSpent f)
named_end f (Some node_end.RoundsSpent) = Some (ends.RoundsSpent f)
named_end f (Some node_end.NoMemory) = None

-- no federate below this one is named
abbrev pub NobodyIsNamed : List (Option NodeEnd) → ℕ → Type 0
NobodyIsNamed nodes f = (i : ℕ) (e : Option NodeEnd) → i < f → get_elem? nodes i ≡ some e → named_end i e ≡ None

-- this federate is the least that is named
pub record IsLeastNamed (nodes : List (Option NodeEnd)) (f : ℕ) (end : End) : Type 0 where
  pub node : Option NodeEnd
  pub there : get_elem? nodes f ≡ some node
  pub names : named_end f node ≡ Some end
  pub least : NobodyIsNamed nodes f

abbrev pub HasFinishedNode : Option NodeEnd → Type 0
HasFinishedNode e = e ≡ Some node_end.Finished

-- no federate is named, and yet not all were granted the end
pub record NobodyCanSay (nodes : List (Option NodeEnd)) : Type 0 where
  pub federate : ℕ
  pub node : Option NodeEnd
  pub there : get_elem? nodes federate ≡ some node
  pub unfinished : node ≢ Some node_end.Finished
  pub nobody : (i : ℕ) (e : Option NodeEnd) → get_elem? nodes i ≡ some e → named_end i e ≡ None

-- THE END: all were granted the end time, or the least federate that is named, or there was no memory
abbrev pub EndsWith : List (Option NodeEnd) → End → Type 0
EndsWith nodes ends.Done = All HasFinishedNode nodes
EndsWith nodes (ends.Unfinished f) = ⊥
EndsWith nodes (ends.NoBuffer f number) = IsLeastNamed nodes f (ends.NoBuffer f number)
EndsWith nodes (ends.SendsSpent f) = IsLeastNamed nodes f (ends.SendsSpent f)
EndsWith nodes (ends.RoundsSpent f) = IsLeastNamed nodes f (ends.RoundsSpent f)
EndsWith nodes ends.NoMemory = NobodyCanSay nodes

-- the same, a federate at a time: the end of those before it, and how its own node ended
abbrev pub end_of_node : End → ℕ → Option NodeEnd → End
end_of_node so_far f None = ends.NoMemory
end_of_node so_far f (Some node_end.Finished) = so_far
end_of_node so_far f (Some (node_end.NoBuffer number)) = ends.NoBuffer f number
end_of_node so_far f (Some node_end.SendsSpent) = ends.SendsSpent f
end_of_node so_far f (Some node_end.RoundsSpent) = ends.RoundsSpent f
end_of_node so_far f (Some node_end.NoMemory) = ends.NoMemory

abbrev pub end_more : End → ℕ → Option NodeEnd → End
end_more ends.Done f e = end_of_node ends.Done f e
end_more ends.NoMemory f e = end_of_node ends.NoMemory f e
end_more (ends.Unfinished g) f e = ends.Unfinished g
end_more (ends.NoBuffer g number) f e = ends.NoBuffer g number
end_more (ends.SendsSpent g) f e = ends.SendsSpent g
end_more (ends.RoundsSpent g) f e = ends.RoundsSpent g
