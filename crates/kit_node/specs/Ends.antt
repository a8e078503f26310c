-- What the ends of a node come from, and what its turns answer then.
use Rattle.std.specs.Prelude.{Bool, true, false, Option, Some, None}
use Rattle.kit_rules.specs.declared.scene.ApplyEnd.{ApplyEnd}
use Rattle.kit_rules.specs.declared.scene.ApplyEnd.TheVariants as apply_end
use Rattle.kit_node.specs.declared.ends.NodeEnd.{NodeEnd}
use Rattle.kit_node.specs.declared.ends.NodeEnd.TheVariants as node_end
use Rattle.kit_node.specs.declared.ends.Turn.{Turn}
use Rattle.kit_node.specs.declared.ends.Turn.TheVariants as turn

-- the answer of a turn that went through all of its parts: whether the end was granted, and whether anything was done
abbrev pub closing_answer : Bool → Bool → Turn
closing_answer true busy = turn.Finished
closing_answer false true = turn.Worked
closing_answer false false = turn.Idle

-- the rules of a trigger were not applied
abbrev pub end_of_rules : ApplyEnd → NodeEnd
end_of_rules apply_end.SendsSpent = node_end.SendsSpent
end_of_rules apply_end.NoMemory = node_end.NoMemory

-- what a node that has ended answers
abbrev pub answer_of : NodeEnd → Turn
answer_of node_end.Finished = turn.Finished
answer_of (node_end.NoBuffer number) = turn.NoBuffer number
answer_of node_end.SendsSpent = turn.SendsSpent
answer_of node_end.RoundsSpent = turn.RoundsSpent
answer_of node_end.NoMemory = turn.NoMemory

-- the end of a node by an answer
abbrev pub end_by : Turn → Option NodeEnd
end_by turn.Worked = None
end_by turn.Idle = None
end_by turn.Stopped = None
end_by turn.Finished = Some node_end.Finished
end_by (turn.NoBuffer number) = Some (node_end.NoBuffer number)
end_by turn.SendsSpent = Some node_end.SendsSpent
end_by turn.RoundsSpent = Some node_end.RoundsSpent
end_by turn.NoMemory = Some node_end.NoMemory
