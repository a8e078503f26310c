use Rattle.std.proofs.Common.{◌≡◌, ◌++◌, map, drop}
use Rattle.serde_json.specs.Data.{string}
use Rattle.serde_json.specs.View.{view}
use Rattle.kit_save.specs.Values.{member_names}
use Rattle.kit_save.proofs.group_values.members_value.Given as goal

-- the names so far, and then those of the members that are left
abbrev pub invariant-loop-j : goal.invariant-loop-j
invariant-loop-j l = map view l.items.items ++ map string (member_names l.group.members l.j (drop l.j l.federates)) ≡ map string (member_names l.group.members 0 l.federates)
