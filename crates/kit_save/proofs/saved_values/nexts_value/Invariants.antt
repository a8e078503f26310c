use Rattle.std.proofs.Common.{◌≡◌, map, take}
use Rattle.serde_json.specs.View.{view}
use Rattle.kit_save.specs.Values.{count}
use Rattle.kit_save.proofs.saved_values.nexts_value.Given as goal

-- the values so far are those of the numbers so far
abbrev pub invariant-loop-next : goal.invariant-loop-next
invariant-loop-next l = map view l.items.items ≡ map count (take l.next-index l.nexts)
