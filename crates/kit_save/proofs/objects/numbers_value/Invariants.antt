use Rattle.std.proofs.Common.{◌≡◌, map, take}
use Rattle.serde_json.specs.View.{view}
use Rattle.kit_save.specs.Values.{count}
use Rattle.kit_save.proofs.objects.numbers_value.Given as goal

-- the values so far are those of the numbers so far
abbrev pub invariant-loop-number : goal.invariant-loop-number
invariant-loop-number l = map view l.items.items ≡ map count (take l.number-index l.numbers)
