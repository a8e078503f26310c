use Rattle.std.proofs.Common.{◌≡◌, ◌++◌, map, drop}
use Rattle.std.specs.List.{zip}
use Rattle.serde_json.specs.View.{view}
use Rattle.kit_save.specs.CutValues.{paired_value}
use Rattle.kit_save.proofs.standing_values.standings_value.Given as goal

-- the values so far, and then those of the federates that are left, each with what the cut keeps of it
abbrev pub invariant-loop-i : goal.invariant-loop-i
invariant-loop-i l = map view l.items.items ++ map paired_value (zip (drop l.i l.federates) (drop l.i l.standings)) ≡ map paired_value (zip l.federates l.standings)
