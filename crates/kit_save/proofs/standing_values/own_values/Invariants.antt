use Rattle.std.proofs.Common.{◌≡◌, map, take}
use Rattle.serde_json.specs.View.{view}
use Rattle.kit_save.specs.CutValues.{own_value}
use Rattle.kit_save.proofs.standing_values.own_values.Given as goal

-- the values so far are those of the Events so far
abbrev pub invariant-loop-event : goal.invariant-loop-event
invariant-loop-event l = map view l.items.items ≡ map own_value (take l.event-index l.own)
