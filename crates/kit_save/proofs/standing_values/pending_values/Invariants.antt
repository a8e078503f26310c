use Rattle.std.proofs.Common.{◌≡◌, map, take}
use Rattle.serde_json.specs.View.{view}
use Rattle.kit_save.specs.CutValues.{message_value}
use Rattle.kit_save.proofs.standing_values.pending_values.Given as goal

-- the values so far are those of the messages so far
abbrev pub invariant-loop-message : goal.invariant-loop-message
invariant-loop-message l = map view l.items.items ≡ map message_value (take l.message-index l.pending)
