use Rattle.std.proofs.Common.{◌≡◌, [], map}
use Rattle.serde_json.specs.View.{view}
use Rattle.kit_walk.specs.Reading.{each}
use Rattle.kit_restore.specs.CutWalk.{number_step}
use Rattle.kit_walk.proofs.Rest.{rest}
use Rattle.kit_restore.proofs.rows.numbers_in.Given as goal

abbrev pub invariant-loop-i : goal.invariant-loop-i
invariant-loop-i l = rest (number_step l.key l.low l.high) l.i l.done.items l.items ≡ each (number_step l.key l.low l.high) 0 [] (map view l.items)
