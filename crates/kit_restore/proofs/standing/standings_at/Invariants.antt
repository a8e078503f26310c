use Rattle.std.proofs.Common.{◌≡◌, [], map}
use Rattle.serde_json.specs.View.{view}
use Rattle.kit_walk.specs.Reading.{each}
use Rattle.kit_restore.specs.CutWalk.{standing_step}
use Rattle.kit_walk.proofs.Rest.{rest}
use Rattle.kit_restore.proofs.standing.standings_at.Given as goal

abbrev pub invariant-loop-i : goal.invariant-loop-i
invariant-loop-i l = rest (standing_step l.federation l.at l.nexts) l.i l.done l.items ≡ each (standing_step l.federation l.at l.nexts) 0 [] (map view l.items)
