-- the lines so far
use Rattle.std.proofs.Common.{◌≡◌, take}
use Rattle.std.specs.List.{flat_map}
use Rattle.kit_regions.specs.Text.{region_line}
use Rattle.kit_regions.proofs.text.region_text.Given as goal

abbrev pub invariant-loop-update : goal.invariant-loop-update
invariant-loop-update l = l.out.items ≡ flat_map (region_line l.plan) (take l.update-index l.plan.updates)
