-- the masks of the updates so far
use Rattle.std.proofs.Common.{◌≡◌, map, take}
use Rattle.kit_regions.specs.Overlap.{mask_of}
use Rattle.kit_regions.proofs.matching.match_all.Given as goal

abbrev pub invariant-loop-update : goal.invariant-loop-update
invariant-loop-update l = l.masks.items ≡ map (mask_of l.subscriptions) (take l.update-index l.updates)
