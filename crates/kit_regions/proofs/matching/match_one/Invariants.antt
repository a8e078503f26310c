-- the mask of the subscriptions so far
use Rattle.std.proofs.Common.{◌≡◌, take}
use Rattle.kit_regions.specs.Overlap.{mask_of}
use Rattle.kit_regions.proofs.matching.match_one.Given as goal

abbrev pub invariant-loop-subscription : goal.invariant-loop-subscription
invariant-loop-subscription l = l.mask ≡ mask_of (take l.subscription-index l.subscriptions) l.update
