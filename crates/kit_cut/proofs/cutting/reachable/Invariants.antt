-- the Events so far
use Rattle.std.proofs.Common.{◌≡◌, take, filter}
use Rattle.kit_cut.specs.Reach.{is_in_reach}
use Rattle.kit_cut.proofs.cutting.reachable.Given as goal

abbrev pub invariant-loop-item : goal.invariant-loop-item
invariant-loop-item l = l.own ≡ filter (is_in_reach l.federation l.i l.now) (take l.item-index l.item-items)
