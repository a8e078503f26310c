use Rattle.std.proofs.Common.{◌≡◌, ◌-◌, fold, take, length}
use Rattle.kit_rules.specs.Own.{with_own}
use Rattle.kit_rules.proofs.own.restored_sends.Given as goal

abbrev pub invariant-loop-item : goal.invariant-loop-item
invariant-loop-item l =
    (l.sends.items ≡ fold (with_own l.federate) l.initial.sends.items (take l.item-index l.own))
    × (length l.sends.items ≡ l.next - 1)
