use Rattle.std.proofs.Common.{refl, ap, ◌∙◌, ◌-◌, length}
use Rattle.std.proofs.lemmas.List.FromFn.{length-map-range_with_len}
use Rattle.kit_rules.specs.Own.{past_message}
use Rattle.kit_rules.proofs.own.restored_sends.Goals as goal

pub loop-item-init : goal.loop-item-init
loop-item-init c =
    (refl, ap length c.in_ok-sends.ensures ∙ length-map-range_with_len (past_message c.args.federate) 1 (c.args.next - 1))
