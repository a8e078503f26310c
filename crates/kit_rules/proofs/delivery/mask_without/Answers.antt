use Rattle.std.proofs.Common.{sym, arith, rules}
use Rattle.kit_rules.proofs.Masks.{without_far}
use Rattle.kit_rules.proofs.delivery.mask_without.Goals.{else-j-lt16-via-then-j-lt16+else-is_member, else-j-lt16-via-else-j-lt16}
use Rattle.kit_rules.proofs.delivery.mask_without.Goals as goal

pub returns-else-j-lt16 : goal.returns-else-j-lt16
returns-else-j-lt16 c =
    elim c.else-j-lt16.branch [ else-j-lt16-via-then-j-lt16+else-is_member w ↦ search rules | else-j-lt16-via-else-j-lt16 w ↦ sym (without_far _ _ (omega arith) (omega arith)) ]
