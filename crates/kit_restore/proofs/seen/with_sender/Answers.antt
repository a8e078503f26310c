-- the bit of the sender is added
use Rattle.std.proofs.Common.{ap, ◌∙◌, bit_or}
use Rattle.kit_rules.specs.Delivery.{has_bit}
use Rattle.kit_restore.proofs.Bits.{one_more_bit}
use Rattle.kit_restore.proofs.seen.with_sender.Goals as goal

pub returns : goal.returns
returns c k = ap (λ b. has_bit (bit_or c.args.mask b) k) c.sender_bit.ensures ∙ one_more_bit c.args.mask c.args.sender k
