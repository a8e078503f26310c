use Rattle.std.proofs.Common.{ap, ◌∙◌, bit_or}
use Rattle.kit_rules.specs.Delivery.{has_bit}
use Rattle.kit_cut.proofs.Seen.{bit_added}
use Rattle.kit_cut.proofs.numbers.with_sender.Goals as goal

pub returns : goal.returns
returns c k = ap (λ b. has_bit (bit_or c.args.mask b) k) c.sender_bit.ensures ∙ bit_added c.args.mask c.args.sender k
