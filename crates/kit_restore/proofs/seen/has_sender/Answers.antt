-- a mask of 16 bits has none above
use Rattle.std.proofs.Common.{sym, ◌∙◌}
use Rattle.std.proofs.lemmas.Bool.{le-ltb}
use Rattle.kit_regions.proofs.Masks.{has_none_above}
use Rattle.kit_restore.proofs.seen.has_sender.Goals as goal

pub returns-else-sender-lt16 : goal.returns-else-sender-lt16
returns-else-sender-lt16 c = le-ltb c.args.sender 16 c.if-sender-lt16.false ∙ sym (has_none_above c.args.mask 16 c.args.sender c.ranges.mask.fits c.if-sender-lt16.false)
