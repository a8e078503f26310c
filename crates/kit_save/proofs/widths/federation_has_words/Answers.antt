use Rattle.std.proofs.Common.{subst}
use Rattle.std.specs.List.{All}
use Rattle.kit_save.specs.Widths.{IsWordFederate}
use Rattle.kit_save.proofs.widths.federation_has_words.Goals as goal

pub returns : goal.returns
returns c = subst (All IsWordFederate) c.federates.ensures.items c.federates_have_words.ensures
