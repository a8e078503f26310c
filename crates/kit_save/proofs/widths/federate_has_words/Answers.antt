use Rattle.std.proofs.Common.{subst}
use Rattle.std.specs.List.{All}
use Rattle.kit_save.specs.Widths.{IsWordVar, IsWordRule}
use Rattle.kit_save.proofs.widths.federate_has_words.Goals as goal

pub returns : goal.returns
returns c = (subst (All IsWordVar) c.as_slice.ensures c.vars_have_words.ensures, subst (All IsWordRule) c.as_slice-2.ensures c.rules_have_words.ensures)
