use Rattle.kit_parts.proofs.Merged.{parts_make_the_text_law}
use Rattle.kit_parts.proofs.merges.parts_make_the_text.Goals as goal

pub returns : goal.returns
returns c = parts_make_the_text_law
