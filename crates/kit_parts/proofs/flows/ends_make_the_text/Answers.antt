use Rattle.kit_parts.proofs.Running.{ends_make_the_text_law}
use Rattle.kit_parts.proofs.flows.ends_make_the_text.Goals as goal

pub returns : goal.returns
returns c = ends_make_the_text_law
