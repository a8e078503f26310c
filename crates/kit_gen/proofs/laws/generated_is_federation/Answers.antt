use Rattle.kit_gen.proofs.Limits.{generated_is_federation_law}
use Rattle.kit_gen.proofs.laws.generated_is_federation.Goals as goal

pub returns : goal.returns
returns c = generated_is_federation_law
