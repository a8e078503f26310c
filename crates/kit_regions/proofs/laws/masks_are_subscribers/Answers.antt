use Rattle.kit_regions.proofs.Receivers.{masks_are_subscribers_law}
use Rattle.kit_regions.proofs.laws.masks_are_subscribers.Goals as goal

pub returns : goal.returns
returns c = masks_are_subscribers_law
