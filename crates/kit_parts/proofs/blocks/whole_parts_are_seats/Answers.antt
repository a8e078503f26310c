use Rattle.kit_parts.proofs.Reaching.{whole_parts_are_seats_law}
use Rattle.kit_parts.proofs.blocks.whole_parts_are_seats.Goals as goal

pub returns : goal.returns
returns c = whole_parts_are_seats_law
