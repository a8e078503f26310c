use Rattle.std.proofs.Common.{◌+◌, refl}
use Rattle.kit_calendar.proofs.Places.{set_in}
use Rattle.kit_calendar.proofs.rows.set_at.Goals as goal

pub returns-clause-row : goal.returns-clause-row
returns-clause-row c = set_in c.args.places.now.items c.args.row.start c.args.at (c.args.row.start + c.args.at) c.args.row.len c.args.entry refl
