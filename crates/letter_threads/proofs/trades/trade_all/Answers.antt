use Rattle.atomic_table.proofs.Lists.{at_index}
use Rattle.letter_threads.proofs.trades.trade_all.Goals as goal

pub map_vec-requires-after_bounds : goal.map_vec-requires-after_bounds
map_vec-requires-after_bounds g c κs within = λ i x inside is. (c.requires.few, (c.requires.wide, (i, c.requires.seats i x (at_index c.args.seats.items i x inside is))))
