use Rattle.std.proofs.Common.{◌<◌, ap, ◌∙◌, arith}
use Rattle.kit_pool.proofs.Deals.{left}
use Rattle.kit_pool.proofs.Splitting.{splits}
use Rattle.kit_pool.proofs.seat.TableSeat.part.Goals as goal

pub split_seat-seat-requires : goal.split_seat-seat-requires
split_seat-seat-requires g c = (c.requires.rest.of_it, c.requires.laid.some, splits g.P.Protocol.rule _ _ _ _ _)

pub returns-clause-rest : goal.returns-clause-rest
returns-clause-rest g c =
    let key = c.args.table.now.shared.key in
    let first = g.P.Protocol.first key.opening.value in
    let inside = c.requires.within.inside in
    let among = c.requires.all in
    let below : c.args.number < c.args._all = omega arith in
    record {
      of_it = c.split_seat-seat.ensures.0 ∙ c.requires.rest.of_it;
      bare = ap (λ m. m.1) c.split_seat-seat.ensures.2 ∙ c.requires.rest.bare;
      places = ap (λ m. m.0) c.split_seat-seat.ensures.2 ∙ left first key.federates key.buffers c.args.number c.args._all below _ c.requires.rest.places;
    }
