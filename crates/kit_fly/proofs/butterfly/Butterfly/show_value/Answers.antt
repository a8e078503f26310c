use Rattle.kit_ground.specs.declared.place.Place.{Place}
use Rattle.kit_lbts.specs.declared.view.LbtsView.{LbtsView}
use Rattle.kit_fly.specs.declared.butterfly.Butterfly.{Butterfly}
use Rattle.kit_fly.specs.Rounds.{RoundState}
use Rattle.kit_fly.proofs.Dues.{due_kept}
use Rattle.kit_fly.proofs.butterfly.Butterfly.show_value.Goals as goal

abbrev P : Type 0
P = Place LbtsView

abbrev state_of : Butterfly → RoundState
state_of r = record { federates = r.federates; number = r.me; round = r.round; value = r.value; taken = r.taken }

pub show-requires : goal.show-requires
show-requires g c =
    let p : P = g.G.Ground.place c.args.ground.now in
    let s = c.args.self.now in
    let due = c.in-Some.ensures.0 in
    record {
      me = c.requires.holds.number;
      stage = due.known;
      fits = s.fits;
      rule = due_kept (state_of s) p c.requires.holds c.in-Some.stage due;
    }
