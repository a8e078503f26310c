use Rattle.std.proofs.Common.{ℕ, sym, subst, ◌∙◌, arith}
use Rattle.kit_ground.specs.declared.address.Address.TheVariants.{Register}
use Rattle.kit_ground.specs.declared.place.Deed.TheVariants.{Published}
use Rattle.kit_ground.specs.declared.place.Place.{Place}
use Rattle.kit_ground.specs.Rules.{Keeps}
use Rattle.kit_ground.specs.Steps.{place_after}
use Rattle.kit_model.specs.Shares.{share_word}
use Rattle.kit_lbts.specs.declared.view.Scheme.TheVariants.{Flat}
use Rattle.kit_lbts.specs.declared.view.LbtsView.{LbtsView}
use Rattle.kit_lbts.specs.Agreement.{agreeing_rule}
use Rattle.kit_lbts.specs.Progress.{view_after}
use Rattle.kit_lbts.specs.Reduction.{reg_of, share_stage}
use Rattle.kit_fly.specs.Rounds.{RoundState}
use Rattle.kit_fly.proofs.Starts.{flat_start, start_kept, starting_fits}
use Rattle.kit_fly.proofs.flat.FlatReductionReduction.start.Goals as goal

abbrev P : Type 0
P = Place LbtsView

pub begin-requires : goal.begin-requires
begin-requires g c =
    let p : P = g.G.Ground.place c.args.ground.now in
    let s = c.args.self.now in
    starting_fits Flat (record { federates = s.federates; number = s.me; round = s.round; value = s.value; taken = s.taken }) c.args.round c.args.share p c.requires.next c.requires.world

pub show-requires : goal.show-requires
show-requires g c =
    let p : P = g.G.Ground.place c.args.ground.now in
    let s = c.args.self.now in
    let e = c.begin.ensures in
    let k : RoundState = record { federates = s.federates; number = s.me; round = s.round; value = s.value; taken = s.taken } in
    let may = c.requires.next in
    record {
      me = may.number ∙ sym e.me;
      stage = omega arith;
      fits = starting_fits Flat k c.args.round c.args.share p may c.requires.world;
      rule = subst (λ (x : ℕ). Keeps agreeing_rule view_after p (Register (reg_of x share_stage c.args.round)) (λ _. Published (reg_of x share_stage c.args.round) (share_word c.args.share c.args.round))) (sym e.me)
          (start_kept Flat k c.args.round c.args.share p may);
    }

pub returns : goal.returns
returns g c =
    let p : P = g.G.Ground.place c.args.ground.now in
    let q : P = g.G.Ground.place c.show.new.ground in
    let s = c.args.self.now in
    let s' = c.begin.new.self in
    let e = c.begin.ensures in
    let k : RoundState = record { federates = s.federates; number = s.me; round = s.round; value = s.value; taken = s.taken } in
    let k' : RoundState = record { federates = s'.federates; number = s'.me; round = s'.round; value = s'.value; taken = s'.taken } in
    let may = c.requires.next in
    let w = flat_start k k' c.args.round c.args.share p q may c.requires.world (λ i. record { federates = e.federates i; number = e.me i; round = e.round i; value = e.value i; taken = e.taken i })
    (c.show.ensures.place ∙ (λ i. place_after view_after (Published (reg_of (e.me i) share_stage c.args.round) (share_word c.args.share c.args.round)) p)) in
    record {
      came = c.show.ensures.came;
      world = c.show.ensures.world;
      left = w.left;
      looks = w.looks;
      federates = e.federates;
      number = e.me;
      round = e.round;
      taken = e.taken;
      view = w.view;
      follows = w.follows;
      share = w.share_is;
      shown = w.shown;
      slots = w.slots;
    }
