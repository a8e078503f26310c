use Rattle.std.proofs.Common.{◌≡◌, ◌<◌, ◌+◌, ◌∷◌, [], ◌++◌, sym, ap, subst, ◌∙◌, arith}
use Rattle.kit_ground.specs.declared.place.Place.{Place}
use Rattle.kit_model.specs.declared.share.Share.{Share}
use Rattle.kit_model.specs.Shares.{FitsWord, share_sum}
use Rattle.kit_lbts.specs.declared.view.Scheme.TheVariants.{Flat}
use Rattle.kit_lbts.specs.declared.view.LbtsView.{LbtsView}
use Rattle.kit_lbts.specs.Progress.{own_share}
use Rattle.kit_lbts.specs.Reduction.{share_with_taken}
use Rattle.kit_fly.specs.declared.flat.FlatReduction.{FlatReduction}
use Rattle.kit_fly.specs.Rounds.{FollowsRound, RoundState, SlotsShowRound, all_registers}
use Rattle.kit_fly.proofs.Sources.{flat_long}
use Rattle.kit_fly.proofs.Views.{flat_added, next_state}
use Rattle.kit_fly.proofs.Polls.{Came, answered, begins, flat_shown, found_fits, found_on, found_shown, may_look, missed_shown, shown_still, waits}
use Rattle.kit_fly.proofs.flat.FlatReductionReduction.poll.Invariants.{state_of}
use Rattle.kit_fly.proofs.flat.FlatReductionReduction.poll.Goals as goal

abbrev P : Type 0
P = Place LbtsView

more : (r : FlatReduction) → r.me < r.federates → r.taken + 1 < r.federates → r.taken < all_registers Flat (state_of r)
more r one lt = omega (arith, flat_long r.federates r.me one, lt)

-- the value with one share more
summed : (k : RoundState) (q : P) (share : Share) → FollowsRound Flat k q → k.taken < all_registers Flat k → share_sum k.value share ≡ share_with_taken Flat k.federates k.number (own_share q.client) (q.client.taken ++ share ∷ [])
summed k q share f less = ap (λ v. share_sum v share) (f.under_way less).value ∙ sym (flat_added k.federates k.number (own_share q.client) share q.client.taken)

pub loop-self-init : goal.loop-self-init
loop-self-init g c =
    let p : P = g.G.Ground.place c.args.ground.now in
    (g.met.G.Ground.came_here _, begins Flat (state_of c.args.self.now) p c.requires.world c.requires.follows, c.requires.shown)

pub find-requires : goal.find-requires
find-requires g c =
    let s = c.loop-self.self in
    let q : P = g.G.Ground.place c.loop-self.ground in
    let i = c.loop-self.invariant.1 in
    may_look Flat (state_of c.args.self.now) (state_of s) (g.G.Ground.place c.args.ground.now) q q c.requires.follows i (more s s.one c.loop-self-test.true) c.next-reg.result c.next-reg.ensures.is i.world

pub take_in-requires : goal.take_in-requires
take_in-requires g c =
    let s = c.loop-self.self in
    let k : RoundState = state_of s in
    let q : P = g.G.Ground.place c.loop-self.ground in
    let q' : P = g.G.Ground.place c.find.new.ground in
    let i = c.loop-self.invariant.1 in
    let less = more s s.one c.loop-self-test.true in
    let fits = found_fits Flat (state_of c.args.self.now) k (g.G.Ground.place c.args.ground.now) q q' c.requires.follows i less c.next-reg.result c.next-reg.ensures.is c.find.ensures.world c.in-Some.share c.in-Some.ensures.looked in
    record { more = c.loop-self-test.true; fits = subst FitsWord (sym (summed k q c.in-Some.share i.follows less)) fits }

pub returns-in-None : goal.returns-in-None
returns-in-None g c =
    let s = c.loop-self.self in
    let q : P = g.G.Ground.place c.loop-self.ground in
    let q' : P = g.G.Ground.place c.find.new.ground in
    let i = c.loop-self.invariant.1 in
    let less = more s s.one c.loop-self-test.true in
    let h = c.in-None.ensures.looked in
    let w = waits Flat (state_of c.args.self.now) (state_of s) (g.G.Ground.place c.args.ground.now) q q' c.requires.follows i less c.next-reg.result c.next-reg.ensures.is c.find.ensures.world h in
    record {
      came = g.met.G.Ground.came_on _ _ _ c.loop-self.invariant.0 c.find.ensures.came;
      world = w.world;
      left = w.left;
      taken = w.takes;
      answer = w.answer;
      looks = w.looks;
      follows = w.follows;
      shown = shown_still Flat (state_of s) q q' (missed_shown Flat (state_of c.args.self.now) (state_of s) (g.G.Ground.place c.args.ground.now) q q' c.requires.follows i less c.next-reg.result c.next-reg.ensures.is c.find.ensures.world h) c.loop-self.invariant.2;
      slots = w.slots;
    }

pub loop-self-preserved : goal.loop-self-preserved
loop-self-preserved g c =
    let s = c.loop-self.self in
    let s' = c.take_in.new.self in
    let e = c.take_in.ensures in
    let k0 : RoundState = state_of c.args.self.now in
    let k : RoundState = state_of s in
    let p : P = g.G.Ground.place c.args.ground.now in
    let q : P = g.G.Ground.place c.loop-self.ground in
    let q' : P = g.G.Ground.place c.find.new.ground in
    let i = c.loop-self.invariant.1 in
    let less = more s s.one c.loop-self-test.true in
    let share = c.in-Some.share in
    let h = c.in-Some.ensures.looked in
    let next : state_of s' ≡ next_state k s'.value = λ j. record { federates = e.federates j; number = e.me j; round = e.round j; value = s'.value; taken = e.taken j } in
    let on = found_on Flat k0 k p q q' c.requires.follows i less c.next-reg.result c.next-reg.ensures.is c.find.ensures.world share h s'.value (e.value ∙ summed k q share i.follows less) in
    let shown = flat_shown k s'.value q q' (found_shown Flat k0 k p q q' c.requires.follows i less c.next-reg.result c.next-reg.ensures.is c.find.ensures.world share h) c.loop-self.invariant.2 in (
      g.met.G.Ground.came_on _ _ _ c.loop-self.invariant.0 c.find.ensures.came,
      subst (λ (x : RoundState). Came Flat k0 p x q') (sym next) on,
      subst (λ (x : RoundState). SlotsShowRound Flat x q') (sym next) shown,
    )

pub returns : goal.returns
returns g c =
    let s = c.loop-self.self in
    let i = c.loop-self.invariant.1 in
    let long = flat_long s.federates s.me s.one in
    let test = c.loop-self-test.false in
    let most = s.taken_of in
    record {
      came = c.loop-self.invariant.0;
      world = i.world;
      left = i.left;
      taken = i.takes;
      answer = answered Flat (state_of c.args.self.now) (state_of s) (g.G.Ground.place c.args.ground.now) (g.G.Ground.place c.loop-self.ground) i (omega (arith, long, test, most));
      looks = let l = i.looks in omega (arith, l);
      follows = i.follows;
      shown = c.loop-self.invariant.2;
      slots = i.slots;
    }
