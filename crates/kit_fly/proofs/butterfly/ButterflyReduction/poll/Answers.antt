use Rattle.std.proofs.Common.{◌≡◌, ◌<◌, ◌≤◌, ◌^◌, ◌∷◌, [], ◌++◌, ℕ, inl, inr, sym, ap, subst, ◌∙◌, arith}
use Rattle.std.proofs.lemmas.Bool.{cases_lt}
use Rattle.std.specs.Prelude.{Some}
use Rattle.kit_ground.specs.declared.place.Place.{Place}
use Rattle.kit_model.specs.declared.share.Share.{Share}
use Rattle.kit_model.specs.Blocks.{stages, width}
use Rattle.kit_model.specs.Shares.{FitsWord, share_sum}
use Rattle.kit_lbts.specs.declared.view.Scheme.TheVariants.{Butterfly}
use Rattle.kit_lbts.specs.declared.view.LbtsView.{LbtsView}
use Rattle.kit_lbts.specs.Progress.{own_share}
use Rattle.kit_lbts.specs.Reduction.{share_with_taken}
use Rattle.kit_ground.specs.declared.address.Reg.{Reg}
use Rattle.kit_fly.specs.Looks.{HasLooked}
use Rattle.kit_lbts.specs.SeatLaws.{IsInWorld}
use Rattle.kit_fly.specs.Rounds.{FollowsRound, RoundState, all_registers, register_after}
use Rattle.kit_fly.specs.Stages.{registers_among}
use Rattle.kit_fly.proofs.Sources.{outer_long, registers_long}
use Rattle.kit_fly.proofs.Views.{inner_added, next_state, outer_added}
use Rattle.kit_fly.proofs.Polls.{Came, ShowsBefore, answered, begins, found_fits, found_on, look_holds, may_look, missed_shown, shown_came, shown_slots, shown_still, shows_before, waits}
use Rattle.kit_fly.proofs.butterfly.ButterflyReduction.poll.Invariants.{state_of}
use Rattle.kit_fly.proofs.butterfly.ButterflyReduction.poll.Goals as goal

abbrev P : Type 0
P = Place LbtsView

all_are : (n s x : ℕ) → s ≡ stages n → all_registers Butterfly (record { federates = n; number = x; round = 0; value = record { out = 0; inn = 0; low = 0 }; taken = 0 }) ≡ registers_among n s x
all_are n s x e = registers_long n x ∙ ap (λ t. registers_among n t x) (sym e)

module _ (k : RoundState) (q : P) (share : Share) (f : FollowsRound Butterfly k q) (less : k.taken < all_registers Butterfly k) where
  -- the value with one share more
  summed : k.number < width k.federates → share_sum k.value share ≡ share_with_taken Butterfly k.federates k.number (own_share q.client) (q.client.taken ++ share ∷ [])
  summed inside = ap (λ v. share_sum v share) (f.under_way less).value ∙ sym (inner_added k.federates k.number (own_share q.client) share q.client.taken inside)

  handed : width k.federates ≤ k.number → share ≡ share_with_taken Butterfly k.federates k.number (own_share q.client) (q.client.taken ++ share ∷ [])
  handed out =
      let long = outer_long k.federates k.number out in
      let taken = (f.under_way less).taken in
      sym (outer_added k.federates k.number (own_share q.client) share q.client.taken out (omega (arith, long, taken, less)))

pub loop-self-init : goal.loop-self-init
loop-self-init g c =
    let p : P = g.G.Ground.place c.args.ground.now in
    (g.met.G.Ground.came_here _, begins Butterfly (state_of c.args.self.now) p c.requires.world c.requires.follows, c.requires.shown)

pub find-requires : goal.find-requires
find-requires g c =
    let s = c.loop-self.self in
    let q : P = g.G.Ground.place c.loop-self.ground in
    let i = c.loop-self.invariant.1 in
    let all = all_are s.federates s.stages s.me s.counted in
    let test = c.loop-self-test.true in
    let many = c.registers.ensures in
    may_look Butterfly (state_of c.args.self.now) (state_of s) (g.G.Ground.place c.args.ground.now) q q c.requires.follows i (omega (arith, all, test, many)) c.next-reg.result c.next-reg.ensures.is i.world

pub take_in-requires : goal.take_in-requires
take_in-requires g c =
    let s = c.loop-self.self in
    let k : RoundState = state_of s in
    let q : P = g.G.Ground.place c.loop-self.ground in
    let q' : P = g.G.Ground.place c.find.new.ground in
    let i = c.loop-self.invariant.1 in
    let all = all_are s.federates s.stages s.me s.counted in
    let test = c.loop-self-test.true in
    let many = c.registers.ensures in
    let less : k.taken < all_registers Butterfly k = omega (arith, all, test, many) in
    let fits = found_fits Butterfly (state_of c.args.self.now) k (g.G.Ground.place c.args.ground.now) q q' c.requires.follows i less c.next-reg.result c.next-reg.ensures.is c.find.ensures.world c.in-Some.share c.in-Some.ensures.looked in
    record {
      more = omega (arith, test, many);
      fits = c.in-Some.ensures.fits;
      together = λ inside. subst FitsWord (sym (summed k q c.in-Some.share i.follows less (subst (λ t. s.me < 2 ^ t) s.counted inside))) fits;
    }

pub returns-in-None : goal.returns-in-None
returns-in-None g c =
    let s = c.loop-self.self in
    let q : P = g.G.Ground.place c.loop-self.ground in
    let q' : P = g.G.Ground.place c.find.new.ground in
    let i = c.loop-self.invariant.1 in
    let all = all_are s.federates s.stages s.me s.counted in
    let test = c.loop-self-test.true in
    let many = c.registers.ensures in
    let less : s.taken < all_registers Butterfly (state_of s) = omega (arith, all, test, many) in
    let h = c.in-None.ensures.looked in
    let w = waits Butterfly (state_of c.args.self.now) (state_of s) (g.G.Ground.place c.args.ground.now) q q' c.requires.follows i less c.next-reg.result c.next-reg.ensures.is c.find.ensures.world h in
    record {
      came = g.met.G.Ground.came_on _ _ _ c.loop-self.invariant.0 c.find.ensures.came;
      world = w.world;
      left = w.left;
      taken = w.takes;
      answer = w.answer;
      looks = w.looks;
      follows = w.follows;
      shown = shown_still Butterfly (state_of s) q q' (missed_shown Butterfly (state_of c.args.self.now) (state_of s) (g.G.Ground.place c.args.ground.now) q q' c.requires.follows i less c.next-reg.result c.next-reg.ensures.is c.find.ensures.world h) c.loop-self.invariant.2;
      slots = w.slots;
    }

-- the state after a register is taken in
taken_in : (k0 k k' : RoundState) (p q q' : P) (s : ℕ) → FollowsRound Butterfly k0 p → Came Butterfly k0 p k q → s ≡ stages k.federates → k.taken < all_registers Butterfly k → (reg : Reg) → reg ≡ register_after Butterfly k k.taken → IsInWorld q'
    → (share : Share) → HasLooked q reg k.round q' (Some share) → k' ≡ next_state k k'.value → (k.number < 2 ^ s → k'.value ≡ share_sum k.value share) → (2 ^ s ≤ k.number → k'.value ≡ share) → Came Butterfly k0 p k' q'
taken_in k0 k k' p q q' s f0 i is less reg next world share h state inner outer =
    let value : k'.value ≡ share_with_taken Butterfly k.federates k.number (own_share q.client) (q.client.taken ++ share ∷ []) = elim (cases_lt k.number (2 ^ s)) [
      | inl inside ↦ inner inside ∙ summed k q share i.follows less (subst (λ t. k.number < 2 ^ t) is inside)
      | inr out ↦ outer out ∙ handed k q share i.follows less (subst (λ t. 2 ^ t ≤ k.number) is out)
    ] in
    subst (λ (x : RoundState). Came Butterfly k0 p x q') (sym state) (found_on Butterfly k0 k p q q' f0 i less reg next world share h k'.value value)

pub show_value-requires : goal.show_value-requires
show_value-requires g c =
    let s = c.loop-self.self in
    let s' = c.take_in.new.self in
    let e = c.take_in.ensures in
    let k0 : RoundState = state_of c.args.self.now in
    let q : P = g.G.Ground.place c.loop-self.ground in
    let q' : P = g.G.Ground.place c.find.new.ground in
    let i = c.loop-self.invariant.1 in
    let all = all_are s.federates s.stages s.me s.counted in
    let test = c.loop-self-test.true in
    let many = c.registers.ensures in
    let more = e.taken in
    let before = i.takes.many in
    let next : state_of s' ≡ next_state (state_of s) s'.value = λ j. record { federates = e.federates j; number = e.me j; round = e.round j; value = s'.value; taken = e.taken j } in
    let now = taken_in k0 (state_of s) (state_of s') (g.G.Ground.place c.args.ground.now) q q' s.stages c.requires.follows i s.counted (omega (arith, all, test, many)) c.next-reg.result c.next-reg.ensures.is c.find.ensures.world c.in-Some.share c.in-Some.ensures.looked next e.inner e.outer in
    record {
      world = c.find.ensures.world;
      holds = look_holds k0 (state_of s') (g.G.Ground.place c.args.ground.now) q' now (omega (arith, more, before));
    }

pub loop-self-preserved : goal.loop-self-preserved
loop-self-preserved g c =
    let s = c.loop-self.self in
    let s' = c.take_in.new.self in
    let e = c.take_in.ensures in
    let k0 : RoundState = state_of c.args.self.now in
    let k' : RoundState = state_of s' in
    let p : P = g.G.Ground.place c.args.ground.now in
    let q : P = g.G.Ground.place c.loop-self.ground in
    let q' : P = g.G.Ground.place c.find.new.ground in
    let r : P = g.G.Ground.place c.show_value.new.ground in
    let i = c.loop-self.invariant.1 in
    let all = all_are s.federates s.stages s.me s.counted in
    let test = c.loop-self-test.true in
    let many = c.registers.ensures in
    let more = e.taken in
    let sofar = i.takes.many in
    let h = c.in-Some.ensures.looked in
    let same : q'.own.shown ≡ q.own.shown = λ j. (h.place j).own.shown in
    let next : state_of s' ≡ next_state (state_of s) s'.value = λ j. record { federates = e.federates j; number = e.me j; round = e.round j; value = s'.value; taken = e.taken j } in
    let now = taken_in k0 (state_of s) k' p q q' s.stages c.requires.follows i s.counted (omega (arith, all, test, many)) c.next-reg.result c.next-reg.ensures.is c.find.ensures.world c.in-Some.share h next e.inner e.outer in
    let newer : k0.taken < k'.taken = omega (arith, more, sofar) in
    let before = subst (λ (x : RoundState). ShowsBefore x q') (sym next) (shows_before (state_of s) s'.value q q' same c.loop-self.invariant.2) in (
      g.met.G.Ground.came_on _ _ _ (g.met.G.Ground.came_on _ _ _ c.loop-self.invariant.0 c.find.ensures.came) c.show_value.ensures.came,
      shown_came k0 k' p q' now newer r c.show_value.ensures.shows c.show_value.ensures.world,
      shown_slots k0 k' p q' now newer r c.show_value.ensures.shows c.show_value.ensures.world s'.fits before,
    )

pub returns : goal.returns
returns g c =
    let s = c.loop-self.self in
    let i = c.loop-self.invariant.1 in
    let all = all_are s.federates s.stages s.me s.counted in
    let many = c.registers.ensures in
    let test = c.loop-self-test.false in
    let most = s.taken_of in
    record {
      came = c.loop-self.invariant.0;
      world = i.world;
      left = i.left;
      taken = i.takes;
      answer = answered Butterfly (state_of c.args.self.now) (state_of s) (g.G.Ground.place c.args.ground.now) (g.G.Ground.place c.loop-self.ground) i (omega (arith, all, many, test, most));
      looks = let l = i.looks in omega (arith, l);
      follows = i.follows;
      shown = c.loop-self.invariant.2;
      slots = i.slots;
    }
