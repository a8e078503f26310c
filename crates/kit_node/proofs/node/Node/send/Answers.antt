use Rattle.std.proofs.Common.{◌≡◌, ◌≤◌, ℕ, length, refl, sym, ap, subst, ◌∙◌, arith}
use Rattle.std.specs.Prelude.{Option, true}
use Rattle.std.proofs.lemmas.Bool.{false≢true}
use Rattle.kit_ground.specs.declared.place.Place.{Place}
use Rattle.kit_rounds.specs.Ledgers.{last_run}
use Rattle.kit_lbts.specs.declared.view.LbtsView.{LbtsView}
use Rattle.kit_lbts.specs.Views.{time_of}
use Rattle.kit_node.specs.Sending.{HasSent}
use Rattle.kit_lbts.proofs.FewColours.{colour_few}
use Rattle.kit_node.proofs.HeldUp.{held_up, not_held_up}
use Rattle.kit_node.proofs.MirrorFrames.{mirrors_after_posts}
use Rattle.kit_node.proofs.node.Node.send.Goals as goal

abbrev P : Type 0
P = Place LbtsView

pub post_all-posted-requires-clause-small : goal.post_all-posted-requires-clause-small
post_all-posted-requires-clause-small g c =
    let p : P = g.G.Ground.place c.args.ground.now in
    let r = c.requires.mirrors.rounds in
    let few : last_run p.client.contributions ≤ length p.client.contributions = colour_few p c.requires.world in
    let is : c.args.self.now.rounds.colour ≡ last_run p.client.contributions = r.colour in
    let taken : c.args.self.now.rounds.taken ≡ length p.client.contributions = r.taken in
    let limited = r.limited in
    let small = r.small in
    omega arith

-- a bad end for want of a buffer is right where each buffer has a later message
pub returns-then-is_held_up-clause-held_up : goal.returns-then-is_held_up-clause-held_up
returns-then-is_held_up-clause-held_up g c =
    let p : P = g.G.Ground.place c.args.ground.now in
    let q : P = g.G.Ground.place c.post_all-posted.new.ground in
    let m = c.requires.mirrors in
    let s = c.post_all-posted.ensures.sent in
    let time : c.args.self.now.course.now ≡ time_of q.client = m.course.now ∙ sym (ap time_of s.done.view) in
    let all = c.is_held_up.ensures.0 c.if-is_held_up.true in
    (c.in-Some.number, c.post_all-posted.result.posted, refl, subst (λ (w : Option ℕ). HasSent c.post_all-posted.result.posted w p q) c.in-Some.is s, held_up q c.post_all-posted.ensures.world c.args.self.now.course.now _ time c.post_all-posted.ensures.mirrors.put all)

pub returns-else-is_held_up-clause-sent : goal.returns-else-is_held_up-clause-sent
returns-else-is_held_up-clause-sent g c =
    let p : P = g.G.Ground.place c.args.ground.now in
    let q : P = g.G.Ground.place c.post_all-posted.new.ground in
    let m = c.requires.mirrors in
    let s = c.post_all-posted.ensures.sent in
    let time : c.args.self.now.course.now ≡ time_of q.client = m.course.now ∙ sym (ap time_of s.done.view) in (
      c.post_all-posted.result.waits,
      s,
      λ held.
          let on : c.is_held_up.result ≡ true = c.is_held_up.ensures.1 (not_held_up q c.post_all-posted.ensures.world c.args.self.now.course.now _ time c.post_all-posted.ensures.mirrors.put held) in
          absurd (false≢true (sym c.if-is_held_up.false ∙ on)),
    )

pub returns-then-is_held_up-clause-mirrors : goal.returns-then-is_held_up-clause-mirrors
returns-then-is_held_up-clause-mirrors g c =
    let p : P = g.G.Ground.place c.args.ground.now in
    let q : P = g.G.Ground.place c.post_all-posted.new.ground in
    mirrors_after_posts _ c.args.self.now _ p q c.post_all-posted.ensures.sent.count refl c.post_all-posted.ensures.sent.done c.post_all-posted.ensures.mirrors c.requires.mirrors

pub returns-else-is_held_up-clause-mirrors : goal.returns-else-is_held_up-clause-mirrors
returns-else-is_held_up-clause-mirrors g c =
    let p : P = g.G.Ground.place c.args.ground.now in
    let q : P = g.G.Ground.place c.post_all-posted.new.ground in
    mirrors_after_posts _ c.args.self.now _ p q c.post_all-posted.ensures.sent.count refl c.post_all-posted.ensures.sent.done c.post_all-posted.ensures.mirrors c.requires.mirrors

pub returns-in_default-clause-mirrors : goal.returns-in_default-clause-mirrors
returns-in_default-clause-mirrors g c =
    let p : P = g.G.Ground.place c.args.ground.now in
    let q : P = g.G.Ground.place c.post_all-posted.new.ground in
    mirrors_after_posts _ c.args.self.now _ p q c.post_all-posted.ensures.sent.count refl c.post_all-posted.ensures.sent.done c.post_all-posted.ensures.mirrors c.requires.mirrors
