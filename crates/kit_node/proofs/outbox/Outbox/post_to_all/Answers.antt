use Rattle.std.proofs.Common.{◌≡◌, ◌+◌, ◌<◌, ◌≤◌, ℕ, suc, length, refl, sym, ap, ◌∙◌, subst, arith, rules, cond}
use Rattle.kit_ground.specs.declared.place.Deed.TheVariants.{PostedTo}
use Rattle.kit_ground.specs.declared.place.Place.{Place}
use Rattle.kit_ground.specs.Steps.{buffer_of, place_after}
use Rattle.kit_ground.proofs.WorldFacts.{few_federates}
use Rattle.kit_rules.specs.Delivery.{has_bit}
use Rattle.kit_lbts.specs.declared.view.LbtsView.{LbtsView}
use Rattle.kit_lbts.specs.Agreement.{agreeing_rule}
use Rattle.kit_lbts.specs.Progress.{view_after}
use Rattle.kit_lbts.specs.SeatLaws.{IsInWorld}
use Rattle.kit_node.specs.Fields.{one_post_more}
use Rattle.kit_node.specs.Sending.{posted_below, posts_after}
use Rattle.kit_node.specs.declared.posts.Posts.{Posts}
use Rattle.kit_node.proofs.PlaceTells.{stock_long}
use Rattle.kit_node.proofs.PostsBelow.{OwesOn, owes_below, posts_few}
use Rattle.kit_rules.proofs.ReceiverMasks.{bit_on}
use Rattle.kit_node.proofs.outbox.Outbox.post_to_all.Goals as goal

abbrev P : Type 0
P = Place LbtsView

-- what was posted, by the place where it began
owes_here : (p q : P) (n k mask : ℕ) → IsInWorld p → k < p.own.buffers → (buffer_of p.own.stock k).to_post ≡ mask → q ≡ posted_below n k mask p → OwesOn n k mask p q
owes_here p q n k mask w inside owed is =
    let long : length p.own.stock.buffers ≡ p.own.buffers = stock_long p w in
    subst (OwesOn n k mask p) (sym is) (owes_below n k mask p (omega arith) owed)

next : (n : ℕ) → suc n ≡ n + 1
next n = omega arith

pub post_to_member-requires-clause-buffer : goal.post_to_member-requires-clause-buffer
post_to_member-requires-clause-buffer g c =
    let p : P = g.G.Ground.place c.args.ground.now in
    let q : P = g.G.Ground.place c.loop-to.ground in
    let k : ℕ = c.args.buffer in
    let o = owes_here p q c.loop-to.to k c.args.mask c.requires.world c.requires.buffer c.requires.owed c.loop-to.invariant.place in
    subst (λ (x : ℕ). k < x) (sym o.seat.buffers) c.requires.buffer

pub post_to_member-requires-clause-to : goal.post_to_member-requires-clause-to
post_to_member-requires-clause-to g c =
    let p : P = g.G.Ground.place c.args.ground.now in
    let q : P = g.G.Ground.place c.loop-to.ground in
    let inside : c.loop-to.to < p.own.federates = search rules in
    let o = owes_here p q c.loop-to.to c.args.buffer c.args.mask c.requires.world c.requires.buffer c.requires.owed c.loop-to.invariant.place in
    subst (λ (x : ℕ). c.loop-to.to < x) (sym o.seat.federates) inside

pub post_to_member-requires-clause-owed : goal.post_to_member-requires-clause-owed
post_to_member-requires-clause-owed g c on =
    let p : P = g.G.Ground.place c.args.ground.now in
    let q : P = g.G.Ground.place c.loop-to.ground in
    let to : ℕ = c.loop-to.to in
    let o = owes_here p q to c.args.buffer c.args.mask c.requires.world c.requires.buffer c.requires.owed c.loop-to.invariant.place in
    o.owed to (omega arith) ∙ bit_on c.args.mask to on

pub post_to_member-requires-clause-posts : goal.post_to_member-requires-clause-posts
post_to_member-requires-clause-posts g c =
    let p : P = g.G.Ground.place c.args.ground.now in
    let w = c.requires.world in
    let few : p.own.federates ≤ 16 = few_federates agreeing_rule p w.0 w.1 w.2 in
    let to : ℕ = c.loop-to.to in
    let inside : to < p.own.federates = search rules in
    let is : c.loop-to.self.posts.own ≡ (posts_after c.args.time c.args.mask to c.args.self.now.posts).own = ap (λ (x : Posts). x.own) c.loop-to.invariant.posts in
    let more = posts_few c.args.time c.args.mask to c.args.self.now.posts in
    let room = c.requires.posts in
    omega arith

pub loop-to-init : goal.loop-to-init
loop-to-init g c = record { came = g.met.G.Ground.came_here c.args.ground.now; world = c.requires.world; place = refl; posts = refl; messages = refl; done = refl; put = refl }

pub loop-to-preserved : goal.loop-to-preserved
loop-to-preserved g c =
    let p : P = g.G.Ground.place c.args.ground.now in
    let k : ℕ = c.args.buffer in
    let mask : ℕ = c.args.mask in
    let to : ℕ = c.loop-to.to in
    let time : ℕ = c.args.time in
    let inv = c.loop-to.invariant in
    let r = c.post_to_member.ensures in
    record {
      came = g.met.G.Ground.came_on _ _ _ inv.came r.came;
      world = r.world;
      place =
          r.place ∙ (ap (λ (q : P). cond (has_bit mask to) (place_after view_after (PostedTo k to) q) q) inv.place
          ∙ ap (λ (n : ℕ). posted_below n k mask p) (next to));
      posts =
          r.counted ∙ (ap (λ (o : Posts). cond (has_bit mask to) (one_post_more time o) o) inv.posts
          ∙ ap (λ (n : ℕ). posts_after time mask n c.args.self.now.posts) (next to));
      messages = r.messages ∙ inv.messages;
      done = r.done ∙ inv.done;
      put = r.put ∙ inv.put;
    }

pub returns-clause-place : goal.returns-clause-place
returns-clause-place g c =
    let p : P = g.G.Ground.place c.args.ground.now in
    let all : c.loop-to.to ≡ p.own.federates = search rules in
    c.loop-to.invariant.place ∙ ap (λ (n : ℕ). posted_below n c.args.buffer c.args.mask p) all

pub returns-clause-counted : goal.returns-clause-counted
returns-clause-counted g c =
    let p : P = g.G.Ground.place c.args.ground.now in
    let all : c.loop-to.to ≡ p.own.federates = search rules in
    c.loop-to.invariant.posts ∙ ap (λ (n : ℕ). posts_after c.args.time c.args.mask n c.args.self.now.posts) all
