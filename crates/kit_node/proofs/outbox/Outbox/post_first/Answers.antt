use Rattle.std.proofs.Common.{◌≡◌, ◌+◌, ◌<◌, ℕ, length, drop, sym, ap, ◌∙◌, subst, arith}
use Rattle.std.specs.Prelude.{slice_set}
use Rattle.kit_base.specs.declared.message.Message.{Message}
use Rattle.kit_ground.specs.declared.place.Place.{Place}
use Rattle.kit_ground.specs.Steps.{buffer_of}
use Rattle.kit_rules.specs.Delivery.{receivers_of}
use Rattle.kit_rules.specs.Parts.{Parts}
use Rattle.kit_lbts.specs.declared.view.LbtsView.{LbtsView}
use Rattle.kit_lbts.proofs.SeatFacts.{copies_are_few}
use Rattle.kit_node.specs.declared.outbox.Outbox.{Outbox}
use Rattle.kit_node.specs.declared.posts.Posts.{Posts}
use Rattle.kit_node.specs.Fields.{waiting_in}
use Rattle.kit_node.specs.Mirrors.{MirrorsOutbox}
use Rattle.kit_node.specs.Sending.{HasPosted, posted_place, posts_after}
use Rattle.kit_node.proofs.PlaceTells.{stock_long}
use Rattle.kit_node.proofs.PostedWhole.{charged_owes, mirrors_first, posted_first, some_waits}
use Rattle.kit_node.proofs.outbox.Outbox.post_first.Goals as goal

abbrev P : Type 0
P = Place LbtsView

-- what waits is the same where messages and their number posted are
same_waits : (a b : Outbox) → a.messages ≡ b.messages → a.done ≡ b.done → waiting_in a ≡ waiting_in b
same_waits a b messages done = λ i. drop (done i) (messages i).items

pub put-requires-clause-mask : goal.put-requires-clause-mask
put-requires-clause-mask g c =
    let m : Message = c.args.message.now in
    c.receivers-mask.ensures ∙ ap (λ (f : Parts). receivers_of f m.sender m.group) (sym c.requires.federation)

pub post_to_all-requires-clause-buffer : goal.post_to_all-requires-clause-buffer
post_to_all-requires-clause-buffer g c = subst (λ (q : P). c.args.buffer < q.own.buffers) (sym c.put.ensures.place) c.requires.buffer

pub post_to_all-requires-clause-owed : goal.post_to_all-requires-clause-owed
post_to_all-requires-clause-owed g c =
    let p : P = g.G.Ground.place c.args.ground.now in
    let k : ℕ = c.args.buffer in
    let inside : k < p.own.buffers = c.requires.buffer in
    let long : length p.own.stock.buffers ≡ p.own.buffers = stock_long p c.requires.world in
    ap (λ (q : P). (buffer_of q.own.stock k).to_post) c.put.ensures.place ∙ charged_owes p c.args.message.now c.args.colour k c.receivers-mask.result (omega arith)

pub post_to_all-requires-clause-posts : goal.post_to_all-requires-clause-posts
post_to_all-requires-clause-posts g c =
    let p : P = g.G.Ground.place c.args.ground.now in
    let few = (copies_are_few p c.requires.world).0 in
    let all : c.args.self.now.posts.older + c.args.self.now.posts.own ≡ length p.client.posted = c.requires.mirrors.posts.all_counted in
    let same : c.put.new.self.posts.own ≡ c.args.self.now.posts.own = ap (λ (x : Posts). x.own) c.put.ensures.posts in
    omega arith

pub pass-requires : goal.pass-requires
pass-requires g c =
    let o : Outbox = c.post_to_all.new.self in
    let before = same_waits o c.args.self.now (c.post_to_all.ensures.messages ∙ c.put.ensures.messages) (c.post_to_all.ensures.done ∙ c.put.ensures.done) in
    some_waits o c.args.message.now c.requires.first.rest (before ∙ (c.requires.mirrors.messages ∙ c.requires.first.outbox))

pub returns-clause-posted : goal.returns-clause-posted
returns-clause-posted g c =
    let p : P = g.G.Ground.place c.args.ground.now in
    let m : Message = c.args.message.now in
    let k : ℕ = c.args.buffer in
    let mask : ℕ = c.receivers-mask.result in
    let all : mask ≡ receivers_of p.client.federation m.sender m.group = c.receivers-mask.ensures ∙ ap (λ (f : Parts). receivers_of f m.sender m.group) (sym c.requires.federation) in
    let is = c.post_to_all.ensures.place ∙ ap (λ (q : P). posted_place k mask q) c.put.ensures.place in
    subst (λ (q : P). HasPosted 1 p q) (sym is) (posted_first p c.requires.world m c.args.colour k mask c.requires.first c.requires.buffer all)

pub returns-clause-mirrors : goal.returns-clause-mirrors
returns-clause-mirrors g c =
    let p : P = g.G.Ground.place c.args.ground.now in
    let m : Message = c.args.message.now in
    let k : ℕ = c.args.buffer in
    let mask : ℕ = c.receivers-mask.result in
    let r = c.requires in
    let o : Outbox = c.args.self.now in
    let after : Outbox = c.pass.new.self in
    let all : mask ≡ receivers_of p.client.federation m.sender m.group = c.receivers-mask.ensures ∙ ap (λ (f : Parts). receivers_of f m.sender m.group) (sym r.federation) in
    let is = c.post_to_all.ensures.place ∙ ap (λ (q : P). posted_place k mask q) c.put.ensures.place in
    let before = same_waits c.post_to_all.new.self o (c.post_to_all.ensures.messages ∙ c.put.ensures.messages) (c.post_to_all.ensures.done ∙ c.put.ensures.done) in
    let put : after.put.items ≡ slice_set o.put.items k m.time = ap (λ v. v.items) c.pass.ensures.put ∙ (ap (λ v. v.items) c.post_to_all.ensures.put ∙ c.put.ensures.put) in
    let posts : after.posts ≡ posts_after m.time mask p.own.federates o.posts =
    c.pass.ensures.posts ∙ (c.post_to_all.ensures.counted ∙ (λ i. posts_after m.time mask (c.put.ensures.place i).own.federates (c.put.ensures.posts i))) in
    subst (λ (q : P). MirrorsOutbox after q.client) (sym is)
    (mirrors_first p r.world m c.args.colour k mask r.first r.buffer all o after r.mirrors r.colour (c.pass.ensures.waiting ∙ ap (drop 1) before) c.pass.ensures.done c.pass.ensures.emptied put posts)
