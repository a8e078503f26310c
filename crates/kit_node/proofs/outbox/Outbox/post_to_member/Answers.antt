use Rattle.std.proofs.Common.{◌≡◌, ◌<◌, ◌≤◌, Bool, true, false, sym, ap, ◌∙◌, arith, cond}
use Rattle.kit_ground.specs.declared.place.Deed.TheVariants.{PostedTo}
use Rattle.kit_ground.specs.declared.place.Place.{Place}
use Rattle.kit_ground.specs.Steps.{place_after}
use Rattle.kit_ground.proofs.WorldFacts.{few_federates}
use Rattle.kit_rules.specs.Delivery.{has_bit}
use Rattle.kit_lbts.specs.declared.view.LbtsView.{LbtsView}
use Rattle.kit_lbts.specs.Agreement.{agreeing_rule}
use Rattle.kit_lbts.specs.Progress.{view_after}
use Rattle.kit_node.specs.Fields.{one_post_more}
use Rattle.kit_node.specs.declared.posts.Posts.{Posts}
use Rattle.kit_node.proofs.outbox.Outbox.post_to_member.Goals as goal

abbrev P : Type 0
P = Place LbtsView

pub is_member-requires : goal.is_member-requires
is_member-requires g c =
    let p : P = g.G.Ground.place c.args.ground.now in
    let w = c.requires.world in
    let few : p.own.federates ≤ 16 = few_federates agreeing_rule p w.0 w.1 w.2 in
    let inside : c.args.to < p.own.federates = c.requires.to in
    omega arith

pub post-requires-clause-owed : goal.post-requires-clause-owed
post-requires-clause-owed g c = c.requires.owed (sym c.is_member.ensures ∙ c.if-is_member.true)

pub returns-then-is_member-clause-place : goal.returns-then-is_member-clause-place
returns-then-is_member-clause-place g c =
    let p : P = g.G.Ground.place c.args.ground.now in
    let on : has_bit c.args.mask c.args.to ≡ true = sym c.is_member.ensures ∙ c.if-is_member.true in
    c.post.ensures.place ∙ sym (ap (λ (b : Bool). cond b (place_after view_after (PostedTo c.args.buffer c.args.to) p) p) on)

pub returns-then-is_member-clause-counted : goal.returns-then-is_member-clause-counted
returns-then-is_member-clause-counted g c =
    let o : Posts = c.args.self.now.posts in
    let on : has_bit c.args.mask c.args.to ≡ true = sym c.is_member.ensures ∙ c.if-is_member.true in
    c.add.ensures ∙ sym (ap (λ (b : Bool). cond b (one_post_more c.args.time o) o) on)

pub returns-else-is_member-clause-place : goal.returns-else-is_member-clause-place
returns-else-is_member-clause-place g c =
    let p : P = g.G.Ground.place c.args.ground.now in
    let off : has_bit c.args.mask c.args.to ≡ false = sym c.is_member.ensures ∙ c.if-is_member.false in
    sym (ap (λ (b : Bool). cond b (place_after view_after (PostedTo c.args.buffer c.args.to) p) p) off)

pub returns-else-is_member-clause-counted : goal.returns-else-is_member-clause-counted
returns-else-is_member-clause-counted g c =
    let o : Posts = c.args.self.now.posts in
    let off : has_bit c.args.mask c.args.to ≡ false = sym c.is_member.ensures ∙ c.if-is_member.false in
    sym (ap (λ (b : Bool). cond b (one_post_more c.args.time o) o) off)
