use Rattle.std.proofs.Common.{rules, ◌≡◌, ◌≢◌, ◌<◌, ◌||◌, ℕ, Bool, true, false, [], length, refl, sym, ap, ◌∙◌, subst, arith}
use Rattle.std.specs.Prelude.{Err, IfErr, None}
use Rattle.kit_ground.specs.declared.place.Place.{Place}
use Rattle.kit_rules.specs.Parts.{Parts}
use Rattle.kit_lbts.specs.declared.view.LbtsView.{LbtsView}
use Rattle.kit_lbts.specs.Views.{messages_received}
use Rattle.kit_lbts.proofs.SeatFacts.{places_tell}
use Rattle.kit_node.specs.declared.ends.NodeEnd.{NodeEnd}
use Rattle.kit_node.specs.declared.node.Node.{Node}
use Rattle.kit_node.specs.Granting.{IsRefusal}
use Rattle.kit_node.specs.Mirrors.{IsReportOf, shows}
use Rattle.kit_node.specs.Turns.{HasEndedBy, IsHeldUpBy, SameNode}
use Rattle.kit_node.proofs.Alone.{waits_received}
use Rattle.kit_node.proofs.Ending.{early_still, ends_at_grant, ends_at_start, ends_held_up, ends_in_rounds, err_then, gone_in_part, gone_settled, start_did, start_mirrors, start_same}
use Rattle.kit_node.proofs.GrantMirrors.{me_within}
use Rattle.kit_node.proofs.Reductions.{same_twice}
use Rattle.kit_node.proofs.ReceiptOrders.{received_nothing, received_then}
use Rattle.kit_node.proofs.TurnOrders.{received_posted, received_settled, turn_in_order}
use Rattle.kit_node.proofs.Working.{grant_leaves, settled_by, works}
use Rattle.kit_node.proofs.node.Node.work.Goals as goal

abbrev P : Type 0
P = Place LbtsView

pub start-requires-clause-me : goal.start-requires-clause-me
start-requires-clause-me g c = me_within (shows g.Q.Order.entries g.R.Reduction.scheme g.R.Reduction.state) c.args.federation.now c.args.self.now (g.G.Ground.place c.args.ground.now) c.requires.world c.requires.federation c.requires.mirrors

pub start-requires-clause-empty : goal.start-requires-clause-empty
start-requires-clause-empty g c new =
    let p : P = g.G.Ground.place c.args.ground.now in
    let m = c.requires.mirrors in
    m.outbox.emptied ((places_tell p c.requires.world).sends.new (sym m.course.request ∙ new)).3

pub returns-in_err-started-clause-ends : goal.returns-in_err-started-clause-ends
returns-in_err-started-clause-ends g c =
    let sh = shows g.Q.Order.entries g.R.Reduction.scheme g.R.Reduction.state in
    let p : P = g.G.Ground.place c.args.ground.now in
    err_then c.from_residual.result (λ (end : NodeEnd). HasEndedBy end c.start.new.self p p) (λ end is.
    let was : c.start.result ≡ Err end = search rules in
    ends_at_start sh c.args.federation.now c.args.self.now p c.requires.world c.requires.federation c.requires.mirrors c.requires.early c.start.new.self end
    (subst (λ r. IfErr r IsRefusal) was c.start.ensures.bad) c.in_err-started.ensures.refused (λ e. c.start.ensures.spent (was ∙ ap Err e)))

pub receive-requires-clause-mirrors : goal.receive-requires-clause-mirrors
receive-requires-clause-mirrors g c =
    start_mirrors (shows g.Q.Order.entries g.R.Reduction.scheme g.R.Reduction.state) c.args.federation.now c.args.self.now c.start.new.self (g.G.Ground.place c.args.ground.now) c.requires.world c.requires.federation c.requires.mirrors
    c.in_ok-started.started c.in_ok-started.ensures.done c.in_ok-started.ensures.begun c.in_ok-started.ensures.answer

pub post_waiting-requires-clause-waits : goal.post_waiting-requires-clause-waits
post_waiting-requires-clause-waits g c = waits_received (g.G.Ground.place c.args.ground.now) (g.G.Ground.place c.receive.new.ground) c.requires.world c.in_ok-received.ensures.received

pub returns-in_err-posted-clause-ends : goal.returns-in_err-posted-clause-ends
returns-in_err-posted-clause-ends g c =
    let sh = shows g.Q.Order.entries g.R.Reduction.scheme g.R.Reduction.state in
    let p : P = g.G.Ground.place c.args.ground.now in
    let p1 : P = g.G.Ground.place c.receive.new.ground in
    let p2 : P = g.G.Ground.place c.post_waiting.new.ground in
    err_then c.from_residual-in_err-posted.result (λ (end : NodeEnd). HasEndedBy end c.post_waiting.new.self p p2) (λ end is.
    let was : c.post_waiting.result ≡ Err end = search rules in
    ends_held_up sh c.post_waiting.new.self end p p1 p2 c.requires.world c.receive.ensures.world c.in_ok-received.ensures.received c.requires.early c.post_waiting.ensures.mirrors
    (subst (λ r. IfErr r (λ (x : NodeEnd). IsHeldUpBy x p1 p2)) was c.post_waiting.ensures.held_up))

-- the node until its reduction
same_posted : {Q R : Type 0} (a b d e : Node Q R) → SameNode a b → d ≡ record b { inbox = d.inbox; journal = d.journal } → e ≡ record d { outbox = e.outbox } → SameNode a e
same_posted a b d e s received posted =
    same_twice a b e s (subst (λ (x : Node _ _). SameNode b x) (sym posted)
    (record { me = ap (λ x. x.me) received; limit = ap (λ x. x.rounds.limit) received; turns = ap (λ x. x.turns) received; ended = ap (λ x. x.ended) received }))

same_settled : {Q R : Type 0} (a b d : Node Q R) → SameNode a b → d ≡ record b { inbox = d.inbox } → SameNode a d
same_settled a b d s settled = subst (λ (x : Node _ _). SameNode a x) (sym settled) (record { me = s.me; limit = s.limit; turns = s.turns; ended = s.ended })

pub returns-in_err-reduced-clause-came : goal.returns-in_err-reduced-clause-came
returns-in_err-reduced-clause-came g c =
    let on = g.met.G.Ground.came_on in
    on _ _ _ (on _ _ _ c.receive.ensures.came c.post_waiting.ensures.came) c.reduce.ensures.came

pub returns-in_err-reduced-clause-same : goal.returns-in_err-reduced-clause-same
returns-in_err-reduced-clause-same g c =
    same_twice c.args.self.now c.post_waiting.new.self c.reduce.new.self
    (same_posted c.args.self.now c.start.new.self c.receive.new.self c.post_waiting.new.self
    (start_same (shows g.Q.Order.entries g.R.Reduction.scheme g.R.Reduction.state) c.args.federation.now c.args.self.now c.start.new.self (g.G.Ground.place c.args.ground.now) c.requires.world c.requires.federation c.requires.mirrors
    c.in_ok-started.started c.in_ok-started.ensures.done c.in_ok-started.ensures.begun c.in_ok-started.ensures.answer) c.receive.ensures.others c.post_waiting.ensures.others) c.reduce.ensures.same

pub grant-requires-clause-federation : goal.grant-requires-clause-federation
grant-requires-clause-federation g c =
    let p : P = g.G.Ground.place c.args.ground.now in
    let p1 : P = g.G.Ground.place c.receive.new.ground in
    let p2 : P = g.G.Ground.place c.post_waiting.new.ground in
    let p3 : P = g.G.Ground.place c.reduce.new.ground in
    let p4 : P = g.G.Ground.place c.settle-released.new.ground in
    (gone_settled c.in_ok-posted.posted c.in_ok-reduced.reduced c.settle-released.result p p1 p2 p3 p4 c.requires.world c.in_ok-received.ensures.received c.in_ok-posted.ensures.sent c.in_ok-reduced.ensures.reduced c.settle-released.ensures.settled).federation
    ∙ c.requires.federation

pub grant-requires-clause-settled : goal.grant-requires-clause-settled
grant-requires-clause-settled g c = settled_by c.settle-released.result (g.G.Ground.place c.reduce.new.ground) (g.G.Ground.place c.settle-released.new.ground) c.settle-released.ensures.settled

pub grant-requires-clause-early : goal.grant-requires-clause-early
grant-requires-clause-early g c =
    let p : P = g.G.Ground.place c.args.ground.now in
    let p1 : P = g.G.Ground.place c.receive.new.ground in
    let p2 : P = g.G.Ground.place c.post_waiting.new.ground in
    let p3 : P = g.G.Ground.place c.reduce.new.ground in
    let p4 : P = g.G.Ground.place c.settle-released.new.ground in
    early_still p p4
    (gone_settled c.in_ok-posted.posted c.in_ok-reduced.reduced c.settle-released.result p p1 p2 p3 p4 c.requires.world c.in_ok-received.ensures.received c.in_ok-posted.ensures.sent c.in_ok-reduced.ensures.reduced c.settle-released.ensures.settled)
    c.requires.early

pub returns-in_err-granted-clause-came : goal.returns-in_err-granted-clause-came
returns-in_err-granted-clause-came g c =
    let on = g.met.G.Ground.came_on in
    on _ _ _ (on _ _ _ (on _ _ _ (on _ _ _ c.receive.ensures.came c.post_waiting.ensures.came) c.reduce.ensures.came) c.settle-released.ensures.came) c.grant.ensures.came

pub returns-clause-came : goal.returns-clause-came
returns-clause-came g c =
    let on = g.met.G.Ground.came_on in
    on _ _ _ (on _ _ _ (on _ _ _ (on _ _ _ c.receive.ensures.came c.post_waiting.ensures.came) c.reduce.ensures.came) c.settle-released.ensures.came) c.grant.ensures.came

pub returns-in_err-granted-clause-same : goal.returns-in_err-granted-clause-same
returns-in_err-granted-clause-same g c =
    same_twice c.args.self.now c.settle-released.new.self c.grant.new.self
    (same_settled c.args.self.now c.reduce.new.self c.settle-released.new.self
    (same_twice c.args.self.now c.post_waiting.new.self c.reduce.new.self
    (same_posted c.args.self.now c.start.new.self c.receive.new.self c.post_waiting.new.self
    (start_same (shows g.Q.Order.entries g.R.Reduction.scheme g.R.Reduction.state) c.args.federation.now c.args.self.now c.start.new.self (g.G.Ground.place c.args.ground.now) c.requires.world c.requires.federation c.requires.mirrors
    c.in_ok-started.started c.in_ok-started.ensures.done c.in_ok-started.ensures.begun c.in_ok-started.ensures.answer) c.receive.ensures.others c.post_waiting.ensures.others) c.reduce.ensures.same)
    c.settle-released.ensures.others) c.grant.ensures.same

pub returns-clause-same : goal.returns-clause-same
returns-clause-same g c =
    same_twice c.args.self.now c.settle-released.new.self c.grant.new.self
    (same_settled c.args.self.now c.reduce.new.self c.settle-released.new.self
    (same_twice c.args.self.now c.post_waiting.new.self c.reduce.new.self
    (same_posted c.args.self.now c.start.new.self c.receive.new.self c.post_waiting.new.self
    (start_same (shows g.Q.Order.entries g.R.Reduction.scheme g.R.Reduction.state) c.args.federation.now c.args.self.now c.start.new.self (g.G.Ground.place c.args.ground.now) c.requires.world c.requires.federation c.requires.mirrors
    c.in_ok-started.started c.in_ok-started.ensures.done c.in_ok-started.ensures.begun c.in_ok-started.ensures.answer) c.receive.ensures.others c.post_waiting.ensures.others) c.reduce.ensures.same)
    c.settle-released.ensures.others) c.grant.ensures.same

pub returns-in_err-granted-clause-ends : goal.returns-in_err-granted-clause-ends
returns-in_err-granted-clause-ends g c =
    let p : P = g.G.Ground.place c.args.ground.now in
    let p1 : P = g.G.Ground.place c.receive.new.ground in
    let p2 : P = g.G.Ground.place c.post_waiting.new.ground in
    let p3 : P = g.G.Ground.place c.reduce.new.ground in
    let p4 : P = g.G.Ground.place c.settle-released.new.ground in
    let q : P = g.G.Ground.place c.grant.new.ground in
    let gone = gone_settled c.in_ok-posted.posted c.in_ok-reduced.reduced c.settle-released.result p p1 p2 p3 p4 c.requires.world c.in_ok-received.ensures.received c.in_ok-posted.ensures.sent c.in_ok-reduced.ensures.reduced c.settle-released.ensures.settled in
    err_then c.from_residual-in_err-granted.result (λ (end : NodeEnd). HasEndedBy end c.grant.new.self p q) (λ end is.
    let was : c.grant.result ≡ Err end = search rules in
    let h = subst (λ r. IfErr r (λ (x : NodeEnd). IsRefusal x × (q ≡ p4) × IsReportOf c.grant.new.self p4)) was c.grant.ensures.refused in
    subst (λ (x : P). HasEndedBy end c.grant.new.self p x) (sym h.1)
    (ends_at_grant c.grant.new.self end p p4 gone c.requires.early c.settle-released.ensures.mirrors.calm h.0 h.2 (λ e. c.grant.ensures.spent (was ∙ ap Err e))))

pub returns-clause-worked : goal.returns-clause-worked
returns-clause-worked g c =
    let sh = shows g.Q.Order.entries g.R.Reduction.scheme g.R.Reduction.state in
    let n = c.args.self.now in
    let r = c.requires in
    let p : P = g.G.Ground.place c.args.ground.now in
    let p1 : P = g.G.Ground.place c.receive.new.ground in
    let p2 : P = g.G.Ground.place c.post_waiting.new.ground in
    let p3 : P = g.G.Ground.place c.reduce.new.ground in
    let p4 : P = g.G.Ground.place c.settle-released.new.ground in
    let q : P = g.G.Ground.place c.grant.new.ground in
    let did = start_did sh c.args.federation.now n c.start.new.self p r.world r.federation r.mirrors c.in_ok-started.started c.in_ok-started.ensures.done c.in_ok-started.ensures.begun c.in_ok-started.ensures.answer in
    works c.in_ok-started.started c.in_ok-received.received c.in_ok-posted.posted c.in_ok-reduced.reduced c.settle-released.result c.in_ok-granted.granted p p1 p2 p3 p4 q
    r.world c.receive.ensures.world c.post_waiting.ensures.world c.reduce.ensures.world c.settle-released.ensures.world c.grant.ensures.world
    c.in_ok-received.ensures.received c.in_ok-posted.ensures.sent c.in_ok-reduced.ensures.reduced c.settle-released.ensures.settled c.in_ok-granted.ensures.granted
    c.in_ok-reduced.ensures.mirrors.calm c.settle-released.ensures.mirrors.calm c.in_ok-granted.ensures.mirrors.calm r.within did c.in_ok-received.ensures.silent c.in_ok-received.ensures.heard c.in_ok-received.ensures.still

pub returns-in_err-received-clause-federation : goal.returns-in_err-received-clause-federation
returns-in_err-received-clause-federation g c = (gone_in_part (g.G.Ground.place c.args.ground.now) (g.G.Ground.place c.receive.new.ground) c.in_err-received.ensures.refused.2).federation ∙ c.requires.federation

pub returns-in_err-granted-clause-federation : goal.returns-in_err-granted-clause-federation
returns-in_err-granted-clause-federation g c =
    let p : P = g.G.Ground.place c.args.ground.now in
    let p1 : P = g.G.Ground.place c.receive.new.ground in
    let p2 : P = g.G.Ground.place c.post_waiting.new.ground in
    let p3 : P = g.G.Ground.place c.reduce.new.ground in
    let p4 : P = g.G.Ground.place c.settle-released.new.ground in
    let q : P = g.G.Ground.place c.grant.new.ground in
    let gone = gone_settled c.in_ok-posted.posted c.in_ok-reduced.reduced c.settle-released.result p p1 p2 p3 p4 c.requires.world c.in_ok-received.ensures.received c.in_ok-posted.ensures.sent c.in_ok-reduced.ensures.reduced c.settle-released.ensures.settled in
    ap (λ (x : P). x.client.federation) c.in_err-granted.ensures.refused.1 ∙ (gone.federation ∙ c.requires.federation)

pub returns-clause-federation : goal.returns-clause-federation
returns-clause-federation g c =
    let p : P = g.G.Ground.place c.args.ground.now in
    let p1 : P = g.G.Ground.place c.receive.new.ground in
    let p2 : P = g.G.Ground.place c.post_waiting.new.ground in
    let p3 : P = g.G.Ground.place c.reduce.new.ground in
    let p4 : P = g.G.Ground.place c.settle-released.new.ground in
    let q : P = g.G.Ground.place c.grant.new.ground in
    let gone = gone_settled c.in_ok-posted.posted c.in_ok-reduced.reduced c.settle-released.result p p1 p2 p3 p4 c.requires.world c.in_ok-received.ensures.received c.in_ok-posted.ensures.sent c.in_ok-reduced.ensures.reduced c.settle-released.ensures.settled in
    (grant_leaves c.in_ok-granted.granted p4 q c.in_ok-granted.ensures.granted).federation ∙ (gone.federation ∙ c.requires.federation)

pub returns-in_err-started-clause-order : goal.returns-in_err-started-clause-order
returns-in_err-started-clause-order g c = let p : P = g.G.Ground.place c.args.ground.now in received_nothing p p refl

pub returns-in_err-posted-clause-order : goal.returns-in_err-posted-clause-order
returns-in_err-posted-clause-order g c =
    let p : P = g.G.Ground.place c.args.ground.now in
    let p1 : P = g.G.Ground.place c.receive.new.ground in
    let p2 : P = g.G.Ground.place c.post_waiting.new.ground in
    let sent = c.in_err-posted.ensures.held_up.sent in
    received_then p p1 p2 c.receive.ensures.order (received_posted sent.count p1 p2 sent.done)

pub returns-in_err-reduced-clause-order : goal.returns-in_err-reduced-clause-order
returns-in_err-reduced-clause-order g c =
    let p : P = g.G.Ground.place c.args.ground.now in
    let p1 : P = g.G.Ground.place c.receive.new.ground in
    let p2 : P = g.G.Ground.place c.post_waiting.new.ground in
    let sent = c.in_ok-posted.ensures.sent.sent in
    let same = received_posted sent.count p1 p2 sent.done in
    received_then p p1 (g.G.Ground.place c.reduce.new.ground) c.receive.ensures.order (ap (λ (x : P). messages_received x.client) c.in_err-reduced.ensures.refused.1 ∙ same)

pub returns-in_err-granted-clause-order : goal.returns-in_err-granted-clause-order
returns-in_err-granted-clause-order g c =
    let p : P = g.G.Ground.place c.args.ground.now in
    let p1 : P = g.G.Ground.place c.receive.new.ground in
    let p2 : P = g.G.Ground.place c.post_waiting.new.ground in
    let p3 : P = g.G.Ground.place c.reduce.new.ground in
    let p4 : P = g.G.Ground.place c.settle-released.new.ground in
    let same = received_settled c.in_ok-posted.posted c.in_ok-reduced.reduced c.settle-released.result p1 p2 p3 p4 c.in_ok-posted.ensures.sent c.in_ok-reduced.ensures.reduced c.settle-released.ensures.settled in
    received_then p p1 (g.G.Ground.place c.grant.new.ground) c.receive.ensures.order (ap (λ (x : P). messages_received x.client) c.in_err-granted.ensures.refused.1 ∙ same)

pub returns-clause-order : goal.returns-clause-order
returns-clause-order g c =
    let p : P = g.G.Ground.place c.args.ground.now in
    let p1 : P = g.G.Ground.place c.receive.new.ground in
    let p2 : P = g.G.Ground.place c.post_waiting.new.ground in
    let p3 : P = g.G.Ground.place c.reduce.new.ground in
    let p4 : P = g.G.Ground.place c.settle-released.new.ground in
    let q : P = g.G.Ground.place c.grant.new.ground in
    turn_in_order c.in_ok-posted.posted c.in_ok-reduced.reduced c.settle-released.result c.in_ok-granted.granted p p1 p2 p3 p4 q c.receive.ensures.order c.in_ok-posted.ensures.sent c.in_ok-reduced.ensures.reduced c.settle-released.ensures.settled c.in_ok-granted.ensures.granted
