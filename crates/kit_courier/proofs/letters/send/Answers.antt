use Rattle.std.proofs.Common.{true, false, ◌^◌, ◌/◌, ℕ, sym, ap, ◌∙◌, subst, arith}
use Rattle.std.proofs.lemmas.Nat.Bits.{bit_at-pow_same}
use Rattle.std.specs.Int.{bit_at}
use Rattle.kit_ground.specs.declared.address.Address.TheVariants.{Count, Mail, Part}
use Rattle.kit_ground.specs.declared.place.Deed.TheVariants.{SawFree, Wrote, Charged, PostedTo}
use Rattle.kit_ground.specs.declared.place.Place.{Place}
use Rattle.kit_ground.specs.Rules.{Keeps}
use Rattle.kit_ground.specs.Steps.{IsChargeable, IsMask, place_after, buffer_of}
use Rattle.kit_ground.proofs.WorldFacts.{few_federates}
use Rattle.kit_courier.specs.declared.view.CourierView.{CourierView}
use Rattle.kit_courier.specs.Calls.{HasSeen, OwesTheSame, SendLeaves}
use Rattle.kit_courier.specs.Couriers.{courier_rule}
use Rattle.kit_courier.specs.Deliveries.{letter_of, view_after}
use Rattle.kit_courier.proofs.Asides.{posts, sees_free, writes}
use Rattle.kit_courier.proofs.Sending.{charges}
use Rattle.kit_courier.proofs.Sends.{after_charge, at1, at2, at3, at4, at5, chargeable, free_head, free_seen, in_counts, in_stock, letter_there, look_leaves, only_mask, owed, owed_after_look, owed_after_post, seen_free, seen_free_since, sees, send_leaves, sent_whole, with_body, with_head}
use Rattle.kit_courier.proofs.letters.send.Goals as goal

abbrev P : Type 0
P = Place CourierView

pub look_free-requires-clause-rule : goal.look_free-requires-clause-rule
look_free-requires-clause-rule g c = sees_free _ _ c.requires.buffer c.requires.posted

pub write_part-requires-clause-free : goal.write_part-requires-clause-free
write_part-requires-clause-free g c =
    let p : P = g.G.Ground.place c.args.seat.now in let k : ℕ = c.args.buffer in let l = c.args.letter in let j : ℕ = c.args.to in
    let inside = in_stock p k c.requires.buffer c.look_free.ensures.told.1 in
    ap (λ (q : P). (buffer_of q.own.stock k).free) (at1 p k l j _ _ c.look_free.ensures.place c.if-not-look_free.false) ∙ free_seen p k l j inside

pub write_part-requires-clause-rule : goal.write_part-requires-clause-rule
write_part-requires-clause-rule g c =
    let p : P = g.G.Ground.place c.args.seat.now in let k : ℕ = c.args.buffer in let l = c.args.letter in let j : ℕ = c.args.to in
    let inside = in_stock p k c.requires.buffer c.look_free.ensures.told.1 in
    subst (λ (q : P). Keeps courier_rule view_after q (Part q.own.number k 0) (λ _. Wrote k 0 l.head)) (sym (at1 p k l j _ _ c.look_free.ensures.place c.if-not-look_free.false)) (writes (seen_free p k l j) k 0 l.head c.requires.buffer (omega arith) (free_seen p k l j inside))

pub write_part-requires-2-clause-free : goal.write_part-requires-2-clause-free
write_part-requires-2-clause-free g c =
    let p : P = g.G.Ground.place c.args.seat.now in let k : ℕ = c.args.buffer in let l = c.args.letter in let j : ℕ = c.args.to in
    let inside = in_stock p k c.requires.buffer c.look_free.ensures.told.1 in
    ap (λ (q : P). (buffer_of q.own.stock k).free) (at2 p k l j _ _ c.look_free.ensures.place c.if-not-look_free.false _ c.write_part.ensures.place) ∙ free_head p k l j inside

pub write_part-requires-2-clause-rule : goal.write_part-requires-2-clause-rule
write_part-requires-2-clause-rule g c =
    let p : P = g.G.Ground.place c.args.seat.now in let k : ℕ = c.args.buffer in let l = c.args.letter in let j : ℕ = c.args.to in
    let inside = in_stock p k c.requires.buffer c.look_free.ensures.told.1 in
    subst (λ (q : P). Keeps courier_rule view_after q (Part q.own.number k 1) (λ _. Wrote k 1 l.body)) (sym (at2 p k l j _ _ c.look_free.ensures.place c.if-not-look_free.false _ c.write_part.ensures.place)) (writes (with_head p k l j) k 1 l.body c.requires.buffer (omega arith) (free_head p k l j inside))

pub only-requires : goal.only-requires
only-requires g c =
    let t = c.look_free.ensures.told.1 in
    let few = few_federates courier_rule _ t.0 t.1 t.2 in
    omega arith

pub charge-requires-clause-ready : goal.charge-requires-clause-ready
charge-requires-clause-ready g c =
    let p : P = g.G.Ground.place c.args.seat.now in let k : ℕ = c.args.buffer in let l = c.args.letter in let j : ℕ = c.args.to in
    let inside = in_stock p k c.requires.buffer c.look_free.ensures.told.1 in
    subst (λ (q : P). IsChargeable q.own k) (sym (at3 p k l j _ _ c.look_free.ensures.place c.if-not-look_free.false _ c.write_part.ensures.place _ c.write_part-2.ensures.place)) (chargeable p k l j inside)

pub charge-requires-clause-mask : goal.charge-requires-clause-mask
charge-requires-clause-mask g c =
    let p : P = g.G.Ground.place c.args.seat.now in let k : ℕ = c.args.buffer in let l = c.args.letter in let j : ℕ = c.args.to in
    subst (λ (x : P × ℕ). IsMask x.0.own x.1) (λ i. (sym (at3 p k l j _ _ c.look_free.ensures.place c.if-not-look_free.false _ c.write_part.ensures.place _ c.write_part-2.ensures.place) i, sym c.only.ensures i)) (only_mask p.own j c.requires.to c.requires.other)

pub charge-requires-clause-rule : goal.charge-requires-clause-rule
charge-requires-clause-rule g c =
    let p : P = g.G.Ground.place c.args.seat.now in let k : ℕ = c.args.buffer in let l = c.args.letter in let j : ℕ = c.args.to in
    let inside = in_stock p k c.requires.buffer c.look_free.ensures.told.1 in
    subst (λ (x : P × ℕ). Keeps courier_rule view_after x.0 (Count x.0.own.number k) (λ _. Charged k x.1)) (λ i. (sym (at3 p k l j _ _ c.look_free.ensures.place c.if-not-look_free.false _ c.write_part.ensures.place _ c.write_part-2.ensures.place) i, sym c.only.ensures i))
    (charges (with_body p k l j) k (2 ^ j) c.requires.buffer (chargeable p k l j inside) (only_mask p.own j c.requires.to c.requires.other))

pub post-requires-clause-owed : goal.post-requires-clause-owed
post-requires-clause-owed g c =
    let p : P = g.G.Ground.place c.args.seat.now in let k : ℕ = c.args.buffer in let l = c.args.letter in let j : ℕ = c.args.to in
    let inside = in_stock p k c.requires.buffer c.look_free.ensures.told.1 in
    ap (λ (q : P). bit_at (buffer_of q.own.stock k).to_post j) (at4 p k l j _ _ c.look_free.ensures.place c.if-not-look_free.false _ c.write_part.ensures.place _ c.write_part-2.ensures.place _ c.only.ensures _ c.charge.ensures.place) ∙ (ap (λ (mask : ℕ). bit_at mask j) (owed p k l j inside) ∙ bit_at-pow_same j)

pub post-requires-clause-rule : goal.post-requires-clause-rule
post-requires-clause-rule g c =
    let p : P = g.G.Ground.place c.args.seat.now in let k : ℕ = c.args.buffer in let l = c.args.letter in let j : ℕ = c.args.to in
    let inside = in_stock p k c.requires.buffer c.look_free.ensures.told.1 in
    subst (λ (q : P). Keeps courier_rule view_after q (Mail j q.own.number (k / 64)) (λ _. PostedTo k j)) (sym (at4 p k l j _ _ c.look_free.ensures.place c.if-not-look_free.false _ c.write_part.ensures.place _ c.write_part-2.ensures.place _ c.only.ensures _ c.charge.ensures.place))
    (posts (after_charge p k l j) k j c.requires.buffer c.requires.to (ap (λ (mask : ℕ). bit_at mask j) (owed p k l j inside) ∙ bit_at-pow_same j))

pub returns-clause-came : goal.returns-clause-came
returns-clause-came g c =
    let on = g.met.G.Ground.came_on in
    on _ _ _ (on _ _ _ (on _ _ _ (on _ _ _ c.look_free.ensures.came c.write_part.ensures.came) c.write_part-2.ensures.came) c.charge.ensures.came) c.post.ensures.came

pub returns-then-not-look_free-clause-free : goal.returns-then-not-look_free-clause-free
returns-then-not-look_free-clause-free g c =
    let p : P = g.G.Ground.place c.args.seat.now in let k : ℕ = c.args.buffer in let l = c.args.letter in let j : ℕ = c.args.to in
    subst (HasSeen p k false) (sym (c.look_free.ensures.place ∙ ap (λ x. place_after view_after (SawFree k x) p) c.if-not-look_free.true)) (sees p k false (in_counts p k c.requires.buffer c.look_free.ensures.told.1))

pub returns-then-not-look_free-clause-leaves : goal.returns-then-not-look_free-clause-leaves
returns-then-not-look_free-clause-leaves g c =
    let p : P = g.G.Ground.place c.args.seat.now in let k : ℕ = c.args.buffer in let l = c.args.letter in let j : ℕ = c.args.to in
    subst (SendLeaves p k) (sym (c.look_free.ensures.place ∙ ap (λ x. place_after view_after (SawFree k x) p) c.if-not-look_free.true)) (look_leaves p k false)

pub returns-then-not-look_free-clause-owed : goal.returns-then-not-look_free-clause-owed
returns-then-not-look_free-clause-owed g c =
    let p : P = g.G.Ground.place c.args.seat.now in let k : ℕ = c.args.buffer in let l = c.args.letter in let j : ℕ = c.args.to in
    let inside = in_stock p k c.requires.buffer c.look_free.ensures.told.1 in
    subst (OwesTheSame p) (sym (c.look_free.ensures.place ∙ ap (λ x. place_after view_after (SawFree k x) p) c.if-not-look_free.true)) (owed_after_look p k false inside)

pub returns-clause-free : goal.returns-clause-free
returns-clause-free g c =
    let p : P = g.G.Ground.place c.args.seat.now in let k : ℕ = c.args.buffer in let l = c.args.letter in let j : ℕ = c.args.to in
    subst (HasSeen p k true) (sym (at5 p k l j _ _ c.look_free.ensures.place c.if-not-look_free.false _ c.write_part.ensures.place _ c.write_part-2.ensures.place _ c.only.ensures _ c.charge.ensures.place _ c.post.ensures.place)) (seen_free_since p k l j (in_counts p k c.requires.buffer c.look_free.ensures.told.1))

pub returns-clause-sent : goal.returns-clause-sent
returns-clause-sent g c =
    let p : P = g.G.Ground.place c.args.seat.now in let k : ℕ = c.args.buffer in let l = c.args.letter in let j : ℕ = c.args.to in
    let inside = in_stock p k c.requires.buffer c.look_free.ensures.told.1 in
    ap (λ (q : P). q.client.sent) (at5 p k l j _ _ c.look_free.ensures.place c.if-not-look_free.false _ c.write_part.ensures.place _ c.write_part-2.ensures.place _ c.only.ensures _ c.charge.ensures.place _ c.post.ensures.place) ∙ sent_whole p k l j inside

pub returns-clause-steps : goal.returns-clause-steps
returns-clause-steps g c =
    let p : P = g.G.Ground.place c.args.seat.now in let k : ℕ = c.args.buffer in let l = c.args.letter in let j : ℕ = c.args.to in
    ap (λ (q : P). q.own.steps) (at5 p k l j _ _ c.look_free.ensures.place c.if-not-look_free.false _ c.write_part.ensures.place _ c.write_part-2.ensures.place _ c.only.ensures _ c.charge.ensures.place _ c.post.ensures.place) ∙ omega arith

pub returns-clause-written : goal.returns-clause-written
returns-clause-written g c =
    let p : P = g.G.Ground.place c.args.seat.now in let k : ℕ = c.args.buffer in let l = c.args.letter in let j : ℕ = c.args.to in
    let inside = in_stock p k c.requires.buffer c.look_free.ensures.told.1 in
    λ _. ap (λ (q : P). letter_of (buffer_of q.own.stock k)) (at5 p k l j _ _ c.look_free.ensures.place c.if-not-look_free.false _ c.write_part.ensures.place _ c.write_part-2.ensures.place _ c.only.ensures _ c.charge.ensures.place _ c.post.ensures.place) ∙ letter_there p k l j inside

pub returns-clause-owed : goal.returns-clause-owed
returns-clause-owed g c =
    let p : P = g.G.Ground.place c.args.seat.now in let k : ℕ = c.args.buffer in let l = c.args.letter in let j : ℕ = c.args.to in
    let inside = in_stock p k c.requires.buffer c.look_free.ensures.told.1 in
    subst (OwesTheSame p) (sym (at5 p k l j _ _ c.look_free.ensures.place c.if-not-look_free.false _ c.write_part.ensures.place _ c.write_part-2.ensures.place _ c.only.ensures _ c.charge.ensures.place _ c.post.ensures.place)) (owed_after_post p k l j inside c.requires.posted)

pub returns-clause-leaves : goal.returns-clause-leaves
returns-clause-leaves g c =
    let p : P = g.G.Ground.place c.args.seat.now in let k : ℕ = c.args.buffer in let l = c.args.letter in let j : ℕ = c.args.to in
    let inside = in_stock p k c.requires.buffer c.look_free.ensures.told.1 in
    subst (SendLeaves p k) (sym (at5 p k l j _ _ c.look_free.ensures.place c.if-not-look_free.false _ c.write_part.ensures.place _ c.write_part-2.ensures.place _ c.only.ensures _ c.charge.ensures.place _ c.post.ensures.place)) (send_leaves p k l j inside)
