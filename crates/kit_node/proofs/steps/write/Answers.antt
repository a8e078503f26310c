use Rattle.std.proofs.Common.{◌≡◌, ◌==◌, ◌/◌, ◌<◌, ℕ, sym, refl, subst, ap, ◌∙◌, arith, length, true}
use Rattle.kit_ground.specs.declared.address.Address.TheVariants.{Register, Mail, Count, Part}
use Rattle.kit_ground.specs.declared.place.Deed.TheVariants.{SawFree, Wrote, Charged, PostedTo, Collected, ReadPart, Released, Published}
use Rattle.kit_ground.specs.declared.place.Place.{Place}
use Rattle.kit_ground.specs.Steps.{buffer_of, place_after}
use Rattle.kit_lbts.specs.declared.view.LbtsView.{LbtsView}
use Rattle.kit_lbts.specs.Progress.{view_after}
use Rattle.kit_lbts.specs.SeatLaws.{IsInWorld}
use Rattle.kit_node.proofs.WorldSteps.{goes_on}
use Rattle.kit_base.specs.declared.message.Message.{Message}
use Rattle.kit_base.specs.Words.{body_word, head_word}
use Rattle.kit_ground.specs.Rules.{Keeps}
use Rattle.kit_lbts.specs.Agreement.{agreeing_rule}
use Rattle.kit_ground.specs.declared.place.Buffer.{Buffer}
use Rattle.kit_ground.specs.Steps.{buffer_after_write}
use Rattle.kit_lbts.proofs.Owing.{buffer_here}
use Rattle.kit_lbts.proofs.WithAgreement.{writes_agree}
use Rattle.kit_node.proofs.PlaceTells.{stock_long}
use Rattle.kit_node.proofs.steps.write.Goals as goal

abbrev P : Type 0
P = Place LbtsView

-- once a head was written the buffer is free as before
free_still : (p : P) (k word : ℕ) → IsInWorld p → k < p.own.buffers → (buffer_of p.own.stock k).free ≡ true → (buffer_of (place_after view_after (Wrote k 0 word) p).own.stock k).free ≡ true
free_still p k word w lk free =
    let long = stock_long p w in
    ap (λ (b : Buffer). b.free) (buffer_here p.own.stock k (buffer_after_write 0 word (buffer_of p.own.stock k)) (omega arith)) ∙ free

-- from any world of a place, one step further: what is found is whatever was there
second : (q : P) (k word : ℕ) (w : IsInWorld q) → k < q.own.buffers → (buffer_of q.own.stock k).free ≡ true → IsInWorld (place_after view_after (Wrote k 1 word) q)
second q k word w lk free =
    let a = Part q.own.number k 1 in
    goes_on q a (λ _. Wrote k 1 word) (w.0 a) refl (lk, omega arith, free) (writes_agree q k 1 word lk free) (w.0, w.1, w.2, refl)

pub pack_head-requires-clause-group : goal.pack_head-requires-clause-group
pack_head-requires-clause-group g c = c.requires.message.group_fits

pub pack_head-requires-clause-colour : goal.pack_head-requires-clause-colour
pack_head-requires-clause-colour g c = c.requires.message.colour_fits

pub pack_body-requires : goal.pack_body-requires
pack_body-requires g c = c.requires.message.time_fits

pub write_part-requires-clause-rule : goal.write_part-requires-clause-rule
write_part-requires-clause-rule g c = writes_agree (g.G.Ground.place c.args.ground.now) c.args.buffer 0 c.pack_head.result c.requires.buffer c.requires.free

pub write_part-requires-2-clause-buffer : goal.write_part-requires-2-clause-buffer
write_part-requires-2-clause-buffer g c =
    let k : ℕ = c.args.buffer in
    subst (λ (q : P). k < q.own.buffers) (sym c.write_part.ensures.place) c.requires.buffer

pub write_part-requires-2-clause-free : goal.write_part-requires-2-clause-free
write_part-requires-2-clause-free g c =
    let p : P = g.G.Ground.place c.args.ground.now in
    let k : ℕ = c.args.buffer in
    subst (λ (q : P). (buffer_of q.own.stock k).free ≡ true) (sym c.write_part.ensures.place) (free_still p k c.pack_head.result c.requires.world c.requires.buffer c.requires.free)

pub write_part-requires-2-clause-rule : goal.write_part-requires-2-clause-rule
write_part-requires-2-clause-rule g c =
    let p : P = g.G.Ground.place c.args.ground.now in
    let k : ℕ = c.args.buffer in
    let word = c.pack_body.result in
    subst (λ (q : P). Keeps agreeing_rule view_after q (Part q.own.number k 1) (λ _. Wrote k 1 word)) (sym c.write_part.ensures.place)
    (writes_agree (place_after view_after (Wrote k 0 c.pack_head.result) p) k 1 word c.requires.buffer (free_still p k c.pack_head.result c.requires.world c.requires.buffer c.requires.free))

pub returns-clause-place : goal.returns-clause-place
returns-clause-place g c =
    let p : P = g.G.Ground.place c.args.ground.now in
    let k : ℕ = c.args.buffer in
    c.write_part-2.ensures.place
    ∙ ap (λ (q : P). place_after view_after (Wrote k 1 c.pack_body.result) q) c.write_part.ensures.place
    ∙ ap (λ (x : ℕ × ℕ). place_after view_after (Wrote k 1 x.1) (place_after view_after (Wrote k 0 x.0) p)) (λ i. (c.pack_head.ensures i, c.pack_body.ensures i))

pub returns-clause-world : goal.returns-clause-world
returns-clause-world g c =
    let p : P = g.G.Ground.place c.args.ground.now in
    let k : ℕ = c.args.buffer in
    let q : P = place_after view_after (Wrote k 0 c.pack_head.result) p in
    let free = free_still p k c.pack_head.result c.requires.world c.requires.buffer c.requires.free in
    let word = c.pack_body.result in
    let first : IsInWorld q = goes_on p (Part p.own.number k 0) (λ _. Wrote k 0 c.pack_head.result) c.write_part.ensures.told.0 refl (c.requires.buffer, omega arith, c.requires.free) (writes_agree p k 0 c.pack_head.result c.requires.buffer c.requires.free) c.write_part.ensures.told.1 in
    let again : IsInWorld (place_after view_after (Wrote k 1 word) q) = second q k word first c.requires.buffer free in
    subst IsInWorld (sym (c.write_part-2.ensures.place ∙ ap (λ (r : P). place_after view_after (Wrote k 1 word) r) c.write_part.ensures.place)) again
