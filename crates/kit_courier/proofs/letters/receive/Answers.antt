use Rattle.std.proofs.Common.{◌<◌, ◌+◌, ◌*◌, ℕ, refl, sym, ap, ◌∙◌, subst}
use Rattle.std.specs.Int.{bit_at}
use Rattle.kit_ground.specs.declared.address.Address.TheVariants.{Count, Part}
use Rattle.kit_ground.specs.declared.place.Deed.TheVariants.{ReadPart, Released}
use Rattle.kit_ground.specs.declared.place.Place.{Place}
use Rattle.kit_ground.specs.Rules.{Keeps, WasFound}
use Rattle.kit_courier.specs.declared.view.CourierView.{CourierView}
use Rattle.kit_courier.specs.declared.view.Letter.{Letter}
use Rattle.kit_courier.specs.Calls.{HasCollected, IsReceived, IsUnmoved, ReceiveLeaves, held_of}
use Rattle.kit_courier.specs.Couriers.{courier_rule}
use Rattle.kit_courier.specs.Deliveries.{view_after}
use Rattle.kit_courier.proofs.Receives.{after_collect, arrives, at2, at3, at4, collect_leaves, collects_once, held, in_buffers, in_holds, in_mail, nothing_came, receive_leaves, with_body, with_head}
use Rattle.kit_courier.proofs.Receiving.{collects, reads_body, reads_head, releases}
use Rattle.kit_courier.proofs.letters.receive.Goals as goal

abbrev P : Type 0
P = Place CourierView

pub collect-mail-requires-clause-rule : goal.collect-mail-requires-clause-rule
collect-mail-requires-clause-rule g c = collects _ _ _ c.requires.from c.requires.other c.requires.word

pub read_part-head-requires-clause-buffer : goal.read_part-head-requires-clause-buffer
read_part-head-requires-clause-buffer g c =
    let p : P = g.G.Ground.place c.args.seat.now in let i : ℕ = c.args.from in let mail : ℕ = c.collect-mail.result in let w : ℕ = c.args.word in let low : ℕ = c.lowest-low.result in let k : ℕ = 64 * w + low in let t = c.collect-mail.ensures.told in
    let within = in_buffers p i w low c.requires.from c.lowest-low.ensures.posted t in subst (λ (q : P). k < q.own.buffers) (sym c.collect-mail.ensures.place) within

pub read_part-head-requires-clause-held : goal.read_part-head-requires-clause-held
read_part-head-requires-clause-held g c =
    let p : P = g.G.Ground.place c.args.seat.now in let i : ℕ = c.args.from in let mail : ℕ = c.collect-mail.result in let w : ℕ = c.args.word in let low : ℕ = c.lowest-low.result in let k : ℕ = 64 * w + low in let t = c.collect-mail.ensures.told in
    let wide = in_holds p i c.requires.from t in ap (λ (q : P). bit_at (held_of q i) k) c.collect-mail.ensures.place ∙ held p i w mail low 0 0 wide c.lowest-low.ensures.posted

pub read_part-head-requires-clause-rule : goal.read_part-head-requires-clause-rule
read_part-head-requires-clause-rule g c =
    let p : P = g.G.Ground.place c.args.seat.now in let i : ℕ = c.args.from in let mail : ℕ = c.collect-mail.result in let w : ℕ = c.args.word in let low : ℕ = c.lowest-low.result in let k : ℕ = 64 * w + low in let t = c.collect-mail.ensures.told in
    let wide = in_holds p i c.requires.from t in let within = in_buffers p i w low c.requires.from c.lowest-low.ensures.posted t in subst (λ (q : P). Keeps courier_rule view_after q (Part i k 0) (λ word. ReadPart i k 0 word)) (sym c.collect-mail.ensures.place) (reads_head (after_collect p i w mail low 0 0) i k c.requires.from within (held p i w mail low 0 0 wide c.lowest-low.ensures.posted))

pub read_part-body-requires-clause-buffer : goal.read_part-body-requires-clause-buffer
read_part-body-requires-clause-buffer g c =
    let p : P = g.G.Ground.place c.args.seat.now in let i : ℕ = c.args.from in let mail : ℕ = c.collect-mail.result in let w : ℕ = c.args.word in let low : ℕ = c.lowest-low.result in let k : ℕ = 64 * w + low in let t = c.collect-mail.ensures.told in let head : ℕ = c.read_part-head.result in
    let within = in_buffers p i w low c.requires.from c.lowest-low.ensures.posted t in subst (λ (q : P). k < q.own.buffers) (sym (at2 p i w mail low head 0 _ c.collect-mail.ensures.place _ c.read_part-head.ensures.place)) within

pub read_part-body-requires-clause-held : goal.read_part-body-requires-clause-held
read_part-body-requires-clause-held g c =
    let p : P = g.G.Ground.place c.args.seat.now in let i : ℕ = c.args.from in let mail : ℕ = c.collect-mail.result in let w : ℕ = c.args.word in let low : ℕ = c.lowest-low.result in let k : ℕ = 64 * w + low in let t = c.collect-mail.ensures.told in let head : ℕ = c.read_part-head.result in
    let wide = in_holds p i c.requires.from t in ap (λ (q : P). bit_at (held_of q i) k) (at2 p i w mail low head 0 _ c.collect-mail.ensures.place _ c.read_part-head.ensures.place) ∙ held p i w mail low 0 0 wide c.lowest-low.ensures.posted

pub read_part-body-requires-clause-rule : goal.read_part-body-requires-clause-rule
read_part-body-requires-clause-rule g c =
    let p : P = g.G.Ground.place c.args.seat.now in let i : ℕ = c.args.from in let mail : ℕ = c.collect-mail.result in let w : ℕ = c.args.word in let low : ℕ = c.lowest-low.result in let k : ℕ = 64 * w + low in let t = c.collect-mail.ensures.told in let head : ℕ = c.read_part-head.result in
    let wide = in_holds p i c.requires.from t in let within = in_buffers p i w low c.requires.from c.lowest-low.ensures.posted t in subst (λ (q : P). Keeps courier_rule view_after q (Part i k 1) (λ word. ReadPart i k 1 word)) (sym (at2 p i w mail low head 0 _ c.collect-mail.ensures.place _ c.read_part-head.ensures.place)) (reads_body (with_head p i w mail low head 0) i k head c.requires.from within (held p i w mail low 0 0 wide c.lowest-low.ensures.posted) refl)

pub release-requires-clause-buffer : goal.release-requires-clause-buffer
release-requires-clause-buffer g c =
    let p : P = g.G.Ground.place c.args.seat.now in let i : ℕ = c.args.from in let mail : ℕ = c.collect-mail.result in let w : ℕ = c.args.word in let low : ℕ = c.lowest-low.result in let k : ℕ = 64 * w + low in let t = c.collect-mail.ensures.told in let head : ℕ = c.read_part-head.result in let body : ℕ = c.read_part-body.result in
    let within = in_buffers p i w low c.requires.from c.lowest-low.ensures.posted t in subst (λ (q : P). k < q.own.buffers) (sym (at3 p i w mail low head body _ c.collect-mail.ensures.place _ c.read_part-head.ensures.place _ c.read_part-body.ensures.place)) within

pub release-requires-clause-held : goal.release-requires-clause-held
release-requires-clause-held g c =
    let p : P = g.G.Ground.place c.args.seat.now in let i : ℕ = c.args.from in let mail : ℕ = c.collect-mail.result in let w : ℕ = c.args.word in let low : ℕ = c.lowest-low.result in let k : ℕ = 64 * w + low in let t = c.collect-mail.ensures.told in let head : ℕ = c.read_part-head.result in let body : ℕ = c.read_part-body.result in
    let wide = in_holds p i c.requires.from t in ap (λ (q : P). bit_at (held_of q i) k) (at3 p i w mail low head body _ c.collect-mail.ensures.place _ c.read_part-head.ensures.place _ c.read_part-body.ensures.place) ∙ held p i w mail low 0 0 wide c.lowest-low.ensures.posted

pub release-requires-clause-rule : goal.release-requires-clause-rule
release-requires-clause-rule g c =
    let p : P = g.G.Ground.place c.args.seat.now in let i : ℕ = c.args.from in let mail : ℕ = c.collect-mail.result in let w : ℕ = c.args.word in let low : ℕ = c.lowest-low.result in let k : ℕ = 64 * w + low in let t = c.collect-mail.ensures.told in let head : ℕ = c.read_part-head.result in let body : ℕ = c.read_part-body.result in
    let wide = in_holds p i c.requires.from t in let within = in_buffers p i w low c.requires.from c.lowest-low.ensures.posted t in subst (λ (q : P). Keeps courier_rule view_after q (Count i k) (λ _. Released i k)) (sym (at3 p i w mail low head body _ c.collect-mail.ensures.place _ c.read_part-head.ensures.place _ c.read_part-body.ensures.place)) (releases (with_body p i w mail low head body) i k c.requires.from within (held p i w mail low 0 0 wide c.lowest-low.ensures.posted))

pub returns-clause-came : goal.returns-clause-came
returns-clause-came g c =
    let on = g.met.G.Ground.came_on in
    on _ _ _ (on _ _ _ (on _ _ _ c.collect-mail.ensures.came c.read_part-head.ensures.came) c.read_part-body.ensures.came) c.release.ensures.came

pub returns-then-mail-eq0-clause-collected : goal.returns-then-mail-eq0-clause-collected
returns-then-mail-eq0-clause-collected g c =
    let p : P = g.G.Ground.place c.args.seat.now in let i : ℕ = c.args.from in let mail : ℕ = c.collect-mail.result in let w : ℕ = c.args.word in let t = c.collect-mail.ensures.told in
    subst (HasCollected p i w) (sym c.collect-mail.ensures.place) (collects_once p i c.requires.from w c.requires.word t mail)

pub returns-then-mail-eq0-clause-letter : goal.returns-then-mail-eq0-clause-letter
returns-then-mail-eq0-clause-letter g c =
    let p : P = g.G.Ground.place c.args.seat.now in let i : ℕ = c.args.from in let mail : ℕ = c.collect-mail.result in let w : ℕ = c.args.word in let t = c.collect-mail.ensures.told in
    subst (IsUnmoved p i w) (sym c.collect-mail.ensures.place) (nothing_came p i w mail 0 0 0 (in_holds p i c.requires.from t) (in_mail p i c.requires.from w c.requires.word t) c.if-mail-eq0.true)

pub returns-then-mail-eq0-clause-leaves : goal.returns-then-mail-eq0-clause-leaves
returns-then-mail-eq0-clause-leaves g c =
    let p : P = g.G.Ground.place c.args.seat.now in let i : ℕ = c.args.from in let mail : ℕ = c.collect-mail.result in let w : ℕ = c.args.word in let t = c.collect-mail.ensures.told in
    subst (ReceiveLeaves p i w) (sym c.collect-mail.ensures.place) (collect_leaves p i w mail 0 0 0)

pub returns-clause-collected : goal.returns-clause-collected
returns-clause-collected g c =
    let p : P = g.G.Ground.place c.args.seat.now in let i : ℕ = c.args.from in let mail : ℕ = c.collect-mail.result in let w : ℕ = c.args.word in let low : ℕ = c.lowest-low.result in let k : ℕ = 64 * w + low in let t = c.collect-mail.ensures.told in let head : ℕ = c.read_part-head.result in let body : ℕ = c.read_part-body.result in
    subst (HasCollected p i w) (sym (at4 p i w mail low head body _ c.collect-mail.ensures.place _ c.read_part-head.ensures.place _ c.read_part-body.ensures.place _ c.release.ensures.place)) (collects_once p i c.requires.from w c.requires.word t mail)

pub returns-clause-letter : goal.returns-clause-letter
returns-clause-letter g c =
    let p : P = g.G.Ground.place c.args.seat.now in let i : ℕ = c.args.from in let mail : ℕ = c.collect-mail.result in let w : ℕ = c.args.word in let low : ℕ = c.lowest-low.result in let k : ℕ = 64 * w + low in let t = c.collect-mail.ensures.told in let head : ℕ = c.read_part-head.result in let body : ℕ = c.read_part-body.result in
    let wide = in_holds p i c.requires.from t in let letter : Letter = record { head = head; body = body } in
    let told = subst (λ (q : P). WasFound courier_rule q (Part i k 1) body) (at2 p i w mail low head body _ c.collect-mail.ensures.place _ c.read_part-head.ensures.place) c.read_part-body.ensures.told in
    subst (λ (q : P). IsReceived p i w letter q) (sym (at4 p i w mail low head body _ c.collect-mail.ensures.place _ c.read_part-head.ensures.place _ c.read_part-body.ensures.place _ c.release.ensures.place)) (arrives p i w mail low head body wide c.lowest-low.ensures.posted (in_mail p i c.requires.from w c.requires.word t) c.lowest-low.ensures.least told)

pub returns-clause-leaves : goal.returns-clause-leaves
returns-clause-leaves g c =
    let p : P = g.G.Ground.place c.args.seat.now in let i : ℕ = c.args.from in let mail : ℕ = c.collect-mail.result in let w : ℕ = c.args.word in let low : ℕ = c.lowest-low.result in let k : ℕ = 64 * w + low in let t = c.collect-mail.ensures.told in let head : ℕ = c.read_part-head.result in let body : ℕ = c.read_part-body.result in
    subst (ReceiveLeaves p i w) (sym (at4 p i w mail low head body _ c.collect-mail.ensures.place _ c.read_part-head.ensures.place _ c.read_part-body.ensures.place _ c.release.ensures.place)) (receive_leaves p i w mail low head body)
