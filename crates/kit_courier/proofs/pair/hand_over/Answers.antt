use Rattle.std.specs.Int.{bit_at}
use Rattle.kit_ground.specs.declared.address.Address.TheVariants.{Mail}
use Rattle.kit_ground.specs.Floors.{memory, place_of}
use Rattle.kit_courier.specs.Deliveries.{courier_first}
use Rattle.std.proofs.Common.{◌≡◌, ℕ, ◌+◌, sym, ap, ◌∙◌, arith}
use Rattle.std.specs.Prelude.{slice_index}
use Rattle.kit_ground.specs.declared.place.Place.{Place}
use Rattle.kit_courier.specs.declared.view.CourierView.{CourierView}
use Rattle.kit_ground.proofs.MailWords.{some_words}
use Rattle.kit_ground.specs.Layout.{mail_words}
use Rattle.kit_ground.proofs.Lists.{same_everywhere}
use Rattle.kit_courier.specs.Calls.{place_of_mail}
use Rattle.kit_courier.proofs.Pairs.{F, first_mail, free_at_first, got_from, got_is_sent, if_some, is_some, mail_has, not_none, second_new}
use Rattle.kit_courier.proofs.pair.hand_over.Goals as goal

pub receive-got-requires-clause-from : goal.receive-got-requires-clause-from
receive-got-requires-clause-from c =
    let many = ap (λ (p : Place CourierView). p.own.federates) (second_new _ _ _ c.requires c.send.ensures.came c.seat.ensures.seated) in
    omega arith

pub receive-got-requires-clause-other : goal.receive-got-requires-clause-other
receive-got-requires-clause-other c e =
    let number = ap (λ (p : Place CourierView). p.own.number) (second_new _ _ _ c.requires c.send.ensures.came c.seat.ensures.seated) in
    absurd (omega arith)

pub receive-got-requires-clause-word : goal.receive-got-requires-clause-word
receive-got-requires-clause-word c =
    let one = ap (λ (p : Place CourierView). p.own.buffers) (second_new _ _ _ c.requires c.send.ensures.came c.seat.ensures.seated) in
    some_words _ (omega (arith, one))

pub returns-clause-letter : goal.returns-clause-letter
returns-clause-letter c =
    let second = second_new _ _ _ c.requires c.send.ensures.came c.seat.ensures.seated in
    let free = free_at_first _ _ _ c.requires c.send.ensures.look.1 in
    let post = c.send.ensures.post free in
    let zero : (place_of courier_first post.0).own.number ≡ 0 = post.2.number ∙ ap (λ (f : F). (place_of courier_first f).own.number) c.requires in
    let bit = mail_has _ _ zero post.1 in
    let on = ap (λ (f : F). bit_at (memory f (Mail 1 0 0)) 0) c.seat.ensures.seated ∙ bit in
    let took = c.receive-got.ensures.collect in
    is_some _ _ (not_none _ _ _ _ (ap (λ (p : Place CourierView). p.own.number) second) on took.2 took.3)
    (if_some _ _ _ _ (λ got received. got_is_sent _ _ _ c.requires c.send.ensures.came c.seat.ensures.seated _ c.receive-got.ensures.came c.send.result c.args.letter got c.ruled.ensures c.send.ensures.sent received) c.receive-got.ensures.letter)

pub returns-clause-collected : goal.returns-clause-collected
returns-clause-collected c =
    let p : Place CourierView = place_of courier_first c.seat.new.self in
    let now : Place CourierView = place_of courier_first c.receive-got.new.seat in
    let at : ℕ = place_of_mail p 0 0 in
    let new = second_new _ _ _ c.requires c.send.ensures.came c.seat.ensures.seated in
    let none : slice_index p.own.collects at ≡ 0 = ap (λ (q : Place CourierView). slice_index q.own.collects at) new ∙ same_everywhere _ at 0 in
    ap (λ (x : ℕ). slice_index now.own.collects x) (sym (first_mail (mail_words p.own.buffers))) ∙ (c.receive-got.ensures.collected ∙ ap (λ (x : ℕ). x + 1) none)

pub returns-clause-got : goal.returns-clause-got
returns-clause-got c =
    got_from _ _ _ (ap (λ (p : Place CourierView). p.client.got) (second_new _ _ _ c.requires c.send.ensures.came c.seat.ensures.seated)) c.receive-got.ensures.letter
