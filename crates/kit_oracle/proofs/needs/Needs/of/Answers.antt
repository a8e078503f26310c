use Rattle.std.proofs.Common.{◌≡◌, ◌∙◌, ◌+◌, ◌≤◌, ℕ, List, [], ◌∷◌, length, length-append, get_or, arith, ap, sym, subst}
use Rattle.std.proofs.lemmas.List.{get_or_default}
use Rattle.kit_base.specs.declared.message.Message.{Message}
use Rattle.kit_oracle.specs.Desks.{desk_at, nobody_there}
use Rattle.kit_oracle.specs.Times.{count_later, count_sent_later}
use Rattle.kit_oracle.proofs.Outstanding.{each_pushed, needs_started}
use Rattle.kit_oracle.proofs.needs.Needs.of.Goals as goal

pub loop-desk-preserved : goal.loop-desk-preserved
loop-desk-preserved c =
    let p = c.args.federation.now in
    let n = c.loop-desk.desk-index in
    let ds = c.args.desks.now in
    let i = c.loop-desk.invariant in
    let desk : c.desk-item.result ≡ desk_at ds n = c.desk-item.is ∙ get_or_default ds n c.desk-item.result nobody_there c.loop-desk-test.true in
    let sends : c.sends.result.now ≡ (desk_at ds n).state.sends = c.sends.ensures.sends ∙ ap (λ d. d.state.sends) desk in
    let none : (t : ℕ) → count_later t c.new-times.result ≡ 0 = λ t. ap (count_later t) c.new-times.ensures in
    let K : List Message → Type 0 = λ ms. (t : ℕ) → 0 ≤ t → count_later t c.outstanding.new.times ≡ count_later t c.new-times.result + count_sent_later p t ms in
    let C : List Message → Type 0 = λ ms. c.in_ok-count.count ≡ count_later 0 c.new-times.result + count_sent_later p 0 ms in
    let kept = subst K sends c.in_ok-count.ensures.kept in
    let count = subst C sends c.in_ok-count.ensures.count in
    record {
      times = omega (arith, ap length c.in_ok-push.ensures.items, length-append c.loop-desk.needs.times.items (c.outstanding.new.times ∷ []), i.times);
      most = omega (arith, ap length c.in_ok-push-2.ensures.items, length-append c.loop-desk.needs.most.items (c.in_ok-count.count ∷ []), i.most);
      counts = λ k t lt. subst (λ xs. count_later t (get_or xs k []) ≡ count_sent_later p t (desk_at ds k).state.sends) (sym c.in_ok-push.ensures.items)
          (each_pushed (λ k xs. count_later t xs ≡ count_sent_later p t (desk_at ds k).state.sends) c.loop-desk.needs.times.items c.outstanding.new.times [] n i.times (λ k lt. i.counts k t lt) (omega (arith, kept t (omega arith), none t)) k lt);
      greatest = λ k lt. subst (λ xs. get_or xs k 0 ≡ count_sent_later p 0 (desk_at ds k).state.sends) (sym c.in_ok-push-2.ensures.items)
          (each_pushed (λ k m. m ≡ count_sent_later p 0 (desk_at ds k).state.sends) c.loop-desk.needs.most.items c.in_ok-count.count 0 n i.most i.greatest (omega (arith, count, none 0)) k lt);
    }

pub returns : goal.returns
returns c =
    let i = c.loop-desk.invariant in
    needs_started c.args.federation.now c.args.desks.now c.loop-desk.needs.times.items c.loop-desk.needs.most.items c.loop-desk.desk-index c.count-federates.ensures.sound c.requires c.loop-desk-test.false i.times i.most i.counts i.greatest c.loop-desk.auto.desk-index-end
