use Rattle.std.proofs.Common.{◌≡◌, ◌∙◌, ◌<◌, List, ap, sym, subst, arith, get_or, length, IsTrue}
use Rattle.std.specs.List.{AllPairs}
use Rattle.std.proofs.lemmas.List.{get_or_default}
use Rattle.kit_base.specs.Order.{is_before}
use Rattle.kit_cut.specs.declared.cut.Standing.{Standing}
use Rattle.kit_cut.specs.SinceCut.{desks_restored}
use Rattle.kit_cut.specs.ValidCuts.{standing_at, nobody_stands}
use Rattle.kit_cut.proofs.Onward.{restored_shown}
use Rattle.kit_cut.proofs.Posting.{restored_all}
use Rattle.kit_cut.proofs.restoring.restored_desks.Goals as goal

pub restored_desk-requires-clause-rise : goal.restored_desk-requires-clause-rise
restored_desk-requires-clause-rise c =
    let cut = c.args.cut.now in
    let i = c.loop-i.i in
    let lt : i < length c.args.federation.now.federates = omega (arith, c.loop-i-test.true, c.count-i-end.ensures.value) in
    let is : c.index-standings-k.result ≡ standing_at cut i =
    c.index-standings-k.is ∙ ap (λ (ss : List Standing). get_or ss i c.index-standings-k.result) c.as_slice-standings.ensures ∙ get_or_default cut.federates i _ nobody_stands (omega (arith, lt, c.requires.each)) in
    let P : Standing → Type 0 = λ s. AllPairs (λ a b. IsTrue (is_before a b)) s.pending in
    subst P (sym is) (c.requires.federates i lt).pending.rise

pub returns : goal.returns
returns c =
    let cut = c.args.cut.now in
    restored_all c.loop-i.desks.items (desks_restored 0 cut.next cut.federates) c.loop-i.i cut.next cut.federates (omega (arith, c.requires.each_next, c.count-i-end.ensures.value, c.loop-i-test.false)) c.loop-i.invariant
    ∙ restored_shown c.args.federation.now cut c.requires
