use Rattle.std.proofs.Common.{◌≡◌, ℕ, ◌+◌, List, length, refl, sym, subst, arith}
use Rattle.kit_rules.specs.Parts.{Parts}
use Rattle.kit_runner.specs.declared.stage.Member.{Member}
use Rattle.kit_runner.proofs.LockBeginning.{HaveBegun, begun_more, opened}
use Rattle.kit_runner.proofs.stage.Stage.new.Goals as goal

pub loop-federate-preserved : goal.loop-federate-preserved
loop-federate-preserved c =
    let p : Parts = c.args.federation.now in
    let k : ℕ = c.loop-federate.federate in
    subst (λ (l : List Member). HaveBegun p (k + 1) l) (sym c.in_ok-push.ensures.items)
    (begun_more p k c.loop-federate.members.items _ c.loop-federate.invariant (record { begins = c.in_ok-node.ensures; fresh = refl }))

pub returns : goal.returns
returns c =
    let p : Parts = c.args.federation.now in
    let all : c.loop-federate.federate ≡ length p.federates = omega (arith, c.loop-federate.auto.federate-end, c.loop-federate-test.false, c.count-count.ensures.value) in
    let begun : HaveBegun p (length p.federates) c.loop-federate.members.items = subst (λ (k : ℕ). HaveBegun p k c.loop-federate.members.items) all c.loop-federate.invariant in
    opened p c.count-count.ensures.sound c.in_ok-floor.floor c.in_ok-floor.ensures c.loop-federate.members.items begun _ refl refl
    (omega (arith, begun.many, c.count-count.ensures.value, c.from-2.ensures, c.in_ok-reports.ensures.exact)) c.in_ok-reports.ensures.items
