use Rattle.std.proofs.Common.{◌≡◌, ℕ, ◌+◌, List, length, refl, sym, subst, arith}
use Rattle.kit_rules.specs.Parts.{Parts}
use Rattle.kit_replay.specs.Stages.{QueueNode}
use Rattle.kit_replay.proofs.Beginning.{HaveBegun, begun_more, opened}
use Rattle.kit_replay.proofs.stage.Stage.new.Goals as goal

pub loop-federate-preserved : goal.loop-federate-preserved
loop-federate-preserved c =
    let p : Parts = c.args.federation.now in
    let k : ℕ = c.loop-federate.federate in
    subst (λ (l : List QueueNode). HaveBegun p c.args.rounds (k + 1) l) (sym c.in_ok-push.ensures.items)
    (begun_more p c.args.rounds k c.loop-federate.nodes.items c.in_ok-new.field-0 c.loop-federate.invariant c.in_ok-new.ensures)

pub returns : goal.returns
returns c =
    let p : Parts = c.args.federation.now in
    let all : c.loop-federate.federate ≡ length p.federates = omega (arith, c.loop-federate.auto.federate-end, c.loop-federate-test.false, c.count-count.ensures.value) in
    let begun : HaveBegun p c.args.rounds (length p.federates) c.loop-federate.nodes.items = subst (λ (k : ℕ). HaveBegun p c.args.rounds k c.loop-federate.nodes.items) all c.loop-federate.invariant in
    opened p c.count-count.ensures.sound c.in_ok-floor.floor c.in_ok-floor.ensures c.args.rounds c.loop-federate.nodes.items begun _ refl refl
    (omega (arith, begun.many, c.count-count.ensures.value, c.from-2.ensures, c.in_ok-reports.ensures.exact)) c.in_ok-reports.ensures.items
