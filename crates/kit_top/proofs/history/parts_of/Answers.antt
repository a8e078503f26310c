use Rattle.std.proofs.Common.{◌+◌, List, sym, subst, arith}
use Rattle.kit_base.specs.declared.history.Part.{Part}
use Rattle.kit_top.proofs.Histories.{AreTold, more_told}
use Rattle.kit_top.proofs.history.parts_of.Goals as goal

pub loop-federate-preserved : goal.loop-federate-preserved
loop-federate-preserved c =
    let at = c.loop-federate.federate in
    let nodes = c.args.nodes.now in
    let told = c.in_ok-part.ensures in
    let P : List Part → Type 0 = AreTold nodes (at + 1) in
    subst P (sym c.in_ok-push.ensures.items)
    (more_told nodes at c.loop-federate.parts.items c.index-nodes-federate.result c.in_ok-part.field-0 (omega arith) c.index-nodes-federate.is told.lines told.vars c.loop-federate.invariant)
