use Rattle.kit_top.proofs.Histories.{few_reports, if_ok, if_ok_both, simulated, vars_for_each}
use Rattle.kit_top.proofs.history.history_of.Goals as goal

pub parts_of-requires : goal.parts_of-requires
parts_of-requires c = few_reports c.args.federation.now c.args.nodes.now c.keeps_its_limits.ensures c.requires

pub returns-clause-simulated : goal.returns-clause-simulated
returns-clause-simulated c =
    let p = c.args.federation.now in
    if_ok_both c.merge.result _ _ _
    (λ h lines vars. simulated c.whole_parts_merge.ensures p c.keeps_its_limits.ensures c.args.nodes.now c.in_ok-parts.parts.items c.deref.result.now h.lines h.vars c.requires c.in_ok-parts.ensures c.deref.ensures.value lines vars)
    c.merge.ensures.lines c.merge.ensures.vars

pub returns-clause-vars : goal.returns-clause-vars
returns-clause-vars c =
    if_ok c.merge.result _ _
    (λ h vars. vars_for_each c.args.federation.now c.args.nodes.now c.in_ok-parts.parts.items c.deref.result.now h.vars c.requires c.in_ok-parts.ensures c.deref.ensures.value vars)
    c.merge.ensures.vars
