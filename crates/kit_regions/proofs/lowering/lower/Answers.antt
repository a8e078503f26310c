use Rattle.std.proofs.Common.{◌∙◌, sym, ap, map}
use Rattle.kit_regions.specs.Lowered.{lowered_federate}
use Rattle.kit_regions.proofs.Growing.{made_fits}
use Rattle.kit_regions.proofs.lowering.lower.Goals as goal

pub new-requires : goal.new-requires
new-requires c =
    let updates = c.updates.ensures.items in
    let federates = c.federates.ensures.items in
    made_fits c.args.plan.now c.end-end.result c.buffers.result c.in_ok-groups.groups c.in_ok-federates.federates c.end-end.ensures.sound
    (sym c.crowded.ensures ∙ c.in_default.is)
    c.end-end.ensures.value c.buffers.ensures c.in_ok-groups.ensures
    (c.in_ok-federates.ensures ∙ ap (λ us. map (lowered_federate us) c.federates.result.now) updates ∙ ap (map (lowered_federate c.args.plan.now.updates)) federates)
