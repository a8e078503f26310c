use Rattle.std.proofs.Common.{◌≡◌, length, sym, ap, ◌∙◌, subst}
use Rattle.kit_ground.specs.Floors.{RulesHold, new_floor}
use Rattle.kit_ground.proofs.PlainOpening.{ruled_opened}
use Rattle.kit_ground.proofs.Starts.{length_places_from}
use Rattle.kit_ground.proofs.plain.PlainFloor.new.Goals as goal

pub invariant_of-result : goal.invariant_of-result
invariant_of-result g c =
    let rule = g.P.Protocol.rule in
    let first = g.P.Protocol.first in
    let about = c.args.opening.now.value in
    let n = c.args.federates in
    let b = c.args.buffers in
    let is : new_floor first about n b ≡ record { opening = c.again.result.value; buffers = b; words = c.in_ok-words.words.items; places = c.first_places-places.result.value; seated = 0; steps = c.no_steps.result.value } =
    (λ i. record { opening = sym c.again.ensures i; buffers = b; words = sym c.in_ok-words.ensures.all i; places = sym c.first_places-places.ensures i; seated = 0; steps = sym c.no_steps.ensures i }) in (
      subst (RulesHold rule) is (ruled_opened rule first about n b c.requires.federates.0 c.requires.federates.1 c.requires.buffers.1 c.requires.rule),
      sym (ap length c.first_places-places.ensures ∙ length_places_from (first about) n b 0 n),
    )
