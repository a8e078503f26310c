use Rattle.std.proofs.Common.{◌∙◌, arith}
use Rattle.kit_ground.specs.Layout.{index_of}
use Rattle.kit_ground.proofs.Layouts.{on_floor}
use Rattle.kit_ground.proofs.plain.PlainFloor.index.Goals as goal

pub returns-clause-inside : goal.returns-clause-inside
returns-clause-inside g c =
    let sized = c.sizes-federates.ensures.ruled.words.sized in
    let inside = on_floor _ _ c.args.address c.requires in
    let is = c.index.ensures ∙ (λ i. index_of (c.sizes-federates.ensures.federates i) (c.sizes-federates.ensures.buffers i) c.args.address) in
    omega (arith, is, inside, sized)
