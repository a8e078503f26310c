use Rattle.std.proofs.Common.{◌∙◌, arith}
use Rattle.kit_ground.specs.Layout.{index_of}
use Rattle.kit_pool.proofs.PoolWords.{length-unused}
use Rattle.kit_pool.proofs.pool.TableSeat+Bare.place_of.Goals as goal

pub returns : goal.returns
returns c =
    let long = length-unused c.args.self.now.federates in
    let is = c.index.ensures ∙ (λ i. index_of (c.federates-federates.ensures i) (c.buffers.ensures i) c.args.address) in
    let n = c.from.ensures in
    let m = c.federates-federates.ensures in
    omega (arith, long, is, n, m, c.requires.pool)
