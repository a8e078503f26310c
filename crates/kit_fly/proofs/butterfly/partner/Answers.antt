use Rattle.std.proofs.Common.{arith}
use Rattle.kit_model.proofs.Widths.{width_is_greatest}
use Rattle.kit_lbts.proofs.Gathering.{few_stages}
use Rattle.kit_fly.proofs.butterfly.partner.Goals as goal

pub across-requires : goal.across-requires
across-requires c =
    let few = c.requires.federates in
    let one = few.0 in
    let most = few.1 in
    let me = c.requires.me in
    let stage = c.requires.stage in
    let stages = few_stages c.args.federates one most in
    let wide = (width_is_greatest c.args.federates one).0 in
    record { me = omega (arith, me, wide, most); stage = omega (arith, stage, stages) }
