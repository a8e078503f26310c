use Rattle.std.proofs.Common.{sym, ◌∙◌}
use Rattle.kit_lbts.specs.Reduction.{reg_of}
use Rattle.kit_fly.proofs.Sources.{flat_above, flat_below}
use Rattle.kit_fly.proofs.flat.FlatReduction.next.Goals as goal
use Rattle.kit_fly.proofs.flat.FlatReduction.next.Goals.{then-self, else-self}

pub returns-clause-is : goal.returns-clause-is
returns-clause-is c =
    let s = c.args.self.now in
    let lt = c.requires in
    c.register.ensures.value
    ∙ elim c.if-self.branch [
      | then-self w ↦ (λ i. reg_of (w.owner-is i) 4 s.round) ∙ sym (flat_below s.federates s.me s.round s.taken s.one w.if-self.true)
      | else-self w ↦ (λ i. reg_of (w.owner-is i) 4 s.round) ∙ sym (flat_above s.federates s.me s.round s.taken s.one w.if-self.false lt)
    ]
