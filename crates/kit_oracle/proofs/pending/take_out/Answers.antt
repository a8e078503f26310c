use Rattle.std.proofs.Common.{sym, ◌∙◌, arith}
use Rattle.kit_rules.specs.Step.{no_message}
use Rattle.kit_oracle.proofs.Rows.{removed, absent}
use Rattle.kit_oracle.proofs.pending.take_out.Goals as goal

pub returns-then-has_at : goal.returns-then-has_at
returns-then-has_at c =
    let inside = c.has_at.ensures.inside c.if-has_at.true in
    let taken = removed c.args.key c.args.near.now.items c.place-at.result no_message c.requires inside c.place-at.ensures.before (c.has_at.ensures.there no_message inside ∙ c.if-has_at.true) in
    grind (arith, taken)

pub returns-else-has_at : goal.returns-else-has_at
returns-else-has_at c =
    sym (absent c.args.key c.args.near.now.items c.place-at.result c.requires c.place-at.ensures.within c.place-at.ensures.before c.place-at.ensures.behind (λ d h. c.has_at.ensures.there d h ∙ c.if-has_at.false))
