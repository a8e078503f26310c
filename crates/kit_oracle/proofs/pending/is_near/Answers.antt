use Rattle.std.proofs.Common.{◌∙◌, sym}
use Rattle.kit_oracle.specs.Pending.{compare_keys}
use Rattle.kit_oracle.proofs.Rows.{is_less}
use Rattle.kit_oracle.proofs.Split.{before_tree, before_key}
use Rattle.kit_oracle.proofs.pending.is_near.Goals as goal

pub returns-in-Some-clause-near : goal.returns-in-Some-clause-near
returns-in-Some-clause-near c = λ h. before_tree c.args.key c.args.far.now.entries c.in-Some.first.now c.in-Some.field-0-1.now c.requires c.in-Some.ensures.first (is_less (compare_keys c.args.key c.in-Some.first.now) (sym c.precedes.ensures ∙ h))

pub returns-in-Some-clause-far : goal.returns-in-Some-clause-far
returns-in-Some-clause-far c = λ h x a. before_key c.args.key x c.args.far.now.entries c.in-Some.first.now c.in-Some.field-0-1.now c.requires c.in-Some.ensures.first (sym c.precedes.ensures ∙ h) a
