use Rattle.std.proofs.Common.{sym, refl, arith, ◌∙◌}
use Rattle.kit_rules.proofs.TakenBack.{none_taken_back, taken_back_at}
use Rattle.kit_rules.proofs.marks.is_taken_back.Goals.{then-mark-eq0-via-then-mark-eq0, then-mark-eq0-via-else-mark-eq0+then-sends-mark}
use Rattle.kit_rules.proofs.marks.is_taken_back.Goals as goal

pub returns-then-mark-eq0 : goal.returns-then-mark-eq0
returns-then-mark-eq0 c =
    sym (none_taken_back c.args.sends.now c.args.marks.now c.args.number c.requires.marked c.requires.low
    (λ k lt e. elim c.then-mark-eq0.branch [ then-mark-eq0-via-then-mark-eq0 w ↦ omega arith | then-mark-eq0-via-else-mark-eq0+then-sends-mark w ↦ omega arith ]))

pub returns : goal.returns
returns c =
    c.names.ensures ∙ sym (taken_back_at c.args.sends.now c.args.marks.now c.args.number _ c.requires.marked c.requires.low refl (omega arith) (omega arith))
