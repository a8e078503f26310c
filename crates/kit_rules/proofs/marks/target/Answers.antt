use Rattle.std.proofs.Common.{sym, arith, ◌∙◌}
use Rattle.kit_rules.proofs.TakenBack.{no_target, target_at}
use Rattle.kit_rules.proofs.marks.target.Goals.{then-number-eq0-via-then-number-eq0, then-number-eq0-via-else-number-eq0+then-sends-number}
use Rattle.kit_rules.proofs.marks.target.Goals as goal

pub returns-then-number-eq0-clause-first : goal.returns-then-number-eq0-clause-first
returns-then-number-eq0-clause-first c =
    sym (no_target c.args.scene.now c.args.sends.now c.args.number c.requires.numbered
    (λ k lt e. elim c.then-number-eq0.branch [ then-number-eq0-via-then-number-eq0 w ↦ omega arith | then-number-eq0-via-else-number-eq0+then-sends-number w ↦ omega arith ]))

pub returns-then-is_open-clause-first : goal.returns-then-is_open-clause-first
returns-then-is_open-clause-first c =
    let e = target_at c.args.scene.now c.args.sends.now c.args.number c.requires.numbered (omega arith) (omega arith) in
    sym (rw (sym c.is_open.ensures ∙ c.if-is_open.true) at e)

pub returns-else-is_open-clause-first : goal.returns-else-is_open-clause-first
returns-else-is_open-clause-first c =
    let e = target_at c.args.scene.now c.args.sends.now c.args.number c.requires.numbered (omega arith) (omega arith) in
    sym (rw (sym c.is_open.ensures ∙ c.if-is_open.false) at e)
