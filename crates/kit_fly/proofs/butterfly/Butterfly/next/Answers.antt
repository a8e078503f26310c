use Rattle.std.proofs.Common.{◌≡◌, ◌<◌, ◌-◌, ◌^◌, ap, sym, subst, ◌∙◌, arith, rules}
use Rattle.kit_ground.specs.Steps.{IsReg}
use Rattle.kit_lbts.specs.declared.view.Scheme.TheVariants.{Butterfly}
use Rattle.kit_lbts.specs.Reduction.{reg_of}
use Rattle.kit_fly.specs.Rounds.{register_in}
use Rattle.kit_fly.specs.Stages.{registers_among}
use Rattle.kit_fly.proofs.Inner.{next_stage}
use Rattle.kit_fly.proofs.Sources.{is_reg, registers_long}
use Rattle.kit_fly.proofs.butterfly.Butterfly.next.Goals as goal

is_next : (c : goal.After-register-2) → let s = c.args.self.now in c.register-2.result ≡ register_in Butterfly s.federates s.me s.round s.taken
is_next c =
    let s = c.args.self.now in
    let inside : s.me < 2 ^ s.stages = search rules in
    let folds = c.folds.ensures in
    let folds2 = c.folds-2.ensures in
    let le = c.if-self-folds.false in
    let stage = next_stage s.federates s.stages s.me s.round c.folds-2.result s.taken s.counted inside folds2 (omega (arith, folds, folds2, le)) c.requires in
    c.register-2.ensures.value ∙ (ap (λ y. reg_of y (s.taken - c.folds-2.result) s.round) c.partner.ensures ∙ sym stage.is)

pub returns-clause-inside : goal.returns-clause-inside
returns-clause-inside c =
    let s = c.args.self.now in
    let all = registers_long s.federates s.me ∙ ap (λ t. registers_among s.federates t s.me) (sym s.counted) in
    let lt = c.requires in
    subst (IsReg s.federates) (sym (is_next c)) (is_reg Butterfly s.federates s.me s.round s.taken s.one s.few.1 (omega (arith, all, lt)))

pub returns-clause-is : goal.returns-clause-is
returns-clause-is c = is_next c
