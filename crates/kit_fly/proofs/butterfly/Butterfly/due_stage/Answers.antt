use Rattle.std.proofs.Common.{◌≡◌, ◌<◌, ◌-◌, ◌^◌, ◌⊎◌, inl, inr, Bool, true, false, refl, ap, sym, ◌∙◌, arith, rules}
use Rattle.kit_model.specs.Blocks.{stages}
use Rattle.kit_lbts.specs.Reduction.{has_outer}
use Rattle.kit_lbts.proofs.Gathering.{shift}
use Rattle.kit_fly.specs.Stages.{registers_among}
use Rattle.kit_fly.proofs.Inner.{are_inner}
use Rattle.kit_fly.proofs.Slots.{back_due, value_due}
use Rattle.kit_fly.proofs.Sources.{registers_long}
use Rattle.kit_fly.proofs.butterfly.Butterfly.due_stage.Goals as goal

is_one : (b : Bool) → shift b ≡ 1 → b ≡ true
is_one true e = refl
is_one false e = absurd (omega (arith, e))

pub returns-then-stage-eq0 : goal.returns-then-stage-eq0
returns-then-stage-eq0 c =
    let s = c.args.self.now in
    let n = s.federates in
    let inside : s.me < 2 ^ s.stages = search rules in
    let folds = c.folds.ensures in
    let folds2 = c.folds-2.ensures in
    let le = c.if-self-folds.false in
    let i = are_inner n s.stages s.me c.folds-2.result s.counted inside folds2 in
    let few = s.halved.0 in
    let st = i.stages_is in
    let fo = i.folds_is in
    let stage = s.taken - c.folds-2.result in
    let early : stage < 4 = elim c.if-stage-eq0.either [ inl lt ↦ omega (arith, lt, few) | inr e ↦ omega (arith, e.1) ] in
    let last : (stage ≡ 0) ⊎ (stage < stages n) = elim c.if-stage-eq0.either [ inl lt ↦ inr (omega (arith, lt, st)) | inr e ↦ inl e.1 ] in
    value_due n s.me s.taken stage early i.inside last (omega (arith, fo, folds, folds2, le))

pub returns-then-folds-eq1 : goal.returns-then-folds-eq1
returns-then-folds-eq1 c =
    let s = c.args.self.now in
    let n = s.federates in
    let inside : s.me < 2 ^ s.stages = search rules in
    let folds = c.folds.ensures in
    let folds2 = c.folds-2.ensures in
    let folds3 = c.folds-else-stage-eq0.ensures in
    let one = c.if-folds-eq1.true in
    let le = c.if-self-folds.false in
    let i = are_inner n s.stages s.me c.folds-2.result s.counted inside folds2 in
    let fo = i.folds_is in
    let all = i.all in
    let past = c.if-stage-eq0.false.0 in
    let most = s.taken_of in
    let long = registers_long n s.me ∙ ap (λ t. registers_among n t s.me) (sym s.counted) in
    let has : has_outer n s.me ≡ true = is_one (has_outer n s.me) (omega (arith, fo, folds2, folds3, one)) in
    back_due n s.me s.taken has (omega (arith, long, all, past, most, folds, folds2, le))
