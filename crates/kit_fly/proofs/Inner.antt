-- What a federate within the butterfly does next, by the numbers that it keeps.
use Rattle.std.proofs.Common.{◌≡◌, ℕ, ◌+◌, ◌-◌, ◌^◌, ◌<◌, ◌≤◌, cond, sym, ap, subst, ◌∙◌, arith}
use Rattle.std.proofs.lemmas.Bool.{lt-ltb, le-ltb}
use Rattle.kit_model.specs.Blocks.{partner_of, stages, width}
use Rattle.kit_lbts.specs.declared.view.Scheme.TheVariants.{Butterfly}
use Rattle.kit_lbts.specs.Reduction.{has_outer, reg_of}
use Rattle.kit_lbts.proofs.Gathering.{shift}
use Rattle.kit_fly.specs.Rounds.{register_in}
use Rattle.kit_fly.specs.Stages.{folds_of, registers_among}
use Rattle.kit_fly.proofs.Sources.{folds_are, stage_next}

pub inner_among : (n s x : ℕ) → x < 2 ^ s → registers_among n s x ≡ folds_of n s x + s
inner_among n s x inside = ap (λ b. cond b (folds_of n s x + s) 1) (lt-ltb x (2 ^ s) inside)

pub outer_among : (n s x : ℕ) → 2 ^ s ≤ x → registers_among n s x ≡ 1
outer_among n s x out = ap (λ b. cond b (folds_of n s x + s) 1) (le-ltb x (2 ^ s) out)

-- the numbers of one within the butterfly
pub record AreInner (n s x folds : ℕ) : Type 0 where
  pub inside : x < width n
  pub stages_is : s ≡ stages n
  pub folds_is : folds ≡ shift (has_outer n x)
  pub all : registers_among n s x ≡ folds + s

pub are_inner : (n s x folds : ℕ) → s ≡ stages n → x < 2 ^ s → folds ≡ folds_of n s x → AreInner n s x folds
are_inner n s x folds is inside f =
    let within : x < width n = subst (λ t. x < 2 ^ t) is inside in
    let all = inner_among n s x inside in
    record {
      inside = within;
      stages_is = is;
      folds_is = f ∙ (ap (λ t. folds_of n t x) is ∙ sym (folds_are n x within));
      all = omega (arith, all, f);
    }

-- the stage that is taken in next
pub record IsNextStage (n s x round folds taken : ℕ) : Type 0 where
  pub inside : x < width n
  pub below : taken - folds < stages n
  pub is : register_in Butterfly n x round taken ≡ reg_of (partner_of (taken - folds) x) (taken - folds) round

pub next_stage : (n s x round folds taken : ℕ) → s ≡ stages n → x < 2 ^ s → folds ≡ folds_of n s x → folds ≤ taken → taken < registers_among n s x → IsNextStage n s x round folds taken
next_stage n s x round folds taken is inside f le lt =
    let i = are_inner n s x folds is inside f in
    let all = i.all in
    let st = i.stages_is in
    let fo = i.folds_is in
    let below : taken - folds < stages n = omega (arith, all, st, lt, le) in
    record { inside = i.inside; below = below; is = stage_next n x round taken (taken - folds) i.inside below (omega (arith, fo, le)) }
