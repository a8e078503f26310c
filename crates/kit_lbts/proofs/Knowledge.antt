-- What is known of a place stays so.
use Rattle.std.proofs.Common.{◌≡◌, ℕ, ◌<◌, ◌==◌, nat_lt, inl, inr, true, cond, arith, refl, sym, ap, ◌∙◌, subst, eq-eqb}
use Rattle.std.proofs.lemmas.Bool.{cases_eq, lt-ltb, ne_eqb}
use Rattle.kit_model.specs.declared.share.Share.{Share}
use Rattle.kit_model.specs.Blocks.{in_block, round_result}
use Rattle.kit_model.proofs.Joining.{block_decides}
use Rattle.kit_rounds.specs.declared.contribution.Contribution.{Contribution}
use Rattle.kit_rounds.proofs.Results.{same_result}
use Rattle.kit_lbts.specs.Reduction.{share_stage, back_stage, value_at, takes_in}
use Rattle.kit_lbts.specs.Registers.{shares_at, IsPlace}
use Rattle.kit_lbts.specs.ReductionLaws.{KnownLasts}
use Rattle.kit_lbts.proofs.Gathering.{value_of_stage}

pub before_share : (stage : ℕ) → stage < 6 → (stage ≡ 4 → ⊥) → (stage ≡ 5 → ⊥) → stage < 4
before_share stage lt a b = grind (arith, a, b)

pub takes_in_stage : (n owner stage j : ℕ) → (stage ≡ 4 → ⊥) → (stage ≡ 5 → ⊥) → takes_in n owner stage j ≡ in_block n stage owner j
takes_in_stage n owner stage j a b =
    ap (λ t. cond t (j == owner) (cond (stage == back_stage) (nat_lt j n) (in_block n stage owner j))) (ne_eqb stage share_stage a)
    ∙ ap (λ t. cond t (nat_lt j n) (in_block n stage owner j)) (ne_eqb stage back_stage b)

-- a value depends on the contributions of those whom it takes in
pub same_value : (n owner stage : ℕ) (share other : ℕ → Share) → IsPlace n owner stage
    → ((j : ℕ) → j < n → takes_in n owner stage j ≡ true → share j ≡ other j) → value_at n share owner stage ≡ value_at n other owner stage
same_value n owner stage share other place same =
    elim (cases_eq stage share_stage) [
      | inl four ↦
          let mine : share owner ≡ other owner = same owner place.there (ap (λ s. takes_in n owner s owner) four ∙ eq-eqb owner owner refl) in
          subst (λ s. value_at n share owner s ≡ value_at n other owner s) (sym four) mine
      | inr not_four ↦ elim (cases_eq stage back_stage) [
        | inl five ↦
            let all : round_result n share ≡ round_result n other =
            same_result n share other (omega (arith, place.there)) (λ j lt. same j lt (ap (λ s. takes_in n owner s j) five ∙ lt-ltb j n lt)) in
            subst (λ s. value_at n share owner s ≡ value_at n other owner s) (sym five) all
        | inr not_five ↦
            let early : stage < 4 = before_share stage place.known not_four not_five in
            value_of_stage n share owner stage early
            ∙ block_decides n share other stage owner (omega (arith, place.there)) (place.inside early) (λ j lt e. same j lt (takes_in_stage n owner stage j not_four not_five ∙ e))
            ∙ sym (value_of_stage n other owner stage early)
      ]
    ]

pub known_lasts : KnownLasts
known_lasts n owner stage k share ledgers after lasts known = record {
  place = known.place;
  fits = known.fits;
  is =
      known.is
      ∙ same_value n owner stage (shares_at ledgers k) (shares_at after k) known.place
      (λ j lt e. ap (λ (c : Contribution). c.share) (sym (lasts j lt (known.made j lt e)).1));
  made = λ j lt e. (lasts j lt (known.made j lt e)).0;
}
