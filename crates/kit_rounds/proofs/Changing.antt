-- Ledgers of which one has changed.
use Rattle.std.proofs.Common.{◌≢◌, ℕ, inl, inr, sym, subst}
use Rattle.std.proofs.lemmas.Bool.{cases_eq}
use Rattle.kit_rounds.specs.Ledgers.{Ledger, IsChanged}

-- what holds of each before, and of the one after, holds of each after
pub each_changed : (P : ℕ → Ledger → Type 0) (i : ℕ) (ledgers after : ℕ → Ledger) → IsChanged i ledgers after
    → ((j : ℕ) → j ≢ i → P j (ledgers j)) → P i (after i) → (j : ℕ) → P j (after j)
each_changed P i ledgers after changed before here j =
    elim (cases_eq j i) [
      | inl e ↦ subst (λ x. P x (after x)) (sym e) here
      | inr ne ↦ subst (P j) (sym (changed.others j ne)) (before j ne)
    ]
