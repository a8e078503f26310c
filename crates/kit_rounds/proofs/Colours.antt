-- The colour of a federate, and the runs of its contributions.
use Rattle.std.proofs.Common.{◌≡◌, ℕ, zero, suc, ◌+◌, ◌-◌, ◌<◌, ◌≤◌, inl, inr, length, arith, ap, ◌∙◌}
use Rattle.std.specs.Prelude.{slice_index_or}
use Rattle.std.proofs.lemmas.List.{get_or_past}
use Rattle.kit_rounds.specs.Ledgers.{Ledger, nothing, at_round}
use Rattle.kit_rounds.specs.Rounds.{HasContributed, result_of, run_of, RoundsAt}
use Rattle.kit_rounds.proofs.Results.{run_next, run_within}

-- after m rounds and one more, the colour is the run of that one
pub colour_is : (n : ℕ) (ledgers : ℕ → Ledger) (done j m : ℕ) → RoundsAt n ledgers done → j < n → length (ledgers j).contributions ≡ suc m
    → (ledgers j).colour ≡ run_of n ledgers m
colour_is n ledgers done j m rounds lt e =
    let last : length (ledgers j).contributions - 1 ≡ m = omega arith in
    rounds.coloured j lt ∙ ap (λ k. (slice_index_or (ledgers j).contributions k nothing).run) last ∙ rounds.runs j m lt (omega arith)

-- with no contribution it is 0
pub colour_none : (n : ℕ) (ledgers : ℕ → Ledger) (done j : ℕ) → RoundsAt n ledgers done → j < n → length (ledgers j).contributions ≡ 0
    → (ledgers j).colour ≡ 0
colour_none n ledgers done j rounds lt e =
    rounds.coloured j lt ∙ ap (λ c. c.run) (get_or_past (ledgers j).contributions (length (ledgers j).contributions - 1) nothing (omega arith))

-- who contributed to the round that is under way has the run's colour
pub colour_member : (n : ℕ) (ledgers : ℕ → Ledger) (done j : ℕ) → RoundsAt n ledgers done → j < n → HasContributed (ledgers j) done
    → (ledgers j).colour ≡ run_of n ledgers done
colour_member n ledgers done j rounds lt has =
    elim (rounds.counted j lt) [ inl e ↦ absurd (omega (arith, e)) | inr e ↦ colour_is n ledgers done j done rounds lt e ]

-- who didn't has the colour of the round before
pub colour_outside : (n : ℕ) (ledgers : ℕ → Ledger) (done j : ℕ) → RoundsAt n ledgers done → j < n → length (ledgers j).contributions ≡ done
    → ((ledgers j).colour ≤ run_of n ledgers done) × (run_of n ledgers done ≤ (ledgers j).colour + 1)
colour_outside n ledgers zero j rounds lt e =
    let none = colour_none n ledgers zero j rounds lt e in (omega (arith, none), omega (arith, none))
colour_outside n ledgers (suc m) j rounds lt e =
    let is = colour_is n ledgers (suc m) j m rounds lt e in
    let next = run_next (result_of n ledgers) m in
    (omega (arith, is, next.0), omega (arith, is, next.1))

-- two colours differ by one at most
pub colour_near : (n : ℕ) (ledgers : ℕ → Ledger) (done j : ℕ) → RoundsAt n ledgers done → j < n
    → ((ledgers j).colour ≤ run_of n ledgers done) × (run_of n ledgers done ≤ (ledgers j).colour + 1)
colour_near n ledgers done j rounds lt =
    elim (rounds.counted j lt) [
      | inl e ↦ colour_outside n ledgers done j rounds lt e
      | inr e ↦ let is = colour_is n ledgers done j done rounds lt e in (omega (arith, is), omega (arith, is))
    ]

-- a federate's contributions are to runs of its colour and earlier ones
pub runs_before : (n : ℕ) (ledgers : ℕ → Ledger) (done j k : ℕ) → RoundsAt n ledgers done → j < n → HasContributed (ledgers j) k
    → (at_round (ledgers j) k).run ≤ (ledgers j).colour
runs_before n ledgers done j k rounds lt has =
    let last : length (ledgers j).contributions ≡ suc (length (ledgers j).contributions - 1) = omega arith in
    let is = colour_is n ledgers done j (length (ledgers j).contributions - 1) rounds lt last in
    omega (arith, is, rounds.runs j k lt has, run_within (result_of n ledgers) k (length (ledgers j).contributions - 1) (omega arith))
