-- The rounds of a reduction, through all its runs. A round is named by the number of rounds before it.
use Rattle.std.specs.Prelude.{◌≡◌, ◌==◌, ℕ, zero, suc, ◌+◌, ◌<◌, ◌≤◌, ◌⊎◌, if◌then◌else◌, All, length, take, drop}
use Rattle.kit_model.specs.declared.share.Share.{Share}
use Rattle.kit_model.specs.Blocks.{round_result}
use Rattle.kit_model.specs.Counts.{old_count}
use Rattle.kit_rounds.specs.declared.contribution.Contribution.{Contribution}
use Rattle.kit_rounds.specs.Ledgers.{Ledger, colours, at_round, last_run}

abbrev pub HasContributed : Ledger → ℕ → Type 0
HasContributed l k = k < length l.contributions

-- the result of a round: the contributions of all together
abbrev pub result_of : ℕ → (ℕ → Ledger) → ℕ → Share
result_of n ledgers k = round_result n (λ j. (at_round (ledgers j) k).share)

-- the run to which a round belongs: the first is of run 1, and a run ends with the round whose sums are equal
abbrev pub run_after : (ℕ → Share) → ℕ → ℕ
run_after results zero = 1
run_after results (suc k) = if (results k).out == (results k).inn then run_after results k + 1 else run_after results k

abbrev pub run_of : ℕ → (ℕ → Ledger) → ℕ → ℕ
run_of n ledgers k = run_after (result_of n ledgers) k

-- a run ended with this round
abbrev pub EndsRun : ℕ → (ℕ → Ledger) → ℕ → Type 0
EndsRun n ledgers k = (result_of n ledgers k).out ≡ (result_of n ledgers k).inn

-- a contribution counts what was old when it was made, and nothing posted later is old for it
pub record IsFaithful (l : Ledger) (c : Contribution) : Type 0 where
  pub posts : c.posts ≤ length l.posted
  pub receipts : c.receipts ≤ length l.received
  pub out : c.share.out ≡ old_count c.run (colours (take c.posts l.posted))
  pub inn : c.share.inn ≡ old_count c.run (colours (take c.receipts l.received))
  pub later : All (λ x. c.run ≤ x.stamp.colour) (drop c.posts l.posted)

-- so many rounds are done: everybody contributed to these, some to one more, and nobody to another. The
-- one more may be full; it is done as soon as it is counted.
pub record RoundsAt (n : ℕ) (ledgers : ℕ → Ledger) (done : ℕ) : Type 0 where
  pub counted : (j : ℕ) → j < n → (length (ledgers j).contributions ≡ done) ⊎ (length (ledgers j).contributions ≡ suc done)
  pub runs : (j k : ℕ) → j < n → HasContributed (ledgers j) k → (at_round (ledgers j) k).run ≡ run_of n ledgers k
  pub coloured : (j : ℕ) → j < n → (ledgers j).colour ≡ last_run (ledgers j).contributions
  pub faithful : (j k : ℕ) → j < n → HasContributed (ledgers j) k → IsFaithful (ledgers j) (at_round (ledgers j) k)
