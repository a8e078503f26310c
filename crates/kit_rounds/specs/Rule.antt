-- The rule of the rounds: why the low of a round whose sums are equal is a bound.
use Rattle.std.specs.Prelude.{◌≡◌, ℕ, ◌<◌, ◌≤◌, All, List, length, drop}
use Rattle.kit_rounds.specs.Ledgers.{Stamp, Copy, Ledger, at_round}
use Rattle.kit_rounds.specs.Channels.{IsUnreceived, Channels}
use Rattle.kit_rounds.specs.Rounds.{HasContributed, result_of, run_of, EndsRun, RoundsAt}

-- a copy of the run's colour, an older one, a newer one is timed w or more
abbrev pub IsTimed : ℕ → ℕ → Copy → Type 0
IsTimed run w c = c.stamp.colour ≡ run → w ≤ c.stamp.time

abbrev pub IsOldTimed : ℕ → ℕ → Copy → Type 0
IsOldTimed run w c = c.stamp.colour < run → w ≤ c.stamp.time

abbrev pub IsNewTimed : ℕ → ℕ → Copy → Type 0
IsNewTimed run w c = run < c.stamp.colour → w ≤ c.stamp.time

-- what the federate received after its contribution to a round
abbrev pub received_after : Ledger → ℕ → List Copy
received_after l k = drop (at_round l k).receipts l.received

-- w is below what the round that is under way is known to come to: the lows of those who contributed to it,
-- the posts of the run's colour of those who didn't, and the old copies that came to those who did
pub record IsBelow (n run : ℕ) (ledgers : ℕ → Ledger) (done w : ℕ) : Type 0 where
  pub lows : (j : ℕ) → j < n → HasContributed (ledgers j) done → w ≤ (at_round (ledgers j) done).share.low
  pub posts : (j : ℕ) → j < n → length (ledgers j).contributions ≤ done → All (IsTimed run w) (ledgers j).posted
  pub receipts : (j : ℕ) → j < n → HasContributed (ledgers j) done → All (IsOldTimed run w) (received_after (ledgers j) done)

-- then no copy of the run's colour is timed below w, and nobody who contributed promises less
pub record IsAbove (n run : ℕ) (ledgers : ℕ → Ledger) (done w : ℕ) : Type 0 where
  pub copies : (j : ℕ) → j < n → All (IsTimed run w) (ledgers j).posted
  pub promises : (j : ℕ) → j < n → HasContributed (ledgers j) done → w ≤ (ledgers j).promise

-- v bounds a world: no copy on its way is timed below it, and nobody promises less
pub record IsBound (n : ℕ) (ledgers : ℕ → Ledger) (v : ℕ) : Type 0 where
  pub copies : (i j : ℕ) (s : Stamp) → i < n → j < n → IsUnreceived ledgers i j s → v ≤ s.time
  pub promises : (j : ℕ) → j < n → v ≤ (ledgers j).promise

-- the bound of a run lasts: copies of later colours and the lows of later runs are not below it
pub record IsLasting (n : ℕ) (ledgers : ℕ → Ledger) (run v : ℕ) : Type 0 where
  pub posts : (j : ℕ) → j < n → All (IsNewTimed run v) (ledgers j).posted
  pub lows : (j k : ℕ) → j < n → HasContributed (ledgers j) k → run < (at_round (ledgers j) k).run → v ≤ (at_round (ledgers j) k).share.low

pub record RoundRule (n : ℕ) (ledgers : ℕ → Ledger) (done : ℕ) : Type 0 where
  pub channels : Channels n ledgers
  pub rounds : RoundsAt n ledgers done
  pub newest : (j : ℕ) → j < n → All (λ c. c.stamp.colour ≤ run_of n ledgers done) (ledgers j).posted
  pub current : (w : ℕ) → IsBelow n (run_of n ledgers done) ledgers done w → IsAbove n (run_of n ledgers done) ledgers done w
  pub bound : (k : ℕ) → k < done → EndsRun n ledgers k → IsBound n ledgers (result_of n ledgers k).low
  pub lasting : (k : ℕ) → k < done → EndsRun n ledgers k → IsLasting n ledgers (run_of n ledgers k) (result_of n ledgers k).low
