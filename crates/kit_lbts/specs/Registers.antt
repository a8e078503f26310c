-- The rule of the registers: what each shows, and what each federate has learnt from them.
use Rattle.std.specs.Prelude.{◌≡◌, ℕ, zero, suc, ◌+◌, ◌-◌, ◌^◌, ◌<◌, ◌≤◌, ◌⊎◌, true, false, All, [], length, slice_index_or}
use Rattle.kit_ground.specs.declared.address.Address.TheVariants.{Register}
use Rattle.kit_ground.specs.declared.place.Place.{Place}
use Rattle.kit_ground.specs.Memory.{Memory}
use Rattle.kit_model.specs.declared.share.Share.{Share}
use Rattle.kit_model.specs.Blocks.{width}
use Rattle.kit_model.specs.Shares.{share_word, FitsWord}
use Rattle.kit_rounds.specs.declared.contribution.Contribution.{Contribution}
use Rattle.kit_rounds.specs.Ledgers.{Ledger, at_round}
use Rattle.kit_rounds.specs.Rounds.{HasContributed, result_of}
use Rattle.kit_lbts.specs.declared.view.LbtsView.{LbtsView}
use Rattle.kit_lbts.specs.Views.{time_of}
use Rattle.kit_lbts.specs.Promises.{unknown, result_at}
use Rattle.kit_lbts.specs.Reduction.{share_stage, reg_of, value_at, takes_in, publishes, sources, source}
use Rattle.kit_ground.specs.Layout.{clock_of}

-- what each contributed to a round, by the number of rounds before it
abbrev pub shares_at : (ℕ → Ledger) → ℕ → ℕ → Share
shares_at ledgers k j = (at_round (ledgers j) k).share

-- there is such a place: stages before the own share are for those within the butterfly
pub record IsPlace (n owner stage : ℕ) : Type 0 where
  pub there : owner < n
  pub known : stage < 6
  pub inside : stage < share_stage → owner < width n

-- a place of a round is known: it is this share, and all whom it takes in have contributed
pub record IsKnown (n : ℕ) (ledgers : ℕ → Ledger) (owner stage k : ℕ) (share : Share) : Type 0 where
  pub place : IsPlace n owner stage
  pub fits : FitsWord share
  pub is : share ≡ value_at n (shares_at ledgers k) owner stage
  pub made : (j : ℕ) → j < n → takes_in n owner stage j ≡ true → HasContributed (ledgers j) k

-- the word of a place shows a round, where rounds have the numbers from 1; for the number 0 it was never written
abbrev pub ShowsRound : ℕ → (ℕ → Ledger) → ℕ → ℕ → ℕ → ℕ → Type 0
ShowsRound n ledgers owner stage zero word = word ≡ 0
ShowsRound n ledgers owner stage (suc k) word = (share : Share) × (word ≡ share_word share (suc k)) × IsKnown n ledgers owner stage k share

abbrev pub word_at : Memory → ℕ → ℕ → ℕ → ℕ
word_at m owner stage round = m (Register (reg_of owner stage round))

-- the registers of the federate j, which has contributed to c rounds: of the parity of the last round each
-- shows that one or the last before it of that parity, of the other parity the round before
pub record Registers (m : Memory) (n : ℕ) (ledgers : ℕ → Ledger) (j : ℕ) (p : Place LbtsView) : Type 0 where
  pub now : (stage : ℕ) → stage < 6 → publishes p.client.scheme n j stage ≡ true
      → let c = length p.client.contributions in
      ShowsRound n ledgers j stage c (word_at m j stage c) ⊎ ShowsRound n ledgers j stage (c - 2) (word_at m j stage c)
  pub before : (stage : ℕ) → stage < 6 → publishes p.client.scheme n j stage ≡ true
      → let c = length p.client.contributions in ShowsRound n ledgers j stage (c - 1) (word_at m j stage (c + 1))
  -- the registers that it never publishes are as at first
  pub unused : (stage round : ℕ) → stage < 6 → publishes p.client.scheme n j stage ≡ false → word_at m j stage round ≡ 0
  pub clock : m (Register (clock_of j)) ≡ time_of p.client
  -- the lows of its shares have room in a word
  pub lows : All (λ (c : Contribution). c.share.low < 2 ^ 17) p.client.contributions

-- what the federate j has learnt: the places that it took in since its last contribution, and the results
pub record Learnt (n : ℕ) (ledgers : ℕ → Ledger) (j : ℕ) (p : Place LbtsView) : Type 0 where
  pub under_way : (length p.client.contributions ≡ length p.client.results) ⊎ (length p.client.contributions ≡ length p.client.results + 1)
  pub fresh : length p.client.contributions ≡ length p.client.results → p.client.taken ≡ []
  pub few : length p.client.taken ≤ length (sources p.client.scheme n j)
  pub taken : (l : ℕ) → l < length p.client.taken
      → let s = slice_index_or (sources p.client.scheme n j) l (source 0 0) in
      IsKnown n ledgers s.owner s.stage (length p.client.results) (slice_index_or p.client.taken l unknown)
  pub results : (k : ℕ) → k < length p.client.results
      → (result_at p.client k ≡ result_of n ledgers k) × ((i : ℕ) → i < n → HasContributed (ledgers i) k)
