-- What comes of the shares that a federate takes in: the value of each place that it publishes, and the result.
use Rattle.std.specs.Prelude.{◌≡◌, ◌≢◌, ℕ, ◌<◌, ◌≤◌, true, List, length, slice_index_or}
use Rattle.kit_model.specs.declared.share.Share.{Share}
use Rattle.kit_model.specs.Blocks.{round_result}
use Rattle.kit_rounds.specs.Ledgers.{Ledger, at_round}
use Rattle.kit_rounds.specs.Rounds.{HasContributed}
use Rattle.kit_lbts.specs.declared.view.Scheme.{Scheme}
use Rattle.kit_lbts.specs.Promises.{unknown}
use Rattle.kit_lbts.specs.Reduction.{value_at, publishes, sources, source, share_with_taken, shares_needed, published_share}
use Rattle.kit_lbts.specs.Registers.{IsPlace, IsKnown}

-- these are the values of the places that are taken in first
pub record AreValues (scheme : Scheme) (n x : ℕ) (share : ℕ → Share) (taken : List Share) : Type 0 where
  pub few : length taken ≤ length (sources scheme n x)
  pub each : (l : ℕ) → l < length taken
      → let s = slice_index_or (sources scheme n x) l (source 0 0) in slice_index_or taken l unknown ≡ value_at n share s.owner s.stage

-- who has taken in what a place needs has its value
abbrev pub PublishedAreValues : Type 0
PublishedAreValues = (scheme : Scheme) (n x stage : ℕ) (share : ℕ → Share) (taken : List Share) → x < n → n ≤ 16 → AreValues scheme n x share taken
    → publishes scheme n x stage ≡ true → shares_needed scheme n x stage ≤ length taken → published_share scheme n x (share x) taken stage ≡ value_at n share x stage

-- and who has taken in all has the result
abbrev pub AllIsResult : Type 0
AllIsResult = (scheme : Scheme) (n x : ℕ) (share : ℕ → Share) (taken : List Share) → x < n → n ≤ 16 → AreValues scheme n x share taken
    → length taken ≡ length (sources scheme n x) → share_with_taken scheme n x (share x) taken ≡ round_result n share

-- what is known of a place stays so while contributions last
abbrev pub KnownLasts : Type 0
KnownLasts = (n owner stage k : ℕ) (share : Share) (ledgers after : ℕ → Ledger)
    → ((j : ℕ) → j < n → HasContributed (ledgers j) k → HasContributed (after j) k × (at_round (after j) k ≡ at_round (ledgers j) k))
    → IsKnown n ledgers owner stage k share → IsKnown n after owner stage k share

-- whatever is taken in is a place of another federate, which publishes it
abbrev pub SourcesArePublished : Type 0
SourcesArePublished = (scheme : Scheme) (n x l : ℕ) → x < n → n ≤ 16 → l < length (sources scheme n x)
    → let s = slice_index_or (sources scheme n x) l (source 0 0) in
    IsPlace n s.owner s.stage × (publishes scheme n s.owner s.stage ≡ true) × (s.owner ≢ x)
