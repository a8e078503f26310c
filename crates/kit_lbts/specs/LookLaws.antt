-- What a look at a register teaches.
use Rattle.std.specs.Prelude.{◌≡◌, ℕ, ◌+◌, ◌/◌, ◌%◌, ◌^◌, ◌<◌, ◌≤◌, List, length, slice_index_or}
use mathlib.Core.Option.{some}
use lib.ListN.{get_elem?}
use Rattle.kit_ground.specs.declared.place.Place.{Place}
use Rattle.kit_ground.specs.Memory.{Memory}
use Rattle.kit_model.specs.Shares.{share_of}
use Rattle.kit_rounds.specs.Rounds.{HasContributed, result_of, EndsRun}
use Rattle.kit_rounds.specs.Rule.{IsBound}
use Rattle.kit_lbts.specs.declared.view.LbtsView.{LbtsView}
use Rattle.kit_lbts.specs.Promises.{ledgers_of}
use Rattle.kit_lbts.specs.Reduction.{sources, source, share_with_taken}
use Rattle.kit_lbts.specs.Registers.{word_at, IsKnown, Registers, Learnt}
use Rattle.kit_lbts.specs.Progress.{own_share}
use Rattle.kit_lbts.specs.Rule.{Common, RoundsHold}

-- what the rule says of the registers of all, and of the rounds
pub record Shows (m : Memory) (places : List (Place LbtsView)) : Type 0 where
  pub few : length places ≤ 16
  pub common : Common places
  pub each : (j : ℕ) (p : Place LbtsView) → get_elem? places j ≡ some p → Registers m (length places) (ledgers_of places) j p
  pub rounds : RoundsHold places

-- a federate with a round under way looks at the next place that it takes in. Where the word shows the round, it
-- is the share of that place.
abbrev pub LooksTeach : Type 0
LooksTeach = (m : Memory) (places : List (Place LbtsView)) (j : ℕ) (p : Place LbtsView) → get_elem? places j ≡ some p → Shows m places
    → let n = length places in let c = length p.client.contributions in
    Learnt n (ledgers_of places) j p → c ≡ length p.client.results + 1 → length p.client.taken < length (sources p.client.scheme n j)
    → let s = slice_index_or (sources p.client.scheme n j) (length p.client.taken) (source 0 0) in
    let word = word_at m s.owner s.stage c in
    word / 2 ^ 61 ≡ c % 8 → IsKnown n (ledgers_of places) s.owner s.stage (length p.client.results) (share_of word).0

-- who has taken in all has the result of the round, to which all have contributed; and where its sums are equal,
-- its low bounds all copies on their way and all promises
abbrev pub AllTaughtIsResult : Type 0
AllTaughtIsResult = (places : List (Place LbtsView)) (j : ℕ) (p : Place LbtsView) → get_elem? places j ≡ some p → length places ≤ 16 → RoundsHold places
    → let n = length places in let k = length p.client.results in
    Learnt n (ledgers_of places) j p → length p.client.contributions ≡ k + 1 → length p.client.taken ≡ length (sources p.client.scheme n j)
    → (share_with_taken p.client.scheme n j (own_share p.client) p.client.taken ≡ result_of n (ledgers_of places) k)
    × ((i : ℕ) → i < n → HasContributed (ledgers_of places i) k)
    × (EndsRun n (ledgers_of places) k → IsBound n (ledgers_of places) (result_of n (ledgers_of places) k).low)
