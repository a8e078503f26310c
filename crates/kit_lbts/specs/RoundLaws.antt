-- The rounds keep their rule where one federate's ledger makes a step.
use Rattle.std.specs.Prelude.{◌≡◌, ℕ, ◌<◌, List, length, slice_set}
use mathlib.Core.Option.{some}
use lib.ListN.{get_elem?}
use Rattle.kit_ground.specs.declared.place.Place.{Place}
use Rattle.kit_rounds.specs.declared.contribution.Contribution.{Contribution}
use Rattle.kit_rounds.specs.Ledgers.{Stamp, Copy}
use Rattle.kit_rounds.specs.Channels.{IsUnreceived}
use Rattle.kit_rounds.specs.Steps.{Posts, Receives, Rises, Contributes}
use Rattle.kit_lbts.specs.declared.view.LbtsView.{LbtsView}
use Rattle.kit_lbts.specs.Promises.{ledger_of, ledgers_of, next_run}
use Rattle.kit_lbts.specs.Registers.{Learnt}
use Rattle.kit_lbts.specs.Rule.{RoundsHold}

abbrev pub PostsKeepRounds : Type 0
PostsKeepRounds = (places : List (Place LbtsView)) (j : ℕ) (p q : Place LbtsView) (c : Copy) → get_elem? places j ≡ some p → RoundsHold places
    → Posts (length places) c (ledger_of p) (ledger_of q) → RoundsHold (slice_set places j q)

abbrev pub ReceiptsKeepRounds : Type 0
ReceiptsKeepRounds = (places : List (Place LbtsView)) (i j : ℕ) (p q : Place LbtsView) (s : Stamp) → get_elem? places j ≡ some p → i < length places → RoundsHold places
    → IsUnreceived (ledgers_of places) i j s → Receives i s (ledger_of p) (ledger_of q) → RoundsHold (slice_set places j q)

abbrev pub RisesKeepRounds : Type 0
RisesKeepRounds = (places : List (Place LbtsView)) (j : ℕ) (p q : Place LbtsView) → get_elem? places j ≡ some p → RoundsHold places
    → Rises (ledger_of p) (ledger_of q) → RoundsHold (slice_set places j q)

-- a federate contributes that knows the result of each round that it contributed to
abbrev pub ContributionsKeepRounds : Type 0
ContributionsKeepRounds = (places : List (Place LbtsView)) (j : ℕ) (p q : Place LbtsView) (c : Contribution) → get_elem? places j ≡ some p → RoundsHold places
    → Learnt (length places) (ledgers_of places) j p → length p.client.contributions ≡ length p.client.results → c.run ≡ next_run p.client
    → Contributes c (ledger_of p) (ledger_of q) → RoundsHold (slice_set places j q)
