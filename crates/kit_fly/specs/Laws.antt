-- Laws of the registers and slots of a reduction.
use Rattle.std.specs.Prelude.{◌≡◌, ◌≢◌, ℕ, ◌+◌, ◌<◌, ◌≤◌, length}
use Rattle.kit_ground.specs.declared.place.Place.{Place}
use Rattle.kit_model.specs.Blocks.{stages}
use Rattle.kit_lbts.specs.declared.view.Scheme.{Scheme}
use Rattle.kit_lbts.specs.declared.view.Scheme.TheVariants.{Butterfly}
use Rattle.kit_lbts.specs.declared.view.LbtsView.{LbtsView}
use Rattle.kit_lbts.specs.PublishLaws.{ShowsLast}
use Rattle.kit_lbts.specs.Reduction.{sources}
use Rattle.kit_fly.specs.Rounds.{FollowsRound, RoundState, SlotsShowRound, all_registers, register_after}

-- no federate of a butterfly takes in more registers than there are stages, and one more
abbrev pub RegistersAreFew : Type 0
RegistersAreFew = (n x : ℕ) → length (sources Butterfly n x) ≤ stages n + 1

-- no register is taken in twice
abbrev pub RegistersDiffer : Type 0
RegistersDiffer = (scheme : Scheme) (k : RoundState) (l m : ℕ) → k.number < k.federates → l < m → m < all_registers scheme k → register_after scheme k l ≢ register_after scheme k m

-- who has taken in all registers shows all that it publishes of the round
abbrev pub WholeRoundsShow : Type 0
WholeRoundsShow = (scheme : Scheme) (k : RoundState) (p : Place LbtsView) → FollowsRound scheme k p → SlotsShowRound scheme k p → k.taken ≡ all_registers scheme k → ShowsLast p
