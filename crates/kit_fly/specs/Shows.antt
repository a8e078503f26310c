-- What is published of a value on the way.
use Rattle.std.specs.Prelude.{◌≡◌, ℕ, ◌<◌, ◌⊎◌, length, Option, Some, None}
use Rattle.kit_model.specs.Shares.{share_word}
use Rattle.kit_ground.specs.declared.place.Deed.TheVariants.{Published}
use Rattle.kit_ground.specs.declared.place.Place.{Place}
use Rattle.kit_ground.specs.Steps.{place_after}
use Rattle.kit_lbts.specs.declared.view.Scheme.TheVariants.{Butterfly}
use Rattle.kit_lbts.specs.declared.view.LbtsView.{LbtsView}
use Rattle.kit_lbts.specs.Progress.{view_after}
use Rattle.kit_lbts.specs.Reduction.{reg_of}
use Rattle.kit_fly.specs.Rounds.{IsClosed, IsUnderWay, RoundState, all_registers}
use Rattle.kit_fly.specs.Stages.{IsDueSlot}

-- the round is under way, and closes with the last register; a federation of one has none
pub record IsOnTheWay (k : RoundState) (p : Place LbtsView) : Type 0 where
  pub under_way : IsUnderWay Butterfly k p
  pub before : 0 < k.taken → k.taken < all_registers Butterfly k

-- the last register was taken in
pub record IsComplete (k : RoundState) (p : Place LbtsView) : Type 0 where
  pub closed : IsClosed k p
  pub some : 0 < k.taken
  pub all : k.taken ≡ all_registers Butterfly k

-- the state has the value of the round, between a look and the publish that it leads to
pub record HoldsValue (k : RoundState) (p : Place LbtsView) : Type 0 where
  pub scheme_is : p.client.scheme ≡ Butterfly
  pub federates : p.own.federates ≡ k.federates
  pub number : p.own.number ≡ k.number
  pub inside : k.number < k.federates
  pub started : 0 < k.round
  pub round : length p.client.contributions ≡ k.round
  pub value : IsOnTheWay k p ⊎ IsComplete k p

-- the value is published in the slot of a stage, or where there is none nothing is done
abbrev pub IsPublished : RoundState → Option ℕ → Place LbtsView → Place LbtsView → Type 0
IsPublished k None p q = q ≡ p
IsPublished k (Some stage) p q = q ≡ place_after view_after (Published (reg_of k.number stage k.round) (share_word k.value k.round)) p

-- it is published in the slot that is due
pub record ShowsDue (k : RoundState) (p q : Place LbtsView) : Type 0 where
  pub stage : Option ℕ
  pub due : IsDueSlot k.federates k.number k.taken stage
  pub place : IsPublished k stage p q
