-- The rule of a federation on a floor.
use Rattle.std.specs.Prelude.{◌≡◌, ℕ, List, length}
use mathlib.Core.Option.{some}
use lib.ListN.{get_elem?}
use Rattle.kit_ground.specs.declared.place.Place.{Place}
use Rattle.kit_ground.specs.Memory.{Memory}
use Rattle.kit_ground.specs.Rules as rules
use Rattle.kit_rounds.specs.Rule.{RoundRule}
use Rattle.kit_rules.specs.Federation.{IsFederation}
use Rattle.kit_rules.specs.Parts.{Parts}
use Rattle.kit_lbts.specs.declared.view.LbtsView.{LbtsView}
use Rattle.kit_lbts.specs.declared.view.Scheme.{Scheme}
use Rattle.kit_lbts.specs.Promises.{ledgers_of}
use Rattle.kit_lbts.specs.Registers.{Registers, Learnt}
use Rattle.kit_lbts.specs.Letters.{Letters}
use Rattle.kit_lbts.specs.Ways.{WayBetween}
use Rattle.kit_lbts.specs.Seats.{Holdings, Queue, Receiving, Granting, Sends}

-- all federates run one federation, and reduce in one way
pub record Common (places : List (Place LbtsView)) : Type 0 where
  pub federation : Parts
  pub scheme : Scheme
  pub sound : IsFederation federation
  pub many : length places ≡ length federation.federates
  pub each : (j : ℕ) (p : Place LbtsView) → get_elem? places j ≡ some p
      → (p.client.federation ≡ federation) × (p.client.scheme ≡ scheme) × (p.own.buffers ≡ federation.buffers)

-- what is said of the federate j
pub record FederateRule (m : Memory) (places : List (Place LbtsView)) (j : ℕ) (p : Place LbtsView) : Type 0 where
  pub registers : Registers m (length places) (ledgers_of places) j p
  pub learnt : Learnt (length places) (ledgers_of places) j p
  pub letters : Letters m j p
  pub holdings : Holdings p
  pub queue : Queue j p
  pub heard : Receiving p.client
  pub granting : Granting p
  pub sends : Sends j p

-- the rule of the rounds, with so many of them done
abbrev pub RoundsHold : List (Place LbtsView) → Type 0
RoundsHold places = (done : ℕ) × RoundRule (length places) (ledgers_of places) done

pub record LbtsRule (m : Memory) (places : List (Place LbtsView)) : Type 0 where
  pub common : Common places
  pub each : (j : ℕ) (p : Place LbtsView) → get_elem? places j ≡ some p → FederateRule m places j p
  pub ways : (i j : ℕ) (p q : Place LbtsView) → get_elem? places i ≡ some p → get_elem? places j ≡ some q → WayBetween m i j p q
  pub rounds : RoundsHold places

-- a guest learns nothing yet
abbrev pub lbts_rule : rules.Rule LbtsView
lbts_rule = record { holds = LbtsRule; sees = λ m places g. Unit {0} }
