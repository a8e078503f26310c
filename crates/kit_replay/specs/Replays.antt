-- What a replay comes to, at every schedule.
use Rattle.std.specs.Prelude.{◌≡◌, ℕ, ◌<◌, List, [], length, Option, None, Some, IfSome}
use mathlib.Core.Option.{some}
use lib.ListN.{get_elem?}
use Rattle.kit_rules.specs.Parts.{Parts}
use Rattle.kit_ground.specs.declared.address.Address.TheVariants.{Mail, Count}
use Rattle.kit_ground.specs.Floors.{Floor, RulesHold, memory}
use Rattle.kit_ground.specs.Layout.{mail_words}
use Rattle.kit_lbts.specs.declared.lbts.Opening.{Opening}
use Rattle.kit_lbts.specs.declared.view.LbtsView.{LbtsView}
use Rattle.kit_lbts.specs.declared.view.Scheme.TheVariants as scheme
use Rattle.kit_lbts.specs.Agreement.{agreeing_rule}
use Rattle.kit_node.specs.declared.ends.End.{End}
use Rattle.kit_node.specs.declared.ends.End.TheVariants as ends
use Rattle.kit_node.specs.declared.node.NodeReport.{NodeReport}
use Rattle.kit_replay.specs.Endings.{EndIs, EndsBadlyAt, HasStopped, HasPlace, Seat}
use Rattle.kit_replay.specs.Reports.{AreReports, AreWholeParts, turns_in}
use Rattle.kit_replay.specs.Schedules.{AreTaken, FollowsSchedule}

abbrev pub LbtsFloor : Type 0
LbtsFloor = Floor Opening LbtsView

-- THE FLOOR is one for this federation, with its opening, and both rules hold on it
pub record IsFloorOf (p : Parts) (f : LbtsFloor) : Type 0 where
  pub rules : RulesHold agreeing_rule f
  pub federation : f.opening.federation.value ≡ p
  pub scheme : f.opening.scheme ≡ scheme.Butterfly
  pub buffers : f.buffers ≡ p.buffers
  pub many : length f.places ≡ length p.federates
  pub each : (i : ℕ) (q : Seat) → get_elem? f.places i ≡ some q → q.client.federation ≡ p

-- NOTHING IS LEFT: no buffer is counted, and no mail waits
pub record IsCleared (p : Parts) (f : LbtsFloor) : Type 0 where
  pub counts : (i k : ℕ) → i < length p.federates → k < p.buffers → memory f (Count i k) ≡ 0
  pub mail : (j i w : ℕ) → j < length p.federates → i < length p.federates → w < mail_words p.buffers → memory f (Mail j i w) ≡ 0

-- DONE: each part is whole, and nothing is left
pub record IsDone (p : Parts) (reports : List NodeReport) (f : LbtsFloor) : Type 0 where
  pub parts : AreWholeParts p reports
  pub cleared : IsCleared p f

-- A REPLAY on such a floor: the turns follow the schedule as far as its entries were taken, each report is of its federate's
-- place, and the end has its cause
pub record IsReplay (p : Parts) (schedule : List ℕ) (limit : ℕ) (end : End) (reports : List NodeReport) (f : LbtsFloor) : Type 0 where
  pub floor : IsFloorOf p f
  -- the federate whose node ended badly, if one did
  pub bad : Option ℕ
  pub bad_is : EndsBadlyAt end bad
  pub stopped : IfSome bad (HasPlace HasStopped f.places)
  pub taken : List ℕ
  pub entries : AreTaken schedule taken bad
  pub follows : FollowsSchedule (length p.federates) taken (turns_in reports) f.steps
  pub reports_are : AreReports p bad f.places reports
  pub end_is : EndIs p limit f.places end
  pub done : end ≡ ends.Done → IsDone p reports f

-- where there was no memory for the floor and the nodes, there is neither
pub record IsNoReplay (end : End) (reports : List NodeReport) : Type 0 where
  pub end_is : end ≡ ends.NoMemory
  pub reports_are : reports ≡ []

abbrev pub IsReplayed : Parts → List ℕ → ℕ → End → List NodeReport → Option LbtsFloor → Type 0
IsReplayed p schedule limit end reports None = IsNoReplay end reports
IsReplayed p schedule limit end reports (Some f) = IsReplay p schedule limit end reports f
