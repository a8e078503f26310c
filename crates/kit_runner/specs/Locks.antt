-- What a run by workers over one lock comes to, for every number of workers and every order of their turns.
use Rattle.std.specs.Prelude.{◌≡◌, ◌≢◌, ℕ, ◌<◌, List, Option, None, Some}
use mathlib.Core.Option.{some}
use lib.ListN.{get_elem?}
use Rattle.kit_rules.specs.Parts.{Parts}
use Rattle.kit_node.specs.declared.ends.End.{End}
use Rattle.kit_node.specs.declared.ends.End.TheVariants as ends
use Rattle.kit_node.specs.declared.ends.NodeEnd.{NodeEnd}
use Rattle.kit_node.specs.declared.ends.NodeEnd.TheVariants as node_end
use Rattle.kit_node.specs.declared.node.NodeReport.{NodeReport}
use Rattle.kit_replay.specs.Replays.{IsCleared, IsFloorOf, LbtsFloor}
use Rattle.kit_runner.specs.Runs.{IsNoRun, IsRun, LbtsAccount, Seat}

-- the words and the places of a plain floor, as an account has them
abbrev pub account_in : LbtsFloor → LbtsAccount
account_in f = record { buffers = f.buffers; words = f.words; places = f.places }

-- a seat set the stop word
abbrev pub HasSetStop : Seat → Type 0
HasSetStop q = 0 < q.own.stops

-- A RUN OVER ONE LOCK, on a plain floor of this federation: it is a run as on shared words. Where it is done nothing is left on the
-- floor, and each federate whose node ended badly has set the stop word
pub record IsLockRun (p : Parts) (end : End) (reports : List NodeReport) (f : LbtsFloor) : Type 0 where
  pub floor : IsFloorOf p f
  pub run : IsRun p end reports (account_in f)
  pub cleared : end ≡ ends.Done → IsCleared p f
  pub told : (i : ℕ) (e : NodeEnd) (q : Seat) → get_elem? run.nodes i ≡ some (Some e) → e ≢ node_end.Finished → get_elem? f.places i ≡ some q → HasSetStop q

abbrev pub IsLocked : Parts → End → List NodeReport → Option LbtsFloor → Type 0
IsLocked p end reports None = IsNoRun end reports
IsLocked p end reports (Some f) = IsLockRun p end reports f
