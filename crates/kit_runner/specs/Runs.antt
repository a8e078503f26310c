-- What a run by workers comes to, for every number of workers and every order of their steps.
use Rattle.std.specs.Prelude.{◌≡◌, ◌^◌, ◌-◌, ℕ, true, List, [], length, Option, None, Some}
use mathlib.Core.Option.{some}
use lib.ListN.{get_elem?}
use Rattle.kit_rules.specs.Parts.{Parts}
use Rattle.kit_ground.specs.declared.place.Place.{Place}
use Rattle.kit_ground.specs.Words.{RuledWords}
use Rattle.kit_floor.specs.Accounts.{Account}
use Rattle.kit_model.specs.Journals.{IsLawful}
use Rattle.kit_lbts.specs.declared.view.LbtsView.{LbtsView}
use Rattle.kit_lbts.specs.Agreement.{agreeing_rule}
use Rattle.kit_lbts.specs.Promises.{bound_of}
use Rattle.kit_lbts.specs.Views.{entries_of}
use Rattle.kit_node.specs.declared.ends.End.{End}
use Rattle.kit_node.specs.declared.ends.End.TheVariants as ends
use Rattle.kit_node.specs.declared.ends.NodeEnd.{NodeEnd}
use Rattle.kit_node.specs.declared.ends.NodeEnd.TheVariants as node_end
use Rattle.kit_node.specs.declared.node.NodeReport.{NodeReport}
use Rattle.kit_node.specs.Frames.{last_stop}
use Rattle.kit_node.specs.Seats.{Cause, HasFinished, IsBelowEnd}
use Rattle.kit_replay.specs.Endings.{EndIs, HasStopped}
use Rattle.kit_replay.specs.Reports.{AgreesWithPart, AreWholeParts}
use Rattle.kit_replay.specs.Stages.{IsWell}
use Rattle.kit_runner.specs.Ends.{EndsWith}

abbrev pub Seat : Type 0
Seat = Place LbtsView

abbrev pub LbtsAccount : Type 0
LbtsAccount = Account LbtsView

-- a node takes part in so many rounds at most: a round's number has so many bits in a register's word
abbrev pub most_rounds : ℕ
most_rounds = 2 ^ 40 - 1

-- THE ACCOUNT is of this federation: each federate's view is of it, and both rules held at the end
pub record IsAccountOf (p : Parts) (a : LbtsAccount) : Type 0 where
  pub rules : RuledWords agreeing_rule a.buffers a.words a.places
  pub buffers : a.buffers ≡ p.buffers
  pub many : length a.places ≡ length p.federates
  pub each : (i : ℕ) (q : Seat) → get_elem? a.places i ≡ some q → q.client.federation ≡ p

-- HOW A NODE ENDED, with its cause in the federate's view; where it has no end, it saw that the run is to stop
pub record HasSeenStop (q : Seat) : Type 0 where
  pub early : IsBelowEnd q.client
  pub saw : (last_stop q).gave ≡ true

pub record HasEndedFor (end : NodeEnd) (q : Seat) : Type 0 where
  pub stopped : HasStopped q
  pub cause : Cause most_rounds end q

abbrev pub HasEndedSo : Option NodeEnd → Seat → Type 0
HasEndedSo None q = HasSeenStop q
HasEndedSo (Some node_end.Finished) q = HasFinished q
HasEndedSo (Some end) q = HasEndedFor end q

-- THE REPORT of federate i is of its view; its journal is lawful, and agrees with the sequential simulation
pub record ReportsView (p : Parts) (ended : Option NodeEnd) (i : ℕ) (q : Seat) (r : NodeReport) : Type 0 where
  pub journal : r.journal.entries ≡ entries_of q.client
  pub bound : r.bound ≡ bound_of q.client
  pub rounds : r.rounds ≡ length q.client.contributions
  pub vars : IsWell ended → r.vars ≡ q.client.state.vars
  pub lawful : IsLawful r.journal.entries
  pub agrees : AgreesWithPart p i r.journal.entries

-- a federate at the end: how its node ended, and its report
pub record HasClosed (p : Parts) (ended : Option NodeEnd) (i : ℕ) (q : Seat) (r : NodeReport) : Type 0 where
  pub ended_so : HasEndedSo ended q
  pub report : ReportsView p ended i q r

-- there is one report for each federate
pub record AreClosed (p : Parts) (nodes : List (Option NodeEnd)) (places : List Seat) (reports : List NodeReport) : Type 0 where
  pub all : length nodes ≡ length p.federates
  pub many : length reports ≡ length p.federates
  pub each : (i : ℕ) (e : Option NodeEnd) (q : Seat) (r : NodeReport) → get_elem? nodes i ≡ some e → get_elem? places i ≡ some q → get_elem? reports i ≡ some r → HasClosed p e i q r

-- A RUN on a floor of this federation. DONE comes exactly where all federates were granted the end, and then each part is whole
pub record IsRun (p : Parts) (end : End) (reports : List NodeReport) (a : LbtsAccount) : Type 0 where
  pub account : IsAccountOf p a
  pub nodes : List (Option NodeEnd)
  pub closed : AreClosed p nodes a.places reports
  pub end_is : EndsWith nodes end
  pub cause : EndIs p most_rounds a.places end
  pub done : end ≡ ends.Done → AreWholeParts p reports
  pub exactly : ((i : ℕ) (q : Seat) → get_elem? a.places i ≡ some q → HasFinished q) → end ≡ ends.Done

-- where there was no memory for the floor and the nodes, there is neither
pub record IsNoRun (end : End) (reports : List NodeReport) : Type 0 where
  pub end_is : end ≡ ends.NoMemory
  pub reports_are : reports ≡ []

abbrev pub IsRan : Parts → End → List NodeReport → Option LbtsAccount → Type 0
IsRan p end reports None = IsNoRun end reports
IsRan p end reports (Some a) = IsRun p end reports a
