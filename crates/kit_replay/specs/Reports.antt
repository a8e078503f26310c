-- What the reports of the nodes tell of the federates' places on the closing floor, and of the simulation.
use Rattle.std.specs.Prelude.{◌≡◌, ◌≢◌, ℕ, ◌≤◌, List, [], length, map, Contains, Option, Some}
use mathlib.Core.Option.{some}
use lib.ListN.{get_elem?}
use Rattle.kit_base.specs.declared.message.Message.{Message}
use Rattle.kit_rules.specs.Parts.{Parts}
use Rattle.kit_rules.specs.Simulation.{lines_of}
use Rattle.kit_parts.specs.Fronts.{IsFront, part, seat_after}
use Rattle.kit_model.specs.declared.journal.JournalEntry.{JournalEntry}
use Rattle.kit_model.specs.declared.journal.JournalEntry.TheVariants.{Received, Delivered}
use Rattle.kit_model.specs.Journals.{IsLawful, lines_told}
use Rattle.kit_ground.specs.declared.place.Place.{Place}
use Rattle.kit_lbts.specs.declared.view.LbtsView.{LbtsView}
use Rattle.kit_lbts.specs.Agreement.{blocks_from}
use Rattle.kit_lbts.specs.Promises.{bound_of}
use Rattle.kit_lbts.specs.Views.{entries_of}
use Rattle.kit_node.specs.declared.ends.NodeEnd.{NodeEnd}
use Rattle.kit_node.specs.declared.ends.NodeEnd.TheVariants as node_end
use Rattle.kit_node.specs.declared.node.NodeReport.{NodeReport}
use Rattle.kit_node.specs.Seats.{HasFinished}
use Rattle.kit_replay.specs.Schedules.{StepsUntil}

abbrev pub Seat : Type 0
Seat = Place LbtsView

-- A JOURNAL AGREES with the sequential simulation: its deliveries and grants are whole blocks, the first of the federate's
-- part, and what it delivered it had received
pub record AgreesWithPart (p : Parts) (i : ℕ) (entries : List JournalEntry) : Type 0 where
  pub front : IsFront p i (blocks_from i [] entries)
  pub lines : lines_told i entries ≡ lines_of (blocks_from i [] entries)
  pub came : (t : ℕ) (m : Message) → Contains entries (Delivered t m) → Contains entries (Received m)

-- THE REPORT of federate i is of its place; `bad` is the federate whose node ended badly, if one did. Every other node goes on,
-- or was granted the end
pub record ReportsPlace (p : Parts) (bad : Option ℕ) (i : ℕ) (q : Seat) (r : NodeReport) : Type 0 where
  pub journal : r.journal.entries ≡ entries_of q.client
  pub bound : r.bound ≡ bound_of q.client
  pub rounds : r.rounds ≡ length q.client.contributions
  pub vars : bad ≢ Some i → r.vars ≡ q.client.state.vars
  pub well : bad ≢ Some i → (end : NodeEnd) → r.ended ≡ Some end → end ≡ node_end.Finished
  pub turns : StepsUntil (HasFinished q) r.turns.value
  -- it opened one round in a turn at most
  pub few : r.rounds ≤ length r.turns.value
  pub lawful : IsLawful r.journal.entries
  pub agrees : AgreesWithPart p i r.journal.entries

-- there is one for each federate
pub record AreReports (p : Parts) (bad : Option ℕ) (places : List Seat) (reports : List NodeReport) : Type 0 where
  pub many : length reports ≡ length p.federates
  pub each : (i : ℕ) (q : Seat) (r : NodeReport) → get_elem? places i ≡ some q → get_elem? reports i ≡ some r → ReportsPlace p bad i q r

abbrev pub turns_in : List NodeReport → List (List ℕ)
turns_in reports = map (λ (r : NodeReport). r.turns.value) reports

-- THE WHOLE PART of a federate, and the variables that it leaves
pub record IsWholePart (p : Parts) (i : ℕ) (r : NodeReport) : Type 0 where
  pub lines : lines_told i r.journal.entries ≡ lines_of (part p i)
  pub vars : r.vars ≡ (seat_after p i (part p i)).state.vars

pub record AreWholeParts (p : Parts) (reports : List NodeReport) : Type 0 where
  pub many : length reports ≡ length p.federates
  pub each : (i : ℕ) (r : NodeReport) → get_elem? reports i ≡ some r → IsWholePart p i r
