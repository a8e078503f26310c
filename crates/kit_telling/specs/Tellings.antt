-- What journals tell, line by line, and how the lines of several are told in one text.
use Rattle.std.specs.Prelude.{◌≡◌, ℕ, ◌+◌, ◌-◌, Bool, true, false, List, [], ◌∷◌, ◌++◌, length, drop, Option, None, Some}
use Rattle.std.specs.Option.{option_or}
use Rattle.std.specs.List.{flat_map}
use Rattle.kit_base.specs.declared.history.Line.{Line}
use Rattle.kit_base.specs.declared.history.Part.{Part}
use Rattle.kit_rules.specs.Merging.{ArePartsOf, IsMerged}
use Rattle.kit_rules.specs.Parts.{Parts}
use Rattle.kit_rules.specs.Simulation.{Block}
use Rattle.kit_rules.specs.Text.{line_text}
use Rattle.kit_model.specs.declared.journal.JournalEntry.{JournalEntry}
use Rattle.kit_model.specs.declared.journal.JournalEntry.TheVariants.{Received, Delivered, Granted}
use Rattle.kit_model.specs.Journals.{lines_told}
use Rattle.kit_node.specs.declared.node.NodeReport.{NodeReport}
use Rattle.kit_report.specs.declared.merging.Place.{Place}

-- the lines, one after another
abbrev pub lines_text : Parts → List Line → List ℕ
lines_text p lines = flat_map (line_text p) lines

abbrev pub is_grant : JournalEntry → Bool
is_grant (Received m) = false
is_grant (Delivered granted m) = false
is_grant (Granted t) = true

-- the time with which the line of an entry was granted, if it tells one
abbrev pub time_told : JournalEntry → Option ℕ
time_told (Received m) = None
time_told (Delivered granted m) = Some granted
time_told (Granted t) = Some t

-- that of the first line that entries tell
abbrev pub first_time : List JournalEntry → Option ℕ
first_time [] = None
first_time (e ∷ es) = option_or (time_told e) (first_time es)

-- the last of a journal's entries, where so many are left
abbrev pub last_entries : ℕ → List JournalEntry → List JournalEntry
last_entries left entries = drop (length entries - left) entries

-- the place before the last entries of a journal
abbrev pub place_before : List JournalEntry → Place
place_before entries = record { left = length entries; time = first_time entries }

abbrev pub first_place : NodeReport → Place
first_place r = place_before r.journal.entries

abbrev pub vars_reported : NodeReport → List ℕ
vars_reported r = r.vars

-- the parts that reports tell, of the federates from i on
abbrev pub parts_from : ℕ → List NodeReport → List Part
parts_from i [] = []
parts_from i (r ∷ rs) = record { lines = lines_told i r.journal.entries; vars = r.vars } ∷ parts_from (i + 1) rs

abbrev pub parts_told : List NodeReport → List Part
parts_told reports = parts_from 0 reports

-- what was written are the lines of all reports, merged
pub record AreTold (p : Parts) (reports : List NodeReport) (before after : List ℕ) : Type 0 where
  pub lines : List Line
  pub merged : (blocks : List (List Block)) → ArePartsOf (parts_told reports) blocks → IsMerged blocks lines
  pub text : after ≡ before ++ lines_text p lines
