use Rattle.std.proofs.Common.{◌≡◌, take}
use Rattle.kit_model.specs.Journals.{lines_told}
use Rattle.kit_model.proofs.journal.lines_of.Given as goal

abbrev pub invariant-loop-entry : goal.invariant-loop-entry
invariant-loop-entry l = l.lines ≡ lines_told l.federate (take l.entry-index l.entries)
