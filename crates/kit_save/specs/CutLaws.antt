-- What the walks answer on the value of a federation with a cut.
use Rattle.std.specs.Prelude.{◌≡◌, Ok}
use Rattle.kit_rules.specs.Parts.{Parts}
use Rattle.kit_rules.specs.Federation.{IsFederation}
use Rattle.kit_cut.specs.declared.cut.Cut.{Cut}
use Rattle.kit_cut.specs.ValidCuts.{IsValidCut}
use Rattle.kit_file.specs.Walk.{walk}
use Rattle.kit_save.specs.Widths.{HasWords}
use Rattle.kit_save.specs.CutWidths.{HasCutWords}
use Rattle.kit_save.specs.CutValues.{saved_value}
use Rattle.kit_restore.specs.CutWalk.{cut_of}

-- the federation and the cut are read
pub record IsReadAgain (p : Parts) (c : Cut) : Type 0 where
  pub federation : walk (saved_value p c) ≡ Ok p
  pub cut : cut_of p (saved_value p c) ≡ Ok c

-- this holds of every federation and every valid cut of it
abbrev pub CutsComeBack : Type 0
CutsComeBack = (p : Parts) (c : Cut) → IsFederation p → HasWords p → IsValidCut p c → HasCutWords c → IsReadAgain p c
