-- those so far have words
use Rattle.std.proofs.Common.{take}
use Rattle.std.specs.List.{All}
use Rattle.kit_save.specs.CutWidths.{HasStandingWords}
use Rattle.kit_save.proofs.widths.standings_have_words.Given as goal

abbrev pub invariant-loop-standing : goal.invariant-loop-standing
invariant-loop-standing l = All HasStandingWords (take l.standing-index l.standings)
