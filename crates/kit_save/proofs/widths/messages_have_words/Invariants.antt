-- those so far have words
use Rattle.std.proofs.Common.{take}
use Rattle.std.specs.List.{All}
use Rattle.kit_save.specs.CutWidths.{IsWordMessage}
use Rattle.kit_save.proofs.widths.messages_have_words.Given as goal

abbrev pub invariant-loop-message : goal.invariant-loop-message
invariant-loop-message l = All IsWordMessage (take l.message-index l.messages)
