use Rattle.std.proofs.Common.{arith}
use Rattle.std.proofs.lemmas.List.Elements.{All-more}
use Rattle.kit_rules.proofs.FirstFaults.{all_through}
use Rattle.kit_save.specs.CutWidths.{IsWordMessage}
use Rattle.kit_save.proofs.widths.messages_have_words.Goals as goal

pub loop-message-preserved : goal.loop-message-preserved
loop-message-preserved c = All-more IsWordMessage c.args.messages.now c.loop-message.message-index _ c.loop-message-test.true c.loop-message.invariant c.message_has_word.ensures

pub returns : goal.returns
returns c = all_through IsWordMessage c.args.messages.now c.loop-message.message-index (omega arith) c.loop-message.invariant
