use Rattle.std.proofs.Common.{arith}
use Rattle.std.proofs.lemmas.List.Elements.{All-more}
use Rattle.kit_rules.proofs.FirstFaults.{all_through}
use Rattle.kit_save.specs.Widths.{IsWordAction}
use Rattle.kit_save.proofs.widths.actions_have_words.Goals as goal

pub loop-action-preserved : goal.loop-action-preserved
loop-action-preserved c = All-more IsWordAction c.args.actions.now c.loop-action.action-index _ c.loop-action-test.true c.loop-action.invariant c.action_has_word.ensures

pub returns : goal.returns
returns c = all_through IsWordAction c.args.actions.now c.loop-action.action-index (omega arith) c.loop-action.invariant
