use Rattle.std.proofs.Common.{arith}
use Rattle.kit_rules.proofs.FirstFaults.{all_next, all_through}
use Rattle.kit_save.specs.Widths.{IsWordRule}
use Rattle.kit_save.proofs.widths.rules_have_words.Goals as goal

pub loop-rule-preserved : goal.loop-rule-preserved
loop-rule-preserved c = all_next IsWordRule c.args.rules.now c.loop-rule.rule-index c.rule-item.result c.loop-rule-test.true c.rule-item.is c.loop-rule.invariant c.rule_has_words.ensures

pub returns : goal.returns
returns c = all_through IsWordRule c.args.rules.now c.loop-rule.rule-index (omega arith) c.loop-rule.invariant
