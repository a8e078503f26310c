use Rattle.std.proofs.Common.{arith}
use Rattle.kit_rules.proofs.FirstFaults.{all_next, all_through}
use Rattle.kit_save.specs.Widths.{IsWordVar}
use Rattle.kit_save.proofs.widths.vars_have_words.Goals as goal

pub loop-var-preserved : goal.loop-var-preserved
loop-var-preserved c = all_next IsWordVar c.args.vars.now c.loop-var.var-index c.var-item.result c.loop-var-test.true c.var-item.is c.loop-var.invariant c.var_has_word.ensures

pub returns : goal.returns
returns c = all_through IsWordVar c.args.vars.now c.loop-var.var-index (omega arith) c.loop-var.invariant
