use Rattle.std.proofs.Common.{arith}
use Rattle.std.proofs.lemmas.List.Elements.{All-more}
use Rattle.kit_rules.proofs.FirstFaults.{all_through}
use Rattle.kit_save.specs.Widths.{IsWordCond}
use Rattle.kit_save.proofs.widths.conds_have_words.Goals as goal

pub loop-cond-preserved : goal.loop-cond-preserved
loop-cond-preserved c = All-more IsWordCond c.args.conds.now c.loop-cond.cond-index _ c.loop-cond-test.true c.loop-cond.invariant c.cond_has_words.ensures

pub returns : goal.returns
returns c = all_through IsWordCond c.args.conds.now c.loop-cond.cond-index (omega arith) c.loop-cond.invariant
