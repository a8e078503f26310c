use Rattle.std.proofs.Common.{arith}
use Rattle.kit_rules.proofs.FirstFaults.{all_next, all_through}
use Rattle.kit_save.specs.Widths.{IsWordFederate}
use Rattle.kit_save.proofs.widths.federates_have_words.Goals as goal

pub loop-federate-preserved : goal.loop-federate-preserved
loop-federate-preserved c = all_next IsWordFederate c.args.federates.now c.loop-federate.federate-index c.federate-item.result c.loop-federate-test.true c.federate-item.is c.loop-federate.invariant c.federate_has_words.ensures

pub returns : goal.returns
returns c = all_through IsWordFederate c.args.federates.now c.loop-federate.federate-index (omega arith) c.loop-federate.invariant
