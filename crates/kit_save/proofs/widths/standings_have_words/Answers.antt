use Rattle.std.proofs.Common.{arith}
use Rattle.kit_rules.proofs.FirstFaults.{all_next, all_through}
use Rattle.kit_save.specs.CutWidths.{HasStandingWords}
use Rattle.kit_save.proofs.widths.standings_have_words.Goals as goal

pub loop-standing-preserved : goal.loop-standing-preserved
loop-standing-preserved c = all_next HasStandingWords c.args.standings.now c.loop-standing.standing-index c.standing-item.result c.loop-standing-test.true c.standing-item.is c.loop-standing.invariant c.standing_has_words.ensures

pub returns : goal.returns
returns c = all_through HasStandingWords c.args.standings.now c.loop-standing.standing-index (omega arith) c.loop-standing.invariant
