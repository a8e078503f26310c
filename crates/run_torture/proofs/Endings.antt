-- A run that is done has whole parts.
use Rattle.std.proofs.Common.{◌≡◌, List, Option, None, Some, sym, ◌∙◌}
use Rattle.kit_rules.specs.Parts.{Parts}
use Rattle.kit_node.specs.declared.ends.End.{End}
use Rattle.kit_node.specs.declared.ends.End.TheVariants as ends
use Rattle.kit_node.specs.declared.node.NodeReport.{NodeReport}
use Rattle.kit_replay.specs.Reports.{AreWholeParts}
use Rattle.kit_runner.specs.Runs.{IsRan, LbtsAccount}

pub done_is_whole : (p : Parts) (end : End) (reports : List NodeReport) (a : Option LbtsAccount) → IsRan p end reports a → end ≡ ends.Done → AreWholeParts p reports
done_is_whole p end reports None ran done = absurd (let none : ends.Done ≡ ends.NoMemory = sym done ∙ ran.end_is in cc)
done_is_whole p end reports (Some a) ran done = ran.done done
