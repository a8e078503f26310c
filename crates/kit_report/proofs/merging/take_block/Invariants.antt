use Rattle.std.proofs.Common.{◌-◌, length}
use Rattle.kit_report.proofs.Taking.{Taking}
use Rattle.kit_report.proofs.merging.take_block.Given as goal

abbrev pub invariant-loop-line : goal.invariant-loop-line
invariant-loop-line l = Taking l.fn.lines l.lines l.from l.initial.at l.at

abbrev pub decreases-loop-line : goal.decreases-loop-line
decreases-loop-line l = length l.from - l.at
