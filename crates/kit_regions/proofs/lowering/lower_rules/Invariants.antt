-- what the rules so far become
use Rattle.std.proofs.Common.{◌≡◌, take}
use Rattle.kit_regions.specs.Lowered.{lowered_rules}
use Rattle.kit_regions.proofs.lowering.lower_rules.Given as goal

abbrev pub invariant-loop-rule : goal.invariant-loop-rule
invariant-loop-rule l = l.made ≡ lowered_rules l.updates (take l.rule-index l.rules)
