-- how many the rules so far become
use Rattle.std.proofs.Common.{◌≡◌, ◌≤◌, ◌*◌, length, take}
use Rattle.kit_regions.specs.Lowered.{lowered_rules}
use Rattle.kit_regions.proofs.crowding.count_rules.Given as goal

abbrev pub invariant-loop-rule : goal.invariant-loop-rule
invariant-loop-rule l = record {
  counted : l.count ≡ length (lowered_rules l.updates (take l.rule-index l.rules));
  few : l.count ≤ 32 * l.rule-index;
}
