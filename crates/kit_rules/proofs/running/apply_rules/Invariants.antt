-- what the rules so far did, and what the rest do to that, is what all do
use Rattle.std.proofs.Common.{◌≡◌, ◌≤◌, length, take, drop}
use Rattle.kit_rules.specs.Step.{after_rules}
use Rattle.kit_rules.proofs.running.apply_rules.Given as goal

abbrev pub invariant-loop-rule : goal.invariant-loop-rule
invariant-loop-rule l = record {
  rest : after_rules l.scene l.on l.state (drop l.rule-index l.rules) ≡ after_rules l.scene l.on l.fn.state l.rules;
  kept : take (length l.fn.state.sends) l.state.sends ≡ l.fn.state.sends;
  room : l.state.next ≤ 16385;
}
