-- what the actions so far did, and what the rest do to that, is what all do
use Rattle.std.proofs.Common.{◌≡◌, ◌≤◌, length, take, drop}
use Rattle.kit_rules.specs.Step.{after_actions}
use Rattle.kit_rules.proofs.running.act_all.Given as goal

abbrev pub invariant-loop-action : goal.invariant-loop-action
invariant-loop-action l = record {
  rest : after_actions l.scene l.state (drop l.action-index l.actions) ≡ after_actions l.scene l.fn.state l.actions;
  kept : take (length l.fn.state.sends) l.state.sends ≡ l.fn.state.sends;
  room : l.state.next ≤ 16385;
}
