-- the rest posted to the desks so far is all posted to those at first
use Rattle.std.proofs.Common.{◌≡◌, ◌≤◌, length, drop}
use Rattle.kit_oracle.specs.Desks.{desks_after_messages}
use Rattle.kit_oracle.proofs.posting.post_all.Given as goal

abbrev pub invariant-loop-message : goal.invariant-loop-message
invariant-loop-message l = record {
  rest : desks_after_messages l.federation (drop l.message-index l.made) l.desks.items ≡ desks_after_messages l.federation l.made l.initial.desks.items;
  few : length l.desks.items ≤ 16;
}
