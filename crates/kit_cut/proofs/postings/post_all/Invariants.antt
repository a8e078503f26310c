-- the rest posted to the desks so far is all posted to those at first
use Rattle.std.proofs.Common.{◌≡◌, ◌≤◌, length, drop}
use Rattle.kit_cut.specs.SinceCut.{desks_after_messages_since}
use Rattle.kit_cut.proofs.postings.post_all.Given as goal

abbrev pub invariant-loop-message : goal.invariant-loop-message
invariant-loop-message l = record {
  rest : desks_after_messages_since l.federation l.cut (drop l.message-index l.made) l.desks.items ≡ desks_after_messages_since l.federation l.cut l.made l.initial.desks.items;
  few : length l.desks.items ≤ 16;
  each : length l.cut.federates ≡ length l.desks.items;
}
