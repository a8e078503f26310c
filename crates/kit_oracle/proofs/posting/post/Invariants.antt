-- the desks so far, and then the rest posted to, are all
use Rattle.std.proofs.Common.{◌≡◌, ◌++◌, length, take, drop}
use Rattle.kit_oracle.specs.Desks.{desks_after_message_from}
use Rattle.kit_oracle.proofs.posting.post.Given as goal

abbrev pub invariant-loop-j : goal.invariant-loop-j
invariant-loop-j l = record {
  rest : take l.j l.desks.items ++ desks_after_message_from l.mask l.message l.j (drop l.j l.desks.items) ≡ desks_after_message_from l.mask l.message 0 l.initial.desks.items;
  same : length l.desks.items ≡ length l.initial.desks.items;
}
