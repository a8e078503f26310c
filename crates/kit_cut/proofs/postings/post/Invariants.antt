-- the desks so far, and then the rest posted to, are all
use Rattle.std.proofs.Common.{◌≡◌, ◌++◌, length, take, drop}
use Rattle.kit_cut.specs.SinceCut.{desks_after_message_since}
use Rattle.kit_cut.proofs.postings.post.Given as goal

abbrev pub invariant-loop-j : goal.invariant-loop-j
invariant-loop-j l = record {
  rest : take l.j l.desks.items ++ desks_after_message_since l.cut l.mask l.message l.j (drop l.j l.desks.items) ≡ desks_after_message_since l.cut l.mask l.message 0 l.initial.desks.items;
  same : length l.desks.items ≡ length l.initial.desks.items;
}
