use Rattle.std.proofs.Common.{◌≡◌, ◌≤◌, ◌++◌, length}
use Rattle.std.specs.Prelude.{vec_capacity}
use Rattle.kit_replay.specs.Stages.{AreReported}
use Rattle.kit_replay.proofs.stage.Stage.close.Given as goal

abbrev pub invariant-loop-node : goal.invariant-loop-node
invariant-loop-node l = record {
  reported : AreReported l.yielded l.reports.items;
  all : l.yielded ++ l.node-iterator.rest.items ≡ l.fn.self.nodes.items;
  room : length l.fn.self.nodes.items ≤ vec_capacity l.reports;
}
