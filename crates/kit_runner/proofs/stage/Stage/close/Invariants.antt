use Rattle.std.proofs.Common.{◌≡◌, ◌≤◌, ◌++◌, length, map}
use Rattle.std.specs.Prelude.{vec_capacity}
use Rattle.kit_replay.specs.Stages.{AreReported}
use Rattle.kit_runner.specs.Ends.{EndsWith}
use Rattle.kit_runner.specs.LockStages.{end_of, node_of}
use Rattle.kit_runner.proofs.stage.Stage.close.Given as goal

abbrev pub invariant-loop-member : goal.invariant-loop-member
invariant-loop-member l = record {
  ends : EndsWith (map end_of l.yielded) l.end;
  reported : AreReported (map node_of l.yielded) l.reports.items;
  all : l.yielded ++ l.member-iterator.rest.items ≡ l.fn.self.members.items;
  room : length l.fn.self.members.items ≤ vec_capacity l.reports;
}
