-- what was taken so far is the front of what was left
use Rattle.std.proofs.Common.{◌≡◌, ◌≤◌, ◌+◌, ◌-◌, length, take, is_some}
use Rattle.std.specs.Io.KnownBytes.{Consumes}
use Rattle.kit_io.proofs.whole.read_all.Given as goal

abbrev pub invariant-loop-taken : goal.invariant-loop-taken
invariant-loop-taken g l = record {
  told : Consumes (g.S.Source.left l.fn.source) (g.S.Source.left l.source) (take l.taken l.buffer.items);
  tells : is_some (g.S.Source.left l.source) ≡ is_some (g.S.Source.left l.fn.source);
  room : length l.buffer.items ≡ l.limit + 1;
  within : l.taken ≤ l.limit + 1;
  later : g.S.Source.faults l.fn.source ≤ g.S.Source.faults l.source;
}

abbrev pub decreases-loop-taken : goal.decreases-loop-taken
decreases-loop-taken g l = l.limit + 1 - l.taken
