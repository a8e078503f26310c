-- what was taken so far is the front of the text
use Rattle.std.proofs.Common.{◌≡◌, ◌≤◌, ◌-◌, length, take, drop, is_some}
use Rattle.std.specs.Io.KnownBytes.{Appends}
use Rattle.kit_io.proofs.whole.write_text.Given as goal

abbrev pub invariant-loop-rest : goal.invariant-loop-rest
invariant-loop-rest g l = record {
  told : Appends (g.K.Sink.holds l.fn.sink) (g.K.Sink.holds l.sink) (take (length l.text - length l.rest) l.text);
  tells : is_some (g.K.Sink.holds l.sink) ≡ is_some (g.K.Sink.holds l.fn.sink);
  rest : l.rest ≡ drop (length l.text - length l.rest) l.text;
  later : g.K.Sink.faults l.fn.sink ≤ g.K.Sink.faults l.sink;
}

abbrev pub decreases-loop-rest : goal.decreases-loop-rest
decreases-loop-rest g l = length l.rest
