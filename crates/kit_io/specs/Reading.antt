-- What the reads of a call show.
use Rattle.std.specs.Prelude.{ℕ, ◌<◌, List, length, Ok}
use Rattle.kit_io.specs.declared.source.Source.{Ghosts}

-- a read that the call made showed the end of the input: it gave no byte for a place that is not empty, and left the
-- source as it is now
pub record ShowsEnd {S : Type 0} (g : Ghosts S) (now : S) : Type 0 where
  pub before : S
  pub into : List ℕ
  pub room : 0 < length into
  pub read : g.read_gives before (Ok 0) into now
