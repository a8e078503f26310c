-- What the requests of a world keep.
use Rattle.std.specs.Prelude.{◌≡◌, ℕ, ◌≤◌, List, length}
use Rattle.std.specs.List.{All}
use Rattle.kit_rules.specs.declared.table.Request.{Request}
use Rattle.kit_rules.specs.declared.table.Request.TheVariants.{Tar, Ner}
use Rattle.kit_rules.specs.Parts.{Parts}
use Rattle.kit_rules.specs.Simulation.{Seat}

-- the time that a request asks for
abbrev pub time_of : Request → ℕ
time_of (Tar t) = t
time_of (Ner t) = t

-- there is one seat per federate, and no request goes past the end
pub record IsSane (p : Parts) (seats : List Seat) : Type 0 where
  pub count : length seats ≡ length p.federates
  pub capped : All (λ (s : Seat). time_of s.request ≤ p.end) seats
