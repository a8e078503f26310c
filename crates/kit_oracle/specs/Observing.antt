-- What an observer of a simulation is told.
use Rattle.std.specs.Prelude.{◌≡◌, ℕ, ◌≤◌, List, ◌++◌, length, drop, Some}
use Rattle.kit_base.specs.declared.message.Message.{Message}
use Rattle.kit_base.specs.declared.history.Line.{Line}
use Rattle.kit_rules.specs.Parts.{Parts}
use Rattle.kit_rules.specs.Federation.{IsFederation}
use Rattle.kit_rules.specs.Simulation.{seat_at, seat_after_pair, next_grant, world_at_start, after_grants}

-- what an observer showed, it shows with more lines
abbrev pub Adds : {O : Type 0} → (Parts → ℕ → List Line → O → Type 0) → O → O → List Line → Type 0
Adds shows old new more = (p : Parts) (n : ℕ) (ls : List Line) → shows p n ls old → shows p n (ls ++ more) new

-- after n grants this pair is granted next, and its federate sends these messages at its grant
pub record IsGrant (p : Parts) (n : ℕ) (g : ℕ × ℕ) (made : List Message) : Type 0 where
  pub federation : IsFederation p
  pub next : next_grant p (after_grants p n (world_at_start p)) ≡ Some g
  pub sent : made ≡ drop (length (seat_at (after_grants p n (world_at_start p)) g.1).state.sends) (seat_after_pair p (after_grants p n (world_at_start p)) g).state.sends
  pub room : (seat_after_pair p (after_grants p n (world_at_start p)) g).state.next ≤ 16385
