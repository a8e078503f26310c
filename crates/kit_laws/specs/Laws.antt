-- Laws of the sequential simulation.
use Rattle.std.specs.Prelude.{◌≡◌, ◌≢◌, ◌⊎◌, ℕ, ◌+◌, ◌*◌, ◌<◌, ◌≤◌, false, IsTrue, List, [], ◌∷◌, length, map, Some, None}
use Rattle.std.specs.List.{All, AllByRecursion}
use Rattle.kit_rules.specs.Parts.{Parts}
use Rattle.kit_rules.specs.Federation.{IsFederation}
use Rattle.kit_rules.specs.Need.{outstanding, need_of}
use Rattle.kit_rules.specs.Simulation.{Seat, Block, World, seat_at, seat_due, is_sooner, next_grant, world_at_start, world_after_grant, after_grants, simulation}
pub use Rattle.kit_rules.specs.Merging.{grants_of, Ascend}

-- each grant comes after the one before it, by due time and then by federate
abbrev pub GrantsRise : Type 0
GrantsRise = (p : Parts) → IsFederation p → (n : ℕ) (g h : ℕ × ℕ)
    → next_grant p (after_grants p n (world_at_start p)) ≡ Some g → next_grant p (after_grants p (n + 1) (world_at_start p)) ≡ Some h → IsTrue (is_sooner g h)

-- after as many turns as federates times the end, nobody waits
abbrev pub GrantsEnd : Type 0
GrantsEnd = (p : Parts) → IsFederation p → next_grant p (simulation p) ≡ None

-- the last grant of each federate is the end
abbrev pub LastGrants : Type 0
LastGrants = (p : Parts) → IsFederation p → All (λ (s : Seat). s.now ≡ p.end) (simulation p).seats

-- federate g.1 stands below the end, and g.0 is its due time
pub record Waits (p : Parts) (w : World) (g : ℕ × ℕ) : Type 0 where
  pub within : g.1 < length w.seats
  pub below : (seat_at w g.1).now < p.end
  pub due : g.0 ≡ seat_due p w.messages g.1 (seat_at w g.1)

-- the least pair of those that wait
pub record IsNext (p : Parts) (w : World) (g : ℕ × ℕ) : Type 0 where
  pub waits : Waits p w g
  pub least : (h : ℕ × ℕ) → Waits p w h → is_sooner h g ≡ false

-- from one world to another, the least pair is granted again and again
pub data Runs (p : Parts) : World → World → Type 0 where
  done : (w : World) → Runs p w w
  more : (w : World) (g : ℕ × ℕ) (v : World) → IsNext p w g → Runs p (world_after_grant p w g) v → Runs p w v

-- a run from the start to a world in which nobody waits
pub record IsSimulation (p : Parts) (v : World) : Type 0 where
  pub run : Runs p (world_at_start p) v
  pub over : (g : ℕ × ℕ) → Waits p v g → ⊥

-- there is one simulation
abbrev pub OneSimulation : Type 0
OneSimulation = (p : Parts) → IsFederation p → IsSimulation p (simulation p) × ((v : World) → IsSimulation p v → v ≡ simulation p)

-- the grants stand in the order of time and federate
abbrev pub BlocksAscend : Type 0
BlocksAscend = (p : Parts) → IsFederation p → Ascend (grants_of (simulation p).blocks)

-- there are at most as many grants as federates times the end
abbrev pub FewGrants : Type 0
FewGrants = (p : Parts) → length (simulation p).blocks ≤ length p.federates * p.end

-- the grant of another federate leaves what one has outstanding
abbrev pub OutstandingStays : Type 0
OutstandingStays = (p : Parts) (i : ℕ) (w : World) (g : ℕ × ℕ) → i ≢ g.1 → outstanding p i (world_after_grant p w g) ≡ outstanding p i w

-- after n grants: the start, or right after a grant of federate i
abbrev pub IsOwnMoment : Parts → ℕ → ℕ → Type 0
IsOwnMoment p i n = (n ≡ 0) ⊎ ((k : ℕ) × (d : ℕ) × (n ≡ k + 1) × (next_grant p (after_grants p k (world_at_start p)) ≡ Some (d, i)))

-- the need of federate i is what it has outstanding at one of these moments, and at none it has more
pub record IsNeed (p : Parts) (i need : ℕ) : Type 0 where
  pub none_more : (n : ℕ) → n ≤ length p.federates * p.end → IsOwnMoment p i n → outstanding p i (after_grants p n (world_at_start p)) ≤ need
  pub moment : ℕ
  pub within : moment ≤ length p.federates * p.end
  pub own : IsOwnMoment p i moment
  pub reached : outstanding p i (after_grants p moment (world_at_start p)) ≡ need

-- so the need is the greatest number over the start and the federate's own grants
abbrev pub NeedIsGreatest : Type 0
NeedIsGreatest = (p : Parts) (i : ℕ) → IsNeed p i (need_of p i)
