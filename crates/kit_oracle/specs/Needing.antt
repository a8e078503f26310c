-- What is known of the needs of the federates after so many grants.
use Rattle.std.specs.Prelude.{◌≡◌, ℕ, ◌<◌, ◌≤◌, List, [], length, slice_index_or}
use Rattle.kit_rules.specs.Parts.{Parts}
use Rattle.kit_rules.specs.Simulation.{seat_at, world_at_start, after_grants}
use Rattle.kit_rules.specs.Need.{worlds_from, most_outstanding}
use Rattle.kit_oracle.specs.Times.{count_later, count_sent_later}

-- for each federate, the times that are later than its own are those of its transported sends, and the most that it
-- had outstanding up to now is known
pub record AreNeeds (p : Parts) (n : ℕ) (times : List (List ℕ)) (most : List ℕ) : Type 0 where
  pub each_times : length times ≡ length p.federates
  pub each_most : length most ≡ length p.federates
  pub counts : (k t : ℕ) → k < length p.federates → (seat_at (after_grants p n (world_at_start p)) k).now ≤ t
      → count_later t (slice_index_or times k []) ≡ count_sent_later p t (seat_at (after_grants p n (world_at_start p)) k).state.sends
  pub greatest : (k : ℕ) → k < length p.federates → slice_index_or most k 0 ≡ most_outstanding p k (worlds_from p n (world_at_start p))
