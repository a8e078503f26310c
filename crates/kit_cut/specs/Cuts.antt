-- The sequential simulation up to a time, and what a cut keeps of it.
use Rattle.std.specs.Prelude.{ℕ, zero, suc, ◌+◌, ◌*◌, min, nat_lt, nat_le, if◌then◌else◌, List, [], ◌∷◌, length, map, filter, find, Option, Some, None}
use Rattle.std.specs.Option.{option_map}
use Rattle.kit_base.specs.declared.message.Message.{Message}
use Rattle.kit_base.specs.Order.{in_order}
use Rattle.kit_rules.specs.Parts.{Parts}
use Rattle.kit_rules.specs.Delivery.{pending_messages}
use Rattle.kit_rules.specs.Simulation.{Seat, World, is_spent, world_at_start, next_grant, world_after_pair}
use Rattle.kit_rules.specs.Own.{own_events}
use Rattle.kit_cut.specs.Reach.{is_in_reach}
use Rattle.kit_cut.specs.declared.cut.Standing.{Standing}
use Rattle.kit_cut.specs.declared.cut.Cut.{Cut}

-- a pair, if it is due at a time or earlier
abbrev pub due_by : ℕ → Option (ℕ × ℕ) → Option (ℕ × ℕ)
due_by t None = None
due_by t (Some g) = if nat_le g.0 t then Some g else None

-- the world after so many grants, as long as they are due at a time or earlier
abbrev pub after_grants_by : Parts → ℕ → ℕ → World → World
after_grants_by p t zero w = w
after_grants_by p t (suc n) w = after_grants_by p t n (world_after_pair p w (due_by t (next_grant p w)))

-- the simulation up to a time: every pair that is due then or earlier has been taken
abbrev pub world_by : Parts → ℕ → World
world_by p t = after_grants_by p t (length p.federates * p.end) (world_at_start p)

-- the federate that takes number 16,385 up to a time, the first to do so
abbrev pub spender_by : Parts → ℕ → Option ℕ
spender_by p t = option_map (λ (m : Message). m.sender) (find is_spent (world_by p t).messages)

-- what is kept of federate i, of whose Events those that it may still take back
abbrev pub standing_of : Parts → List Message → ℕ → Seat → Standing
standing_of p sent i s = record {
  now = s.now;
  vars = s.state.vars;
  wish = s.state.wish;
  request = if nat_lt s.now p.end then Some s.request else None;
  own = filter (is_in_reach p i s.now) (own_events s.state.sends);
  pending = in_order (pending_messages p i s.got sent);
}

-- and of the federates from number i on
abbrev pub standings_from : Parts → List Message → ℕ → List Seat → List Standing
standings_from p sent i [] = []
standings_from p sent i (s ∷ ss) = standing_of p sent i s ∷ standings_from p sent (i + 1) ss

-- the cut of a world at a time
abbrev pub cut_of : Parts → ℕ → World → Cut
cut_of p t w = record { at = min t p.end; next = map (λ (s : Seat). s.state.next) w.seats; federates = standings_from p w.messages 0 w.seats }

-- the cut of the simulation at a time
abbrev pub simulation_cut : Parts → ℕ → Cut
simulation_cut p t = cut_of p t (world_by p t)
