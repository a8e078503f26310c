-- What a cut keeps, as the desks of a simulator show it.
use Rattle.std.specs.Prelude.{ℕ, ◌+◌, min, nat_lt, if◌then◌else◌, List, [], ◌∷◌, map, filter, Some, None}
use Rattle.kit_rules.specs.Parts.{Parts}
use Rattle.kit_rules.specs.Own.{own_events}
use Rattle.kit_oracle.specs.declared.desk.Desk.{Desk}
use Rattle.kit_oracle.specs.Pending.{front_until}
use Rattle.kit_cut.specs.Reach.{is_in_reach}
use Rattle.kit_cut.specs.declared.cut.Standing.{Standing}
use Rattle.kit_cut.specs.declared.cut.Cut.{Cut}

-- what is kept of federate i
abbrev pub standing_of_desk : Parts → ℕ → Desk → Standing
standing_of_desk p i d = record {
  now = d.now;
  vars = d.state.vars;
  wish = d.state.wish;
  request = if nat_lt d.now p.end then Some d.request else None;
  own = filter (is_in_reach p i d.now) (own_events d.state.sends);
  pending = front_until p.end d.queue;
}

-- and of the federates from number i on
abbrev pub standings_of_desks : Parts → ℕ → List Desk → List Standing
standings_of_desks p i [] = []
standings_of_desks p i (d ∷ ds) = standing_of_desk p i d ∷ standings_of_desks p (i + 1) ds

-- their next numbers
abbrev pub next_of_desks : List Desk → List ℕ
next_of_desks ds = map (λ (d : Desk). d.state.next) ds

-- the cut at a time
abbrev pub cut_of_desks : Parts → ℕ → List Desk → Cut
cut_of_desks p t ds = record { at = min t p.end; next = next_of_desks ds; federates = standings_of_desks p 0 ds }
