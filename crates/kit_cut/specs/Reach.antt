-- Which of its own Events a federate may still take back.
use Rattle.std.specs.Prelude.{ℕ, ◌+◌, nat_le, Bool, ◌&&◌}
use Rattle.kit_rules.specs.Parts.{Parts, effective_lookahead}
use Rattle.kit_rules.specs.declared.own.Own.{Own}

-- whether federate i may take it back at a time or later: it is timed from then and its lookahead to the end
abbrev pub is_in_reach : Parts → ℕ → ℕ → Own → Bool
is_in_reach p i now o = nat_le (now + effective_lookahead p i) o.time && nat_le o.time p.end
