-- The limits of a federation, each named once.
use Rattle.std.specs.Prelude.{ℕ}

-- the latest end time, and the greatest lookahead, step and delay, in logical time
abbrev pub most_time : ℕ
most_time = 100000

-- the most buffers that each federate has
abbrev pub most_buffers : ℕ
most_buffers = 1024

-- the most federates
abbrev pub most_federates : ℕ
most_federates = 16

-- the most groups
abbrev pub most_groups : ℕ
most_groups = 32

-- the most variables of a federate
abbrev pub most_vars : ℕ
most_vars = 8

-- the most rules of a federate
abbrev pub most_rules : ℕ
most_rules = 64

-- the most conditions of a rule
abbrev pub most_conds : ℕ
most_conds = 8

-- the most actions of a rule
abbrev pub most_actions : ℕ
most_actions = 16

-- the most bytes of a name
abbrev pub most_name_bytes : ℕ
most_name_bytes = 16
