-- How a source or a sink in memory moves its bytes.
use Rattle.std.specs.Prelude.{ℕ, ◌+◌, ◌-◌, ◌^◌, min, List, Contains}
use Rattle.kit_io.specs.declared.memory.Schedule.{Schedule}

-- the most bytes that a call moves, the numbers of the calls that fail, and the number of the next call
pub record Pace : Type 0 where
  pub most : ℕ
  pub fail : List ℕ
  pub call : ℕ

-- the pace of a schedule
abbrev pub pace_of : Schedule → Pace
pace_of s = record { most = s.most; fail = s.fail.items; call = s.calls }

-- the next call is to fail
abbrev pub IsListed : Pace → Type 0
IsListed p = Contains p.fail p.call

-- the pace after a call; the number of calls stops at its last value
abbrev pub pace_after_call : Pace → Pace
pace_after_call p = record p { call = min (p.call + 1) (2 ^ 64 - 1) }

-- how many of these bytes a call moves to a place of this room
abbrev pub count_moved : Pace → ℕ → ℕ → ℕ
count_moved p bytes room = min (min bytes p.most) room
