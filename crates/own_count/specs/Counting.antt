-- How many messages are delivered.
use Rattle.std.specs.Prelude.{ℕ, ◌-◌, ◌^◌, min, Bool, true, false, List, count_by}
use Rattle.kit_base.specs.declared.history.Line.{Line}
use Rattle.kit_base.specs.declared.history.Line.TheVariants as line

-- whether a line tells of a delivery
abbrev pub is_delivery : Line → Bool
is_delivery (line.Deliver granted federate message) = true
is_delivery (line.Grant time federate) = false

-- how many lines do; the count stands still at the greatest number of 64 bits
abbrev pub deliveries : List Line → ℕ
deliveries ls = min (count_by is_delivery ls) (2 ^ 64 - 1)
