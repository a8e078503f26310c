-- A pool: the mail, the counts and the contents of a floor, without its registers and its stop word, and without a client.
use Rattle.std.specs.Prelude.{ℕ, ◌+◌, ◌*◌, List, replicate}
use Rattle.kit_ground.specs.declared.place.Deed.{Deed}
use Rattle.kit_ground.specs.declared.place.Place.{Place}
use Rattle.kit_ground.specs.Rules.{Rule}

-- registers that nobody publishes, and a stop word that nobody sets
unfoldable pub idle_registers : ℕ → List ℕ
idle_registers n = replicate (13 * n + 1) 0

-- no client: its rule asks nothing, and its views say nothing
abbrev pub bare_rule : Rule (Unit {0})
bare_rule = record { holds = λ m places. Unit {0}; sees = λ m places g. Unit {0} }

abbrev pub no_client : ℕ → Unit {0}
no_client k = tt

abbrev pub as_it_is : Deed → Place (Unit {0}) → Unit {0}
as_it_is deed p = p.client
