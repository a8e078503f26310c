-- Which federates are time-regulating, and with which lookahead.
use Rattle.std.specs.Prelude.{ℕ, List, Bool, true, false, ◌==◌, if◌then◌else◌, Option, Some, None, Result, Ok, codes}
use Rattle.serde_json.specs.Data.{Data}
use Rattle.serde_json.specs.Find.{get, as_bool}
use Rattle.kit_rules.specs.Limits.{most_time}
use Rattle.kit_walk.specs.declared.fault.FaultKind.TheVariants as kind
use Rattle.kit_walk.specs.declared.fault.Fault.{Fault}
use Rattle.kit_walk.specs.Paths.{key_path}
use Rattle.kit_walk.specs.Reading.{◌>>=◌, or_fault}
use Rattle.kit_walk.specs.Places.{number}

-- what the key says; where it is absent the federate is regulating
abbrev pub regulating_in : Option Data → Result Bool Fault
regulating_in None = Ok true
regulating_in (Some v) = or_fault kind.WrongKind (key_path (codes "regulating")) (as_bool v)

-- whether a federate is regulating: in version 1 each is, and the key has no meaning
unfoldable pub regulating_of : ℕ → Data → Result Bool Fault
regulating_of version d = if version == 1 then Ok true else regulating_in (get (codes "regulating") d)

-- the lookahead of a federate that is regulating; that of another is not looked at
abbrev pub lookahead_if : Bool → Data → Result (Option ℕ) Fault
lookahead_if true d = number (codes "lookahead") 1 most_time d >>= λ l. Ok (Some l)
lookahead_if false d = Ok None

-- the lookahead, if any, of a federate in a file of this version
unfoldable pub lookahead_of : ℕ → Data → Result (Option ℕ) Fault
lookahead_of version d = do
  regulating ← regulating_of version d
  lookahead_if regulating d

-- the lookahead that an action of the kind of this key needs
abbrev pub needed_lookahead : List ℕ → Option ℕ → Result ℕ Fault
needed_lookahead key lookahead = or_fault kind.NotRegulating (key_path key) lookahead
