-- The federates in full, once it is known what their rules may name.
use Rattle.std.specs.Prelude.{ℕ, List, [], ◌∷◌, ◌++◌, Bool, true, false, Result, Ok, codes, slice_index_or}
use Rattle.serde_json.specs.Data.{Data}
use Rattle.kit_rules.specs.Limits.{most_time}
use Rattle.kit_rules.specs.declared.table.Federate.{Federate}
use Rattle.kit_rules.specs.declared.table.Wish.{Wish}
use Rattle.kit_rules.specs.declared.table.Wish.TheVariants as wish
use Rattle.kit_walk.specs.declared.fault.FaultKind.TheVariants as kind
use Rattle.kit_walk.specs.declared.fault.Fault.{Fault}
use Rattle.kit_file.specs.declared.known.Known.{Known}
use Rattle.kit_walk.specs.Paths.{key_path, item_path}
use Rattle.kit_walk.specs.Reading.{◌>>=◌, fault_at, within, each}
use Rattle.kit_walk.specs.Places.{object, has, member, number}
use Rattle.kit_file.specs.Variables.{vars_of}
use Rattle.kit_file.specs.Rules.{rules_of}
use Rattle.kit_file.specs.Lookaheads.{lookahead_of}

-- the request of an object that has tar, or else ner
abbrev pub request_of : Bool → Bool → Data → Result Wish Fault
request_of true ner a = number (codes "tar") 1 most_time a >>= λ n. Ok (wish.Tar n)
request_of false true a = number (codes "ner") 1 most_time a >>= λ n. Ok (wish.Ner n)
request_of false false a = fault_at kind.Missing (key_path (codes "tar"))

-- the request that an object makes: TAR if it has both keys
unfoldable pub wish_of : Data → Result Wish Fault
wish_of a = do
  u ← object a
  request_of (has (codes "tar") a) (has (codes "ner") a) a

-- the key advance
unfoldable pub advance_of : Data → Result Wish Fault
advance_of d = do
  a ← member (codes "advance") d
  within (key_path (codes "advance")) (wish_of a)

-- a federate of this name, in a file of this version: lookahead, advance, vars, rules
unfoldable pub federate_of : ℕ → Known → List ℕ → Data → Result Federate Fault
federate_of version known name d = do
  lookahead ← lookahead_of version d
  advance ← advance_of d
  vars ← vars_of d
  rules ← rules_of known vars lookahead d
  Ok (record { name = name; lookahead = lookahead; advance = advance; vars = vars; rules = rules })

-- one more federate, the i-th of the list, with the i-th name
unfoldable pub federate_step : ℕ → List (List ℕ) → Known → ℕ → List Federate → Data → Result (List Federate) Fault
federate_step version names known i done d = within (item_path (codes "federates") i) (federate_of version known (slice_index_or names i []) d) >>= λ f. Ok (done ++ f ∷ [])

-- all federates in full
unfoldable pub federates_of : ℕ → List (List ℕ) → Known → List Data → Result (List Federate) Fault
federates_of version names known ds = each (federate_step version names known) 0 [] ds
