-- What an accepted file means.
use Rattle.std.specs.Prelude.{◌≡◌, ◌↔◌, ℕ, ◌≤◌, ◌==◌, List, [], map, Bool, true, ◌||◌, if◌then◌else◌, Option, Some, None, Ok, Err, option_and_then, unwrap_or, codes}
use Rattle.std.specs.Option.{option_map_or}
use Rattle.serde_json.specs.Data.{Data}
use Rattle.serde_json.specs.Find.{get, as_bool, as_number, as_u64, as_array}
use Rattle.kit_rules.specs.declared.table.Federate.{Federate}
use Rattle.kit_rules.specs.Parts.{Parts}
use Rattle.kit_walk.specs.Places.{data_of}
use Rattle.kit_regions.specs.Plan.{Plan}
use Rattle.kit_regions.specs.Lowered.{federation_of, crowded_federate}
use Rattle.kit_walk.specs.declared.fault.Fault.{Fault}
use Rattle.kit_file.specs.Walk.{walk, plan_walk}

-- the number under a key
abbrev pub number_under : List ℕ → Data → Option ℕ
number_under key d = option_and_then as_u64 (option_and_then as_number (get key d))

-- the members of the list under a key
abbrev pub members_under : List ℕ → Data → List Data
members_under key d = option_map_or data_of (option_and_then as_array (get key d)) []

-- whether a federate is time-regulating: in version 1 each is, and then each whose key does not say that it is not
abbrev pub says_regulating : ℕ → Data → Bool
says_regulating version d = version == 1 || unwrap_or (option_and_then as_bool (get (codes "regulating") d)) true

-- the lookahead that a federate's keys say
abbrev pub lookahead_said : ℕ → Data → Option ℕ
lookahead_said version d = if says_regulating version d then number_under (codes "lookahead") d else None

-- the federation is what the keys say: its end, the size of its pools, and for each member of the list of federates one, with its lookahead
pub record KeysSay (d : Data) (p : Parts) : Type 0 where
  pub version : ℕ
  pub known : (1 ≤ version) × (version ≤ 3)
  pub said : number_under (codes "version") d ≡ Some version
  pub end : number_under (codes "end") d ≡ Some p.end
  pub buffers : number_under (codes "buffers") d ≡ Some p.buffers
  pub lookaheads : map (λ (f : Federate). f.lookahead) p.federates ≡ map (lookahead_said version) (members_under (codes "federates") d)

-- a file that is accepted means what its keys say
abbrev pub KeysMean : Type 0
KeysMean = (d : Data) (p : Parts) → walk d ≡ Ok p → KeysSay d p

-- the file of a plan has version 3, and the walk's federation is that of the plan, in which no table becomes too long
pub record PlanSays (d : Data) (plan : Plan) : Type 0 where
  pub version : number_under (codes "version") d ≡ Some 3
  pub federation : walk d ≡ Ok (federation_of plan)
  pub fits : crowded_federate plan ≡ None

-- the plan of a file that is accepted is what the file gives its federation from
abbrev pub PlansMean : Type 0
PlansMean = (d : Data) (plan : Plan) → plan_walk d ≡ Ok (Some plan) → PlanSays d plan

-- a file has no plan exactly where it is accepted and its version is 1 or 2
abbrev pub OthersHaveNone : Type 0
OthersHaveNone = (d : Data) → plan_walk d ≡ Ok None ↔ ((version : ℕ) × (number_under (codes "version") d ≡ Some version) × (version ≤ 2) × (p : Parts) × (walk d ≡ Ok p))

-- and it is refused with the fault with which its federation is
abbrev pub SameFaults : Type 0
SameFaults = (d : Data) (f : Fault) → plan_walk d ≡ Err f ↔ walk d ≡ Err f
