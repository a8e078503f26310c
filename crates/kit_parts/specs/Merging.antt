-- Blocks of several federates in one list, by grant time and then by federate.
use Rattle.std.specs.Prelude.{◌≡◌, ℕ, ◌<◌, IsTrue, List, [], length, map, slice_index_or, AllPairs}
use Rattle.std.specs.List.{All, range_with_len}
use Rattle.kit_rules.specs.Parts.{Parts}
use Rattle.kit_rules.specs.Federation.{IsFederation}
use Rattle.kit_rules.specs.Simulation.{Block, lines_of, simulation}
use Rattle.kit_rules.specs.Text.{history_text, simulation_text}
use Rattle.kit_laws.specs.Laws.{grants_of, Ascend}
use Rattle.kit_parts.specs.Fronts.{seat_after, blocks_of, part}
pub use Rattle.kit_rules.specs.Merging.{IsMerge, IsPart, IsSooner}

-- the parts of the simulation, in the order of the federates
abbrev pub parts_of : Parts → List (List Block)
parts_of p = map (part p) (range_with_len 0 (length p.federates))

-- the variables that they leave
abbrev pub vars_of : Parts → List (List ℕ)
vars_of p = map (λ (i : ℕ). (seat_after p i (part p i)).state.vars) (range_with_len 0 (length p.federates))

-- there is one merge of any parts
abbrev pub OneMerge : Type 0
OneMerge = (parts : List (List Block)) (a b : List Block) → IsMerge parts a → IsMerge parts b → a ≡ b

-- the simulation is the merge of its parts
abbrev pub PartsMerge : Type 0
PartsMerge = (p : Parts) → IsFederation p → IsMerge (parts_of p) (simulation p).blocks

-- so the merge of the parts and the variables that they leave make its text
abbrev pub PartsMakeTheText : Type 0
PartsMakeTheText = (p : Parts) → IsFederation p → (blocks : List Block) → IsMerge (parts_of p) blocks → history_text p (lines_of blocks) (vars_of p) ≡ simulation_text p

-- the parts of the simulation are such parts
abbrev pub PartsArePart : Type 0
PartsArePart = (p : Parts) → IsFederation p → (k : ℕ) → k < length (parts_of p) → IsPart k (slice_index_or (parts_of p) k [])
