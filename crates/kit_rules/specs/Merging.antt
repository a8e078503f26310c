-- Blocks of several federates in one list, by grant time and then by federate, and the lines that they make.
use Rattle.std.specs.Prelude.{◌≡◌, ℕ, ◌<◌, ◌==◌, Bool, IsTrue, List, [], ◌∷◌, length, map, filter, slice_index_or, AllPairs}
use Rattle.std.specs.List.{All, AllByRecursion}
use Rattle.kit_base.specs.declared.history.Line.{Line}
use Rattle.kit_base.specs.declared.history.Part.{Part}
use Rattle.kit_rules.specs.Simulation.{Block, is_sooner, lines_of}

-- the grants of these blocks, in their order
abbrev pub grants_of : List Block → List (ℕ × ℕ)
grants_of blocks = map (λ (b : Block). (b.time, b.federate)) blocks

-- each comes before those behind it
abbrev pub Ascend : List (ℕ × ℕ) → Type 0
Ascend [] = Unit {0}
Ascend (g ∷ gs) = AllByRecursion (λ h. IsTrue (is_sooner g h)) gs × Ascend gs

-- one block comes before another
abbrev pub IsSooner : Block → Block → Type 0
IsSooner a b = IsTrue (is_sooner (a.time, a.federate) (b.time, b.federate))

-- whether a block is a grant of federate i
abbrev pub is_grant_of : ℕ → Block → Bool
is_grant_of i b = b.federate == i

-- the grants of federate i among these
abbrev pub blocks_of : ℕ → List Block → List Block
blocks_of i blocks = filter (is_grant_of i) blocks

-- blocks of federate k, whose times rise strictly
pub record IsPart (k : ℕ) (blocks : List Block) : Type 0 where
  pub own : All (λ (b : Block). b.federate ≡ k) blocks
  pub rise : AllPairs (λ (a b : Block). a.time < b.time) blocks

-- blocks in the order of grant time and federate, and those of each federate are its part
pub record IsMerge (parts : List (List Block)) (blocks : List Block) : Type 0 where
  pub ascend : Ascend (grants_of blocks)
  pub federates : All (λ (b : Block). b.federate < length parts) blocks
  pub split : (k : ℕ) → k < length parts → blocks_of k blocks ≡ slice_index_or parts k []

-- the lines of a federate's part
abbrev pub lines_in : Part → List Line
lines_in part = part.lines

-- the closing values of its variables
abbrev pub vars_in : Part → List ℕ
vars_in part = part.vars

-- the lines of the part of a federate by its number
abbrev pub lines_at : List Part → ℕ → List Line
lines_at parts k = slice_index_or (map lines_in parts) k []

-- the lines of part k are those of whole blocks of federate k, whose times rise strictly
pub record ArePartsOf (parts : List Part) (blocks : List (List Block)) : Type 0 where
  pub count : length blocks ≡ length parts
  pub lines : (k : ℕ) → k < length parts → lines_at parts k ≡ lines_of (slice_index_or blocks k [])
  pub parts_are : (k : ℕ) → k < length blocks → IsPart k (slice_index_or blocks k [])

-- the lines are those of the merge of the blocks
pub record IsMerged (blocks : List (List Block)) (lines : List Line) : Type 0 where
  pub all : List Block
  pub merge : IsMerge blocks all
  pub lines_are : lines ≡ lines_of all
