-- A plain floor, as contracts see it.
use Rattle.std.specs.Prelude.{ℕ, zero, suc, ◌<◌, List, [], ◌∷◌, ◌++◌, length, replicate, slice_index_or, slice_set}
use Rattle.kit_ground.specs.declared.place.Place.{Place}
use Rattle.kit_ground.specs.Layout.{size_of, memory_of}
use Rattle.kit_ground.specs.Memory.{Memory}
use Rattle.kit_ground.specs.Rules.{Rule, own_at_first, places_at_first}
use Rattle.kit_ground.specs.Words.{RuledWords}

pub record Floor (O V : Type 0) : Type 0 where
  pub opening : O
  pub buffers : ℕ
  pub words : List ℕ
  pub places : List (Place V)
  pub seated : ℕ
  -- the federates that made its steps
  pub steps : List ℕ

abbrev pub memory : {O V : Type 0} → Floor O V → Memory
memory f = memory_of (length f.places) f.buffers f.words

-- both rules hold, and a federate is seated
pub record RulesHold {O V : Type 0} (rule : Rule V) (f : Floor O V) : Type 0 where
  pub words : RuledWords rule f.buffers f.words f.places
  pub seat : f.seated < length f.places

-- the place of the federate that is seated
abbrev pub place_of : {O V : Type 0} → (O → ℕ → V) → Floor O V → Place V
place_of first f = slice_index_or f.places f.seated (record { own = own_at_first 0 0 0; client = first f.opening 0 })

-- a list with the element at a place changed
abbrev pub map_at : {A : Type 0} → (A → A) → ℕ → List A → List A
map_at f i [] = []
map_at f zero (x ∷ xs) = f x ∷ xs
map_at f (suc i) (x ∷ xs) = x ∷ map_at f i xs

-- a step of the federate that is seated: the word i becomes n, and its place is changed by g
abbrev pub floor_after : {O V : Type 0} → ℕ → ℕ → (Place V → Place V) → Floor O V → Floor O V
floor_after i n g f = record f { words = slice_set f.words i n; places = map_at g f.seated f.places; steps = f.steps ++ f.seated ∷ [] }

-- a new floor of n federates with b buffers each, of whom the first is seated
abbrev pub new_floor : {O V : Type 0} → (O → ℕ → V) → O → ℕ → ℕ → Floor O V
new_floor first about n b = record { opening = about; buffers = b; words = replicate (size_of n b) 0; places = places_at_first (first about) n b; seated = 0; steps = [] }
