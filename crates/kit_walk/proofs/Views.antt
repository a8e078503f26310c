-- A list of values is the list of their data.
use Rattle.std.proofs.Common.{◌≡◌, List, [], ◌∷◌, length, map, refl, ap, ◌∙◌}
use Rattle.std.proofs.lemmas.List.{length-map}
use Rattle.serde_json.specs.Data.{Data}
use Rattle.serde_json.specs.View.{view, items_of, items_view}
use Rattle.serde_json.specs.declared.value.Value.{Value}
use Rattle.kit_walk.specs.Places.{data_of}

-- an array of data, as a list again
data_of-items_of : (ds : List Data) → data_of (items_of ds) ≡ ds
data_of-items_of [] = refl
data_of-items_of (d ∷ ds) = ap (λ es. d ∷ es) (data_of-items_of ds)

-- the members of an array of values
pub data_of_view : (vs : List Value) → data_of (items_view vs) ≡ map view vs
data_of_view vs = data_of-items_of (map view vs)

-- how many members an array of values has
pub length_of_view : (vs : List Value) → length (data_of (items_view vs)) ≡ length vs
length_of_view vs = ap length (data_of_view vs) ∙ length-map vs view
