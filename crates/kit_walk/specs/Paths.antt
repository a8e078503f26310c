-- Paths into a file.
use Rattle.std.specs.Prelude.{ℕ, List, ◌++◌, codes}
use Rattle.std.specs.Fmt.{decimal}

-- one key further in
abbrev pub key_path : List ℕ → List ℕ
key_path key = codes "." ++ key

-- one member of the list under a key further in
abbrev pub item_path : List ℕ → ℕ → List ℕ
item_path key i = codes "." ++ key ++ codes "[" ++ decimal i ++ codes "]"

-- one member of the list that the value itself is
abbrev pub index_path : ℕ → List ℕ
index_path i = codes "[" ++ decimal i ++ codes "]"
