-- Variables come back.
use Rattle.std.proofs.Common.{◌≡◌, ◌≢◌, ◌≤◌, List, length, Some, Ok, codes, refl, subst}
use Rattle.std.specs.List.{All}
use Rattle.serde_json.specs.Data.{Data}
use Rattle.serde_json.specs.Find.{get}
use Rattle.kit_rules.specs.declared.table.Var.{Var}
use Rattle.kit_rules.specs.Names.{IsName}
use Rattle.kit_rules.specs.Federation.{AreVars}
use Rattle.kit_rules.specs.Limits.{most_vars}
use Rattle.kit_walk.specs.Paths.{item_path}
use Rattle.kit_walk.specs.Places.{object}
use Rattle.kit_file.specs.Names.{var_name, new_name}
use Rattle.kit_file.specs.Variables.{var_of, var_step, var_list_of, vars_of}
use Rattle.kit_file.proofs.Ranges.{numbers_are_taken, lists_are_taken, names_are_taken}
use Rattle.kit_save.specs.Values.{list_value, var_value}
use Rattle.kit_save.specs.Widths.{IsWordVar}
use Rattle.kit_save.proofs.Lists.{middle, one_more, values_read, list_read, TakesEach}
use Rattle.kit_save.proofs.Names.{Differ, earlier}

-- the variable has the form of a name
abbrev HasName : Var → Type 0
HasName v = IsName v.name

-- a variable after others
var_taken : (before : List Var) (v : Var) → All (λ b. var_name b ≢ v.name) before → HasName v → IsWordVar v → var_of before (var_value v) ≡ Ok v
unfolding var_of object new_name
var_taken before v apart form word =
    rw (
      names_are_taken.form (codes "name") (var_value v) v.name refl form,
      names_are_taken.vars before (codes "name") v.name apart,
      numbers_are_taken.value (var_value v) v.value refl word,
    ) refl

-- each of them
each_var : (vars : List Var) → AreVars vars → All IsWordVar vars → TakesEach var_step var_value vars
unfolding var_step
each_var vars h word before v after at =
    one_more (item_path (codes "vars") (length before)) (var_of before (var_value v)) before v
    (var_taken before v
    (earlier var_name before v after (subst (Differ var_name) at h.differ))
    (middle HasName before v after (subst (All HasName) at h.names))
    (middle IsWordVar before v after (subst (All IsWordVar) at word)))

-- the list vars
pub vars_taken : (d : Data) (vars : List Var) → get (codes "vars") d ≡ Some (list_value var_value vars) → AreVars vars → All IsWordVar vars → vars_of d ≡ Ok vars
unfolding vars_of
vars_taken d vars e h word =
    list_read (var_list_of d) var_step var_value vars
    (values_read (codes "vars") (λ n. n ≤ most_vars) var_list_of var_value vars d lists_are_taken.vars e h.few)
    (each_var vars h word)
