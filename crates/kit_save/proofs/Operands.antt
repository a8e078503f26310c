-- Operands come back.
use Rattle.std.proofs.Common.{◌≡◌, ◌≢◌, ℕ, ◌<◌, List, [], ◌∷◌, length, false, Some, Ok, codes, refl, subst, sym, arith}
use Rattle.std.specs.List.{All}
use Rattle.std.proofs.lemmas.List.Elements.{All-head}
use Rattle.serde_json.specs.Data.{Data}
use Rattle.serde_json.specs.Find.{get, as_str}
use Rattle.kit_rules.specs.declared.table.Var.{Var}
use Rattle.kit_rules.specs.declared.table.Operand.{Operand}
use Rattle.kit_rules.specs.declared.table.Operand.TheVariants as operand
use Rattle.kit_rules.specs.Names.{IsName, IsNameByte}
use Rattle.kit_rules.specs.Federation.{IsOperand, AreVars}
use Rattle.kit_walk.specs.Places.{member, is_same}
use Rattle.kit_file.specs.Names.{var_name}
use Rattle.kit_file.specs.Operands.{operand_of, operand_in, operand_text}
use Rattle.kit_file.proofs.Ranges.{numbers_are_taken}
use Rattle.kit_save.specs.Values.{name_at, operand_value}
use Rattle.kit_save.specs.Widths.{IsWordOperand}
use Rattle.kit_save.proofs.Lists.{both, member_read}
use Rattle.kit_save.proofs.Names.{not_same, name_there, found_there}

-- a name does not begin with $
pub no_dollar : (s rest : List ℕ) → IsName s → s ≢ 36 ∷ rest
no_dollar s rest form e =
    let h : All IsNameByte (36 ∷ rest) = subst (All IsNameByte) e form.bytes in
    let b : IsNameByte 36 = All-head IsNameByte 36 rest h in
    search (arith, b)

-- the name of a variable is a name
pub var_is_named : (vars : List Var) (v : ℕ) → AreVars vars → v < length vars → IsName (name_at var_name vars v)
var_is_named vars v h lt =
    let nothing : Var = record { name = []; value = 0 } in
    subst IsName (sym (name_there var_name vars v nothing lt)) (h.names v nothing lt)

-- a variable, by its name
named_taken : (key : List ℕ) (vars : List Var) (v : ℕ) → AreVars vars → v < length vars → operand_text key vars (name_at var_name vars v) ≡ Ok (operand.Var v)
unfolding operand_text
named_taken key vars v h lt =
    let now : is_same (name_at var_name vars v) (codes "$now") ≡ false = not_same (name_at var_name vars v) (codes "$now") (no_dollar (name_at var_name vars v) (codes "now") (var_is_named vars v h lt)) in
    let value : is_same (name_at var_name vars v) (codes "$value") ≡ false = not_same (name_at var_name vars v) (codes "$value") (no_dollar (name_at var_name vars v) (codes "value") (var_is_named vars v h lt)) in
    rw (now, value, found_there var_name vars v h.differ lt) refl

-- an operand, from the value at its key
value_taken : (key : List ℕ) (vars : List Var) (d : Data) (o : Operand) → get key d ≡ Some (operand_value vars o) → AreVars vars → IsOperand (length vars) o → IsWordOperand o → operand_in key vars d (as_str (operand_value vars o)) ≡ Ok o
unfolding operand_text
value_taken key vars d (operand.Num n) e h is word = numbers_are_taken.operand key vars d n (rw e refl) word
value_taken key vars d (operand.Var v) e h is word = named_taken key vars v h is
value_taken key vars d operand.Now e h is word = refl
value_taken key vars d operand.Value e h is word = refl

-- an operand
pub operand_taken : (key : List ℕ) (vars : List Var) (d : Data) (o : Operand) → get key d ≡ Some (operand_value vars o) → AreVars vars → IsOperand (length vars) o → IsWordOperand o → operand_of key vars d ≡ Ok o
unfolding operand_of
operand_taken key vars d o e h is word =
    both (member key d) (operand_value vars o) (λ v. operand_in key vars d (as_str v)) o (member_read key d (operand_value vars o) e) (value_taken key vars d o e h is word)
