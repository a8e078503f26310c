-- Conditions come back.
use Rattle.std.proofs.Common.{◌≡◌, List, length, Some, Ok, codes, refl}
use Rattle.serde_json.specs.Data.{Data, string}
use Rattle.serde_json.specs.Find.{get}
use Rattle.kit_rules.specs.declared.table.Var.{Var}
use Rattle.kit_rules.specs.declared.table.Compare.{Compare}
use Rattle.kit_rules.specs.declared.table.Compare.TheVariants as compare
use Rattle.kit_rules.specs.declared.table.Cond.{Cond}
use Rattle.kit_rules.specs.Federation.{IsCond, AreVars}
use Rattle.kit_walk.specs.Places.{object}
use Rattle.kit_file.specs.Rules.{named_comparison, comparison_of, cond_of}
use Rattle.kit_save.specs.Values.{comparison_name, cond_value}
use Rattle.kit_save.specs.Widths.{IsWordCond}
use Rattle.kit_save.proofs.Lists.{text_read}
use Rattle.kit_save.proofs.Operands.{operand_taken}

-- a comparison, by its name
named_taken : (c : Compare) → named_comparison (comparison_name c) ≡ Some c
unfolding named_comparison
named_taken compare.Lt = refl
named_taken compare.Le = refl
named_taken compare.Eq = refl
named_taken compare.Ne = refl
named_taken compare.Ge = refl
named_taken compare.Gt = refl

comparison_taken : (d : Data) (c : Compare) → get (codes "is") d ≡ Some (string (comparison_name c)) → comparison_of d ≡ Ok c
unfolding comparison_of
comparison_taken d c e = rw (text_read (codes "is") d (string (comparison_name c)) (comparison_name c) e refl, named_taken c) refl

-- a condition
pub cond_taken : (vars : List Var) (c : Cond) → AreVars vars → IsCond (length vars) c → IsWordCond c → cond_of vars (cond_value vars c) ≡ Ok c
unfolding cond_of object
cond_taken vars c h is word =
    rw (
      operand_taken (codes "left") vars (cond_value vars c) c.left refl h is.0 word.0,
      comparison_taken (cond_value vars c) c.test refl,
      operand_taken (codes "right") vars (cond_value vars c) c.right refl h is.1 word.1,
    ) refl
