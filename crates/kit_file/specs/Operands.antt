-- Operands: a number, the time, the value of the message, or a variable.
use Rattle.std.specs.Prelude.{ℕ, ◌^◌, ◌-◌, List, if◌then◌else◌, Option, Some, None, Result, Ok, codes}
use Rattle.serde_json.specs.Data.{Data}
use Rattle.serde_json.specs.Find.{as_str}
use Rattle.kit_rules.specs.declared.table.Var.{Var}
use Rattle.kit_rules.specs.declared.table.Operand.{Operand}
use Rattle.kit_rules.specs.declared.table.Operand.TheVariants as operand
use Rattle.kit_walk.specs.declared.fault.FaultKind.TheVariants as kind
use Rattle.kit_walk.specs.declared.fault.Fault.{Fault}
use Rattle.kit_walk.specs.Paths.{key_path}
use Rattle.kit_walk.specs.Reading.{◌>>=◌, or_fault}
use Rattle.kit_walk.specs.Places.{member, number, is_same}
use Rattle.kit_file.specs.Names.{var_name, position_of}

-- a text: the two words, or the name of a variable
unfoldable pub operand_text : List ℕ → List Var → List ℕ → Result Operand Fault
operand_text key vars s = if is_same s (codes "$now") then Ok operand.Now else (if is_same s (codes "$value") then Ok operand.Value else (or_fault kind.UnknownName (key_path key) (position_of var_name vars s) >>= λ v. Ok (operand.Var v)))

-- a number, or what the text says
abbrev pub operand_in : List ℕ → List Var → Data → Option (List ℕ) → Result Operand Fault
operand_in key vars d None = number key 0 (2 ^ 32 - 1) d >>= λ n. Ok (operand.Num n)
operand_in key vars d (Some s) = operand_text key vars s

-- the operand at a key
unfoldable pub operand_of : List ℕ → List Var → Data → Result Operand Fault
operand_of key vars d = do
  v ← member key d
  operand_in key vars d (as_str v)
