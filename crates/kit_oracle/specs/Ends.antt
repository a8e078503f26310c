-- How a simulation ends without a history.
use Rattle.std.specs.Prelude.{ℕ, Result, Ok, Err}
use Rattle.kit_rules.specs.declared.scene.ApplyEnd.{ApplyEnd}
use Rattle.kit_rules.specs.declared.scene.ApplyEnd.TheVariants as apply
use Rattle.kit_oracle.specs.declared.end.OracleEnd.{OracleEnd}
use Rattle.kit_oracle.specs.declared.end.OracleEnd.TheVariants.{SendsSpent, NoMemory}

-- the end of a simulation whose federate i could not go on
abbrev pub oracle_end : ApplyEnd → ℕ → OracleEnd
oracle_end apply.SendsSpent i = SendsSpent i
oracle_end apply.NoMemory i = NoMemory

-- P of the federate, where the end is that it takes number 16,385
abbrev pub IfSpentAt : OracleEnd → (ℕ → Type 0) → Type 0
IfSpentAt (SendsSpent i) P = P i
IfSpentAt NoMemory P = Unit {0}

abbrev pub IfSpent : {T : Type 0} → Result T OracleEnd → (ℕ → Type 0) → Type 0
IfSpent (Ok x) P = Unit {0}
IfSpent (Err e) P = IfSpentAt e P
