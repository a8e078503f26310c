-- The numbers of a federation that no limit of its own bounds have 32 bits, as their types say.
use Rattle.std.specs.Prelude.{◌^◌, ◌<◌, All}
use Rattle.kit_rules.specs.declared.table.Operand.{Operand}
use Rattle.kit_rules.specs.declared.table.Operand.TheVariants as operand
use Rattle.kit_rules.specs.declared.table.Cond.{Cond}
use Rattle.kit_rules.specs.declared.table.Action.{Action}
use Rattle.kit_rules.specs.declared.table.Action.TheVariants as action
use Rattle.kit_rules.specs.declared.table.Rule.{Rule}
use Rattle.kit_rules.specs.declared.table.Var.{Var}
use Rattle.kit_rules.specs.declared.table.Federate.{Federate}
use Rattle.kit_rules.specs.Parts.{Parts}

-- an operand's own number
abbrev pub IsWordOperand : Operand → Type 0
IsWordOperand (operand.Num n) = n < 2 ^ 32
IsWordOperand (operand.Var v) = Unit {0}
IsWordOperand operand.Now = Unit {0}
IsWordOperand operand.Value = Unit {0}

-- those of a condition
abbrev pub IsWordCond : Cond → Type 0
IsWordCond c = IsWordOperand c.left × IsWordOperand c.right

-- that of an action
abbrev pub IsWordAction : Action → Type 0
IsWordAction (action.Set v to) = IsWordOperand to
IsWordAction (action.Add v by) = IsWordOperand by
IsWordAction (action.Sub v by) = IsWordOperand by
IsWordAction (action.Send group delay value keep) = IsWordOperand value
IsWordAction (action.Retract v) = Unit {0}
IsWordAction (action.Tar step) = Unit {0}
IsWordAction (action.Ner step) = Unit {0}

-- those of a rule
abbrev pub IsWordRule : Rule → Type 0
IsWordRule r = All IsWordCond r.conds × All IsWordAction r.actions

-- the value of a variable
abbrev pub IsWordVar : Var → Type 0
IsWordVar v = v.value < 2 ^ 32

-- those of a federate
abbrev pub IsWordFederate : Federate → Type 0
IsWordFederate f = All IsWordVar f.vars × All IsWordRule f.rules

-- those of a federation
abbrev pub HasWords : Parts → Type 0
HasWords p = All IsWordFederate p.federates
