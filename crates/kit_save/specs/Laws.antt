-- What the walk answers on the value of a federation.
use Rattle.std.specs.Prelude.{◌≡◌, ◌≢◌, ℕ, List, length, map, AllPairs, Option, Some, Ok, codes, is_some, true}
use Rattle.serde_json.specs.Data.{Data}
use Rattle.serde_json.specs.Find.{get, as_object}
use Rattle.kit_rules.specs.declared.table.Var.{Var}
use Rattle.kit_rules.specs.declared.table.Operand.{Operand}
use Rattle.kit_rules.specs.declared.table.Cond.{Cond}
use Rattle.kit_rules.specs.declared.table.Group.{Group}
use Rattle.kit_rules.specs.declared.table.Action.{Action}
use Rattle.kit_rules.specs.Parts.{Parts}
use Rattle.kit_rules.specs.Federation.{IsFederation, AreVars, IsOperand, IsCond, IsAction}
use Rattle.kit_file.specs.Names.{group_name}
use Rattle.kit_file.specs.Operands.{operand_of}
use Rattle.kit_file.specs.Rules.{cond_of}
use Rattle.kit_file.specs.Actions.{action_of}
use Rattle.kit_file.specs.Walk.{walk}
use Rattle.kit_save.specs.Values.{count, list_value, operand_value, cond_value, action_value, federate_value, group_value, federation_value}
use Rattle.kit_save.specs.Widths.{HasWords, IsWordOperand, IsWordCond, IsWordAction}

-- the value has the keys of a federation, and may have others
pub record SaysFederation (p : Parts) (d : Data) : Type 0 where
  pub object : is_some (as_object d) ≡ true
  pub version : get (codes "version") d ≡ Some (count 2)
  pub end : get (codes "end") d ≡ Some (count p.end)
  pub buffers : get (codes "buffers") d ≡ Some (count p.buffers)
  pub groups : get (codes "groups") d ≡ Some (list_value (group_value p.federates) p.groups)
  pub federates : get (codes "federates") d ≡ Some (list_value (federate_value p.groups) p.federates)

-- what the walk reads there is the federation
abbrev pub ComesBack : Type 0
ComesBack = (p : Parts) (d : Data) → IsFederation p → HasWords p → SaysFederation p d → walk d ≡ Ok p

-- so the value that is written for a federation is read as that federation
abbrev pub FederationsComeBack : Type 0
FederationsComeBack = (p : Parts) → IsFederation p → HasWords p → walk (federation_value p) ≡ Ok p

-- so is an operand, at whatever key it stands
abbrev pub OperandsComeBack : Type 0
OperandsComeBack = (key : List ℕ) (vars : List Var) (d : Data) (o : Operand) → get key d ≡ Some (operand_value vars o) → AreVars vars → IsOperand (length vars) o → IsWordOperand o → operand_of key vars d ≡ Ok o

-- a condition
abbrev pub CondsComeBack : Type 0
CondsComeBack = (vars : List Var) (c : Cond) → AreVars vars → IsCond (length vars) c → IsWordCond c → cond_of vars (cond_value vars c) ≡ Ok c

-- and an action, beside groups of which no two have the same name
abbrev pub ActionsComeBack : Type 0
ActionsComeBack = (groups : List Group) (vars : List Var) (lookahead : Option ℕ) (a : Action) → AllPairs (λ a b. group_name a ≢ group_name b) groups → AreVars vars → IsAction (length groups) (length vars) lookahead a → IsWordAction a
    → action_of (map group_name groups) vars lookahead (action_value groups vars a) ≡ Ok a
