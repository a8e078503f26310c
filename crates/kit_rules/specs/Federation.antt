-- When the parts make a federation.
use Rattle.std.specs.Prelude.{◌≢◌, ℕ, ◌<◌, ◌≤◌, ◌^◌, List, length, Option, IsSome, IfSome, IsSomeAnd, All, AllPairs}
use Rattle.kit_rules.specs.declared.table.Wish.{Wish}
use Rattle.kit_rules.specs.declared.table.Wish.TheVariants as wish
use Rattle.kit_rules.specs.declared.table.Operand.{Operand}
use Rattle.kit_rules.specs.declared.table.Operand.TheVariants as operand
use Rattle.kit_rules.specs.declared.table.Cond.{Cond}
use Rattle.kit_rules.specs.declared.table.Trigger.{Trigger}
use Rattle.kit_rules.specs.declared.table.Trigger.TheVariants as trigger
use Rattle.kit_rules.specs.declared.table.Action.{Action}
use Rattle.kit_rules.specs.declared.table.Action.TheVariants as action
use Rattle.kit_rules.specs.declared.table.Rule.{Rule}
use Rattle.kit_rules.specs.declared.table.Var.{Var}
use Rattle.kit_rules.specs.declared.table.Group.{Group}
use Rattle.kit_rules.specs.declared.table.Federate.{Federate}
use Rattle.kit_rules.specs.Parts.{Parts}
use Rattle.kit_rules.specs.Limits.{most_time, most_buffers, most_federates, most_groups, most_vars, most_rules, most_conds, most_actions}
use Rattle.kit_rules.specs.Names.{IsName}

-- a step in time, or a lookahead
abbrev pub IsStep : ℕ → Type 0
IsStep n = (1 ≤ n) × (n ≤ most_time)

-- a wish for such a step
abbrev pub IsWish : Wish → Type 0
IsWish (wish.Tar step) = IsStep step
IsWish (wish.Ner step) = IsStep step

-- a number, a variable of the federate, the time or the value
abbrev pub IsOperand : ℕ → Operand → Type 0
IsOperand vars (operand.Num n) = Unit {0}
IsOperand vars (operand.Var v) = v < vars
IsOperand vars operand.Now = Unit {0}
IsOperand vars operand.Value = Unit {0}

-- a trigger where there are so many groups
abbrev pub IsTrigger : ℕ → Trigger → Type 0
IsTrigger groups trigger.Start = Unit {0}
IsTrigger groups trigger.Grant = Unit {0}
IsTrigger groups (trigger.Got group) = group < groups

-- a condition of a federate with so many variables
abbrev pub IsCond : ℕ → Cond → Type 0
IsCond vars c = IsOperand vars c.left × IsOperand vars c.right

-- an action of a federate with so many variables and this lookahead, where there are so many groups; without lookahead, which is that it is not regulating, it sends nothing and takes nothing back
abbrev pub IsAction : ℕ → ℕ → Option ℕ → Action → Type 0
IsAction groups vars lookahead (action.Set v to) = (v < vars) × IsOperand vars to
IsAction groups vars lookahead (action.Add v by) = (v < vars) × IsOperand vars by
IsAction groups vars lookahead (action.Sub v by) = (v < vars) × IsOperand vars by
IsAction groups vars lookahead (action.Send group delay value keep) = (group < groups) × IsSomeAnd lookahead (λ l. l ≤ delay) × (delay ≤ most_time) × IsOperand vars value × IfSome keep (λ v. v < vars)
IsAction groups vars lookahead (action.Retract v) = IsSome lookahead × (v < vars)
IsAction groups vars lookahead (action.Tar step) = IsStep step
IsAction groups vars lookahead (action.Ner step) = IsStep step

-- a rule of a federate with so many variables and this lookahead, where there are so many groups
pub record IsRule (groups vars : ℕ) (lookahead : Option ℕ) (r : Rule) : Type 0 where
  pub on : IsTrigger groups r.on
  pub few_conds : length r.conds ≤ most_conds
  pub conds : All (IsCond vars) r.conds
  pub few_actions : length r.actions ≤ most_actions
  pub actions : All (IsAction groups vars lookahead) r.actions

-- the variables of a federate
pub record AreVars (vars : List Var) : Type 0 where
  pub few : length vars ≤ most_vars
  pub names : All (λ (v : Var). IsName v.name) vars
  pub differ : AllPairs (λ (a b : Var). a.name ≢ b.name) vars

-- a federate, where there are so many groups
pub record IsFederate (groups : ℕ) (f : Federate) : Type 0 where
  pub name : IsName f.name
  pub lookahead : IfSome f.lookahead IsStep
  pub advance : IsWish f.advance
  pub vars : AreVars f.vars
  pub few_rules : length f.rules ≤ most_rules
  pub rules : All (IsRule groups (length f.vars) f.lookahead) f.rules

-- a group of so many federates
pub record IsGroup (federates : ℕ) (g : Group) : Type 0 where
  pub name : IsName g.name
  pub members : g.members < 2 ^ federates

-- the groups of so many federates
pub record AreGroups (federates : ℕ) (groups : List Group) : Type 0 where
  pub few : length groups ≤ most_groups
  pub each : All (IsGroup federates) groups
  pub differ : AllPairs (λ (a b : Group). a.name ≢ b.name) groups

-- the federates, where there are so many groups
pub record AreFederates (groups : ℕ) (federates : List Federate) : Type 0 where
  pub count : (1 ≤ length federates) × (length federates ≤ most_federates)
  pub each : All (IsFederate groups) federates
  pub differ : AllPairs (λ (a b : Federate). a.name ≢ b.name) federates

-- the parts of a federation
pub record IsFederation (p : Parts) : Type 0 where
  pub end : IsStep p.end
  pub buffers : (1 ≤ p.buffers) × (p.buffers ≤ most_buffers)
  pub groups : AreGroups (length p.federates) p.groups
  pub federates : AreFederates (length p.groups) p.federates
