-- What is wrong with parts that make no federation: the first thing, with what is tested before it and holds.
use Rattle.std.specs.Prelude.{◌≢◌, ℕ, ◌<◌, ◌≤◌, ◌^◌, List, length, take, slice_get, Option, IsSome, IfSome, IsSomeAnd, All, AllPairs}
use Rattle.kit_rules.specs.declared.table.Action.{Action}
use Rattle.kit_rules.specs.declared.table.Action.TheVariants as action
use Rattle.kit_rules.specs.declared.table.Rule.{Rule}
use Rattle.kit_rules.specs.declared.table.Var.{Var}
use Rattle.kit_rules.specs.declared.table.Group.{Group}
use Rattle.kit_rules.specs.declared.table.Federate.{Federate}
use Rattle.kit_rules.specs.declared.faults.NameFault.{NameFault}
use Rattle.kit_rules.specs.declared.faults.NameFault.TheVariants as name
use Rattle.kit_rules.specs.declared.faults.ActionFault.{ActionFault}
use Rattle.kit_rules.specs.declared.faults.ActionFault.TheVariants as wrong
use Rattle.kit_rules.specs.declared.faults.RuleFault.{RuleFault}
use Rattle.kit_rules.specs.declared.faults.RuleFault.TheVariants as rule
use Rattle.kit_rules.specs.declared.faults.FederateFault.{FederateFault}
use Rattle.kit_rules.specs.declared.faults.FederateFault.TheVariants as federate
use Rattle.kit_rules.specs.declared.faults.GroupFault.{GroupFault}
use Rattle.kit_rules.specs.declared.faults.GroupFault.TheVariants as group
use Rattle.kit_rules.specs.declared.faults.FederationFault.{FederationFault}
use Rattle.kit_rules.specs.declared.faults.FederationFault.TheVariants as fault
use Rattle.kit_rules.specs.Parts.{Parts}
use Rattle.kit_rules.specs.Limits.{most_time, most_buffers, most_federates, most_groups, most_vars, most_rules, most_conds, most_actions}
use Rattle.kit_rules.specs.Names.{IsName}
use Rattle.kit_rules.specs.Federation.{IsStep, IsWish, IsOperand, IsTrigger, IsCond, IsAction, IsRule, AreVars, IsFederate, IsGroup, AreGroups}

-- there is a k-th, and this holds of it
abbrev pub At : {X : Type 0} → List X → ℕ → (X → Type 0) → Type 0
At xs k P = IsSomeAnd (slice_get xs k) P

-- P of all before the k-th, and not of that
pub record IsFirstNot {X : Type 0} (P : X → Type 0) (xs : List X) (k : ℕ) : Type 0 where
  pub before : All P (take k xs)
  pub fails : At xs k (λ x. ¬ P x)

-- what is wrong with a name behind these: it has not the form, or one of these has it
abbrev pub IsNameFault : {X : Type 0} → (X → List ℕ) → List X → List ℕ → NameFault → Type 0
IsNameFault name_of before s name.NoName = ¬ IsName s
IsNameFault name_of before s name.Repeated = IsName s × ¬ All (λ b. name_of b ≢ s) before

-- all have names, which differ
pub record AreNamed {X : Type 0} (name_of : X → List ℕ) (xs : List X) : Type 0 where
  pub names : All (λ x. IsName (name_of x)) xs
  pub differ : AllPairs (λ a b. name_of a ≢ name_of b) xs

-- the names before the k-th are right, and that is what is wrong with the k-th
pub record IsFirstMisnamed {X : Type 0} (name_of : X → List ℕ) (xs : List X) (k : ℕ) (what : NameFault) : Type 0 where
  pub before : AreNamed name_of (take k xs)
  pub here : At xs k (λ x. IsNameFault name_of (take k xs) (name_of x) what)

-- an action: whether its federate is regulating, its group, its delay, and last its variables; or its step
abbrev pub IsActionFault : ℕ → ℕ → Option ℕ → Action → ActionFault → Type 0
IsActionFault groups vars lookahead (action.Send g delay to keep) wrong.NotRegulating = ¬ IsSome lookahead
IsActionFault groups vars lookahead (action.Send g delay to keep) wrong.NoGroup = IsSome lookahead × ¬ g < groups
IsActionFault groups vars lookahead (action.Send g delay to keep) wrong.OutOfRange = IsSome lookahead × (g < groups) × ¬ delay ≤ most_time
IsActionFault groups vars lookahead (action.Send g delay to keep) wrong.SendTooSoon = IsSome lookahead × (g < groups) × (delay ≤ most_time) × ¬ IsSomeAnd lookahead (λ l. l ≤ delay)
IsActionFault groups vars lookahead (action.Send g delay to keep) wrong.NoVar = (g < groups) × (delay ≤ most_time) × IsSomeAnd lookahead (λ l. l ≤ delay) × ¬ (IsOperand vars to × IfSome keep (λ v. v < vars))
IsActionFault groups vars lookahead (action.Retract v) wrong.NotRegulating = ¬ IsSome lookahead
IsActionFault groups vars lookahead (action.Retract v) wrong.NoVar = IsSome lookahead × ¬ v < vars
IsActionFault groups vars lookahead (action.Tar step) wrong.OutOfRange = ¬ IsStep step
IsActionFault groups vars lookahead (action.Ner step) wrong.OutOfRange = ¬ IsStep step
IsActionFault groups vars lookahead (action.Set v to) wrong.NoVar = ¬ ((v < vars) × IsOperand vars to)
IsActionFault groups vars lookahead (action.Add v by) wrong.NoVar = ¬ ((v < vars) × IsOperand vars by)
IsActionFault groups vars lookahead (action.Sub v by) wrong.NoVar = ¬ ((v < vars) × IsOperand vars by)
IsActionFault groups vars lookahead a what = ⊥

-- the actions before the k-th are right, and that is what is wrong with the k-th
pub record IsFirstWrongAction (groups vars : ℕ) (lookahead : Option ℕ) (actions : List Action) (k : ℕ) (what : ActionFault) : Type 0 where
  pub before : All (IsAction groups vars lookahead) (take k actions)
  pub here : At actions k (λ a. IsActionFault groups vars lookahead a what)

-- a rule: its trigger, its conditions one by one, its actions one by one
abbrev pub IsRuleFault : ℕ → ℕ → Option ℕ → Rule → RuleFault → Type 0
IsRuleFault groups vars lookahead r rule.Trigger = ¬ IsTrigger groups r.on
IsRuleFault groups vars lookahead r rule.Conds = IsTrigger groups r.on × ¬ length r.conds ≤ most_conds
IsRuleFault groups vars lookahead r (rule.Cond k) = IsTrigger groups r.on × (length r.conds ≤ most_conds) × IsFirstNot (IsCond vars) r.conds k
IsRuleFault groups vars lookahead r rule.Actions = IsTrigger groups r.on × (length r.conds ≤ most_conds) × All (IsCond vars) r.conds × ¬ length r.actions ≤ most_actions
IsRuleFault groups vars lookahead r (rule.InAction k what) = IsTrigger groups r.on × (length r.conds ≤ most_conds) × All (IsCond vars) r.conds × (length r.actions ≤ most_actions) × IsFirstWrongAction groups vars lookahead r.actions k what

-- the rules before the k-th are right, and that is what is wrong with the k-th
pub record IsFirstWrongRule (groups vars : ℕ) (lookahead : Option ℕ) (rules : List Rule) (k : ℕ) (what : RuleFault) : Type 0 where
  pub before : All (IsRule groups vars lookahead) (take k rules)
  pub here : At rules k (λ r. IsRuleFault groups vars lookahead r what)

-- a federate but for its name: lookahead, wish, variables one by one, rules one by one
abbrev pub IsFederateFault : ℕ → Federate → FederateFault → Type 0
IsFederateFault groups f federate.Lookahead = ¬ IfSome f.lookahead IsStep
IsFederateFault groups f federate.Advance = IfSome f.lookahead IsStep × ¬ IsWish f.advance
IsFederateFault groups f federate.Vars = IfSome f.lookahead IsStep × IsWish f.advance × ¬ length f.vars ≤ most_vars
IsFederateFault groups f (federate.VarName k what) = IfSome f.lookahead IsStep × IsWish f.advance × (length f.vars ≤ most_vars) × IsFirstMisnamed (λ (v : Var). v.name) f.vars k what
IsFederateFault groups f federate.Rules = IfSome f.lookahead IsStep × IsWish f.advance × AreVars f.vars × ¬ length f.rules ≤ most_rules
IsFederateFault groups f (federate.InRule k what) = IfSome f.lookahead IsStep × IsWish f.advance × AreVars f.vars × (length f.rules ≤ most_rules) × IsFirstWrongRule groups (length f.vars) f.lookahead f.rules k what

-- the federates before the k-th are right, and that is what is wrong with the k-th
pub record IsFirstWrongFederate (groups : ℕ) (federates : List Federate) (k : ℕ) (what : FederateFault) : Type 0 where
  pub before : All (IsFederate groups) (take k federates)
  pub here : At federates k (λ f. IsFederateFault groups f what)

-- a group of so many federates behind these groups: its name, its members
abbrev pub IsGroupFault : ℕ → List Group → Group → GroupFault → Type 0
IsGroupFault federates before g (group.Name what) = IsNameFault (λ (b : Group). b.name) before g.name what
IsGroupFault federates before g group.Members = IsName g.name × All (λ (b : Group). b.name ≢ g.name) before × ¬ g.members < 2 ^ federates

-- the groups before the k-th are right, and that is what is wrong with the k-th
pub record IsFirstWrongGroup (federates : ℕ) (groups : List Group) (k : ℕ) (what : GroupFault) : Type 0 where
  pub before : All (IsGroup federates) (take k groups)
  pub differ : AllPairs (λ (a b : Group). a.name ≢ b.name) (take k groups)
  pub here : At groups k (λ g. IsGroupFault federates (take k groups) g what)

-- end time, buffers and the number of federates are within their limits
pub record AreHeadsRight (p : Parts) : Type 0 where
  pub end : IsStep p.end
  pub buffers : (1 ≤ p.buffers) × (p.buffers ≤ most_buffers)
  pub federates : (1 ≤ length p.federates) × (length p.federates ≤ most_federates)

-- and the federates have names, which differ
pub record AreFederatesNamed (p : Parts) : Type 0 where
  pub heads : AreHeadsRight p
  pub names : AreNamed (λ (f : Federate). f.name) p.federates

-- the first thing that is wrong: end time, buffers, number of federates, their names, the groups one by one, and the
-- federates one by one
abbrev pub IsFirstFault : Parts → FederationFault → Type 0
IsFirstFault p fault.End = ¬ IsStep p.end
IsFirstFault p fault.Buffers = IsStep p.end × ¬ ((1 ≤ p.buffers) × (p.buffers ≤ most_buffers))
IsFirstFault p fault.Federates = IsStep p.end × ((1 ≤ p.buffers) × (p.buffers ≤ most_buffers)) × ¬ ((1 ≤ length p.federates) × (length p.federates ≤ most_federates))
IsFirstFault p (fault.FederateName k what) = AreHeadsRight p × IsFirstMisnamed (λ (f : Federate). f.name) p.federates k what
IsFirstFault p fault.Groups = AreFederatesNamed p × ¬ length p.groups ≤ most_groups
IsFirstFault p (fault.InGroup k what) = AreFederatesNamed p × (length p.groups ≤ most_groups) × IsFirstWrongGroup (length p.federates) p.groups k what
IsFirstFault p (fault.InFederate k what) = AreFederatesNamed p × AreGroups (length p.federates) p.groups × IsFirstWrongFederate (length p.groups) p.federates k what
