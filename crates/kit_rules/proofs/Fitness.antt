-- What a federation keeps, as the rule step needs it.
use Rattle.std.proofs.Common.{ℕ, ◌+◌, ◌<◌, ◌≤◌, length, arith, Option, Some, None, IfSome}
use Rattle.std.specs.List.{All}
use Rattle.kit_rules.specs.declared.table.Operand.{Operand}
use Rattle.kit_rules.specs.declared.table.Operand.TheVariants as operand
use Rattle.kit_rules.specs.declared.table.Action.{Action}
use Rattle.kit_rules.specs.declared.table.Action.TheVariants as action
use Rattle.kit_rules.specs.declared.table.Rule.{Rule}
use Rattle.kit_rules.specs.Parts.{Parts, federate_at, nobody, effective_lookahead}
use Rattle.kit_rules.specs.Federation.{IsOperand, IsAction, IsRule, IsFederation}
use Rattle.kit_rules.specs.Step.{CanRun}
use Rattle.kit_rules.proofs.Lookaheads.{rule_effective}

-- an operand that fits few variables fits more
operand_below : (m n : ℕ) (o : Operand) → m ≤ n → IsOperand m o → IsOperand n o
operand_below m n (operand.Num x) le h = tt
operand_below m n (operand.Var v) le h = omega arith
operand_below m n operand.Now le h = tt
operand_below m n operand.Value le h = tt

-- and so does a variable that is kept
kept_below : (m n : ℕ) (k : Option ℕ) → m ≤ n → IfSome k (λ v. v < m) → IfSome k (λ v. v < n)
kept_below m n None le h = h
kept_below m n (Some v) le h = let lt : v < m = h in let below : v < n = omega arith in below

-- and so does an action, which fits more groups too
action_below : (g m l : ℕ) (a : Action) → g ≤ 256 → m ≤ 8 → IsAction g m (Some l) a → IsAction 256 8 (Some l) a
action_below g m l (action.Set v to) few le h = (omega (arith, h.0), operand_below m 8 to le h.1)
action_below g m l (action.Add v by) few le h = (omega (arith, h.0), operand_below m 8 by le h.1)
action_below g m l (action.Sub v by) few le h = (omega (arith, h.0), operand_below m 8 by le h.1)
action_below g m l (action.Send group delay what keep) few le h = (omega (arith, h.0), h.1, h.2, operand_below m 8 what le h.3, kept_below m 8 keep le h.4)
action_below g m l (action.Retract v) few le h = (h.0, omega (arith, h.1))
action_below g m l (action.Tar step) few le h = h
action_below g m l (action.Ner step) few le h = h

-- and so does a rule
rule_below : (g m l : ℕ) (r : Rule) → g ≤ 256 → m ≤ 8 → IsRule g m (Some l) r → CanRun l r
rule_below g m l r few le h = record {
  conds = λ k d lt. (operand_below m 8 _ le (h.conds k d lt).0, operand_below m 8 _ le (h.conds k d lt).1);
  actions = λ k d lt. action_below g m l _ few le (h.actions k d lt);
}

-- the rules of a federation can run
pub rules_can_run : (p : Parts) (i : ℕ) → IsFederation p → i < length p.federates → All (CanRun (effective_lookahead p i)) (federate_at p i).rules
unfolding effective_lookahead
rules_can_run p i h lt k d below =
    let f = h.federates.each i nobody lt in
    rule_below (length p.groups) (length (federate_at p i).vars) (effective_lookahead p i) _ (omega (arith, h.groups.few)) (omega (arith, f.vars.few))
    (rule_effective (length p.groups) (length (federate_at p i).vars) (p.end + 1) (federate_at p i).lookahead _ (f.rules k d below))
