-- Lookaheads, effective and not.
use Rattle.std.proofs.Common.{ℕ, ◌+◌, ◌≤◌, length, arith, refl, inl, inr, sym, subst, Option, Some, None, IfSome}
use Rattle.std.specs.Prelude.{unwrap_or, IsSomeAnd}
use Rattle.std.proofs.lemmas.Bool.{cases_lt}
use Rattle.std.proofs.lemmas.List.{get_or_past}
use Rattle.kit_rules.specs.declared.table.Action.{Action}
use Rattle.kit_rules.specs.declared.table.Action.TheVariants as action
use Rattle.kit_rules.specs.declared.table.Rule.{Rule}
use Rattle.kit_rules.specs.declared.table.Federate.{Federate}
use Rattle.kit_rules.specs.Parts.{Parts, federate_at, nobody, effective_lookahead}
use Rattle.kit_rules.specs.Federation.{IsStep, IsAction, IsRule, IsFederation}

-- a delay that the lookahead allows is at least the effective one
delay_reaches : (o : Option ℕ) (n d : ℕ) → IsSomeAnd o (λ l. l ≤ d) → unwrap_or o n ≤ d
delay_reaches None n d h = absurd h
delay_reaches (Some l) n d h = h

-- an action that the lookahead allows is allowed by the effective one
action_effective : (groups vars n : ℕ) (o : Option ℕ) (a : Action) → IsAction groups vars o a → IsAction groups vars (Some (unwrap_or o n)) a
action_effective groups vars n o (action.Set v to) h = h
action_effective groups vars n o (action.Add v by) h = h
action_effective groups vars n o (action.Sub v by) h = h
action_effective groups vars n o (action.Send g d x k) h = (h.0, delay_reaches o n d h.1, h.2, h.3, h.4)
action_effective groups vars n o (action.Retract v) h = (refl, h.1)
action_effective groups vars n o (action.Tar step) h = h
action_effective groups vars n o (action.Ner step) h = h

-- and so is a rule
pub rule_effective : (groups vars n : ℕ) (o : Option ℕ) (r : Rule) → IsRule groups vars o r → IsRule groups vars (Some (unwrap_or o n)) r
rule_effective groups vars n o r h = record {
  on = h.on;
  few_conds = h.few_conds;
  conds = h.conds;
  few_actions = h.few_actions;
  actions = λ k d lt. action_effective groups vars n o _ (h.actions k d lt);
}

-- a lookahead, or what is past the end
at_least_one : (o : Option ℕ) (end : ℕ) → IfSome o IsStep → 1 ≤ unwrap_or o (end + 1)
at_least_one None end h = omega arith
at_least_one (Some l) end h = h.0

-- an effective lookahead is at least 1, also past the last federate
pub lookahead_is_positive : (p : Parts) (i : ℕ) → IsFederation p → 1 ≤ effective_lookahead p i
unfolding effective_lookahead
lookahead_is_positive p i h =
    elim (cases_lt i (length p.federates)) [
      | inl lt ↦ at_least_one (federate_at p i).lookahead p.end (h.federates.each i nobody lt).lookahead
      | inr le ↦ (let P : Federate → Type 0 = λ f. 1 ≤ unwrap_or f.lookahead (p.end + 1) in
          let one : P nobody = omega arith in
          subst P (sym (get_or_past p.federates i nobody le)) one)
    ]
