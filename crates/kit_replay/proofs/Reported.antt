-- The reports of nodes, one more at a time.
use Rattle.std.proofs.Common.{◌≡◌, ℕ, ◌<◌, ◌≤◌, cond, List, [], ◌∷◌, ◌++◌, length, Result, Ok, Err, sym, ◌∙◌, subst, arith, length-append}
use Rattle.std.specs.Result.{OnErr, is_ok}
use mathlib.Core.Option.{some, some-injective}
use lib.ListN.{get_elem?}
use Rattle.kit_ground.proofs.Lists.{at_inside}
use Rattle.kit_node.specs.declared.node.NodeReport.{NodeReport}
use Rattle.kit_node.specs.Nodes.{IsReported}
use Rattle.kit_replay.specs.Stages.{AreReported, QueueNode}
use Rattle.kit_replay.proofs.Lists.{at_push, at_push_first, at_push_last}

module _ (nodes : List QueueNode) (reports : List NodeReport) (n : QueueNode) (r : NodeReport) (h : AreReported nodes reports) (is : IsReported n r) where
  abbrev Tells : ℕ → QueueNode → Type 0
  Tells i m = (s : NodeReport) → get_elem? (reports ++ r ∷ []) i ≡ some s → IsReported m s

  before : (i : ℕ) (m : QueueNode) → get_elem? nodes i ≡ some m → Tells i m
  before i m at s ats = h.each i m s at (sym (at_push_first reports r i (let lt = at_inside nodes i m at in let e = h.many in omega arith)) ∙ ats)

  last : Tells (length nodes) n
  last s ats = subst (IsReported n) (some-injective _ _ (sym (at_push_last reports r (length nodes) (sym h.many)) ∙ ats)) is

  pub reported_more : AreReported (nodes ++ n ∷ []) (reports ++ r ∷ [])
  reported_more = record {
    many = let e = h.many in omega (arith, length-append nodes (n ∷ []), length-append reports (r ∷ []));
    each = λ i m s at ats. at_push Tells nodes n before last i m at s ats;
  }

-- what is pushed is there, where there is room
pub pushed : {A E X : Type 0} (r : Result A E) (new old more : List X) (most many : ℕ) → OnErr r (most ≤ many) → many < most → new ≡ cond (is_ok r) more old → new ≡ more
pushed (Ok a) new old more most many full lt is = is
pushed (Err e) new old more most many full lt is = absurd (omega arith)
