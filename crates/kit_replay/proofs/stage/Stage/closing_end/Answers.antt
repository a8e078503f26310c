use Rattle.std.proofs.Common.{◌≡◌, ℕ, ◌<◌, List, length, get_or, refl, sym, ap, ◌∙◌, below_more}
use Rattle.std.proofs.lemmas.Bool.{false≢true}
use mathlib.Core.Option.{some}
use lib.ListN.{get_elem?}
use Rattle.kit_ground.proofs.Lists.{at_or}
use Rattle.kit_replay.specs.Stages.{QueueNode}
use Rattle.kit_replay.proofs.stage.Stage.closing_end.Goals as goal

found : (l k : List QueueNode) (i : ℕ) (n : QueueNode) → k ≡ l → i < length k → n ≡ get_or k i n → get_elem? l i ≡ some n
found l k i n same lt is = ap (λ (x : List QueueNode). get_elem? x i) (sym same) ∙ (at_or k i n lt ∙ ap some (sym is))

pub returns-then-not-is_finished : goal.returns-then-not-is_finished
returns-then-not-is_finished c = record {
  node = c.node-item.result;
  there = found c.args.self.now.nodes.items c.deref-node-items.result.now c.loop-federate.federate c.node-item.result c.deref-node-items.ensures.value c.loop-federate-test.true c.node-item.is;
  goes_on = λ e. false≢true (c.if-not-is_finished.ensures.1 e);
  least = c.loop-federate.invariant;
}

pub loop-federate-preserved : goal.loop-federate-preserved
loop-federate-preserved c = below_more _ _ c.loop-federate.invariant (record {
  node = c.node-item.result;
  there = found c.args.self.now.nodes.items c.deref-node-items.result.now c.loop-federate.federate c.node-item.result c.deref-node-items.ensures.value c.loop-federate-test.true c.node-item.is;
  end_is = c.if-not-is_finished.ensures.0 refl;
})
