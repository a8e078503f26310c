use Rattle.std.proofs.Common.{◌≡◌, ◌<◌, ℕ, arith, get_or, IsTrue, below_more, refl}
use Rattle.kit_rules.proofs.Names.{fresh_from_pairs, pair_from_fresh}
use Rattle.kit_rules.proofs.limits.names_differ.Goals as goal

pub returns-then-not-is_fresh : goal.returns-then-not-is_fresh
returns-then-not-is_fresh g c = (
  λ no. absurd (cc),
  λ pairs.
      let t = c.is_fresh.ensures.1 (fresh_from_pairs g.T.Named.name_of c.args.items.now c.loop-i.i c.index-items-i.result _ (omega arith) c.index-items-i.is c.name.ensures pairs) in
      rw c.if-not-is_fresh.true at t,
)

pub loop-i-preserved : goal.loop-i-preserved
loop-i-preserved g c j k d lt below =
    let P : ℕ → Type 0 = λ k. (j : ℕ) (d : g.row.T.Denot) → j < k → g.T.Named.name_of (get_or c.args.items.now j d) ≡ g.T.Named.name_of (get_or c.args.items.now k d) → ⊥ in
    let t : IsTrue c.is_fresh.result = rw c.if-not-is_fresh.false refl in
    below_more P c.loop-i.i (λ k h j d l. c.loop-i.invariant j k d l h)
    (pair_from_fresh g.T.Named.name_of c.args.items.now c.loop-i.i c.index-items-i.result _ (omega arith) c.index-items-i.is c.name.ensures (c.is_fresh.ensures.0 t))
    k below j d lt
