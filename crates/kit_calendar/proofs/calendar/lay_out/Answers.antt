use Rattle.std.proofs.Common.{◌≡◌, ◌+◌, length, arith, refl, sym, ◌∙◌, subst}
use Rattle.kit_calendar.specs.Held.{held, waiting}
use Rattle.kit_calendar.specs.Buckets.{IsDealt, IsArranged}
use Rattle.kit_calendar.proofs.Laying.{none_laid, next_laid}
use Rattle.kit_calendar.proofs.calendar.lay_out.Goals as goal

pub loop-entry-init : goal.loop-entry-init
loop-entry-init c = record {
  laid = none_laid c.args.width (length (held c.args.rows.now)) c.args.entries.now.items (waiting c.args.rows.now) c.requires.none;
  dealt = c.requires.dealt;
  rows = refl;
  most = refl;
  count = omega arith;
}

pub put-requires-clause-dealt : goal.put-requires-clause-dealt
put-requires-clause-dealt c = subst (λ n. IsDealt c.args.width n 0 (held c.loop-entry.rows)) (sym c.loop-entry.invariant.rows) c.loop-entry.invariant.dealt

pub put-requires-clause-arranged : goal.put-requires-clause-arranged
put-requires-clause-arranged c = subst (λ n. IsArranged c.args.width n (waiting c.loop-entry.rows)) (sym c.loop-entry.invariant.rows) c.loop-entry.invariant.laid.arranged

pub loop-entry-preserved : goal.loop-entry-preserved
loop-entry-preserved c =
    let same = c.loop-entry.invariant.rows in
    let now = c.put.new.rows in
    let was = c.loop-entry.rows in
    let longer : length (waiting now) ≡ length (waiting was) + 1 = omega (arith, now.counted, was.counted, c.put.ensures.count) in
    record {
      laid = next_laid c.args.width (length (held c.args.rows.now)) (length (held was)) c.args.entries.now.items (waiting was) (waiting now) c.deref-entry-items.result.now c.loop-entry.entry-index _ same c.requires.apart c.deref-entry-items.ensures.value c.loop-entry-test.true c.loop-entry.invariant.laid c.put.ensures.waiting longer;
      dealt = subst (λ n. IsDealt c.args.width n 0 (held now)) same c.put.ensures.dealt;
      rows = c.put.ensures.rows ∙ same;
      most = c.put.ensures.most ∙ c.loop-entry.invariant.most;
      count = omega (arith, c.put.ensures.count, c.loop-entry.invariant.count);
    }
