use Rattle.std.proofs.Common.{◌≡◌, ◌+◌, ◌<◌, length, arith, sym, ap, ◌∙◌, subst}
use Rattle.kit_calendar.specs.Rows.{joined, offset, list_at}
use Rattle.kit_calendar.specs.Held.{held, waiting}
use Rattle.kit_calendar.specs.Least.{IsBestOf}
use Rattle.kit_calendar.specs.Spots.{is_sought, placed, IsThere}
use Rattle.kit_calendar.proofs.Spotted.{spot_compared, spot_skipped, there_lesser, offset_more, same_at}
use Rattle.kit_calendar.proofs.calendar.best_of_row.Goals as goal
use Rattle.kit_calendar.proofs.calendar.best_of_row.Goals.{then-is_sought, else-is_sought}

pub loop-at-init : goal.loop-at-init
loop-at-init c =
    let none_more : offset (held c.args.rows.now) c.args.row ≡ offset (held c.args.rows.now) c.args.row + 0 = omega arith in
    record {
      best = subst (λ n. IsBestOf (is_sought c.args.sought) (waiting c.args.rows.now) n (placed (held c.args.rows.now) c.args.so_far)) none_more c.requires.best;
      there = c.requires.there;
    }

pub loop-at-preserved : goal.loop-at-preserved
loop-at-preserved c =
    let ls = held c.args.rows.now in
    let p = is_sought c.args.sought in
    let m : c.loop-at.at < length (list_at ls c.args.row) = subst (λ es. c.loop-at.at < length es) c.row-entries.ensures c.loop-at-test.true in
    elim c.if-is_sought.branch [
      | then-is_sought w ↦ let tested = sym c.is_sought.ensures ∙ w.if-is_sought.true in record {
        best = subst (λ b. IsBestOf p (joined ls) (offset ls c.args.row + (c.loop-at.at + 1)) (placed ls b)) (sym (w.best-is ∙ w.lesser-best.ensures)) (spot_compared p ls c.args.row c.loop-at.at _ c.loop-at.best c.requires.row m (same_at c.row-entries.result.now (list_at ls c.args.row) c.loop-at.at _ c.row-entries.ensures c.loop-at-test.true) tested c.loop-at.invariant.best);
        there = subst (IsThere ls) (sym (w.best-is ∙ w.lesser-best.ensures)) (there_lesser ls c.loop-at.best _ c.requires.row m c.loop-at.invariant.there);
      }
      | else-is_sought w ↦ let tested = sym c.is_sought.ensures ∙ w.if-is_sought.false in record {
        best = subst (λ b. IsBestOf p (joined ls) (offset ls c.args.row + (c.loop-at.at + 1)) (placed ls b)) (sym w.best-is) (spot_skipped p ls c.args.row c.loop-at.at _ c.loop-at.best c.requires.row m (same_at c.row-entries.result.now (list_at ls c.args.row) c.loop-at.at _ c.row-entries.ensures c.loop-at-test.true) tested c.loop-at.invariant.best);
        there = subst (IsThere ls) (sym w.best-is) c.loop-at.invariant.there;
      }
    ]

pub returns-clause-best : goal.returns-clause-best
returns-clause-best c =
    let ls = held c.args.rows.now in
    let all : offset ls c.args.row + c.loop-at.at ≡ offset ls (c.args.row + 1) = omega (arith, offset_more ls c.args.row c.requires.row, ap length c.row-entries.ensures) in
    subst (λ n. IsBestOf (is_sought c.args.sought) (joined ls) n (placed ls c.loop-at.best)) all c.loop-at.invariant.best
