use Rattle.std.proofs.Common.{◌<◌, ◌+◌, ℕ, length, sym, subst, ◌∙◌, rules}
use Rattle.std.specs.Prelude.{Option}
use Rattle.kit_report.specs.Merges.{time_at}
use Rattle.kit_report.proofs.Places.{time_at_is}
use Rattle.kit_report.proofs.Best.{IsBest, best_more, best_skips}
use Rattle.kit_report.proofs.merging.soonest.Goals.{in-Some, in_default}
use Rattle.kit_report.proofs.merging.soonest.Goals as goal

pub loop-at-preserved : goal.loop-at-preserved
loop-at-preserved c =
    let places = c.args.places.now in
    let at : ℕ = c.loop-at.at in
    let times : ℕ → Option ℕ = time_at places in
    let inside : at < length places = search rules in
    elim c.match-place.branch [
      | in-Some w ↦ subst (λ b. IsBest times (at + 1) b) (sym (w.best-is ∙ w.sooner-best.ensures)) (best_more times at c.loop-at.best w.in-Some.time c.loop-at.invariant (time_at_is places at _ inside ∙ w.in-Some.is))
      | in_default w ↦ subst (λ b. IsBest times (at + 1) b) (sym w.best-is) (best_skips times at c.loop-at.best c.loop-at.invariant (time_at_is places at _ inside ∙ w.in_default.is))
    ]
