-- each group so far has few
use Rattle.std.proofs.Common.{ℕ, ◌<◌, ◌≤◌, nat_eq, count_by}
use Rattle.kit_regions.specs.declared.region.Subscription.{Subscription}
use Rattle.kit_regions.specs.Limits.{most_subscriptions}
use Rattle.kit_regions.proofs.limits.are_few.Given as goal

abbrev pub invariant-loop-group : goal.invariant-loop-group
invariant-loop-group l = (g : ℕ) → g < l.group → count_by (λ (s : Subscription). nat_eq s.group g) l.subscriptions ≤ most_subscriptions
