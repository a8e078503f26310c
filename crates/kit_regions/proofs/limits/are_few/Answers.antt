use Rattle.std.proofs.Common.{ℕ, ◌≤◌, nat_eq, count_by, arith, below_more, refl}
use Rattle.kit_regions.specs.declared.region.Subscription.{Subscription}
use Rattle.kit_regions.specs.Limits.{most_subscriptions}
use Rattle.kit_regions.proofs.limits.are_few.Goals as goal

pub returns-then-count_of_group-gt-MOST_SUBSCRIPTIONS : goal.returns-then-count_of_group-gt-MOST_SUBSCRIPTIONS
returns-then-count_of_group-gt-MOST_SUBSCRIPTIONS c = (
  λ no. absurd (cc),
  λ few.
      let most = few c.loop-group.group c.loop-group-test.true in
      absurd (omega (arith, most, c.count_of_group.ensures, c.if-count_of_group-gt-MOST_SUBSCRIPTIONS.true)),
)

pub loop-group-preserved : goal.loop-group-preserved
loop-group-preserved c g below =
    let P : ℕ → Type 0 = λ g. count_by (λ (s : Subscription). nat_eq s.group g) c.args.subscriptions.now ≤ most_subscriptions in
    let here : P c.loop-group.group = omega (arith, c.count_of_group.ensures, c.if-count_of_group-gt-MOST_SUBSCRIPTIONS.false) in
    below_more P c.loop-group.group c.loop-group.invariant here g below

pub returns : goal.returns
returns c = (
  λ yes g lt. c.loop-group.invariant g (omega (arith, lt, c.loop-group-test.false)),
  λ few. refl,
)
