use Rattle.kit_regions.specs.Limits.{most_subscriptions}
use Rattle.kit_regions.proofs.Crowds.{few_each}
use Rattle.kit_regions.proofs.limits.are_subscriptions.Goals as goal

pub returns-then-each_is_subscription : goal.returns-then-each_is_subscription
returns-then-each_is_subscription c =
    let each = c.each_is_subscription.ensures.0 c.if-each_is_subscription.true in (
      λ yes. record { each = each; few = few_each c.args.groups c.args.federates most_subscriptions c.args.subscriptions.now each (c.are_few.ensures.0 yes) },
      λ are. c.are_few.ensures.1 (λ g lt. are.few g),
    )
