-- When regions overlap, and who receives an update.
use Rattle.std.specs.Prelude.{ℕ, zero, suc, ◌+◌, ◌^◌, ◌==◌, nat_lt, Bool, ◌&&◌, not, if◌then◌else◌, List}
use Rattle.std.specs.List.{list_any}
use Rattle.kit_rules.specs.Limits.{most_federates}
use Rattle.kit_regions.specs.declared.region.Range.{Range}
use Rattle.kit_regions.specs.declared.region.Update.{Update}
use Rattle.kit_regions.specs.declared.region.Subscription.{Subscription}
use Rattle.kit_regions.specs.Plan.{Plan, update_at}

-- each one's first number is below the other's end
abbrev pub overlaps : Range → Range → Bool
overlaps a b = nat_lt a.from b.to && nat_lt b.from a.to

-- whether an update reaches a subscription: it is one to the update's group, and overlaps its range
abbrev pub is_near : Update → Subscription → Bool
is_near u s = s.group == u.group && overlaps s.range u.range

-- whether it is one of federate j
abbrev pub is_reached : Update → ℕ → Subscription → Bool
is_reached u j s = s.federate == j && is_near u s

-- whether federate j has such a subscription
abbrev pub is_subscribed : List Subscription → Update → ℕ → Bool
is_subscribed subscriptions u j = list_any (is_reached u j) subscriptions

-- whether federate j receives what the sender sends with an update: it is another federate, and has such a subscription
abbrev pub receives : Plan → ℕ → ℕ → ℕ → Bool
receives plan sender u j = not (j == sender) && is_subscribed plan.subscriptions (update_at plan u) j

-- the mask of the federates below n that pass a test: bit j stands for federate j
abbrev pub mask_where : (ℕ → Bool) → ℕ → ℕ
mask_where test zero = 0
mask_where test (suc n) = if test n then mask_where test n + 2 ^ n else mask_where test n

-- the mask of the federates that have a subscription to the update's group which overlaps its range
unfoldable pub mask_of : List Subscription → Update → ℕ
mask_of subscriptions u = mask_where (is_subscribed subscriptions u) most_federates
