-- How many subscriptions a group has.
use Rattle.std.proofs.Common.{◌≡◌, ℕ, inl, inr, ◌<◌, ◌≤◌, false, nat_eq, arith, refl, List, [], ◌∷◌, count_by}
use Rattle.std.specs.List.{All, AllByRecursion}
use Rattle.std.proofs.lemmas.Bool.{cases_lt, ne_eqb}
use Rattle.std.proofs.lemmas.List.Elements.{recursion_from_All}
use Rattle.kit_regions.specs.declared.region.Subscription.{Subscription}
use Rattle.kit_regions.specs.Limits.{IsSubscription}

-- none is to a group that is not there
none_counts : (groups federates g : ℕ) (subs : List Subscription) → AllByRecursion (IsSubscription groups federates) subs → groups ≤ g → count_by (λ (s : Subscription). nat_eq s.group g) subs ≡ 0
none_counts groups federates g [] h le = refl
none_counts groups federates g (s ∷ ss) h le =
    let there : s.group < groups = h.0.group in
    let apart : nat_eq s.group g ≡ false = ne_eqb s.group g (λ e. omega arith) in
    rw apart (none_counts groups federates g ss h.1 le)

-- where each group that is there has few, each number has
pub few_each : (groups federates most : ℕ) (subs : List Subscription) → All (IsSubscription groups federates) subs
    → ((g : ℕ) → g < groups → count_by (λ (s : Subscription). nat_eq s.group g) subs ≤ most) → (g : ℕ) → count_by (λ (s : Subscription). nat_eq s.group g) subs ≤ most
few_each groups federates most subs h few g = elim (cases_lt g groups) [
  | inl lt ↦ few g lt
  | inr ge ↦ (let none : count_by (λ (s : Subscription). nat_eq s.group g) subs ≡ 0 = none_counts groups federates g subs (recursion_from_All (IsSubscription groups federates) subs h) ge in omega arith)
]
