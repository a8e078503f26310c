-- Groups with the subscriptions to them: none, and one more.
use Rattle.std.proofs.Common.{◌≡◌, ℕ, ◌+◌, ◌<◌, ◌≤◌, inl, inr, false, nat_eq, cond, arith, refl, sym, subst, List, [], ◌∷◌, ◌++◌, length, count_by, length-append}
use Rattle.std.specs.List.{All, AllByRecursion}
use Rattle.std.proofs.lemmas.Bool.{cases_lt, ne_eqb}
use Rattle.std.proofs.lemmas.List.Elements.{recursion_from_All, All-append}
use Rattle.std.proofs.lemmas.List.Sums.{count_by-le-length, sum_by-append}
use Rattle.kit_regions.specs.declared.region.Subscription.{Subscription}
use Rattle.kit_regions.specs.Limits.{IsSubscription, most_subscriptions}
use Rattle.kit_file.specs.declared.subscribers.Subscribed.{Subscribed}
use Rattle.kit_file.specs.Names.{itself}
use Rattle.kit_file.specs.Subscribers.{none_subscribed}
use Rattle.kit_file.specs.SoFar.{IsNewName, IsSubscriptionTo, AreSubscribed}
use Rattle.kit_file.proofs.Pushes.{no_names, one_more_name}

-- how many subscriptions are to a group
abbrev count_to : ℕ → List Subscription → ℕ
count_to g subs = count_by (λ (s : Subscription). nat_eq s.group g) subs

-- among those to groups below n none is to a later one
none_later : (n federates g : ℕ) (subs : List Subscription) → AllByRecursion (IsSubscription n federates) subs → n ≤ g → count_to g subs ≡ 0
none_later n federates g [] h le = refl
none_later n federates g (s ∷ ss) h le =
    let there : s.group < n = h.0.group in
    let apart : nat_eq s.group g ≡ false = ne_eqb s.group g (λ e. omega arith) in
    rw apart (none_later n federates g ss h.1 le)

-- and among those to group n none is to an earlier one
none_earlier : (n federates g : ℕ) (subs : List Subscription) → AllByRecursion (IsSubscriptionTo n federates) subs → g < n → count_to g subs ≡ 0
none_earlier n federates g [] h lt = refl
none_earlier n federates g (s ∷ ss) h lt =
    let is : s.group ≡ n = h.0.to in
    let apart : nat_eq s.group g ≡ false = ne_eqb s.group g (λ e. omega arith) in
    rw apart (none_earlier n federates g ss h.1 lt)

-- so each group has few
few_to : (n federates g : ℕ) (old more : List Subscription) → All (IsSubscription n federates) old → All (IsSubscriptionTo n federates) more
    → count_to g old ≤ most_subscriptions → length more ≤ most_subscriptions → count_to g (old ++ more) ≤ most_subscriptions
few_to n federates g old more are to few short =
    let both : count_to g (old ++ more) ≡ count_to g old + count_to g more = sum_by-append (λ (s : Subscription). cond (nat_eq s.group g) 1 0) old more in
    elim (cases_lt g n) [
      | inl lt ↦ (let none : count_to g more ≡ 0 = none_earlier n federates g more (recursion_from_All (IsSubscriptionTo n federates) more to) lt in omega arith)
      | inr ge ↦ (let none : count_to g old ≡ 0 = none_later n federates g old (recursion_from_All (IsSubscription n federates) old are) ge in
          let all : count_to g more ≤ length more = count_by-le-length (λ (s : Subscription). nat_eq s.group g) more in omega arith)
    ]

-- each is to a group that is there
one_is : (n m federates : ℕ) (s : Subscription) → n < m → IsSubscription n federates s → IsSubscription m federates s
one_is n m federates s lt is = record { group = omega (arith, is.group, lt); federate = is.federate; range = is.range }

one_to : (n m federates : ℕ) (s : Subscription) → n < m → IsSubscriptionTo n federates s → IsSubscription m federates s
one_to n m federates s lt is = record { group = omega (arith, is.to, lt); federate = is.federate; range = is.range }

-- no groups
pub no_groups : (federates : ℕ) → AreSubscribed federates none_subscribed
no_groups federates = record {
  names = no_names itself;
  subscriptions = record { each = λ i d h. absurd (omega (arith, h)); few = λ g. omega arith };
}

-- one more group, with a new name and the subscriptions to it
pub one_more_group : (federates n : ℕ) (old : Subscribed) (name : List ℕ) (more : List Subscription) → n ≡ length old.groups → AreSubscribed federates old → IsNewName itself old.groups name
    → length more ≤ most_subscriptions → All (IsSubscriptionTo n federates) more → AreSubscribed federates (record { groups = old.groups ++ name ∷ []; subscriptions = old.subscriptions ++ more })
one_more_group federates n old name more count are new short to =
    let m = length (old.groups ++ name ∷ []) in
    let lt : n < m = omega (arith, count, length-append old.groups (name ∷ [])) in
    let each : All (IsSubscription n federates) old.subscriptions = subst (λ k. All (IsSubscription k federates) old.subscriptions) (sym count) are.subscriptions.each in
    record {
      names = one_more_name itself old.groups name are.names new;
      subscriptions = record {
        each = All-append (IsSubscription m federates) old.subscriptions more (λ i d h. one_is n m federates _ lt (each i d h)) (λ i d h. one_to n m federates _ lt (to i d h));
        few = λ g. few_to n federates g old.subscriptions more each to (are.subscriptions.few g) short;
      };
    }
