-- Lists in which each stands so to those behind it, place after place.
use Rattle.std.proofs.Common.{◌≡◌, ◌⊎◌, ℕ, true, inl, inr, ◌+◌, ◌-◌, ◌<◌, ◌≤◌, List, length, get_or, arith, refl, subst, ap}
use Rattle.std.specs.Bool.{IsTrue}
use Rattle.std.proofs.lemmas.Bool.{cases_lt}
use Rattle.std.proofs.lemmas.List.{get_or_default}
use Rattle.std.specs.Ordering.{is_lt}
use Rattle.std.specs.declared.cmp.Ordering.{Ordering}
use Rattle.std.specs.declared.cmp.Ordering.TheVariants.{Less, Equal, Greater}
use Rattle.kit_base.specs.declared.message.Message.{Message}
use Rattle.kit_base.specs.Order.{is_before, key_cmp}
use Rattle.kit_base.proofs.Orders.{key_total}

-- where the place before stands so to this one, all before it do
pub next_rises : {X : Type 0} (R : X → X → Type 0) → ((a b c : X) → R a b → R b c → R a c) → (xs : List X) (k : ℕ) (z : X) → 1 ≤ k → k < length xs
    → ((i j : ℕ) (d : X) → i < j → j < k → R (get_or xs i d) (get_or xs j d)) → R (get_or xs (k - 1) z) (get_or xs k z) → (i j : ℕ) (d : X) → i < j → j < k + 1 → R (get_or xs i d) (get_or xs j d)
next_rises {X} R trans xs k z one len inv step i j d lt below =
    elim (cases_lt j k) [
      | inl early ↦ inv i j d lt early
      | inr ge ↦ (let is : k ≡ j = omega arith in
          let P : ℕ → Type 0 = λ n. R (get_or xs i d) (get_or xs n d) in
          let Q : X → Type 0 = λ x. R x (get_or xs k d) in
          let S : X → Type 0 = λ y. R (get_or xs i z) y in
          subst P is (subst Q (get_or_default xs i z d (omega arith)) (subst S (get_or_default xs k z d len) (here (cases_lt i (k - 1)) is))))
    ]
  where
    here : (i < k - 1) ⊎ (k - 1 ≤ i) → k ≡ j → R (get_or xs i z) (get_or xs k z)
    here (inl far) is = trans _ _ _ (inv i (k - 1) z far (omega arith)) step
    here (inr near) is = (let T : ℕ → Type 0 = λ n. R (get_or xs n z) (get_or xs k z) in subst T (let e : k - 1 ≡ i = omega arith in e) step)

is_less : (o : Ordering) → is_lt o ≡ true → o ≡ Less
is_less Less h = refl
is_less Equal h = absurd (cc)
is_less Greater h = absurd (cc)

-- the order of messages goes on
pub before_goes_on : (a b c : Message) → IsTrue (is_before a b) → IsTrue (is_before b c) → IsTrue (is_before a c)
before_goes_on a b c h g = ap is_lt (key_total.trans a b c (is_less (key_cmp a b) h) (is_less (key_cmp b c) g))
