-- What is found among the results of a `filter_map`.
use Rattle.std.proofs.Common.{◌≡◌, zero, suc, List, [], ◌∷◌, Option, Some, None, refl, sym, ap, ◌∙◌, subst, arith}
use Rattle.std.specs.List.{Contains, cons_option, filter_map}

module _ {X Y : Type 0} (h : X → Option Y) where
  behind : (y : Y) (o : Option Y) (ys : List Y) → Contains ys y → Contains (cons_option o ys) y
  behind y None ys c = c
  behind y (Some w) ys c = (suc c.0, let lt = c.1 in omega arith, c.2)

  pub found_into : (xs : List X) (x : X) (y : Y) → h x ≡ Some y → Contains xs x → Contains (filter_map h xs) y
  found_into [] x y is c = absurd (let lt = c.1 in omega arith)
  found_into (z ∷ zs) x y is (zero, lt, at) =
      let e : h z ≡ Some y = ap h at ∙ is in
      subst (λ (o : Option Y). Contains (cons_option o (filter_map h zs)) y) (sym e) (0, omega arith, refl)
  found_into (z ∷ zs) x y is (suc k, lt, at) = behind y (h z) (filter_map h zs) (found_into zs x y is (k, omega arith, at))

  abbrev FoundIn : List X → Y → Type 0
  FoundIn xs y = (x : X) × Contains xs x × (h x ≡ Some y)

  further : (z : X) (zs : List X) (y : Y) → FoundIn zs y → FoundIn (z ∷ zs) y
  further z zs y r = (r.0, (suc r.1.0, let lt = r.1.1 in omega arith, r.1.2), r.2)

  here_or_further : (z : X) (zs : List X) (y : Y) → (Contains (filter_map h zs) y → FoundIn zs y) → (o : Option Y) → h z ≡ o → Contains (cons_option o (filter_map h zs)) y → FoundIn (z ∷ zs) y
  here_or_further z zs y on None e c = further z zs y (on c)
  here_or_further z zs y on (Some w) e (zero, lt, at) = (z, (0, omega arith, refl), e ∙ ap Some at)
  here_or_further z zs y on (Some w) e (suc k, lt, at) = further z zs y (on (k, omega arith, at))

  pub found_from : (xs : List X) (y : Y) → Contains (filter_map h xs) y → FoundIn xs y
  found_from [] y c = absurd (let lt = c.1 in omega arith)
  found_from (z ∷ zs) y c = here_or_further z zs y (λ d. found_from zs y d) (h z) refl c
