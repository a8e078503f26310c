-- Lists in a strict order: two of the same elements are one. Messages put in order are such lists.
use Rattle.std.proofs.Common.{◌≡◌, ℕ, inl, inr, ◌⊎◌, ◌<◌, true, false, cond, List, [], ◌∷◌, fold, arith, refl, sym, ap, ◌∙◌, subst, Ordering}
use Rattle.std.specs.List.{AllByRecursion}
use Rattle.std.specs.Ordering.{nat_cmp, is_lt, ordering_then, ordering_reverse}
use Rattle.std.specs.declared.cmp.Ordering.TheVariants.{Less, Equal, Greater}
use Rattle.std.proofs.lemmas.Bool.{cases_order, lt-ltb, le-ltb, ne_eqb}
use Rattle.kit_base.specs.declared.message.Message.{Message}
use Rattle.kit_base.specs.Order.{key_cmp, is_before, put, in_order}
use Rattle.kit_base.proofs.Orders.{all_put, before_all, key_total}
use Rattle.kit_base.proofs.Filtering.{arranged}
use Rattle.kit_parts.proofs.Among.{Among, Distinct, each_of, for_each}

-- each comes before those behind it
abbrev pub Rises : {X : Type 0} → (X → X → Type 0) → List X → Type 0
Rises lt [] = Unit {0}
Rises lt (x ∷ xs) = AllByRecursion (lt x) xs × Rises lt xs

-- two such lists of the same elements are one
pub one_ordered : {X : Type 0} (lt : X → X → Type 0) (never : (a b : X) → lt a b → lt b a → ⊥) (xs ys : List X) → Rises lt xs → Rises lt ys
    → ((x : X) → Among x xs → Among x ys) → ((x : X) → Among x ys → Among x xs) → xs ≡ ys
one_ordered lt never [] [] a b to back = refl
one_ordered lt never [] (y ∷ ys) a b to back = elim (back y (inl refl)) [ ]
one_ordered lt never (x ∷ xs) [] a b to back = elim (to x (inl refl)) [ ]
one_ordered {X} lt never (x ∷ xs) (y ∷ ys) a b to back =
    let same : y ≡ x = elim (to x (inl refl)) [
      | inl e ↦ e
      | inr in_ys ↦ elim (back y (inl refl)) [
        | inl e ↦ sym e
        | inr in_xs ↦ absurd (never x y (each_of (lt x) y xs a.0 in_xs) (each_of (lt y) x ys b.0 in_ys))
      ]
    ] in
    let on : (z : X) → Among z xs → Among z ys = λ z h. elim (to z (inr h)) [
      | inl e ↦ absurd (let l : lt x z = each_of (lt x) z xs a.0 h in let q : z ≡ x = sym e ∙ same in let P : X → Type 0 = λ v. lt x v in let k : lt x x = subst P q l in never x x k k)
      | inr k ↦ k
    ] in
    let off : (z : X) → Among z ys → Among z xs = λ z h. elim (back z (inr h)) [
      | inl e ↦ absurd (let l : lt y z = each_of (lt y) z ys b.0 h in let q : z ≡ y = sym e ∙ sym same in let P : X → Type 0 = λ v. lt y v in let k : lt y y = subst P q l in never y y k k)
      | inr k ↦ k
    ] in
    ap (λ v. v ∷ xs) (sym same) ∙ ap (λ vs. y ∷ vs) (one_ordered lt never xs ys a.1 b.1 on off)

-- a message before another, by their keys
abbrev pub Before : Message → Message → Type 0
Before a b = key_cmp a b ≡ Less

pub before_never : (a b : Message) → Before a b → Before b a → ⊥
before_never a b x y = let e : key_cmp a b ≡ ordering_reverse (key_cmp b a) = key_total.antisymm a b in let r : Less ≡ Greater = sym x ∙ e ∙ ap ordering_reverse y in cc

then_equal : (a b : Ordering) → ordering_then a b ≡ Equal → (a ≡ Equal) × (b ≡ Equal)
then_equal Less b e = absurd (cc)
then_equal Equal b e = (refl, e)
then_equal Greater b e = absurd (cc)

nat_equal : (a b : ℕ) → nat_cmp a b ≡ Equal → a ≡ b
nat_equal a b e =
    elim (cases_order a b) [
      | inl same ↦ same
      | inr other ↦ elim other [
        | inl lt ↦ absurd (let q : Less ≡ Equal = rw (lt-ltb a b lt) at e in cc)
        | inr gt ↦ absurd (let q : Greater ≡ Equal = rw (le-ltb a b (let g : b < a = gt in omega arith), ne_eqb a b (λ s. let g : b < a = gt in omega arith)) at e in cc)
      ]
    ]

-- messages of equal keys have the same sender and number
pub equal_keys : (a b : Message) → key_cmp a b ≡ Equal → (a.sender ≡ b.sender) × (a.number ≡ b.number)
equal_keys a b e =
    let t = then_equal (nat_cmp a.time b.time) (ordering_then (nat_cmp a.sender b.sender) (nat_cmp a.number b.number)) e in
    let s = then_equal (nat_cmp a.sender b.sender) (nat_cmp a.number b.number) t.1 in
    (nat_equal a.sender b.sender s.0, nat_equal a.number b.number s.1)

-- a message of a key of its own, put in its place
pub rises_put : (m : Message) (xs : List Message) → AllByRecursion (λ y. key_cmp m y ≡ Equal → ⊥) xs → Rises Before xs → Rises Before (put m xs)
rises_put m [] a s = (tt, tt)
rises_put m (x ∷ xs) a s =
    elim (key_cmp m x) as (λ o. key_cmp m x ≡ o → Rises Before (cond (is_lt o) (m ∷ x ∷ xs) (x ∷ put m xs))) [
      | Less ↦ λ e. ((e, before_all m x xs e s.0), s)
      | Equal ↦ λ e. absurd (a.0 e)
      | Greater ↦ λ e. (all_put (Before x) m xs (key_total.antisymm x m ∙ ap ordering_reverse e) s.0, rises_put m xs a.1 s.1)
    ] refl

-- what is put is there, and what was there stays
pub put_among : (x m : Message) (xs : List Message) → Among x (put m xs) → (m ≡ x) ⊎ Among x xs
put_among x m [] (inl e) = inl e
put_among x m [] (inr h) = elim h [ ]
put_among x m (y ∷ ys) h =
    elim (is_before m y) as (λ b. Among x (cond b (m ∷ y ∷ ys) (y ∷ put m ys)) → (m ≡ x) ⊎ Among x (y ∷ ys)) [
      | true ↦ λ a. a
      | false ↦ λ a. elim a [ inl e ↦ inr (inl e) | inr b ↦ elim (put_among x m ys b) [ inl e ↦ inl e | inr c ↦ inr (inr c) ] ]
    ] h

pub among_put_here : (m : Message) (xs : List Message) → Among m (put m xs)
among_put_here m [] = inl refl
among_put_here m (y ∷ ys) = elim (is_before m y) as (λ b. Among m (cond b (m ∷ y ∷ ys) (y ∷ put m ys))) [ true ↦ inl refl | false ↦ inr (among_put_here m ys) ]

pub among_put_there : (x m : Message) (xs : List Message) → Among x xs → Among x (put m xs)
among_put_there x m [] a = elim a [ ]
among_put_there x m (y ∷ ys) a =
    elim (is_before m y) as (λ b. Among x (cond b (m ∷ y ∷ ys) (y ∷ put m ys))) [
      | true ↦ inr a
      | false ↦ elim a [ inl e ↦ inl e | inr b ↦ inr (among_put_there x m ys b) ]
    ]

pub arranged_among : (x : Message) (acc xs : List Message) → Among x (arranged acc xs) → Among x acc ⊎ Among x xs
arranged_among x acc [] h = inl h
arranged_among x acc (y ∷ ys) h =
    elim (arranged_among x (put y acc) ys h) [
      | inl a ↦ elim (put_among x y acc a) [ inl e ↦ inr (inl e) | inr b ↦ inl b ]
      | inr b ↦ inr (inr b)
    ]

pub among_arranged_old : (x : Message) (acc xs : List Message) → Among x acc → Among x (arranged acc xs)
among_arranged_old x acc [] h = h
among_arranged_old x acc (y ∷ ys) h = among_arranged_old x (put y acc) ys (among_put_there x y acc h)

pub among_arranged : (x : Message) (acc xs : List Message) → Among x xs → Among x (arranged acc xs)
among_arranged x acc [] h = elim h [ ]
among_arranged x acc (y ∷ ys) (inl e) = let P : Message → Type 0 = λ v. Among v (arranged (put y acc) ys) in subst P e (among_arranged_old y (put y acc) ys (among_put_here y acc))
among_arranged x acc (y ∷ ys) (inr h) = among_arranged x (put y acc) ys h

-- messages of which those of equal keys are one
module _ (U : Message → Type 0) (one : (a b : Message) → U a → U b → key_cmp a b ≡ Equal → a ≡ b) where
  pub rises_arranged : (acc xs : List Message) → Rises Before acc → Distinct xs → ((m : Message) → Among m acc → U m) → ((m : Message) → Among m xs → U m) → ((m : Message) → Among m xs → Among m acc → ⊥) → Rises Before (arranged acc xs)
  rises_arranged acc [] r d a u apart = r
  rises_arranged acc (x ∷ xs) r d a u apart =
      let new : AllByRecursion (λ y. key_cmp x y ≡ Equal → ⊥) acc = for_each (λ y. key_cmp x y ≡ Equal → ⊥) acc (λ y h e. apart x (inl refl) (let s : y ≡ x = sym (one x y (u x (inl refl)) (a y h) e) in let P : Message → Type 0 = λ v. Among v acc in subst P s h)) in
      rises_arranged (put x acc) xs (rises_put x acc new r) d.1
      (λ m h. elim (put_among m x acc h) [ inl e ↦ subst U e (u x (inl refl)) | inr b ↦ a m b ])
      (λ m h. u m (inr h))
      (λ m h k. elim (put_among m x acc k) [ inl e ↦ d.0 (let P : Message → Type 0 = λ v. Among v xs in subst P (sym e) h) | inr b ↦ apart m (inr h) b ])

  pub rises_in_order : (xs : List Message) → Distinct xs → ((m : Message) → Among m xs → U m) → Rises Before (in_order xs)
  rises_in_order xs d u = rises_arranged [] xs tt d (λ m h. elim h [ ]) u (λ m h k. elim k [ ])

  -- the same messages in whatever order are put in one order
  pub same_in_order : (xs ys : List Message) → Distinct xs → Distinct ys → ((m : Message) → Among m xs → U m) → ((m : Message) → Among m ys → U m)
      → ((m : Message) → Among m xs → Among m ys) → ((m : Message) → Among m ys → Among m xs) → in_order xs ≡ in_order ys
  same_in_order xs ys dx dy ux uy to back =
      one_ordered Before before_never (in_order xs) (in_order ys) (rises_in_order xs dx ux) (rises_in_order ys dy uy)
      (λ m h. elim (arranged_among m [] xs h) [ inl n ↦ elim n [ ] | inr a ↦ among_arranged m [] ys (to m a) ])
      (λ m h. elim (arranged_among m [] ys h) [ inl n ↦ elim n [ ] | inr a ↦ among_arranged m [] xs (back m a) ])
