-- A filter of messages in order is the filtered messages in order.
use Rattle.std.proofs.Common.{◌≡◌, inl, inr, Bool, true, false, cond, ◌&&◌, List, [], ◌∷◌, filter, fold, refl, ap, ◌∙◌}
use Rattle.std.specs.List.{AllByRecursion}
use Rattle.std.proofs.lemmas.Bool.{cases_Bool}
use Rattle.kit_base.specs.declared.message.Message.{Message}
use Rattle.kit_base.specs.Order.{is_before, put, in_order}
use Rattle.kit_base.proofs.Lists.{all_filter, each_weaker}
use Rattle.kit_base.proofs.Orders.{all_put, key_order}

-- each put in its place, into a list that is there
abbrev pub arranged : List Message → List Message → List Message
arranged acc xs = fold (λ (sorted : List Message) (m : Message). put m sorted) acc xs

-- none stands after one that it comes before
abbrev pub Up : List Message → Type 0
Up [] = Unit {0}
Up (x ∷ xs) = AllByRecursion (λ y. is_before y x ≡ false) xs × Up xs

-- an item put in its place leaves a list in order
up_put : (m : Message) (xs : List Message) → Up xs → Up (put m xs)
up_put m [] u = (tt, tt)
up_put m (x ∷ xs) u =
    elim (cases_Bool (is_before m x)) [
      | inl e ↦ rw e ((key_order.one_way m x e, each_weaker (λ y. is_before y x ≡ false) (λ y. is_before y m ≡ false) xs (λ y h. key_order.chain y x m h (key_order.one_way m x e)) u.0), u)
      | inr e ↦ rw e (all_put (λ y. is_before y x ≡ false) m xs e u.0, up_put m xs u.1)
    ]

-- what comes before all is put first
put_front : (m : Message) (xs : List Message) → AllByRecursion (λ y. is_before m y ≡ true) xs → put m xs ≡ m ∷ xs
put_front m [] h = refl
put_front m (x ∷ xs) h = rw h.0 refl

before_rest : (m x : Message) (xs : List Message) → is_before m x ≡ true → AllByRecursion (λ y. is_before y x ≡ false) xs → AllByRecursion (λ y. is_before m y ≡ true) xs
before_rest m x xs e h = each_weaker (λ y. is_before y x ≡ false) (λ y. is_before m y ≡ true) xs (λ y f.
    elim (cases_Bool (is_before m y)) [ inl t ↦ t | inr n ↦ absurd (let c : is_before m x ≡ false = key_order.chain m y x n f in cc) ]) h

-- an item that passes is put in its place among what a filter leaves
filter_put : (q : Message → Bool) (m : Message) (xs : List Message) → Up xs → filter q (put m xs) ≡ cond (q m) (put m (filter q xs)) (filter q xs)
filter_put q m [] u = elim (q m) as (λ b. cond b (m ∷ []) [] ≡ cond b (m ∷ []) []) [ true ↦ refl | false ↦ refl ]
filter_put q m (x ∷ xs) u =
    elim (cases_Bool (is_before m x)) [
      | inl e ↦ (let all : AllByRecursion (λ y. is_before m y ≡ true) (filter q (x ∷ xs)) = all_filter (λ y. is_before m y ≡ true) q (x ∷ xs) (e, before_rest m x xs e u.0) in
          rw (e, put_front m (filter q (x ∷ xs)) all) refl)
      | inr e ↦ rw e (step e (filter_put q m xs u.1))
    ]
  where
    behind : (ys : List Message) → is_before m x ≡ false → x ∷ cond (q m) (put m ys) ys ≡ cond (q m) (put m (x ∷ ys)) (x ∷ ys)
    behind ys e = rw e (elim (q m) as (λ b. x ∷ cond b (put m ys) ys ≡ cond b (x ∷ put m ys) (x ∷ ys)) [ true ↦ refl | false ↦ refl ])

    step : is_before m x ≡ false → filter q (put m xs) ≡ cond (q m) (put m (filter q xs)) (filter q xs) → filter q (x ∷ put m xs) ≡ cond (q m) (put m (filter q (x ∷ xs))) (filter q (x ∷ xs))
    step e h = elim (q x) as (λ b. cond b (x ∷ filter q (put m xs)) (filter q (put m xs)) ≡ cond (q m) (put m (cond b (x ∷ filter q xs) (filter q xs))) (cond b (x ∷ filter q xs) (filter q xs)))
        [ true ↦ ap (λ ys. x ∷ ys) h ∙ behind (filter q xs) e | false ↦ h ]

up_arranged : (acc xs : List Message) → Up acc → Up (arranged acc xs)
up_arranged acc [] u = u
up_arranged acc (x ∷ xs) u = up_arranged (put x acc) xs (up_put x acc u)

-- messages put in order are in order
pub up_in_order : (ms : List Message) → Up (in_order ms)
up_in_order ms = up_arranged [] ms tt

filter_arranged : (q : Message → Bool) (acc xs : List Message) → Up acc → filter q (arranged acc xs) ≡ arranged (filter q acc) (filter q xs)
filter_arranged q acc [] u = refl
filter_arranged q acc (x ∷ xs) u =
    filter_arranged q (put x acc) xs (up_put x acc u) ∙ ap (λ ys. arranged ys (filter q xs)) (filter_put q x acc u) ∙ next
  where
    next : arranged (cond (q x) (put x (filter q acc)) (filter q acc)) (filter q xs) ≡ arranged (filter q acc) (filter q (x ∷ xs))
    next = elim (q x) as (λ b. arranged (cond b (put x (filter q acc)) (filter q acc)) (filter q xs) ≡ arranged (filter q acc) (cond b (x ∷ filter q xs) (filter q xs))) [ true ↦ refl | false ↦ refl ]

-- a filter of messages in order is the filtered messages in order
pub filter_in_order : (q : Message → Bool) (xs : List Message) → filter q (in_order xs) ≡ in_order (filter q xs)
filter_in_order q xs = filter_arranged q [] xs tt

-- two tests are one after the other
pub filter_both : {X : Type 0} (a b : X → Bool) (xs : List X) → filter (λ x. a x && b x) xs ≡ filter a (filter b xs)
filter_both a b [] = refl
filter_both {X} a b (x ∷ xs) =
    elim (b x) as (λ t. cond (a x && t) (x ∷ filter (λ x. a x && b x) xs) (filter (λ x. a x && b x) xs) ≡ filter a (cond t (x ∷ filter b xs) (filter b xs))) [
      | true ↦ elim (a x) as (λ t. cond (t && true) (x ∷ filter (λ x. a x && b x) xs) (filter (λ x. a x && b x) xs) ≡ cond t (x ∷ filter a (filter b xs)) (filter a (filter b xs))) [
        | true ↦ ap (λ ys. x ∷ ys) (filter_both a b xs)
        | false ↦ filter_both a b xs
      ]
      | false ↦ elim (a x) as (λ t. cond (t && false) (x ∷ filter (λ x. a x && b x) xs) (filter (λ x. a x && b x) xs) ≡ filter a (filter b xs)) [
        | true ↦ filter_both a b xs
        | false ↦ filter_both a b xs
      ]
    ]
