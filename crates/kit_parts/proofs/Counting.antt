-- How many messages pass a test, and how often one counts.
use Rattle.std.proofs.Common.{◌≡◌, ℕ, inl, inr, ◌+◌, ◌<◌, ◌≤◌, Bool, true, false, cond, ◌&&◌, nat_eq, List, [], ◌∷◌, arith, refl, sym, ap, ◌∙◌, subst}
use Rattle.std.specs.List.{count_by}
use Rattle.std.proofs.lemmas.Bool.{and_parts, and_from, eqb-true, eq-eqb, cases_Bool, cases_lt}
use Rattle.kit_base.specs.declared.message.Kind.{Kind}
use Rattle.kit_base.specs.declared.message.Kind.TheVariants.{Event, Retraction}
use Rattle.kit_base.specs.declared.message.Message.{Message}
use Rattle.kit_base.specs.Words.{kind_bit}
use Rattle.kit_base.proofs.Counting.{count_cons, count_has, one_false, one_true}
use Rattle.kit_parts.proofs.Among.{Among, Distinct, among_contains}

-- whether two messages are one, in all fields
pub same : Message → Message → Bool
same a b = nat_eq a.time b.time && nat_eq a.sender b.sender && nat_eq a.number b.number && nat_eq (kind_bit a.kind) (kind_bit b.kind) && nat_eq a.group b.group && nat_eq a.value b.value

one_kind : (a b : Kind) → kind_bit a ≡ kind_bit b → a ≡ b
one_kind Event Event e = refl
one_kind Event Retraction e = absurd (omega arith)
one_kind Retraction Event e = absurd (omega arith)
one_kind Retraction Retraction e = refl

pub same_is : (a b : Message) → same a b ≡ true → b ≡ a
unfolding same
same_is a b h =
    let v = and_parts (nat_eq a.time b.time && nat_eq a.sender b.sender && nat_eq a.number b.number && nat_eq (kind_bit a.kind) (kind_bit b.kind) && nat_eq a.group b.group) (nat_eq a.value b.value) h in
    let g = and_parts (nat_eq a.time b.time && nat_eq a.sender b.sender && nat_eq a.number b.number && nat_eq (kind_bit a.kind) (kind_bit b.kind)) (nat_eq a.group b.group) v.0 in
    let k = and_parts (nat_eq a.time b.time && nat_eq a.sender b.sender && nat_eq a.number b.number) (nat_eq (kind_bit a.kind) (kind_bit b.kind)) g.0 in
    let n = and_parts (nat_eq a.time b.time && nat_eq a.sender b.sender) (nat_eq a.number b.number) k.0 in
    let s = and_parts (nat_eq a.time b.time) (nat_eq a.sender b.sender) n.0 in
    let t1 : a.time ≡ b.time = eqb-true a.time b.time s.0 in
    let s1 : a.sender ≡ b.sender = eqb-true a.sender b.sender s.1 in
    let n1 : a.number ≡ b.number = eqb-true a.number b.number n.1 in
    let k1 : a.kind ≡ b.kind = one_kind a.kind b.kind (eqb-true (kind_bit a.kind) (kind_bit b.kind) k.1) in
    let g1 : a.group ≡ b.group = eqb-true a.group b.group g.1 in
    let v1 : a.value ≡ b.value = eqb-true a.value b.value v.1 in
    sym (made (λ (x : ℕ). record { time = x; sender = a.sender; number = a.number; kind = a.kind; group = a.group; value = a.value }) t1
    ∙ made (λ (x : ℕ). record { time = b.time; sender = x; number = a.number; kind = a.kind; group = a.group; value = a.value }) s1
    ∙ made (λ (x : ℕ). record { time = b.time; sender = b.sender; number = x; kind = a.kind; group = a.group; value = a.value }) n1
    ∙ made (λ (x : Kind). record { time = b.time; sender = b.sender; number = b.number; kind = x; group = a.group; value = a.value }) k1
    ∙ made (λ (x : ℕ). record { time = b.time; sender = b.sender; number = b.number; kind = b.kind; group = x; value = a.value }) g1
    ∙ made (λ (x : ℕ). record { time = b.time; sender = b.sender; number = b.number; kind = b.kind; group = b.group; value = x }) v1)
  where
    made : {X : Type 0} {x y : X} (f : X → Message) → x ≡ y → f x ≡ f y
    made f e = ap f e

pub same_here : (m : Message) → same m m ≡ true
unfolding same
same_here m = and_from _ _ (and_from _ _ (and_from _ _ (and_from _ _ (and_from _ _ (eq-eqb m.time m.time refl) (eq-eqb m.sender m.sender refl)) (eq-eqb m.number m.number refl)) (eq-eqb (kind_bit m.kind) (kind_bit m.kind) refl)) (eq-eqb m.group m.group refl)) (eq-eqb m.value m.value refl)

-- one that counts is there
pub has_count : {X : Type 0} (test : X → Bool) (xs : List X) → 1 ≤ count_by test xs → (x : X) × Among x xs × (test x ≡ true)
has_count test [] h = absurd (omega arith)
has_count test (y ∷ ys) h =
    elim (cases_Bool (test y)) [
      | inl t ↦ (y, inl refl, t)
      | inr f ↦ (let c = one_false (test y) f in let r = has_count test ys (omega (arith, count_cons test y ys, c)) in (r.0, inr r.1, r.2))
    ]

-- a message that counts is there
pub has_same : (m : Message) (xs : List Message) → 1 ≤ count_by (same m) xs → Among m xs
has_same m xs h = found (has_count (same m) xs h)
  where
    found : (x : Message) × Among x xs × (same m x ≡ true) → Among m xs
    found r = let P : Message → Type 0 = λ v. Among v xs in subst P (same_is m r.0 r.2) r.1

-- a message counts once among messages that differ
pub count_once : (m : Message) (xs : List Message) → Distinct xs → count_by (same m) xs ≤ 1
count_once m [] d = omega arith
count_once m (x ∷ xs) d =
    elim (cases_Bool (same m x)) [
      | inl t ↦ (let c = one_true (same m x) t in
          elim (cases_lt 0 (count_by (same m) xs)) [
            | inl lt ↦ absurd (let r = has_count (same m) xs (let l : 0 < count_by (same m) xs = lt in omega arith) in d.0 (let e : r.0 ≡ x = same_is m r.0 r.2 ∙ sym (same_is m x t) in let P : Message → Type 0 = λ v. Among v xs in subst P e r.1))
            | inr le ↦ (let l : count_by (same m) xs ≤ 0 = le in omega (arith, count_cons (same m) x xs, c))
          ])
      | inr f ↦ (let c = one_false (same m x) f in omega (arith, count_cons (same m) x xs, c, count_once m xs d.1))
    ]

-- and messages that each count once differ
pub once_count : (xs : List Message) → ((m : Message) → Among m xs → count_by (same m) xs ≤ 1) → Distinct xs
once_count [] h = tt
once_count (x ∷ xs) h = (
  (λ a. let c = one_true (same x x) (same_here x) in absurd (omega (arith, h x (inl refl), count_cons (same x) x xs, c, count_has (same x) xs x (among_contains x xs a) (same_here x)))),
  once_count xs (λ m a. omega (arith, h m (inr a), count_cons (same m) x xs)),
)
