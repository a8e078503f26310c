-- Copies: when two are one, that one which counts is there, and that a sender's numbers are each of one copy.
use Rattle.std.proofs.Common.{◌≡◌, ℕ, zero, suc, ◌+◌, ◌<◌, ◌≤◌, ◌==◌, ◌&&◌, Bool, true, false, cond, ⊎_elim, List, [], ◌∷◌, length, map, filter, get_or, refl, sym, ap, ◌∙◌, subst, arith, eqb-true, eq-eqb}
use Rattle.std.specs.List.{count_by, Contains}
use Rattle.std.proofs.lemmas.Bool.{and_parts, cases_Bool, ne_eqb}
use Rattle.std.proofs.lemmas.List.Elements.{Contains-append_right}
use Rattle.kit_base.specs.declared.message.Kind.{Kind}
use Rattle.kit_base.specs.declared.message.Kind.TheVariants.{Event, Retraction}
use Rattle.kit_base.specs.declared.message.Message.{Message}
use Rattle.kit_base.specs.Words.{kind_bit}
use Rattle.kit_lbts.specs.declared.view.Filled.{Filled}
use Rattle.kit_lbts.proofs.Hands.{count_cons, one_if}

-- whether two letters are one
abbrev pub same_message : Message → Message → Bool
same_message a b = a.time == b.time && a.sender == b.sender && a.number == b.number && kind_bit a.kind == kind_bit b.kind && a.group == b.group && a.value == b.value

abbrev pub same_letter : Filled → Filled → Bool
same_letter a b = same_message a.message b.message && a.colour == b.colour

kinds_are : (a b : Kind) → kind_bit a ≡ kind_bit b → a ≡ b
kinds_are Event Event e = refl
kinds_are Event Retraction e = absurd (omega (arith, e))
kinds_are Retraction Event e = absurd (omega (arith, e))
kinds_are Retraction Retraction e = refl

pub same_letter_is : (a b : Filled) → same_letter a b ≡ true → a ≡ b
same_letter_is a b h =
    let c = and_parts (same_message a.message b.message) (a.colour == b.colour) h in
    let m : Message = a.message in
    let n : Message = b.message in
    let v = and_parts (m.time == n.time && m.sender == n.sender && m.number == n.number && kind_bit m.kind == kind_bit n.kind && m.group == n.group) (m.value == n.value) c.0 in
    let g = and_parts (m.time == n.time && m.sender == n.sender && m.number == n.number && kind_bit m.kind == kind_bit n.kind) (m.group == n.group) v.0 in
    let k = and_parts (m.time == n.time && m.sender == n.sender && m.number == n.number) (kind_bit m.kind == kind_bit n.kind) g.0 in
    let u = and_parts (m.time == n.time && m.sender == n.sender) (m.number == n.number) k.0 in
    let s = and_parts (m.time == n.time) (m.sender == n.sender) u.0 in
    λ t. record {
      message = record {
        time = eqb-true m.time n.time s.0 t;
        sender = eqb-true m.sender n.sender s.1 t;
        number = eqb-true m.number n.number u.1 t;
        kind = kinds_are m.kind n.kind (eqb-true (kind_bit m.kind) (kind_bit n.kind) k.1) t;
        group = eqb-true m.group n.group g.1 t;
        value = eqb-true m.value n.value v.1 t;
      };
      colour = eqb-true a.colour b.colour c.1 t;
    }

pub same_letter_self : (a : Filled) → same_letter a a ≡ true
same_letter_self a =
    let m : Message = a.message in
    (λ t. eq-eqb m.time m.time refl t && eq-eqb m.sender m.sender refl t && eq-eqb m.number m.number refl t && eq-eqb (kind_bit m.kind) (kind_bit m.kind) refl t && eq-eqb m.group m.group refl t && eq-eqb m.value m.value refl t && eq-eqb a.colour a.colour refl t)

module _ {X : Type 0} where
  -- what counts is there
  pub counted_there : (p : X → Bool) (xs : List X) → 0 < count_by p xs → (x : X) × Contains xs x × (p x ≡ true)
  counted_there p [] lt = absurd (omega arith)
  counted_there p (x ∷ xs) lt = ⊎_elim
      (λ (e : p x ≡ true). (x, (0, omega arith, refl), e))
      (λ (e : p x ≡ false).
      let c = count_cons p x xs in
      let o : one_if (p x) ≡ 0 = ap one_if e in
      let r = counted_there p xs (omega arith) in
      (r.0, Contains-append_right (x ∷ []) xs r.0 r.1, r.2))
      (cases_Bool (p x))

  -- of those that pass a test
  pub count_filter : (q p : X → Bool) (xs : List X) → count_by q (filter p xs) ≡ count_by (λ x. p x && q x) xs
  count_filter q p [] = refl
  count_filter q p (x ∷ xs) = one (p x) refl (count_filter q p xs)
    where
      one : (b : Bool) → p x ≡ b → count_by q (filter p xs) ≡ count_by (λ x. p x && q x) xs → count_by q (cond b (x ∷ filter p xs) (filter p xs)) ≡ count_by (λ x. p x && q x) (x ∷ xs)
      one true e r = let c = count_cons q x (filter p xs) in let d = count_cons (λ x. p x && q x) x xs in let s : one_if (p x && q x) ≡ one_if (q x) = ap (λ (b : Bool). one_if (b && q x)) e in omega arith
      one false e r = let d = count_cons (λ x. p x && q x) x xs in let s : one_if (p x && q x) ≡ 0 = ap (λ (b : Bool). one_if (b && q x)) e in omega arith

  pub count_filter_most : (q p : X → Bool) (xs : List X) → count_by q (filter p xs) ≤ count_by q xs
  count_filter_most q p [] = omega arith
  count_filter_most q p (x ∷ xs) = one (p x) (count_filter_most q p xs)
    where
      one : (b : Bool) → count_by q (filter p xs) ≤ count_by q xs → count_by q (cond b (x ∷ filter p xs) (filter p xs)) ≤ count_by q (x ∷ xs)
      one true r = let c = count_cons q x (filter p xs) in let d = count_cons q x xs in omega arith
      one false r = let d = count_cons q x xs in omega arith

  -- what passed was there
  pub contains_filter : (p : X → Bool) (xs : List X) (x : X) → Contains (filter p xs) x → (p x ≡ true) × Contains xs x
  contains_filter p [] x has = absurd (let l = has.1 in omega arith)
  contains_filter p (y ∷ ys) x has = one (p y) refl has (λ h. contains_filter p ys x h)
    where
      one : (b : Bool) → p y ≡ b → Contains (cond b (y ∷ filter p ys) (filter p ys)) x → (Contains (filter p ys) x → (p x ≡ true) × Contains ys x) → (p x ≡ true) × Contains (y ∷ ys) x
      one true e (zero, lt, is) r = (subst (λ z. p z ≡ true) is e, (0, omega arith, is))
      one true e (suc k, lt, is) r = let t = r (k, omega arith, is) in (t.0, Contains-append_right (y ∷ []) ys x t.1)
      one false e h r = let t = r h in (t.0, Contains-append_right (y ∷ []) ys x t.1)

  pub filter_contains : (p : X → Bool) (xs : List X) (x : X) → p x ≡ true → Contains xs x → Contains (filter p xs) x
  filter_contains p [] x passes has = absurd (let l = has.1 in omega arith)
  filter_contains p (y ∷ ys) x passes (zero, lt, is) = subst (λ b. Contains (cond b (y ∷ filter p ys) (filter p ys)) x) (sym (ap p is ∙ passes)) (0, omega arith, is)
  filter_contains p (y ∷ ys) x passes (suc k, lt, is) = one (p y) (filter_contains p ys x passes (k, omega arith, is))
    where
      one : (b : Bool) → Contains (filter p ys) x → Contains (cond b (y ∷ filter p ys) (filter p ys)) x
      one true r = Contains-append_right (y ∷ []) (filter p ys) x r
      one false r = r

  pub contains_map : {Y : Type 0} (f : X → Y) (xs : List X) (x : X) → Contains xs x → Contains (map f xs) (f x)
  contains_map f [] x has = absurd (let l = has.1 in omega arith)
  contains_map f (y ∷ ys) x (zero, lt, is) = (0, omega arith, ap f is)
  contains_map f (y ∷ ys) x (suc k, lt, is) = Contains-append_right (f y ∷ []) (map f ys) (f x) (contains_map f ys x (k, omega arith, is))

-- messages that are numbered from a number on have no number twice
numbered_past : (n s : ℕ) (ms : List Message) (d : Message) → ((k : ℕ) → k < length ms → (get_or ms k d).number ≡ s + k) → n < s → count_by (λ (m : Message). m.number == n) ms ≡ 0
numbered_past n s [] d h lt = refl
numbered_past n s (m ∷ ms) d h lt =
    let c = count_cons (λ (m : Message). m.number == n) m ms in
    let first : m.number ≡ s + 0 = h 0 (omega arith) in
    let o : one_if (m.number == n) ≡ 0 = ap one_if (ne_eqb m.number n (λ e. omega (arith, e, first))) in
    let r = numbered_past n (s + 1) ms d (λ k lk. h (suc k) (omega arith) ∙ (let e : s + suc k ≡ s + 1 + k = omega arith in e)) (omega arith) in
    omega arith

pub numbered_once : (n s : ℕ) (ms : List Message) (d : Message) → ((k : ℕ) → k < length ms → (get_or ms k d).number ≡ s + k) → count_by (λ (m : Message). m.number == n) ms ≤ 1
numbered_once n s [] d h = omega arith
numbered_once n s (m ∷ ms) d h =
    let next : (k : ℕ) → k < length ms → (get_or ms k d).number ≡ s + 1 + k = λ k lk. h (suc k) (omega arith) ∙ (let e : s + suc k ≡ s + 1 + k = omega arith in e) in
    let c = count_cons (λ (m : Message). m.number == n) m ms in
    let first : m.number ≡ s + 0 = h 0 (omega arith) in
    ⊎_elim
    (λ (e : (m.number == n) ≡ true).
    let same : m.number ≡ n = eqb-true m.number n e in
    let o : one_if (m.number == n) ≡ 1 = ap one_if e in
    let r = numbered_past n (s + 1) ms d next (omega arith) in
    omega arith)
    (λ (e : (m.number == n) ≡ false).
    let o : one_if (m.number == n) ≡ 0 = ap one_if e in
    let r = numbered_once n (s + 1) ms d next in
    omega arith)
    (cases_Bool (m.number == n))

module _ {X : Type 0} where
  pub map_contains : {Y : Type 0} (f : X → Y) (xs : List X) (y : Y) → Contains (map f xs) y → (x : X) × Contains xs x × (f x ≡ y)
  map_contains f [] y has = absurd (let l = has.1 in omega arith)
  map_contains f (x ∷ xs) y (zero, lt, is) = (x, (0, omega arith, refl), is)
  map_contains f (x ∷ xs) y (suc k, lt, is) = let t = map_contains f xs y (k, omega arith, is) in (t.0, Contains-append_right (x ∷ []) xs t.0 t.1, t.2)

-- what stands inside a list does not depend on what stands in place of the rest
pub get_or_any : {X : Type 0} (xs : List X) (k : ℕ) (c d : X) → k < length xs → get_or xs k c ≡ get_or xs k d
get_or_any [] k c d lt = absurd (omega arith)
get_or_any (x ∷ xs) zero c d lt = refl
get_or_any (x ∷ xs) (suc k) c d lt = get_or_any xs k c d (omega arith)

-- numbered messages are one where their numbers are
pub one_number : (s : ℕ) (ms : List Message) (d : Message) → ((k : ℕ) → k < length ms → (get_or ms k d).number ≡ s + k)
    → (a b : Message) → Contains ms a → Contains ms b → a.number ≡ b.number → a ≡ b
one_number s ms d h a b ha hb same =
    let ka : a.number ≡ s + ha.0 = ap (λ (m : Message). m.number) (sym ha.2 ∙ get_or_any ms ha.0 a d ha.1) ∙ h ha.0 ha.1 in
    let kb : b.number ≡ s + hb.0 = ap (λ (m : Message). m.number) (sym hb.2 ∙ get_or_any ms hb.0 b d hb.1) ∙ h hb.0 hb.1 in
    let e : ha.0 ≡ hb.0 = omega arith in
    sym ha.2 ∙ (get_or_any ms ha.0 a b ha.1 ∙ (ap (λ (k : ℕ). get_or ms k b) e ∙ hb.2))
