-- Counts of what is in hand, waits and is spent.
use Rattle.std.proofs.Common.{◌≡◌, ◌≢◌, ℕ, zero, suc, ◌+◌, ◌<◌, ◌≤◌, Bool, true, false, cond, ◌&&◌, not, ⊎_elim, List, [], ◌∷◌, ◌++◌, map, filter, Option, Some, None, refl, sym, ap, ◌∙◌, subst, arith, eqb-true, eq-eqb}
use Rattle.std.specs.List.{count_by, list_any, range_with_len, All, Contains}
use Rattle.std.specs.Prelude.{find, ◌==◌}
use Rattle.std.proofs.lemmas.Bool.{and_parts, ne_eqb, and_right, or_cases, or_parts, cases_Bool, false_from_ne_true}
use Rattle.std.proofs.lemmas.List.Sums.{sum_by-cons, sum_by-append, sum_by_push}
use Rattle.std.proofs.lemmas.List.Elements.{Contains-append_right, All-nil, All-cons, All-map, All-weaker}
use Rattle.std.proofs.lemmas.List.Folds.{list_any_at}
pub use Rattle.kit_base.proofs.Counting.{count_any, count_cons, count_has, one_false, one_if, one_true}
use mathlib.Core.Logic.{dite}
use native.Mathlib.Decide.{ℕ_discrete}
use Rattle.kit_lbts.specs.declared.view.InHand.{InHand}
use Rattle.kit_lbts.specs.declared.view.Spent.{Spent}
use Rattle.kit_lbts.specs.Views.{is_in_hand, is_spent}
use Rattle.kit_queue.specs.declared.entry.Entry.{Entry}
use Rattle.kit_queue.specs.Entries.{messages_of, without_buffer}
use Rattle.kit_lbts.specs.Seats.{waits_in, is_buffer}
use Rattle.kit_lbts.specs.Progress.{in_hand}

-- lists in general
module _ {X : Type 0} where
  pub count_append : (p : X → Bool) (xs ys : List X) → count_by p (xs ++ ys) ≡ count_by p xs + count_by p ys
  count_append p xs ys = sum_by-append (λ x. one_if (p x)) xs ys

  pub count_last : (p : X → Bool) (xs : List X) (y : X) → count_by p (xs ++ y ∷ []) ≡ count_by p xs + one_if (p y)
  count_last p xs y = sum_by_push (λ x. one_if (p x)) xs y

  -- two tests that agree
  pub count_agree : (p q : X → Bool) (xs : List X) → ((x : X) → p x ≡ q x) → count_by p xs ≡ count_by q xs
  count_agree p q xs h = λ t. count_by (λ x. h x t) xs

  -- where none passes
  pub count_none : (p : X → Bool) (xs : List X) → ((x : X) → p x ≡ false) → count_by p xs ≡ 0
  count_none p [] h = refl
  count_none p (x ∷ xs) h = let c = count_cons p x xs in let e = one_false (p x) (h x) in let r = count_none p xs h in omega arith

  pub count_not_any : (p : X → Bool) (xs : List X) → list_any p xs ≡ false → count_by p xs ≡ 0
  count_not_any p [] h = refl
  count_not_any p (x ∷ xs) h = let t = or_parts (p x) (list_any p xs) h in let c = count_cons p x xs in let e = one_false (p x) t.0 in let r = count_not_any p xs t.1 in omega arith

  -- without those that pass a test
  pub filter_yes : (p : X → Bool) (x : X) (xs : List X) → p x ≡ true → filter (λ x. not (p x)) (x ∷ xs) ≡ filter (λ x. not (p x)) xs
  filter_yes p x xs e = ap (λ b. cond (not b) (x ∷ filter (λ x. not (p x)) xs) (filter (λ x. not (p x)) xs)) e

  pub filter_no : (p : X → Bool) (x : X) (xs : List X) → p x ≡ false → filter (λ x. not (p x)) (x ∷ xs) ≡ x ∷ filter (λ x. not (p x)) xs
  filter_no p x xs e = ap (λ b. cond (not b) (x ∷ filter (λ x. not (p x)) xs) (filter (λ x. not (p x)) xs)) e

  pub count_without : (p q : X → Bool) (xs : List X) → ((x : X) → p x ≡ true → q x ≡ false) → count_by q (filter (λ x. not (p x)) xs) ≡ count_by q xs
  count_without p q [] h = refl
  count_without p q (x ∷ xs) h = ⊎_elim
      (λ (e : p x ≡ true). ap (count_by q) (filter_yes p x xs e) ∙ (let c = count_cons q x xs in let o = one_false (q x) (h x e) in let r = count_without p q xs h in omega arith))
      (λ (e : p x ≡ false). ap (count_by q) (filter_no p x xs e) ∙ (let c = count_cons q x xs in let d = count_cons q x (filter (λ x. not (p x)) xs) in let r = count_without p q xs h in omega arith))
      (cases_Bool (p x))

  pub count_gone : (p : X → Bool) (xs : List X) → count_by p (filter (λ x. not (p x)) xs) ≡ 0
  count_gone p [] = refl
  count_gone p (x ∷ xs) = ⊎_elim
      (λ (e : p x ≡ true). ap (count_by p) (filter_yes p x xs e) ∙ count_gone p xs)
      (λ (e : p x ≡ false). ap (count_by p) (filter_no p x xs e) ∙ (let d = count_cons p x (filter (λ x. not (p x)) xs) in let o = one_false (p x) e in let r = count_gone p xs in omega arith))
      (cases_Bool (p x))

  -- one that is found passes, and is there
  pub found_passes : (p : X → Bool) (xs : List X) (x : X) → find p xs ≡ Some x → (p x ≡ true) × Contains xs x
  found_passes p [] x e = absurd (cc)
  found_passes p (y ∷ ys) x e = ⊎_elim
      (λ (here : p y ≡ true). let same : y ≡ x = some_is (sym (ap (λ b. cond b (Some y) (find p ys)) here) ∙ e) in
      (subst (λ z. p z ≡ true) same here, (0, omega arith, same)))
      (λ (past : p y ≡ false). let r = found_passes p ys x (sym (ap (λ b. cond b (Some y) (find p ys)) past) ∙ e) in (r.0, Contains-append_right (y ∷ []) ys x r.1))
      (cases_Bool (p y))
    where
      some_is : {a b : X} → Some a ≡ Some b → a ≡ b
      some_is {a} {b} h = cc

  -- through a function that leaves the test
  pub count_map : {Y : Type 0} (f : Y → X) (p : X → Bool) (q : Y → Bool) (ys : List Y) → ((y : Y) → p (f y) ≡ q y) → count_by p (map f ys) ≡ count_by q ys
  count_map f p q [] h = refl
  count_map f p q (y ∷ ys) h = let c = count_cons p (f y) (map f ys) in let d = sum_by-cons (λ y. one_if (q y)) y ys in let e : one_if (p (f y)) ≡ one_if (q y) = ap one_if (h y) in let r = count_map f p q ys h in omega arith

-- a buffer by owner and number: another one fails the test
both_tell : (a b c d : ℕ) → (a == b && c == d) ≡ true → (a ≡ b) × (c ≡ d)
both_tell a b c d e = let t = and_parts (a == b) (c == d) e in (eqb-true a b t.0, eqb-true c d t.1)

differ : (a b c d : ℕ) → ((a ≡ b) → (c ≡ d) → ⊥) → (a == b && c == d) ≡ false
differ a b c d h = false_from_ne_true (a == b && c == d) (λ e. let t = both_tell a b c d e in h t.0 t.1)

pub hand_is : (i k : ℕ) (h : InHand) → is_in_hand i k h ≡ true → (h.from ≡ i) × (h.buffer ≡ k)
hand_is i k h e = both_tell h.from i h.buffer k e

pub hand_here : (i k : ℕ) (h : InHand) → h.from ≡ i → h.buffer ≡ k → is_in_hand i k h ≡ true
hand_here i k h a b = (λ t. eq-eqb h.from i a t && eq-eqb h.buffer k b t)

pub hand_else : (i k a c : ℕ) → ((a ≡ i) → (c ≡ k) → ⊥) → (h : InHand) → is_in_hand i k h ≡ true → is_in_hand a c h ≡ false
hand_else i k a c apart h e = let t = hand_is i k h e in differ h.from a h.buffer c (λ x y. apart (sym x ∙ t.0) (sym y ∙ t.1))

pub spent_is : (i k : ℕ) (s : Spent) → is_spent i k s ≡ true → (s.from ≡ i) × (s.buffer ≡ k)
spent_is i k s e = both_tell s.from i s.buffer k e

pub spent_else : (i k a c : ℕ) → ((a ≡ i) → (c ≡ k) → ⊥) → (s : Spent) → is_spent i k s ≡ true → is_spent a c s ≡ false
spent_else i k a c apart s e = let t = spent_is i k s e in differ s.from a s.buffer c (λ x y. apart (sym x ∙ t.0) (sym y ∙ t.1))

pub waits_here : (i k : ℕ) (e : Entry) → e.message.sender ≡ i → e.buffer ≡ Some k → waits_in i k e ≡ true
waits_here i k e a b = (λ t. eq-eqb e.message.sender i a t && is_buffer k (b t)) ∙ (λ t. eq-eqb k k refl t)

pub buffer_is : (k : ℕ) (o : Option ℕ) → is_buffer k o ≡ true → o ≡ Some k
buffer_is k None e = absurd (cc)
buffer_is k (Some l) e = ap Some (eqb-true l k e)

pub waits_is : (i k : ℕ) (e : Entry) → waits_in i k e ≡ true → (e.message.sender ≡ i) × (e.buffer ≡ Some k)
waits_is i k e h = let t = and_parts (e.message.sender == i) (is_buffer k e.buffer) h in (eqb-true e.message.sender i t.0, buffer_is k e.buffer t.1)

pub waits_else : (i k a c : ℕ) → ((a ≡ i) → (c ≡ k) → ⊥) → (e : Entry) → waits_in i k e ≡ true → waits_in a c e ≡ false
waits_else i k a c apart e h = false_from_ne_true (waits_in a c e) (λ g.
    let t = waits_is i k e h in
    let u = waits_is a c e g in
    let s : Some k ≡ Some c = sym t.1 ∙ u.1 in
    let same : k ≡ c = (cc) in
    apart (sym u.0 ∙ t.0) (sym same))

-- an entry without its buffer waits in none
pub settled_waits : (a c : ℕ) (e : Entry) → waits_in a c (without_buffer e) ≡ false
settled_waits a c e = and_right (e.message.sender == a) false refl

-- the entries, where those that wait in a buffer give it up
abbrev pub give_up : ℕ → ℕ → Entry → Entry
give_up i k e = cond (waits_in i k e) (without_buffer e) e

pub given_up_here : (i k : ℕ) (es : List Entry) → count_by (waits_in i k) (map (give_up i k) es) ≡ 0
given_up_here i k es = count_map (give_up i k) (waits_in i k) (λ _. false) es (λ e. one e (waits_in i k e) refl) ∙ count_none (λ _. false) es (λ e. refl)
  where
    one : (e : Entry) (b : Bool) → waits_in i k e ≡ b → waits_in i k (cond b (without_buffer e) e) ≡ false
    one e true h = settled_waits i k e
    one e false h = h

pub given_up_else : (i k a c : ℕ) → ((a ≡ i) → (c ≡ k) → ⊥) → (es : List Entry) → count_by (waits_in a c) (map (give_up i k) es) ≡ count_by (waits_in a c) es
given_up_else i k a c apart es = count_map (give_up i k) (waits_in a c) (waits_in a c) es (λ e. one e (waits_in i k e) refl)
  where
    one : (e : Entry) (b : Bool) → waits_in i k e ≡ b → waits_in a c (cond b (without_buffer e) e) ≡ waits_in a c e
    one e true h = settled_waits a c e ∙ sym (waits_else i k a c apart e h)
    one e false h = refl

pub given_up_messages : (i k : ℕ) (es : List Entry) → messages_of (map (give_up i k) es) ≡ messages_of es
given_up_messages i k [] = refl
given_up_messages i k (e ∷ es) = (λ t. one e (waits_in i k e) t ∷ given_up_messages i k es t)
  where
    one : (e : Entry) (b : Bool) → (cond b (without_buffer e) e).message ≡ e.message
    one e true = refl
    one e false = refl

-- what is said of each entry, where it does not speak of buffers, or speaks well of none
pub given_up_all : (A : Entry → Type 0) (i k : ℕ) (es : List Entry) → ((e : Entry) → waits_in i k e ≡ true → A e → A (without_buffer e)) → All A es → All A (map (give_up i k) es)
given_up_all A i k es settles h = All-map A (give_up i k) es (All-weaker A (λ e. A (give_up i k e)) (λ e old. one e (waits_in i k e) refl old) es h)
  where
    one : (e : Entry) (b : Bool) → waits_in i k e ≡ b → A e → A (cond b (without_buffer e) e)
    one e true h old = settles e h old
    one e false h old = old

-- ---- the buffers of a mail word
count_filtered : (p q : ℕ → Bool) (x : ℕ) (xs : List ℕ) → count_by q (filter p (x ∷ xs)) ≡ cond (p x) (one_if (q x)) 0 + count_by q (filter p xs)
count_filtered p q x xs = one (p x)
  where
    one : (b : Bool) → count_by q (cond b (x ∷ filter p xs) (filter p xs)) ≡ cond b (one_if (q x)) 0 + count_by q (filter p xs)
    one true = count_cons q x (filter p xs)
    one false = omega arith

-- a number of a row that passes is there once
range_past : (p : ℕ → Bool) (c s n : ℕ) → c < s → count_by (λ (k : ℕ). k == c) (filter p (range_with_len s n)) ≡ 0
range_past p c s zero lt = refl
range_past p c s (suc n) lt =
    let a = count_filtered p (λ (k : ℕ). k == c) s (range_with_len (s + 1) n) in
    let none : one_if (s == c) ≡ 0 = ap one_if (ne_eqb s c (λ e. omega (arith, e))) in
    let z : cond (p s) (one_if (s == c)) 0 ≡ 0 = nothing_of (p s) (one_if (s == c)) none in
    let r = range_past p c (s + 1) n (omega arith) in
    omega arith
  where
    nothing_of : (b : Bool) (x : ℕ) → x ≡ 0 → cond b x 0 ≡ 0
    nothing_of true x e = e
    nothing_of false x e = refl

pub range_here : (p : ℕ → Bool) (c s n : ℕ) → s ≤ c → c < s + n → count_by (λ (k : ℕ). k == c) (filter p (range_with_len s n)) ≡ one_if (p c)
range_here p c s zero le lt = absurd (omega arith)
range_here p c s (suc n) le lt =
    let a = count_filtered p (λ (k : ℕ). k == c) s (range_with_len (s + 1) n) in
    dite (ℕ_discrete s c)
    (λ same.
    let one : one_if (s == c) ≡ 1 = ap one_if (eq-eqb s c same) in
    let h : cond (p s) (one_if (s == c)) 0 ≡ one_if (p s) = ap (λ (x : ℕ). cond (p s) x 0) one in
    let r = range_past p c (s + 1) n (omega arith) in
    let t : one_if (p s) ≡ one_if (p c) = ap (λ (x : ℕ). one_if (p x)) same in
    omega arith)
    (λ other.
    let none : one_if (s == c) ≡ 0 = ap one_if (ne_eqb s c other) in
    let z : cond (p s) (one_if (s == c)) 0 ≡ 0 = nothing_of (p s) (one_if (s == c)) none in
    let r = range_here p c (s + 1) n (omega arith) (omega arith) in
    omega arith)
  where
    nothing_of : (b : Bool) (x : ℕ) → x ≡ 0 → cond b x 0 ≡ 0
    nothing_of true x e = e
    nothing_of false x e = refl

-- all numbers of a row are below its end
pub below_row : (bound low len : ℕ) → low + len ≤ bound → All (λ (j : ℕ). j < bound) (range_with_len low len)
below_row bound low zero le = All-nil (λ (j : ℕ). j < bound)
below_row bound low (suc len) le = All-cons (λ (j : ℕ). j < bound) low (range_with_len (low + 1) len) (omega arith) (below_row bound (low + 1) len (omega arith))

-- the copies that come to hand from i: of its buffers, those that pass
pub count_come : (p : ℕ → Bool) (i c b : ℕ) → c < b → count_by (is_in_hand i c) (map (in_hand i) (filter p (range_with_len 0 b))) ≡ one_if (p c)
count_come p i c b lt =
    count_map (in_hand i) (is_in_hand i c) (λ (k : ℕ). k == c) (filter p (range_with_len 0 b)) (λ k. ap (λ (x : Bool). x && k == c) (eq-eqb i i refl))
    ∙ range_here p c 0 b (omega arith) (omega arith)

-- and of another federate none
pub count_come_else : (i a c : ℕ) (ks : List ℕ) → a ≢ i → count_by (is_in_hand a c) (map (in_hand i) ks) ≡ 0
count_come_else i a c ks other =
    count_map (in_hand i) (is_in_hand a c) (λ (_ : ℕ). false) ks (λ k. ap (λ (x : Bool). x && k == c) (ne_eqb i a (λ e. other (sym e)))) ∙ count_none (λ (_ : ℕ). false) ks (λ k. refl)
