-- Each message is charged into one buffer, once: how a charge, a last post, the start and a grant keep that.
use Rattle.std.proofs.Common.{◌≡◌, ◌≢◌, ℕ, zero, suc, cond, true, false, ◌+◌, ◌<◌, ◌≤◌, ◌==◌, Bool, List, [], ◌∷◌, ◌++◌, length, filter, take, drop, get_or, Option, Some, None, refl, sym, ap, ◌∙◌, subst, arith, eq-eqb, get_or-set_same, get_or-set_other}
use Rattle.std.specs.List.{count_by, Contains}
use Rattle.std.specs.Prelude.{slice_index_or, slice_set, unwrap_or}
use Rattle.std.proofs.lemmas.List.{drop_at, take-append-drop}
use Rattle.std.proofs.lemmas.List.Elements.{Contains-append_left, Contains-append_right, filter-append}
use Rattle.std.proofs.lemmas.Option.{none-some}
use mathlib.Core.Logic.{dite}
use native.Mathlib.Decide.{ℕ_discrete}
use Rattle.kit_base.specs.declared.message.Message.{Message}
use Rattle.kit_rules.specs.Delivery.{is_transported}
use Rattle.kit_rules.specs.Parts.{Parts}
use Rattle.kit_rules.specs.Step.{no_message}
use Rattle.kit_lbts.specs.declared.view.Filled.{Filled}
use Rattle.kit_lbts.specs.Seats.{AreChargedOnce}
use Rattle.kit_lbts.proofs.Copies.{contains_filter, count_filter_most, numbered_once, one_number}
use Rattle.kit_lbts.proofs.Hands.{count_append, count_cons, count_has, one_if}
use Rattle.kit_lbts.proofs.LetterFacts.{letter_from}

-- messages have the numbers of their places, from 1 on
abbrev pub AreInPlace : List Message → Type 0
AreInPlace sends = (k : ℕ) → k < length sends → (slice_index_or sends k no_message).number ≡ k + 1

from_one : (sends : List Message) → AreInPlace sends → (k : ℕ) → k < length sends → (get_or sends k no_message).number ≡ 1 + k
from_one sends numbered k lk = numbered k lk ∙ (let e : k + 1 ≡ 1 + k = omega arith in e)

count_dropped : {X : Type 0} (p : X → Bool) (n : ℕ) (xs : List X) → count_by p (drop n xs) ≤ count_by p xs
count_dropped p n xs =
    let c = count_append p (take n xs) (drop n xs) in
    let e = ap (count_by p) (take-append-drop n xs) in
    omega arith

some_same : {X : Type 0} {a b : X} → Some a ≡ Some b → a ≡ b
some_same {X} {a} {b} h = cc

-- one number stands once among numbered messages
once : (sends : List Message) → AreInPlace sends → (n : ℕ) → count_by (λ (m : Message). m.number == n) sends ≤ 1
once sends numbered n = numbered_once n 1 sends no_message (from_one sends numbered)

has_number : (sends : List Message) (m : Message) → Contains sends m → 0 < count_by (λ (x : Message). x.number == m.number) sends
has_number sends m has = count_has (λ (x : Message). x.number == m.number) sends m has (eq-eqb m.number m.number refl)

module _ (f : Parts) (sends : List Message) (numbered : AreInPlace sends) where
  abbrev transported : List Message
  transported = filter (is_transported f) sends

  -- the first of an outbox stands in it once
  first_once : (n : ℕ) (first : Message) (rest : List Message) → first ∷ rest ≡ drop n transported → Contains rest first → ⊥
  first_once n first rest is has =
      let t : Message → Bool = λ m. m.number == first.number in
      let a = count_cons t first rest in
      let b : one_if (first.number == first.number) ≡ 1 = ap one_if (eq-eqb first.number first.number refl) in
      let c = has_number rest first has in
      let d = ap (count_by t) is in
      let e = count_dropped t n transported in
      let g = count_filter_most t (is_transported f) sends in
      let h = once sends numbered first.number in
      omega arith

  module _ (outbox rest : List Message) (first : Message) (front : outbox ≡ first ∷ rest) (filled : List (Option Filled)) (k : ℕ) where
    first_in : Contains outbox first
    first_in = subst (λ (o : List Message). Contains o first) (sym front) (0, omega arith, refl)

    -- a buffer is charged with the first of the outbox
    module _ (letter : Filled) (is : letter.message ≡ first) (lk : k < length filled) (sent : Contains transported first) (old : AreChargedOnce f sends outbox None filled) where
      abbrev now : List (Option Filled)
      now = slice_set filled k (Some letter)

      here : (x : ℕ) (y : Filled) → x ≡ k → slice_index_or now x None ≡ Some y → y.message ≡ first
      here x y same e =
          let t : Some letter ≡ Some y = sym (get_or-set_same filled k (Some letter) None lk) ∙ ((λ t. slice_index_or now (sym same t) None) ∙ e) in
          ap (λ (z : Filled). z.message) (sym (some_same t)) ∙ is

      there : (x : ℕ) (y : Filled) → x ≢ k → slice_index_or now x None ≡ Some y → slice_index_or filled x None ≡ Some y
      there x y other e = sym (get_or-set_other filled k x (Some letter) None other) ∙ e

      -- no other buffer has that message: it is in no outbox, but for this one's
      no_other : (x : ℕ) (y : Filled) → slice_index_or filled x None ≡ Some y → y.message.number ≢ first.number
      no_other x y e number =
          let a = contains_filter (is_transported f) sends y.message (old.sent x y e) in
          let b = contains_filter (is_transported f) sends first sent in
          let same : y.message ≡ first = one_number 1 sends no_message (from_one sends numbered) y.message first a.1 b.1 number in
          old.gone x y e (λ n. none-some x n) (subst (Contains outbox) (sym same) first_in)

      pub charged_once : AreChargedOnce f sends outbox (Some k) (slice_set filled k (Some letter))
      charged_once = record {
        sent = λ x y e. dite (ℕ_discrete x k)
            (λ same. subst (Contains transported) (sym (here x y same e)) sent)
            (λ other. old.sent x y (there x y other e));
        gone = λ x y e apart has. dite (ℕ_discrete x k)
            (λ same. absurd (apart (ap Some (sym same))))
            (λ other. old.gone x y (there x y other e) (λ n. none-some x n) has);
        apart = λ x l y z ne ex el. dite (ℕ_discrete x k)
            (λ same. dite (ℕ_discrete l k)
            (λ t. absurd (ne (same ∙ sym t)))
            (λ other number. no_other l z (there l z other el) (sym number ∙ ap (λ (m : Message). m.number) (here x y same ex))))
            (λ other. dite (ℕ_discrete l k)
            (λ t number. no_other x y (there x y other ex) (number ∙ ap (λ (m : Message). m.number) (here l z t el)))
            (λ away. old.apart x l y z ne (there x y other ex) (there l z away el)));
      }

    -- and posted whole: the message leaves the outbox
    pub posted_once : (n : ℕ) → outbox ≡ drop n transported → (letter_from filled k).message ≡ first → AreChargedOnce f sends outbox (Some k) filled → AreChargedOnce f sends rest None filled
    posted_once n behind is old = record {
      sent = old.sent;
      gone = λ x y e apart has. dite (ℕ_discrete x k)
          (λ same.
          let l : letter_from filled k ≡ y = (λ t. letter_from filled (sym same t)) ∙ ap (λ (o : Option Filled). unwrap_or o (record { message = no_message; colour = 0 })) e in
          let m : y.message ≡ first = ap (λ (z : Filled). z.message) (sym l) ∙ is in
          first_once n first rest (sym front ∙ behind) (subst (Contains rest) m has))
          (λ other. old.gone x y e (λ s. other (sym (some_same s))) (subst (λ (o : List Message). Contains o y.message) (sym front) (Contains-append_right (first ∷ []) rest y.message has)));
      apart = old.apart;
    }

  -- before it sends anything, no buffer is charged with anything
  pub none_charged : sends ≡ [] → (outbox : List Message) (sending : Option ℕ) (filled : List (Option Filled)) → AreChargedOnce f sends outbox sending filled → (k : ℕ) (x : Filled) → slice_index_or filled k None ≡ Some x → ⊥
  none_charged none outbox sending filled old k x e =
      let c : Contains [] x.message = subst (λ (l : List Message). Contains (filter (is_transported f) l) x.message) none (old.sent k x e) in
      let l = c.1 in
      omega arith

  -- more is sent, where nothing is in the outbox
  pub more_sent : (made after : List Message) (filled : List (Option Filled)) → after ≡ sends ++ made → AreInPlace after → AreChargedOnce f sends [] None filled
      → AreChargedOnce f after (filter (is_transported f) made) None filled
  more_sent made after filled is places old = record {
    sent = λ x y e. subst (λ (l : List Message). Contains l y.message) (sym (ap (filter (is_transported f)) is ∙ filter-append (is_transported f) sends made))
        (Contains-append_left transported (filter (is_transported f) made) y.message (old.sent x y e));
    gone = λ x y e apart has.
        let a = has_number sends y.message (contains_filter (is_transported f) sends y.message (old.sent x y e)).1 in
        let b = has_number made y.message (contains_filter (is_transported f) made y.message has).1 in
        let t : Message → Bool = λ m. m.number == y.message.number in
        let c = ap (count_by t) is in
        let d = count_append t sends made in
        let g = once after places y.message.number in
        omega arith;
    apart = old.apart;
  }

  -- and stands behind what was sent before
  pub more_behind : (made after : List Message) → after ≡ sends ++ made → filter (is_transported f) made ≡ drop (length transported) (filter (is_transported f) after)
  more_behind made after is =
      sym (ap (drop (length transported)) (ap (filter (is_transported f)) is ∙ filter-append (is_transported f) sends made)
      ∙ drop_at transported (filter (is_transported f) made) (length transported) refl)

-- one more of a list is left out
drop_next : {X : Type 0} (n : ℕ) (xs : List X) → drop 1 (drop n xs) ≡ drop (suc n) xs
drop_next zero [] = refl
drop_next zero (x ∷ xs) = refl
drop_next (suc n) [] = refl
drop_next (suc n) (x ∷ xs) = drop_next n xs

pub behind_by : {X : Type 0} (b : Bool) (n : ℕ) (outbox all : List X) → outbox ≡ drop n all → (k : ℕ) × (cond b (drop 1 outbox) outbox ≡ drop k all)
behind_by true n outbox all is = (suc n, ap (drop 1) is ∙ drop_next n all)
behind_by false n outbox all is = (n, is)
