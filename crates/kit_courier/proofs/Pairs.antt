-- Two federates on a plain floor, of whom the first sends and then the second receives.
use Rattle.std.proofs.Common.{Bool, true, false, ◌≡◌, ◌==◌, ℕ, ◌^◌, refl, if◌then◌else◌, List, [], ◌∷◌, ◌++◌, length, sym, ap, ◌∙◌, subst, ⊎_elim, arith}
use Rattle.std.proofs.lemmas.List.Elements.{Contains-push, Contains-push_cases}
use Rattle.std.proofs.lemmas.Nat.Bits.{bit_at-zero}
use Rattle.std.specs.Int.{bit_at}
use Rattle.std.specs.Prelude.{bit_or, Contains, IfSome, map, option_to_list, MatchOption, Option, None, Some}
use mathlib.Core.Option.{some}
use lib.ListN.{get_elem?}
use Rattle.kit_ground.specs.declared.address.Address.TheVariants.{Count, Mail}
use Rattle.kit_ground.specs.declared.place.Deed.TheVariants.{Collected, PostedTo, SawFree}
use Rattle.kit_ground.specs.declared.place.Place.{Place}
use Rattle.kit_ground.specs.Coming.{AreSteps, IsOneStep}
use Rattle.kit_ground.specs.Floors.{Floor, RulesHold, memory, new_floor, place_of}
use Rattle.kit_ground.specs.Memory.{Memory, with_word}
use Rattle.kit_ground.specs.Rules.{zero_memory, own_at_first}
use Rattle.kit_ground.specs.Steps.{mail_index}
use Rattle.kit_ground.proofs.Bits.{joined_here}
use Rattle.kit_ground.proofs.Layouts.{memory_blank}
use Rattle.kit_ground.proofs.Memories.{stored_here}
use Rattle.kit_ground.proofs.PlainSeats.{seated_at, seated_is}
use Rattle.kit_courier.specs.declared.view.CourierView.{CourierView}
use Rattle.kit_courier.specs.declared.view.Letter.{Letter}
use Rattle.kit_courier.specs.declared.view.Receipt.{Receipt}
use Rattle.kit_courier.specs.declared.view.Sent.{Sent}
use Rattle.kit_courier.specs.Calls.{IsReceived, IsUnmoved}
use Rattle.kit_courier.specs.Couriers.{courier_rule}
use Rattle.kit_courier.specs.Deliveries.{courier_first, newcomer}
use Rattle.kit_courier.specs.Letters.{WasSentTo, sent_by}
use Rattle.kit_courier.proofs.LetterSteps.{sent_here}
use Rattle.kit_courier.proofs.Openings.{nothing_in}

abbrev pub F : Type 0
F = Floor ℕ CourierView

abbrev at : F → Place CourierView
at f = place_of courier_first f

pub if_some : {A : Type 0} (o : Option A) (P : Type 0) (Q R : A → Type 0) → ((x : A) → Q x → R x) → MatchOption o P Q → IfSome o R
if_some None P Q R leads h = tt
if_some (Some x) P Q R leads h = leads x h

abbrev receipt_of : Letter → Receipt
receipt_of letter = record { from = 0; letter = letter }

-- what was got, of one who had got nothing
pub got_from : (p q : Place CourierView) (o : Option Letter) → p.client.got ≡ [] → MatchOption o (IsUnmoved p 0 0 q) (λ letter. IsReceived p 0 0 letter q) → q.client.got ≡ map receipt_of (option_to_list o)
got_from p q None new h = h.got ∙ new
got_from p q (Some letter) new h = h.got ∙ ap (λ l. l ++ receipt_of letter ∷ []) new

-- a letter for the second federate
abbrev pub for_second : Letter → Sent
for_second letter = record { to = 2 ^ 1; letter = letter }

-- whoever sent at most one letter sent no other
only_letter : (t : Bool) (letter x : Letter) (d : ℕ) → WasSentTo (if t then [] ++ for_second letter ∷ [] else []) d x → x ≡ letter
only_letter true letter x d h = ⊎_elim (λ none. absurd (nothing_in _ none)) (λ e. ap (λ (s : Sent). s.letter) (sym e)) (Contains-push_cases [] (for_second letter) (record { to = h.to; letter = x }) h.has)
only_letter false letter x d h = absurd (nothing_in _ h.has)

-- f is new, the first has come to g, and then the second is seated
module _ (f g h : F) (new : f ≡ new_floor courier_first 2 2 1) (first : AreSteps courier_first f g) (seats : h ≡ record g { seated = 1 }) where
  seated_first : f.seated ≡ 0
  seated_first = ap (λ (x : F). x.seated) new

  seated_second : h.seated ≡ 1
  seated_second = ap (λ (x : F). x.seated) seats

  two : length g.places ≡ 2
  two = first.many ∙ ap (λ (x : F). length x.places) new

  -- the second is as it was
  pub second_new : at h ≡ record { own = own_at_first 2 1 1; client = newcomer 2 }
  second_new = seated_is courier_first h 1 seated_second (record { own = own_at_first 2 1 1; client = newcomer 2 })
      (ap (λ (x : F). get_elem? x.places 1) seats ∙ (first.others 1 (λ e. let z : 1 ≡ f.seated = e in let s = seated_first in absurd (omega arith)) ∙ ap (λ (x : F). get_elem? x.places 1) new))

  -- the second has come to k
  module _ (k : F) (second : AreSteps courier_first h k) where
    first_there : get_elem? k.places 0 ≡ some (at g)
    first_there = second.others 0 (λ e. let z : 0 ≡ h.seated = e in let s = seated_second in absurd (omega arith))
        ∙ (ap (λ (x : F). get_elem? x.places 0) seats ∙ seated_at courier_first g 0 (first.seated ∙ seated_first) (let t = two in omega arith))

    second_there : get_elem? k.places 1 ≡ some (at k)
    second_there =
        let many : length k.places ≡ length g.places = second.many ∙ ap (λ (x : F). length x.places) seats in
        let t = two in
        seated_at courier_first k 1 (second.seated ∙ seated_second) (omega arith)

    -- what it got is the letter that the first sent
    pub got_is_sent : (t : Bool) (letter got : Letter) → RulesHold courier_rule k → (at g).client.sent ≡ (if t then (at f).client.sent ++ for_second letter ∷ [] else (at f).client.sent) → IsReceived (at h) 0 0 got (at k) → got ≡ letter
    got_is_sent t letter got ruled sent received =
        let receipt : Receipt = record { from = 0; letter = got } in
        let has : Contains (at k).client.got receipt = subst (λ (l : List Receipt). Contains l receipt) (sym received.got) (Contains-push (at h).client.got receipt) in
        let was : WasSentTo (sent_by k.places 0) 1 got = (ruled.words.client.letters.each 1 (at k) second_there).got receipt has in
        let all : sent_by k.places 0 ≡ (if t then [] ++ for_second letter ∷ [] else []) = sent_here k.places 0 (at g) first_there ∙ (sent ∙ ap (λ (x : F). if t then (at x).client.sent ++ for_second letter ∷ [] else (at x).client.sent) new) in
        only_letter t letter got 1 (subst (λ (l : List Sent). WasSentTo l 1 got) all was)

-- where the first mail word stands among all
pub first_mail : (m : ℕ) → mail_index m 0 0 ≡ 0
first_mail m = omega arith

-- a new floor's first look finds its buffer free
pub free_at_first : (f g : F) (t : Bool) → f ≡ new_floor courier_first 2 2 1 → IsOneStep courier_first f (SawFree 0 t) g → t ≡ true
free_at_first f g t new did =
    let zeros : memory f ≡ zero_memory = ap memory new ∙ memory_blank 2 1 in
    did.step.allowed.2 ∙ ap (λ (m : Memory). m (Count (at f).own.number 0) == 0) zeros

-- after the first posted its buffer, the second's mail has its bit
pub mail_has : (g k : F) → (at g).own.number ≡ 0 → IsOneStep courier_first g (PostedTo 0 1) k → bit_at (memory k (Mail 1 0 0)) 0 ≡ 1
mail_has g k zero did =
    let was : ℕ = memory g (Mail 1 (at g).own.number 0) in
    let now = did.step.stores ∙ (λ i. with_word (memory g) (Mail 1 (zero i) 0) (bit_or was (2 ^ 0))) in
    ap (λ (m : Memory). bit_at (m (Mail 1 0 0)) 0) now ∙ (ap (λ (v : ℕ). bit_at v 0) (stored_here (memory g) (Mail 1 0 0) (bit_or was (2 ^ 0))) ∙ joined_here was 0)

-- so what the second collects is not 0
pub not_none : (h k : F) (mail : ℕ) (o : Option Letter) → (at h).own.number ≡ 1 → bit_at (memory h (Mail 1 0 0)) 0 ≡ 1 → IsOneStep courier_first h (Collected 0 0 mail) k → (o ≡ None → mail ≡ 0) → o ≡ None → ⊥
not_none h k mail o one on did none e =
    let found : mail ≡ memory h (Mail 1 0 0) = did.step.allowed.3 ∙ ap (λ (j : ℕ). memory h (Mail j 0 0)) one in
    let off : bit_at mail 0 ≡ 0 = ap (λ (m : ℕ). bit_at m 0) (none e) ∙ bit_at-zero 0 in
    let same : bit_at mail 0 ≡ bit_at (memory h (Mail 1 0 0)) 0 = ap (λ (m : ℕ). bit_at m 0) found in
    omega (arith, off, same, on)

-- an answer that is there, and is the letter
pub is_some : (o : Option Letter) (letter : Letter) → (o ≡ None → ⊥) → IfSome o (λ got. got ≡ letter) → o ≡ Some letter
is_some None letter came h = absurd (came refl)
is_some (Some got) letter came h = ap Some h
