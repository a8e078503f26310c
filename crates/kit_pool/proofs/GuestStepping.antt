-- What a guest's seat asks of its table at a look, and what it is told; and that its places stay those of guests.
use Rattle.std.proofs.Common.{◌≡◌, ◌⊎◌, ℕ, zero, suc, ◌+◌, ◌<◌, ◌≤◌, true, List, [], ◌∷◌, ◌++◌, length, sym, ap, ◌∙◌, subst, ⊎_elim, inl, inr, arith}
use mathlib.Core.Option.{some, some-injective}
use lib.ListN.{get_elem?}
use Rattle.atomic_table.specs.Seated.{TableId}
use Rattle.atomic_table.specs.Table.{State, Me, Allows}
use Rattle.kit_ground.specs.declared.address.Address.{Address}
use Rattle.kit_ground.specs.declared.place.Deed.{Deed}
use Rattle.kit_ground.specs.declared.place.Place.{Place}
use Rattle.kit_ground.specs.Layout.{index_of, is_there}
use Rattle.kit_ground.specs.Rules.{Rule}
use Rattle.kit_ground.specs.Steps.{place_after, address_of}
use Rattle.kit_ground.proofs.Layouts.{on_floor}
use Rattle.kit_pool.specs.Seating.{TableHolds, others_of, place_in}
use Rattle.kit_pool.specs.Seats.{IsOwn, IsSized}
use Rattle.kit_pool.specs.Watching.{AreGuests, GuestPlans, IsGuestWithin, LookIsTold}
use Rattle.kit_ground.specs.Guests.{WasSeen}
use Rattle.kit_pool.proofs.GuestSteps.{look_there, sees}
use Rattle.kit_pool.proofs.Owning.{desk_is, on_own, own_numbers}

module _ {V : Type 0} (rule : Rule V) (first : ℕ → V) where
  abbrev Ps : Type 0
  Ps = List (Place V)

  module _ (front : ℕ → List ℕ) (number n b kn kb : ℕ) (laid : (kn ≡ n) × (kb ≡ b)) {S : Type 0} (me : Me S Ps) (own : IsOwn number n b me.0) (within : IsGuestWithin number n b)
      (next : Deed → Place V → V) (i : ℕ) (a : Address) (place : length (front n) + i ≡ index_of n b a) (deed : ℕ → Deed) (plan : GuestPlans rule next (place_in first me.0) a deed) where
    abbrev mine : Place V
    mine = place_in first me.0

    -- the word that is looked at is there
    pub seen_there : is_there n b a ≡ true
    seen_there =
        let numbers = own_numbers first number n b me.0 own in
        let here : is_there mine.own.federates mine.own.buffers (address_of mine.own (deed 0)) ≡ true = look_there mine.own (deed 0) 0 (plan.looks 0) (plan.allowed 0) in
        subst (λ (x : (ℕ × ℕ) × Address). is_there x.0.0 x.0.1 x.1 ≡ true) (λ t. ((numbers.1 t, numbers.2 t), sym (plan.address 0) t)) here

    -- and is one of the table
    pub word_inside : (table : TableId) → IsSized (front n) n b table → i < table.words
    word_inside table sized =
        let below = on_floor n b a seen_there in
        let all = sized.words in
        omega arith

    place' : length (front kn) + i ≡ index_of kn kb a
    place' = subst (λ (x : ℕ × ℕ). length (front x.0) + i ≡ index_of x.0 x.1 a) (λ t. (sym laid.0 t, sym laid.1 t)) place

    behind : kn ≤ mine.own.number
    behind = let is = (own_numbers first number n b me.0 own).0 in let after = within.behind in let many = laid.0 in omega arith

    pub may_look : (slots id : ℕ) → Allows (λ (s : State S Ps). TableHolds rule kn kb (front kn) s.words s.views) slots id me i (λ x. x) (λ x after. LookIsTold rule next deed me x after)
    may_look slots id = sees rule kn kb (front kn) next slots id me mine (others_of me.0) (desk_is first me.0 own.there) behind i a place' deed plan

    pub was_seen : (after : Me S Ps) (x : ℕ) → LookIsTold rule next deed me x after → (after.0 ≡ place_after next (deed x) mine ∷ others_of me.0) × (after.1 ≡ me.1) × WasSeen rule mine a x
    was_seen after x h =
        let t = on_own first (λ p ps. (after.0 ≡ place_after next (deed x) p ∷ ps) × (after.1 ≡ me.1) × WasSeen rule p (address_of p.own (deed x)) x) me.0 own.there h in
        (t.0, t.1, subst (λ (y : Address). WasSeen rule mine y x) (sym (plan.address x)) t.2)

at_either : {A : Type 0} (d e : List A) (k : ℕ) (p : A) → get_elem? (d ++ e) k ≡ some p → (get_elem? d k ≡ some p) ⊎ ((j : ℕ) × (get_elem? e j ≡ some p))
at_either [] e k p at = inr (k, at)
at_either (x ∷ xs) e zero p at = inl at
at_either (x ∷ xs) e (suc k) p at = at_either xs e k p at

module _ {V : Type 0} (n : ℕ) where
  pub guests_after_step : (next : Deed → Place V → V) (deed : Deed) (p : Place V) (ps desk now : List (Place V)) → desk ≡ p ∷ ps → now ≡ place_after next deed p ∷ ps → AreGuests n desk → AreGuests n now
  guests_after_step next deed p ps desk now was is guests = subst (AreGuests n) (sym is) stepped
    where
      old : AreGuests n (p ∷ ps)
      old = subst (AreGuests n) was guests

      stepped : AreGuests n (place_after next deed p ∷ ps)
      stepped zero q e = subst (λ (x : Place V). n ≤ x.own.number) (some-injective _ _ e) (old 0 p (λ t. some p))
      stepped (suc k) q e = old (suc k) q e

  pub guests_after_join : (d e now : List (Place V)) → now ≡ d ++ e → AreGuests n d → AreGuests n e → AreGuests n now
  guests_after_join d e now is gd ge = λ k p at. ⊎_elim (gd k p) (λ (t : (j : ℕ) × (get_elem? e j ≡ some p)). ge t.0 p t.1) (at_either d e k p (ap (λ l. get_elem? l k) (sym is) ∙ at))
