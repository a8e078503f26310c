-- What a seat asks of its table at a step, and what it is told.
use Rattle.std.proofs.Common.{◌≡◌, ◌==◌, ℕ, ◌+◌, ◌<◌, Bool, true, false, List, ◌∷◌, length, refl, sym, subst, arith}
use Rattle.std.proofs.lemmas.Bool.Decides.{nat_tests}
use Rattle.std.specs.Prelude.{MatchBool}
use Rattle.atomic_table.specs.Seated.{TableId}
use Rattle.atomic_table.specs.Table.{State, Me, Allows}
use Rattle.kit_ground.specs.declared.address.Address.{Address}
use Rattle.kit_ground.specs.declared.place.Deed.{Deed}
use Rattle.kit_ground.specs.declared.place.Place.{Place}
use Rattle.kit_ground.specs.Layout.{index_of, is_there}
use Rattle.kit_ground.specs.Rules.{Rule, WasFound}
use Rattle.kit_ground.specs.Steps.{place_after, address_of}
use Rattle.kit_ground.proofs.Layouts.{on_floor}
use Rattle.kit_ground.proofs.WordSteps.{own_there}
use Rattle.kit_pool.specs.Seating.{FindingIsTold, Plans, TableHolds, StoreIsTold, ZeroIsTold, others_of, place_in}
use Rattle.kit_pool.specs.Seats.{IsOwn, IsSized, IsWithin}
use Rattle.kit_pool.proofs.Owning.{desk_is, on_own, own_after_step, own_numbers}
use Rattle.kit_pool.proofs.SeatSteps.{finds, finds_zero, stores}

module _ {V : Type 0} (rule : Rule V) (first : ℕ → V) where
  abbrev Ps : Type 0
  Ps = List (Place V)

  module _ (front : ℕ → List ℕ) (number n b kn kb : ℕ) (laid : (kn ≡ n) × (kb ≡ b)) {S : Type 0} (me : Me S Ps) (own : IsOwn number n b me.0)
      (next : Deed → Place V → V) (i : ℕ) (a : Address) (place : length (front n) + i ≡ index_of n b a) where
    abbrev mine : Place V
    mine = place_in first me.0

    place' : length (front kn) + i ≡ index_of kn kb a
    place' = subst (λ (x : ℕ × ℕ). length (front x.0) + i ≡ index_of x.0 x.1 a) (λ t. (sym laid.0 t, sym laid.1 t)) place

    -- the word is one of the table
    pub word_inside : (table : TableId) → IsWithin number n b → IsSized (front n) n b table → (f : ℕ → ℕ) (deed : ℕ → Deed) → Plans rule next mine a f deed → i < table.words
    word_inside table within sized f deed plan =
        let numbers = own_numbers first number n b me.0 own in
        let is = numbers.0 in let many = numbers.1 in let inside = within.inside in
        let here : is_there mine.own.federates mine.own.buffers (address_of mine.own (deed 0)) ≡ true = own_there mine.own (deed 0) 0 (omega arith) (plan.allowed 0) in
        let there : is_there n b a ≡ true = subst (λ (x : (ℕ × ℕ) × Address). is_there x.0.0 x.0.1 x.1 ≡ true) (λ t. ((numbers.1 t, numbers.2 t), sym (plan.address 0) t)) here in
        let below = on_floor n b a there in
        let all = sized.words in
        omega arith

    -- it is that of a federate
    inside : IsWithin number n b → mine.own.number < kn
    inside within = let is = (own_numbers first number n b me.0 own).0 in let below = within.inside in let many = laid.0 in omega arith

    pub may_find : IsWithin number n b → (slots id : ℕ) (f : ℕ → ℕ) (deed : ℕ → Deed) → Plans rule next mine a f deed
        → Allows (λ (s : State S Ps). TableHolds rule kn kb (front kn) s.words s.views) slots id me i f (λ x after. FindingIsTold rule next deed me x after)
    may_find within slots id f deed plan = finds rule kn kb (front kn) next slots id me mine (others_of me.0) (desk_is first me.0 own.there) (inside within) i a place' f deed plan

    pub may_find_zero : IsWithin number n b → (slots id : ℕ) (f : ℕ → ℕ) (deed : ℕ → Deed) → Plans rule next mine a f deed → f 0 ≡ 0
        → Allows (λ (s : State S Ps). TableHolds rule kn kb (front kn) s.words s.views) slots id me i (λ x. x) (λ x after. ZeroIsTold rule next deed me x after)
    may_find_zero within slots id f deed plan stays = finds_zero rule kn kb (front kn) next slots id me mine (others_of me.0) (desk_is first me.0 own.there) (inside within) i a place' f deed plan stays

    pub may_store : IsWithin number n b → (slots id v : ℕ) (deed : ℕ → Deed) → Plans rule next mine a (λ _. v) (λ _. deed v)
        → Allows (λ (s : State S Ps). TableHolds rule kn kb (front kn) s.words s.views) slots id me i (λ _. v) (λ _. StoreIsTold rule next deed me v)
    may_store within slots id v deed plan = stores rule kn kb (front kn) next slots id me mine (others_of me.0) (desk_is first me.0 own.there) (inside within) i a place' v deed plan

    module _ (after : Me S Ps) (deed : ℕ → Deed) (x : ℕ) where
      abbrev pub Told_so : Type 0 → Type 0
      Told_so T = (after.0 ≡ place_after next (deed x) mine ∷ others_of me.0) × (after.1 ≡ me.1) × T

      pub was_found : (f : ℕ → ℕ) → Plans rule next mine a f deed → FindingIsTold rule next deed me x after → Told_so (WasFound rule mine a x)
      was_found f plan h =
          let t = on_own first (λ p ps. (after.0 ≡ place_after next (deed x) p ∷ ps) × (after.1 ≡ me.1) × WasFound rule p (address_of p.own (deed x)) x) me.0 own.there h in
          (t.0, t.1, subst (λ (y : Address). WasFound rule mine y x) (sym (plan.address x)) t.2)

      pub was_stored : (f : ℕ → ℕ) → Plans rule next mine a f (λ _. deed x) → StoreIsTold rule next deed me x after → Told_so ((found : ℕ) × WasFound rule mine a found)
      was_stored f plan h =
          let t = on_own first (λ p ps. (after.0 ≡ place_after next (deed x) p ∷ ps) × (after.1 ≡ me.1) × ((found : ℕ) × WasFound rule p (address_of p.own (deed x)) found)) me.0 own.there h in
          (t.0, t.1, (t.2.0, subst (λ (y : Address). WasFound rule mine y t.2.0) (sym (plan.address x)) t.2.1))

      abbrev Zero : Bool → Type 0
      Zero t = MatchBool t (FindingIsTold rule next deed me x after) (after ≡ me)

      pub was_zero : (f : ℕ → ℕ) → Plans rule next mine a f deed → (x == 0) ≡ true → ZeroIsTold rule next deed me x after → (after.0 ≡ place_after next (deed 0) mine ∷ others_of me.0) × (after.1 ≡ me.1) × WasFound rule mine a 0
      was_zero f plan e h =
          let zero : x ≡ 0 = grind (arith, nat_tests) in
          subst (λ (y : ℕ). (after.0 ≡ place_after next (deed y) mine ∷ others_of me.0) × (after.1 ≡ me.1) × WasFound rule mine a y) zero (was_found f plan (subst Zero e h))

      pub was_other : (x == 0) ≡ false → ZeroIsTold rule next deed me x after → after ≡ me
      was_other e h = subst Zero e h

      -- either way the seat's own place has its numbers, and it holds the slots that it held
      pub own_after_look : (f : ℕ → ℕ) → Plans rule next mine a f deed → ZeroIsTold rule next deed me x after → IsOwn number n b after.0 × (after.1 ≡ me.1)
      own_after_look f plan h = by_test (x == 0) refl
        where
          by_test : (t : Bool) → (x == 0) ≡ t → IsOwn number n b after.0 × (after.1 ≡ me.1)
          by_test true e = let t = was_zero f plan e h in (own_after_step first number n b me.0 own after.0 next (deed 0) t.0, t.1)
          by_test false e = subst (λ (y : Me S Ps). IsOwn number n b y.0 × (y.1 ≡ me.1)) (sym (was_other e h)) (own, refl)
