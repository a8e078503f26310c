-- A call of a seat, from what is asked of it: the seat's own place is p, and the step is on the address A, which the call names as a.
use Rattle.std.proofs.Common.{◌≡◌, ℕ, true, List, sym, ap, ◌∙◌, subst, arith}
use Rattle.kit_ground.specs.declared.address.Address.{Address}
use Rattle.kit_ground.specs.declared.place.Deed.{Deed}
use Rattle.kit_ground.specs.declared.place.Place.{Place}
use Rattle.kit_ground.specs.Layout.{is_there}
use Rattle.kit_ground.specs.Rules.{Rule, WasFound}
use Rattle.kit_ground.specs.Steps.{Allowed, place_after, address_of}
use Rattle.kit_ground.proofs.WordSteps.{own_there}
use Rattle.kit_pool.specs.Doing.{WasAllowedStep}
use Rattle.kit_pool.specs.Seating.{Plans, place_in}
use Rattle.kit_pool.specs.Seats.{IsOwn, IsWithin}
use Rattle.kit_pool.proofs.Owning.{own_numbers}

module _ {V : Type 0} (rule : Rule V) (first : ℕ → V) (number n b : ℕ) (desk : List (Place V)) (own : IsOwn number n b desk) (within : IsWithin number n b)
    (next : Deed → Place V → V) (a A : Address) (e : a ≡ A) (f : ℕ → ℕ) (deed : ℕ → Deed) (plan : Plans rule next (place_in first desk) A f deed) where
  abbrev p : Place V
  p = place_in first desk

  pub plan_at : Plans rule next p a f deed
  plan_at = subst (λ (x : Address). Plans rule next p x f deed) (sym e) plan

  -- the word is there
  pub there_at : (m c : ℕ) → m ≡ n → c ≡ b → is_there m c a ≡ true
  there_at m c many wide =
      let numbers = own_numbers first number n b desk own in
      let is = numbers.0 in let have = numbers.1 in let inside = within.inside in
      let here : is_there p.own.federates p.own.buffers (address_of p.own (deed 0)) ≡ true = own_there p.own (deed 0) 0 (omega arith) (plan.allowed 0) in
      subst (λ (x : (ℕ × ℕ) × Address). is_there x.0.0 x.0.1 x.1 ≡ true) (λ t. (((numbers.1 ∙ sym many) t, (numbers.2 ∙ sym wide) t), (sym (plan.address 0) ∙ sym e) t)) here

  pub told_at : (x : ℕ) → WasFound rule p a x → WasFound rule p A x
  told_at x = subst (λ (y : Address). WasFound rule p y x) e

  -- the deed may be named by another number than the word that was found
  pub did_as : (x y : ℕ) → deed x ≡ deed y → WasFound rule p a y → (q : Place V) → q ≡ place_after next (deed x) p → WasAllowedStep rule p (deed x) q
  did_as x y same told q is =
      let t = told_at y told in
      let found : y ≡ t.0 (address_of p.own (deed x)) = sym t.3 ∙ ap t.0 (plan.address x) in
      let may : Allowed p.own (deed x) y = subst (λ (d : Deed). Allowed p.own d y) (sym same) (plan.allowed y) in
      record {
        memory = t.0;
        places = t.1;
        world = t.2;
        allowed = subst (λ (z : ℕ). Allowed p.own (deed x) z) found may;
        own = ap (λ (r : Place V). r.own) is;
      }

  pub did_at : (x : ℕ) → WasFound rule p a x → (q : Place V) → q ≡ place_after next (deed x) p → WasAllowedStep rule p (deed x) q
  did_at x = did_as x x (λ t. deed x)
