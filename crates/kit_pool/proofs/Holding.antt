-- Which places a seat has, when a place changes and when another seat has it.
use Rattle.std.proofs.Common.{◌≡◌, ◌≢◌, ℕ, zero, suc, ◌+◌, ◌<◌, ◌≤◌, List, [], ◌∷◌, ◌++◌, length, set, sym, ap, ◌∙◌, subst, ⊎_elim, arith, length-append}
use mathlib.Core.Option.{some, some-injective, some-ne-none}
use lib.ListN.{get_elem?}
use Rattle.atomic_table.proofs.Lists.{at_set, set_else, set_here}
use Rattle.kit_ground.specs.declared.place.Deed.{Deed}
use Rattle.kit_ground.specs.declared.place.Place.{Place}
use Rattle.kit_ground.specs.Steps.{place_after}
use Rattle.kit_ground.proofs.Lists.{at_inside}
use Rattle.kit_pool.specs.Seating.{DeskIsOwned}

module _ {V : Type 0} where
  -- a seat that has no place with this number keeps its places where that place changes
  pub held_apart : (all : List (Place V)) (owner : ℕ → ℕ × ℕ) (seat m id : ℕ) (q : Place V) (desk : List (Place V)) → (owner m).0 ≡ id → seat ≢ id → DeskIsOwned all owner seat desk → DeskIsOwned (set all m q) owner seat desk
  held_apart all owner seat m id q [] of apart h = tt
  held_apart all owner seat m id q (p ∷ ps) of apart h =
      let other : p.own.number ≢ m = λ e. apart (ap (λ (x : ℕ × ℕ). x.0) (sym h.1) ∙ (ap (λ (k : ℕ). (owner k).0) e ∙ of)) in
      (set_else all m p.own.number q other ∙ h.0, h.1, held_apart all owner seat m id q ps of apart h.2)

  -- and so it is of the places behind the one that changes
  pub held_behind : (all : List (Place V)) (owner : ℕ → ℕ × ℕ) (seat m k : ℕ) (q : Place V) (ps : List (Place V)) → owner m ≡ (seat, k) → length ps ≤ k → DeskIsOwned all owner seat ps → DeskIsOwned (set all m q) owner seat ps
  held_behind all owner seat m k q [] of short h = tt
  held_behind all owner seat m k q (p ∷ ps) of short h =
      let other : p.own.number ≢ m = λ e. let same : length ps ≡ k = ap (λ (x : ℕ × ℕ). x.1) (sym h.1 ∙ (ap owner e ∙ of)) in absurd (omega arith) in
      (set_else all m p.own.number q other ∙ h.0, h.1, held_behind all owner seat m k q ps of (omega arith) h.2)

  -- a seat's own place changes by a step: each seat has its places again
  pub held_after : (all : List (Place V)) (owner : ℕ → ℕ × ℕ) (desks : List (List (Place V))) (id : ℕ) (p : Place V) (ps : List (Place V)) (next : Deed → Place V → V) (deed : Deed)
      → ((seat : ℕ) (desk : List (Place V)) → get_elem? desks seat ≡ some desk → DeskIsOwned all owner seat desk) → get_elem? desks id ≡ some (p ∷ ps)
      → (seat : ℕ) (desk : List (Place V)) → get_elem? (set desks id (place_after next deed p ∷ ps)) seat ≡ some desk → DeskIsOwned (set all p.own.number (place_after next deed p)) owner seat desk
  held_after all owner desks id p ps next deed held at seat desk e =
      let m : ℕ = p.own.number in
      let after : Place V = place_after next deed p in
      let mine = held id (p ∷ ps) at in
      let short : length ps ≤ length ps = omega arith in
      ⊎_elim
      (λ (t : (seat ≡ id) × (after ∷ ps ≡ desk)). subst (λ (x : ℕ × List (Place V)). DeskIsOwned (set all m after) owner x.0 x.1) (λ k. (sym t.0 k, t.1 k))
      (set_here all m after (at_inside all m p mine.0), mine.1, held_behind all owner id m (length ps) after ps mine.1 short mine.2))
      (λ (t : (seat ≢ id) × (get_elem? desks seat ≡ some desk)). held_apart all owner seat m id after desk (ap (λ (x : ℕ × ℕ). x.0) mine.1) t.0 (held seat desk t.1))
      (at_set desks id seat (after ∷ ps) desk e)

  -- another owner that says of each place of a desk that it lies with `new`, as far in front
  pub held_with : (all : List (Place V)) (owner now : ℕ → ℕ × ℕ) (seat new : ℕ) (desk : List (Place V)) → ((k r : ℕ) → r < length desk → owner k ≡ (seat, r) → now k ≡ (new, r)) → DeskIsOwned all owner seat desk → DeskIsOwned all now new desk
  held_with all owner now seat new [] same h = tt
  held_with all owner now seat new (p ∷ ps) same h = (h.0, same p.own.number (length ps) (omega arith) h.1, held_with all owner now seat new ps (λ k r lt. same k r (omega arith)) h.2)

  -- the places of one seat in front of others
  pub held_before : (all : List (Place V)) (owner now : ℕ → ℕ × ℕ) (seat new : ℕ) (desk back : List (Place V)) → ((k r : ℕ) → r < length desk → owner k ≡ (seat, r) → now k ≡ (new, r + length back))
      → DeskIsOwned all owner seat desk → DeskIsOwned all now new back → DeskIsOwned all now new (desk ++ back)
  held_before all owner now seat new [] back same h b = b
  held_before all owner now seat new (p ∷ ps) back same h b =
      let r : ℕ = length ps in
      let len : r + length back ≡ length (ps ++ back) = omega (arith, length-append ps back) in
      (h.0, same p.own.number r (omega arith) h.1 ∙ ap (λ (x : ℕ). (new, x)) len, held_before all owner now seat new ps back (λ k x lt. same k x (omega arith)) h.2 b)

  -- a place that a seat has
  pub held_at : (all : List (Place V)) (owner : ℕ → ℕ × ℕ) (seat : ℕ) (desk : List (Place V)) → DeskIsOwned all owner seat desk → (k : ℕ) (p : Place V) → get_elem? desk k ≡ some p → get_elem? all p.own.number ≡ some p
  held_at all owner seat [] h k p e = absurd (some-ne-none p (sym e))
  held_at all owner seat (q ∷ qs) h zero p e = subst (λ (x : Place V). get_elem? all x.own.number ≡ some x) (some-injective q p e) h.0
  held_at all owner seat (q ∷ qs) h (suc k) p e = held_at all owner seat qs h.2 k p e
