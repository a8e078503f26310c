-- A seat takes another in: it has the other's places behind its own, and the other has none.
use Rattle.std.proofs.Common.{◌≡◌, ◌≢◌, ℕ, ◌+◌, ◌<◌, List, [], ◌∷◌, ◌++◌, length, set, cond, refl, sym, ap, ◌∙◌, subst, ⊎_elim, arith, eqb, eq-eqb, ne_eqb}
use mathlib.Core.Option.{some}
use lib.ListN.{get_elem?}
use Rattle.atomic_table.specs.Table.{State, Joins}
use Rattle.atomic_table.proofs.Lists.{at_set, set_else}
use Rattle.kit_ground.specs.declared.place.Place.{Place}
use Rattle.kit_ground.specs.Rules.{Rule}
use Rattle.kit_pool.specs.Seating.{DeskIsOwned, TableHolds}
use Rattle.kit_pool.specs.Seats.{IsOwn}
use Rattle.kit_pool.proofs.Holding.{held_before, held_with}

-- the owner where the places of `other` go behind those of `id`, which are then `shift` further in front
abbrev moved : (ℕ → ℕ × ℕ) → ℕ → ℕ → ℕ → ℕ → ℕ × ℕ
moved owner other id shift k = cond (eqb (owner k).0 other) (id, (owner k).1) (cond (eqb (owner k).0 id) (id, (owner k).1 + shift) (owner k))

module _ (owner : ℕ → ℕ × ℕ) (other id shift k : ℕ) where
  moved_other : (owner k).0 ≡ other → moved owner other id shift k ≡ (id, (owner k).1)
  moved_other e = ap (λ b. cond b (id, (owner k).1) (cond (eqb (owner k).0 id) (id, (owner k).1 + shift) (owner k))) (eq-eqb (owner k).0 other e)

  moved_own : (owner k).0 ≢ other → (owner k).0 ≡ id → moved owner other id shift k ≡ (id, (owner k).1 + shift)
  moved_own apart e =
      ap (λ b. cond b (id, (owner k).1) (cond (eqb (owner k).0 id) (id, (owner k).1 + shift) (owner k))) (ne_eqb (owner k).0 other apart)
      ∙ ap (λ b. cond b (id, (owner k).1 + shift) (owner k)) (eq-eqb (owner k).0 id e)

  moved_else : (owner k).0 ≢ other → (owner k).0 ≢ id → moved owner other id shift k ≡ owner k
  moved_else apart e =
      ap (λ b. cond b (id, (owner k).1) (cond (eqb (owner k).0 id) (id, (owner k).1 + shift) (owner k))) (ne_eqb (owner k).0 other apart)
      ∙ ap (λ b. cond b (id, (owner k).1 + shift) (owner k)) (ne_eqb (owner k).0 id e)

module _ {V : Type 0} where
  join_at : (rule : Rule V) (n b : ℕ) (front ws : List ℕ) (views : List (List (Place V))) (id other : ℕ) (d e : List (Place V)) → TableHolds rule n b front ws views → get_elem? views id ≡ some d → other ≢ id
      → get_elem? (set views id (d ++ e)) other ≡ some e → TableHolds rule n b front ws (set (set views id (d ++ e)) other [])
  join_at rule n b front ws views id other d e r at apart there =
      let all : List (Place V) = r.federates ++ r.guests in
      let now : ℕ → ℕ × ℕ = moved r.owner other id (length e) in
      let vs : List (List (Place V)) = set views id (d ++ e) in
      let theirs : get_elem? views other ≡ some e = sym (set_else views id other (d ++ e) apart) ∙ there in
      let seat_of : (k seat x : ℕ) → r.owner k ≡ (seat, x) → (r.owner k).0 ≡ seat = λ k seat x q. ap (λ (y : ℕ × ℕ). y.0) q in
      let keep : (k seat x : ℕ) → r.owner k ≡ (seat, x) → seat ≢ other → seat ≢ id → now k ≡ (seat, x) =
      λ k seat x q other' id'. moved_else r.owner other id (length e) k (λ same. other' (sym (seat_of k seat x q) ∙ same)) (λ same. id' (sym (seat_of k seat x q) ∙ same)) ∙ q in
      let mine : (k x : ℕ) → r.owner k ≡ (id, x) → now k ≡ (id, x + length e) =
      λ k x q. moved_own r.owner other id (length e) k (λ same. apart (sym same ∙ seat_of k id x q)) (seat_of k id x q) ∙ ap (λ (y : ℕ × ℕ). (id, y.1 + length e)) q in
      let came : (k x : ℕ) → r.owner k ≡ (other, x) → now k ≡ (id, x) =
      λ k x q. moved_other r.owner other id (length e) k (seat_of k other x q) ∙ ap (λ (y : ℕ × ℕ). (id, y.1)) q in
      record {
        federates = r.federates;
        guests = r.guests;
        owner = now;
        many = r.many;
        ruled = r.ruled;
        watched = r.watched;
        held = λ seat desk q. ⊎_elim
            (λ (t : (seat ≡ other) × ([] ≡ desk)). subst (λ (x : List (Place V)). DeskIsOwned all now seat x) t.1 tt)
            (λ (t : (seat ≢ other) × (get_elem? vs seat ≡ some desk)). ⊎_elim
            (λ (u : (seat ≡ id) × ((d ++ e) ≡ desk)). subst (λ (x : ℕ × List (Place V)). DeskIsOwned all now x.0 x.1) (λ i. (sym u.0 i, u.1 i))
            (held_before all r.owner now id id d e (λ k x lt. mine k x) (r.held id d at) (held_with all r.owner now other id e (λ k x lt. came k x) (r.held other e theirs))))
            (λ (u : (seat ≢ id) × (get_elem? views seat ≡ some desk)). held_with all r.owner now seat seat desk (λ k x lt q'. keep k seat x q' t.0 u.0) (r.held seat desk u.1))
            (at_set views id seat (d ++ e) desk t.1))
            (at_set vs other seat [] desk q);
      }

  pub joins : {S : Type 0} (rule : Rule V) (n b : ℕ) (front : List ℕ) (id : ℕ) (d : List (Place V)) (other : ℕ) (e : List (Place V)) → Joins (λ (s : State S (List (Place V))). TableHolds rule n b front s.words s.views) id d other e (d ++ e) []
  joins rule n b front id d other e s r at apart there = join_at rule n b front s.words s.views id other d e r at apart there

  own_before : (d e : List (Place V)) → 0 < length d → (get_elem? (d ++ e) 0 ≡ get_elem? d 0) × (0 < length (d ++ e))
  own_before [] e there = absurd (omega arith)
  own_before (p ∷ ps) e there = (refl, omega arith)

  -- a seat's own place stays its first
  pub own_after_join : (number n b : ℕ) (d e now : List (Place V)) → now ≡ d ++ e → IsOwn number n b d → IsOwn number n b now
  own_after_join number n b d e now is s = subst (IsOwn number n b) (sym is) (record { there = (own_before d e s.there).1; own = λ p q. s.own p (sym (own_before d e s.there).0 ∙ q) })
