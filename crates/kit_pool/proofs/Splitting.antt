-- A seat gives its first place to a new seat, and the table's rule at the opening.
use Rattle.std.proofs.Common.{◌≡◌, ◌≢◌, ◌⊎◌, ℕ, zero, suc, ◌+◌, ◌-◌, ◌<◌, ◌≤◌, List, [], ◌∷◌, ◌++◌, length, replicate, set, cond, refl, sym, ap, ◌∙◌, subst, ⊎_elim, inl, inr, arith, eqb, eq-eqb, ne_eqb, length-set}
use mathlib.Core.Option.{some, some-injective, some-ne-none}
use lib.ListN.{get_elem?}
use Rattle.atomic_table.specs.Table.{State, Splits}
use Rattle.atomic_table.proofs.Lists.{at_set}
use Rattle.kit_ground.specs.declared.place.Place.{Place}
use Rattle.kit_ground.specs.Layout.{memory_of, size_of}
use Rattle.kit_ground.specs.Memory.{Memory}
use Rattle.kit_ground.specs.Rules.{Rule, zero_memory, places_at_first, places_from}
use Rattle.kit_ground.specs.Words.{RuledWords}
use Rattle.kit_ground.proofs.Layouts.{memory_blank}
use Rattle.kit_ground.proofs.Lists.{at_inside}
use Rattle.kit_ground.proofs.PlainOpening.{ruled_opened}
use Rattle.kit_ground.proofs.Starts.{length_places_from}
use Rattle.kit_pool.specs.Seating.{DeskIsOwned, IsGuestBeside, TableHolds, own_of, others_of}
use Rattle.kit_pool.specs.Watching.{GuestsSee, place_at_first}
use Rattle.kit_pool.proofs.Holding.{held_with}

pub at_push : {A : Type 0} (l : List A) (a b : A) (j : ℕ) → get_elem? (l ++ a ∷ []) j ≡ some b → (get_elem? l j ≡ some b) ⊎ ((j ≡ length l) × (a ≡ b))
at_push [] a b zero e = inr (refl, some-injective a b e)
at_push [] a b (suc j) e = absurd (some-ne-none b (sym e))
at_push (x ∷ xs) a b zero e = inl e
at_push (x ∷ xs) a b (suc j) e = ⊎_elim (λ t. inl t) (λ t. inr (ap suc t.0, t.1)) (at_push xs a b j e)

-- the owner where the place `m` goes to the seat `new` alone
abbrev given : (ℕ → ℕ × ℕ) → ℕ → ℕ → ℕ → ℕ × ℕ
given owner m new k = cond (eqb k m) (new, 0) (owner k)

given_here : (owner : ℕ → ℕ × ℕ) (m new : ℕ) → given owner m new m ≡ (new, 0)
given_here owner m new = ap (λ b. cond b (new, 0) (owner m)) (eq-eqb m m refl)

given_else : (owner : ℕ → ℕ × ℕ) (m new k : ℕ) → k ≢ m → given owner m new k ≡ owner k
given_else owner m new k apart = ap (λ b. cond b (new, 0) (owner k)) (ne_eqb k m apart)

module _ {V : Type 0} where
  -- the places of so many seats, and of those that come after them
  places_joined : (first : ℕ → V) (n b k m g : ℕ) → places_from first n b k m ++ places_from first n b (k + m) g ≡ places_from first n b k (m + g)
  places_joined first n b k zero g =
      let start : k + 0 ≡ k = omega arith in let many : g ≡ 0 + g = omega arith in (λ t. places_from first n b (start t) (many t))
  places_joined first n b k (suc m) g =
      let start : k + suc m ≡ (k + 1) + m = omega arith in
      let many : suc (m + g) ≡ suc m + g = omega arith in
      ap (λ (x : ℕ). place_at_first first n b k ∷ (places_from first n b (k + 1) m ++ places_from first n b x g)) start
      ∙ (ap (λ (l : List (Place V)). place_at_first first n b k ∷ l) (places_joined first n b (k + 1) m g) ∙ ap (λ (x : ℕ). places_from first n b k x) many)

  from_first : (first : ℕ → V) (n b k m j : ℕ) → j < m → get_elem? (places_from first n b k m) j ≡ some (place_at_first first n b (k + j))
  from_first first n b k zero j h = absurd (omega arith)
  from_first first n b k (suc m) zero h = let e : k ≡ k + 0 = omega arith in ap (λ (x : ℕ). some (place_at_first first n b x)) e
  from_first first n b k (suc m) (suc j) h = let e : (k + 1) + j ≡ k + suc j = omega arith in from_first first n b (k + 1) m j (omega arith) ∙ ap (λ (x : ℕ). some (place_at_first first n b x)) e

  -- one seat has the places of all
  held_at_first : (first : ℕ → V) (n b all k m : ℕ) → k + m ≡ all → DeskIsOwned (places_from first n b 0 all) (λ j. (0, all - (j + 1))) 0 (places_from first n b k m)
  held_at_first first n b all k zero e = tt
  held_at_first first n b all k (suc m) e =
      let count = length_places_from first n b (k + 1) m in
      let behind : all - (k + 1) ≡ length (places_from first n b (k + 1) m) = omega arith in
      let same : 0 + k ≡ k = omega arith in (
        from_first first n b 0 all k (omega arith) ∙ ap (λ (x : ℕ). some (place_at_first first n b x)) same,
        ap (λ (x : ℕ). (0, x)) behind,
        held_at_first first n b all (k + 1) m (omega arith),
      )

  module _ (rule : Rule V) (first : ℕ → V) (n b g : ℕ) (front ws : List ℕ) (positive : 1 ≤ n) (few : n ≤ 16) (small : b ≤ 1024) (holds : rule.holds zero_memory (places_at_first first n b)) (sees : GuestsSee rule first n b g)
      (zeros : front ++ ws ≡ replicate (size_of n b) 0) where
    abbrev federates : List (Place V)
    federates = places_at_first first n b

    abbrev memory : Memory
    memory = memory_of (length federates) b (front ++ ws)

    ruled : RuledWords rule b (front ++ ws) federates
    ruled = subst (λ (l : List ℕ). RuledWords rule b l federates) (sym zeros) (ruled_opened {O = Unit {0}} rule (λ _. first) tt n b positive few small holds).words

    blank : zero_memory ≡ memory
    blank = sym (memory_blank n b) ∙ (λ t. memory_of (sym (length_places_from first n b 0 n) t) b (sym zeros t))

    watched : (k : ℕ) (p : Place V) → get_elem? (places_from first n b n g) k ≡ some p → IsGuestBeside rule b memory federates p
    watched k p e =
        let inside : k < g = subst (λ (x : ℕ). k < x) (length_places_from first n b n g) (at_inside (places_from first n b n g) k p e) in
        let is : place_at_first first n b (n + k) ≡ p = some-injective _ _ (sym (from_first first n b n g k inside) ∙ e) in
        let many : length federates ≡ n = length_places_from first n b 0 n in
        let there : length federates ≤ n + k = omega (arith, many) in
        subst (IsGuestBeside rule b memory federates) is record {
          buffers = refl;
          world = record { floor = ruled.floor; client = ruled.client; federates = sym many; number = there; sees = subst (λ (m : Memory). rule.sees m federates (place_at_first first n b (n + k))) blank (sees k inside) };
        }

    -- the table's rule at the opening, where one seat has all places
    pub opens : TableHolds rule n b front ws (places_from first n b 0 (n + g) ∷ [])
    opens =
        let start : 0 + n ≡ n = omega arith in
        let all : places_from first n b 0 (n + g) ≡ federates ++ places_from first n b n g =
        sym (ap (λ (x : ℕ). federates ++ places_from first n b x g) (sym start) ∙ places_joined first n b 0 n g) in
        record {
          federates = federates;
          guests = places_from first n b n g;
          owner = λ j. (0, (n + g) - (j + 1));
          many = length_places_from first n b 0 n;
          ruled = ruled;
          watched = watched;
          held = λ seat desk e. subst (λ (l : List (Place V)). DeskIsOwned l (λ j. (0, (n + g) - (j + 1))) seat desk) all (one seat desk e);
        }
      where
        one : (seat : ℕ) (desk : List (Place V)) → get_elem? (places_from first n b 0 (n + g) ∷ []) seat ≡ some desk → DeskIsOwned (places_from first n b 0 (n + g)) (λ j. (0, (n + g) - (j + 1))) seat desk
        one zero desk e = subst (DeskIsOwned (places_from first n b 0 (n + g)) (λ j. (0, (n + g) - (j + 1))) 0) (some-injective _ _ e) (held_at_first first n b (n + g) 0 (n + g) (omega arith))
        one (suc seat) desk e = absurd (some-ne-none desk (sym e))

  module _ (rule : Rule V) (n b : ℕ) (front ws : List ℕ) where
    -- the first place of a desk goes to a new seat
    split_one : (views : List (List (Place V))) (id : ℕ) (p : Place V) (ps : List (Place V)) → TableHolds rule n b front ws views → get_elem? views id ≡ some (p ∷ ps) → TableHolds rule n b front ws (set views id ps ++ (p ∷ []) ∷ [])
    split_one views id p ps r at =
        let m : ℕ = p.own.number in
        let new : ℕ = length views in
        let all : List (Place V) = r.federates ++ r.guests in
        let now : ℕ → ℕ × ℕ = given r.owner m new in
        let mine = r.held id (p ∷ ps) at in
        let else_owner : (k seat x : ℕ) → r.owner k ≡ (seat, x) → (seat, x) ≢ (id, length ps) → now k ≡ (seat, x) =
        λ k seat x e apart. given_else r.owner m new k (λ same. apart (sym e ∙ (ap r.owner same ∙ mine.1))) ∙ e in
        record {
          federates = r.federates;
          guests = r.guests;
          owner = now;
          many = r.many;
          ruled = r.ruled;
          watched = r.watched;
          held = λ seat desk e. ⊎_elim
              (λ (old : get_elem? (set views id ps) seat ≡ some desk). ⊎_elim
              (λ (t : (seat ≡ id) × (ps ≡ desk)). subst (λ (x : ℕ × List (Place V)). DeskIsOwned all now x.0 x.1) (λ i. (sym t.0 i, t.1 i))
              (held_with all r.owner now id id ps (λ k x lt e'. else_owner k id x e' (λ bad. let b : x ≡ length ps = ap (λ (y : ℕ × ℕ). y.1) bad in omega arith)) mine.2))
              (λ (t : (seat ≢ id) × (get_elem? views seat ≡ some desk)). held_with all r.owner now seat seat desk (λ k x lt e'. else_owner k seat x e' (λ bad. t.0 (ap (λ (y : ℕ × ℕ). y.0) bad))) (r.held seat desk t.1))
              (at_set views id seat ps desk old))
              (λ (new' : (seat ≡ length (set views id ps)) × ((p ∷ []) ≡ desk)). subst (λ (x : ℕ × List (Place V)). DeskIsOwned all now x.0 x.1) (λ i. (sym (new'.0 ∙ length-set views id ps) i, new'.1 i))
              (mine.0, given_here r.owner m new, tt))
              (at_push (set views id ps) (p ∷ []) desk seat e);
        }

    -- a desk with no place is split in two of them
    split_none : (views : List (List (Place V))) (id : ℕ) → TableHolds rule n b front ws views → TableHolds rule n b front ws (set views id [] ++ [] ∷ [])
    split_none views id r = record {
      federates = r.federates;
      guests = r.guests;
      owner = r.owner;
      many = r.many;
      ruled = r.ruled;
      watched = r.watched;
      held = λ seat desk e. ⊎_elim
          (λ (old : get_elem? (set views id []) seat ≡ some desk). ⊎_elim
          (λ (t : (seat ≡ id) × ([] ≡ desk)). subst (λ (d : List (Place V)). DeskIsOwned (r.federates ++ r.guests) r.owner seat d) t.1 tt)
          (λ (t : (seat ≢ id) × (get_elem? views seat ≡ some desk)). r.held seat desk t.1)
          (at_set views id seat [] desk old))
          (λ (new' : (seat ≡ length (set views id [])) × ([] ≡ desk)). subst (λ (d : List (Place V)). DeskIsOwned (r.federates ++ r.guests) r.owner seat d) new'.1 tt)
          (at_push (set views id []) [] desk seat e);
    }

    split_at : (views : List (List (Place V))) (id : ℕ) (desk : List (Place V)) → TableHolds rule n b front ws views → get_elem? views id ≡ some desk → TableHolds rule n b front ws (set views id (others_of desk) ++ own_of desk ∷ [])
    split_at views id [] r at = split_none views id r
    split_at views id (p ∷ ps) r at = split_one views id p ps r at

  pub splits : {S : Type 0} (rule : Rule V) (n b : ℕ) (front : List ℕ) (id : ℕ) (desk : List (Place V)) → Splits (λ (s : State S (List (Place V))). TableHolds rule n b front s.words s.views) id desk (others_of desk) (own_of desk)
  splits rule n b front id desk s r at = split_at rule n b front s.words s.views id desk r at
