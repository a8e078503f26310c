-- The grants of the simulation stand in the order of grant time and federate.
use Rattle.std.proofs.Common.{◌≡◌, ℕ, zero, suc, inl, inr, ◌*◌, ◌<◌, ◌≤◌, List, [], ◌∷◌, ◌++◌, length, Option, Some, None, IsTrue, true, arith, refl, sym, subst}
use Rattle.std.specs.List.{AllByRecursion}
use Rattle.std.proofs.lemmas.List.{map-append}
use Rattle.kit_rules.specs.Parts.{Parts}
use Rattle.kit_rules.specs.Federation.{IsFederation}
use Rattle.kit_rules.specs.Delivery.{due_messages}
use Rattle.kit_rules.specs.Simulation.{Block, World, is_sooner, seat_at, block, next_grant, world_at_start, world_after_grant, world_after_pair, next_world, after_grants}
use Rattle.kit_laws.specs.Laws.{grants_of, Ascend, BlocksAscend}
use Rattle.kit_laws.proofs.Least.{Rank, sooner_rank}
use Rattle.kit_base.proofs.Lists.{all-append, each_weaker}
use Rattle.kit_laws.proofs.Rising.{Reached, grants, started_reached, granted_reached}

-- pairs that are no later than the last
abbrev UpTo : ℕ × ℕ → ℕ × ℕ → Type 0
UpTo last x = (x.1 < 16) × (Rank x ≤ Rank last)

all_before : (g last : ℕ × ℕ) (xs : List (ℕ × ℕ)) → g.1 < 16 → Rank last < Rank g → AllByRecursion (UpTo last) xs → Ascend xs → Ascend (xs ++ g ∷ [])
all_before g last [] few lt h a = (tt, tt)
all_before g last (x ∷ xs) few lt h a =
    let s : is_sooner x g ≡ true = elim (sooner_rank x g h.0.0 few) [ inl e ↦ e.0 | inr e ↦ absurd (let le : Rank g ≤ Rank x = e.1 in let k : Rank x ≤ Rank last = h.0.1 in omega arith) ] in
    (all-append (λ y. IsTrue (is_sooner x y)) xs (g ∷ []) a.0 (s, tt), all_before g last xs few lt h.1 a.1)

record Climbs (p : Parts) (last : ℕ × ℕ) (w : World) : Type 0 where
  reached : Reached p last w
  upto : AllByRecursion (UpTo last) (grants_of w.blocks)
  ascend : Ascend (grants_of w.blocks)

climb : (p : Parts) (last : ℕ × ℕ) (w : World) (g : ℕ × ℕ) → IsFederation p → Climbs p last w → next_grant p w ≡ Some g → Climbs p g (world_after_grant p w g)
climb p last w g f c e =
    let gr = grants p last w g c.reached e in
    let few : g.1 < 16 = omega (arith, gr.within, c.reached.count, f.federates.count.1) in
    let due = due_messages p g.1 g.0 (seat_at w g.1).got w.messages in
    let all : grants_of (world_after_grant p w g).blocks ≡ grants_of w.blocks ++ g ∷ [] = map-append (λ (b : Block). (b.time, b.federate)) w.blocks (block g.1 g.0 due ∷ []) in
    let U : List (ℕ × ℕ) → Type 0 = AllByRecursion (UpTo g) in
    let here : UpTo g g = (few, omega arith) in
    record {
      reached = granted_reached p last w g f c.reached e;
      upto = subst U (sym all) (all-append (UpTo g) (grants_of w.blocks) (g ∷ []) (each_weaker (UpTo last) (UpTo g) (grants_of w.blocks) (λ x h. (h.0, let k : Rank x ≤ Rank last = h.1 in omega (arith, gr.rises))) c.upto) (here, tt));
      ascend = subst Ascend (sym all) (all_before g last (grants_of w.blocks) few gr.rises c.upto c.ascend);
    }

climb_once : (p : Parts) (last : ℕ × ℕ) (w : World) (o : Option (ℕ × ℕ)) → IsFederation p → Climbs p last w → next_grant p w ≡ o → (l : ℕ × ℕ) × Climbs p l (world_after_pair p w o)
climb_once p last w None f c e = (last, c)
climb_once p last w (Some g) f c e = (g, climb p last w g f c e)

climb_after : (p : Parts) (last : ℕ × ℕ) (w : World) (n : ℕ) → IsFederation p → Climbs p last w → (l : ℕ × ℕ) × Climbs p l (after_grants p n w)
climb_after p last w zero f c = (last, c)
climb_after p last w (suc n) f c = let o = climb_once p last w (next_grant p w) f c refl in climb_after p o.0 (next_world p w) n f o.1

pub blocks_ascend_law : BlocksAscend
blocks_ascend_law p f = (climb_after p (0, 0) (world_at_start p) (length p.federates * p.end) f (record { reached = started_reached p f; upto = tt; ascend = tt })).1.ascend
