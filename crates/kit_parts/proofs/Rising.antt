-- The blocks of a federate rise strictly, from 1 to the end.
use Rattle.std.proofs.Common.{◌≡◌, ℕ, zero, suc, inl, inr, ◌*◌, ◌<◌, ◌≤◌, Bool, true, false, cond, List, [], ◌∷◌, length, get_or, filter, Option, Some, None, arith, refl}
use Rattle.std.specs.List.{AllByRecursion, AllPairs}
use Rattle.std.proofs.lemmas.Bool.{eqb-true}
use Rattle.std.proofs.lemmas.List.Elements.{All-from_recursion, Contains-get_or}
use Rattle.kit_base.proofs.Lists.{all-append}
use Rattle.kit_rules.specs.Parts.{Parts}
use Rattle.kit_rules.specs.Federation.{IsFederation}
use Rattle.kit_rules.specs.Simulation.{Block, World, next_grant, world_at_start, world_after_pair, next_world, after_grants, simulation}
use Rattle.kit_laws.proofs.Ascending.{blocks_ascend_law}
use Rattle.kit_laws.proofs.Rising.{grants}
use Rattle.kit_parts.specs.Fronts.{is_grant_of, part}
use Rattle.kit_parts.specs.OwnLaws.{PartsRise}
use Rattle.kit_parts.proofs.Among.{Among, filter_among, contains_among, each_of, for_each}
use Rattle.kit_parts.proofs.Orders.{Rises}
use Rattle.kit_parts.proofs.Ways.{OnWay, started_way, granted_way, next_block}
use Rattle.kit_parts.proofs.Merged.{Sooner, sooner_cases, grant_of, ascend_rises}

-- times of blocks
abbrev Fine : Parts → Block → Type 0
Fine p b = (1 ≤ b.time) × (b.time ≤ p.end)

fine_once : (p : Parts) (last : ℕ × ℕ) (w : World) (o : Option (ℕ × ℕ)) → IsFederation p → OnWay p last w → AllByRecursion (Fine p) w.blocks → next_grant p w ≡ o → (l : ℕ × ℕ) × OnWay p l (world_after_pair p w o) × AllByRecursion (Fine p) (world_after_pair p w o).blocks
fine_once p last w None f way h e = (last, way, h)
fine_once p last w (Some g) f way h e =
    let gr = grants p last w g way.reached e in
    (g, granted_way p last w g f way e, all-append (Fine p) w.blocks (next_block p w g ∷ []) h (((let a : 1 ≤ g.0 = omega (arith, gr.forward) in a), (let b : g.0 ≤ p.end = gr.capped in b)), tt))

fine_after : (p : Parts) (n : ℕ) (last : ℕ × ℕ) (w : World) → IsFederation p → OnWay p last w → AllByRecursion (Fine p) w.blocks → AllByRecursion (Fine p) (after_grants p n w).blocks
fine_after p zero last w f way h = h
fine_after p (suc n) last w f way h = let o = fine_once p last w (next_grant p w) f way h refl in fine_after p n o.0 (next_world p w) f o.1 o.2

-- the blocks of a federate rise
rises_filter : {X : Type 0} (lt : X → X → Type 0) (test : X → Bool) (xs : List X) → Rises lt xs → Rises lt (filter test xs)
rises_filter lt test [] h = tt
rises_filter lt test (x ∷ xs) h =
    elim (test x) as (λ b. Rises lt (cond b (x ∷ filter test xs) (filter test xs))) [
      | true ↦ (for_each (lt x) (filter test xs) (λ y a. each_of (lt x) y xs h.0 (filter_among test y xs a).0), rises_filter lt test xs h.1)
      | false ↦ rises_filter lt test xs h.1
    ]

rises_pairs : (i : ℕ) (bs : List Block) → Rises Sooner bs → ((b : Block) → Among b bs → b.federate ≡ i) → AllPairs (λ (a b : Block). a.time < b.time) bs
rises_pairs i [] r own a b d lt within = absurd (omega arith)
rises_pairs i (x ∷ xs) r own a zero d lt within = absurd (omega arith)
rises_pairs i (x ∷ xs) r own zero (suc b) d lt within =
    let y = get_or xs b d in
    let in_xs : Among y xs = contains_among y xs (Contains-get_or xs b d (omega arith)) in
    let s : Sooner x y = each_of (Sooner x) y xs r.0 in_xs in
    let ex : x.federate ≡ i = own x (inl refl) in
    let ey : y.federate ≡ i = own y (inr in_xs) in
    elim (sooner_cases (grant_of x) (grant_of y) s) [ inl l ↦ l | inr q ↦ absurd (let k : x.federate < y.federate = q.1 in omega arith) ]
rises_pairs i (x ∷ xs) r own (suc a) (suc b) d lt within = rises_pairs i xs r.1 (λ y h. own y (inr h)) a b d (omega arith) (omega arith)

part_federate : (p : Parts) (i : ℕ) (b : Block) → Among b (part p i) → b.federate ≡ i
part_federate p i b a = eqb-true b.federate i (filter_among (is_grant_of i) b (simulation p).blocks a).1

pub parts_rise_law : PartsRise
parts_rise_law p f i =
    let all : AllByRecursion (Fine p) (simulation p).blocks = fine_after p (length p.federates * p.end) (0, 0) (world_at_start p) f (started_way p f) tt in
    let Q : Block → Type 0 = λ b. (b.federate ≡ i) × (1 ≤ b.time) × (b.time ≤ p.end) in (
      rises_pairs i (part p i) (rises_filter Sooner (is_grant_of i) (simulation p).blocks (ascend_rises (simulation p).blocks (blocks_ascend_law p f))) (λ b a. part_federate p i b a),
      All-from_recursion Q (part p i) (for_each Q (part p i) (λ b a. let h = each_of (Fine p) b (simulation p).blocks all (filter_among (is_grant_of i) b (simulation p).blocks a).0 in (part_federate p i b a, h.0, h.1))),
    )
