-- There is one merge of parts, and that of the simulation's parts is the simulation.
use Rattle.std.proofs.Common.{◌≡◌, ℕ, inl, inr, ◌⊎◌, ◌<◌, true, ◌&&◌, nat_eq, nat_lt, IsTrue, List, [], ◌∷◌, length, map, arith, refl, sym, ap, ◌∙◌, subst}
use Rattle.std.specs.List.{AllByRecursion}
use Rattle.std.proofs.lemmas.Bool.{and_parts, or_cases, eqb-true, ltb-true, eq-eqb}
use Rattle.std.proofs.lemmas.List.{length-map, same_lists, get_or-map}
use Rattle.std.proofs.lemmas.List.Elements.{All-contains, All-from_recursion}
use Rattle.std.proofs.lemmas.List.FromFn.{get_or-map-range_with_len, length-map-range_with_len}
use Rattle.kit_base.specs.declared.history.Line.TheVariants as line
use Rattle.kit_rules.specs.Parts.{Parts}
use Rattle.kit_rules.specs.Federation.{IsFederation}
use Rattle.kit_rules.specs.Fits.{LineFits}
use Rattle.kit_rules.specs.Text.{history_text}
use Rattle.kit_rules.specs.Simulation.{Seat, Block, nobody_seated, is_sooner, block_lines, lines_of, simulation, closing_vars}
use Rattle.kit_laws.specs.Laws.{grants_of, Ascend}
use Rattle.kit_laws.proofs.Ascending.{blocks_ascend_law}
use Rattle.kit_laws.proofs.Fitting.{simulated_fits, simulated_count}
use Rattle.kit_parts.specs.Fronts.{seat_after, is_grant_of, part}
use Rattle.kit_parts.specs.Merging.{IsMerge, parts_of, vars_of, OneMerge, PartsMerge, PartsMakeTheText}
use Rattle.kit_parts.proofs.Among.{Among, among_right, among_filter, filter_among, among_contains, among_flat, for_each}
use Rattle.kit_parts.proofs.Orders.{Rises, one_ordered}
use Rattle.kit_parts.proofs.Whole.{whole_seat}

-- the grant of a block
abbrev pub grant_of : Block → ℕ × ℕ
grant_of b = (b.time, b.federate)

-- one block comes before another
abbrev pub Sooner : Block → Block → Type 0
Sooner a b = IsTrue (is_sooner (grant_of a) (grant_of b))

-- by numbers
pub sooner_cases : (a b : ℕ × ℕ) → is_sooner a b ≡ true → (a.0 < b.0) ⊎ ((a.0 ≡ b.0) × (a.1 < b.1))
sooner_cases a b h =
    elim (or_cases (nat_lt a.0 b.0) (nat_eq a.0 b.0 && nat_lt a.1 b.1) h) [
      | inl lt ↦ inl (ltb-true a.0 b.0 lt)
      | inr eq ↦ (let r = and_parts (nat_eq a.0 b.0) (nat_lt a.1 b.1) eq in inr (eqb-true a.0 b.0 r.0, ltb-true a.1 b.1 r.1))
    ]

pub sooner_never : (a b : Block) → Sooner a b → Sooner b a → ⊥
sooner_never a b x y =
    elim (sooner_cases (grant_of a) (grant_of b) x) [
      | inl l ↦ elim (sooner_cases (grant_of b) (grant_of a) y) [
        | inl k ↦ (let l' : a.time < b.time = l in let k' : b.time < a.time = k in omega arith)
        | inr k ↦ (let l' : a.time < b.time = l in let k' : b.time ≡ a.time = k.0 in omega arith)
      ]
      | inr l ↦ elim (sooner_cases (grant_of b) (grant_of a) y) [
        | inl k ↦ (let l' : a.time ≡ b.time = l.0 in let k' : b.time < a.time = k in omega arith)
        | inr k ↦ (let l' : a.federate < b.federate = l.1 in let k' : b.federate < a.federate = k.1 in omega arith)
      ]
    ]

-- what ascends rises
each_map : {X Y : Type 0} (P : Y → Type 0) (f : X → Y) (xs : List X) → AllByRecursion P (map f xs) → AllByRecursion (λ x. P (f x)) xs
each_map P f [] h = tt
each_map P f (x ∷ xs) h = (h.0, each_map P f xs h.1)

pub ascend_rises : (bs : List Block) → Ascend (grants_of bs) → Rises Sooner bs
ascend_rises [] h = tt
ascend_rises (b ∷ bs) h = (each_map (λ g. IsTrue (is_sooner (grant_of b) g)) grant_of bs h.0, ascend_rises bs h.1)

-- the blocks of one merge are those of another
one_has : (parts : List (List Block)) (a b : List Block) → IsMerge parts a → IsMerge parts b → (x : Block) → Among x a → Among x b
one_has parts a b ma mb x h =
    let lt : x.federate < length parts = All-contains (λ (y : Block). y.federate < length parts) a x ma.federates (among_contains x a h) in
    let P : List Block → Type 0 = Among x in
    (filter_among (is_grant_of x.federate) x b (subst P (ma.split x.federate lt ∙ sym (mb.split x.federate lt)) (among_filter (is_grant_of x.federate) x a h (eq-eqb x.federate x.federate refl)))).0

pub one_merge_law : OneMerge
one_merge_law parts a b ma mb = one_ordered Sooner sooner_never a b (ascend_rises a ma.ascend) (ascend_rises b mb.ascend) (one_has parts a b ma mb) (one_has parts b a mb ma)

-- each block of the simulation is of a federate that is there
pub block_within : (p : Parts) (b : Block) → IsFederation p → Among b (simulation p).blocks → b.federate < length p.federates
block_within p b f a =
    let g = line.Grant b.time b.federate in
    let here : Among g (block_lines b) = among_right g (map (line.Deliver b.time b.federate) b.delivered) (g ∷ []) (inl refl) in
    let fits : LineFits p g = All-contains (LineFits p) (lines_of (simulation p).blocks) g (simulated_fits p f) (among_contains g (lines_of (simulation p).blocks) (among_flat block_lines g b (simulation p).blocks a here)) in
    fits

pub parts_merge_law : PartsMerge
parts_merge_law p f =
    let n = length-map-range_with_len (part p) 0 (length p.federates) in
    record {
      ascend = blocks_ascend_law p f;
      federates = All-from_recursion (λ (b : Block). b.federate < length (parts_of p)) (simulation p).blocks (for_each (λ (b : Block). b.federate < length (parts_of p)) (simulation p).blocks (λ b a. omega (arith, n, block_within p b f a)));
      split = λ k lt. sym (get_or-map-range_with_len (part p) 0 (length p.federates) k k [] (omega arith) (omega arith));
    }

-- the variables that the parts leave are the closing ones
pub vars_close : (p : Parts) → IsFederation p → vars_of p ≡ closing_vars (simulation p)
vars_close p f =
    let vars : ℕ → List ℕ = λ i. (seat_after p i (part p i)).state.vars in
    let n = length-map-range_with_len vars 0 (length p.federates) in
    let c = simulated_count p f in
    let m = length-map (simulation p).seats (λ (s : Seat). s.state.vars) in
    same_lists (vars_of p) (closing_vars (simulation p)) (omega (arith, n, c, m)) (λ k d lt.
    let within : k < length p.federates = omega arith in
    get_or-map-range_with_len vars 0 (length p.federates) k k d within (omega arith)
    ∙ ap (λ (s : Seat). s.state.vars) (sym (whole_seat p k f within))
    ∙ sym (get_or-map (λ (s : Seat). s.state.vars) (simulation p).seats k nobody_seated d (omega (arith, c))))

pub parts_make_the_text_law : PartsMakeTheText
parts_make_the_text_law p f blocks merge =
    ap (λ bs. history_text p (lines_of bs) (vars_of p)) (one_merge_law (parts_of p) blocks (simulation p).blocks merge (parts_merge_law p f))
    ∙ ap (λ vars. history_text p (lines_of (simulation p).blocks) vars) (vars_close p f)
