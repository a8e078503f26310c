-- Worlds on the way of the simulation: each federate stands where its blocks so far leave it.
use Rattle.std.proofs.Common.{◌≡◌, ◌≢◌, ℕ, zero, suc, inl, inr, ◌⊎◌, ◌+◌, ◌<◌, ◌≤◌, true, List, [], ◌∷◌, ◌++◌, length, map, drop, filter, nat_eq, Some, arith, refl, sym, ap, ◌∙◌, subst}
use Rattle.std.specs.List.{range_with_len, flat_map}
use Rattle.std.proofs.lemmas.Bool.{cases_eq, ne_eqb, eq-eqb, cases_lt}
use Rattle.std.proofs.lemmas.List.{get_or-set_other, get_or-set_same, append-nil, get_or_past}
use Rattle.std.proofs.lemmas.List.Elements.{filter-append}
use Rattle.std.proofs.lemmas.List.FromFn.{get_or-map-range_with_len, length-map-range_with_len}
use Rattle.kit_base.specs.declared.message.Message.{Message}
use Rattle.kit_rules.specs.Parts.{Parts}
use Rattle.kit_rules.specs.Federation.{IsFederation}
use Rattle.kit_rules.specs.Delivery.{due_messages}
use Rattle.kit_rules.specs.Simulation.{Seat, Block, World, block, seat_at, nobody_seated, seat_at_start, world_at_start, seat_after_pair, world_after_grant, next_grant}
use Rattle.kit_laws.proofs.OwnSends.{own_after_grant, own_at_start, seat_started}
use Rattle.kit_laws.proofs.Rising.{Reached, grants, granted_reached, started_reached}
use Rattle.kit_parts.specs.Fronts.{seat_with, seat_after, is_grant_of, blocks_of, is_by}
use Rattle.kit_parts.proofs.Seats.{from_append}

-- blocks of a federate, with one more
pub blocks_here : (i : ℕ) (bs : List Block) (b : Block) → b.federate ≡ i → blocks_of i (bs ++ b ∷ []) ≡ blocks_of i bs ++ b ∷ []
blocks_here i bs b e = filter-append (is_grant_of i) bs (b ∷ []) ∙ (let t : nat_eq b.federate i ≡ true = eq-eqb b.federate i e in rw t refl)

pub blocks_there : (i : ℕ) (bs : List Block) (b : Block) → b.federate ≢ i → blocks_of i (bs ++ b ∷ []) ≡ blocks_of i bs
blocks_there i bs b ne = filter-append (is_grant_of i) bs (b ∷ []) ∙ rw (ne_eqb b.federate i ne) (append-nil (blocks_of i bs))

-- a world on the way, in which the last grant was this
pub record OnWay (p : Parts) (last : ℕ × ℕ) (w : World) : Type 0 where
  pub reached : Reached p last w
  pub seats : (j : ℕ) → j < length p.federates → seat_at w j ≡ seat_after p j (blocks_of j w.blocks)
  pub own : (j : ℕ) → filter (is_by j) w.messages ≡ (seat_at w j).state.sends

-- the start
pub started_way : (p : Parts) → IsFederation p → OnWay p (0, 0) (world_at_start p)
started_way p f = record {
  reached = started_reached p f;
  seats = λ j lt. seat_started p j lt;
  own = own_at_start p;
}

-- the block that a grant adds
abbrev pub next_block : Parts → World → ℕ × ℕ → Block
next_block p w g = block g.1 g.0 (due_messages p g.1 g.0 (seat_at w g.1).got w.messages)

-- what it adds to the messages
abbrev pub made_by : Parts → World → ℕ × ℕ → List Message
made_by p w g = drop (length (seat_at w g.1).state.sends) (seat_after_pair p w g).state.sends

-- a grant
pub granted_way : (p : Parts) (last : ℕ × ℕ) (w : World) (g : ℕ × ℕ) → IsFederation p → OnWay p last w → next_grant p w ≡ Some g → OnWay p g (world_after_grant p w g)
granted_way p last w g f way next =
    let gr = grants p last w g way.reached next in
    let new = seat_after_pair p w g in
    let here : seat_at (world_after_grant p w g) g.1 ≡ new = get_or-set_same w.seats g.1 new nobody_seated gr.within in
    record {
      reached = granted_reached p last w g f way.reached next;
      seats = λ j lt. elim (cases_eq j g.1) [
        | inl e ↦ (let Q : ℕ → Type 0 = λ k. seat_at (world_after_grant p w g) k ≡ seat_after p k (blocks_of k (world_after_grant p w g).blocks) in
            let R : ℕ → Type 0 = λ k. k < length p.federates in
            subst Q (sym e) (here ∙ ap (seat_with p g.1 (next_block p w g)) (way.seats g.1 (subst R e lt))
            ∙ sym (from_append p g.1 (seat_at_start p g.1) (blocks_of g.1 w.blocks) (next_block p w g ∷ []))
            ∙ ap (seat_after p g.1) (sym (blocks_here g.1 w.blocks (next_block p w g) refl))))
        | inr ne ↦ get_or-set_other w.seats g.1 j new nobody_seated ne ∙ way.seats j lt
            ∙ ap (seat_after p j) (sym (blocks_there j w.blocks (next_block p w g) (λ e. ne (sym e))))
      ];
      own = λ j. own_after_grant p w g j gr.within (way.own j);
    }
