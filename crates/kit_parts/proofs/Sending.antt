-- What a federate has sent and was delivered after any blocks.
use Rattle.std.proofs.Common.{◌≡◌, ℕ, zero, suc, ◌+◌, ◌<◌, List, [], ◌∷◌, ◌++◌, length, get_or, arith, sym, ap, ◌∙◌}
use Rattle.std.specs.List.{flat_map}
use Rattle.std.proofs.lemmas.List.{append_assoc, append-nil}
use Rattle.kit_base.specs.declared.message.Message.{Message}
use Rattle.kit_rules.specs.Parts.{Parts}
use Rattle.kit_rules.specs.Simulation.{Seat, Block, seat_at_start}
use Rattle.kit_rules.proofs.Growth.{AreNumbered}
use Rattle.kit_laws.proofs.Joins.{grows_by_block}
use Rattle.kit_parts.specs.Fronts.{seat_with, seat_from, seat_after}
use Rattle.kit_parts.specs.OwnLaws.{SendsAreNumbered, SendsGrow, GotIsDelivered}
use Rattle.kit_parts.proofs.Seats.{sound_after, from_append}

number_at : (i n : ℕ) (xs : List Message) (k : ℕ) (d : Message) → AreNumbered i n xs → k < length xs → ((get_or xs k d).sender ≡ i) × ((get_or xs k d).number ≡ k + n)
number_at i n [] k d h lt = absurd (omega arith)
number_at i n (x ∷ xs) zero d h lt = (h.0, (let e : x.number ≡ n = h.1 in omega arith))
number_at i n (x ∷ xs) (suc k) d h lt = let r = number_at i (n + 1) xs k d h.2 (omega arith) in (r.0, omega (arith, r.1))

pub sends_are_numbered_law : SendsAreNumbered
sends_are_numbered_law p f i lt done =
    let s = sound_after p i done f lt in
    (omega (arith, s.next), λ k d within. number_at i 1 (seat_after p i done).state.sends k d s.numbered within)

grow_from : (p : Parts) (i : ℕ) (s : Seat) (bs : List Block) → (more : List Message) × ((seat_from p i s bs).state.sends ≡ s.state.sends ++ more)
grow_from p i s [] = ([], sym (append-nil s.state.sends))
grow_from p i s (b ∷ bs) =
    let g = grows_by_block p i b.time s.state b.delivered in
    let r = grow_from p i (seat_with p i b s) bs in
    (g.made ++ r.0, r.1 ∙ ap (λ xs. xs ++ r.0) g.sends ∙ append_assoc s.state.sends g.made r.0)

pub sends_grow_law : SendsGrow
sends_grow_law p i first rest =
    let r = grow_from p i (seat_after p i first) rest in
    (r.0, ap (λ (s : Seat). s.state.sends) (from_append p i (seat_at_start p i) first rest) ∙ r.1)

got_from : (p : Parts) (i : ℕ) (s : Seat) (bs : List Block) → (seat_from p i s bs).got ≡ s.got ++ flat_map (λ (b : Block). b.delivered) bs
got_from p i s [] = sym (append-nil s.got)
got_from p i s (b ∷ bs) = got_from p i (seat_with p i b s) bs ∙ append_assoc s.got b.delivered (flat_map (λ (b : Block). b.delivered) bs)

pub got_is_delivered_law : GotIsDelivered
got_is_delivered_law p i done = got_from p i (seat_at_start p i) done
