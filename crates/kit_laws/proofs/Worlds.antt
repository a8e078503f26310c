-- Worlds, grant after grant.
use Rattle.std.proofs.Common.{◌≡◌, ℕ, zero, suc, ◌+◌, ◌-◌, ◌<◌, ◌≤◌, List, [], ◌∷◌, ◌++◌, length, map, take, drop, find, get_or, Option, Some, None, arith, refl, sym, ap, ◌∙◌, lit≤, ◌*◌}
use Rattle.std.specs.List.{range_with_len, flat_map}
use Rattle.std.proofs.lemmas.List.{append-nil, take-append-drop, get_or_default}
use Rattle.std.proofs.lemmas.List.FromFn.{map-range_with_len_more, take-map-range_with_len}
use Rattle.std.proofs.lemmas.Grind.{flat_map-append}
use Rattle.kit_base.specs.declared.message.Message.{Message}
use Rattle.kit_rules.specs.Parts.{Parts, federate_at}
use Rattle.kit_rules.specs.declared.table.Trigger.TheVariants.{Start}
use Rattle.kit_rules.specs.Step.{opening_state}
use Rattle.kit_rules.proofs.Growth.{Grows, grows_by_step}
use Rattle.kit_rules.specs.Delivery.{due_messages}
use Rattle.kit_rules.specs.Simulation.{Seat, World, is_spent, seat_at_start, world_at_start, seat_after_pair, world_after_grant, world_after_pair, next_grant, next_world, after_grants, simulation, spender, start_spender, seat_at, nobody_seated}
use Rattle.kit_laws.proofs.Joins.{grows_by_block}
use Rattle.kit_laws.proofs.Numbers.{sender_of, find_past, find_stays, gained_find, gained_none}

-- the seat that stands at a place
pub seat_is : (w : World) (i : ℕ) (s : Seat) → i < length w.seats → s ≡ get_or w.seats i s → s ≡ seat_at w i
seat_is w i s h is = is ∙ get_or_default w.seats i s nobody_seated h

-- a federate's state gains its own messages by a grant
pub grows_by_grant : (p : Parts) (w : World) (g : ℕ × ℕ) → Grows g.1 (seat_at w g.1).state (seat_after_pair p w g).state
grows_by_grant p w g = grows_by_block p g.1 g.0 (seat_at w g.1).state (due_messages p g.1 g.0 (seat_at w g.1).got w.messages)

-- a grant that goes past 16,384
pub granted_find : (p : Parts) (w : World) (g : ℕ × ℕ) → find is_spent w.messages ≡ None → (seat_at w g.1).state.next ≤ 16385 → 16385 < (seat_after_pair p w g).state.next
    → sender_of (find is_spent (world_after_grant p w g).messages) ≡ Some g.1
granted_find p w g none le past =
    ap sender_of (find_past w.messages _ none) ∙ gained_find g.1 (seat_at w g.1).state (seat_after_pair p w g).state (grows_by_grant p w g) le past

pub granted_none : (p : Parts) (w : World) (g : ℕ × ℕ) → find is_spent w.messages ≡ None → (seat_after_pair p w g).state.next ≤ 16385 → find is_spent (world_after_grant p w g).messages ≡ None
granted_none p w g none le =
    find_past w.messages _ none ∙ gained_none g.1 (seat_at w g.1).state (seat_after_pair p w g).state (grows_by_grant p w g) le

-- what was sent stays sent
stays_once : (p : Parts) (w : World) (m : Message) (o : Option (ℕ × ℕ)) → find is_spent w.messages ≡ Some m → find is_spent (world_after_pair p w o).messages ≡ Some m
stays_once p w m None h = h
stays_once p w m (Some g) h = find_stays w.messages _ m h

stays : (p : Parts) (n : ℕ) (w : World) (m : Message) → find is_spent w.messages ≡ Some m → find is_spent (after_grants p n w).messages ≡ Some m
stays p zero w m h = h
stays p (suc n) w m h = stays p n (next_world p w) m (stays_once p w m (next_grant p w) h)

pub some_sender : (o : Option Message) (i : ℕ) → sender_of o ≡ Some i → (m : Message) × (o ≡ Some m) × (m.sender ≡ i)
some_sender None i h = absurd (cc)
some_sender (Some m) i h = (m, refl, cc)

-- the first to take number 16,385 in a world on the way is the first in the end
pub spender_from : (p : Parts) (n : ℕ) (w : World) (i : ℕ) → after_grants p n w ≡ simulation p → sender_of (find is_spent w.messages) ≡ Some i → spender p ≡ Some i
spender_from p n w i e h =
    let s = some_sender (find is_spent w.messages) i h in
    ap (λ (v : World). sender_of (find is_spent v.messages)) (sym e) ∙ ap sender_of (stays p n w s.0 s.1) ∙ ap Some s.2

-- one more grant
pub after_next : (p : Parts) (n : ℕ) (w : World) (g : ℕ × ℕ) → next_grant p w ≡ Some g → after_grants p (suc n) w ≡ after_grants p n (world_after_grant p w g)
after_next p n w g h = ap (λ o. after_grants p n (world_after_pair p w o)) h

-- none waits: nothing goes on
pub after_none : (p : Parts) (n : ℕ) (w : World) → next_grant p w ≡ None → after_grants p n w ≡ w
after_none p zero w h = refl
after_none p (suc n) w h = ap (λ o. after_grants p n (world_after_pair p w o)) h ∙ after_none p n w h

-- the start
pub sends_of : Seat → List Message
sends_of s = s.state.sends

pub started_more : (p : Parts) (i : ℕ) → flat_map (λ (s : Seat). s.state.sends) (map (seat_at_start p) (range_with_len 0 (i + 1)))
    ≡ flat_map (λ (s : Seat). s.state.sends) (map (seat_at_start p) (range_with_len 0 i)) ++ (seat_at_start p i).state.sends
started_more p i =
    ap (flat_map (λ (s : Seat). s.state.sends)) (map-range_with_len_more (seat_at_start p) 0 i i (omega arith))
    ∙ flat_map-append (λ (s : Seat). s.state.sends) (map (seat_at_start p) (range_with_len 0 i)) (seat_at_start p i ∷ [])
    ∙ ap (λ xs. flat_map (λ (s : Seat). s.state.sends) (map (seat_at_start p) (range_with_len 0 i)) ++ xs) (append-nil (seat_at_start p i).state.sends)

pub grows_by_start : (p : Parts) (i : ℕ) → Grows i (opening_state (federate_at p i)) (seat_at_start p i).state
grows_by_start p i = grows_by_step p i Start 0 0 (opening_state (federate_at p i))

pub start_none : (p : Parts) (i : ℕ) (ms : List Message) → find is_spent ms ≡ None → (seat_at_start p i).state.next ≤ 16385 → find is_spent (ms ++ (seat_at_start p i).state.sends) ≡ None
start_none p i ms none le =
    find_past ms _ none ∙ gained_none i (opening_state (federate_at p i)) (seat_at_start p i).state (grows_by_start p i) le

start_find : (p : Parts) (i : ℕ) (ms : List Message) → find is_spent ms ≡ None → 16385 < (seat_at_start p i).state.next → sender_of (find is_spent (ms ++ (seat_at_start p i).state.sends)) ≡ Some i
start_find p i ms none past =
    ap sender_of (find_past ms _ none) ∙ gained_find i (opening_state (federate_at p i)) (seat_at_start p i).state (grows_by_start p i) (lit≤ tt) past

-- the first federates' messages come first
started_front : (p : Parts) (k : ℕ) → k ≤ length p.federates → (more : List Message) × ((world_at_start p).messages ≡ flat_map (λ (s : Seat). s.state.sends) (map (seat_at_start p) (range_with_len 0 k)) ++ more)
started_front p k le =
    let all = map (seat_at_start p) (range_with_len 0 (length p.federates)) in (
      flat_map (λ (s : Seat). s.state.sends) (drop k all),
      ap (flat_map (λ (s : Seat). s.state.sends)) (sym (take-append-drop k all))
          ∙ flat_map-append (λ (s : Seat). s.state.sends) (take k all) (drop k all)
          ∙ ap (λ xs. flat_map (λ (s : Seat). s.state.sends) xs ++ flat_map (λ (s : Seat). s.state.sends) (drop k all)) (take-map-range_with_len (seat_at_start p) 0 (length p.federates) k le),
    )

-- a federate that goes past 16,384 at the start, where none before it did, is the first to do so
pub start_past : (p : Parts) (i : ℕ) → i < length p.federates → find is_spent (flat_map (λ (s : Seat). s.state.sends) (map (seat_at_start p) (range_with_len 0 i))) ≡ None
    → 16385 < (seat_at_start p i).state.next → start_spender p ≡ Some i
start_past p i lt none past =
    let front = flat_map (λ (s : Seat). s.state.sends) (map (seat_at_start p) (range_with_len 0 i)) in
    let more = flat_map (λ (s : Seat). s.state.sends) (map (seat_at_start p) (range_with_len 0 (i + 1))) in
    let f = started_front p (i + 1) (omega arith) in
    let h : sender_of (find is_spent more) ≡ Some i = rw (started_more p i) (start_find p i front none past) in
    let s = some_sender (find is_spent more) i h in
    ap (λ xs. sender_of (find is_spent xs)) f.1 ∙ ap sender_of (find_stays more f.0 s.0 s.1) ∙ ap Some s.2

-- and so in the end
pub spent_at_start : (p : Parts) (i : ℕ) → start_spender p ≡ Some i → spender p ≡ Some i
spent_at_start p i h = spender_from p (length p.federates * p.end) (world_at_start p) i refl h

-- the turns that are left, with one fewer
pub turns_left : (p : Parts) (n k : ℕ) (w v : World) → k < n → after_grants p (n - k) w ≡ v → (g : ℕ × ℕ) → next_grant p w ≡ Some g → after_grants p (n - (k + 1)) (world_after_grant p w g) ≡ v
turns_left p n k w v lt goes g next =
    let e : n - k ≡ suc (n - (k + 1)) = omega arith in
    sym (after_next p (n - (k + 1)) w g next) ∙ ap (λ m. after_grants p m w) (sym e) ∙ goes
