-- The desks from grant to grant, and at the start.
use Rattle.std.proofs.Common.{◌≡◌, ℕ, zero, suc, ◌+◌, ◌-◌, ◌*◌, ◌<◌, ◌≤◌, List, [], ◌∷◌, ◌++◌, length, map, find, filter, Bool, true, false, cond, inl, inr, Option, Some, None, arith, refl, sym, subst, ap, ◌∙◌, append_assoc, add-one, drop, Ok, Err}
use Rattle.std.specs.List.{range_with_len}
use Rattle.std.specs.Prelude.{Result}
use Rattle.std.proofs.lemmas.List.{append-nil}
use Rattle.std.proofs.lemmas.List.FromFn.{map-range_with_len_more, length-map-range_with_len}
use Rattle.std.proofs.lemmas.Bool.{cases_eq, eq-eqb}
use Rattle.std.proofs.lemmas.Grind.{flat_map-append}
use Rattle.kit_base.specs.declared.history.Line.TheVariants as line
use Rattle.kit_base.specs.declared.message.Message.{Message}
use Rattle.kit_rules.specs.Parts.{Parts}
use Rattle.kit_rules.specs.Federation.{IsFederation}
use Rattle.kit_rules.specs.declared.scene.ApplyEnd.{ApplyEnd}
use Rattle.kit_rules.specs.declared.scene.ApplyEnd.TheVariants as apply
use Rattle.kit_rules.specs.Delivery.{due_messages}
use Rattle.kit_rules.specs.Simulation.{Seat, World, Block, least_pair, world_at_start, seat_at_start, seat_at, world_after_grant, world_after_pair, next_grant, next_world, after_grants, simulation, block, block_lines, lines_of, is_spent, spender, closing_vars}
use Rattle.kit_rules.proofs.Growth.{AreNumbered}
use Rattle.kit_laws.proofs.Sane.{IsSane}
use Rattle.kit_laws.proofs.Fitting.{spender_within}
use Rattle.kit_laws.proofs.Rising.{after_suc}
use Rattle.kit_laws.proofs.Sanity.{granted_sane, next_fine}
use Rattle.kit_laws.proofs.Worlds.{after_none, spender_from, granted_find, granted_none}
use Rattle.kit_oracle.specs.declared.desk.Desk.{Desk}
use Rattle.kit_oracle.specs.declared.end.OracleEnd.{OracleEnd}
use Rattle.kit_oracle.specs.declared.end.OracleEnd.TheVariants.{SendsSpent, NoMemory}
use Rattle.kit_oracle.specs.Ends.{oracle_end, IfSpentAt, IfSpent}
use Rattle.kit_oracle.specs.Pending.{front_until}
use Rattle.kit_oracle.specs.Observing.{IsGrant}
use Rattle.kit_oracle.specs.Desks.{waiting_at, desk_after_turn_at, desk_at, desks_after_messages, desks_after_grant, desk_of_seat, desks_of_seats_from, desks_of}
use Rattle.kit_laws.proofs.OwnSends.{from}
use Rattle.kit_oracle.proofs.Starting.{told}
use Rattle.kit_oracle.proofs.Entering.{front_is_due}
use Rattle.kit_oracle.proofs.Showing.{waiting_shown, length_shown, post_each, desk_shown, turn_shown, grant_shown}
use Rattle.kit_oracle.proofs.Freshness.{grant_fresh, start_fresh}

-- an end by the number 16,385 alone has to be answered for
pub spent_end : (end : ApplyEnd) (i : ℕ) (P : ℕ → Type 0) → (end ≡ apply.SendsSpent → P i) → IfSpentAt (oracle_end end i) P
spent_end apply.SendsSpent i P h = h refl
spent_end apply.NoMemory i P h = tt

-- the same for an end that came from below
pub spent_of : {T : Type 0} (r : Result T OracleEnd) (i : ℕ) (Past : Type 0) (P : ℕ → Type 0) → IfSpent r (λ k. k ≡ i) → IfSpent r (λ _. Past) → (Past → P i) → IfSpent r P
spent_of (Ok x) i Past P a b f = tt
spent_of (Err (SendsSpent k)) i Past P a b f = subst P (sym a) (f b)
spent_of (Err NoMemory) i Past P a b f = tt

-- a desk that is opened stands behind the others
shown_behind : (p : Parts) (a k : ℕ) (ss : List Seat) (s : Seat) → desks_of_seats_from p [] a (ss ++ s ∷ []) ≡ desks_of_seats_from p [] a ss ++ desk_of_seat p [] k s ∷ []
shown_behind p a k [] s = refl
shown_behind p a k (x ∷ ss) s = ap (λ ds. desk_of_seat p [] a x ∷ ds) (shown_behind p (a + 1) k ss s)

-- one more desk is opened
pub shown_more : (p : Parts) (i : ℕ) → desks_of_seats_from p [] 0 (map (seat_at_start p) (range_with_len 0 (i + 1))) ≡ desks_of_seats_from p [] 0 (map (seat_at_start p) (range_with_len 0 i)) ++ desk_of_seat p [] i (seat_at_start p i) ∷ []
shown_more p i = ap (desks_of_seats_from p [] 0) (map-range_with_len_more (seat_at_start p) 0 i i (omega arith)) ∙ shown_behind p 0 i (map (seat_at_start p) (range_with_len 0 i)) (seat_at_start p i)

-- the desks at the start, with what was sent there posted
pub start_shown : (p : Parts) → IsFederation p → desks_after_messages p (world_at_start p).messages (desks_of_seats_from p [] 0 (world_at_start p).seats) ≡ desks_of p (world_at_start p)
start_shown p f = post_each p (world_at_start p).seats [] (world_at_start p).messages (start_fresh p f)

-- there are no more desks than federates
pub few_opened : (p : Parts) → IsFederation p → length (desks_of_seats_from p [] 0 (world_at_start p).seats) ≤ 16
few_opened p f = omega (arith, length_shown p [] 0 (world_at_start p).seats, length-map-range_with_len (seat_at_start p) 0 (length p.federates), f.federates.count.1)

-- what the desks of a run show after n grants
pub record Shows (p : Parts) (n : ℕ) (ds : List Desk) : Type 0 where
  pub desks : ds ≡ desks_of p (after_grants p n (world_at_start p))
  pub none : find is_spent (after_grants p n (world_at_start p)).messages ≡ None
  pub sane : IsSane p (after_grants p n (world_at_start p)).seats

-- there are as many desks as federates
pub few_desks : (p : Parts) (n : ℕ) (ds : List Desk) → Shows p n ds → length ds ≡ length p.federates
few_desks p n ds s =
    let w = after_grants p n (world_at_start p) in
    ap (λ (xs : List Desk). length xs) s.desks ∙ length_shown p w.messages 0 w.seats ∙ s.sane.count

-- the next grant, as it is found among the desks
pub next_found : (p : Parts) (n : ℕ) (ds : List Desk) (end : ℕ) (r : Option (ℕ × ℕ)) → Shows p n ds → end ≡ p.end → r ≡ least_pair None (waiting_at end 0 ds) → next_grant p (after_grants p n (world_at_start p)) ≡ r
next_found p n ds end r s e h =
    let w = after_grants p n (world_at_start p) in
    ap (least_pair None) (sym (waiting_shown p w.messages 0 w.seats)) ∙ ap (λ xs. least_pair None (waiting_at p.end 0 xs)) (sym s.desks) ∙ ap (λ (t : ℕ). least_pair None (waiting_at t 0 ds)) (sym e) ∙ sym h

-- the next grant goes to a federate there is, by the end
pub next_fits : (p : Parts) (n : ℕ) (ds : List Desk) (g : ℕ × ℕ) → Shows p n ds → next_grant p (after_grants p n (world_at_start p)) ≡ Some g → (g.1 < length p.federates) × (g.0 ≤ p.end)
next_fits p n ds g s next =
    let w = after_grants p n (world_at_start p) in
    let fine = next_fine p w.messages w.seats g s.sane next in
    (omega (arith, fine.0, s.sane.count), fine.1)

-- so many grants, and then so many more
pub after_more : (p : Parts) (a b n : ℕ) (w : World) → a + b ≡ n → after_grants p n w ≡ after_grants p b (after_grants p a w)
after_more p zero b n w e = ap (λ (k : ℕ). after_grants p k w) (let is : n ≡ b = omega arith in is)
after_more p (suc a) b zero w e = absurd (omega arith)
after_more p (suc a) b (suc n) w e = after_more p a b n (next_world p w) (omega arith)

-- a turn below the most, which is computed
pub turn_within : (n a b c d : ℕ) → n < a * b → a ≡ c → b ≡ d → n < c * d
turn_within n a b c d lt e f = let is : a * b ≡ c * d = cc in omega arith

-- where nobody waits, the run is over
pub over_here : (p : Parts) (n : ℕ) → n ≤ length p.federates * p.end → next_grant p (after_grants p n (world_at_start p)) ≡ None → after_grants p n (world_at_start p) ≡ simulation p
over_here p n le next =
    let most = length p.federates * p.end in
    sym (after_more p n (most - n) most (world_at_start p) (omega arith) ∙ after_none p (most - n) (after_grants p n (world_at_start p)) next)

-- one more turn is one more grant
pub one_more : (p : Parts) (n : ℕ) (g : ℕ × ℕ) → next_grant p (after_grants p n (world_at_start p)) ≡ Some g → after_grants p (n + 1) (world_at_start p) ≡ world_after_grant p (after_grants p n (world_at_start p)) g
one_more p n g next =
    let w = after_grants p n (world_at_start p) in
    ap (λ (k : ℕ). after_grants p k (world_at_start p)) (add-one n) ∙ after_suc p n (world_at_start p) ∙ ap (world_after_pair p w) next

-- one more block has its lines last
pub lines_more : (bs : List Block) (b : Block) → lines_of (bs ++ b ∷ []) ≡ lines_of bs ++ block_lines b
lines_more bs b = flat_map-append block_lines bs (b ∷ []) ∙ ap (λ ls. lines_of bs ++ ls) (append-nil (block_lines b))

-- what is at the front of the queue of the federate that is granted
front_of_next : (p : Parts) (n : ℕ) (ds : List Desk) (g : ℕ × ℕ) → Shows p n ds → next_grant p (after_grants p n (world_at_start p)) ≡ Some g
    → front_until g.0 (desk_at ds g.1).queue ≡ due_messages p g.1 g.0 (seat_at (after_grants p n (world_at_start p)) g.1).got (after_grants p n (world_at_start p)).messages
front_of_next p n ds g s next =
    let w = after_grants p n (world_at_start p) in
    let within = (next_fine p w.messages w.seats g s.sane next).0 in
    ap (λ xs. front_until g.0 (desk_at xs g.1).queue) s.desks ∙ ap (λ (d : Desk). front_until g.0 d.queue) (desk_shown p w g.1 within) ∙ front_is_due p g.1 g.0 (seat_at w g.1).got w.messages

-- the lines after one more grant
pub lines_next : (p : Parts) (n : ℕ) (ds : List Desk) (g : ℕ × ℕ) → Shows p n ds → next_grant p (after_grants p n (world_at_start p)) ≡ Some g
    → (lines_of (after_grants p n (world_at_start p)).blocks ++ map (line.Deliver g.0 g.1) (front_until g.0 (desk_at ds g.1).queue)) ++ line.Grant g.0 g.1 ∷ [] ≡ lines_of (after_grants p (n + 1) (world_at_start p)).blocks
lines_next p n ds g s next =
    let w = after_grants p n (world_at_start p) in
    let due = due_messages p g.1 g.0 (seat_at w g.1).got w.messages in
    append_assoc (lines_of w.blocks) (map (line.Deliver g.0 g.1) (front_until g.0 (desk_at ds g.1).queue)) (line.Grant g.0 g.1 ∷ [])
    ∙ ap (λ ms. lines_of w.blocks ++ block_lines (block g.1 g.0 ms)) (front_of_next p n ds g s next)
    ∙ sym (lines_more w.blocks (block g.1 g.0 due))
    ∙ ap (λ (v : World). lines_of v.blocks) (sym (one_more p n g next))

-- an observer is told of this grant
pub told_of : (p : Parts) (n : ℕ) (ds : List Desk) (made : List Message) (g : ℕ × ℕ) → IsFederation p → Shows p n ds → next_grant p (after_grants p n (world_at_start p)) ≡ Some g
    → made ≡ drop (length (desk_at ds g.1).state.sends) (desk_after_turn_at p g ds).state.sends → (desk_after_turn_at p g ds).state.next ≤ 16385 → IsGrant p n g made
told_of p n ds made g f s next is room =
    let w = after_grants p n (world_at_start p) in
    let within = (next_fine p w.messages w.seats g s.sane next).0 in
    let R : Desk → Type 0 = λ d. d.state.next ≤ 16385 in
    let desk : desk_at ds g.1 ≡ desk_of_seat p w.messages g.1 (seat_at w g.1) = ap (λ xs. desk_at xs g.1) s.desks ∙ desk_shown p w g.1 within in
    let turn = ap (desk_after_turn_at p g) s.desks ∙ turn_shown p w g within in
    record {
      federation = f;
      next = next;
      sent = is ∙ ap (λ (d : Desk). drop (length d.state.sends) (desk_after_turn_at p g ds).state.sends) desk ∙ ap (λ (d : Desk). drop (length (seat_at w g.1).state.sends) d.state.sends) turn;
      room = subst R turn room;
    }

-- one more grant shows one more grant
pub granted_shows : (p : Parts) (n : ℕ) (ds es : List Desk) (g : ℕ × ℕ) → IsFederation p → Shows p n ds → next_grant p (after_grants p n (world_at_start p)) ≡ Some g
    → es ≡ desks_after_grant p g ds → (desk_after_turn_at p g ds).state.next ≤ 16385 → Shows p (n + 1) es
granted_shows p n ds es g f s next de room =
    let w = after_grants p n (world_at_start p) in
    let v = world_after_grant p w g in
    let within = (next_fine p w.messages w.seats g s.sane next).0 in
    let after : v ≡ after_grants p (n + 1) (world_at_start p) = sym (one_more p n g next) in
    let D : World → Type 0 = λ u. es ≡ desks_of p u in
    let N : World → Type 0 = λ u. find is_spent u.messages ≡ None in
    let S : World → Type 0 = λ u. IsSane p u.seats in
    let R : Desk → Type 0 = λ d. d.state.next ≤ 16385 in
    let turn = ap (desk_after_turn_at p g) s.desks ∙ turn_shown p w g within in
    record {
      desks = subst D after (de ∙ ap (desks_after_grant p g) s.desks ∙ grant_shown p w g within (grant_fresh p w g within (told p n f)));
      none = subst N after (granted_none p w g s.none (subst R turn room));
      sane = subst S after (granted_sane p w g within s.sane);
    }

-- nothing is found in a list that begins with nothing found
pub none_found : (b : Bool) (m : Message) (r : Option Message) → cond b (Some m) r ≡ None → (b ≡ false) × (r ≡ None)
none_found true m r e = absurd (cc)
none_found false m r e = (refl, e)

-- nor in a part of one in which nothing is
pub none_among : (q : Message → Bool) (ms : List Message) → find is_spent ms ≡ None → find is_spent (filter q ms) ≡ None
none_among q [] h = refl
none_among q (m ∷ ms) h =
    let f = none_found (is_spent m) m (find is_spent ms) h in
    let rest = none_among q ms f.1 in
    elim (q m) as (λ b. find is_spent (cond b (m ∷ filter q ms) (filter q ms)) ≡ None)
    [ true ↦ ap (λ b. cond b (Some m) (find is_spent (filter q ms))) f.0 ∙ rest | false ↦ rest ]

-- numbers that go on up to there, and do not take 16,385, stop below it
pub numbers_stop : (k n : ℕ) (ms : List Message) → AreNumbered k n ms → n ≤ 16385 → find is_spent ms ≡ None → n + length ms ≤ 16385
numbers_stop k n [] num le none = omega arith
numbers_stop k n (m ∷ ms) num le none =
    let f = none_found (is_spent m) m (find is_spent ms) none in
    elim (cases_eq n 16385) [
      | inl e ↦ absurd (let is : is_spent m ≡ true = eq-eqb m.number 16385 (num.1 ∙ e) in let other : is_spent m ≡ false = f.0 in cc)
      | inr ne ↦ (let rest = numbers_stop k (n + 1) ms num.2 (omega (arith, ne)) f.1 in omega arith)
    ]

-- so where nobody has taken number 16,385, the next number of each federate is that at most
pub room_left : (p : Parts) (n k : ℕ) → IsFederation p → k < length (after_grants p n (world_at_start p)).seats → find is_spent (after_grants p n (world_at_start p)).messages ≡ None
    → (seat_at (after_grants p n (world_at_start p)) k).state.next ≤ 16385
room_left p n k f lt none =
    let w = after_grants p n (world_at_start p) in
    let o = (told p n f).counted.each k lt in
    let F : List Message → Type 0 = λ ms. find is_spent ms ≡ None in
    let own : find is_spent (seat_at w k).state.sends ≡ None = subst F o.own (none_among (from k) w.messages none) in
    omega (arith, o.next, numbers_stop k 1 (seat_at w k).state.sends o.numbered (omega arith) own)

-- a grant that goes past number 16,384 is the first to do so
pub spent_here : (p : Parts) (n : ℕ) (ds : List Desk) (g : ℕ × ℕ) → IsFederation p → Shows p n ds → n < length p.federates * p.end → next_grant p (after_grants p n (world_at_start p)) ≡ Some g
    → 16385 < (desk_after_turn_at p g ds).state.next → spender p ≡ Some g.1
spent_here p n ds g f s lt next past =
    let w = after_grants p n (world_at_start p) in
    let most = length p.federates * p.end in
    let within = (next_fine p w.messages w.seats g s.sane next).0 in
    let Q : Desk → Type 0 = λ d. 16385 < d.state.next in
    let goes : after_grants p (most - (n + 1)) (world_after_grant p w g) ≡ simulation p =
    ap (after_grants p (most - (n + 1))) (sym (one_more p n g next)) ∙ sym (after_more p (n + 1) (most - (n + 1)) most (world_at_start p) (omega arith)) in
    spender_from p (most - (n + 1)) (world_after_grant p w g) g.1 goes
    (granted_find p w g s.none (room_left p n g.1 f within s.none) (subst Q (ap (desk_after_turn_at p g) s.desks ∙ turn_shown p w g within) past))

-- the closing variables stand on the desks
vars_from : (p : Parts) (sent : List Message) (i : ℕ) (ss : List Seat) → map (λ (d : Desk). d.state.vars) (desks_of_seats_from p sent i ss) ≡ map (λ (s : Seat). s.state.vars) ss
vars_from p sent i [] = refl
vars_from p sent i (s ∷ ss) = ap (λ xs. s.state.vars ∷ xs) (vars_from p sent (i + 1) ss)

-- so they are those of the world
pub vars_shown : (p : Parts) (w : World) → map (λ (d : Desk). d.state.vars) (desks_of p w) ≡ closing_vars w
vars_shown p w = vars_from p w.messages 0 w.seats

-- a federate that takes number 16,385 is one of the federation's
pub spent_within : {T : Type 0} (p : Parts) (r : Result T OracleEnd) → IsFederation p → IfSpent r (λ i. spender p ≡ Some i) → IfSpent r (λ i. i < length p.federates)
spent_within p (Ok x) f h = tt
spent_within p (Err (SendsSpent i)) f h = spender_within p i f h
spent_within p (Err NoMemory) f h = tt
