-- The simulation up to a time, grant after grant, and the cut of its desks.
use Rattle.std.proofs.Common.{◌≡◌, ℕ, zero, suc, ◌+◌, ◌-◌, ◌*◌, ◌<◌, ◌≤◌, cond, List, [], ◌∷◌, ◌++◌, length, map, drop, get_or, Ok, Err, append_assoc, find, Option, Some, None, nat_le, nat_lt, min, filter, true, arith, refl, sym, subst, ap, ◌∙◌, add-one}
use Rattle.std.specs.List.{All, AllByRecursion}
use Rattle.std.specs.Prelude.{Result}
use Rattle.std.proofs.lemmas.Grind.{flat_map-append}
use Rattle.std.proofs.lemmas.List.Elements.{All-from_recursion, recursion_from_All}
use Rattle.kit_oracle.specs.declared.end.OracleEnd.{OracleEnd}
use Rattle.kit_oracle.specs.declared.end.OracleEnd.TheVariants.{SendsSpent, NoMemory}
use Rattle.kit_oracle.specs.Ends.{IfSpent}
use Rattle.kit_base.specs.declared.history.Line.{Line}
use Rattle.kit_base.specs.declared.message.Message.{Message}
use Rattle.kit_base.specs.Order.{in_order}
use Rattle.kit_base.proofs.Lists.{all_front}
use Rattle.kit_rules.specs.Parts.{Parts}
use Rattle.kit_rules.specs.Federation.{IsFederation}
use Rattle.kit_rules.specs.Delivery.{pending_messages}
use Rattle.kit_rules.specs.Fits.{LineFits}
use Rattle.kit_rules.specs.Simulation.{Block, Seat, World, block_lines, is_spent, lines_of, simulation, start_spender, world_at_start, seat_at_start, world_after_grant, world_after_pair, next_grant, after_grants}
use Rattle.kit_laws.proofs.Fitting.{simulated_fits}
use Rattle.kit_laws.proofs.Numbers.{sender_of, find_stays}
use Rattle.kit_laws.proofs.Rising.{after_suc}
use Rattle.kit_laws.proofs.Sanity.{next_fine}
use Rattle.kit_laws.proofs.Worlds.{granted_find, some_sender}
use Rattle.kit_oracle.specs.declared.desk.Desk.{Desk}
use Rattle.kit_oracle.specs.Pending.{front_until}
use Rattle.kit_oracle.specs.Desks.{desk_after_turn_at, desks_of, desks_of_seats_from}
use Rattle.kit_oracle.proofs.Progress.{Shows, room_left}
use Rattle.kit_oracle.proofs.Showing.{turn_shown, length_shown}
use Rattle.kit_cut.specs.Cuts.{due_by, after_grants_by, world_by, simulation_cut, spender_by, standing_of, standings_from, cut_of}
use Rattle.kit_cut.specs.Resuming.{resumed}
use Rattle.kit_cut.specs.Desks.{standing_of_desk, standings_of_desks, next_of_desks, cut_of_desks}
use Rattle.kit_rules.specs.Own.{own_events}
use Rattle.kit_cut.specs.Reach.{is_in_reach}
use Rattle.kit_cut.specs.declared.cut.Cut.{Cut}
use Rattle.kit_cut.specs.declared.cut.Standing.{Standing}
use Rattle.kit_cut.proofs.Standings.{pending_in_time}
use Rattle.kit_laws.proofs.Rising.{reached_after, started_reached}
use Rattle.kit_oracle.proofs.Freshness.{all_seats}
use Rattle.kit_cut.proofs.Resuming.{due_is_next, by_stops, by_is_after, cut_in_two}

-- one more at the end
by_suc : (p : Parts) (t n : ℕ) (w : World) → after_grants_by p t (suc n) w ≡ world_after_pair p (after_grants_by p t n w) (due_by t (next_grant p (after_grants_by p t n w)))
by_suc p t zero w = refl
by_suc p t (suc n) w = by_suc p t n (world_after_pair p w (due_by t (next_grant p w)))

-- so many, and then so many more
by_more : (p : Parts) (t a b n : ℕ) (w : World) → a + b ≡ n → after_grants_by p t n w ≡ after_grants_by p t b (after_grants_by p t a w)
by_more p t zero b n w e = ap (λ (k : ℕ). after_grants_by p t k w) (let is : n ≡ b = omega arith in is)
by_more p t (suc a) b zero w e = absurd (omega arith)
by_more p t (suc a) b (suc n) w e = by_more p t a b n (world_after_pair p w (due_by t (next_grant p w))) (omega arith)

-- after n grants all of them were due by the time
abbrev pub AllDue : Parts → ℕ → ℕ → Type 0
AllDue p t n = after_grants_by p t n (world_at_start p) ≡ after_grants p n (world_at_start p)

-- and after one more that is due
pub due_more : (p : Parts) (t n : ℕ) (g : ℕ × ℕ) → AllDue p t n → due_by t (next_grant p (after_grants p n (world_at_start p))) ≡ Some g → AllDue p t (n + 1)
due_more p t n g all e =
    let w = after_grants p n (world_at_start p) in
    let next = due_is_next t (next_grant p w) g e in
    ap (λ (k : ℕ). after_grants_by p t k (world_at_start p)) (add-one n) ∙ by_suc p t n (world_at_start p) ∙ ap (λ (v : World). world_after_pair p v (due_by t (next_grant p v))) all ∙ ap (world_after_pair p w) e
    ∙ sym (ap (λ (k : ℕ). after_grants p k (world_at_start p)) (add-one n) ∙ after_suc p n (world_at_start p) ∙ ap (world_after_pair p w) next.0)

-- where none is due by the time any more, the simulation up to it is there
pub by_here : (p : Parts) (t n : ℕ) → n ≤ length p.federates * p.end → AllDue p t n → due_by t (next_grant p (after_grants p n (world_at_start p))) ≡ None → after_grants p n (world_at_start p) ≡ world_by p t
by_here p t n le all none =
    let most = length p.federates * p.end in
    let w = after_grants p n (world_at_start p) in
    sym (by_more p t n (most - n) most (world_at_start p) (omega arith) ∙ ap (after_grants_by p t (most - n)) all ∙ by_stops p t (most - n) w none)

-- what was sent stays sent
stays_once : (p : Parts) (w : World) (m : Message) (o : Option (ℕ × ℕ)) → find is_spent w.messages ≡ Some m → find is_spent (world_after_pair p w o).messages ≡ Some m
stays_once p w m None h = h
stays_once p w m (Some g) h = find_stays w.messages _ m h

stays_by : (p : Parts) (t n : ℕ) (w : World) (m : Message) → find is_spent w.messages ≡ Some m → find is_spent (after_grants_by p t n w).messages ≡ Some m
stays_by p t zero w m h = h
stays_by p t (suc n) w m h = stays_by p t n (world_after_pair p w (due_by t (next_grant p w))) m (stays_once p w m (due_by t (next_grant p w)) h)

-- the first to take number 16,385 in a world on the way is the first up to the time
spender_on_the_way : (p : Parts) (t n : ℕ) (w : World) (i : ℕ) → after_grants_by p t n w ≡ world_by p t → sender_of (find is_spent w.messages) ≡ Some i → spender_by p t ≡ Some i
spender_on_the_way p t n w i e h =
    let s = some_sender (find is_spent w.messages) i h in
    ap (λ (v : World). sender_of (find is_spent v.messages)) (sym e) ∙ ap sender_of (stays_by p t n w s.0 s.1) ∙ ap Some s.2

-- so is the first to do so at the start
pub spent_at_start : (p : Parts) (t i : ℕ) → start_spender p ≡ Some i → spender_by p t ≡ Some i
spent_at_start p t i h = spender_on_the_way p t (length p.federates * p.end) (world_at_start p) i refl h

-- a grant by the time that goes past 16,384 is the first to do so
pub spent_by_here : (p : Parts) (t n : ℕ) (ds : List Desk) (g : ℕ × ℕ) → IsFederation p → Shows p n ds → n < length p.federates * p.end → AllDue p t n → due_by t (next_grant p (after_grants p n (world_at_start p))) ≡ Some g
    → 16385 < (desk_after_turn_at p g ds).state.next → spender_by p t ≡ Some g.1
spent_by_here p t n ds g f s lt all e past =
    let w = after_grants p n (world_at_start p) in
    let most = length p.federates * p.end in
    let next = (due_is_next t (next_grant p w) g e).0 in
    let within = (next_fine p w.messages w.seats g s.sane next).0 in
    let Q : Desk → Type 0 = λ d. 16385 < d.state.next in
    let step : after_grants_by p t (n + 1) (world_at_start p) ≡ world_after_grant p w g =
    ap (λ (k : ℕ). after_grants_by p t k (world_at_start p)) (add-one n) ∙ by_suc p t n (world_at_start p) ∙ ap (λ (v : World). world_after_pair p v (due_by t (next_grant p v))) all ∙ ap (world_after_pair p w) e in
    let goes : after_grants_by p t (most - (n + 1)) (world_after_grant p w g) ≡ world_by p t =
    ap (after_grants_by p t (most - (n + 1))) (sym step) ∙ sym (by_more p t (n + 1) (most - (n + 1)) most (world_at_start p) (omega arith)) in
    spender_on_the_way p t (most - (n + 1)) (world_after_grant p w g) g.1 goes
    (granted_find p w g s.none (room_left p n g.1 f within s.none) (subst Q (ap (desk_after_turn_at p g) s.desks ∙ turn_shown p w g within) past))

-- where all are early, all are at the front
all_front_until : (d : ℕ) (ms : List Message) → AllByRecursion (λ (m : Message). nat_le m.time d ≡ true) ms → front_until d ms ≡ ms
all_front_until d [] h = refl
all_front_until d (m ∷ ms) h = ap (λ b. cond b (m ∷ front_until d ms) []) h.0 ∙ ap (λ xs. m ∷ xs) (all_front_until d ms h.1)

-- the desks of a world have its standings
standings_shown : (p : Parts) (sent : List Message) (i : ℕ) (ss : List Seat) → standings_of_desks p i (desks_of_seats_from p sent i ss) ≡ standings_from p sent i ss
standings_shown p sent i [] = refl
standings_shown p sent i (s ∷ ss) =
    let with_pending : List Message → Standing = λ q. record { now = s.now; vars = s.state.vars; wish = s.state.wish; request = cond (nat_lt s.now p.end) (Some s.request) None; own = filter (is_in_reach p i s.now) (own_events s.state.sends); pending = q } in
    ap (λ q. with_pending q ∷ standings_of_desks p (i + 1) (desks_of_seats_from p sent (i + 1) ss))
    (all_front_until p.end (in_order (pending_messages p i s.got sent)) (pending_in_time p i s.got sent))
    ∙ ap (λ xs. standing_of p sent i s ∷ xs) (standings_shown p sent (i + 1) ss)

next_shown : (p : Parts) (sent : List Message) (i : ℕ) (ss : List Seat) → next_of_desks (desks_of_seats_from p sent i ss) ≡ map (λ (s : Seat). s.state.next) ss
next_shown p sent i [] = refl
next_shown p sent i (s ∷ ss) = ap (λ xs. s.state.next ∷ xs) (next_shown p sent (i + 1) ss)

-- so they have its cut
pub cut_shown : (p : Parts) (t : ℕ) (w : World) → cut_of_desks p t (desks_of p w) ≡ cut_of p t w
cut_shown p t w =
    let made : List ℕ → List Standing → Cut = λ next kept. record { at = min t p.end; next = next; federates = kept } in
    ap (λ next. made next (standings_of_desks p 0 (desks_of p w))) (next_shown p w.messages 0 w.seats) ∙ ap (made (map (λ (s : Seat). s.state.next) w.seats)) (standings_shown p w.messages 0 w.seats)

-- no desk of a world stands past the end, where no seat does
pub desks_by_end : (p : Parts) (sent : List Message) (i : ℕ) (ss : List Seat) → AllByRecursion (λ (s : Seat). s.now ≤ p.end) ss → AllByRecursion (λ (d : Desk). d.now ≤ p.end) (desks_of_seats_from p sent i ss)
desks_by_end p sent i [] h = tt
desks_by_end p sent i (s ∷ ss) h = (h.0, desks_by_end p sent (i + 1) ss h.1)

-- so it is in each world of the run
pub shown_by_end : (p : Parts) (n : ℕ) → IsFederation p → AllByRecursion (λ (d : Desk). d.now ≤ p.end) (desks_of p (after_grants p n (world_at_start p)))
shown_by_end p n f =
    let w = after_grants p n (world_at_start p) in
    let r = (reached_after p (0, 0) (world_at_start p) n f (started_reached p f)).1 in
    desks_by_end p w.messages 0 w.seats (all_seats (λ (s : Seat). s.now ≤ p.end) w.seats (λ k lt. (r.each k lt).now_end))

-- the first desk is taken away
pub first_desk : (ds : List Desk) (x : Desk) → 0 < length ds → x ≡ get_or ds 0 x → ds ≡ x ∷ drop 1 ds
first_desk [] x lt is = absurd (omega arith)
first_desk (d ∷ ds) x lt is = ap (λ y. y ∷ ds) (sym is)

-- and its next number, and what is kept of it, join those before
pub next_joins : (next : List ℕ) (ds rest : List Desk) (x : Desk) → ds ≡ x ∷ rest → (next ++ x.state.next ∷ []) ++ next_of_desks rest ≡ next ++ next_of_desks ds
next_joins next ds rest x e = append_assoc next (x.state.next ∷ []) (next_of_desks rest) ∙ ap (λ ys. next ++ next_of_desks ys) (sym e)

pub standing_joins : (p : Parts) (i : ℕ) (kept : List Standing) (ds rest : List Desk) (x : Desk) → ds ≡ x ∷ rest
    → (kept ++ standing_of_desk p i x ∷ []) ++ standings_of_desks p (i + 1) rest ≡ kept ++ standings_of_desks p i ds
standing_joins p i kept ds rest x e = append_assoc kept (standing_of_desk p i x ∷ []) (standings_of_desks p (i + 1) rest) ∙ ap (λ ys. kept ++ standings_of_desks p i ys) (sym e)

-- the world by a time is one of the run
pub by_reached : (p : Parts) (t : ℕ) → (n : ℕ) × (world_by p t ≡ after_grants p n (world_at_start p))
by_reached p t = let x = by_is_after p t (length p.federates * p.end) (world_at_start p) in (x.count, x.is)

-- its desks are as many as the federates
pub by_each : (p : Parts) (t : ℕ) → IsFederation p → length (desks_of p (world_by p t)) ≡ length p.federates
by_each p t f =
    let b = by_reached p t in
    let w = after_grants p b.0 (world_at_start p) in
    ap (λ (v : World). length (desks_of p v)) b.1 ∙ length_shown p w.messages 0 w.seats ∙ (reached_after p (0, 0) (world_at_start p) b.0 f (started_reached p f)).1.count

-- and none stands past the end
pub by_by_end : (p : Parts) (t : ℕ) → IsFederation p → All (λ (d : Desk). d.now ≤ p.end) (desks_of p (world_by p t))
by_by_end p t f =
    let b = by_reached p t in
    let P : World → Type 0 = λ v. All (λ (d : Desk). d.now ≤ p.end) (desks_of p v) in
    subst P (sym b.1) (All-from_recursion (λ (d : Desk). d.now ≤ p.end) (desks_of p (after_grants p b.0 (world_at_start p))) (shown_by_end p b.0 f))

-- a spent number by another rule
pub spent_weaker : {T : Type 0} (r : Result T OracleEnd) (P Q : ℕ → Type 0) → ((i : ℕ) → P i → Q i) → IfSpent r P → IfSpent r Q
spent_weaker (Ok x) P Q f h = tt
spent_weaker (Err (SendsSpent i)) P Q f h = f i h
spent_weaker (Err NoMemory) P Q f h = tt

-- the lines of the world by a time fit, as those of the simulation do
pub fits_by : (p : Parts) (t : ℕ) → IsFederation p → All (LineFits p) (lines_of (world_by p t).blocks)
fits_by p t f =
    let early = (world_by p t).blocks in
    let late = (resumed p (simulation_cut p t)).blocks in
    let c = cut_in_two p f t in
    let whole : lines_of (simulation p).blocks ≡ lines_of early ++ lines_of late =
    ap lines_of (c.blocks ∙ ap (λ (bs : List Block). bs ++ late) (sym c.upto)) ∙ flat_map-append block_lines early late in
    let P : List Line → Type 0 = AllByRecursion (LineFits p) in
    All-from_recursion (LineFits p) (lines_of early)
    (all_front (LineFits p) (lines_of early) (lines_of late) (subst P whole (recursion_from_All (LineFits p) (lines_of (simulation p).blocks) (simulated_fits p f))))
