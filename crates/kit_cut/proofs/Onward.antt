-- The simulation since a cut, grant after grant, as the desks show it.
use Rattle.std.proofs.Common.{◌≡◌, ℕ, zero, suc, ◌+◌, ◌-◌, ◌*◌, ◌<◌, ◌≤◌, Bool, true, false, cond, List, [], ◌∷◌, ◌++◌, length, map, drop, get_or, find, nat_lt, Option, Some, None, IfSome, arith, refl, sym, subst, ap, ◌∙◌, append_assoc, add-one}
use Rattle.std.specs.List.{All, AllByRecursion}
use Rattle.std.proofs.lemmas.List.Elements.{All-from_recursion, All-head, All-tail}
use Rattle.kit_base.specs.declared.history.Line.{Line}
use Rattle.kit_base.specs.declared.history.Line.TheVariants as line
use Rattle.kit_base.specs.declared.message.Message.{Message}
use Rattle.kit_base.specs.Order.{in_order}
use Rattle.kit_rules.specs.Parts.{Parts}
use Rattle.kit_rules.specs.Federation.{IsFederation}
use Rattle.kit_rules.specs.Fits.{LineFits}
use Rattle.kit_rules.specs.declared.table.Request.TheVariants as request
use Rattle.kit_rules.specs.Delivery.{pending_messages, due_messages}
use Rattle.kit_rules.specs.Simulation.{Seat, World, Block, least_pair, seat_at, seat_due, block, block_lines, lines_of, is_spent, closing_vars}
use Rattle.kit_laws.proofs.Least.{least_keeps}
use Rattle.kit_laws.proofs.Numbers.{sender_of, find_past, find_stays, gained_find, gained_none}
use Rattle.kit_laws.proofs.Pendings.{due_capped}
use Rattle.kit_laws.proofs.Sane.{IsSane, time_of}
use Rattle.kit_laws.proofs.Worlds.{some_sender, grows_by_grant}
use Rattle.kit_oracle.specs.declared.desk.Desk.{Desk}
use Rattle.kit_oracle.specs.Pending.{front_until}
use Rattle.kit_oracle.specs.Desks.{waiting_at, desk_at, desk_after_turn_at, desk_of_seat}
use Rattle.kit_oracle.proofs.Entering.{front_is_due}
use Rattle.kit_oracle.proofs.Progress.{lines_more}
use Rattle.kit_cut.specs.declared.cut.Standing.{Standing}
use Rattle.kit_cut.specs.declared.cut.Cut.{Cut}
use Rattle.kit_cut.specs.ValidCuts.{nobody_stands, standing_at, IsValidCut}
use Rattle.kit_cut.specs.Resuming.{since_cut, seat_restored, seats_restored, world_restored, waiting_since, next_since, seat_after_since, world_after_since, world_after_pair_since, after_grants_since, resumed, resumed_spender}
use Rattle.kit_cut.specs.SinceCut.{desk_restored, desks_restored, desks_since, desks_of_world_since, desks_after_grant_since}
use Rattle.kit_cut.proofs.SinceShown.{world_for, waiting_shown_since, length_shown_since, desk_shown_since, turn_shown_since, grant_shown_since}
use Rattle.kit_cut.proofs.WasPending.{was_pending}
use Rattle.kit_cut.proofs.Since.{Since, since_granted, since_restored}
use Rattle.kit_cut.proofs.FreshSince.{grant_fresh_since}
use Rattle.kit_cut.proofs.FitSince.{FitSince, fit_granted_since, fit_restored}

-- the world after so many grants since a cut
abbrev pub world_later : Parts → Cut → ℕ → World
world_later p c n = after_grants_since p c n (world_restored c)

-- so many, and then so many more
more_since : (p : Parts) (c : Cut) (a b n : ℕ) (w : World) → a + b ≡ n → after_grants_since p c n w ≡ after_grants_since p c b (after_grants_since p c a w)
more_since p c zero b n w e = ap (λ (k : ℕ). after_grants_since p c k w) (let is : n ≡ b = omega arith in is)
more_since p c (suc a) b zero w e = absurd (omega arith)
more_since p c (suc a) b (suc n) w e = more_since p c a b n (world_after_pair_since p c w (next_since p c w)) (omega arith)

-- one more at the end
suc_since : (p : Parts) (c : Cut) (n : ℕ) (w : World) → after_grants_since p c (suc n) w ≡ world_after_pair_since p c (after_grants_since p c n w) (next_since p c (after_grants_since p c n w))
suc_since p c zero w = refl
suc_since p c (suc n) w = suc_since p c n (world_after_pair_since p c w (next_since p c w))

-- where nobody waits, nothing goes on
none_since : (p : Parts) (c : Cut) (n : ℕ) (w : World) → next_since p c w ≡ None → after_grants_since p c n w ≡ w
none_since p c zero w e = refl
none_since p c (suc n) w e = ap (λ o. after_grants_since p c n (world_after_pair_since p c w o)) e ∙ none_since p c n w e

-- so the run is over then
pub over_since : (p : Parts) (c : Cut) (n : ℕ) → n ≤ length p.federates * p.end → next_since p c (world_later p c n) ≡ None → world_later p c n ≡ resumed p c
over_since p c n le none =
    let most = length p.federates * p.end in
    sym (more_since p c n (most - n) most (world_restored c) (omega arith) ∙ none_since p c (most - n) (world_later p c n) none)

-- one more turn is one more grant
pub one_more_since : (p : Parts) (c : Cut) (n : ℕ) (g : ℕ × ℕ) → next_since p c (world_later p c n) ≡ Some g → world_later p c (n + 1) ≡ world_after_since p c (world_later p c n) g
one_more_since p c n g next =
    ap (λ (k : ℕ). world_later p c k) (add-one n) ∙ suc_since p c n (world_restored c) ∙ ap (world_after_pair_since p c (world_later p c n)) next

-- who waits is a federate there is, and waits for a time by the end
abbrev Fine : ℕ → ℕ → ℕ × ℕ → Type 0
Fine n end g = (g.1 < n) × (g.0 ≤ end)

waiting_fine : (p : Parts) (c : Cut) (sent : List Message) (i n : ℕ) (ss : List Seat) → i + length ss ≤ n → All (λ (s : Seat). time_of s.request ≤ p.end) ss → AllByRecursion (Fine n p.end) (waiting_since p c sent i ss)
waiting_fine p c sent i n [] le h = tt
waiting_fine p c sent i n (s ∷ ss) le h =
    let C : Seat → Type 0 = λ s. time_of s.request ≤ p.end in
    let capped : time_of s.request ≤ p.end = All-head C s ss h in
    let xs = waiting_since p c sent (i + 1) ss in
    let rest : AllByRecursion (Fine n p.end) xs = waiting_fine p c sent (i + 1) n ss (omega arith) (All-tail C s ss h) in
    elim (nat_lt s.now p.end) as (λ b. AllByRecursion (Fine n p.end) (cond b ((seat_due p (since_cut c i sent) i s, i) ∷ xs) xs))
    [ true ↦ ((omega arith, omega (arith, capped, due_capped s.request (pending_messages p i s.got (since_cut c i sent)))), rest) | false ↦ rest ]

next_fine : (p : Parts) (c : Cut) (w : World) (g : ℕ × ℕ) → IsSane p w.seats → next_since p c w ≡ Some g → (g.1 < length w.seats) × (g.0 ≤ p.end)
next_fine p c w g sane is =
    let n = length w.seats in
    let P : Option (ℕ × ℕ) → Type 0 = λ o. IfSome o (Fine n p.end) in
    subst P is (least_keeps (Fine n p.end) None (waiting_since p c w.messages 0 w.seats) tt (waiting_fine p c w.messages 0 n w.seats (omega arith) sane.capped))

-- what the desks show after n grants since a cut
pub record ShowsSince (p : Parts) (c : Cut) (n : ℕ) (ds : List Desk) : Type 0 where
  pub desks : ds ≡ desks_of_world_since p c (world_later p c n)
  pub none : find is_spent (world_later p c n).messages ≡ None
  pub since : Since p c (world_later p c n)
  pub fit : FitSince p (world_later p c n)

-- they show it at first
pub shows_restored : (p : Parts) (c : Cut) (ds : List Desk) → IsFederation p → IsValidCut p c → ds ≡ desks_of_world_since p c (world_restored c) → ShowsSince p c 0 ds
shows_restored p c ds f v is = record { desks = is; none = refl; since = since_restored p c v; fit = fit_restored p c f v }

-- there are as many desks as federates
pub few_since : (p : Parts) (c : Cut) (n : ℕ) (ds : List Desk) → ShowsSince p c n ds → length ds ≡ length p.federates
few_since p c n ds s =
    let w = world_later p c n in
    ap (λ (xs : List Desk). length xs) s.desks ∙ length_shown_since p c w.messages 0 w.seats ∙ s.since.sane.count

-- the next grant, as it is found among the desks
pub next_found_since : (p : Parts) (c : Cut) (n : ℕ) (ds : List Desk) (end : ℕ) (r : Option (ℕ × ℕ)) → ShowsSince p c n ds → end ≡ p.end → r ≡ least_pair None (waiting_at end 0 ds) → next_since p c (world_later p c n) ≡ r
next_found_since p c n ds end r s e h =
    let w = world_later p c n in
    ap (least_pair None) (sym (waiting_shown_since p c w.messages 0 w.seats)) ∙ ap (λ xs. least_pair None (waiting_at p.end 0 xs)) (sym s.desks) ∙ ap (λ (t : ℕ). least_pair None (waiting_at t 0 ds)) (sym e) ∙ sym h

-- it goes to a federate there is, by the end
pub next_fits_since : (p : Parts) (c : Cut) (n : ℕ) (ds : List Desk) (g : ℕ × ℕ) → ShowsSince p c n ds → next_since p c (world_later p c n) ≡ Some g → (g.1 < length p.federates) × (g.0 ≤ p.end)
next_fits_since p c n ds g s next =
    let fine = next_fine p c (world_later p c n) g s.since.sane next in
    (omega (arith, fine.0, s.since.sane.count), fine.1)

-- what is at the front of the queue of the federate that is granted
front_since : (p : Parts) (c : Cut) (n : ℕ) (ds : List Desk) (g : ℕ × ℕ) → ShowsSince p c n ds → next_since p c (world_later p c n) ≡ Some g
    → front_until g.0 (desk_at ds g.1).queue ≡ due_messages p g.1 g.0 (seat_at (world_later p c n) g.1).got (since_cut c g.1 (world_later p c n).messages)
front_since p c n ds g s next =
    let w = world_later p c n in
    let within = (next_fine p c w g s.since.sane next).0 in
    ap (λ xs. front_until g.0 (desk_at xs g.1).queue) s.desks ∙ ap (λ (d : Desk). front_until g.0 d.queue) (desk_shown_since p c w g.1 within)
    ∙ front_is_due p g.1 g.0 (seat_at w g.1).got (since_cut c g.1 w.messages)

-- the lines after one more grant
pub lines_next_since : (p : Parts) (c : Cut) (n : ℕ) (ds : List Desk) (g : ℕ × ℕ) → ShowsSince p c n ds → next_since p c (world_later p c n) ≡ Some g
    → (lines_of (world_later p c n).blocks ++ map (line.Deliver g.0 g.1) (front_until g.0 (desk_at ds g.1).queue)) ++ line.Grant g.0 g.1 ∷ [] ≡ lines_of (world_later p c (n + 1)).blocks
lines_next_since p c n ds g s next =
    let w = world_later p c n in
    let due = due_messages p g.1 g.0 (seat_at w g.1).got (since_cut c g.1 w.messages) in
    append_assoc (lines_of w.blocks) (map (line.Deliver g.0 g.1) (front_until g.0 (desk_at ds g.1).queue)) (line.Grant g.0 g.1 ∷ [])
    ∙ ap (λ ms. lines_of w.blocks ++ block_lines (block g.1 g.0 ms)) (front_since p c n ds g s next)
    ∙ sym (lines_more w.blocks (block g.1 g.0 due))
    ∙ ap (λ (v : World). lines_of v.blocks) (sym (one_more_since p c n g next))

-- one more grant shows one more grant
pub granted_shows_since : (p : Parts) (c : Cut) (n : ℕ) (ds es : List Desk) (g : ℕ × ℕ) → IsFederation p → IsValidCut p c → ShowsSince p c n ds → next_since p c (world_later p c n) ≡ Some g
    → es ≡ desks_after_grant_since p c g ds → (desk_after_turn_at p g ds).state.next ≤ 16385 → ShowsSince p c (n + 1) es
granted_shows_since p c n ds es g f valid s next de room =
    let w = world_later p c n in
    let v = world_after_since p c w g in
    let within = (next_fine p c w g s.since.sane next).0 in
    let after : v ≡ world_later p c (n + 1) = sym (one_more_since p c n g next) in
    let D : World → Type 0 = λ u. es ≡ desks_of_world_since p c u in
    let N : World → Type 0 = λ u. find is_spent u.messages ≡ None in
    let S : World → Type 0 = Since p c in
    let F : World → Type 0 = FitSince p in
    let R : Desk → Type 0 = λ d. d.state.next ≤ 16385 in
    let turn = ap (desk_after_turn_at p g) s.desks ∙ turn_shown_since p c w g within in
    let roomy : (seat_after_since p c w g).state.next ≤ 16385 = subst R turn room in
    record {
      desks = subst D after (de ∙ ap (desks_after_grant_since p c g) s.desks ∙ grant_shown_since p c w g within (grant_fresh_since p c w g valid within roomy s.since));
      none = subst N after (find_past w.messages _ s.none ∙ gained_none g.1 (seat_at w g.1).state (seat_after_since p c w g).state (grows_by_grant p (world_for c g.1 w) g) roomy);
      since = subst S after (since_granted p c w g within roomy s.since);
      fit = subst F after (fit_granted_since p c w g f valid within (omega (arith, within, s.since.sane.count)) s.fit);
    }

-- what was sent stays sent
stays_once : (p : Parts) (c : Cut) (w : World) (m : Message) (o : Option (ℕ × ℕ)) → find is_spent w.messages ≡ Some m → find is_spent (world_after_pair_since p c w o).messages ≡ Some m
stays_once p c w m None h = h
stays_once p c w m (Some g) h = find_stays w.messages _ m h

stays : (p : Parts) (c : Cut) (n : ℕ) (w : World) (m : Message) → find is_spent w.messages ≡ Some m → find is_spent (after_grants_since p c n w).messages ≡ Some m
stays p c zero w m h = h
stays p c (suc n) w m h = stays p c n (world_after_pair_since p c w (next_since p c w)) m (stays_once p c w m (next_since p c w) h)

-- a grant that goes past number 16,384 is the first to do so since the cut
pub spent_here_since : (p : Parts) (c : Cut) (n : ℕ) (ds : List Desk) (g : ℕ × ℕ) → ShowsSince p c n ds → n < length p.federates * p.end → next_since p c (world_later p c n) ≡ Some g
    → 16385 < (desk_after_turn_at p g ds).state.next → resumed_spender p c ≡ Some g.1
spent_here_since p c n ds g s lt next past =
    let w = world_later p c n in
    let v = world_after_since p c w g in
    let most = length p.federates * p.end in
    let within = (next_fine p c w g s.since.sane next).0 in
    let old = (seat_at w g.1).state in
    let new = (seat_after_since p c w g).state in
    let Q : Desk → Type 0 = λ d. 16385 < d.state.next in
    let beyond : 16385 < new.next = subst Q (ap (desk_after_turn_at p g) s.desks ∙ turn_shown_since p c w g within) past in
    let goes : after_grants_since p c (most - (n + 1)) v ≡ resumed p c =
    ap (after_grants_since p c (most - (n + 1))) (sym (one_more_since p c n g next)) ∙ sym (more_since p c (n + 1) (most - (n + 1)) most (world_restored c) (omega arith)) in
    let first : sender_of (find is_spent v.messages) ≡ Some g.1 =
    ap sender_of (find_past w.messages _ s.none) ∙ gained_find g.1 old new (grows_by_grant p (world_for c g.1 w) g) (s.since.each g.1 within).room beyond in
    let m = some_sender (find is_spent v.messages) g.1 first in
    ap (λ (u : World). sender_of (find is_spent u.messages)) (sym goes) ∙ ap sender_of (stays p c (most - (n + 1)) v m.0 m.1) ∙ ap Some m.2

-- the closing variables stand on the desks
vars_from : (p : Parts) (c : Cut) (sent : List Message) (i : ℕ) (ss : List Seat) → map (λ (d : Desk). d.state.vars) (desks_since p c sent i ss) ≡ map (λ (s : Seat). s.state.vars) ss
vars_from p c sent i [] = refl
vars_from p c sent i (s ∷ ss) = ap (λ xs. s.state.vars ∷ xs) (vars_from p c sent (i + 1) ss)

pub vars_shown_since : (p : Parts) (c : Cut) (w : World) → map (λ (d : Desk). d.state.vars) (desks_of_world_since p c w) ≡ closing_vars w
vars_shown_since p c w = vars_from p c w.messages 0 w.seats

-- the desks as a cut has them show the world as it has it
restored_from : (p : Parts) (c : Cut) (a : ℕ) (ns : List ℕ) (ss : List Standing) → ((k : ℕ) → k < length ss → in_order (pending_messages p (a + k) [] (since_cut c (a + k) [])) ≡ (get_or ss k nobody_stands).pending)
    → desks_restored a ns ss ≡ desks_since p c [] a (seats_restored a ns ss)
restored_from p c a [] ss h = refl
restored_from p c a (n ∷ ns) [] h = refl
restored_from p c a (n ∷ ns) (s ∷ ss) h =
    let desk : List Message → Desk = λ q. record { now = (seat_restored a n s).now; request = (seat_restored a n s).request; state = (seat_restored a n s).state; queue = q } in
    let here : in_order (pending_messages p a [] (since_cut c a [])) ≡ s.pending = ap (λ i. in_order (pending_messages p i [] (since_cut c i []))) (let e : a ≡ a + 0 = omega arith in e) ∙ h 0 (omega arith) in
    ap (λ ds. desk_restored a n s ∷ ds) (restored_from p c (a + 1) ns ss (λ k lt.
    ap (λ i. in_order (pending_messages p i [] (since_cut c i []))) (let e : (a + 1) + k ≡ a + suc k = omega arith in e) ∙ h (suc k) (omega arith)))
    ∙ ap (λ q. desk q ∷ desks_since p c [] (a + 1) (seats_restored (a + 1) ns ss)) (sym here)

pub restored_shown : (p : Parts) (c : Cut) → IsValidCut p c → desks_restored 0 c.next c.federates ≡ desks_of_world_since p c (world_restored c)
restored_shown p c v =
    restored_from p c 0 c.next c.federates (λ k lt.
    ap (λ i. in_order (pending_messages p i [] (since_cut c i []))) (let e : 0 + k ≡ k = omega arith in e) ∙ (was_pending p c k v (omega (arith, v.each))).queue)

-- its lines fit
pub lines_fit_since : (p : Parts) (c : Cut) (n : ℕ) (ls : List Line) → FitSince p (world_later p c n) → ls ≡ lines_of (world_later p c n).blocks → All (LineFits p) ls
lines_fit_since p c n ls fit is =
    let L : List Line → Type 0 = All (LineFits p) in
    subst L (sym is) (All-from_recursion (LineFits p) (lines_of (world_later p c n).blocks) fit.lines)
