-- Desks that show a world: they wait, are granted and are posted to as its seats are.
use Rattle.std.proofs.Common.{◌≡◌, ℕ, zero, suc, ◌+◌, ◌<◌, Bool, true, false, cond, ◌&&◌, ◌||◌, ◌%◌, ◌^◌, List, [], ◌∷◌, ◌++◌, length, drop, get_or, set, nat_eq, nat_lt, arith, refl, sym, ap, ◌∙◌, append_assoc}
use Rattle.std.specs.List.{AllByRecursion, list_any}
use Rattle.std.proofs.lemmas.List.{append-nil}
use Rattle.std.proofs.Math.Nat.{zero-div}
use Rattle.kit_base.specs.declared.message.Message.{Message}
use Rattle.kit_base.proofs.Lists.{all_filter}
use Rattle.kit_base.specs.Order.{in_order}
use Rattle.kit_rules.specs.declared.table.Request.{Request}
use Rattle.kit_rules.specs.declared.table.Request.TheVariants as request
use Rattle.kit_rules.specs.Parts.{Parts}
use Rattle.kit_rules.specs.Step.{is_event}
use Rattle.kit_rules.specs.Delivery.{has_bit, receivers_of, is_transported, is_same, retracts, is_pending, pending_messages, due_messages, due_time, request_due}
use Rattle.kit_rules.specs.Simulation.{Seat, World, request_at, after_block, seat_due, waiting_from, seat_after_grant, seat_after_pair, world_after_grant, seat_at, nobody_seated}
use Rattle.kit_laws.proofs.Fitting.{all_in_order}
use Rattle.kit_oracle.specs.declared.desk.Desk.{Desk}
use Rattle.kit_oracle.specs.Pending.{first_time, queue_with, rest_after, queue_after_message, without_key}
use Rattle.kit_oracle.specs.Desks.{waiting_at, desk_after_turn, desk_after_turn_at, desk_at, nobody_there, receiver_mask, desks_after_message_from, desks_after_messages, desks_after_grant, desk_of_seat, desks_of_seats_from, desks_of}
use Rattle.kit_oracle.proofs.Fronts.{due_is_first}
use Rattle.kit_oracle.proofs.Posts.{event_posted, retraction_posted}
use Rattle.kit_oracle.proofs.Starting.{Timed, retraction_by_key}
use Rattle.kit_oracle.proofs.Entering.{enter_new, front_is_due, behind_is_left}

-- a request is due at the front of what is in order
pub due_shown : (r : Request) (ms : List Message) → request_due r (first_time (in_order ms)) ≡ due_time r ms
due_shown (request.Tar t) ms = refl
due_shown (request.Ner t) ms = sym (due_is_first t ms)

-- the desks wait for what the seats wait for
pub waiting_shown : (p : Parts) (sent : List Message) (i : ℕ) (ss : List Seat) → waiting_at p.end i (desks_of_seats_from p sent i ss) ≡ waiting_from p sent i ss
waiting_shown p sent i [] = refl
waiting_shown p sent i (s ∷ ss) =
    ap (λ (t : ℕ). cond (nat_lt s.now p.end) ((t, i) ∷ waiting_at p.end (i + 1) (desks_of_seats_from p sent (i + 1) ss)) (waiting_at p.end (i + 1) (desks_of_seats_from p sent (i + 1) ss))) (due_shown s.request (pending_messages p i s.got sent))
    ∙ ap (λ (xs : List (ℕ × ℕ)). cond (nat_lt s.now p.end) ((seat_due p sent i s, i) ∷ xs) xs) (waiting_shown p sent (i + 1) ss)

-- there are as many desks as seats
pub length_shown : (p : Parts) (sent : List Message) (i : ℕ) (ss : List Seat) → length (desks_of_seats_from p sent i ss) ≡ length ss
length_shown p sent i [] = refl
length_shown p sent i (s ∷ ss) = ap suc (length_shown p sent (i + 1) ss)

-- the desk at a place shows the seat there
pub at_shown : (p : Parts) (sent : List Message) (a k n : ℕ) (ss : List Seat) → a + k ≡ n → k < length ss → get_or (desks_of_seats_from p sent a ss) k nobody_there ≡ desk_of_seat p sent n (get_or ss k nobody_seated)
at_shown p sent a k n [] e lt = absurd (omega arith)
at_shown p sent a zero n (s ∷ ss) e lt = ap (λ i. desk_of_seat p sent i s) (let is : a ≡ n = omega arith in is)
at_shown p sent a (suc k) n (s ∷ ss) e lt = at_shown p sent (a + 1) k n ss (omega arith) (omega arith)

-- a seat is set, and so is its desk
set_shown : (p : Parts) (sent : List Message) (a k n : ℕ) (ss : List Seat) (s : Seat) → a + k ≡ n → desks_of_seats_from p sent a (set ss k s) ≡ set (desks_of_seats_from p sent a ss) k (desk_of_seat p sent n s)
set_shown p sent a k n [] s e = refl
set_shown p sent a zero n (x ∷ ss) s e = ap (λ i. desk_of_seat p sent i s ∷ desks_of_seats_from p sent (a + 1) ss) (let is : a ≡ n = omega arith in is)
set_shown p sent a (suc k) n (x ∷ ss) s e = ap (λ xs. desk_of_seat p sent a x ∷ xs) (set_shown p sent (a + 1) k n ss s (omega arith))

-- a desk's turn is the grant to its seat
turned_shown : (p : Parts) (i d : ℕ) (sent : List Message) (s : Seat) → desk_after_turn p i d (desk_of_seat p sent i s) ≡ desk_of_seat p sent i (seat_after_grant p i d sent s)
turned_shown p i d sent s =
    let queue = in_order (pending_messages p i s.got sent) in
    let made : List Message → List Message → Desk = λ due q.
    let after = after_block p i d s.state due in
    record { now = d; request = cond (nat_lt d p.end) (request_at after.wish d p.end) s.request; state = after; queue = q } in
    ap (λ due. made due (rest_after d queue)) (front_is_due p i d s.got sent) ∙ ap (made (due_messages p i d s.got sent)) (behind_is_left p i d s.got sent)

-- what a message must be for its posting: no seat has had it, nothing that was sent has its key or takes it back, and what it takes back has its time
pub record Fresh (seats : List Seat) (sent : List Message) (m : Message) : Type 0 where
  pub got : AllByRecursion (λ (s : Seat). list_any (is_same m) s.got ≡ false) seats
  pub kept : list_any (retracts m) sent ≡ false
  pub new : list_any (is_same m) sent ≡ false
  pub timed : is_event m.kind ≡ false → AllByRecursion (Timed m) sent

-- the same for messages that are sent one after another
abbrev pub AreFresh : List Seat → List Message → List Message → Type 0
AreFresh seats sent [] = Unit {0}
AreFresh seats sent (m ∷ ms) = Fresh seats sent m × AreFresh seats (sent ++ m ∷ []) ms

-- no federate is a member of nobody
no_bit : (j : ℕ) → has_bit 0 j ≡ false
no_bit j = ap (λ (n : ℕ). nat_eq (n % 2) 1) (zero-div (2 ^ j))

-- a message reaches a federate that receives it, if it is transported
pub bit_reached : (p : Parts) (m : Message) (j : ℕ) → has_bit (receiver_mask p m) j ≡ (is_transported p m && has_bit (receivers_of p m.sender m.group) j)
bit_reached p m j =
    elim (is_transported p m) as (λ b. has_bit (cond b (receivers_of p m.sender m.group) 0) j ≡ (b && has_bit (receivers_of p m.sender m.group) j)) [ true ↦ refl | false ↦ no_bit j ]

-- where neither test passes
pub or_false : (a b : Bool) → (a || b) ≡ false → (a ≡ false) × (b ≡ false)
or_false true b h = absurd (cc)
or_false false b h = (refl, h)

-- where none passes each fails
pub none_among : (q : Message → Bool) (xs : List Message) → list_any q xs ≡ false → AllByRecursion (λ x. q x ≡ false) xs
none_among q [] h = tt
none_among q (x ∷ xs) h = let e = or_false (q x) (list_any q xs) h in (e.0, none_among q xs e.1)

-- where each fails none passes
pub all_among : (q : Message → Bool) (xs : List Message) → AllByRecursion (λ x. q x ≡ false) xs → list_any q xs ≡ false
all_among q [] h = refl
all_among q (x ∷ xs) h = rw h.0 (all_among q xs h.1)

-- what is pending is among what was sent
pub among : (P : Message → Type 0) (p : Parts) (j : ℕ) (got sent : List Message) → AllByRecursion P sent → AllByRecursion P (in_order (pending_messages p j got sent))
among P p j got sent h = all_in_order P [] (pending_messages p j got sent) tt (all_filter P (is_pending p j got sent) sent h)

-- one more message sent, at one queue
pub post_queue : (p : Parts) (j : ℕ) (got sent : List Message) (m : Message) → list_any (is_same m) got ≡ false → list_any (retracts m) sent ≡ false → list_any (is_same m) sent ≡ false
    → (is_event m.kind ≡ false → AllByRecursion (Timed m) sent) → queue_after_message (receiver_mask p m) j m (in_order (pending_messages p j got sent)) ≡ in_order (pending_messages p j got (sent ++ m ∷ []))
post_queue p j got sent m fresh kept new timed = by_kind (is_event m.kind) refl
  where
    by_kind : (b : Bool) → is_event m.kind ≡ b → queue_after_message (receiver_mask p m) j m (in_order (pending_messages p j got sent)) ≡ in_order (pending_messages p j got (sent ++ m ∷ []))
    by_kind true e =
        ap (λ b. cond b (cond (has_bit (receiver_mask p m) j) (queue_with m (in_order (pending_messages p j got sent))) (in_order (pending_messages p j got sent))) (without_key m.time m.sender m.value (in_order (pending_messages p j got sent)))) e
        ∙ ap (λ b. cond b (queue_with m (in_order (pending_messages p j got sent))) (in_order (pending_messages p j got sent))) (bit_reached p m j)
        ∙ ap (λ xs. cond (is_transported p m && has_bit (receivers_of p m.sender m.group) j) xs (in_order (pending_messages p j got sent)))
        (enter_new m (in_order (pending_messages p j got sent)) (all_among (is_same m) (in_order (pending_messages p j got sent)) (among (λ x. is_same m x ≡ false) p j got sent (none_among (is_same m) sent new))))
        ∙ sym (event_posted p j got sent m e fresh kept)
    by_kind false e =
        ap (λ b. cond b (cond (has_bit (receiver_mask p m) j) (queue_with m (in_order (pending_messages p j got sent))) (in_order (pending_messages p j got sent))) (without_key m.time m.sender m.value (in_order (pending_messages p j got sent)))) e
        ∙ sym (retraction_by_key m (in_order (pending_messages p j got sent)) e (among (Timed m) p j got sent (timed e)))
        ∙ sym (retraction_posted p j got sent m e)

-- and at all desks
post_one : (p : Parts) (j : ℕ) (ss : List Seat) (sent : List Message) (m : Message) → AllByRecursion (λ (s : Seat). list_any (is_same m) s.got ≡ false) ss → list_any (retracts m) sent ≡ false → list_any (is_same m) sent ≡ false
    → (is_event m.kind ≡ false → AllByRecursion (Timed m) sent) → desks_after_message_from (receiver_mask p m) m j (desks_of_seats_from p sent j ss) ≡ desks_of_seats_from p (sent ++ m ∷ []) j ss
post_one p j [] sent m fresh kept new timed = refl
post_one p j (s ∷ ss) sent m fresh kept new timed =
    let desk : List Message → Desk = λ q. record { now = s.now; request = s.request; state = s.state; queue = q } in
    ap (λ q. desk q ∷ desks_after_message_from (receiver_mask p m) m (j + 1) (desks_of_seats_from p sent (j + 1) ss)) (post_queue p j s.got sent m fresh.0 kept new timed)
    ∙ ap (λ ds. desk_of_seat p (sent ++ m ∷ []) j s ∷ ds) (post_one p (j + 1) ss sent m fresh.1 kept new timed)

-- messages that are posted one after another are sent
pub post_each : (p : Parts) (ss : List Seat) (sent made : List Message) → AreFresh ss sent made → desks_after_messages p made (desks_of_seats_from p sent 0 ss) ≡ desks_of_seats_from p (sent ++ made) 0 ss
post_each p ss sent [] h = ap (λ xs. desks_of_seats_from p xs 0 ss) (sym (append-nil sent))
post_each p ss sent (m ∷ ms) h =
    ap (desks_after_messages p ms) (post_one p 0 ss sent m h.0.got h.0.kept h.0.new h.0.timed) ∙ post_each p ss (sent ++ m ∷ []) ms h.1
    ∙ ap (λ xs. desks_of_seats_from p xs 0 ss) (append_assoc sent (m ∷ []) ms)

-- the desk of the federate that is granted shows its seat
pub desk_shown : (p : Parts) (w : World) (i : ℕ) → i < length w.seats → desk_at (desks_of p w) i ≡ desk_of_seat p w.messages i (seat_at w i)
desk_shown p w i lt = at_shown p w.messages 0 i i w.seats (omega arith) lt

-- and so it does after its turn
pub turn_shown : (p : Parts) (w : World) (g : ℕ × ℕ) → g.1 < length w.seats → desk_after_turn_at p g (desks_of p w) ≡ desk_of_seat p w.messages g.1 (seat_after_pair p w g)
turn_shown p w g lt = ap (desk_after_turn p g.1 g.0) (desk_shown p w g.1 lt) ∙ turned_shown p g.1 g.0 w.messages (seat_at w g.1)

-- a grant to the desks is the grant to the world
pub grant_shown : (p : Parts) (w : World) (g : ℕ × ℕ) → g.1 < length w.seats → AreFresh (world_after_grant p w g).seats w.messages (drop (length (seat_at w g.1).state.sends) (seat_after_pair p w g).state.sends)
    → desks_after_grant p g (desks_of p w) ≡ desks_of p (world_after_grant p w g)
grant_shown p w g lt fresh =
    let ds = desks_of p w in
    let whole : Desk → Desk → List Desk = λ old new. desks_after_messages p (drop (length old.state.sends) new.state.sends) (set ds g.1 new) in
    ap (λ old. whole old (desk_after_turn_at p g ds)) (desk_shown p w g.1 lt) ∙ ap (whole (desk_of_seat p w.messages g.1 (seat_at w g.1))) (turn_shown p w g lt)
    ∙ ap (desks_after_messages p (drop (length (seat_at w g.1).state.sends) (seat_after_pair p w g).state.sends)) (sym (set_shown p w.messages 0 g.1 g.1 w.seats (seat_after_pair p w g) (omega arith)))
    ∙ post_each p (world_after_grant p w g).seats w.messages (drop (length (seat_at w g.1).state.sends) (seat_after_pair p w g).state.sends) fresh
