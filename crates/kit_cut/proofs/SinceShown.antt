-- Desks that show a world since a cut: they wait, are granted and are posted to as its seats are.
use Rattle.std.proofs.Common.{◌≡◌, ℕ, zero, suc, ◌+◌, ◌<◌, Bool, true, false, cond, List, [], ◌∷◌, ◌++◌, length, drop, get_or, set, nat_lt, arith, refl, sym, subst, ap, ◌∙◌, append_assoc}
use Rattle.std.specs.List.{AllByRecursion, list_any}
use Rattle.std.proofs.lemmas.List.{append-nil}
use Rattle.kit_base.specs.declared.message.Message.{Message}
use Rattle.kit_base.specs.Order.{in_order}
use Rattle.kit_rules.specs.Parts.{Parts}
use Rattle.kit_rules.specs.Step.{is_event}
use Rattle.kit_rules.specs.Delivery.{has_bit, is_same, retracts, pending_messages}
use Rattle.kit_rules.specs.Simulation.{Seat, World, world, seat_due, seat_at, nobody_seated}
use Rattle.kit_oracle.specs.declared.desk.Desk.{Desk}
use Rattle.kit_oracle.specs.Pending.{queue_with, without_key}
use Rattle.kit_oracle.specs.Desks.{waiting_at, desk_after_turn, desk_after_turn_at, desk_at, nobody_there, receiver_mask, desk_of_seat}
use Rattle.kit_oracle.proofs.Posts.{retraction_posted}
use Rattle.kit_oracle.proofs.Starting.{retraction_by_key}
use Rattle.kit_oracle.proofs.Showing.{due_shown, desk_shown, turn_shown, post_queue, among}
use Rattle.kit_cut.specs.declared.cut.Cut.{Cut}
use Rattle.kit_cut.specs.ValidCuts.{standing_at}
use Rattle.kit_cut.specs.Resuming.{since_cut, waiting_since, seat_after_since, world_after_since}
use Rattle.kit_cut.specs.SinceCut.{desks_since, desks_of_world_since, named_time, queue_after_since, desks_after_message_since, desks_after_messages_since, desks_after_grant_since}
use Rattle.kit_cut.proofs.Named.{TimedAt}

-- the desks wait for what the seats wait for
pub waiting_shown_since : (p : Parts) (c : Cut) (sent : List Message) (i : ℕ) (ss : List Seat) → waiting_at p.end i (desks_since p c sent i ss) ≡ waiting_since p c sent i ss
waiting_shown_since p c sent i [] = refl
waiting_shown_since p c sent i (s ∷ ss) =
    let rest = waiting_at p.end (i + 1) (desks_since p c sent (i + 1) ss) in
    ap (λ (t : ℕ). cond (nat_lt s.now p.end) ((t, i) ∷ rest) rest) (due_shown s.request (pending_messages p i s.got (since_cut c i sent)))
    ∙ ap (λ (xs : List (ℕ × ℕ)). cond (nat_lt s.now p.end) ((seat_due p (since_cut c i sent) i s, i) ∷ xs) xs) (waiting_shown_since p c sent (i + 1) ss)

-- there are as many desks as seats
pub length_shown_since : (p : Parts) (c : Cut) (sent : List Message) (i : ℕ) (ss : List Seat) → length (desks_since p c sent i ss) ≡ length ss
length_shown_since p c sent i [] = refl
length_shown_since p c sent i (s ∷ ss) = ap suc (length_shown_since p c sent (i + 1) ss)

-- the desk at a place shows the seat there
at_shown_since : (p : Parts) (c : Cut) (sent : List Message) (a k n : ℕ) (ss : List Seat) → a + k ≡ n → k < length ss
    → get_or (desks_since p c sent a ss) k nobody_there ≡ desk_of_seat p (since_cut c n sent) n (get_or ss k nobody_seated)
at_shown_since p c sent a k n [] e lt = absurd (omega arith)
at_shown_since p c sent a zero n (s ∷ ss) e lt = ap (λ i. desk_of_seat p (since_cut c i sent) i s) (let is : a ≡ n = omega arith in is)
at_shown_since p c sent a (suc k) n (s ∷ ss) e lt = at_shown_since p c sent (a + 1) k n ss (omega arith) (omega arith)

-- a seat is set, and so is its desk
set_shown_since : (p : Parts) (c : Cut) (sent : List Message) (a k n : ℕ) (ss : List Seat) (s : Seat) → a + k ≡ n
    → desks_since p c sent a (set ss k s) ≡ set (desks_since p c sent a ss) k (desk_of_seat p (since_cut c n sent) n s)
set_shown_since p c sent a k n [] s e = refl
set_shown_since p c sent a zero n (x ∷ ss) s e = ap (λ i. desk_of_seat p (since_cut c i sent) i s ∷ desks_since p c sent (a + 1) ss) (let is : a ≡ n = omega arith in is)
set_shown_since p c sent a (suc k) n (x ∷ ss) s e = ap (λ xs. desk_of_seat p (since_cut c a sent) a x ∷ xs) (set_shown_since p c sent (a + 1) k n ss s (omega arith))

-- what a message must be for its posting to a federate: it has not had the message, nothing that may reach it has the message's key or takes it back, and what the message takes back has the time that is found
pub record FreshSince (pending : List Message) (s : Seat) (sent : List Message) (m : Message) : Type 0 where
  pub got : list_any (is_same m) s.got ≡ false
  pub kept : list_any (retracts m) (pending ++ sent) ≡ false
  pub new : list_any (is_same m) (pending ++ sent) ≡ false
  pub timed : is_event m.kind ≡ false → AllByRecursion (TimedAt (named_time pending m) m) (pending ++ sent)

-- the same at each federate of a list
abbrev pub FreshAtEach : Cut → ℕ → List Seat → List Message → Message → Type 0
FreshAtEach c i ss sent m = (k : ℕ) → k < length ss → FreshSince (standing_at c (i + k)).pending (get_or ss k nobody_seated) sent m

-- and of messages that are sent one after another
abbrev pub AreFreshSince : Cut → List Seat → List Message → List Message → Type 0
AreFreshSince c ss sent [] = Unit {0}
AreFreshSince c ss sent (m ∷ ms) = FreshAtEach c 0 ss sent m × AreFreshSince c ss (sent ++ m ∷ []) ms

-- a message with another time
abbrev timed : ℕ → Message → Message
timed t m = record { time = t; sender = m.sender; number = m.number; kind = m.kind; group = m.group; value = m.value }

-- one more message sent, at one queue
post_queue_since : (p : Parts) (j : ℕ) (pending : List Message) (s : Seat) (sent : List Message) (m : Message) → FreshSince pending s sent m
    → queue_after_since (receiver_mask p m) j pending m (in_order (pending_messages p j s.got (pending ++ sent))) ≡ in_order (pending_messages p j s.got (pending ++ (sent ++ m ∷ [])))
post_queue_since p j pending s sent m h = by_kind (is_event m.kind) refl ∙ ap (λ (ms : List Message). in_order (pending_messages p j s.got ms)) (append_assoc pending sent (m ∷ []))
  where
    by_kind : (b : Bool) → is_event m.kind ≡ b
        → queue_after_since (receiver_mask p m) j pending m (in_order (pending_messages p j s.got (pending ++ sent))) ≡ in_order (pending_messages p j s.got ((pending ++ sent) ++ m ∷ []))
    by_kind true e =
        let q = in_order (pending_messages p j s.got (pending ++ sent)) in
        let entered = cond (has_bit (receiver_mask p m) j) (queue_with m q) q in
        ap (λ b. cond b entered (without_key (named_time pending m) m.sender m.value q)) e
        ∙ sym (ap (λ b. cond b entered (without_key m.time m.sender m.value q)) e)
        ∙ post_queue p j s.got (pending ++ sent) m h.got h.kept h.new (λ no. absurd (cc))
    by_kind false e =
        let q = in_order (pending_messages p j s.got (pending ++ sent)) in
        let entered = cond (has_bit (receiver_mask p m) j) (queue_with m q) q in
        let t = named_time pending m in
        ap (λ b. cond b entered (without_key t m.sender m.value q)) e
        ∙ sym (retraction_by_key (timed t m) q e (among (TimedAt t m) p j s.got (pending ++ sent) (h.timed e)))
        ∙ sym (retraction_posted p j s.got (pending ++ sent) m e)

-- and at all desks
post_one_since : (p : Parts) (c : Cut) (j : ℕ) (ss : List Seat) (sent : List Message) (m : Message) → FreshAtEach c j ss sent m
    → desks_after_message_since c (receiver_mask p m) m j (desks_since p c sent j ss) ≡ desks_since p c (sent ++ m ∷ []) j ss
post_one_since p c j [] sent m h = refl
post_one_since p c j (s ∷ ss) sent m h =
    let F : ℕ → Type 0 = λ n. FreshSince (standing_at c n).pending s sent m in
    let here : FreshSince (standing_at c j).pending s sent m = subst F (let e : j + 0 ≡ j = omega arith in e) (h 0 (omega arith)) in
    let rest : FreshAtEach c (j + 1) ss sent m = λ k lt.
    let R : ℕ → Type 0 = λ n. FreshSince (standing_at c n).pending (get_or ss k nobody_seated) sent m in
    subst R (let e : j + suc k ≡ (j + 1) + k = omega arith in e) (h (suc k) (omega arith)) in
    let desk : List Message → Desk = λ q. record { now = s.now; request = s.request; state = s.state; queue = q } in
    ap (λ q. desk q ∷ desks_after_message_since c (receiver_mask p m) m (j + 1) (desks_since p c sent (j + 1) ss)) (post_queue_since p j (standing_at c j).pending s sent m here)
    ∙ ap (λ ds. desk_of_seat p (since_cut c j (sent ++ m ∷ [])) j s ∷ ds) (post_one_since p c (j + 1) ss sent m rest)

-- messages that are posted one after another are sent
post_each_since : (p : Parts) (c : Cut) (ss : List Seat) (sent made : List Message) → AreFreshSince c ss sent made
    → desks_after_messages_since p c made (desks_since p c sent 0 ss) ≡ desks_since p c (sent ++ made) 0 ss
post_each_since p c ss sent [] h = ap (λ ms. desks_since p c ms 0 ss) (sym (append-nil sent))
post_each_since p c ss sent (m ∷ ms) h =
    ap (desks_after_messages_since p c ms) (post_one_since p c 0 ss sent m h.0) ∙ post_each_since p c ss (sent ++ m ∷ []) ms h.1
    ∙ ap (λ xs. desks_since p c xs 0 ss) (append_assoc sent (m ∷ []) ms)

-- the world in which what may reach federate i is all that was sent: a grant to it is the grant since the cut
abbrev pub world_for : Cut → ℕ → World → World
world_for c i w = world w.seats (since_cut c i w.messages) w.blocks

-- the desk of a federate shows its seat
pub desk_shown_since : (p : Parts) (c : Cut) (w : World) (i : ℕ) → i < length w.seats → desk_at (desks_of_world_since p c w) i ≡ desk_of_seat p (since_cut c i w.messages) i (seat_at w i)
desk_shown_since p c w i lt = at_shown_since p c w.messages 0 i i w.seats (omega arith) lt

-- and so it does after its turn
pub turn_shown_since : (p : Parts) (c : Cut) (w : World) (g : ℕ × ℕ) → g.1 < length w.seats
    → desk_after_turn_at p g (desks_of_world_since p c w) ≡ desk_of_seat p (since_cut c g.1 w.messages) g.1 (seat_after_since p c w g)
turn_shown_since p c w g lt =
    let u = world_for c g.1 w in
    ap (desk_after_turn p g.1 g.0) (desk_shown_since p c w g.1 lt ∙ sym (desk_shown p u g.1 lt)) ∙ turn_shown p u g lt

-- a grant to the desks is the grant to the world
pub grant_shown_since : (p : Parts) (c : Cut) (w : World) (g : ℕ × ℕ) → g.1 < length w.seats
    → AreFreshSince c (world_after_since p c w g).seats w.messages (drop (length (seat_at w g.1).state.sends) (seat_after_since p c w g).state.sends)
    → desks_after_grant_since p c g (desks_of_world_since p c w) ≡ desks_of_world_since p c (world_after_since p c w g)
grant_shown_since p c w g lt fresh =
    let ds = desks_of_world_since p c w in
    let made = drop (length (seat_at w g.1).state.sends) (seat_after_since p c w g).state.sends in
    let whole : Desk → Desk → List Desk = λ old new. desks_after_messages_since p c (drop (length old.state.sends) new.state.sends) (set ds g.1 new) in
    ap (λ old. whole old (desk_after_turn_at p g ds)) (desk_shown_since p c w g.1 lt)
    ∙ ap (whole (desk_of_seat p (since_cut c g.1 w.messages) g.1 (seat_at w g.1))) (turn_shown_since p c w g lt)
    ∙ ap (desks_after_messages_since p c made) (sym (set_shown_since p c w.messages 0 g.1 g.1 w.seats (seat_after_since p c w g) (omega arith)))
    ∙ post_each_since p c (world_after_since p c w g).seats w.messages made fresh
