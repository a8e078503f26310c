-- Federates that differ in what they sent before and in what was delivered to them before go on alike.
use Rattle.std.proofs.Common.{◌≡◌, ℕ, zero, suc, ◌⊎◌, inl, inr, Bool, true, false, cond, not, ◌&&◌, ◌||◌, ◌+◌, ◌<◌, ◌≤◌, List, [], ◌∷◌, ◌++◌, length, drop, filter, get_or, set, nat_lt, nat_eq, arith, refl, sym, subst, ap, ◌∙◌, append_assoc}
use Rattle.std.specs.List.{AllByRecursion, list_any}
use Rattle.std.proofs.lemmas.Bool.{cases_lt, lt-ltb, le-ltb}
use Rattle.std.proofs.lemmas.List.{append-nil}
use Rattle.std.proofs.lemmas.List.Folds.{list_any-append}
use Rattle.std.proofs.Math.Seq.{drop-append_seam}
use Rattle.kit_base.specs.declared.message.Message.{Message}
use Rattle.kit_base.specs.Order.{put, in_order}
use Rattle.kit_rules.specs.declared.table.Request.{Request}
use Rattle.kit_rules.specs.declared.table.Trigger.TheVariants.{Grant, Got}
use Rattle.kit_rules.specs.Parts.{Parts, effective_lookahead}
use Rattle.kit_rules.specs.declared.scene.State.{State}
use Rattle.kit_rules.specs.Step.{is_event, state_after}
use Rattle.kit_rules.specs.Delivery.{is_same, retracts, is_transported, has_bit, receivers_of, pending_messages, due_messages, request_due}
use Rattle.kit_rules.specs.Simulation.{Seat, World, request_at, after_deliveries, after_block, seat_due, waiting_from, seat_at, nobody_seated, seat_after_grant, seat_after_pair, world_after_grant}
use Rattle.kit_laws.proofs.Pendings.{any_right}
use Rattle.kit_oracle.specs.Pending.{first_time, front_until, rest_after}
use Rattle.kit_oracle.proofs.Posts.{event_posted, retraction_posted}
use Rattle.kit_oracle.proofs.Entering.{front_is_due, behind_is_left}
use Rattle.kit_oracle.proofs.Showing.{due_shown, AreFresh}
use Rattle.kit_cut.specs.declared.cut.Cut.{Cut}
use Rattle.kit_cut.specs.ValidCuts.{standing_at}
use Rattle.kit_cut.specs.Resuming.{since_cut, waiting_since, seat_after_since, world_after_since}
use Rattle.kit_cut.proofs.Alike.{Same, with_sends, Follows, follows_none, follows_more, follows_step}

-- deliveries and a grant make the same messages
follows_deliveries : (p : Parts) (i since d : ℕ) (due : List Message) (a : State) (ys : List Message) → since ≤ d → Same (effective_lookahead p i) p.end since a.next a.sends ys
    → Follows (effective_lookahead p i) p.end since (λ s. after_deliveries p i d s due) a ys
follows_deliveries p i since d [] a ys le s = follows_none (effective_lookahead p i) p.end since a ys s
follows_deliveries p i since d (m ∷ ms) a ys le s =
    let one = follows_step p i (Got m.group) since d m.value a ys le s in
    follows_more (effective_lookahead p i) p.end since (state_after p i (Got m.group) d m.value) (λ s. after_deliveries p i d s ms) a ys one
    (follows_deliveries p i since d ms (state_after p i (Got m.group) d m.value a) (ys ++ one.made) le one.same)

pub follows_block : (p : Parts) (i since d : ℕ) (due : List Message) (a : State) (ys : List Message) → since ≤ d → Same (effective_lookahead p i) p.end since a.next a.sends ys
    → Follows (effective_lookahead p i) p.end since (λ s. after_block p i d s due) a ys
follows_block p i since d due a ys le s =
    let one = follows_deliveries p i since d due a ys le s in
    follows_more (effective_lookahead p i) p.end since (λ s. after_deliveries p i d s due) (state_after p i Grant d 0) a ys one
    (follows_step p i Grant since d 0 (after_deliveries p i d a due) (ys ++ one.made) le one.same)

-- an Event
abbrev pub IsEvent : Message → Type 0
IsEvent m = is_event m.kind ≡ true

-- federate s of a world whose messages are these, and federate t, to whom these are pending from before and these were sent since: they differ in their sends, of which the same may be taken back, and in what was
-- delivered, and the same is pending; at the end the request counts no more
pub record Twin (p : Parts) (i : ℕ) (base sent later : List Message) (s t : Seat) : Type 0 where
  pub now : t.now ≡ s.now
  pub request : s.now < p.end → t.request ≡ s.request
  pub state : t.state ≡ with_sends s.state t.state.sends
  pub since : ℕ
  pub early : since ≤ s.now
  pub same : Same (effective_lookahead p i) p.end since s.state.next s.state.sends t.state.sends
  pub had : List Message
  pub got : s.got ≡ had ++ t.got
  pub events : AllByRecursion IsEvent base
  pub pending : in_order (pending_messages p i s.got sent) ≡ in_order (pending_messages p i t.got (base ++ later))

-- the same for federates from number i on, by a cut
abbrev pub Twins : Parts → Cut → ℕ → List Message → List Message → List Seat → List Seat → Type 0
Twins p c i sent later [] [] = Unit {0}
Twins p c i sent later [] (t ∷ ts) = ⊥
Twins p c i sent later (s ∷ ss) [] = ⊥
Twins p c i sent later (s ∷ ss) (t ∷ ts) = Twin p i (standing_at c i).pending sent later s t × Twins p c (i + 1) sent later ss ts

-- they are due alike
twin_due : (p : Parts) (i : ℕ) (base sent later : List Message) (s t : Seat) → Twin p i base sent later s t → s.now < p.end → seat_due p (base ++ later) i t ≡ seat_due p sent i s
twin_due p i base sent later s t h lt =
    sym (due_shown t.request (pending_messages p i t.got (base ++ later)))
    ∙ ap (λ (q : List Message). request_due t.request (first_time q)) (sym h.pending)
    ∙ ap (λ (r : Request). request_due r (first_time (in_order (pending_messages p i s.got sent)))) (h.request lt)
    ∙ due_shown s.request (pending_messages p i s.got sent)

-- so they wait alike
pub twins_wait : (p : Parts) (c : Cut) (i : ℕ) (sent later : List Message) (ss ts : List Seat) → Twins p c i sent later ss ts → waiting_since p c later i ts ≡ waiting_from p sent i ss
twins_wait p c i sent later [] [] h = refl
twins_wait p c i sent later [] (t ∷ ts) h = absurd h
twins_wait p c i sent later (s ∷ ss) [] h = absurd h
twins_wait p c i sent later (s ∷ ss) (t ∷ ts) h =
    let rest = twins_wait p c (i + 1) sent later ss ts h.1 in
    let due = seat_due p (since_cut c i later) i t in
    let whole : ℕ → ℕ → List (ℕ × ℕ) → List (ℕ × ℕ) = λ now due xs. cond (nat_lt now p.end) ((due, i) ∷ xs) xs in
    ap (λ (now : ℕ). whole now due (waiting_since p c later (i + 1) ts)) h.0.now ∙ ap (whole s.now due) rest ∙ by_time (cases_lt s.now p.end)
  where
    by_time : (s.now < p.end) ⊎ (p.end ≤ s.now) → cond (nat_lt s.now p.end) ((seat_due p (since_cut c i later) i t, i) ∷ waiting_from p sent (i + 1) ss) (waiting_from p sent (i + 1) ss)
        ≡ cond (nat_lt s.now p.end) ((seat_due p sent i s, i) ∷ waiting_from p sent (i + 1) ss) (waiting_from p sent (i + 1) ss)
    by_time (inl lt) =
        let xs = waiting_from p sent (i + 1) ss in
        ap (λ (due : ℕ). cond (nat_lt s.now p.end) ((due, i) ∷ xs) xs) (twin_due p i (standing_at c i).pending sent later s t h.0 lt)
    by_time (inr ge) =
        let xs = waiting_from p sent (i + 1) ss in
        ap (λ b. cond b ((seat_due p (since_cut c i later) i t, i) ∷ xs) xs) (le-ltb s.now p.end ge) ∙ sym (ap (λ b. cond b ((seat_due p sent i s, i) ∷ xs) xs) (le-ltb s.now p.end ge))

-- twins at a place
twin_at : (p : Parts) (c : Cut) (a k n : ℕ) (sent later : List Message) (ss ts : List Seat) → a + k ≡ n → Twins p c a sent later ss ts → k < length ss
    → Twin p n (standing_at c n).pending sent later (get_or ss k nobody_seated) (get_or ts k nobody_seated)
twin_at p c a k n sent later [] ts e h lt = absurd (omega arith)
twin_at p c a k n sent later (s ∷ ss) [] e h lt = absurd h
twin_at p c a zero n sent later (s ∷ ss) (t ∷ ts) e h lt =
    let P : ℕ → Type 0 = λ i. Twin p i (standing_at c i).pending sent later s t in
    subst P (let is : a ≡ n = omega arith in is) h.0
twin_at p c a (suc k) n sent later (s ∷ ss) (t ∷ ts) e h lt = twin_at p c (a + 1) k n sent later ss ts (omega arith) h.1 (omega arith)

-- a pair of twins is set
twins_set : (p : Parts) (c : Cut) (a k n : ℕ) (sent later : List Message) (ss ts : List Seat) (s t : Seat) → a + k ≡ n → Twins p c a sent later ss ts → Twin p n (standing_at c n).pending sent later s t
    → Twins p c a sent later (set ss k s) (set ts k t)
twins_set p c a k n sent later [] [] s t is h w = tt
twins_set p c a k n sent later [] (y ∷ ts) s t is h w = absurd h
twins_set p c a k n sent later (x ∷ ss) [] s t is h w = absurd h
twins_set p c a zero n sent later (x ∷ ss) (y ∷ ts) s t is h w =
    let P : ℕ → Type 0 = λ i. Twin p i (standing_at c i).pending sent later s t in
    (subst P (let same : n ≡ a = omega arith in same) w, h.1)
twins_set p c a (suc k) n sent later (x ∷ ss) (y ∷ ts) s t is h w = (h.0, twins_set p c (a + 1) k n sent later ss ts s t (omega arith) h.1 w)

-- Events take nothing back
pub events_take_none : (m : Message) (xs : List Message) → AllByRecursion IsEvent xs → list_any (retracts m) xs ≡ false
events_take_none m [] h = refl
events_take_none m (x ∷ xs) h = ap (λ b. (not b && nat_eq x.sender m.sender && nat_eq x.value m.number) || list_any (retracts m) xs) h.0 ∙ events_take_none m xs h.1

-- one more message leaves the same pending
twin_post : (p : Parts) (i : ℕ) (base before sent later : List Message) (m : Message) (s t : Seat) → sent ≡ before ++ later → list_any (is_same m) s.got ≡ false → list_any (retracts m) sent ≡ false
    → Twin p i base sent later s t → Twin p i base (sent ++ m ∷ []) (later ++ m ∷ []) s t
twin_post p i base before sent later m s t is fresh kept h = record {
  now = h.now;
  request = h.request;
  state = h.state;
  since = h.since;
  early = h.early;
  same = h.same;
  had = h.had;
  got = h.got;
  events = h.events;
  pending = by_kind (is_event m.kind) refl ∙ ap (λ (q : List Message). in_order (pending_messages p i t.got q)) (append_assoc base later (m ∷ []));
}
  where
    fresh_here : list_any (is_same m) t.got ≡ false
    fresh_here = any_right (is_same m) h.had t.got (ap (list_any (is_same m)) (sym h.got) ∙ fresh)

    kept_here : list_any (retracts m) (base ++ later) ≡ false
    kept_here =
        list_any-append (retracts m) base later ∙ ap (λ b. b || list_any (retracts m) later) (events_take_none m base h.events)
        ∙ any_right (retracts m) before later (ap (list_any (retracts m)) (sym is) ∙ kept)

    by_kind : (b : Bool) → is_event m.kind ≡ b → in_order (pending_messages p i s.got (sent ++ m ∷ [])) ≡ in_order (pending_messages p i t.got ((base ++ later) ++ m ∷ []))
    by_kind true e =
        event_posted p i s.got sent m e fresh kept
        ∙ ap (λ (q : List Message). cond (is_transported p m && has_bit (receivers_of p m.sender m.group) i) (put m q) q) h.pending
        ∙ sym (event_posted p i t.got (base ++ later) m e fresh_here kept_here)
    by_kind false e =
        retraction_posted p i s.got sent m e ∙ ap (filter (λ (x : Message). not (retracts x m))) h.pending ∙ sym (retraction_posted p i t.got (base ++ later) m e)

twins_post : (p : Parts) (c : Cut) (i : ℕ) (before sent later : List Message) (m : Message) (ss ts : List Seat) → sent ≡ before ++ later → AllByRecursion (λ (s : Seat). list_any (is_same m) s.got ≡ false) ss
    → list_any (retracts m) sent ≡ false → Twins p c i sent later ss ts → Twins p c i (sent ++ m ∷ []) (later ++ m ∷ []) ss ts
twins_post p c i before sent later m [] [] is fresh kept h = tt
twins_post p c i before sent later m [] (t ∷ ts) is fresh kept h = absurd h
twins_post p c i before sent later m (s ∷ ss) [] is fresh kept h = absurd h
twins_post p c i before sent later m (s ∷ ss) (t ∷ ts) is fresh kept h =
    (twin_post p i (standing_at c i).pending before sent later m s t is fresh.0 kept h.0, twins_post p c (i + 1) before sent later m ss ts is fresh.1 kept h.1)

-- and so do several
twins_post_all : (p : Parts) (c : Cut) (before sent later made : List Message) (ss ts : List Seat) → sent ≡ before ++ later → AreFresh ss sent made → Twins p c 0 sent later ss ts
    → Twins p c 0 (sent ++ made) (later ++ made) ss ts
twins_post_all p c before sent later [] ss ts is fresh h =
    let P : List Message → Type 0 = λ a. Twins p c 0 a (later ++ []) ss ts in
    let Q : List Message → Type 0 = λ b. Twins p c 0 sent b ss ts in
    subst P (sym (append-nil sent)) (subst Q (sym (append-nil later)) h)
twins_post_all p c before sent later (m ∷ ms) ss ts is fresh h =
    let P : List Message → Type 0 = λ a. Twins p c 0 a (later ++ m ∷ ms) ss ts in
    let Q : List Message → Type 0 = λ b. Twins p c 0 ((sent ++ m ∷ []) ++ ms) b ss ts in
    let more : sent ++ m ∷ [] ≡ before ++ (later ++ m ∷ []) = ap (λ xs. xs ++ m ∷ []) is ∙ append_assoc before later (m ∷ []) in
    subst P (append_assoc sent (m ∷ []) ms) (subst Q (append_assoc later (m ∷ []) ms)
    (twins_post_all p c before (sent ++ m ∷ []) (later ++ m ∷ []) ms ss ts more fresh.1 (twins_post p c 0 before sent later m ss ts is fresh.0.got fresh.0.kept h)))

-- what twins do at a grant: the same is delivered, the same is sent, and they stay twins
record Turns (p : Parts) (i d : ℕ) (base sent later : List Message) (s t : Seat) : Type 0 where
  twin : Twin p i base sent later (seat_after_grant p i d sent s) (seat_after_grant p i d (base ++ later) t)
  made : drop (length t.state.sends) (seat_after_grant p i d (base ++ later) t).state.sends ≡ drop (length s.state.sends) (seat_after_grant p i d sent s).state.sends
  due : due_messages p i d t.got (base ++ later) ≡ due_messages p i d s.got sent

twins_turn : (p : Parts) (i d : ℕ) (base sent later : List Message) (s t : Seat) → Twin p i base sent later s t → s.now ≤ d → Turns p i d base sent later s t
twins_turn p i d base sent later s t h le =
    let known = base ++ later in
    let ys = t.state.sends in
    let due = due_messages p i d s.got sent in
    let here = due_messages p i d t.got known in
    let dues : here ≡ due = sym (front_is_due p i d t.got known) ∙ ap (front_until d) (sym h.pending) ∙ front_is_due p i d s.got sent in
    let f = follows_block p i h.since d due s.state ys (omega (arith, h.early)) h.same in
    let after = after_block p i d s.state due in
    let state : after_block p i d t.state here ≡ with_sends after (ys ++ f.made) =
    ap (after_block p i d t.state) dues ∙ ap (λ (x : State). after_block p i d x due) h.state ∙ f.there in
    let sends : (after_block p i d t.state here).sends ≡ ys ++ f.made = ap (λ (x : State). x.sends) state in
    let S : List Message → Type 0 = λ zs. Same (effective_lookahead p i) p.end h.since after.next after.sends zs in
    record {
      twin = record {
        now = refl;
        request = λ lt.
            ap (λ b. cond b (request_at (after_block p i d t.state here).wish d p.end) t.request) (lt-ltb d p.end lt)
            ∙ ap (λ (x : State). request_at x.wish d p.end) state
            ∙ sym (ap (λ b. cond b (request_at after.wish d p.end) s.request) (lt-ltb d p.end lt));
        state = state ∙ ap (with_sends after) (sym sends);
        since = h.since;
        early = omega (arith, h.early);
        same = subst S (sym sends) f.same;
        had = h.had;
        got = ap (λ xs. xs ++ due) h.got ∙ append_assoc h.had t.got due ∙ ap (λ xs. h.had ++ (t.got ++ xs)) (sym dues);
        events = h.events;
        pending = sym (behind_is_left p i d s.got sent) ∙ ap (rest_after d) h.pending ∙ behind_is_left p i d t.got known;
      };
      made = ap (drop (length ys)) sends ∙ drop-append_seam ys f.made ∙ sym (ap (drop (length s.state.sends)) f.sends ∙ drop-append_seam s.state.sends f.made);
      due = dues;
    }

-- what a grant does to the worlds of twins
pub record Grants (p : Parts) (c : Cut) (g : ℕ × ℕ) (w r : World) : Type 0 where
  pub twins : Twins p c 0 (world_after_grant p w g).messages (world_after_since p c r g).messages (world_after_grant p w g).seats (world_after_since p c r g).seats
  pub made : drop (length (seat_at r g.1).state.sends) (seat_after_since p c r g).state.sends ≡ drop (length (seat_at w g.1).state.sends) (seat_after_pair p w g).state.sends
  pub due : due_messages p g.1 g.0 (seat_at r g.1).got (since_cut c g.1 r.messages) ≡ due_messages p g.1 g.0 (seat_at w g.1).got w.messages

pub twins_granted : (p : Parts) (c : Cut) (g : ℕ × ℕ) (before : List Message) (w r : World) → Twins p c 0 w.messages r.messages w.seats r.seats → w.messages ≡ before ++ r.messages → g.1 < length w.seats
    → (seat_at w g.1).now ≤ g.0 → AreFresh (world_after_grant p w g).seats w.messages (drop (length (seat_at w g.1).state.sends) (seat_after_pair p w g).state.sends) → Grants p c g w r
twins_granted p c g before w r h is lt le fresh =
    let t = twin_at p c 0 g.1 g.1 w.messages r.messages w.seats r.seats (omega arith) h lt in
    let u = twins_turn p g.1 g.0 (standing_at c g.1).pending w.messages r.messages (seat_at w g.1) (seat_at r g.1) t le in
    let made = drop (length (seat_at w g.1).state.sends) (seat_after_pair p w g).state.sends in
    let new = seat_after_since p c r g in
    let P : List Message → Type 0 = λ ms. Twins p c 0 (world_after_grant p w g).messages (r.messages ++ ms) (world_after_grant p w g).seats (set r.seats g.1 new) in
    record {
      twins = subst P (sym u.made) (twins_post_all p c before w.messages r.messages made (set w.seats g.1 (seat_after_pair p w g)) (set r.seats g.1 new) is fresh
          (twins_set p c 0 g.1 g.1 w.messages r.messages w.seats r.seats (seat_after_pair p w g) new (omega arith) h u.twin));
      made = u.made;
      due = u.due;
    }
