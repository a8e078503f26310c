-- Grants rise, and there are at most as many as federates times the end.
use Rattle.std.proofs.Common.{◌≡◌, ℕ, zero, suc, ◌+◌, ◌-◌, ◌*◌, ◌<◌, ◌≤◌, ◌≢◌, inl, inr, true, List, [], ◌∷◌, ◌++◌, length, map, drop, get_or, set, Option, Some, None, nat_lt, arith, refl, sym, subst, ap, ◌∙◌, length-set, zero-mul, suc-mul}
use Rattle.std.specs.List.{AllByRecursion, range_with_len, flat_map}
use Rattle.std.proofs.lemmas.Bool.{cases_lt, cases_eq, lt-ltb, le-ltb}
use Rattle.std.proofs.lemmas.List.{get_or-set_other, get_or-set_same}
use Rattle.std.proofs.lemmas.List.FromFn.{get_or-map-range_with_len, length-map-range_with_len}
use Rattle.std.proofs.Math.Seq.{drop-append_seam}
use Rattle.kit_base.specs.declared.message.Message.{Message}
use Rattle.kit_base.proofs.Lists.{all-append, each_weaker}
use Rattle.kit_rules.specs.declared.table.Wish.{Wish}
use Rattle.kit_rules.specs.declared.table.Wish.TheVariants as wish
use Rattle.kit_rules.specs.declared.table.Trigger.TheVariants.{Start, Grant, Got}
use Rattle.kit_rules.specs.Parts.{Parts, federate_at, nobody}
use Rattle.kit_rules.specs.Federation.{IsFederation, IsWish}
use Rattle.kit_rules.specs.declared.scene.State.{State}
use Rattle.kit_rules.specs.Step.{state_after, opening_state}
use Rattle.kit_rules.proofs.Kept.{Kept, Later, kept_none, kept_more, kept_by_step}
use Rattle.kit_rules.specs.Delivery.{pending_messages, is_pending, due_messages, due_time}
use Rattle.kit_laws.proofs.Sane.{time_of}
use Rattle.kit_rules.specs.Simulation.{Seat, World, sooner_pair, request_at, seat_due, waiting_from, is_sooner, least_pair, next_grant, world_at_start, seat_at_start, seat_at, nobody_seated, seat_after_pair, world_after_grant, seat_after_grant, world_after_pair, next_world, after_grants, after_deliveries, simulation}
use Rattle.kit_laws.proofs.Least.{Rank, next_stands, next_least, sooner_rank}
use Rattle.kit_laws.proofs.Pendings.{From, pending_event, pending_from, due_from, due_capped, due_stays, gone, filter_each}
use Rattle.kit_laws.proofs.Sanity.{granted_capped, request_capped}

pub record SeatOk (p : Parts) (last : ℕ × ℕ) (sent : List Message) (i : ℕ) (s : Seat) : Type 0 where
  pub now_last : s.now ≤ last.0
  pub now_end : s.now ≤ p.end
  pub wish : IsWish s.state.wish
  pub request : s.now < p.end → s.now < time_of s.request
  pub capped : time_of s.request ≤ p.end
  pub later : AllByRecursion (From (s.now + 1)) (pending_messages p i s.got sent)
  pub rise : s.now < p.end → Rank last < Rank (seat_due p sent i s, i)

-- a world in which the last grant was this
pub record Reached (p : Parts) (last : ℕ × ℕ) (w : World) : Type 0 where
  pub count : length w.seats ≡ length p.federates
  pub each : (k : ℕ) → k < length w.seats → SeatOk p last w.messages k (get_or w.seats k nobody_seated)

kept_by_deliveries : (p : Parts) (i d : ℕ) (s : State) (due : List Message) → IsFederation p → i < length p.federates → Kept (length p.groups) d s (after_deliveries p i d s due)
kept_by_deliveries p i d s [] f lt = kept_none (length p.groups) d s
kept_by_deliveries p i d s (m ∷ ms) f lt =
    kept_more (length p.groups) d _ _ _ (kept_by_step p i (Got m.group) d m.value s f lt) (kept_by_deliveries p i d (state_after p i (Got m.group) d m.value s) ms f lt)

pub kept_by_grant : (p : Parts) (w : World) (g : ℕ × ℕ) → IsFederation p → g.1 < length p.federates → Kept (length p.groups) g.0 (seat_at w g.1).state (seat_after_pair p w g).state
kept_by_grant p w g f lt =
    let due = due_messages p g.1 g.0 (seat_at w g.1).got w.messages in
    let s = (seat_at w g.1).state in
    kept_more (length p.groups) g.0 _ _ _ (kept_by_deliveries p g.1 g.0 s due f lt) (kept_by_step p g.1 Grant g.0 0 (after_deliveries p g.1 g.0 s due) f lt)

-- what a state gained is timed after d
gained_later : (groups d : ℕ) (a b : State) → Kept groups d a b → AllByRecursion (Later d) (drop (length a.sends) b.sends)
gained_later groups d a b k =
    let P : List Message → Type 0 = AllByRecursion (Later d) in
    subst P (sym (ap (drop (length a.sends)) k.sends ∙ drop-append_seam a.sends k.made)) k.later

request_later : (w : Wish) (now end : ℕ) → IsWish w → now < end → now < time_of (request_at w now end)
request_later (wish.Tar step) now end h lt = omega (arith, h.0)
request_later (wish.Ner step) now end h lt = omega (arith, h.0)

granted_request_later : (p : Parts) (i d : ℕ) (sent : List Message) (s : Seat) → IsWish (seat_after_grant p i d sent s).state.wish → d < p.end → d < time_of (seat_after_grant p i d sent s).request
granted_request_later p i d sent s h lt =
    let e : nat_lt d p.end ≡ true = lt-ltb d p.end lt in
    rw e (request_later (seat_after_grant p i d sent s).state.wish d p.end h lt)

-- the federate that was granted
granted_here : (p : Parts) (last : ℕ × ℕ) (w : World) (g : ℕ × ℕ) → IsFederation p → g.1 < length p.federates → SeatOk p last w.messages g.1 (seat_at w g.1) → g.0 ≤ p.end
    → SeatOk p g (world_after_grant p w g).messages g.1 (seat_after_pair p w g)
granted_here p last w g f lt ok cap =
    let old = seat_at w g.1 in
    let new = seat_after_pair p w g in
    let k = kept_by_grant p w g f lt in
    let made = drop (length old.state.sends) new.state.sends in
    let late : AllByRecursion (From (g.0 + 1)) (pending_messages p g.1 new.got (w.messages ++ made)) = gone p g.1 g.0 old.got w.messages made (gained_later (length p.groups) g.0 old.state new.state k) in
    let wish : IsWish new.state.wish = k.wish ok.wish in
    record {
      now_last = omega arith;
      now_end = cap;
      wish = wish;
      request = λ below. granted_request_later p g.1 g.0 w.messages old wish below;
      capped = granted_capped p g.1 g.0 w.messages old ok.capped;
      later = late;
      rise = λ below.
          let due : g.0 + 1 ≤ due_time new.request (pending_messages p g.1 new.got (w.messages ++ made)) = due_from (g.0 + 1) new.request _ (omega (arith, granted_request_later p g.1 g.0 w.messages old wish below)) late in
          omega (arith, due);
    }

-- the others
granted_there : (p : Parts) (last : ℕ × ℕ) (w : World) (g : ℕ × ℕ) (j : ℕ) → IsFederation p → g.1 < length p.federates → length p.federates ≤ 16 → j < length w.seats → length w.seats ≡ length p.federates → j ≢ g.1
    → Rank last < Rank g → next_grant p w ≡ Some g → SeatOk p last w.messages j (seat_at w j) → SeatOk p g (world_after_grant p w g).messages j (seat_at w j)
granted_there p last w g j f lt few within count ne rises next ok =
    let s = seat_at w j in
    let old = seat_at w g.1 in
    let new = seat_after_pair p w g in
    let made = drop (length old.state.sends) new.state.sends in
    let late = gained_later (length p.groups) g.0 old.state new.state (kept_by_grant p w g f lt) in
    let up : last.0 ≤ g.0 = omega arith in
    record {
      now_last = omega (arith, ok.now_last);
      now_end = ok.now_end;
      wish = ok.wish;
      request = ok.request;
      capped = ok.capped;
      later = pending_from p j (s.now + 1) g.0 s.got w.messages made (omega (arith, ok.now_last)) ok.later late;
      rise = λ below.
          let le : Rank g ≤ Rank (seat_due p w.messages j s, j) = next_least p w.messages w.seats g (omega arith) next j within below in
          elim (cases_lt g.1 j) [
            | inl before ↦ (let due : g.0 ≤ seat_due p (w.messages ++ made) j s = due_stays p j g.0 g.0 s.request s.got w.messages made (omega arith) (omega (arith, le)) late in omega (arith, due))
            | inr after ↦ (let due : g.0 + 1 ≤ seat_due p (w.messages ++ made) j s = due_stays p j (g.0 + 1) g.0 s.request s.got w.messages made (omega arith) (omega (arith, le)) late in omega (arith, due))
          ];
    }

-- what a grant is, in a world that was reached
pub record Grants (p : Parts) (last : ℕ × ℕ) (w : World) (g : ℕ × ℕ) : Type 0 where
  pub within : g.1 < length w.seats
  pub rises : Rank last < Rank g
  pub forward : (seat_at w g.1).now < g.0
  pub capped : g.0 ≤ p.end

pub grants : (p : Parts) (last : ℕ × ℕ) (w : World) (g : ℕ × ℕ) → Reached p last w → next_grant p w ≡ Some g → Grants p last w g
grants p last w g r next =
    let st = next_stands p w.messages w.seats g next in
    let ok = r.each g.1 st.within in
    let s = seat_at w g.1 in
    let late : s.now + 1 ≤ seat_due p w.messages g.1 s = due_from (s.now + 1) s.request _ (omega (arith, ok.request st.below)) ok.later in
    record {
      within = st.within;
      rises = omega (arith, ok.rise st.below, st.due);
      forward = omega (arith, late, st.due);
      capped = omega (arith, st.due, due_capped s.request (pending_messages p g.1 s.got w.messages), ok.capped);
    }

pub granted_reached : (p : Parts) (last : ℕ × ℕ) (w : World) (g : ℕ × ℕ) → IsFederation p → Reached p last w → next_grant p w ≡ Some g → Reached p g (world_after_grant p w g)
granted_reached p last w g f r next =
    let gr = grants p last w g r next in
    let few : length p.federates ≤ 16 = f.federates.count.1 in
    let lt : g.1 < length p.federates = omega (arith, gr.within, r.count) in
    record {
      count = length-set w.seats g.1 (seat_after_pair p w g) ∙ r.count;
      each = λ k within.
          let inside : k < length w.seats = omega (arith, length-set w.seats g.1 (seat_after_pair p w g)) in
          let P : Seat → Type 0 = λ s. SeatOk p g (world_after_grant p w g).messages k s in
          elim (cases_eq k g.1) [
            | inl e ↦ (let Q : ℕ → Type 0 = λ k. SeatOk p g (world_after_grant p w g).messages k (get_or (set w.seats g.1 (seat_after_pair p w g)) k nobody_seated) in
                let R : Seat → Type 0 = λ s. SeatOk p g (world_after_grant p w g).messages g.1 s in
                subst Q (sym e) (subst R (sym (get_or-set_same w.seats g.1 (seat_after_pair p w g) nobody_seated gr.within)) (granted_here p last w g f lt (r.each g.1 gr.within) gr.capped)))
            | inr ne ↦ subst P (sym (get_or-set_other w.seats g.1 k (seat_after_pair p w g) nobody_seated ne))
                (granted_there p last w g k f lt few inside r.count ne gr.rises next (r.each k inside))
          ];
    }

-- the start
flat_later : (xs : List Seat) → AllByRecursion (λ (s : Seat). AllByRecursion (Later 0) s.state.sends) xs → AllByRecursion (Later 0) (flat_map (λ (s : Seat). s.state.sends) xs)
flat_later [] h = tt
flat_later (x ∷ xs) h = all-append (Later 0) x.state.sends (flat_map (λ (s : Seat). s.state.sends) xs) h.0 (flat_later xs h.1)

pub kept_by_start : (p : Parts) (i : ℕ) → IsFederation p → i < length p.federates → Kept (length p.groups) 0 (opening_state (federate_at p i)) (seat_at_start p i).state
kept_by_start p i f lt = kept_by_step p i Start 0 0 (opening_state (federate_at p i)) f lt

start_later : (p : Parts) (i : ℕ) → IsFederation p → i < length p.federates → AllByRecursion (Later 0) (seat_at_start p i).state.sends
start_later p i f lt = gained_later (length p.groups) 0 (opening_state (federate_at p i)) (seat_at_start p i).state (kept_by_start p i f lt)

starts_later : (p : Parts) (a n : ℕ) → IsFederation p → a + n ≤ length p.federates → AllByRecursion (λ (s : Seat). AllByRecursion (Later 0) s.state.sends) (map (seat_at_start p) (range_with_len a n))
starts_later p a zero f le = tt
starts_later p a (suc n) f le = (start_later p a f (omega arith), starts_later p (a + 1) n f (omega arith))

pub started_reached : (p : Parts) → IsFederation p → Reached p (0, 0) (world_at_start p)
started_reached p f =
    let n = length p.federates in
    let sent = (world_at_start p).messages in
    let all : AllByRecursion (Later 0) sent = flat_later (world_at_start p).seats (starts_later p 0 n f (omega arith)) in
    let seat : (k : ℕ) → k < n → SeatOk p (0, 0) sent k (seat_at_start p k) = λ k lt.
    let s = seat_at_start p k in
    let w : IsWish s.state.wish = (kept_by_start p k f lt).wish (f.federates.each k nobody lt).advance in
    let late : AllByRecursion (From 1) (pending_messages p k s.got sent) = filter_each (From 1) (is_pending p k s.got sent) sent
    (each_weaker (Later 0) (λ m. is_pending p k s.got sent m ≡ true → From 1 m) sent (λ m later e. let lt : 0 < m.time = later (pending_event p k s.got sent m e) in omega arith) all) in
    let go : 0 < time_of s.request = request_later s.state.wish 0 p.end w (omega (arith, f.end.0)) in
    record {
      now_last = omega arith;
      now_end = omega arith;
      wish = w;
      request = λ below. go;
      capped = request_capped s.state.wish 0 p.end;
      later = late;
      rise = λ below. let due : 1 ≤ due_time s.request (pending_messages p k s.got sent) = due_from 1 s.request _ (omega (arith, go)) late in omega (arith, due);
    } in
    record {
      count = length-map-range_with_len (seat_at_start p) 0 n;
      each = λ k within.
          let lt : k < n = omega (arith, length-map-range_with_len (seat_at_start p) 0 n) in
          let P : Seat → Type 0 = λ s. SeatOk p (0, 0) sent k s in
          subst P (sym (get_or-map-range_with_len (seat_at_start p) 0 n k k nobody_seated lt (omega arith))) (seat k lt);
    }

-- after any number of grants
pub reached_once : (p : Parts) (last : ℕ × ℕ) (w : World) (o : Option (ℕ × ℕ)) → IsFederation p → Reached p last w → next_grant p w ≡ o → (l : ℕ × ℕ) × Reached p l (world_after_pair p w o)
reached_once p last w None f r e = (last, r)
reached_once p last w (Some g) f r e = (g, granted_reached p last w g f r e)

pub reached_after : (p : Parts) (last : ℕ × ℕ) (w : World) (n : ℕ) → IsFederation p → Reached p last w → (l : ℕ × ℕ) × Reached p l (after_grants p n w)
reached_after p last w zero f r = (last, r)
reached_after p last w (suc n) f r = let o = reached_once p last w (next_grant p w) f r refl in reached_after p o.0 (next_world p w) n f o.1

-- one more at the end
pub after_suc : (p : Parts) (n : ℕ) (w : World) → after_grants p (suc n) w ≡ next_world p (after_grants p n w)
after_suc p zero w = refl
after_suc p (suc n) w = after_suc p n (next_world p w)

-- a grant that follows another comes after it
pub rises_next : (p : Parts) (last : ℕ × ℕ) (w : World) (g h : ℕ × ℕ) → IsFederation p → Reached p last w → next_grant p w ≡ Some g → next_grant p (world_after_grant p w g) ≡ Some h → is_sooner g h ≡ true
rises_next p last w g h f r e n =
    let gr = grants p last w g r e in
    let next = granted_reached p last w g f r e in
    let hr = grants p g (world_after_grant p w g) h next n in
    let few : length p.federates ≤ 16 = f.federates.count.1 in
    elim (sooner_rank g h (omega (arith, gr.within, r.count)) (omega (arith, hr.within, next.count))) [
      | inl lt ↦ lt.0
      | inr ge ↦ absurd (let l : Rank h ≤ Rank g = ge.1 in let k : Rank g < Rank h = hr.rises in omega arith)
    ]

-- how much time is left to the federates
pub left : ℕ → List Seat → ℕ
left e [] = 0
left e (s ∷ ss) = (e - s.now) + left e ss

left-set : (e : ℕ) (ss : List Seat) (i : ℕ) (s d : Seat) → i < length ss → left e (set ss i s) + (e - (get_or ss i d).now) ≡ left e ss + (e - s.now)
unfolding left
left-set e [] i s d lt = absurd (omega arith)
left-set e (x ∷ xs) zero s d lt = omega arith
left-set e (x ∷ xs) (suc i) s d lt = omega (arith, left-set e xs i s d (omega arith))

left_start : (p : Parts) (e a n : ℕ) → left e (map (seat_at_start p) (range_with_len a n)) ≡ n * e
unfolding left
left_start p e a zero = sym (zero-mul e)
left_start p e a (suc n) = omega (arith, left_start p e (a + 1) n, suc-mul n e)

all_done : (p : Parts) (sent : List Message) (i : ℕ) (ss : List Seat) → left p.end ss ≡ 0 → waiting_from p sent i ss ≡ []
unfolding left
all_done p sent i [] h = refl
all_done p sent i (s ∷ ss) h = rw (le-ltb s.now p.end (omega arith)) (all_done p sent (i + 1) ss (omega arith))

none_best : (x : ℕ × ℕ) (xs : List (ℕ × ℕ)) → least_pair (Some x) xs ≡ None → ⊥
none_best x [] e = cc
none_best x (y ∷ xs) e = none_best (sooner_pair (Some x) y) xs e

pub none_waits : (p : Parts) (sent : List Message) (i : ℕ) (ss : List Seat) → waiting_from p sent i ss ≡ [] → left p.end ss ≡ 0
unfolding left
none_waits p sent i [] h = refl
none_waits p sent i (s ∷ ss) h =
    elim (cases_lt s.now p.end) [
      | inl lt ↦ absurd (let e = rw (lt-ltb s.now p.end lt) at h in cc)
      | inr ge ↦ (let e = rw (le-ltb s.now p.end ge) at h in omega (arith, none_waits p sent (i + 1) ss e))
    ]

pub empty_from : (xs : List (ℕ × ℕ)) → least_pair None xs ≡ None → xs ≡ []
empty_from [] e = refl
empty_from (x ∷ xs) e = absurd (none_best x xs e)

left_once : (p : Parts) (last : ℕ × ℕ) (w : World) (o : Option (ℕ × ℕ)) → Reached p last w → next_grant p w ≡ o → left p.end (world_after_pair p w o).seats ≤ left p.end w.seats - 1
left_once p last w None r e =
    let z = none_waits p w.messages 0 w.seats (empty_from (waiting_from p w.messages 0 w.seats) e) in omega arith
left_once p last w (Some g) r e =
    let gr = grants p last w g r e in
    omega (arith, left-set p.end w.seats g.1 (seat_after_pair p w g) nobody_seated gr.within, gr.forward, gr.capped)

left_after : (p : Parts) (last : ℕ × ℕ) (w : World) (n : ℕ) → IsFederation p → Reached p last w → left p.end (after_grants p n w).seats ≤ left p.end w.seats - n
left_after p last w zero f r = omega arith
left_after p last w (suc n) f r =
    let o = reached_once p last w (next_grant p w) f r refl in
    omega (arith, left_once p last w (next_grant p w) r refl, left_after p o.0 (next_world p w) n f o.1)

nothing_left : (p : Parts) → IsFederation p → left p.end (simulation p).seats ≡ 0
nothing_left p f =
    let n = length p.federates * p.end in
    omega (arith, left_after p (0, 0) (world_at_start p) n f (started_reached p f), left_start p p.end 0 (length p.federates))

-- no federate stands below the end
pub simulated_done : (p : Parts) → IsFederation p → next_grant p (simulation p) ≡ None
simulated_done p f = ap (least_pair None) (all_done p (simulation p).messages 0 (simulation p).seats (nothing_left p f))

each_left : (e : ℕ) (ss : List Seat) (k : ℕ) (d : Seat) → left e ss ≡ 0 → k < length ss → e ≤ (get_or ss k d).now
unfolding left
each_left e [] k d h lt = absurd (omega arith)
each_left e (s ∷ ss) zero d h lt = omega arith
each_left e (s ∷ ss) (suc k) d h lt = each_left e ss k d (omega arith) (omega arith)

-- the last grant of each is the end
pub last_grants : (p : Parts) → IsFederation p → (k : ℕ) → k < length (simulation p).seats → (get_or (simulation p).seats k nobody_seated).now ≡ p.end
last_grants p f k lt =
    let r = (reached_after p (0, 0) (world_at_start p) (length p.federates * p.end) f (started_reached p f)).1 in
    omega (arith, (r.each k lt).now_end, each_left p.end (simulation p).seats k nobody_seated (nothing_left p f) lt)
