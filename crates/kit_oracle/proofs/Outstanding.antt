-- What the federates have outstanding, by their own sends, at the start and from grant to grant.
use Rattle.std.proofs.Common.{◌≡◌, ◌≢◌, inl, inr, ℕ, ◌+◌, ◌*◌, ◌<◌, ◌≤◌, ◌^◌, max, Bool, true, false, cond, ◌&&◌, List, [], ◌∷◌, ◌++◌, length, filter, get_or, set, nat_lt, Some, arith, refl, sym, subst, ap, ◌∙◌, length-set}
use Rattle.std.specs.List.{count_by}
use Rattle.std.proofs.lemmas.Bool.{cases_eq}
use Rattle.std.proofs.lemmas.List.{get_or-set_other, get_or-set_same, get_or_push, get_or_append_left, get_or_default, same_lists}
use Rattle.std.proofs.lemmas.List.FromFn.{get_or-map-range_with_len, length-map-range_with_len}
use Rattle.std.proofs.lemmas.List.Sums.{sum_by-cons, count_by-le-length}
use Rattle.kit_base.specs.declared.message.Message.{Message}
use Rattle.kit_rules.specs.Parts.{Parts}
use Rattle.kit_rules.specs.Federation.{IsFederation}
use Rattle.kit_rules.specs.Delivery.{is_transported}
use Rattle.kit_rules.specs.Simulation.{Seat, World, seat_at, nobody_seated, seat_after_pair, world_after_grant, world_at_start, seat_at_start, after_grants}
use Rattle.kit_rules.specs.Need.{is_outstanding, outstanding, need_of, needs_of}
use Rattle.kit_laws.proofs.Numbers.{gained}
use Rattle.kit_laws.proofs.Worlds.{grows_by_grant}
use Rattle.kit_laws.proofs.Rising.{grants, started_reached, reached_after}
use Rattle.kit_laws.proofs.Needs.{after_one, count_by-append, most_next, most_stays, most_until}
use Rattle.kit_oracle.specs.declared.desk.Desk.{Desk}
use Rattle.kit_oracle.specs.Desks.{desk_at, desks_of}
use Rattle.kit_oracle.specs.Times.{count_later, is_later, count_sent_later}
use Rattle.kit_oracle.specs.Observing.{IsGrant}
use Rattle.kit_oracle.specs.Needing.{AreNeeds}
use Rattle.kit_laws.proofs.OwnSends.{from}
use Rattle.kit_oracle.proofs.Numbering.{Counted}
use Rattle.kit_oracle.proofs.Starting.{told}
use Rattle.kit_oracle.proofs.Showing.{desk_shown, length_shown}

-- how many of one and more pass
count_by-cons : {X : Type 0} (q : X → Bool) (x : X) (xs : List X) → count_by q (x ∷ xs) ≡ cond (q x) 1 0 + count_by q xs
count_by-cons q x xs = sum_by-cons (λ y. cond (q y) 1 0) x xs

-- what federate k has outstanding is among its own messages
count_own : (p : Parts) (k now : ℕ) (ms : List Message) → count_by (is_outstanding p k now) ms ≡ count_sent_later p now (filter (from k) ms)
count_own p k now [] = refl
count_own p k now (m ∷ ms) =
    let rest = count_sent_later p now (filter (from k) ms) in
    count_by-cons (is_outstanding p k now) m ms ∙ ap (λ n. cond (is_outstanding p k now m) 1 0 + n) (count_own p k now ms)
    ∙ elim (from k m) as (λ b. cond (b && is_transported p m && nat_lt now m.time) 1 0 + rest ≡ count_sent_later p now (cond b (m ∷ filter (from k) ms) (filter (from k) ms)))
    [ true ↦ sym (count_by-cons (is_later p now) m (filter (from k) ms)) | false ↦ none rest ]
  where
    none : (n : ℕ) → 0 + n ≡ n
    none n = omega arith

-- so it is counted there
outstanding_own : (p : Parts) (k : ℕ) (w : World) → Counted w → k < length w.seats → outstanding p k w ≡ count_sent_later p (seat_at w k).now (seat_at w k).state.sends
outstanding_own p k w c lt = count_own p k (seat_at w k).now w.messages ∙ ap (count_sent_later p (seat_at w k).now) (c.each k lt).own

-- what one grant does to the federates' times and sends
record Granted (p : Parts) (n : ℕ) (g : ℕ × ℕ) (made : List Message) : Type 0 where
  within : g.1 < length p.federates
  forward : (seat_at (after_grants p n (world_at_start p)) g.1).now ≤ g.0
  now : (seat_at (after_grants p (n + 1) (world_at_start p)) g.1).now ≡ g.0
  sends : (seat_at (after_grants p (n + 1) (world_at_start p)) g.1).state.sends ≡ (seat_at (after_grants p n (world_at_start p)) g.1).state.sends ++ made
  others : (k : ℕ) → k ≢ g.1 → seat_at (after_grants p (n + 1) (world_at_start p)) k ≡ seat_at (after_grants p n (world_at_start p)) k
  few : length (seat_at (after_grants p (n + 1) (world_at_start p)) g.1).state.sends ≤ 16384
  counted : outstanding p g.1 (after_grants p (n + 1) (world_at_start p)) ≡ count_sent_later p g.0 (seat_at (after_grants p (n + 1) (world_at_start p)) g.1).state.sends

granted_is : (p : Parts) (n : ℕ) (g : ℕ × ℕ) (made : List Message) → IsGrant p n g made → Granted p n g made
granted_is p n g made is =
    let w = after_grants p n (world_at_start p) in
    let v = after_grants p (n + 1) (world_at_start p) in
    let r = reached_after p (0, 0) (world_at_start p) n is.federation (started_reached p is.federation) in
    let gr = grants p r.0 w g r.1 is.next in
    let own = grows_by_grant p w g in
    let next : v ≡ world_after_grant p w g = after_one p n (Some g) is.next in
    let here : seat_at v g.1 ≡ seat_after_pair p w g = ap (λ (u : World). seat_at u g.1) next ∙ get_or-set_same w.seats g.1 (seat_after_pair p w g) nobody_seated gr.within in
    let after : length v.seats ≡ length w.seats = ap (λ (u : World). length u.seats) next ∙ length-set w.seats g.1 (seat_after_pair p w g) in
    let counted = (told p (n + 1) is.federation).counted in
    let now : (seat_at v g.1).now ≡ g.0 = ap (λ (s : Seat). s.now) here in
    let made_is : made ≡ own.made = is.sent ∙ gained g.1 (seat_at w g.1).state (seat_after_pair p w g).state own in
    let N : Seat → Type 0 = λ s. s.state.next ≤ 16385 in
    record {
      within = omega (arith, gr.within, r.1.count);
      forward = omega (arith, gr.forward);
      now = now;
      sends = ap (λ (s : Seat). s.state.sends) here ∙ own.sends ∙ ap (λ ms. (seat_at w g.1).state.sends ++ ms) (sym made_is);
      others = λ k ne. ap (λ (u : World). seat_at u k) next ∙ get_or-set_other w.seats g.1 k (seat_after_pair p w g) nobody_seated ne;
      few = omega (arith, (counted.each g.1 (omega (arith, gr.within, after))).next, subst N (sym here) is.room);
      counted = outstanding_own p g.1 v counted (omega (arith, gr.within, after)) ∙ ap (λ (t : ℕ). count_sent_later p t (seat_at v g.1).state.sends) now;
    }

-- with what a federate sends at its grant, those that are later then
later_granted : (p : Parts) (n : ℕ) (g : ℕ × ℕ) (made : List Message) (times : List (List ℕ)) (most : List ℕ) → Granted p n g made → AreNeeds p n times most → (t : ℕ) → g.0 ≤ t
    → count_later t (get_or times g.1 []) + count_sent_later p t made ≡ count_sent_later p t (seat_at (after_grants p (n + 1) (world_at_start p)) g.1).state.sends
later_granted p n g made times most gr h t le =
    let old = (seat_at (after_grants p n (world_at_start p)) g.1).state.sends in
    ap (λ k. k + count_sent_later p t made) (h.counts g.1 t gr.within (omega (arith, gr.forward)))
    ∙ sym (count_by-append (is_later p t) old made) ∙ ap (count_sent_later p t) (sym gr.sends)

-- there is room to count them
pub room_to_count : (p : Parts) (n : ℕ) (g : ℕ × ℕ) (made : List Message) (times : List (List ℕ)) (most : List ℕ) → IsGrant p n g made → AreNeeds p n times most
    → (g.1 < length p.federates) × (count_later g.0 (get_or times g.1 []) + count_sent_later p g.0 made < 2 ^ 16)
room_to_count p n g made times most is h =
    let gr = granted_is p n g made is in
    let sends = (seat_at (after_grants p (n + 1) (world_at_start p)) g.1).state.sends in
    (gr.within, omega (arith, later_granted p n g made times most gr h g.0 (omega arith), count_by-le-length (is_later p g.0) sends, gr.few))

-- the needs after one more grant
pub needs_next : (p : Parts) (n : ℕ) (g : ℕ × ℕ) (made : List Message) (times : List (List ℕ)) (most new : List ℕ) (count : ℕ) → IsGrant p n g made → AreNeeds p n times most
    → ((t : ℕ) → g.0 ≤ t → count_later t new ≡ count_later t (get_or times g.1 []) + count_sent_later p t made) → count ≡ count_later g.0 (get_or times g.1 []) + count_sent_later p g.0 made
    → AreNeeds p (n + 1) (set times g.1 new) (set most g.1 (max (get_or most g.1 0) count))
needs_next p n g made times most new count is h kept counts =
    let gr = granted_is p n g made is in
    let v = after_grants p (n + 1) (world_at_start p) in
    let top = max (get_or most g.1 0) count in
    record {
      each_times = length-set times g.1 new ∙ h.each_times;
      each_most = length-set most g.1 top ∙ h.each_most;
      counts = λ k t lt up. elim (cases_eq k g.1) [
        | inl e ↦ (let P : ℕ → Type 0 = λ j. (seat_at v j).now ≤ t → count_later t (get_or (set times g.1 new) j []) ≡ count_sent_later p t (seat_at v j).state.sends in
            subst P (sym e) (λ up. let after : g.0 ≤ t = omega (arith, gr.now) in
            ap (count_later t) (get_or-set_same times g.1 new [] (omega (arith, gr.within, h.each_times))) ∙ kept t after ∙ later_granted p n g made times most gr h t after) up)
        | inr ne ↦ (let S : Seat → Type 0 = λ s. s.now ≤ t → count_later t (get_or times k []) ≡ count_sent_later p t s.state.sends in
            ap (count_later t) (get_or-set_other times g.1 k new [] ne) ∙ subst S (sym (gr.others k ne)) (h.counts k t lt) up)
      ];
      greatest = λ k lt. elim (cases_eq k g.1) [
        | inl e ↦ (let P : ℕ → Type 0 = λ j. get_or (set most g.1 top) j 0 ≡ most_until p j (n + 1) in
            let is_count : count ≡ outstanding p g.1 v = counts ∙ later_granted p n g made times most gr h g.0 (omega arith) ∙ sym gr.counted in
            subst P (sym e) (get_or-set_same most g.1 top 0 (omega (arith, gr.within, h.each_most)) ∙ ap (λ m. max m count) (h.greatest g.1 gr.within) ∙ ap (max (most_until p g.1 n)) is_count ∙ sym (most_next p g.1 n)))
        | inr ne ↦ get_or-set_other most g.1 k top 0 ne ∙ h.greatest k lt ∙ sym (most_stays p k n g is.next ne)
      ];
    }

-- the seats of the start, with what they have outstanding
pub seat_started : (p : Parts) (k : ℕ) → k < length p.federates → seat_at (world_at_start p) k ≡ seat_at_start p k
seat_started p k lt = get_or-map-range_with_len (seat_at_start p) 0 (length p.federates) k k nobody_seated lt (omega arith)

pub outstanding_started : (p : Parts) (k : ℕ) → IsFederation p → k < length p.federates → most_until p k 0 ≡ count_sent_later p 0 (seat_at (world_at_start p) k).state.sends
outstanding_started p k f lt =
    let own = outstanding_own p k (world_at_start p) (told p 0 f).counted (omega (arith, lt, length-map-range_with_len (seat_at_start p) 0 (length p.federates))) in
    let now : (seat_at (world_at_start p) k).now ≡ 0 = ap (λ (s : Seat). s.now) (seat_started p k lt) in
    let most : max 0 (outstanding p k (world_at_start p)) ≡ outstanding p k (world_at_start p) = omega arith in
    most ∙ own ∙ ap (λ (t : ℕ). count_sent_later p t (seat_at (world_at_start p) k).state.sends) now

-- what holds at each place of a list, and of one more item, holds at each place of the list with it
pub each_pushed : {X : Type 0} (P : ℕ → X → Type 0) (xs : List X) (x d : X) (n : ℕ) → length xs ≡ n → ((k : ℕ) → k < n → P k (get_or xs k d)) → P n x → (k : ℕ) → k < n + 1 → P k (get_or (xs ++ x ∷ []) k d)
each_pushed P xs x d n e h here k lt =
    elim (cases_eq k n) [
      | inl same ↦ (let Q : ℕ → Type 0 = λ j. P j (get_or (xs ++ x ∷ []) j d) in subst Q (sym same) (subst (P n) (sym (get_or_push xs x d n e)) here))
      | inr ne ↦ subst (P k) (sym (get_or_append_left xs (x ∷ []) d k (omega (arith, ne)))) (h k (omega (arith, ne)))
    ]

-- the needs at the start
pub needs_started : (p : Parts) (ds : List Desk) (times : List (List ℕ)) (most : List ℕ) (n : ℕ) → IsFederation p → ds ≡ desks_of p (world_at_start p) → length ds ≤ n → length times ≡ n → length most ≡ n
    → ((k t : ℕ) → k < n → count_later t (get_or times k []) ≡ count_sent_later p t (desk_at ds k).state.sends) → ((k : ℕ) → k < n → get_or most k 0 ≡ count_sent_later p 0 (desk_at ds k).state.sends) → n ≤ length ds
    → AreNeeds p 0 times most
needs_started p ds times most n f e le each_times each_most counts greatest up =
    let w = world_at_start p in
    let seats : length w.seats ≡ length p.federates = length-map-range_with_len (seat_at_start p) 0 (length p.federates) in
    let count : length ds ≡ length p.federates = ap (λ (xs : List Desk). length xs) e ∙ length_shown p w.messages 0 w.seats ∙ seats in
    let desk : (k : ℕ) → k < length p.federates → (desk_at ds k).state.sends ≡ (seat_at w k).state.sends = λ k lt.
    ap (λ xs. (desk_at xs k).state.sends) e ∙ ap (λ (d : Desk). d.state.sends) (desk_shown p w k (omega (arith, lt, seats))) in
    record {
      each_times = omega (arith, each_times, le, up, count);
      each_most = omega (arith, each_most, le, up, count);
      counts = λ k t lt _. counts k t (omega (arith, lt, count, le)) ∙ ap (count_sent_later p t) (desk k lt);
      greatest = λ k lt. greatest k (omega (arith, lt, count, le)) ∙ ap (count_sent_later p 0) (desk k lt) ∙ sym (outstanding_started p k f lt);
    }

-- what is known after the last grant are the needs
pub needs_are : (p : Parts) (times : List (List ℕ)) (most : List ℕ) → AreNeeds p (length p.federates * p.end) times most → most ≡ needs_of p
needs_are p times most h =
    let n = length p.federates in
    let count : length most ≡ length (needs_of p) = h.each_most ∙ sym (length-map-range_with_len (need_of p) 0 n) in
    same_lists most (needs_of p) count (λ k d lt. let within : k < n = omega (arith, h.each_most) in
    get_or_default most k d 0 lt ∙ h.greatest k within ∙ sym (get_or-map-range_with_len (need_of p) 0 n k k d within (omega arith)))
