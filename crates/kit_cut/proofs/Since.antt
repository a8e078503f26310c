-- What holds of each world since a cut: the messages of a federate are among its sends, with numbers from its next number at the cut on, and what the federates have or may get has numbers below the next.
use Rattle.std.proofs.Common.{◌≡◌, ℕ, zero, suc, inl, inr, ◌+◌, ◌<◌, ◌≤◌, Bool, true, false, List, [], ◌∷◌, ◌++◌, length, drop, get_or, set, filter, Option, Some, None, arith, refl, sym, subst, ap, ◌∙◌, append_assoc, length-set, length-append}
use Rattle.std.specs.Prelude.{unwrap_or}
use Rattle.std.specs.List.{All, AllByRecursion}
use Rattle.std.proofs.lemmas.Bool.{cases_eq, cases_lt}
use Rattle.std.proofs.lemmas.List.{append-nil, get_or-set_other, get_or-set_same}
use Rattle.std.proofs.lemmas.List.Elements.{filter-append, All-from_recursion}
use Rattle.kit_base.specs.declared.message.Message.{Message}
use Rattle.kit_base.proofs.Lists.{all-append, all_filter, each_weaker}
use Rattle.kit_rules.specs.declared.table.Request.{Request}
use Rattle.kit_rules.specs.declared.table.Request.TheVariants as request
use Rattle.kit_rules.specs.Parts.{Parts}
use Rattle.kit_rules.specs.Step.{is_event}
use Rattle.kit_rules.specs.Delivery.{is_due, due_messages}
use Rattle.kit_rules.specs.Fits.{MessageFits}
use Rattle.kit_rules.specs.Own.{restored_sends}
use Rattle.kit_rules.specs.Simulation.{Seat, World, seat_at, nobody_seated}
use Rattle.kit_rules.proofs.Backs.{Aimed, Aims, Under}
use Rattle.kit_rules.proofs.Growth.{AreNumbered, AreNumbered-append}
use Rattle.kit_laws.proofs.Fitting.{all_in_order}
use Rattle.kit_laws.proofs.Numbers.{gained}
use Rattle.kit_laws.proofs.OwnSends.{from, filter_own, filter_other}
use Rattle.kit_laws.proofs.Sane.{IsSane, time_of}
use Rattle.kit_laws.proofs.Sanity.{granted_sane}
use Rattle.kit_laws.proofs.Worlds.{grows_by_grant}
use Rattle.kit_oracle.proofs.Freshness.{all_seats}
use Rattle.kit_oracle.proofs.Numbering.{Below, below_numbered, aimed_by_grant}
use Rattle.kit_oracle.proofs.Starting.{Backward, made_backward}
use Rattle.kit_cut.specs.declared.cut.Standing.{Standing}
use Rattle.kit_cut.specs.declared.cut.Cut.{Cut}
use Rattle.kit_cut.specs.ValidCuts.{IsAsking, IsNextNumber, nobody_stands, standing_at, IsValidCut}
use Rattle.kit_cut.specs.Resuming.{since_cut, seat_restored, seats_restored, world_restored, seat_after_since, world_after_since}
use Rattle.kit_cut.proofs.Pairwise.{both_all}
use Rattle.kit_cut.proofs.Restored.{EventBelow, restored_events, restored_numbered, restored_count}
use Rattle.kit_cut.proofs.SinceShown.{world_for}
use Rattle.kit_cut.proofs.WasPending.{WasPending, was_pending, WasOwn, was_own}

-- the number of a message is its sender's next number at the cut, or a later one
abbrev pub Late : Cut → Message → Type 0
Late c x = get_or c.next x.sender 0 ≤ x.number

-- what is known of federate k of a world since a cut: it sent what it had sent before the cut, and then its messages of the world
pub record SeatSince (c : Cut) (w : World) (k : ℕ) (s : Seat) : Type 0 where
  pub past : List Message
  pub own : s.state.sends ≡ past ++ filter (from k) w.messages
  pub numbered : AreNumbered k 1 s.state.sends
  pub next : s.state.next ≡ 1 + length s.state.sends
  pub first : get_or c.next k 0 ≤ s.state.next
  pub room : s.state.next ≤ 16385
  pub aimed : Aimed s.state
  pub got : AllByRecursion (Below w) s.got
  pub pending : AllByRecursion (Below w) (standing_at c k).pending

-- what is known of a world since a cut
pub record Since (p : Parts) (c : Cut) (w : World) : Type 0 where
  pub sane : IsSane p w.seats
  pub each : (k : ℕ) → k < length w.seats → SeatSince c w k (seat_at w k)
  pub below : AllByRecursion (Below w) w.messages
  pub late : AllByRecursion (Late c) w.messages
  pub backward : AllByRecursion Backward w.messages

-- numbers below the next stay so where a seat is set whose next number is no lower
below_set : (ss : List Seat) (i : ℕ) (new : Seat) (x : Message) → i < length ss → (get_or ss i nobody_seated).state.next ≤ new.state.next → x.number < (get_or ss x.sender nobody_seated).state.next
    → x.number < (get_or (set ss i new) x.sender nobody_seated).state.next
below_set ss i new x lt le h =
    let P : Seat → Type 0 = λ s. x.number < s.state.next in
    elim (cases_eq x.sender i) [
      | inl e ↦ (let Q : ℕ → Type 0 = λ k. x.number < (get_or (set ss i new) k nobody_seated).state.next in
          let R : ℕ → Type 0 = λ k. x.number < (get_or ss k nobody_seated).state.next in
          let old : x.number < (get_or ss i nobody_seated).state.next = subst R e h in
          subst Q (sym e) (subst P (sym (get_or-set_same ss i new nobody_seated lt)) (omega (arith, old))))
      | inr ne ↦ subst P (sym (get_or-set_other ss i x.sender new nobody_seated ne)) h
    ]

-- messages that are numbered from a number on that is late enough
late_numbered : (c : Cut) (k n : ℕ) (ms : List Message) → AreNumbered k n ms → get_or c.next k 0 ≤ n → AllByRecursion (Late c) ms
late_numbered c k n [] h le = tt
late_numbered c k n (m ∷ ms) h le =
    let P : ℕ → Type 0 = λ s. get_or c.next s 0 ≤ m.number in
    (subst P (sym h.0) (let is : m.number ≡ n = h.1 in omega arith), late_numbered c k (n + 1) ms h.2 (omega arith))

-- a grant keeps all of this, where the federate does not go past number 16,384
pub since_granted : (p : Parts) (c : Cut) (w : World) (g : ℕ × ℕ) → g.1 < length w.seats → (seat_after_since p c w g).state.next ≤ 16385 → Since p c w → Since p c (world_after_since p c w g)
since_granted p c w g lt room h =
    let u = world_for c g.1 w in
    let v = world_after_since p c w g in
    let old = seat_at w g.1 in
    let new = seat_after_since p c w g in
    let gr = grows_by_grant p u g in
    let o = h.each g.1 lt in
    let made = drop (length old.state.sends) new.state.sends in
    let is : made ≡ gr.made = gained g.1 old.state new.state gr in
    let up : (xs : List Message) → AllByRecursion (Below w) xs → AllByRecursion (Below v) xs = λ xs a.
    each_weaker (Below w) (Below v) xs (λ x b. below_set w.seats g.1 new x lt (omega (arith, gr.next)) b) a in
    let here : seat_at v g.1 ≡ new = get_or-set_same w.seats g.1 new nobody_seated lt in
    let N : Seat → Type 0 = λ s. old.state.next + length gr.made ≤ s.state.next in
    let M : List Message → Type 0 = AllByRecursion (Below v) in
    let L : List Message → Type 0 = AllByRecursion (Late c) in
    let due = due_messages p g.1 g.0 old.got (since_cut c g.1 w.messages) in
    let dues : AllByRecursion (Below w) due =
    all_in_order (Below w) [] (filter (is_due p g.1 g.0 old.got (since_cut c g.1 w.messages)) (since_cut c g.1 w.messages)) tt
    (all_filter (Below w) (is_due p g.1 g.0 old.got (since_cut c g.1 w.messages)) (since_cut c g.1 w.messages) (all-append (Below w) (standing_at c g.1).pending w.messages o.pending h.below)) in
    let S : List Message → Type 0 = AreNumbered g.1 1 in
    let K : ℕ → Type 0 = λ n. AreNumbered g.1 n gr.made in
    record {
      sane = granted_sane p u g lt h.sane;
      each = λ k inside.
          let has : k < length w.seats = omega (arith, length-set w.seats g.1 new) in
          elim (cases_eq k g.1) [
            | inl e ↦ (let Q : ℕ → Type 0 = λ k. SeatSince c v k (seat_at v k) in
                let R : Seat → Type 0 = SeatSince c v g.1 in
                subst Q (sym e) (subst R (sym here) (record {
                  past = o.past;
                  own = gr.sends ∙ ap (λ xs. xs ++ gr.made) o.own ∙ append_assoc o.past (filter (from g.1) w.messages) gr.made
                      ∙ ap (λ xs. o.past ++ (filter (from g.1) w.messages ++ xs)) (sym (ap (filter (from g.1)) is ∙ filter_own g.1 old.state.next gr.made gr.numbered))
                      ∙ ap (λ xs. o.past ++ xs) (sym (filter-append (from g.1) w.messages made));
                  numbered = subst S (sym gr.sends) (AreNumbered-append g.1 1 old.state.sends gr.made o.numbered (subst K o.next gr.numbered));
                  next = omega (arith, gr.next, o.next, ap length gr.sends, length-append old.state.sends gr.made);
                  first = omega (arith, o.first, gr.next);
                  room = room;
                  aimed = aimed_by_grant p u g o.aimed;
                  got = all-append (Below v) old.got due (up old.got o.got) (up due dues);
                  pending = up (standing_at c g.1).pending o.pending;
                })))
            | inr ne ↦ (let b = h.each k has in
                let R : Seat → Type 0 = SeatSince c v k in
                subst R (sym (get_or-set_other w.seats g.1 k new nobody_seated ne)) (record {
                  past = b.past;
                  own = b.own ∙ ap (λ xs. b.past ++ xs) (sym (filter-append (from k) w.messages made
                      ∙ ap (λ xs. filter (from k) w.messages ++ xs) (ap (filter (from k)) is ∙ filter_other g.1 k old.state.next gr.made ne gr.numbered) ∙ append-nil (filter (from k) w.messages)));
                  numbered = b.numbered;
                  next = b.next;
                  first = b.first;
                  room = b.room;
                  aimed = b.aimed;
                  got = up (seat_at w k).got b.got;
                  pending = up (standing_at c k).pending b.pending;
                }))
          ];
      below = all-append (Below v) w.messages made (up w.messages h.below) (subst M (sym is) (below_numbered v g.1 old.state.next gr.made gr.numbered (subst N (sym here) (omega (arith, gr.next)))));
      late = all-append (Late c) w.messages made h.late (subst L (sym is) (late_numbered c g.1 old.state.next gr.made gr.numbered o.first));
      backward = all-append Backward w.messages made h.backward (made_backward p u g o.aimed);
    }

-- there are as many restored federates as the cut has
pub length_restored : (i : ℕ) (ns : List ℕ) (ss : List Standing) → length ns ≡ length ss → length (seats_restored i ns ss) ≡ length ss
length_restored i [] ss h = h
length_restored i (n ∷ ns) [] h = refl
length_restored i (n ∷ ns) (s ∷ ss) h = ap suc (length_restored (i + 1) ns ss (omega arith))

-- the one at a place
at_restored : (a k n : ℕ) (ns : List ℕ) (ss : List Standing) → a + k ≡ n → k < length ns → k < length ss
    → get_or (seats_restored a ns ss) k nobody_seated ≡ seat_restored n (get_or ns k 0) (get_or ss k nobody_stands)
at_restored a k n [] ss e lt inside = absurd (omega arith)
at_restored a k n (x ∷ ns) [] e lt inside = absurd (omega arith)
at_restored a zero n (x ∷ ns) (s ∷ ss) e lt inside = ap (λ i. seat_restored i x s) (let is : a ≡ n = omega arith in is)
at_restored a (suc k) n (x ∷ ns) (s ∷ ss) e lt inside = at_restored (a + 1) k n ns ss (omega arith) (omega arith) (omega arith)

-- a request that is restored does not go past the end
request_capped : (at end now : ℕ) (o : Option Request) → IsAsking at end now o → time_of (unwrap_or o (request.Tar 0)) ≤ end
request_capped at end now None h = omega arith
request_capped at end now (Some (request.Tar t)) h = elim (cases_lt now end) [ inl lt ↦ (h.below lt).1 | inr ge ↦ absurd (let none : Some (request.Tar t) ≡ None = h.over ge in cc) ]
request_capped at end now (Some (request.Ner t)) h = elim (cases_lt now end) [ inl lt ↦ (h.below lt).1 | inr ge ↦ absurd (let none : Some (request.Ner t) ≡ None = h.over ge in cc) ]

-- Events take nothing back, so they have no aims
events_aim : (next : ℕ) (sends ms : List Message) → AllByRecursion (EventBelow next) ms → AllByRecursion (Aims sends) ms
events_aim next sends ms h = each_weaker (EventBelow next) (Aims sends) ms (λ m e no. absurd (let is : is_event m.kind ≡ true = e.1 in cc)) h

-- a federate as a valid cut has it
pub seat_is_restored : (p : Parts) (c : Cut) (k : ℕ) → IsValidCut p c → k < length p.federates → seat_at (world_restored c) k ≡ seat_restored k (get_or c.next k 0) (standing_at c k)
seat_is_restored p c k v lt = at_restored 0 k k c.next c.federates (omega arith) (omega (arith, v.each_next)) (omega (arith, v.each))

-- all of this holds of the world as a valid cut has it
pub since_restored : (p : Parts) (c : Cut) → IsValidCut p c → Since p c (world_restored c)
since_restored p c v =
    let w = world_restored c in
    let count : length w.seats ≡ length p.federates = length_restored 0 c.next c.federates (omega (arith, v.each_next, v.each)) ∙ v.each in
    let C : Seat → Type 0 = λ s. time_of s.request ≤ p.end in
    let below : (ms : List Message) → AllByRecursion (MessageFits p) ms → AllByRecursion (λ (m : Message). m.number < get_or c.next m.sender 0) ms → AllByRecursion (Below w) ms = λ ms fits before.
    each_weaker (λ m. MessageFits p m × (m.number < get_or c.next m.sender 0)) (Below w) ms
    (λ m known. let P : Seat → Type 0 = λ s. m.number < s.state.next in subst P (sym (seat_is_restored p c m.sender v known.0.0)) known.1)
    (both_all (MessageFits p) (λ (m : Message). m.number < get_or c.next m.sender 0) ms fits before) in
    record {
      sane = record {
        count = count;
        capped = All-from_recursion C w.seats (all_seats C w.seats (λ k inside.
            let lt : k < length p.federates = omega (arith, count) in
            subst C (sym (seat_is_restored p c k v lt)) (request_capped c.at p.end (standing_at c k).now (standing_at c k).request (v.federates k lt).asks)));
      };
      each = λ k inside.
          let lt : k < length p.federates = omega (arith, count) in
          let s = standing_at c k in
          let n = get_or c.next k 0 in
          let bounds : IsNextNumber n = v.nexts k 0 (omega (arith, v.each_next)) in
          let own = was_own p c k v lt in
          let was = was_pending p c k v lt in
          let sends = restored_sends k n s.own in
          let events = restored_events k n s.own bounds.0 own.numbers in
          let R : Seat → Type 0 = SeatSince c w k in
          subst R (sym (seat_is_restored p c k v lt)) (record {
            past = sends;
            own = sym (append-nil sends);
            numbered = restored_numbered k n s.own own.numbers;
            next = restored_count k n s.own bounds.0;
            first = omega arith;
            room = bounds.1;
            aimed = record { under = each_weaker (EventBelow n) (Under n) sends (λ m e. e.0) events; aims = events_aim n sends sends events };
            got = tt;
            pending = below s.pending was.fits was.before;
          });
      below = tt;
      late = tt;
      backward = tt;
    }
