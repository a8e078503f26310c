-- The cut of the simulation at a time is valid.
use Rattle.std.proofs.Common.{◌≡◌, ℕ, zero, suc, inl, inr, ◌+◌, ◌*◌, ◌<◌, ◌≤◌, min, true, cond, not, ◌&&◌, List, [], ◌∷◌, length, map, get_or, filter, find, Option, Some, None, IsSomeAnd, nat_le, nat_eq, arith, refl, sym, subst, ap, ◌∙◌}
use Rattle.std.specs.List.{AllByRecursion, All, range_with_len}
use Rattle.std.proofs.lemmas.Bool.{cases_lt, lt-ltb, le-ltb, and_parts}
use Rattle.std.proofs.lemmas.Bool.Decides.{leb_tells}
use Rattle.std.proofs.lemmas.List.Elements.{All-from_recursion}
use Rattle.kit_base.specs.declared.message.Message.{Message}
use Rattle.kit_base.specs.Order.{in_order, is_before}
use Rattle.kit_base.proofs.Filtering.{up_in_order}
use Rattle.kit_base.proofs.Lists.{all_filter, each_weaker}
use Rattle.kit_rules.specs.declared.own.Own.{Own}
use Rattle.kit_rules.specs.declared.table.Request.{Request}
use Rattle.kit_rules.specs.declared.table.Request.TheVariants as request
use Rattle.kit_rules.specs.Parts.{Parts}
use Rattle.kit_rules.specs.Federation.{IsFederation}
use Rattle.kit_rules.specs.Own.{is_untaken, own_of, own_events}
use Rattle.kit_rules.specs.Delivery.{is_pending, pending_messages, due_time, is_transported, has_bit, receivers_of}
use Rattle.kit_rules.specs.Step.{is_event}
use Rattle.kit_rules.specs.Fits.{MessageFits}
use Rattle.kit_rules.specs.Simulation.{Seat, World, is_spent, seat_due, waiting_from, world_at_start, seat_at_start, seat_at, nobody_seated, seat_after_pair, world_after_grant, world_after_pair, next_grant, after_grants}
use Rattle.kit_rules.proofs.Kept.{HasGroup}
use Rattle.kit_rules.proofs.Growth.{AreNumbered}
use Rattle.kit_rules.proofs.Backs.{Under}
use Rattle.kit_laws.proofs.Sane.{time_of}
use Rattle.kit_laws.proofs.Least.{Rank, next_least, waiting_covers}
use Rattle.kit_laws.proofs.Pendings.{From, due_capped, pending_front, earliest_each}
use Rattle.kit_laws.proofs.Fitting.{Fit, started_fit, fit_after, all_in_order}
use Rattle.kit_laws.proofs.Rising.{Reached, started_reached, simulated_done, empty_from}
use Rattle.kit_oracle.proofs.Starting.{Told, told}
use Rattle.kit_oracle.proofs.Numbering.{Below}
use Rattle.kit_oracle.proofs.Freshness.{all_set, all_seats}
use Rattle.kit_oracle.proofs.Progress.{room_left}
use Rattle.kit_cut.specs.declared.cut.Standing.{Standing}
use Rattle.kit_cut.specs.Reach.{is_in_reach}
use Rattle.kit_cut.specs.ValidCuts.{IsAhead, earliest, IsOwn, IsPendingMessage, NumbersDiffer, IsStanding, nobody_stands, IsValidCut}
use Rattle.kit_cut.specs.Cuts.{due_by, after_grants_by, standing_of, standings_from, cut_of}
use Rattle.kit_cut.specs.Laws.{CutsAreValid}
use Rattle.kit_cut.proofs.Pairwise.{Pairwise, pairs_from, pairs_filter, all_map, all_passed, both_all, Lower, numbers_rise, LowerOwn, own_rises}
use Rattle.kit_cut.proofs.Differing.{differ_from, differ_in_order, rise_in_order, length_fold, shorter_filter, same_length_map}
use Rattle.kit_cut.proofs.Sound.{Sound, sound, Regulated, total}
use Rattle.kit_cut.proofs.Resuming.{by_is_after, due_is_next, none_is_later}

-- no federate's time is later than that by which the world was made
abbrev UpTo : ℕ → Seat → Type 0
UpTo t s = s.now ≤ t

upto_next : (p : Parts) (t n : ℕ) (w : World) → ((v : World) → AllByRecursion (UpTo t) v.seats → AllByRecursion (UpTo t) (after_grants_by p t n v).seats) → AllByRecursion (UpTo t) w.seats
    → (o : Option (ℕ × ℕ)) → due_by t (next_grant p w) ≡ o → AllByRecursion (UpTo t) (after_grants_by p t n (world_after_pair p w o)).seats
upto_next p t n w rests h None e = rests w h
upto_next p t n w rests h (Some g) e =
    let here : g.0 ≤ t = (due_is_next t (next_grant p w) g e).1 in
    rests (world_after_grant p w g) (all_set (UpTo t) w.seats g.1 (seat_after_pair p w g) here h)

by_is_upto : (p : Parts) (t n : ℕ) (w : World) → AllByRecursion (UpTo t) w.seats → AllByRecursion (UpTo t) (after_grants_by p t n w).seats
by_is_upto p t zero w h = h
by_is_upto p t (suc n) w h = upto_next p t n w (λ v k. by_is_upto p t n v k) h (due_by t (next_grant p w)) refl

all_at_place : (P : Seat → Type 0) (ss : List Seat) (k : ℕ) → AllByRecursion P ss → k < length ss → P (get_or ss k nobody_seated)
all_at_place P [] k h lt = absurd (omega arith)
all_at_place P (s ∷ ss) zero h lt = h.0
all_at_place P (s ∷ ss) (suc k) h lt = all_at_place P ss k h.1 (omega arith)

-- where none is due by a time, each that waits is due later
due_later : (p : Parts) (t : ℕ) (last : ℕ × ℕ) (w : World) (k : ℕ) → IsFederation p → Reached p last w → due_by t (next_grant p w) ≡ None → k < length w.seats → (seat_at w k).now < p.end
    → t < seat_due p w.messages k (seat_at w k)
due_later p t last w k f r none lt below = by_next (next_grant p w) refl
  where
    by_next : (o : Option (ℕ × ℕ)) → next_grant p w ≡ o → t < seat_due p w.messages k (seat_at w k)
    by_next None e =
        let P : List (ℕ × ℕ) → Type 0 = AllByRecursion (λ x. ⊥) in
        let nobody : AllByRecursion (λ x. ⊥) (waiting_from p w.messages 0 w.seats) = subst P (sym (empty_from (waiting_from p w.messages 0 w.seats) e)) tt in
        absurd (waiting_covers (λ x. ⊥) p w.messages 0 w.seats nobody k lt below)
    by_next (Some g) e =
        let early : t < g.0 = none_is_later t g (sym (ap (due_by t) e) ∙ none) in
        let few : length w.seats ≤ 16 = omega (arith, r.count, f.federates.count.1) in
        let le : Rank g ≤ Rank (seat_due p w.messages k (seat_at w k), k) = next_least p w.messages w.seats g few e k lt below in
        omega arith

ahead_of : (at end : ℕ) (r : Request) → at + 1 ≤ time_of r → time_of r ≤ end → IsAhead at end r
ahead_of at end (request.Tar t) a b = (a, b)
ahead_of at end (request.Ner t) a b = (a, b)

-- what is pending is timed from the earliest on
pending_late : (p : Parts) (t i : ℕ) (got sent : List Message) (now : ℕ) (r : Request) → t < due_time r (pending_messages p i got sent) → AllByRecursion (From (now + 1)) (pending_messages p i got sent)
    → AllByRecursion (From (earliest (min t p.end) now r)) (pending_messages p i got sent)
pending_late p t i got sent now (request.Tar x) lt h = h
pending_late p t i got sent now (request.Ner x) lt h =
    each_weaker (From (t + 1)) (From (min t p.end + 1)) (pending_messages p i got sent) (λ m le. omega (arith, le)) (earliest_each (t + 1) x (pending_messages p i got sent) (omega (arith, lt)))

-- facts on what is pending that its test tells
record Passed (p : Parts) (i : ℕ) (m : Message) : Type 0 where
  event : is_event m.kind ≡ true
  high : m.time ≤ p.end
  receives : has_bit (receivers_of p m.sender m.group) i ≡ true

passed : (p : Parts) (i : ℕ) (got sent : List Message) (m : Message) → is_pending p i got sent m ≡ true → Passed p i m
passed p i got sent m h =
    let front = pending_front p i got sent m h in
    let two = and_parts (is_event m.kind && is_transported p m) (has_bit (receivers_of p m.sender m.group) i) front in
    let one = and_parts (is_event m.kind) (is_transported p m) two.0 in
    let time = (and_parts (nat_le m.time p.end) (not (nat_eq (receivers_of p m.sender m.group) 0)) one.1).0 in
    record {
      event = one.0;
      high = elim (leb_tells m.time p.end) [ inl le ↦ le.1 | inr gt ↦ absurd (let x = gt.0 in cc) ];
      receives = two.1;
    }

-- own sends, as they have to be
abbrev IsOwnSend : ℕ → ℕ → Message → Type 0
IsOwnSend groups next m = (1 ≤ m.number) × (m.number < next) × (m.group < groups)

own_sends : (groups next i n : ℕ) (ms : List Message) → 1 ≤ n → AreNumbered i n ms → AllByRecursion (Under next) ms → AllByRecursion (HasGroup groups) ms → AllByRecursion (IsOwnSend groups next) ms
own_sends groups next i n [] low num under has = tt
own_sends groups next i n (m ∷ ms) low num under has = (((let is : m.number ≡ n = num.1 in omega arith), under.0, has.0), own_sends groups next i (n + 1) ms (omega arith) num.2 under.1 has.1)

own_valid : (p : Parts) (i now next : ℕ) (sends : List Message) → AllByRecursion (IsOwnSend (length p.groups) next) sends → AllByRecursion (IsOwn p i now next) (filter (is_in_reach p i now) (own_events sends))
own_valid p i now next sends h =
    let Q : Own → Type 0 = λ o. (1 ≤ o.number) × (o.number < next) × (o.group < length p.groups) in
    let each : AllByRecursion Q (own_events sends) = all_map (IsOwnSend (length p.groups) next) Q own_of (filter (is_untaken sends) sends) (λ m k. k) (all_filter (IsOwnSend (length p.groups) next) (is_untaken sends) sends h) in
    each_weaker (λ o. Q o × (is_in_reach p i now o ≡ true)) (IsOwn p i now next) (filter (is_in_reach p i now) (own_events sends)) (λ o k. record { low = k.0.0; high = k.0.1; reach = k.1; group = k.0.2 })
    (all_passed Q (is_in_reach p i now) (own_events sends) each)

-- a message that is pending, by what is known of all that were sent
abbrev IsSent : Parts → World → Message → Type 0
IsSent p w m = MessageFits p m × Below w m × Regulated p m

sent_all : (p : Parts) (w : World) (ms : List Message) → AllByRecursion (MessageFits p) ms → AllByRecursion (Below w) ms → AllByRecursion (Regulated p) ms → AllByRecursion (IsSent p w) ms
sent_all p w [] a b c = tt
sent_all p w (m ∷ ms) a b c = ((a.0, b.0, c.0), sent_all p w ms a.1 b.1 c.1)

-- the number that a place has in the cut
next_at : (ss : List Seat) (k : ℕ) → k < length ss → get_or (map (λ (s : Seat). s.state.next) ss) k 0 ≡ (get_or ss k nobody_seated).state.next
next_at [] k lt = absurd (omega arith)
next_at (s ∷ ss) zero lt = refl
next_at (s ∷ ss) (suc k) lt = next_at ss k (omega arith)

pending_valid : (p : Parts) (t i : ℕ) (w : World) (now : ℕ) (r : Request) (got : List Message) → length w.seats ≡ length p.federates → AllByRecursion (IsSent p w) w.messages
    → AllByRecursion (From (earliest (min t p.end) now r)) (pending_messages p i got w.messages)
    → AllByRecursion (IsPendingMessage p i (earliest (min t p.end) now r) (map (λ (s : Seat). s.state.next) w.seats)) (in_order (pending_messages p i got w.messages))
pending_valid p t i w now r got count sent late =
    let from_time = earliest (min t p.end) now r in
    let nexts = map (λ (s : Seat). s.state.next) w.seats in
    let ms = pending_messages p i got w.messages in
    let V : Message → Type 0 = IsPendingMessage p i from_time nexts in
    let known = both_all (λ m. IsSent p w m × (is_pending p i got w.messages m ≡ true)) (From from_time) ms (all_passed (IsSent p w) (is_pending p i got w.messages) w.messages sent) late in
    all_in_order V [] ms tt
    (each_weaker (λ m. (IsSent p w m × (is_pending p i got w.messages m ≡ true)) × From from_time m) V ms
    (λ m k.
    let x = passed p i got w.messages m k.0.1 in
    let sender : m.sender < length p.federates = k.0.0.0.0 in
    let number : m.number < (seat_at w m.sender).state.next = k.0.0.1 in
    record {
      event = x.event;
      low = k.1;
      high = x.high;
      sender = sender;
      regulating = k.0.0.2;
      number = (let e = next_at w.seats m.sender (omega arith) in let here : m.number < get_or nexts m.sender 0 = omega arith in here);
      group = k.0.0.0.1;
      receives = x.receives;
    }) known)

-- so there are not too many messages
total_small : (ss : List Seat) → AllByRecursion (λ (s : Seat). length s.state.sends ≤ 16384) ss → total ss ≤ length ss * 16384
unfolding total
total_small [] h = omega arith
total_small (s ∷ ss) h = (let rest = total_small ss h.1 in let here : length s.state.sends ≤ 16384 = h.0 in omega arith)

-- where a federate stands at the end nothing is pending
nothing_left : (p : Parts) (i : ℕ) (got sent : List Message) (now : ℕ) → p.end ≤ now → AllByRecursion (From (now + 1)) (pending_messages p i got sent) → pending_messages p i got sent ≡ []
nothing_left p i got sent now ge h = none (pending_messages p i got sent) (both_all (λ m. Unit {0} × (is_pending p i got sent m ≡ true)) (From (now + 1)) (pending_messages p i got sent) (all_passed (λ m. Unit {0}) (is_pending p i got sent) sent (all_units sent)) h)
  where
    all_units : (xs : List Message) → AllByRecursion (λ m. Unit {0}) xs
    all_units [] = tt
    all_units (x ∷ xs) = (tt, all_units xs)

    none : (xs : List Message) → AllByRecursion (λ m. (Unit {0} × (is_pending p i got sent m ≡ true)) × From (now + 1) m) xs → xs ≡ []
    none [] k = refl
    none (x ∷ xs) k = absurd (let f = passed p i got sent x k.0.0.1 in let late : now + 1 ≤ x.time = k.0.1 in omega (arith, f.high))

-- a federate of the cut
stands : (p : Parts) (t : ℕ) (last : ℕ × ℕ) (w : World) (i : ℕ) → IsFederation p → Reached p last w → Told w → Fit p w → Sound p w → AllByRecursion (UpTo t) w.seats
    → due_by t (next_grant p w) ≡ None → ((k : ℕ) → k < length w.seats → (seat_at w k).state.next ≤ 16385) → i < length w.seats
    → IsStanding p (min t p.end) (map (λ (s : Seat). s.state.next) w.seats) i (standing_of p w.messages i (seat_at w i))
stands p t last w i f r told fit so upto none small lt =
    let s = seat_at w i in
    let ok = r.each i lt in
    let o = told.counted.each i lt in
    let nexts = map (λ (s : Seat). s.state.next) w.seats in
    let ms = pending_messages p i s.got w.messages in
    let early : s.now ≤ t = all_at_place (UpTo t) w.seats i upto lt in
    let request_is : s.now < p.end → (standing_of p w.messages i s).request ≡ Some s.request = λ below. ap (λ b. cond b (Some s.request) None) (lt-ltb s.now p.end below) in
    let none_is : p.end ≤ s.now → (standing_of p w.messages i s).request ≡ None = λ ge. ap (λ b. cond b (Some s.request) None) (le-ltb s.now p.end ge) in
    let sends_ok : AllByRecursion (IsOwnSend (length p.groups) s.state.next) s.state.sends = own_sends (length p.groups) s.state.next i 1 s.state.sends (omega arith) o.numbered o.aimed.under (fit.sends i lt) in
    let N : ℕ → Type 0 = λ n. AllByRecursion (IsOwn p i s.now n) (filter (is_in_reach p i s.now) (own_events s.state.sends)) in
    let own_ok = subst N (sym (next_at w.seats i lt)) (own_valid p i s.now s.state.next s.state.sends sends_ok) in
    let own_few : length (filter (is_in_reach p i s.now) (own_events s.state.sends)) ≤ 16384 = omega (arith, shorter_filter (is_in_reach p i s.now) (own_events s.state.sends), same_length_map own_of (filter (is_untaken s.state.sends) s.state.sends), shorter_filter (is_untaken s.state.sends) s.state.sends, o.next, small i lt) in
    let senders : AllByRecursion (λ (m : Message). m.sender < length w.seats) w.messages = each_weaker (MessageFits p) (λ (m : Message). m.sender < length w.seats) w.messages (λ m k. let x : m.sender < length p.federates = k.0 in omega (arith, r.count)) fit.messages in
    let W : List Message → Type 0 = Pairwise Lower in
    let differ : Pairwise NumbersDiffer w.messages = differ_from (length w.seats) w.messages senders (λ k below. let ok = told.counted.each k below in subst W (sym ok.own) (numbers_rise k 1 (seat_at w k).state.sends ok.numbered)) in
    let apart : Pairwise NumbersDiffer (in_order ms) = differ_in_order ms (pairs_filter NumbersDiffer (is_pending p i s.got w.messages) w.messages differ) in
    let each_few : AllByRecursion (λ (s : Seat). length s.state.sends ≤ 16384) w.seats = all_seats (λ (s : Seat). length s.state.sends ≤ 16384) w.seats (λ k below. omega (arith, small k below, (told.counted.each k below).next)) in
    let few : length (in_order ms) ≤ 262144 = omega (arith, length_fold [] ms, shorter_filter (is_pending p i s.got w.messages) w.messages, so.count, total_small w.seats each_few, r.count, f.federates.count.1) in
    let A : Option Request → Type 0 = λ q. IsSomeAnd q (IsAhead (min t p.end) p.end) in
    record {
      now = omega (arith, ok.now_end);
      unused = so.spare i lt;
      wish = ok.wish;
      asks = record { below = λ below. subst A (sym (request_is below)) (ahead_of (min t p.end) p.end s.request (omega (arith, due_later p t last w i f r none lt below, due_capped s.request ms, ok.capped)) ok.capped); over = none_is };
      own = record {
        few = own_few;
        rise = pairs_from LowerOwn (filter (is_in_reach p i s.now) (own_events s.state.sends))
            (pairs_filter LowerOwn (is_in_reach p i s.now) (own_events s.state.sends) (own_rises (filter (is_untaken s.state.sends) s.state.sends) (pairs_filter Lower (is_untaken s.state.sends) s.state.sends (numbers_rise i 1 s.state.sends o.numbered))));
        each = All-from_recursion (IsOwn p i s.now (get_or nexts i 0)) (filter (is_in_reach p i s.now) (own_events s.state.sends)) own_ok;
      };
      pending = record {
        few = few;
        rise = pairs_from (λ a b. is_before a b ≡ true) (in_order ms) (rise_in_order (in_order ms) (up_in_order ms) apart);
        differ = pairs_from NumbersDiffer (in_order ms) apart;
        each = record {
          asked = λ q is.
              elim (cases_lt s.now p.end) [
                | inl below ↦ (let same : s.request ≡ q = (let e : Some s.request ≡ Some q = sym (request_is below) ∙ is in cc) in
                    let V : Request → Type 0 = λ q. All (IsPendingMessage p i (earliest (min t p.end) s.now q) nexts) (in_order ms) in
                    subst V same (All-from_recursion (IsPendingMessage p i (earliest (min t p.end) s.now s.request) nexts) (in_order ms)
                    (pending_valid p t i w s.now s.request s.got r.count (sent_all p w w.messages fit.messages told.counted.below so.regulated)
                    (pending_late p t i s.got w.messages s.now s.request (due_later p t last w i f r none lt below) ok.later))))
                | inr ge ↦ absurd (let e : None ≡ Some q = sym (none_is ge) ∙ is in cc)
              ];
          unasked = λ is.
              elim (cases_lt s.now p.end) [
                | inl below ↦ absurd (let e : Some s.request ≡ None = sym (request_is below) ∙ is in cc)
                | inr ge ↦ ap in_order (nothing_left p i s.got w.messages s.now ge ok.later)
              ];
        };
      };
    }

length_standings : (p : Parts) (sent : List Message) (a : ℕ) (ss : List Seat) → length (standings_from p sent a ss) ≡ length ss
length_standings p sent a [] = refl
length_standings p sent a (s ∷ ss) = ap suc (length_standings p sent (a + 1) ss)

standing_there : (p : Parts) (sent : List Message) (a k n : ℕ) (ss : List Seat) → a + k ≡ n → k < length ss → get_or (standings_from p sent a ss) k nobody_stands ≡ standing_of p sent n (get_or ss k nobody_seated)
standing_there p sent a k n [] e lt = absurd (omega arith)
standing_there p sent a zero n (s ∷ ss) e lt = ap (λ i. standing_of p sent i s) (let is : a ≡ n = omega arith in is)
standing_there p sent a (suc k) n (s ∷ ss) e lt = standing_there p sent (a + 1) k n ss (omega arith) (omega arith)

nexts_valid : (w : World) (ss : List Seat) → AllByRecursion (λ (s : Seat). (1 ≤ s.state.next) × (s.state.next ≤ 16385)) ss → AllByRecursion (λ n. (1 ≤ n) × (n ≤ 16385)) (map (λ (s : Seat). s.state.next) ss)
nexts_valid w [] h = tt
nexts_valid w (s ∷ ss) h = (h.0, nexts_valid w ss h.1)

cut_is_valid : (p : Parts) (t : ℕ) (last : ℕ × ℕ) (w : World) → IsFederation p → Reached p last w → Told w → Fit p w → Sound p w → AllByRecursion (UpTo t) w.seats
    → due_by t (next_grant p w) ≡ None → ((k : ℕ) → k < length w.seats → (seat_at w k).state.next ≤ 16385) → IsValidCut p (cut_of p t w)
cut_is_valid p t last w f r told fit so upto none small = record {
  at = omega arith;
  each_next = same_length_map (λ (s : Seat). s.state.next) w.seats ∙ r.count;
  nexts = All-from_recursion (λ n. (1 ≤ n) × (n ≤ 16385)) (map (λ (s : Seat). s.state.next) w.seats) (nexts_valid w w.seats
      (all_seats (λ (s : Seat). (1 ≤ s.state.next) × (s.state.next ≤ 16385)) w.seats (λ k below. (omega (arith, (told.counted.each k below).next), small k below))));
  each = length_standings p w.messages 0 w.seats ∙ r.count;
  federates = λ i below.
      let lt : i < length w.seats = omega (arith, r.count) in
      let S : Standing → Type 0 = IsStanding p (min t p.end) (map (λ (s : Seat). s.state.next) w.seats) i in
      subst S (sym (standing_there p w.messages 0 i i w.seats (omega arith) lt)) (stands p t last w i f r told fit so upto none small lt);
}

start_upto : (p : Parts) (t a n : ℕ) → AllByRecursion (UpTo t) (map (seat_at_start p) (range_with_len a n))
start_upto p t a zero = tt
start_upto p t a (suc n) = (omega arith, start_upto p t (a + 1) n)

pub cuts_are_valid : CutsAreValid
cuts_are_valid p f t clean =
    let most = length p.federates * p.end in
    let x = by_is_after p t most (world_at_start p) in
    let k = x.count in
    let w = after_grants p k (world_at_start p) in
    let none : due_by t (next_grant p w) ≡ None =
    elim x.over [ inl all ↦ (ap (λ n. due_by t (next_grant p (after_grants p n (world_at_start p)))) all ∙ ap (due_by t) (simulated_done p f)) | inr none ↦ none ] in
    let U : World → Type 0 = λ v. AllByRecursion (UpTo t) v.seats in
    let upto = subst U x.is (by_is_upto p t most (world_at_start p) (start_upto p t 0 (length p.federates))) in
    let fits = fit_after p (0, 0) (world_at_start p) k f (started_reached p f) (started_fit p f) in
    let V : World → Type 0 = λ v. IsValidCut p (cut_of p t v) in
    subst V (sym x.is) (cut_is_valid p t fits.0 w f fits.1 (told p k f) fits.2 (sound p k f) upto none (λ j lt. room_left p k j f lt (sym (ap (λ (v : World). find is_spent v.messages) x.is) ∙ clean)))
