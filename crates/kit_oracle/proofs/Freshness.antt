-- Messages that are sent are new: of their sender they have the greatest number, and a Retraction names an Event of its time.
use Rattle.std.proofs.Common.{◌≡◌, ℕ, zero, suc, ◌+◌, ◌<◌, ◌≤◌, Bool, false, cond, List, [], ◌∷◌, ◌++◌, length, map, drop, get_or, set, filter, arith, refl, sym, subst, ap, ◌∙◌, append_assoc, length-set}
use Rattle.std.specs.List.{AllByRecursion, range_with_len, flat_map, list_any}
use Rattle.std.proofs.lemmas.Bool.{eq-eqb}
use Rattle.std.proofs.lemmas.List.Elements.{filter-append}
use Rattle.std.proofs.lemmas.List.FromFn.{length-map-range_with_len}
use Rattle.kit_base.specs.declared.message.Message.{Message}
use Rattle.kit_base.proofs.Lists.{all-append, all_front, all_filter, each_weaker}
use Rattle.kit_rules.specs.Parts.{Parts}
use Rattle.kit_rules.specs.Federation.{IsFederation}
use Rattle.kit_rules.specs.Step.{is_event}
use Rattle.kit_rules.specs.Delivery.{is_same, is_due, due_messages}
use Rattle.kit_rules.specs.Simulation.{Seat, World, world_at_start, seat_at_start, seat_at, nobody_seated, seat_after_pair, world_after_grant}
use Rattle.kit_rules.proofs.Growth.{AreNumbered}
use Rattle.kit_laws.proofs.Fitting.{all_in_order}
use Rattle.kit_laws.proofs.Numbers.{gained}
use Rattle.kit_laws.proofs.Worlds.{grows_by_grant}
use Rattle.kit_laws.proofs.OwnSends.{from, own_numbered}
use Rattle.kit_oracle.proofs.Numbering.{Below, OwnSends, granted_counted}
use Rattle.kit_oracle.proofs.Starting.{Backward, LowerThan, Timed, Told, told, not_got, not_retracted, number_at, under_at, lower_of_below, of_own, each_timed, granted_backward}
use Rattle.kit_oracle.proofs.Showing.{AreFresh}

-- what holds of all holds of one among them
pub all_at : (P : Message → Type 0) (xs ys : List Message) (m : Message) → AllByRecursion P (xs ++ m ∷ ys) → P m
all_at P [] ys m h = h.0
all_at P (x ∷ xs) ys m h = all_at P xs ys m h.1

-- of its sender, what was sent before a message has lower numbers
lower_before : (v : World) (xs ys : List Message) (m : Message) → OwnSends v m.sender → v.messages ≡ xs ++ m ∷ ys → AllByRecursion (LowerThan m) xs
lower_before v xs ys m o split =
    let k = m.sender in
    let L : List Message → Type 0 = AreNumbered k 1 in
    let B : Bool → Type 0 = λ b. filter (from k) v.messages ≡ filter (from k) xs ++ cond b (m ∷ filter (from k) ys) (filter (from k) ys) in
    let parts : filter (from k) v.messages ≡ filter (from k) xs ++ m ∷ filter (from k) ys = subst B (eq-eqb k k refl) (ap (filter (from k)) split ∙ filter-append (from k) xs (m ∷ ys)) in
    let numbered : AreNumbered k 1 (filter (from k) xs ++ m ∷ filter (from k) ys) = subst L (sym o.own ∙ parts) o.numbered in
    let at = number_at k 1 (filter (from k) xs) (filter (from k) ys) m numbered in
    let under = under_at k 1 (filter (from k) xs) (m ∷ filter (from k) ys) m numbered (omega (arith, at.1)) in
    each_weaker (λ (x : Message). x.sender ≡ k → LowerThan m x) (LowerThan m) xs (λ x f e. f e e) (of_own (LowerThan m) k xs under)

-- what was sent before a Retraction, and what it names, have the same time
timed_before : (v : World) (xs ys : List Message) (m : Message) → OwnSends v m.sender → v.messages ≡ xs ++ m ∷ ys → is_event m.kind ≡ false → AllByRecursion (Timed m) xs
timed_before v xs ys m o split e =
    let k = m.sender in
    let Q : Message → Type 0 = λ r. is_event r.kind ≡ false → AllByRecursion (λ (x : Message). x.sender ≡ k → x.number ≡ r.value → x.time ≡ r.time) v.messages in
    let A : List Message → Type 0 = AllByRecursion Q in
    let S : List Message → Type 0 = AllByRecursion (λ (x : Message). x.sender ≡ k → Q x) in
    let T : List Message → Type 0 = AllByRecursion (λ (x : Message). x.sender ≡ k → x.number ≡ m.value → x.time ≡ m.time) in
    let own : AllByRecursion Q (filter (from k) v.messages) = subst A (sym o.own) (each_timed v k o) in
    let here : Q m = all_at (λ (x : Message). x.sender ≡ k → Q x) xs ys m (subst S split (of_own Q k v.messages own)) refl in
    all_front (Timed m) xs (m ∷ ys) (subst T split (here e))

-- no seat has a message whose number is higher than those it had
no_seat_has : (m : Message) (ss : List Seat) → AllByRecursion (λ (s : Seat). AllByRecursion (LowerThan m) s.got) ss → AllByRecursion (λ (s : Seat). list_any (is_same m) s.got ≡ false) ss
no_seat_has m [] h = tt
no_seat_has m (s ∷ ss) h = (not_got m s.got h.0, no_seat_has m ss h.1)

-- of its sender, the seats had lower numbers than that of this message
abbrev Higher : List Seat → Message → Type 0
Higher ss m = AllByRecursion (λ (s : Seat). AllByRecursion (LowerThan m) s.got) ss

-- the messages that a world has at the end are fresh one after another, where the seats had lower numbers
fresh_from : (v : World) (ss : List Seat) (xs ms : List Message) → Told v → v.messages ≡ xs ++ ms → AllByRecursion (λ (m : Message). m.sender < length v.seats) ms → AllByRecursion (Higher ss) ms → AreFresh ss xs ms
fresh_from v ss xs [] t split lt h = tt
fresh_from v ss xs (m ∷ ms) t split lt h =
    let o = t.counted.each m.sender lt.0 in
    let lower : AllByRecursion (LowerThan m) xs = lower_before v xs ms m o split in
    let B : List Message → Type 0 = AllByRecursion Backward in (
      record {
        got = no_seat_has m ss h.0;
        kept = not_retracted m xs (all_front Backward xs (m ∷ ms) (subst B split t.backward)) lower;
        new = not_got m xs lower;
        timed = timed_before v xs ms m o split;
      },
      fresh_from v ss (xs ++ m ∷ []) ms t (split ∙ sym (append_assoc xs (m ∷ []) ms)) lt.1 h.1,
    )

-- the seats of a list from what is known at each place
pub all_seats : (P : Seat → Type 0) (ss : List Seat) → ((k : ℕ) → k < length ss → P (get_or ss k nobody_seated)) → AllByRecursion P ss
all_seats P [] h = tt
all_seats P (s ∷ ss) h = (h 0 (omega arith), all_seats P ss (λ k lt. h (suc k) (omega arith)))

-- what holds of all seats and of a new one holds when it is set
pub all_set : (P : Seat → Type 0) (ss : List Seat) (k : ℕ) (s : Seat) → P s → AllByRecursion P ss → AllByRecursion P (set ss k s)
all_set P [] k s here h = tt
all_set P (x ∷ ss) zero s here h = (here, h.1)
all_set P (x ∷ ss) (suc k) s here h = (h.0, all_set P ss k s here h.1)

-- what a seat had has numbers below the next of their senders
abbrev Had : World → Seat → Type 0
Had w s = AllByRecursion (Below w) s.got

-- of the sender's numbers, none that a seat had is as high as the next
had_lower : (w : World) (k n : ℕ) (ss : List Seat) (ms : List Message) → AllByRecursion (Had w) ss → AreNumbered k n ms → (seat_at w k).state.next ≤ n → AllByRecursion (Higher ss) ms
had_lower w k n ss [] h num le = tt
had_lower w k n ss (m ∷ ms) h num le =
    let N : ℕ → Type 0 = λ s. (seat_at w s).state.next ≤ m.number in
    let here : (seat_at w m.sender).state.next ≤ m.number = subst N (sym num.0) (let is : m.number ≡ n = num.1 in omega arith) in
    (each_weaker (Had w) (λ (s : Seat). AllByRecursion (LowerThan m) s.got) ss (λ s b. lower_of_below w m s.got here b) h, had_lower w k (n + 1) ss ms h num.2 (omega arith))

-- messages that are numbered have one sender
pub sent_by : (k n bound : ℕ) (ms : List Message) → AreNumbered k n ms → k < bound → AllByRecursion (λ (m : Message). m.sender < bound) ms
sent_by k n bound [] num lt = tt
sent_by k n bound (m ∷ ms) num lt = ((let is : m.sender ≡ k = num.0 in omega arith), sent_by k (n + 1) bound ms num.2 lt)

-- what a grant makes is fresh
pub grant_fresh : (p : Parts) (w : World) (g : ℕ × ℕ) → g.1 < length w.seats → Told w → AreFresh (world_after_grant p w g).seats w.messages (drop (length (seat_at w g.1).state.sends) (seat_after_pair p w g).state.sends)
grant_fresh p w g lt t =
    let v = world_after_grant p w g in
    let old = seat_at w g.1 in
    let new = seat_after_pair p w g in
    let gr = grows_by_grant p w g in
    let made = drop (length old.state.sends) new.state.sends in
    let is : made ≡ gr.made = gained g.1 old.state new.state gr in
    let N : List Message → Type 0 = AreNumbered g.1 old.state.next in
    let numbered : AreNumbered g.1 old.state.next made = subst N (sym is) gr.numbered in
    let after : Told v = record { counted = granted_counted p w g lt t.counted; backward = granted_backward p w g (t.counted.each g.1 lt).aimed t.backward } in
    let due = all_in_order (Below w) [] (filter (is_due p g.1 g.0 old.got w.messages) w.messages) tt (all_filter (Below w) (is_due p g.1 g.0 old.got w.messages) w.messages t.counted.below) in
    let had : AllByRecursion (Had w) v.seats = all_set (Had w) w.seats g.1 new (all-append (Below w) old.got (due_messages p g.1 g.0 old.got w.messages) (t.counted.each g.1 lt).got due)
    (all_seats (Had w) w.seats (λ k inside. (t.counted.each k inside).got)) in
    fresh_from v v.seats w.messages made after refl (sent_by g.1 old.state.next (length v.seats) made numbered (omega (arith, length-set w.seats g.1 new))) (had_lower w g.1 old.state.next v.seats made had numbered (omega arith))

-- the start's messages are of the federates there are
starts_by : (p : Parts) (a n bound : ℕ) → a + n ≤ bound → AllByRecursion (λ (m : Message). m.sender < bound) (flat_map (λ (s : Seat). s.state.sends) (map (seat_at_start p) (range_with_len a n)))
starts_by p a zero bound le = tt
starts_by p a (suc n) bound le =
    all-append (λ (m : Message). m.sender < bound) (seat_at_start p a).state.sends (flat_map (λ (s : Seat). s.state.sends) (map (seat_at_start p) (range_with_len (a + 1) n)))
    (sent_by a 1 bound (seat_at_start p a).state.sends (own_numbered p a) (omega arith)) (starts_by p (a + 1) n bound (omega arith))

-- nothing was delivered before the start
none_had : (p : Parts) (m : Message) (a n : ℕ) → Higher (map (seat_at_start p) (range_with_len a n)) m
none_had p m a zero = tt
none_had p m a (suc n) = (tt, none_had p m (a + 1) n)

-- what holds of each message holds of a list
pub for_all : (P : Message → Type 0) (ms : List Message) → ((m : Message) → P m) → AllByRecursion P ms
for_all P [] f = tt
for_all P (m ∷ ms) f = (f m, for_all P ms f)

-- what the start makes is fresh
pub start_fresh : (p : Parts) → IsFederation p → AreFresh (world_at_start p).seats [] (world_at_start p).messages
start_fresh p f =
    let n = length p.federates in
    fresh_from (world_at_start p) (world_at_start p).seats [] (world_at_start p).messages (told p 0 f) refl
    (starts_by p 0 n (length (world_at_start p).seats) (omega (arith, length-map-range_with_len (seat_at_start p) 0 n)))
    (for_all (Higher (world_at_start p).seats) (world_at_start p).messages (λ m. none_had p m 0 n))
