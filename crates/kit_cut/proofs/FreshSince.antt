-- Messages that are sent since a cut are new: of their sender they have the greatest number, and a Retraction finds the time of what it names.
use Rattle.std.proofs.Common.{◌≡◌, ℕ, zero, suc, inl, inr, ◌+◌, ◌<◌, ◌≤◌, Bool, true, false, List, [], ◌∷◌, ◌++◌, length, drop, get_or, set, filter, arith, refl, sym, subst, ap, ◌∙◌, append_assoc, length-set}
use Rattle.std.specs.List.{AllByRecursion, list_any}
use Rattle.std.proofs.lemmas.Bool.{cases_eq}
use Rattle.std.proofs.lemmas.List.{get_or-set_other, get_or-set_same}
use Rattle.kit_base.specs.declared.message.Message.{Message}
use Rattle.kit_base.proofs.Lists.{all-append, all_front, all_drop, all_filter, each_weaker}
use Rattle.kit_rules.specs.Parts.{Parts}
use Rattle.kit_rules.specs.Step.{is_event}
use Rattle.kit_rules.specs.Delivery.{is_same, retracts, is_due, due_messages}
use Rattle.kit_rules.specs.Simulation.{Seat, World, seat_at, nobody_seated}
use Rattle.kit_rules.proofs.Backs.{Aims, one_time}
use Rattle.kit_rules.proofs.Growth.{AreNumbered}
use Rattle.kit_laws.proofs.Fitting.{all_in_order}
use Rattle.kit_laws.proofs.Numbers.{gained}
use Rattle.kit_laws.proofs.OwnSends.{from}
use Rattle.kit_laws.proofs.Worlds.{grows_by_grant}
use Rattle.kit_oracle.proofs.Numbering.{Below}
use Rattle.kit_oracle.proofs.Starting.{Backward, LowerThan, Timed, not_got, not_retracted, of_own}
use Rattle.kit_cut.specs.declared.cut.Cut.{Cut}
use Rattle.kit_cut.specs.ValidCuts.{standing_at, IsValidCut}
use Rattle.kit_cut.specs.Resuming.{since_cut, seat_after_since, world_after_since}
use Rattle.kit_cut.proofs.Named.{TimedAt, named_each, named_later}
use Rattle.kit_cut.specs.SinceCut.{named_time}
use Rattle.kit_cut.proofs.Parting.{IsEvent}
use Rattle.kit_cut.proofs.SinceShown.{FreshSince, FreshAtEach, AreFreshSince, world_for}
use Rattle.kit_cut.proofs.WasPending.{WasPending, was_pending}
use Rattle.kit_cut.proofs.Since.{Late, SeatSince, Since, since_granted}

-- what holds of two lists together holds of the second
pub all_back : {X : Type 0} (P : X → Type 0) (xs ys : List X) → AllByRecursion P (xs ++ ys) → AllByRecursion P ys
all_back P [] ys h = h
all_back P (x ∷ xs) ys h = all_back P xs ys h.1

-- of sender k the numbers are below n
abbrev LowerOf : ℕ → ℕ → Message → Type 0
LowerOf k n x = x.sender ≡ k → x.number < n

-- so they are lower than that of its message with number n
lower_than : (k n : ℕ) (m : Message) (xs : List Message) → m.sender ≡ k → m.number ≡ n → AllByRecursion (LowerOf k n) xs → AllByRecursion (LowerThan m) xs
lower_than k n m xs by is h = each_weaker (LowerOf k n) (LowerThan m) xs (λ x low e. let lt : x.number < n = low (e ∙ by) in omega arith) h

-- and below the next
lower_more : (k n : ℕ) (xs : List Message) → AllByRecursion (LowerOf k n) xs → AllByRecursion (LowerOf k (n + 1)) xs
lower_more k n xs h = each_weaker (LowerOf k n) (LowerOf k (n + 1)) xs (λ x low e. let lt : x.number < n = low e in omega arith) h

-- Events name no lower number than they have
events_backward : (ms : List Message) → AllByRecursion IsEvent ms → AllByRecursion Backward ms
events_backward ms h = each_weaker IsEvent Backward ms (λ m e no. absurd (let is : is_event m.kind ≡ true = e in cc)) h

-- a Retraction of sender k has the time of what it names among its sender's messages
abbrev TimedOf : ℕ → List Message → Message → Type 0
TimedOf k all r = is_event r.kind ≡ false → AllByRecursion (λ (x : Message). x.sender ≡ k → x.number ≡ r.value → x.time ≡ r.time) all

-- what is known of a federate to which new messages of sender k are posted, which begin with number n
pub record Ready (p : Parts) (c : Cut) (k n i : ℕ) (s : Seat) : Type 0 where
  pub got : AllByRecursion (LowerOf k n) s.got
  pub pending : AllByRecursion (LowerOf k n) (standing_at c i).pending
  pub was : WasPending p c i

-- one message is new for a federate
fresh_at : (p : Parts) (c : Cut) (k n i : ℕ) (s : Seat) (sent ms : List Message) (m : Message) → m.sender ≡ k → m.number ≡ n → Ready p c k n i s → AllByRecursion (LowerOf k n) sent
    → AllByRecursion Backward sent → AllByRecursion (Late c) sent → TimedOf k (sent ++ m ∷ ms) m → FreshSince (standing_at c i).pending s sent m
fresh_at p c k n i s sent ms m by is ready lower backward late timed =
    let pending = (standing_at c i).pending in
    let low = lower_than k n m (pending ++ sent) by is (all-append (LowerOf k n) pending sent ready.pending lower) in
    let next = get_or c.next m.sender 0 in
    let before = each_weaker (λ (y : Message). y.number < get_or c.next y.sender 0) (λ (y : Message). y.sender ≡ m.sender → y.number < next) pending
    (λ y lt e. let P : ℕ → Type 0 = λ j. y.number < get_or c.next j 0 in subst P e lt) ready.was.before in
    let after = each_weaker (Late c) (λ (y : Message). y.sender ≡ m.sender → next ≤ y.number) sent
    (λ y le e. let P : ℕ → Type 0 = λ j. get_or c.next j 0 ≤ y.number in subst P e le) late in
    record {
      got = not_got m s.got (lower_than k n m s.got by is ready.got);
      kept = not_retracted m (pending ++ sent) (all-append Backward pending sent (events_backward pending ready.was.events) backward) low;
      new = not_got m (pending ++ sent) low;
      timed = λ e.
          all-append (TimedAt (named_time pending m) m) pending sent (named_each m pending ready.was.differ)
          (named_later m next pending sent before after
          (all_front (Timed m) sent (m ∷ ms) (each_weaker (λ (x : Message). x.sender ≡ k → x.number ≡ m.value → x.time ≡ m.time) (Timed m) (sent ++ m ∷ ms) (λ x f e. f (e ∙ by)) (timed e))));
    }

-- messages of sender k, numbered from n on, are new one after another
fresh_from_since : (p : Parts) (c : Cut) (k n : ℕ) (ss : List Seat) (sent ms : List Message) → AreNumbered k n ms → ((i : ℕ) → i < length ss → Ready p c k n (0 + i) (get_or ss i nobody_seated))
    → AllByRecursion (LowerOf k n) sent → AllByRecursion Backward (sent ++ ms) → AllByRecursion (Late c) (sent ++ ms) → AllByRecursion (TimedOf k (sent ++ ms)) ms → AreFreshSince c ss sent ms
fresh_from_since p c k n ss sent [] num ready lower backward late timed = tt
fresh_from_since p c k n ss sent (m ∷ ms) num ready lower backward late timed =
    let whole : sent ++ m ∷ ms ≡ (sent ++ m ∷ []) ++ ms = sym (append_assoc sent (m ∷ []) ms) in
    let B : List Message → Type 0 = AllByRecursion Backward in
    let L : List Message → Type 0 = AllByRecursion (Late c) in
    let T : List Message → Type 0 = λ all. AllByRecursion (TimedOf k all) ms in (
      λ i lt. fresh_at p c k n (0 + i) (get_or ss i nobody_seated) sent ms m num.0 num.1 (ready i lt) lower (all_front Backward sent (m ∷ ms) backward) (all_front (Late c) sent (m ∷ ms) late) timed.0,
      fresh_from_since p c k (n + 1) ss (sent ++ m ∷ []) ms num.2
          (λ i lt. let r = ready i lt in record { got = lower_more k n (get_or ss i nobody_seated).got r.got; pending = lower_more k n (standing_at c (0 + i)).pending r.pending; was = r.was })
          (all-append (LowerOf k (n + 1)) sent (m ∷ []) (lower_more k n sent lower) ((λ e. let is : m.number ≡ n = num.1 in omega arith), tt))
          (subst B whole backward) (subst L whole late) (subst T whole timed.1),
    )

-- numbers below the next of their senders, of one sender
below_lower : (w : World) (k : ℕ) (xs : List Message) → AllByRecursion (Below w) xs → AllByRecursion (LowerOf k (seat_at w k).state.next) xs
below_lower w k xs h = each_weaker (Below w) (LowerOf k (seat_at w k).state.next) xs (λ x b e. let P : ℕ → Type 0 = λ j. x.number < (seat_at w j).state.next in subst P e b) h

-- the Retractions of federate k have the times of what they name in the world
timed_since : (c : Cut) (w : World) (k : ℕ) (s : Seat) → SeatSince c w k s → AllByRecursion (TimedOf k w.messages) s.state.sends
timed_since c w k s h =
    each_weaker (Aims s.state.sends) (TimedOf k w.messages) s.state.sends
    (λ r aims e.
    let P : Message → Type 0 = λ x. x.number ≡ r.value → x.time ≡ r.time in
    let A : List Message → Type 0 = AllByRecursion P in
    of_own P k w.messages (all_back P h.past (filter (from k) w.messages) (subst A h.own (one_time k 1 s.state.sends r h.numbered (aims e).0))))
    h.aimed.aims

-- what a grant makes is new
pub grant_fresh_since : (p : Parts) (c : Cut) (w : World) (g : ℕ × ℕ) → IsValidCut p c → g.1 < length w.seats → (seat_after_since p c w g).state.next ≤ 16385 → Since p c w
    → AreFreshSince c (world_after_since p c w g).seats w.messages (drop (length (seat_at w g.1).state.sends) (seat_after_since p c w g).state.sends)
grant_fresh_since p c w g valid lt room h =
    let u = world_for c g.1 w in
    let v = world_after_since p c w g in
    let old = seat_at w g.1 in
    let new = seat_after_since p c w g in
    let n = old.state.next in
    let gr = grows_by_grant p u g in
    let made = drop (length old.state.sends) new.state.sends in
    let N : List Message → Type 0 = AreNumbered g.1 n in
    let numbered : AreNumbered g.1 n made = subst N (sym (gained g.1 old.state new.state gr)) gr.numbered in
    let after = since_granted p c w g lt room h in
    let inside : g.1 < length v.seats = omega (arith, length-set w.seats g.1 new) in
    let here : seat_at v g.1 ≡ new = get_or-set_same w.seats g.1 new nobody_seated lt in
    let T : Seat → Type 0 = λ s. AllByRecursion (TimedOf g.1 v.messages) s.state.sends in
    let timed : AllByRecursion (TimedOf g.1 v.messages) made =
    all_drop (TimedOf g.1 v.messages) (length old.state.sends) new.state.sends (subst T here (timed_since c v g.1 (seat_at v g.1) (after.each g.1 inside))) in
    let reach = since_cut c g.1 w.messages in
    let due : AllByRecursion (Below w) (due_messages p g.1 g.0 old.got reach) =
    all_in_order (Below w) [] (filter (is_due p g.1 g.0 old.got reach) reach) tt
    (all_filter (Below w) (is_due p g.1 g.0 old.got reach) reach (all-append (Below w) (standing_at c g.1).pending w.messages (h.each g.1 lt).pending h.below)) in
    let had : AllByRecursion (LowerOf g.1 n) new.got =
    below_lower w g.1 new.got (all-append (Below w) old.got (due_messages p g.1 g.0 old.got reach) (h.each g.1 lt).got due) in
    fresh_from_since p c g.1 n v.seats w.messages made numbered
    (λ i within.
    let same : i ≡ 0 + i = omega arith in
    let R : ℕ → Type 0 = λ j. Ready p c g.1 n j (get_or v.seats i nobody_seated) in
    let has : i < length w.seats = omega (arith, length-set w.seats g.1 new) in
    let G : Seat → Type 0 = λ s. AllByRecursion (LowerOf g.1 n) s.got in
    let got : AllByRecursion (LowerOf g.1 n) (get_or v.seats i nobody_seated).got =
    elim (cases_eq i g.1) [
      | inl e ↦ (let Q : ℕ → Type 0 = λ j. AllByRecursion (LowerOf g.1 n) (get_or v.seats j nobody_seated).got in subst Q (sym e) (subst G (sym here) had))
      | inr ne ↦ subst G (sym (get_or-set_other w.seats g.1 i new nobody_seated ne)) (below_lower w g.1 (seat_at w i).got (h.each i has).got)
    ] in
    subst R same (record { got = got; pending = below_lower w g.1 (standing_at c i).pending (h.each i has).pending; was = was_pending p c i valid (omega (arith, h.sane.count)) }))
    (below_lower w g.1 w.messages h.below) after.backward after.late timed
