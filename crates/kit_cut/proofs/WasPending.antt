-- What a valid cut says of the messages that are pending at it, and of own Events, by recursion.
use Rattle.std.proofs.Common.{◌≡◌, ℕ, zero, suc, ◌+◌, ◌%◌, ◌^◌, ◌<◌, ◌≤◌, Bool, true, false, not, ◌&&◌, List, [], ◌∷◌, ◌++◌, length, get_or, nat_le, nat_eq, Option, Some, None, arith, refl, sym, subst, ap, ◌∙◌}
use Rattle.std.specs.List.{AllByRecursion, AllPairs}
use Rattle.std.proofs.lemmas.Bool.{and_from, ne_eqb}
use Rattle.std.proofs.lemmas.List.{append-nil}
use Rattle.std.proofs.Math.Nat.{zero-div}
use Rattle.std.proofs.lemmas.List.Elements.{recursion_from_All}
use Rattle.kit_base.specs.declared.message.Message.{Message}
use Rattle.kit_base.specs.Order.{is_before, key_cmp, in_order}
use Rattle.kit_base.proofs.Filtering.{Up}
use Rattle.kit_base.proofs.Lists.{each_weaker}
use Rattle.kit_base.proofs.Orders.{key_order}
use Rattle.kit_rules.specs.declared.table.Request.{Request}
use Rattle.kit_rules.specs.declared.own.Own.{Own}
use Rattle.kit_rules.specs.Parts.{Parts}
use Rattle.kit_rules.specs.Fits.{MessageFits}
use Rattle.kit_rules.specs.Own.{IsNumberedBelow}
use Rattle.kit_rules.specs.Step.{is_event}
use Rattle.kit_rules.specs.Delivery.{is_transported, has_bit, receivers_of, pending_messages}
use Rattle.kit_cut.specs.declared.cut.Standing.{Standing}
use Rattle.kit_cut.specs.declared.cut.Cut.{Cut}
use Rattle.kit_cut.specs.ValidCuts.{IsPendingMessage, NumbersDiffer, IsOwn, IsStanding, standing_at, IsValidCut, earliest}
use Rattle.kit_cut.proofs.Pairwise.{Pairwise, LowerOwn}
use Rattle.kit_cut.proofs.Parting.{IsEvent}
use Rattle.kit_cut.proofs.Standings.{fit_are_pending, arranged_up}

-- by recursion
pub pairs_to : {X : Type 0} (R : X → X → Type 0) (xs : List X) → AllPairs R xs → Pairwise R xs
pairs_to R [] h = tt
pairs_to R (x ∷ xs) h = (recursion_from_All (R x) xs (λ k d lt. h 0 (suc k) d (omega arith) (omega arith)), pairs_to R xs (λ i j d lt below. h (suc i) (suc j) d (omega arith) (omega arith)))

-- what is pending, from some time on
record Pends (p : Parts) (c : Cut) (i : ℕ) : Type 0 where
  from : ℕ
  each : AllByRecursion (IsPendingMessage p i from c.next) (standing_at c i).pending

pends : (p : Parts) (c : Cut) (i : ℕ) → IsStanding p c.at c.next i (standing_at c i) → Pends p c i
pends p c i h = by_request (standing_at c i).request refl
  where
    by_request : (o : Option Request) → (standing_at c i).request ≡ o → Pends p c i
    by_request None e =
        let P : List Message → Type 0 = AllByRecursion (IsPendingMessage p i 0 c.next) in
        record { from = 0; each = subst P (sym (h.pending.each.unasked e)) tt }
    by_request (Some r) e =
        let from_time = earliest c.at (standing_at c i).now r in
        record { from = from_time; each = recursion_from_All (IsPendingMessage p i from_time c.next) (standing_at c i).pending (h.pending.each.asked r e) }

-- nobody has no members
no_bit : (i : ℕ) → has_bit 0 i ≡ false
no_bit i = ap (λ (n : ℕ). nat_eq (n % 2) 1) (zero-div (2 ^ i))

some_bit : (mask i : ℕ) → has_bit mask i ≡ true → not (nat_eq mask 0) ≡ true
some_bit mask i h = ap not (ne_eqb mask 0 (λ e. absurd (let is : has_bit 0 i ≡ true = sym (ap (λ (n : ℕ). has_bit n i) e) ∙ h in let none : has_bit 0 i ≡ false = no_bit i in cc)))

-- an early time passes the test
early : (a b : ℕ) → a ≤ b → nat_le a b ≡ true
early a b le = grind arith

-- what is pending passes the test of each message by itself
fit_of : (p : Parts) (i from : ℕ) (nexts : List ℕ) (m : Message) → IsPendingMessage p i from nexts m → (is_event m.kind && is_transported p m && has_bit (receivers_of p m.sender m.group) i) ≡ true
fit_of p i from nexts m h =
    let mask = receivers_of p m.sender m.group in
    and_from (is_event m.kind && is_transported p m) (has_bit mask i)
    (and_from (is_event m.kind) (is_transported p m) h.event (and_from (nat_le m.time p.end) (not (nat_eq mask 0)) (early m.time p.end h.high) (some_bit mask i h.receives)))
    h.receives

-- rising messages stand in order
up_of : (ms : List Message) → Pairwise (λ a b. is_before a b ≡ true) ms → Up ms
up_of [] h = tt
up_of (m ∷ ms) h = (each_weaker (λ y. is_before m y ≡ true) (λ y. is_before y m ≡ false) ms (λ y e. key_order.one_way m y e) h.0, up_of ms h.1)

-- what was pending for federate i at a cut
pub record WasPending (p : Parts) (c : Cut) (i : ℕ) : Type 0 where
  pub events : AllByRecursion IsEvent (standing_at c i).pending
  pub differ : Pairwise NumbersDiffer (standing_at c i).pending
  pub before : AllByRecursion (λ (m : Message). m.number < get_or c.next m.sender 0) (standing_at c i).pending
  pub fits : AllByRecursion (MessageFits p) (standing_at c i).pending
  pub rise : Pairwise (λ a b. is_before a b ≡ true) (standing_at c i).pending
  pub queue : in_order (pending_messages p i [] ((standing_at c i).pending ++ [])) ≡ (standing_at c i).pending

pub was_pending : (p : Parts) (c : Cut) (i : ℕ) → IsValidCut p c → i < length p.federates → WasPending p c i
was_pending p c i v lt =
    let h = v.federates i lt in
    let ms = (standing_at c i).pending in
    let x = pends p c i h in
    let Q : Message → Type 0 = IsPendingMessage p i x.from c.next in
    let events : AllByRecursion IsEvent ms = each_weaker Q IsEvent ms (λ m q. q.event) x.each in
    let rise : Pairwise (λ a b. is_before a b ≡ true) ms = pairs_to (λ a b. is_before a b ≡ true) ms h.pending.rise in
    record {
      events = events;
      differ = pairs_to NumbersDiffer ms h.pending.differ;
      before = each_weaker Q (λ (m : Message). m.number < get_or c.next m.sender 0) ms (λ m q. q.number) x.each;
      fits = each_weaker Q (MessageFits p) ms (λ m q. (q.sender, q.group)) x.each;
      rise = rise;
      queue = ap (λ (xs : List Message). in_order (pending_messages p i [] xs)) (append-nil ms)
          ∙ ap in_order (fit_are_pending p i ms (each_weaker Q (λ m. (is_event m.kind && is_transported p m && has_bit (receivers_of p m.sender m.group) i) ≡ true) ms (λ m q. fit_of p i x.from c.next m q) x.each) events)
          ∙ arranged_up ms (up_of ms rise);
    }

-- the own Events of federate i at a cut
pub record WasOwn (p : Parts) (c : Cut) (i : ℕ) : Type 0 where
  pub numbers : AllByRecursion (IsNumberedBelow (get_or c.next i 0)) (standing_at c i).own
  pub rise : Pairwise LowerOwn (standing_at c i).own
  pub groups : AllByRecursion (λ (o : Own). o.group < length p.groups) (standing_at c i).own

pub was_own : (p : Parts) (c : Cut) (i : ℕ) → IsValidCut p c → i < length p.federates → WasOwn p c i
was_own p c i v lt =
    let h = v.federates i lt in
    let own = (standing_at c i).own in
    let next = get_or c.next i 0 in
    let Q : Own → Type 0 = IsOwn p i (standing_at c i).now next in
    let each : AllByRecursion Q own = recursion_from_All Q own h.own.each in
    record {
      numbers = each_weaker Q (IsNumberedBelow next) own (λ o q. (q.low, q.high)) each;
      rise = pairs_to LowerOwn own h.own.rise;
      groups = each_weaker Q (λ (o : Own). o.group < length p.groups) own (λ o q. q.group) each;
    }
