-- What is pending at a valid cut has numbers below its senders' next.
use Rattle.std.proofs.Common.{◌≡◌, ◌≢◌, ℕ, ◌<◌, ◌≤◌, List, [], ◌∷◌, length, get_or, Option, Some, None, Bool, true, false, IsTrue, inl, inr, slice_index, refl, sym, subst, ap, ◌∙◌, arith}
use Rattle.std.specs.Prelude.{◌==◌, ◌&&◌}
use Rattle.std.specs.List.{All}
use Rattle.std.proofs.lemmas.Bool.{and_parts, eqb-true, cases_lt}
use Rattle.std.proofs.lemmas.List.{get_or_past}
use Rattle.std.proofs.lemmas.List.Elements.{All-nil, All-head, All-tail}
use Rattle.kit_base.specs.declared.message.Message.{Message}
use Rattle.kit_rules.specs.declared.table.Request.{Request}
use Rattle.kit_rules.specs.Parts.{Parts}
use Rattle.kit_cut.specs.declared.cut.Cut.{Cut}
use Rattle.kit_cut.specs.declared.cut.Standing.{Standing}
use Rattle.kit_cut.specs.SinceCut.{AreBelowNext, is_named, named_time}
use Rattle.kit_cut.specs.ValidCuts.{IsValidCut, IsPendingMessage, ArePending, AreTimely, earliest, standing_at, nobody_stands}

-- of this sender
abbrev pub AreBelow : ℕ → ℕ → List Message → Type 0
AreBelow next sender ms = All (λ (m : Message). m.sender ≡ sender → m.number < next) ms

-- a Retraction of a later number names none of them
pub named_later : (r : Message) (next : ℕ) (ms : List Message) → AreBelow next r.sender ms → next ≤ r.value → named_time ms r ≡ r.time
named_later r next [] below late = refl
named_later r next (m ∷ ms) below late = by (is_named r m) refl (named_later r next ms (All-tail (λ (m : Message). m.sender ≡ r.sender → m.number < next) m ms below) late)
  where
    here : m.sender ≡ r.sender → m.number < next
    here = All-head (λ (m : Message). m.sender ≡ r.sender → m.number < next) m ms below

    by : (b : Bool) → is_named r m ≡ b → named_time ms r ≡ r.time → named_time (m ∷ ms) r ≡ r.time
    by true is rest =
        let both = and_parts (m.sender == r.sender) (m.number == r.value) is in
        let lower : m.number < next = here (eqb-true m.sender r.sender both.0) in
        let same : m.number ≡ r.value = eqb-true m.number r.value both.1 in
        absurd (omega (arith, lower, same, late))
    by false is rest = rw (is) rest

-- those of each sender are so of one
pub below_of : (nexts : List ℕ) (sender : ℕ) (ms : List Message) → All (λ (m : Message). m.number < slice_index nexts m.sender) ms → AreBelow (slice_index nexts sender) sender ms
below_of nexts sender ms h = λ k d lt same. let P : ℕ → Type 0 = λ s. (get_or ms k d).number < slice_index nexts s in subst P same (h k d lt)

-- what may be pending by a request
below_by : (p : Parts) (at : ℕ) (nexts : List ℕ) (i now : ℕ) (request : Option Request) (ms : List Message) → AreTimely p at nexts i now request ms → All (λ (m : Message). m.number < slice_index nexts m.sender) ms
below_by p at nexts i now None ms h = let P : List Message → Type 0 = All (λ (m : Message). m.number < slice_index nexts m.sender) in subst P (sym (h.unasked refl)) (All-nil (λ (m : Message). m.number < slice_index nexts m.sender))
below_by p at nexts i now (Some r) ms h = λ k d lt. (h.asked r refl k d lt).number

pub valid_below : (p : Parts) (c : Cut) → IsValidCut p c → AreBelowNext c
valid_below p c valid j = elim (cases_lt j (length p.federates)) [
  | inl there ↦ (let s = valid.federates j there in below_by p c.at c.next j (standing_at c j).now (standing_at c j).request (standing_at c j).pending s.pending.each)
  | inr past ↦ past_last (omega (arith, past, valid.each))
]
  where
    past_last : length c.federates ≤ j → All (λ (m : Message). m.number < slice_index c.next m.sender) (standing_at c j).pending
    past_last out =
        let P : Standing → Type 0 = λ s. All (λ (m : Message). m.number < slice_index c.next m.sender) s.pending in
        subst P (sym (get_or_past c.federates j nobody_stands out)) (All-nil (λ (m : Message). m.number < slice_index c.next m.sender))
