-- A federate that takes number 16,385 does so in the simulation.
use Rattle.std.proofs.Common.{◌≡◌, ℕ, inl, inr, ◌+◌, ◌<◌, ◌≤◌, List, [], ◌∷◌, ◌++◌, length, arith, refl, sym, ap, ◌∙◌, subst}
use Rattle.std.proofs.lemmas.Bool.{cases_lt}
use Rattle.kit_base.specs.declared.message.Message.{Message}
use Rattle.kit_rules.specs.Parts.{Parts}
use Rattle.kit_rules.specs.declared.scene.State.{State}
use Rattle.kit_rules.specs.declared.table.Trigger.TheVariants.{Grant, Got}
use Rattle.kit_rules.specs.Step.{state_after}
use Rattle.kit_rules.specs.Simulation.{Seat, seat_at_start, after_deliveries, simulation}
use Rattle.kit_rules.proofs.Growth.{AreNumbered, grows_by_step}
use Rattle.kit_laws.proofs.Joins.{grows_by_deliveries}
use Rattle.kit_parts.specs.Fronts.{seat_after}
use Rattle.kit_parts.specs.OwnLaws.{SpentAgrees, SpentAmong}
use Rattle.kit_parts.proofs.Among.{Among, among_contains}
use Rattle.kit_parts.proofs.Seats.{sound_after, from_append}
use Rattle.kit_parts.proofs.Whole.{front_sent}

-- numbers
numbered_has : (i n k : ℕ) (xs : List Message) → AreNumbered i n xs → n ≤ k → k < n + length xs → (m : Message) × Among m xs × (m.sender ≡ i) × (m.number ≡ k)
numbered_has i n k [] h low high = absurd (omega arith)
numbered_has i n k (x ∷ xs) h low high =
    elim (cases_lt n k) [
      | inl lt ↦ (let r = numbered_has i (n + 1) k xs h.2 (omega arith) (omega arith) in (r.0, inr r.1, r.2, r.3))
      | inr ge ↦ (x, inl refl, h.0, (let a : x.number ≡ n = h.1 in omega arith))
    ]

pub spent_agrees_law : SpentAgrees
spent_agrees_law p f i lt done front past =
    let s = sound_after p i done f lt in
    let r = numbered_has i 1 16385 (seat_after p i done).state.sends s.numbered (omega arith) (omega (arith, s.next)) in
    (r.0, among_contains r.0 (simulation p).messages (front_sent p i done r.0 f lt front r.1).0, r.2, r.3)

deliveries_append : (p : Parts) (i d : ℕ) (s : State) (xs ys : List Message) → after_deliveries p i d s (xs ++ ys) ≡ after_deliveries p i d (after_deliveries p i d s xs) ys
deliveries_append p i d s [] ys = refl
deliveries_append p i d s (x ∷ xs) ys = deliveries_append p i d (state_after p i (Got x.group) d x.value s) xs ys

pub spent_among_law : SpentAmong
spent_among_law p f i lt done b front first rest split past =
    let s = (seat_after p i done).state in
    let there = after_deliveries p i b.time s first in
    let all = after_deliveries p i b.time s b.delivered in
    let e : all ≡ after_deliveries p i b.time there rest = ap (after_deliveries p i b.time s) split ∙ deliveries_append p i b.time s first rest in
    let P : Seat → Type 0 = λ v. 16385 < v.state.next in
    let more = grows_by_deliveries p i b.time there rest in
    let last = grows_by_step p i Grant b.time 0 all in
    spent_agrees_law p f i lt (done ++ b ∷ []) front (subst P (sym (from_append p i (seat_at_start p i) done (b ∷ []))) (omega (arith, past, ap (λ (v : State). v.next) e, more.next, last.next)))
