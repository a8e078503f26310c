-- The next block of a federate that may be granted its due time, and what it has outstanding.
use Rattle.std.proofs.Common.{◌≡◌, ℕ, ◌<◌, ◌≤◌, List, [], ◌∷◌, ◌++◌, length, Option, Some, None, refl, sym, ap, ◌∙◌, subst, arith}
use Rattle.std.specs.List.{count_by}
use Rattle.std.proofs.lemmas.List.{length-append}
use Rattle.kit_base.specs.declared.message.Message.{Message}
use Rattle.kit_ground.specs.declared.place.Place.{Place}
use Rattle.kit_ground.specs.Memory.{Memory}
use Rattle.kit_ground.specs.Rules.{World}
use Rattle.kit_ground.proofs.Lists.{at_inside}
use Rattle.kit_parts.specs.Fronts.{seat_with}
use Rattle.kit_parts.proofs.Needing.{need_covers_law}
use Rattle.kit_parts.proofs.Seats.{from_append}
use Rattle.kit_parts.proofs.Spending.{spent_agrees_law}
use Rattle.kit_rules.specs.declared.scene.State.{State}
use Rattle.kit_rules.specs.declared.table.Request.{Request}
use Rattle.kit_rules.specs.Federation.{IsFederation}
use Rattle.kit_rules.specs.Need.{is_outstanding, need_of}
use Rattle.kit_rules.specs.Parts.{Parts}
use Rattle.kit_rules.specs.Simulation.{Block, Seat, after_block, block, seat_at_start}
use Rattle.kit_rules.specs.declared.table.Trigger.TheVariants.{Start}
use Rattle.kit_rules.specs.Step.{state_after}
use Rattle.kit_rules.proofs.Growth.{Grows, grows_by_step}
use Rattle.kit_lbts.specs.declared.view.LbtsView.{LbtsView}
use Rattle.kit_lbts.specs.Views.{due_of, time_of}
use Rattle.kit_lbts.specs.Progress.{due_in}
use Rattle.kit_lbts.specs.Agreement.{Agrees, agreeing_rule, blocks_in}
use Rattle.kit_lbts.specs.AgreementLaws.{NextBlocksAgree, OutstandingIsNeeded, SpentAtGrants, SpentAtStarts}
use Rattle.kit_laws.proofs.Joins.{grows_by_block}
use Rattle.kit_lbts.proofs.GrantAgreement.{before, front, without_agreement}

abbrev P : Type 0
P = Place LbtsView

pub next_blocks_agree : NextBlocksAgree
next_blocks_agree p may m places w = front p may.started may.posted may.early may.below may.loose m places (without_agreement p m places w) w.client.agree

module _ (p : P) (m : Memory) (places : List P) (w : World agreeing_rule p m places) where
  pub sound : IsFederation p.client.federation
  sound = subst IsFederation (sym (w.client.floor.common.each p.own.number p w.here).0) w.client.floor.common.sound

  pub within : p.own.number < length p.client.federation.federates
  within =
      subst (λ (x : Parts). p.own.number < length x.federates) (sym (w.client.floor.common.each p.own.number p w.here).0)
      (subst (λ (n : ℕ). p.own.number < n) w.client.floor.common.many (at_inside places p.own.number p w.here))

pub spent_at_grants : SpentAtGrants
spent_at_grants p may m places w more =
    let me : ℕ = p.own.number in
    let f : Parts = p.client.federation in
    let v : LbtsView = p.client in
    let d : ℕ = due_of p.client in
    let due : List Message = due_in d v.queue in
    let b : Block = block me d due in
    let done : List Block = blocks_in me v in
    let after : State = after_block f me d v.state due in
    let sends = (w.client.floor.each me p w.here).sends in
    let grow : Grows me v.state after = grows_by_block f me d v.state due in
    let next : 16385 < after.next = omega (arith, grow.next, sends.next, ap length grow.sends, length-append v.state.sends grow.made, more) in
    let seat = from_append f me (seat_at_start f me) done (b ∷ []) ∙ ap (seat_with f me b) (before p may.started may.posted may.early may.below may.loose m places (without_agreement p m places w) w.client.agree) in
    spent_agrees_law f (sound p m places w) me (within p m places w) (done ++ b ∷ []) (next_blocks_agree p may m places w) (subst (λ (s : Seat). 16385 < s.state.next) (sym seat) next)

pub outstanding_is_needed : OutstandingIsNeeded
outstanding_is_needed p asked m places w = by p.client.request refl
  where
    by : (o : Option Request) → p.client.request ≡ o → count_by (is_outstanding p.client.federation p.own.number (time_of p.client)) p.client.state.sends ≤ need_of p.client.federation p.own.number
    by None e = absurd (asked e)
    by (Some r) e =
        let me : ℕ = p.own.number in
        let f : Parts = p.client.federation in
        let h : Agrees me p.client = w.client.agree me p w.here in
        subst (λ (s : Seat). count_by (is_outstanding f me s.now) s.state.sends ≤ need_of f me) (h.seat r e) (need_covers_law f (sound p m places w) me (within p m places w) (blocks_in me p.client) h.front)

pub spent_at_starts : SpentAtStarts
spent_at_starts p none m places w more =
    let me : ℕ = p.own.number in
    let f : Parts = p.client.federation in
    let v : LbtsView = p.client in
    let h : Agrees me v = w.client.agree me p w.here in
    let sends = (w.client.floor.each me p w.here).sends in
    let grow = grows_by_step f me Start 0 0 v.state in
    let next : 16385 < (state_after f me Start 0 0 v.state).next = omega (arith, grow.next, sends.next, ap length grow.sends, length-append v.state.sends grow.made, more) in
    spent_agrees_law f (sound p m places w) me (within p m places w) [] refl (subst (λ (s : State). 16385 < (state_after f me Start 0 0 s).next) (h.new none) next)
