-- A federate that is granted its due time goes on to agree with the simulation.
use Rattle.std.proofs.Common.{◌≡◌, ◌≢◌, ℕ, ◌<◌, ◌≤◌, nat_lt, Bool, true, false, cond, List, [], ◌∷◌, ◌++◌, length, Option, Some, None, sym, ap, ◌∙◌, subst, true≢false}
use Rattle.std.specs.List.{All}
use mathlib.Core.Option.{some}
use Rattle.kit_base.specs.declared.message.Message.{Message}
use Rattle.kit_ground.specs.declared.place.Deed.{Deed}
use Rattle.kit_ground.specs.declared.place.Deed.TheVariants.{Published}
use Rattle.kit_ground.specs.declared.place.Place.{Place}
use Rattle.kit_ground.specs.Memory.{Memory}
use Rattle.kit_ground.specs.Rules.{World}
use Rattle.kit_ground.specs.Steps.{place_after}
use Rattle.kit_ground.proofs.Lists.{at_inside, at_or}
use Rattle.kit_ground.proofs.PlaceSteps.{each_after}
use Rattle.kit_parts.specs.Cuts.{HasAllBelow}
use Rattle.kit_parts.specs.Fronts.{IsFront, seat_after, seat_with}
use Rattle.kit_parts.proofs.Agreement.{grants_agree_law}
use Rattle.kit_parts.proofs.Cutting.{bounds_are_cuts_law}
use Rattle.kit_parts.proofs.Safety.{all_is_heard_law}
use Rattle.kit_parts.proofs.Seats.{from_append}
use Rattle.kit_queue.specs.declared.entry.Entry.{Entry}
use Rattle.kit_rules.specs.declared.scene.State.{State}
use Rattle.kit_rules.specs.declared.table.Request.{Request}
use Rattle.kit_rules.specs.Delivery.{due_messages, due_time, pending_messages}
use Rattle.kit_rules.specs.Parts.{Parts}
use Rattle.kit_rules.specs.Simulation.{Block, Seat, after_block, block, lines_of, request_at, seat_due, seat_at_start}
use Rattle.kit_model.specs.Journals.{lines_told}
use Rattle.kit_lbts.specs.declared.view.LbtsView.{LbtsView}
use Rattle.kit_lbts.specs.Views.{messages_delivered, due_of, entries_of, is_new, messages_received, time_of}
use Rattle.kit_lbts.specs.Promises.{bound_of}
use Rattle.kit_ground.specs.Layout.{clock_of}
use Rattle.kit_lbts.specs.Progress.{due_in, view_after_grant, view_after}
use Rattle.kit_lbts.specs.Rule.{lbts_rule}
use Rattle.kit_lbts.specs.Agreement.{Agrees, AllAgree, agreeing_rule, blocks_from, blocks_in, place_at, progress_at, seat_of, transit_at, waiting_at}
use Rattle.kit_lbts.specs.AgreementLaws.{AsidesAgree}
use Rattle.kit_lbts.specs.PublishLaws.{GrantsKeep}
use Rattle.kit_lbts.proofs.Agreeing.{agrees_same, blocks_granted, due_ordered, whole_granted}
use Rattle.kit_lbts.proofs.GrantSteps as step
use Rattle.kit_lbts.proofs.Moments.{bounded}

abbrev P : Type 0
P = Place LbtsView

-- a world of the rule with agreement is one of the rule
pub without_agreement : (p : P) (m : Memory) (places : List P) → World agreeing_rule p m places → World lbts_rule p m places
without_agreement p m places w = record { floor = w.floor; client = w.client.floor; here = w.here }

some_place : {a b : P} → some a ≡ some b → a ≡ b
some_place {a} {b} h = cc

-- the request after a grant
request_after : (b : Bool) (a x r : Request) (o : Option Request) → o ≡ Some x → cond b (Some a) o ≡ Some r → cond b a x ≡ r
request_after true a x r o e h = step.some_is h
request_after false a x r o e h = step.some_is (sym e ∙ h)

module _ (p : P) (asked : p.client.request ≢ None) (none : p.client.outbox ≡ []) (lt : time_of p.client < p.client.federation.end) (below : due_of p.client < bound_of p.client)
    (loose : All (λ (e : Entry). e.message.time ≤ due_of p.client → e.buffer ≡ None) p.client.queue)
    (m : Memory) (places : List P) (w : World lbts_rule p m places) (agree : AllAgree places) where
  abbrev me : ℕ
  me = p.own.number

  abbrev f : Parts
  f = p.client.federation

  abbrev v : LbtsView
  v = p.client

  abbrev d : ℕ
  d = due_of p.client

  abbrev due : List Message
  due = due_in (due_of p.client) p.client.queue

  abbrev after : State
  after = after_block p.client.federation p.own.number (due_of p.client) p.client.state (due_in (due_of p.client) p.client.queue)

  abbrev then : LbtsView
  then = view_after_grant p.own.number (due_of p.client) p.client

  old : Agrees p.own.number p.client
  old = agree me p w.here

  pub within : p.own.number < length p.client.federation.federates
  within = step.within p asked none lt below loose m places w

  abbrev pub request : (x : Request) × (p.client.request ≡ Some x)
  request = step.request p asked none lt below loose m places w

  pub before : seat_after p.client.federation p.own.number (blocks_in p.own.number p.client) ≡ seat_of request.0 p.client
  before = old.seat request.0 request.1

  blocks_are : blocks_in p.own.number then ≡ blocks_in p.own.number p.client ++ block p.own.number (due_of p.client) due ∷ []
  blocks_are = ap (blocks_from me []) (step.entries_are p asked none lt below loose m places w) ∙ blocks_granted me d (entries_of v) due old.whole

  -- all that is timed below the known bound was received
  heard : HasAllBelow p.client.federation (bound_of p.client) p.own.number (messages_received p.client)
  heard =
      let sound = step.sound p asked none lt below loose m places w in
      let own : place_at p places me ≡ p = some_place (sym (at_or places me p (at_inside places me p w.here)) ∙ w.here) in
      subst (λ (x : P). HasAllBelow f (bound_of v) me (messages_received x.client)) own
      (all_is_heard_law f sound (bound_of v) (progress_at p places)
      (bounds_are_cuts_law f sound (bound_of v) (progress_at p places) (transit_at m p places) (waiting_at p places) (bounded p m places w agree)) me within)

  pub front : IsFront p.client.federation p.own.number (blocks_in p.own.number p.client ++ block p.own.number (due_of p.client) due ∷ [])
  front =
      let sound = step.sound p asked none lt below loose m places w in
      let done : List Block = blocks_in me v in
      let G : Seat → Type 0 = λ s. s.now < f.end → seat_due f (messages_received v) me s < bound_of v
      → IsFront f me (done ++ block me (seat_due f (messages_received v) me s) (due_messages f me (seat_due f (messages_received v) me s) s.got (messages_received v)) ∷ []) in
      let first : G (seat_of request.0 v) = subst G before (grants_agree_law f sound (bound_of v) me within (messages_received v) heard done old.front) in
      let due_is : d ≡ due_time request.0 (pending_messages f me (messages_delivered v) (messages_received v)) =
      step.due_is p asked none lt below loose m places w ∙ ap (due_time request.0) (w.client.each me p w.here).queue.is ∙ due_ordered request.0 (pending_messages f me (messages_delivered v) (messages_received v)) in
      let H : ℕ → Type 0 = λ x. x < bound_of v → IsFront f me (done ++ block me x (due_messages f me x (messages_delivered v) (messages_received v)) ∷ []) in
      let second : H d = subst H (sym due_is) (first lt) in
      subst (λ (l : List Message). IsFront f me (done ++ block me d l ∷ [])) (sym (step.due_messages_are p asked none lt below loose m places w)) (second below)

  still_asked : (b : Bool) (a : Request) → cond b (Some a) p.client.request ≡ None → ⊥
  still_asked true a is = true≢false (sym (ap is_new is))
  still_asked false a is = asked is

  pub agrees_granted : Agrees p.own.number (view_after_grant p.own.number (due_of p.client) p.client)
  agrees_granted = record {
    new = λ e. absurd (still_asked (nat_lt d f.end) (request_at after.wish d f.end) e);
    whole = ap (lines_told me) (step.entries_are p asked none lt below loose m places w) ∙ whole_granted me d (entries_of v) due old.whole ∙ ap lines_of (sym blocks_are);
    front = subst (IsFront f me) (sym blocks_are) front;
    seat = λ r e.
        let b : Block = block me d due in
        let req = request_after (nat_lt d f.end) (request_at after.wish d f.end) request.0 r v.request request.1 e in
        let time_is = step.time_is p asked none lt below loose m places w in
        let delivered_is = step.delivered_is p asked none lt below loose m places w in
        ap (seat_after f me) blocks_are
        ∙ from_append f me (seat_at_start f me) (blocks_in me v) (b ∷ [])
        ∙ ap (seat_with f me b) before
        ∙ (λ t. record { now = sym time_is t; request = req t; state = after; got = sym delivered_is t });
  }

-- ---- in the form that a call asks
pub asides_agree : AsidesAgree
asides_agree p a deed keeps tells m places w =
    let k = keeps m places (without_agreement p m places w) in
    record {
      client = record {
        floor = k.client;
        agree = each_after (λ i (r : P). Agrees i r.client) places p.own.number (place_after view_after (deed (m a)) p)
            (agrees_same p.own.number p.client (view_after (deed (m a)) p) (tells (m a)) (w.client.agree p.own.number p w.here))
            (λ i r other at. w.client.agree i r at);
      };
      guests = λ g sees. tt;
    }

pub grants_agree : GrantsKeep agreeing_rule
grants_agree p asked none lt below loose few m places w =
    let r = clock_of p.own.number in
    let deed : Deed = Published r (due_of p.client) in
    let k = step.grants_keep p asked none lt below loose few m places (without_agreement p m places w) in
    record {
      client = record {
        floor = k.client;
        agree = each_after (λ i (r : P). Agrees i r.client) places p.own.number (place_after view_after deed p)
            (agrees_granted p asked none lt below loose m places (without_agreement p m places w) w.client.agree)
            (λ i r other at. w.client.agree i r at);
      };
      guests = λ g sees. tt;
    }
