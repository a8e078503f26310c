-- A federate that is alone has nobody to post to, so its start leaves the outbox empty; and what a receipt leaves of a place.
use Rattle.std.proofs.Common.{◌≡◌, ◌≢◌, ℕ, ◌+◌, ◌-◌, ◌/◌, ◌%◌, ◌^◌, ◌<◌, ◌≤◌, ◌==◌, ◌&&◌, ◌⊎◌, inl, inr, not, nat_le, Bool, true, false, cond, List, [], ◌∷◌, ◌++◌, length, map, filter, refl, sym, ap, ◌∙◌, subst, arith}
use Rattle.std.specs.Prelude.{zero, suc, All, Option, Some, None}
use Rattle.std.specs.Int.{bit_at}
use Rattle.std.proofs.lemmas.List.{map-append}
use Rattle.std.proofs.lemmas.Option.{none-some}
use Rattle.std.proofs.lemmas.List.Elements.{All-head, All-tail, All-weaker}
use Rattle.kit_base.specs.declared.message.Message.{Message}
use Rattle.kit_ground.specs.declared.place.Place.{Place}
use Rattle.kit_model.specs.declared.journal.JournalEntry.{JournalEntry}
use Rattle.kit_model.specs.declared.journal.JournalEntry.TheVariants.{Received, Delivered, Granted}
use Rattle.kit_model.specs.declared.share.Share.{Share}
use Rattle.kit_model.specs.Journals.{now_of}
use Rattle.kit_rounds.specs.declared.contribution.Contribution.{Contribution}
use Rattle.kit_rules.specs.declared.scene.State.{State}
use Rattle.kit_rules.specs.declared.table.Request.{Request}
use Rattle.kit_rules.specs.declared.table.Trigger.TheVariants as trigger
use Rattle.kit_rules.specs.Delivery.{is_transported, receivers_of}
use Rattle.kit_rules.specs.Federation.{IsFederation}
use Rattle.kit_rules.specs.Parts.{Parts}
use Rattle.kit_rules.specs.Simulation.{Block}
use Rattle.kit_rules.specs.Step.{state_after}
use Rattle.kit_rules.proofs.Growth.{grows_by_step}
use Rattle.kit_lbts.specs.declared.view.Filled.{Filled}
use Rattle.kit_lbts.specs.declared.view.LbtsView.{LbtsView}
use Rattle.kit_lbts.specs.declared.view.Noted.{Noted}
use Rattle.kit_lbts.specs.declared.view.Posting.{Posting}
use Rattle.kit_lbts.specs.declared.view.Scheme.{Scheme}
use Rattle.kit_lbts.specs.Agreement.{blocks_from}
use Rattle.kit_lbts.specs.LedgerLaws.{ready_place}
use Rattle.kit_lbts.specs.SeatLaws.{IsInWorld}
use Rattle.kit_lbts.specs.Views.{entries_of, is_new, time_of}
use Rattle.kit_lbts.proofs.SeatFacts.{places_tell}
use Rattle.kit_lbts.proofs.Starting.{numbered_own}
use Rattle.kit_node.specs.Frames.{IsReceipt, IsSameSeat}
use Rattle.kit_node.specs.Receiving.{HasReceived, ReceivesOnly}
use Rattle.kit_node.specs.Turns.{grants_of, waiting}
use Rattle.kit_node.proofs.MirrorFrames.{ready_new, ready_same, receipts_keep_time}
use Rattle.kit_node.proofs.ReadyPlaces.{ready_by, ready_journal}
use Rattle.kit_rules.proofs.ReceiverMasks.{receivers_below, receivers_without}
use Rattle.kit_lbts.proofs.ReadyWorlds.{ready_asked}

abbrev P : Type 0
P = Place LbtsView

-- NOBODY receives what a federate sends that is alone
none_alone : (mask : ℕ) → mask < 2 → bit_at mask 0 ≡ 0 → mask ≡ 0
none_alone mask small even = omega (arith, small, even)

untransported : (f : Parts) → IsFederation f → length f.federates ≤ 1 → (m : Message) → m.sender ≡ 0 → is_transported f m ≡ false
untransported f sound one m own =
    let below = receivers_below f sound m.sender m.group in
    let few : receivers_of f m.sender m.group < 2 = by (length f.federates) one below in
    let none = receivers_without f m.sender m.group in
    let zero_ : receivers_of f m.sender m.group ≡ 0 = none_alone (receivers_of f m.sender m.group) few (ap (bit_at (receivers_of f m.sender m.group)) (sym own) ∙ none) in
    ap (λ (k : ℕ). nat_le m.time f.end && not (k == 0)) zero_ ∙ nothing_ (nat_le m.time f.end)
  where
    by : (n : ℕ) → n ≤ 1 → receivers_of f m.sender m.group < 2 ^ n → receivers_of f m.sender m.group < 2
    by zero le lt = omega (arith, lt)
    by (suc zero) le lt = omega (arith, lt)
    by (suc (suc n)) le lt = absurd (omega (arith, le))

    nothing_ : (b : Bool) → (b && false) ≡ false
    nothing_ true = refl
    nothing_ false = refl

none_kept : (p : Message → Bool) (ms : List Message) → All (λ (m : Message). p m ≡ false) ms → filter p ms ≡ []
none_kept p [] all = refl
none_kept p (m ∷ ms) all = ap (λ (b : Bool). cond b (m ∷ filter p ms) (filter p ms)) (All-head (λ (x : Message). p x ≡ false) m ms all) ∙ none_kept p ms (All-tail (λ (x : Message). p x ≡ false) m ms all)

pub sends_to_nobody : (p : P) → IsInWorld p → p.own.federates ≤ 1 → p.client.request ≡ None → (ready_place p).client.outbox ≡ []
sends_to_nobody p w one new =
    let t = places_tell p w in
    let f : Parts = p.client.federation in
    let me : ℕ = p.own.number in
    let grow = grows_by_step f me trigger.Start 0 0 p.client.state in
    let numbered = numbered_own me p.client.state.next grow.made grow.numbered in
    let zero_ : me ≡ 0 = (let th = t.there in omega (arith, th, one)) in
    let few : length f.federates ≤ 1 = (let e = t.federates in omega (arith, e, one)) in
    let sent : (state_after f me trigger.Start 0 0 p.client.state).sends ≡ grow.made = grow.sends ∙ ap (λ (l : List Message). l ++ grow.made) (t.sends.new new).0 in
    ap (λ (x : P). x.client.outbox) (ready_new p new)
    ∙ (ap (filter (is_transported f)) sent
    ∙ none_kept (is_transported f) grow.made (All-weaker (λ (m : Message). m.sender ≡ me) (λ (m : Message). is_transported f m ≡ false) (λ m own. untransported f t.federation few m (own ∙ zero_)) grow.made numbered))

-- WHAT IS KEPT of a view through the start and receipts
pub record Kept (v u : LbtsView) : Type 0 where
  pub federation : u.federation ≡ v.federation
  pub scheme : u.scheme ≡ v.scheme
  pub posted : u.posted ≡ v.posted
  pub filled : u.filled ≡ v.filled
  pub contributions : u.contributions ≡ v.contributions
  pub taken : u.taken ≡ v.taken
  pub results : u.results ≡ v.results

pub kept_ready : (p : P) → Kept p.client (ready_place p).client
kept_ready p = by (is_new p.client.request)
  where
    by : (b : Bool) → Kept p.client (ready_by p b).client
    by true = record { federation = refl; scheme = refl; posted = refl; filled = refl; contributions = refl; taken = refl; results = refl }
    by false = record { federation = refl; scheme = refl; posted = refl; filled = refl; contributions = refl; taken = refl; results = refl }

-- receipts are in no block
blocks_same : (j : ℕ) (got : List Message) (es : List JournalEntry) (made : List Noted) → All (λ (e : Noted). IsReceipt e.entry) made
    → blocks_from j got (es ++ map (λ (e : Noted). e.entry) made) ≡ blocks_from j got es
blocks_same j got [] [] all = refl
blocks_same j got [] (e ∷ made) all = one e.entry (All-head (λ (x : Noted). IsReceipt x.entry) e made all) (blocks_same j got [] made (All-tail (λ (x : Noted). IsReceipt x.entry) e made all))
  where
    one : (x : JournalEntry) → IsReceipt x → blocks_from j got (map (λ (e : Noted). e.entry) made) ≡ [] → blocks_from j got (x ∷ map (λ (e : Noted). e.entry) made) ≡ []
    one (Received m) is rest = rest
    one (Delivered t m) is rest = absurd is
    one (Granted t) is rest = absurd is
blocks_same j got (Received m ∷ es) made all = blocks_same j got es made all
blocks_same j got (Delivered t m ∷ es) made all = blocks_same j (got ++ m ∷ []) es made all
blocks_same j got (Granted t ∷ es) made all = ap (λ (l : List Block). record { time = t; federate = j; delivered = got } ∷ l) (blocks_same j [] es made all)

abbrev grants_from : ℕ → List Noted → ℕ
grants_from j ns = length (blocks_from j [] (map (λ (e : Noted). e.entry) ns))

-- THE RECEIPT leaves these
module _ (p q : P) (w : IsInWorld p) (h : HasReceived p q) where
  kept_by : ReceivesOnly (ready_place p) q → Kept p.client q.client
  kept_by l =
      let v = l.view in
      let k = kept_ready p in
      record {
        federation = ap (λ (x : LbtsView). x.federation) v ∙ k.federation;
        scheme = ap (λ (x : LbtsView). x.scheme) v ∙ k.scheme;
        posted = ap (λ (x : LbtsView). x.posted) v ∙ k.posted;
        filled = ap (λ (x : LbtsView). x.filled) v ∙ k.filled;
        contributions = ap (λ (x : LbtsView). x.contributions) v ∙ k.contributions;
        taken = ap (λ (x : LbtsView). x.taken) v ∙ k.taken;
        results = ap (λ (x : LbtsView). x.results) v ∙ k.results;
      }

  pub kept_received : Kept p.client q.client
  kept_received = elim h.leaves [
    | inl l ↦ kept_by l
    | inr e ↦ subst (λ (x : P). Kept p.client x.client) (sym e) (record { federation = refl; scheme = refl; posted = refl; filled = refl; contributions = refl; taken = refl; results = refl })
  ]

  pub seat_received : IsSameSeat p q
  seat_received = elim h.leaves [
    | inl l ↦ record { number = l.seat.number; federates = l.seat.federates; buffers = l.seat.buffers; steps = l.seat.steps; stops = l.seat.stops }
    | inr e ↦ subst (λ (x : P). IsSameSeat p x) (sym e) (record { number = refl; federates = refl; buffers = refl; steps = omega arith; stops = refl })
  ]

  pub stop_received : q.own.stop ≡ p.own.stop
  stop_received = elim h.leaves [ inl l ↦ l.stop | inr e ↦ ap (λ (x : P). x.own.stop) e ]

  pub time_received : time_of q.client ≡ time_of p.client
  time_received = elim h.leaves [
    | inl l ↦ receipts_keep_time (ready_place p).client q.client l.journal ∙ ap (λ (ns : List Noted). now_of (map (λ (e : Noted). e.entry) ns)) (ready_journal p)
    | inr e ↦ ap (λ (x : P). time_of x.client) e
  ]

  pub grants_received : grants_of q ≡ grants_of p
  grants_received = elim h.leaves [
    | inl l ↦
        (λ i. grants_from (l.seat.number i) (l.journal.journal i))
        ∙ (ap (λ (es : List JournalEntry). length (blocks_from p.own.number [] es)) (map-append (λ (e : Noted). e.entry) (ready_place p).client.journal l.journal.made)
        ∙ (ap (λ (bs : List Block). length bs) (blocks_same p.own.number [] (entries_of (ready_place p).client) l.journal.made l.journal.receipts)
        ∙ ap (grants_from p.own.number) (ready_journal p)))
    | inr e ↦ ap grants_of e
  ]

  outbox_alone : p.own.federates ≤ 1 → p.client.outbox ≡ (ready_place p).client.outbox
  outbox_alone one = by p.client.request refl
    where
      by : (o : Option Request) → p.client.request ≡ o → p.client.outbox ≡ (ready_place p).client.outbox
      by None new = ((places_tell p w).sends.new new).3 ∙ sym (sends_to_nobody p w one new)
      by (Some r) old = sym (ap (λ (x : P). x.client.outbox) (ready_same p (λ e. none-some r (sym e ∙ old))))

  -- its outbox is what waits, then
  pub outbox_received : q.client.outbox ≡ waiting p
  outbox_received = elim h.leaves [
    | inl l ↦ ap (λ (x : LbtsView). x.outbox) l.view
    | inr e ↦ ap (λ (x : P). x.client.outbox) e ∙ outbox_alone (h.alone e)
  ]

  pub waits_received : q.client.outbox ≡ (ready_place q).client.outbox
  waits_received = elim h.leaves [
    | inl l ↦ sym (ap (λ (x : P). x.client.outbox) (ready_same q (λ none. ready_asked p (sym (ap (λ (x : LbtsView). x.request) l.view) ∙ none))))
    | inr e ↦ subst (λ (x : P). x.client.outbox ≡ (ready_place x).client.outbox) (sym e) (outbox_alone (h.alone e))
  ]

  -- and where something waits the federate has started
  pub asked_received : q.client.outbox ≢ [] → q.client.request ≢ None
  asked_received some_ none = some_ (outbox_new)
    where
      from_ready : ReceivesOnly (ready_place p) q → ⊥
      from_ready l = ready_asked p (sym (ap (λ (x : LbtsView). x.request) l.view) ∙ none)

      from_same : q ≡ p → q.client.outbox ≡ []
      from_same e = ap (λ (x : P). x.client.outbox) e ∙ ((places_tell p w).sends.new (ap (λ (x : P). x.client.request) (sym e) ∙ none)).3

      outbox_new : q.client.outbox ≡ []
      outbox_new = elim h.leaves [ inl l ↦ absurd (from_ready l) | inr e ↦ from_same e ]
