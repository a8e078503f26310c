-- What the parts of a turn come to, one after another.
use Rattle.std.proofs.Common.{◌≡◌, ◌≢◌, ℕ, ◌+◌, ◌-◌, ◌/◌, ◌%◌, ◌^◌, ◌<◌, ◌≤◌, ◌||◌, ◌⊎◌, inl, inr, nat_lt, Bool, true, false, List, [], ◌∷◌, ◌++◌, length, take, drop, map, refl, sym, ap, ◌∙◌, subst, arith, if◌then◌else◌}
use Rattle.std.specs.Prelude.{All, IfSome, Option, Some, None, count_by, slice_index, slice_index_or}
use Rattle.std.specs.Int.{bit_at}
use Rattle.std.proofs.lemmas.Bool.{cases_lt, ltb-false, ltb-true, or_cases, true≢false}
use Rattle.std.proofs.lemmas.List.{append-nil, drop_all, length-append, length_push}
use Rattle.std.proofs.lemmas.List.Elements.{All-filter}
use Rattle.std.proofs.lemmas.Option.{none-some}
use Rattle.kit_base.specs.declared.message.Message.{Message}
use Rattle.kit_ground.specs.declared.place.Place.{Place}
use Rattle.kit_model.specs.declared.journal.JournalEntry.{JournalEntry}
use Rattle.kit_model.specs.declared.share.Share.{Share}
use Rattle.kit_queue.specs.declared.entry.Entry.{Entry}
use Rattle.kit_rounds.specs.declared.contribution.Contribution.{Contribution}
use Rattle.kit_rules.specs.declared.table.Request.{Request}
use Rattle.kit_rules.specs.Simulation.{Block}
use Rattle.kit_lbts.specs.declared.view.LbtsView.{LbtsView}
use Rattle.kit_lbts.specs.declared.view.Noted.{Noted}
use Rattle.kit_lbts.specs.declared.view.Posting.{Posting}
use Rattle.kit_lbts.specs.Agreement.{blocks_from}
use Rattle.kit_lbts.specs.AgreementLaws.{MayBeGranted}
use Rattle.kit_lbts.specs.LedgerLaws.{ready_place}
use Rattle.kit_lbts.specs.Progress.{due_in, is_under_way}
use Rattle.kit_lbts.specs.Promises.{bound_in, bound_of}
use Rattle.kit_lbts.specs.SeatLaws.{IsInWorld}
use Rattle.kit_lbts.specs.Views.{due_of, entries_of, is_in_hand, is_new, is_spent, time_of}
use Rattle.kit_lbts.proofs.Agreeing.{blocks_granted}
use Rattle.kit_lbts.proofs.GrantAgreement.{without_agreement}
use Rattle.kit_lbts.proofs.GrantSteps.{entries_are}
use Rattle.kit_lbts.proofs.SeatFacts.{places_tell}
use Rattle.kit_node.specs.Frames.{IsOther, IsSameSeat, IsSince, last_count}
use Rattle.kit_node.specs.Granting.{HasGranted, MayGrant}
use Rattle.kit_node.specs.Mirrors.{IsCalm}
use Rattle.kit_node.specs.Receiving.{HasReceived, IsCollected, IsSilent}
use Rattle.kit_node.specs.Reducing.{HasReduced, IsAwaited, ShowsReached}
use Rattle.kit_node.specs.Seats.{IsWithinEnd}
use Rattle.kit_node.specs.Sending.{HasSent, IsFull, IsHeldUp, Waits, copies_of_all}
use Rattle.kit_node.specs.Settling.{HasSettled, IsSettled}
use Rattle.kit_node.specs.Turns.{ArePosted, GrantsGoOn, HasGoneThrough, HasWorked, HoldsItsEntries, IsIdle, IsPosted, IsStill, SendsGoOn, StillWait, grants_of, waiting}
use Rattle.kit_node.proofs.Alone.{Kept, grants_received, kept_received, outbox_received, seat_received, stop_received, time_received}
use Rattle.kit_node.proofs.GrantMirrors.{granted_place, slot_granted}
use Rattle.kit_node.proofs.Idling.{posts_more, settles_change}
use Rattle.kit_node.proofs.MirrorFrames.{ready_same}
use Rattle.kit_node.proofs.MirrorSettles.{all_settled}
use Rattle.kit_node.proofs.ReadyPlaces.{ready_by}

abbrev P : Type 0
P = Place LbtsView

-- WHAT STAYS of a seat in the parts after the posts
pub record SeatStays (p q : P) : Type 0 where
  pub number : q.own.number ≡ p.own.number
  pub federates : q.own.federates ≡ p.own.federates
  pub buffers : q.own.buffers ≡ p.own.buffers
  pub steps : p.own.steps ≤ q.own.steps
  pub stops : q.own.stops ≡ p.own.stops
  pub stop : q.own.stop ≡ p.own.stop
  pub counts : q.own.counts ≡ p.own.counts
  pub mail : q.own.mail ≡ p.own.mail
  pub collects : q.own.collects ≡ p.own.collects

pub stays_on : (p q r : P) → SeatStays p q → SeatStays q r → SeatStays p r
stays_on p q r a b = record {
  number = b.number ∙ a.number;
  federates = b.federates ∙ a.federates;
  buffers = b.buffers ∙ a.buffers;
  steps = let x = a.steps in let y = b.steps in omega (arith, x, y);
  stops = b.stops ∙ a.stops;
  stop = b.stop ∙ a.stop;
  counts = b.counts ∙ a.counts;
  mail = b.mail ∙ a.mail;
  collects = b.collects ∙ a.collects;
}

-- and of what its view says, but for the rounds and the outbox
pub record ViewStays (v u : LbtsView) : Type 0 where
  pub federation : u.federation ≡ v.federation
  pub scheme : u.scheme ≡ v.scheme
  pub journal : u.journal ≡ v.journal
  pub posted : u.posted ≡ v.posted
  pub filled : u.filled ≡ v.filled

-- A REDUCTION
view_ready : (p : P) → ViewStays p.client (ready_place p).client
view_ready p = by (is_new p.client.request)
  where
    by : (b : Bool) → ViewStays p.client (ready_by p b).client
    by true = record { federation = refl; scheme = refl; journal = refl; posted = refl; filled = refl }
    by false = record { federation = refl; scheme = refl; journal = refl; posted = refl; filled = refl }

pub queue_ready : (p : P) → (ready_place p).client.queue ≡ p.client.queue
queue_ready p = by (is_new p.client.request)
  where
    by : (b : Bool) → (ready_by p b).client.queue ≡ p.client.queue
    by true = refl
    by false = refl

module _ (did : Bool) (p q : P) (h : HasReduced did p q) where
  pub seat_reduced : SeatStays p q
  seat_reduced = let l = h.leaves in record { number = l.number; federates = l.federates; buffers = l.buffers; steps = l.steps; stops = l.stops; stop = l.stop; counts = l.counts; mail = l.mail; collects = l.collects }

  pub view_reduced : ViewStays p.client q.client
  view_reduced = elim h.view [
    | inl e ↦ subst (λ (x : LbtsView). ViewStays p.client x) (sym e) (record { federation = refl; scheme = refl; journal = refl; posted = refl; filled = refl })
    | inr e ↦
        let r = view_ready p in
        record {
          federation = ap (λ (x : LbtsView). x.federation) e ∙ r.federation;
          scheme = ap (λ (x : LbtsView). x.scheme) e ∙ r.scheme;
          journal = ap (λ (x : LbtsView). x.journal) e ∙ r.journal;
          posted = ap (λ (x : LbtsView). x.posted) e ∙ r.posted;
          filled = ap (λ (x : LbtsView). x.filled) e ∙ r.filled;
        }
  ]

  pub queue_reduced : q.client.queue ≡ p.client.queue
  queue_reduced = elim h.view [ inl e ↦ ap (λ (x : LbtsView). x.queue) e | inr e ↦ ap (λ (x : LbtsView). x.queue) e ∙ queue_ready p ]

  pub outbox_reduced : p.client.request ≢ None → q.client.outbox ≡ p.client.outbox
  outbox_reduced asked = elim h.view [ inl e ↦ ap (λ (x : LbtsView). x.outbox) e | inr e ↦ ap (λ (x : LbtsView). x.outbox) e ∙ ap (λ (x : P). x.client.outbox) (ready_same p asked) ]

-- A SETTLING
module _ (bound : ℕ) (did : Bool) (p q : P) (h : HasSettled bound did p q) where
  pub seat_settled : SeatStays p q
  seat_settled = record { number = h.seat.number; federates = h.seat.federates; buffers = h.seat.buffers; steps = h.seat.steps; stops = h.seat.stops; stop = h.stop; counts = h.counts; mail = h.mail; collects = h.collects }

  pub view_settled : ViewStays p.client q.client
  view_settled =
      let e = h.view in record {
        federation = ap (λ (x : LbtsView). x.federation) e;
        scheme = ap (λ (x : LbtsView). x.scheme) e;
        journal = ap (λ (x : LbtsView). x.journal) e;
        posted = ap (λ (x : LbtsView). x.posted) e;
        filled = ap (λ (x : LbtsView). x.filled) e;
      }

-- A GRANT, or none
abbrev NoGrant : P → P → Type 0
NoGrant p q = (q ≡ p) × (MayGrant p.client → ⊥)

abbrev OneGrant : P → P → Type 0
OneGrant p q = MayBeGranted p × (q ≡ granted_place p)

granted_or_not : (did : Bool) (p q : P) → HasGranted did p q → NoGrant p q ⊎ OneGrant p q
granted_or_not true p q h = inr (h.one refl)
granted_or_not false p q h = inl (h.none refl)

-- what a grant leaves in either case
pub record GrantLeaves (p q : P) : Type 0 where
  pub seat : SeatStays p q
  pub registers : q.own.registers ≡ p.own.registers
  pub holds : q.own.stock.holds ≡ p.own.stock.holds
  pub federation : q.client.federation ≡ p.client.federation
  pub scheme : q.client.scheme ≡ p.client.scheme
  pub posted : q.client.posted ≡ p.client.posted
  pub contributions : q.client.contributions ≡ p.client.contributions
  pub taken : q.client.taken ≡ p.client.taken
  pub results : q.client.results ≡ p.client.results

leaves_none : (p : P) → GrantLeaves p p
leaves_none p = record {
  seat = record { number = refl; federates = refl; buffers = refl; steps = omega arith; stops = refl; stop = refl; counts = refl; mail = refl; collects = refl };
  registers = refl;
  holds = refl;
  federation = refl;
  scheme = refl;
  posted = refl;
  contributions = refl;
  taken = refl;
  results = refl;
}

leaves_one : (p : P) → GrantLeaves p (granted_place p)
leaves_one p = record {
  seat = record { number = refl; federates = refl; buffers = refl; steps = omega arith; stops = refl; stop = refl; counts = refl; mail = refl; collects = refl };
  registers = refl;
  holds = refl;
  federation = refl;
  scheme = refl;
  posted = refl;
  contributions = refl;
  taken = refl;
  results = refl;
}

pub grant_leaves : (did : Bool) (p q : P) → HasGranted did p q → GrantLeaves p q
grant_leaves did p q h = elim (granted_or_not did p q h) [ inl t ↦ subst (GrantLeaves p) (sym t.0) (leaves_none p) | inr t ↦ subst (GrantLeaves p) (sym t.1) (leaves_one p) ]

-- a grant is one block more
still_asked : (b : Bool) (a : Request) (o : Option Request) → o ≢ None → (if b then Some a else o) ≡ None → ⊥
still_asked true a o asked e = none-some a (sym e)
still_asked false a o asked e = asked e

grants_one : (p : P) → IsInWorld p → MayBeGranted p → grants_of (granted_place p) ≡ grants_of p + 1
grants_one p w may =
    let d : ℕ = due_of p.client in
    let due = due_in (due_of p.client) p.client.queue in
    let es = entries_are p may.started may.posted may.early may.below may.loose w.0 w.1 (without_agreement p w.0 w.1 w.2) in
    let whole = (places_tell p w).agrees.whole in
    ap (λ (l : List JournalEntry). length (blocks_from p.own.number [] l)) es
    ∙ (ap (λ (l : List Block). length l) (blocks_granted p.own.number d (entries_of p.client) due whole)
    ∙ length_push (blocks_from p.own.number [] (entries_of p.client)) (record { time = d; federate = p.own.number; delivered = due }))

reached_granted : (p : P) → ShowsReached p → ShowsReached (granted_place p)
reached_granted p h stage lt does enough some_ = ap (λ (x : ℕ). x / 2 ^ 61) (slot_granted p (length p.client.contributions) stage lt) ∙ h stage lt does enough some_

settled_granted : (p : P) → IsSettled p.client → IsSettled (granted_place p).client
settled_granted p h = All-filter (λ (e : Entry). nat_lt (due_of p.client) e.message.time) (λ (e : Entry). e.message.time < bound_of p.client → e.buffer ≡ None) p.client.queue h

-- WHAT IS HELD, where nothing is in hand or spent
pub holds_entries : (q : P) → IsInWorld q → IsCalm q.client → HoldsItsEntries q
holds_entries q w calm i k li lk =
    let e = (places_tell q w).holdings.each i k li lk in
    let a = ap (λ l. count_by (is_in_hand i k) l) calm.in_hand in
    let b = ap (λ l. count_by (is_spent i k) l) calm.spent in
    omega (arith, e, a, b)

-- THE PARTS in a row: what was received, posted, learnt, settled and granted
module _ (posted reduced released granted : Bool) (p p1 p2 p3 p4 q : P) (w : IsInWorld p) (w2 : IsInWorld p2) (w4 : IsInWorld p4) (wq : IsInWorld q)
    (hr : HasReceived p p1) (hs : IsPosted posted p1 p2) (hd : HasReduced reduced p2 p3) (hl : HasSettled (bound_of p3.client) released p3 p4) (hg : HasGranted granted p4 q) where
  kept : Kept p.client p1.client
  kept = kept_received p p1 w hr

  abbrev sent : HasSent posted hs.waits p1 p2
  sent = hs.sent

  abbrev count : ℕ
  count = sent.count

  leaves : GrantLeaves p4 q
  leaves = grant_leaves granted p4 q hg

  seat23 : SeatStays p2 p3
  seat23 = seat_reduced reduced p2 p3 hd

  seat34 : SeatStays p3 p4
  seat34 = seat_settled (bound_of p3.client) released p3 p4 hl

  seat24 : SeatStays p2 p4
  seat24 = stays_on p2 p3 p4 seat23 seat34

  seat2q : SeatStays p2 q
  seat2q = stays_on p2 p4 q seat24 leaves.seat

  view23 : ViewStays p2.client p3.client
  view23 = view_reduced reduced p2 p3 hd

  view34 : ViewStays p3.client p4.client
  view34 = view_settled (bound_of p3.client) released p3 p4 hl

  pub seat_worked : IsSameSeat p q
  seat_worked =
      let a = seat_received p p1 w hr in
      let b = sent.done.seat in
      let c = seat2q in
      record {
        number = c.number ∙ (b.number ∙ a.number);
        federates = c.federates ∙ (b.federates ∙ a.federates);
        buffers = c.buffers ∙ (b.buffers ∙ a.buffers);
        steps = let x = a.steps in let y = b.steps in let z = c.steps in omega (arith, x, y, z);
        stops = c.stops ∙ (b.stops ∙ a.stops);
      }

  pub stop_worked : q.own.stop ≡ p.own.stop
  stop_worked = seat2q.stop ∙ (sent.done.stop ∙ stop_received p p1 w hr)

  -- the mail
  abbrev mailed : P
  mailed = record p1 { own = record p1.own { number = q.own.number; federates = q.own.federates; buffers = q.own.buffers; mail = q.own.mail; collects = q.own.collects } }

  mailed_is : p1 ≡ mailed
  mailed_is =
      let b = sent.done.seat in
      let c = seat2q in
      λ i. record p1 {
        own = record p1.own {
          number = sym (c.number ∙ b.number) i;
          federates = sym (c.federates ∙ b.federates) i;
          buffers = sym (c.buffers ∙ b.buffers) i;
          mail = sym (c.mail ∙ sent.done.mail) i;
          collects = sym (c.collects ∙ sent.done.collects) i;
        };
      }

  mail_worked : (i : ℕ) → IsOther q i → IsCollected i p q
  mail_worked = subst (λ (x : P). (i : ℕ) → IsOther x i → IsCollected i p x) mailed_is hr.collected

  silent_back : IsSilent q → IsSilent p1
  silent_back s = subst (λ (x : P). IsSilent x) (sym mailed_is) s

  pub silent_worked : IsSilent p1 → IsSilent q
  silent_worked s = subst (λ (x : P). IsSilent x) mailed_is s

  -- the posts
  copies_same : (ms : List Message) → copies_of_all p1.client p1.own.federates ms ≡ copies_of_all p.client p.own.federates ms
  copies_same ms =
      λ i. copies_of_all (record p.client { federation = kept.federation i; contributions = kept.contributions i }) ((seat_received p p1 w hr).federates i) ms

  posted_worked : ArePosted count p q
  posted_worked =
      leaves.posted
      ∙ (view34.posted
      ∙ (view23.posted
      ∙ (sent.done.posted
      ∙ ((λ i. kept.posted i ++ copies_same (take count p1.client.outbox) i)
      ∙ ap (λ (ms : List Message). p.client.posted ++ copies_of_all p.client p.own.federates (take count ms)) (outbox_received p p1 w hr)))))

  -- a message that waits
  module _ (number : ℕ) (waits : Waits number p1 p2) where
    asked : p2.client.request ≢ None
    asked none = waits.some (((places_tell p2 w2).sends.new none).3)

    outbox4 : p4.client.outbox ≡ p2.client.outbox
    outbox4 = ap (λ (x : LbtsView). x.outbox) hl.view ∙ outbox_reduced reduced p2 p3 hd asked

    no_grant : NoGrant p4 q
    no_grant = elim (granted_or_not granted p4 q hg) [ inl t ↦ t | inr t ↦ absurd (waits.some (sym outbox4 ∙ t.0.posted)) ]

    some_left : count < length (waiting p)
    some_left =
        let l = ap (λ (ms : List Message). length ms) (outbox_received p p1 w hr) in
        elim (cases_lt count (length p1.client.outbox)) [
          | inl less ↦ omega (arith, less, l)
          | inr all_ ↦ absurd (waits.some (sent.done.left ∙ drop_all count p1.client.outbox all_))
        ]

    abbrev counted : P
    counted = record p2 { own = record p2.own { buffers = q.own.buffers; counts = q.own.counts }; client = record p2.client { journal = q.client.journal; filled = q.client.filled } }

    counted_is : p2 ≡ counted
    counted_is =
        let c = seat2q in
        let still = no_grant.0 in
        let journal : q.client.journal ≡ p2.client.journal = ap (λ (x : P). x.client.journal) still ∙ (view34.journal ∙ view23.journal) in
        let filled : q.client.filled ≡ p2.client.filled = ap (λ (x : P). x.client.filled) still ∙ (view34.filled ∙ view23.filled) in
        λ i. record p2 { own = record p2.own { buffers = sym c.buffers i; counts = sym c.counts i }; client = record p2.client { journal = sym journal i; filled = sym filled i } }

    full_worked : IsFull p q
    full_worked k lt =
        let f = subst (λ (x : P). IsFull p1 x) counted_is waits.full k lt in
        let s = (seat_received p p1 w hr).steps in
        (omega (arith, f.0, s), f.1)

    held_back : IsHeldUp q → IsHeldUp p2
    held_back h = subst (λ (x : P). IsHeldUp x) (sym counted_is) h

    still_waits : hs.waits ≡ Some number → StillWait count p q
    still_waits is = record {
      some = some_left;
      left = ap (λ (x : P). x.client.outbox) no_grant.0 ∙ (outbox4 ∙ (sent.done.left ∙ ap (drop count) (outbox_received p p1 w hr)));
      full = full_worked;
      hope = λ h. none-some number (sym (hs.hope (held_back h)) ∙ is);
    }

  sends_worked : SendsGoOn p q
  sends_worked = record { count = count; posted = posted_worked; others = by hs.waits refl }
    where
      next_of : (o : Option ℕ) (number : ℕ) → hs.waits ≡ o → o ≡ Some number → Waits number p1 p2
      next_of o number is some_ = subst (λ (x : Option ℕ). IfSome x (λ (k : ℕ). Waits k p1 p2)) (is ∙ some_) sent.next

      by : (o : Option ℕ) → hs.waits ≡ o → (count ≡ length (waiting p)) ⊎ StillWait count p q
      by None is = inl (sent.all is ∙ ap (λ (ms : List Message). length ms) (outbox_received p p1 w hr))
      by (Some number) is = inr (still_waits number (next_of (Some number) number is refl) is)

  -- the rounds
  abbrev learnt : P
  learnt = record p3 {
    own = record p3.own { number = q.own.number; federates = q.own.federates; registers = q.own.registers };
    client = record p3.client { federation = q.client.federation; scheme = q.client.scheme; contributions = q.client.contributions; taken = q.client.taken; results = q.client.results };
  }

  learnt_is : p3 ≡ learnt
  learnt_is =
      let c = stays_on p3 p4 q seat34 leaves.seat in
      let e = hl.view in
      let federation : q.client.federation ≡ p3.client.federation = leaves.federation ∙ ap (λ (x : LbtsView). x.federation) e in
      let scheme : q.client.scheme ≡ p3.client.scheme = leaves.scheme ∙ ap (λ (x : LbtsView). x.scheme) e in
      let contributions : q.client.contributions ≡ p3.client.contributions = leaves.contributions ∙ ap (λ (x : LbtsView). x.contributions) e in
      let taken : q.client.taken ≡ p3.client.taken = leaves.taken ∙ ap (λ (x : LbtsView). x.taken) e in
      let results : q.client.results ≡ p3.client.results = leaves.results ∙ ap (λ (x : LbtsView). x.results) e in
      let registers : q.own.registers ≡ p3.own.registers = leaves.registers ∙ hl.registers in
      λ i. record p3 {
        own = record p3.own { number = sym c.number i; federates = sym c.federates i; registers = sym registers i };
        client = record p3.client { federation = sym federation i; scheme = sym scheme i; contributions = sym contributions i; taken = sym taken i; results = sym results i };
      }

  -- what was known of the rounds before the reduction is what was known at first
  results2 : p2.client.results ≡ p.client.results
  results2 = ap (λ (x : LbtsView). x.results) sent.done.view ∙ kept.results

  contributions2 : p2.client.contributions ≡ p.client.contributions
  contributions2 = ap (λ (x : LbtsView). x.contributions) sent.done.view ∙ kept.contributions

  taken2 : p2.client.taken ≡ p.client.taken
  taken2 = ap (λ (x : LbtsView). x.taken) sent.done.view ∙ kept.taken

  federation2 : p2.client.federation ≡ p.client.federation
  federation2 = ap (λ (x : LbtsView). x.federation) sent.done.view ∙ kept.federation

  abbrev RoundsGoOn : P → Type 0
  RoundsGoOn x = (is_under_way x.client ≡ true) ⊎ (length p.client.results < length x.client.results) ⊎ (x.client.federation.end < bound_of x.client)

  rounds_worked : RoundsGoOn q
  rounds_worked = subst RoundsGoOn learnt_is (subst (λ (n : ℕ). (is_under_way p3.client ≡ true) ⊎ (n < length p3.client.results) ⊎ (p3.client.federation.end < bound_of p3.client)) (ap (λ (l : List Share). length l) results2) hd.rounds)

  steps_worked : p.own.steps ≤ p2.own.steps
  steps_worked = let a = (seat_received p p1 w hr).steps in let b = sent.done.seat.steps in omega (arith, a, b)

  looks_worked : is_under_way q.client ≡ true → IsAwaited p q
  looks_worked on =
      let a = subst (λ (x : P). is_under_way x.client ≡ true → IsAwaited p2 x) learnt_is hd.looks on in
      let s = steps_worked in
      record { more = a.more; since = let t = a.since in omega (arith, t, s); unshown = a.unshown }

  -- the slots
  abbrev showing : P
  showing = record p3 {
    own = record p3.own { number = p4.own.number; federates = p4.own.federates; shown = p4.own.shown };
    client = record p3.client { scheme = p4.client.scheme; contributions = p4.client.contributions; taken = p4.client.taken; results = p4.client.results };
  }

  showing_is : p3 ≡ showing
  showing_is =
      let c = seat34 in
      let e = hl.view in
      λ i. record p3 {
        own = record p3.own { number = sym c.number i; federates = sym c.federates i; shown = sym hl.shown i };
        client = record p3.client { scheme = (sym e i).scheme; contributions = (sym e i).contributions; taken = (sym e i).taken; results = (sym e i).results };
      }

  slots4 : ShowsReached p4
  slots4 = subst (λ (x : P). ShowsReached x) showing_is hd.shown

  slots_worked : ShowsReached q
  slots_worked = elim (granted_or_not granted p4 q hg) [ inl t ↦ subst (λ (x : P). ShowsReached x) (sym t.0) slots4 | inr t ↦ subst (λ (x : P). ShowsReached x) (sym t.1) (reached_granted p4 slots4) ]

  pub settled4 : IsSettled p4.client
  settled4 =
      let e = hl.view in
      subst (λ (x : ℕ × List Entry). All (λ (y : Entry). y.message.time < x.0 → y.buffer ≡ None) x.1) (λ i. (bound_of (sym e i), (sym e i).queue)) (all_settled (bound_of p3.client) p3.client.queue)

  settled_worked : IsSettled q.client
  settled_worked = elim (granted_or_not granted p4 q hg) [ inl t ↦ subst (λ (x : P). IsSettled x.client) (sym t.0) settled4 | inr t ↦ subst (λ (x : P). IsSettled x.client) (sym t.1) (settled_granted p4 settled4) ]

  -- the grants
  grants4 : grants_of p4 ≡ grants_of p
  grants4 =
      (λ i. length (blocks_from (seat24.number i) [] (map (λ (e : Noted). e.entry) ((view34.journal ∙ view23.journal) i))))
      ∙ ((λ i. length (blocks_from (sent.done.seat.number i) [] (map (λ (e : Noted). e.entry) (sent.done.view i).journal)))
      ∙ grants_received p p1 w hr)

  grants_worked : GrantsGoOn p q
  grants_worked = elim (granted_or_not granted p4 q hg) [
    | inl t ↦ inr (ap grants_of t.0 ∙ grants4, λ may. t.1 (subst (λ (x : P). MayGrant x.client) t.0 may))
    | inr t ↦ inl (ap grants_of t.1 ∙ (grants_one p4 w4 t.0 ∙ ap (λ (n : ℕ). n + 1) grants4))
  ]

  pub grants_if : (granted ≡ false → grants_of q ≡ grants_of p) × (granted ≡ true → grants_of q ≡ grants_of p + 1)
  grants_if = (
    λ off. ap grants_of (hg.none off).0 ∙ grants4,
    λ on. let t = hg.one on in ap grants_of t.1 ∙ (grants_one p4 w4 t.0 ∙ ap (λ (n : ℕ). n + 1) grants4),
  )

  start4 : p4.client.request ≢ None
  start4 e = hd.started (sym (ap (λ (x : LbtsView). x.request) hl.view) ∙ e)

  start_worked : q.client.request ≢ None
  start_worked = elim (granted_or_not granted p4 q hg) [
    | inl t ↦ subst (λ (x : P). x.client.request ≢ None) (sym t.0) start4
    | inr t ↦ subst (λ (x : P). x.client.request ≢ None) (sym t.1) (still_asked (nat_lt (due_of p4.client) p4.client.federation.end) _ p4.client.request start4)
  ]

  pub gone_through : IsCalm q.client → HasGoneThrough p q
  gone_through calm = record {
    start = start_worked;
    mail = mail_worked;
    received = (calm.in_hand, calm.spent);
    sends = sends_worked;
    rounds = rounds_worked;
    looks = looks_worked;
    slots = slots_worked;
    settled = settled_worked;
    held = holds_entries q wq calm;
    grants = grants_worked;
  }

  pub few_rounds : length q.client.contributions ≤ length p.client.contributions + 1
  few_rounds =
      let a = ap (λ (x : P). length x.client.contributions) learnt_is in
      let b = ap (λ l. length l) contributions2 in
      let c = hd.one in
      omega (arith, a, b, c)

  -- a round is under way only where the bound is not beyond the end
  pub within_worked : IsWithinEnd p.client → IsWithinEnd q.client
  within_worked before = subst (λ (x : P). IsWithinEnd x.client) learnt_is within3
    where
      same2 : bound_of p2.client ≡ bound_of p.client
      same2 = ap bound_in results2

      way2 : is_under_way p2.client ≡ is_under_way p.client
      way2 = λ i. is_under_way (record p2.client { contributions = contributions2 i; results = results2 i })

      within2 : (is_under_way p2.client ≡ true) ⊎ (bound_of p2.client ≤ p2.client.federation.end) → bound_of p2.client ≤ p2.client.federation.end
      within2 h = elim h [
        | inl on ↦ (let b = before (sym way2 ∙ on) in let e = ap (λ f. f.end) federation2 in let s = same2 in omega (arith, b, e, s))
        | inr le ↦ le
      ]

      within3 : IsWithinEnd p3.client
      within3 on =
          let h = hd.within on in
          let b = within2 h.1 in
          let e = ap (λ f. f.end) view23.federation in
          let s = h.0 in
          omega (arith, b, e, s)

  -- IDLE
  count_none : posted ≡ false → count ≡ 0
  count_none off = let h = ltb-false 0 count (sym sent.some ∙ off) in omega (arith, h)

  posted_nothing : posted ≡ false → q.client.posted ≡ p.client.posted
  posted_nothing off =
      posted_worked
      ∙ (ap (λ (c : ℕ). p.client.posted ++ copies_of_all p.client p.own.federates (take c (waiting p))) (count_none off)
      ∙ append-nil p.client.posted)

  learnt_nothing : reduced ≡ false → (q.client.contributions ≡ p.client.contributions) × (q.client.taken ≡ p.client.taken) × (q.client.results ≡ p.client.results)
  learnt_nothing off =
      let e = hd.nothing off in
      let back = sym learnt_is in (
        ap (λ (x : P). x.client.contributions) back ∙ (ap (λ (x : LbtsView). x.contributions) e ∙ contributions2),
        ap (λ (x : P). x.client.taken) back ∙ (ap (λ (x : LbtsView). x.taken) e ∙ taken2),
        ap (λ (x : P). x.client.results) back ∙ (ap (λ (x : LbtsView). x.results) e ∙ results2),
      )

  -- what is held is as it was once the mail was collected, but for what was settled
  holds4 : q.own.stock.holds ≡ p4.own.stock.holds
  holds4 = leaves.holds

  holds3 : p3.own.stock.holds ≡ p1.own.stock.holds
  holds3 = ap (λ s. s.holds) hd.leaves.stock ∙ sent.done.holds

  pub idle_worked : posted ≡ false → reduced ≡ false → released ≡ false → granted ≡ false → p.client.request ≢ None → IsSilent p1 → p1.own.stock.holds ≡ p.own.stock.holds → IsIdle p q
  idle_worked post reduce release grant asked silent still =
      let l = learnt_nothing reduce in
      record {
        started = asked;
        mail = silent_worked silent;
        posts = posted_nothing post;
        contributions = l.0;
        taken = l.1;
        results = l.2;
        releases = holds4 ∙ (ap (λ (x : P). x.own.stock.holds) (hl.none release) ∙ (holds3 ∙ still));
        grants = grants_if.0 grant;
      }

  -- and not
  posted_something : IsInWorld p1 → posted ≡ true → IsIdle p q → ⊥
  posted_something w1 on idle =
      let some_ = ltb-true 0 count (sym sent.some ∙ on) in
      let v : LbtsView = record p.client { federation = p1.client.federation } in
      let more = posts_more p1 w1 v refl count some_ sent.done.few in
      let federates = (seat_received p p1 w hr).federates in
      let same : copies_of_all v p1.own.federates (take count p1.client.outbox) ≡ copies_of_all p.client p.own.federates (take count (waiting p)) =
      λ i. copies_of_all (record p.client { federation = kept.federation i }) (federates i) (take count (outbox_received p p1 w hr i)) in
      let long = ap (λ (l : List Posting). length l) posted_worked ∙ length-append p.client.posted (copies_of_all p.client p.own.federates (take count (waiting p))) in
      let still = ap (λ (l : List Posting). length l) idle.posts in
      let s = ap (λ (l : List Posting). length l) same in
      absurd (omega (arith, more, long, still, s))

  reduced_something : reduced ≡ true → IsIdle p q → ⊥
  reduced_something on idle =
      let back = learnt_is in
      let c = ap (λ (x : P). length x.client.contributions) back in
      let t = ap (λ (x : P). length x.client.taken) back in
      let r = ap (λ (x : P). length x.client.results) back in
      let ci = ap (λ l. length l) idle.contributions in
      let ti = ap (λ l. length l) idle.taken in
      let ri = ap (λ l. length l) idle.results in
      let c2 = ap (λ l. length l) contributions2 in
      let t2 = ap (λ l. length l) taken2 in
      let r2 = ap (λ l. length l) results2 in
      elim (hd.something on).more [
        | inl lt ↦ absurd (omega (arith, lt, c, ci, c2))
        | inr h ↦ elim h [ inl lt ↦ absurd (omega (arith, lt, r, ri, r2)) | inr lt ↦ absurd (omega (arith, lt, t, ti, t2)) ]
      ]

  released_something : IsInWorld p3 → IsCalm p3.client → IsCalm p4.client → p1.own.stock.holds ≡ p.own.stock.holds → released ≡ true → IsIdle p q → ⊥
  released_something w3 calm3 calm4 still on idle =
      settles_change (bound_of p3.client) p3 p4 w3 w4 calm3 calm4 (subst (λ (b : Bool). HasSettled (bound_of p3.client) b p3 p4) on hl)
      (sym holds4 ∙ (idle.releases ∙ (sym still ∙ sym holds3)))

  granted_something : granted ≡ true → IsIdle p q → ⊥
  granted_something on idle = let a = grants_if.1 on in let b = idle.grants in absurd (omega (arith, a, b))

  -- what was heard makes a turn busy, and where nothing was, one of the others has to
  pub busy_worked : (started received : Bool) → IsInWorld p1 → IsInWorld p3 → IsCalm p3.client → IsCalm p4.client → (started ≡ true → p.client.request ≡ None) → (received ≡ true → IsSilent p1 → ⊥)
      → (received ≡ false → p1.own.stock.holds ≡ p.own.stock.holds) → (started || received || posted || reduced || released || granted) ≡ true → IsIdle p q → ⊥
  busy_worked true received w1 w3 calm3 calm4 new heard still busy idle = idle.started (new refl)
  busy_worked false true w1 w3 calm3 calm4 new heard still busy idle = heard refl (silent_back idle.mail)
  busy_worked false false w1 w3 calm3 calm4 new heard still busy idle =
      elim (or_cases ((posted || reduced) || released) granted busy) [
        | inl h ↦ elim (or_cases (posted || reduced) released h) [
          | inl k ↦ elim (or_cases posted reduced k) [ inl on ↦ posted_something w1 on idle | inr on ↦ reduced_something on idle ]
          | inr on ↦ released_something w3 calm3 calm4 (still refl) on idle
        ]
        | inr on ↦ granted_something on idle
      ]

pub settled_by : (released : Bool) (p q : P) → HasSettled (bound_of p.client) released p q → IsSettled q.client
settled_by released p q h =
    let e = h.view in
    subst (λ (x : ℕ × List Entry). All (λ (y : Entry). y.message.time < x.0 → y.buffer ≡ None) x.1) (λ i. (bound_of (sym e i), (sym e i).queue)) (all_settled (bound_of p.client) p.client.queue)

-- none of the flags was set
all_unset : (a b d e f g : Bool) → (a || b || d || e || f || g) ≡ false → (a ≡ false) × (b ≡ false) × (d ≡ false) × (e ≡ false) × (f ≡ false) × (g ≡ false)
all_unset true b d e f g h = absurd (true≢false h)
all_unset false true d e f g h = absurd (true≢false h)
all_unset false false true e f g h = absurd (true≢false h)
all_unset false false false true f g h = absurd (true≢false h)
all_unset false false false false true g h = absurd (true≢false h)
all_unset false false false false false true h = absurd (true≢false h)
all_unset false false false false false false h = (refl, refl, refl, refl, refl, refl)

pub works : (started received posted reduced released granted : Bool) (p p1 p2 p3 p4 q : P) → IsInWorld p → IsInWorld p1 → IsInWorld p2 → IsInWorld p3 → IsInWorld p4 → IsInWorld q
    → HasReceived p p1 → IsPosted posted p1 p2 → HasReduced reduced p2 p3 → HasSettled (bound_of p3.client) released p3 p4 → HasGranted granted p4 q
    → IsCalm p3.client → IsCalm p4.client → IsCalm q.client → IsWithinEnd p.client → (started ≡ true → p.client.request ≡ None) × (started ≡ false → p.client.request ≢ None)
    → (received ≡ false → IsSilent p1) → (received ≡ true → IsSilent p1 → ⊥) → (received ≡ false → IsStill p p1) → HasWorked (started || received || posted || reduced || released || granted) p q
works started received posted reduced released granted p p1 p2 p3 p4 q w w1 w2 w3 w4 wq hr hs hd hl hg calm3 calm4 calm within did silent heard still = record {
  parts = gone_through posted reduced released granted p p1 p2 p3 p4 q w w2 w4 wq hr hs hd hl hg calm;
  seat = seat_worked posted reduced released granted p p1 p2 p3 p4 q w w2 w4 wq hr hs hd hl hg;
  stop = stop_worked posted reduced released granted p p1 p2 p3 p4 q w w2 w4 wq hr hs hd hl hg;
  rounds = few_rounds posted reduced released granted p p1 p2 p3 p4 q w w2 w4 wq hr hs hd hl hg;
  within = within_worked posted reduced released granted p p1 p2 p3 p4 q w w2 w4 wq hr hs hd hl hg within;
  idle = λ none.
      let off = all_unset started received posted reduced released granted none in
      idle_worked posted reduced released granted p p1 p2 p3 p4 q w w2 w4 wq hr hs hd hl hg off.2 off.3 off.4 off.5 (did.1 off.0) (silent off.1) (still off.1).holds;
  not_idle = λ busy idle.
      busy_worked posted reduced released granted p p1 p2 p3 p4 q w w2 w4 wq hr hs hd hl hg started received w1 w3 calm3 calm4 did.0 heard (λ off. (still off).holds) busy idle;
}
