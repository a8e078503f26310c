-- How the start goes on in a turn, and what a turn comes to where one of its parts ends the node.
use Rattle.std.proofs.Common.{◌≡◌, ◌≢◌, ℕ, ◌+◌, ◌<◌, ◌≤◌, ◌⊎◌, inl, inr, Bool, true, false, List, [], ◌∷◌, length, drop, map, refl, sym, ap, ◌∙◌, subst, arith}
use Rattle.std.specs.Prelude.{IfErr, IfOk, Option, Some, None, Ok, Err, Result, is_some}
use Rattle.std.proofs.lemmas.Bool.{false≢true, true≢false}
use Rattle.std.proofs.lemmas.List.{drop_all, length-append}
use Rattle.std.proofs.lemmas.Option.{none-some}
use Rattle.kit_base.specs.declared.message.Message.{Message}
use Rattle.kit_ground.specs.declared.place.Place.{Place}
use Rattle.kit_model.specs.Journals.{now_of}
use Rattle.kit_rules.specs.declared.scene.State.{State}
use Rattle.kit_rules.specs.declared.table.Request.{Request}
use Rattle.kit_rules.specs.declared.table.Trigger.TheVariants as trigger
use Rattle.kit_rules.specs.Parts.{Parts}
use Rattle.kit_rules.specs.Step.{state_after}
use Rattle.kit_rules.proofs.Growth.{grows_by_step}
use Rattle.kit_lbts.specs.declared.view.LbtsView.{LbtsView}
use Rattle.kit_lbts.specs.declared.view.Noted.{Noted}
use Rattle.kit_lbts.specs.LedgerLaws.{ready_place}
use Rattle.kit_lbts.specs.Promises.{bound_in, bound_of}
use Rattle.kit_lbts.specs.SeatLaws.{IsInWorld}
use Rattle.kit_lbts.specs.Views.{entries_of, is_new, time_of}
use Rattle.kit_lbts.proofs.SeatFacts.{places_tell}
use Rattle.kit_node.specs.declared.ends.NodeEnd.{NodeEnd}
use Rattle.kit_node.specs.declared.ends.NodeEnd.TheVariants.{NoBuffer, SendsSpent, RoundsSpent, NoMemory}
use Rattle.kit_node.specs.declared.node.Node.{Node}
use Rattle.kit_node.specs.declared.rounds.Rounds.{Rounds}
use Rattle.kit_node.specs.Frames.{IsSameSeat}
use Rattle.kit_node.specs.Granting.{IsRefusal, KeepsReport, SpendsAtGrant, SpendsAtStart}
use Rattle.kit_node.specs.Mirrors.{IsCalm, IsReportOf, Mirrors, Shown}
use Rattle.kit_node.specs.Receiving.{HasReceived, HasReceivedInPart, ReceivesOnly}
use Rattle.kit_node.specs.Reducing.{HasReduced, HasSpentRounds}
use Rattle.kit_node.specs.Seats.{Cause, HasEndedBadly, IsBelowEnd}
use Rattle.kit_node.specs.Sending.{HasSent, IsHeldUp, Waits}
use Rattle.kit_node.specs.Settling.{HasSettled}
use Rattle.kit_node.specs.Starting.{IsBegun, IsSpentAtStart}
use Rattle.kit_node.specs.Turns.{HasEndedBy, IsHeldUpBy, IsPosted, LooksAtBadEnd, SameNode}
use Rattle.kit_node.proofs.Alone.{kept_ready, kept_received, seat_received, stop_received, time_received}
use Rattle.kit_node.proofs.GrantMirrors.{report_kept}
use Rattle.kit_node.proofs.MirrorFrames.{begun_mirrors, ready_same, receipts_keep_time, report_of}
use Rattle.kit_node.proofs.ReadyPlaces.{ready_by, ready_journal}
use Rattle.kit_node.proofs.PostedAll.{posted_none}
use Rattle.kit_node.proofs.Working.{SeatStays, ViewStays, seat_reduced, seat_settled, view_reduced, view_settled}

abbrev P : Type 0
P = Place LbtsView

-- THE START
abbrev answered : Bool → Result Bool NodeEnd
answered b = Ok b

ok_false : (b : Bool) → answered b ≡ answered false → b ≡ false
ok_false b e = cc

module _ {Q R : Type 0} (sh : Shown Q R) (f : Parts) (n n' : Node Q R) (p : P) (w : IsInWorld p) (federation : p.client.federation ≡ f) (m : Mirrors sh n p) (did : Bool)
    (done : is_some n.course.request ≡ true → (answered did ≡ answered false) × (n' ≡ n)) (begun : n.course.request ≡ None → IsBegun f n n') (answer : n.course.request ≡ None → did ≡ true) where
  pub start_mirrors : Mirrors sh n' (ready_place p)
  start_mirrors = by n.course.request refl
    where
      by : (o : Option Request) → n.course.request ≡ o → Mirrors sh n' (ready_place p)
      by None e = begun_mirrors sh f n n' p w federation (sym m.course.request ∙ e) (begun e) m
      by (Some r) e =
          let ready = ready_same p (λ none. none-some r (sym none ∙ (sym m.course.request ∙ e))) in
          subst (λ (x : Node Q R × P). Mirrors sh x.0 x.1) (λ i. (sym (done (ap (λ (o : Option Request). is_some o) e)).1 i, sym ready i)) m

  pub start_did : (did ≡ true → p.client.request ≡ None) × (did ≡ false → p.client.request ≢ None)
  start_did = by n.course.request refl
    where
      by : (o : Option Request) → n.course.request ≡ o → (did ≡ true → p.client.request ≡ None) × (did ≡ false → p.client.request ≢ None)
      by None e = (λ _. sym m.course.request ∙ e, λ off. absurd (false≢true (sym off ∙ answer e)))
      by (Some r) e =
          let off = ok_false did (done (ap (λ (o : Option Request). is_some o) e)).0 in
          (λ on. absurd (false≢true (sym off ∙ on)), λ _ none. none-some r (sym none ∙ (sym m.course.request ∙ e)))

  pub start_same : SameNode n n'
  start_same = by n.course.request refl
    where
      by : (o : Option Request) → n.course.request ≡ o → SameNode n n'
      by None e = subst (λ (x : Node Q R). SameNode n x) (sym (begun e).others) (record { me = refl; limit = refl; turns = refl; ended = refl })
      by (Some r) e = subst (λ (x : Node Q R). SameNode n x) (sym (done (ap (λ (o : Option Request). is_some o) e)).1) (record { me = refl; limit = refl; turns = refl; ended = refl })

pub kept_same : {Q R : Type 0} (n n' : Node Q R) → KeepsReport n n' → SameNode n n'
kept_same n n' k = record { me = k.me; limit = ap (λ (r : Rounds _). r.limit) k.rounds; turns = k.turns; ended = k.ended }

seat_here : (p : P) → IsSameSeat p p
seat_here p = record { number = refl; federates = refl; buffers = refl; steps = omega arith; stops = refl }

-- AN END by memory or by numbers
abbrev Looks : P → P → NodeEnd → Type 0
Looks p q end = LooksAtBadEnd end p q

module _ {Q R : Type 0} (sh : Shown Q R) (f : Parts) (n : Node Q R) (p : P) (w : IsInWorld p) (federation : p.client.federation ≡ f) (m : Mirrors sh n p) (early : IsBelowEnd p.client) where
  -- the start's rules would take a number past the last
  starts_spent : p.client.request ≡ None → IsSpentAtStart f n → SpendsAtStart p
  starts_spent new past =
      let grow = grows_by_step p.client.federation p.own.number trigger.Start 0 0 p.client.state in
      let same : state_after f n.me trigger.Start 0 0 n.course.state ≡ state_after p.client.federation p.own.number trigger.Start 0 0 p.client.state =
      λ i. state_after (sym federation i) (m.me i) trigger.Start 0 0 (m.course.state i) in
      let next = ap (λ (s : State). s.next) same in
      let first = (places_tell p w).sends.next in
      let long = ap (λ (l : List Message). length l) grow.sends ∙ length-append p.client.state.sends grow.made in
      record { new = new; past = let g = grow.next in omega (arith, past, next, first, long, g) }

  pub ends_at_start : (n' : Node Q R) (end : NodeEnd) → IsRefusal end → KeepsReport n n' → (end ≡ SendsSpent → (n.course.request ≡ None) × IsSpentAtStart f n) → HasEndedBy end n' p p
  ends_at_start n' end bad kept spent = elim bad [
    | inl e ↦ let s = spent e in subst (λ (x : NodeEnd). HasEndedBy x n' p p) (sym e) (by_numbers (starts_spent (sym m.course.request ∙ s.0) s.1))
    | inr e ↦ subst (λ (x : NodeEnd). HasEndedBy x n' p p) (sym e) by_memory
  ]
    where
      by_numbers : SpendsAtStart p → HasEndedBy SendsSpent n' p p
      by_numbers s = record {
        ended = record { report = report_kept sh f n p w federation m n' kept; calm = m.calm; early = early; cause = inl s };
        looks = tt;
        seat = seat_here p;
        stop = refl;
        rounds = omega arith;
      }

      by_memory : HasEndedBy NoMemory n' p p
      by_memory = record {
        ended = record { report = report_kept sh f n p w federation m n' kept; calm = m.calm; early = early; cause = tt };
        looks = tt;
        seat = seat_here p;
        stop = refl;
        rounds = omega arith;
      }

-- from the turn's beginning the seat has gone on, and was granted nothing
pub record GoneOn (p q : P) : Type 0 where
  pub seat : IsSameSeat p q
  pub stop : q.own.stop ≡ p.own.stop
  pub time : time_of q.client ≡ time_of p.client
  pub federation : q.client.federation ≡ p.client.federation
  pub rounds : length q.client.contributions ≤ length p.client.contributions + 1

gone_nowhere : (p : P) → GoneOn p p
gone_nowhere p = record { seat = seat_here p; stop = refl; time = refl; federation = refl; rounds = omega arith }

pub gone_in_part : (p q : P) → HasReceivedInPart p q → GoneOn p q
gone_in_part p q h = elim h [ inl l ↦ by l | inr e ↦ subst (GoneOn p) (sym e) (gone_nowhere p) ]
  where
    by : ReceivesOnly (ready_place p) q → GoneOn p q
    by l =
        let k = kept_ready p in
        let c = ap (λ (x : LbtsView). length x.contributions) l.view ∙ ap (λ c. length c) k.contributions in
        record {
          seat = record { number = l.seat.number; federates = l.seat.federates; buffers = l.seat.buffers; steps = l.seat.steps; stops = l.seat.stops };
          stop = l.stop;
          time = receipts_keep_time (ready_place p).client q.client l.journal ∙ ap (λ (ns : List Noted). now_of (map (λ (e : Noted). e.entry) ns)) (ready_journal p);
          federation = ap (λ (x : LbtsView). x.federation) l.view ∙ k.federation;
          rounds = omega (arith, c);
        }

pub early_still : (p q : P) → GoneOn p q → IsBelowEnd p.client → IsBelowEnd q.client
early_still p q g early = let t = g.time in let e = ap (λ (x : Parts). x.end) g.federation in omega (arith, t, e, early)

-- an end at a place that was gone on to
pub ends_there : {Q R : Type 0} (n : Node Q R) (end : NodeEnd) (p q : P) → GoneOn p q → IsBelowEnd p.client → IsReportOf n q → IsCalm q.client → Cause n.rounds.limit end q → LooksAtBadEnd end p q → HasEndedBy end n p q
ends_there n end p q g early report calm cause looks = record {
  ended = record { report = report; calm = calm; early = early_still p q g early; cause = cause };
  looks = looks;
  seat = g.seat;
  stop = g.stop;
  rounds = g.rounds;
}

pub ends_in_receipt : {Q R : Type 0} (n : Node Q R) (end : NodeEnd) (p q : P) → IsBelowEnd p.client → end ≡ NoMemory → IsReportOf n q → IsCalm q.client → HasReceivedInPart p q → HasEndedBy end n p q
ends_in_receipt n end p q early is report calm part = subst (λ (x : NodeEnd). HasEndedBy x n p q) (sym is) (ends_there n NoMemory p q (gone_in_part p q part) early report calm tt tt)

-- WHERE NOTHING WAITS nothing is posted
pub posted_nothing : (p : P) → p.client.outbox ≡ [] → IsPosted false p p
posted_nothing p none = record {
  waits = None;
  sent = record { count = 0; done = posted_none p; some = refl; all = λ _. sym (ap (λ (ms : List Message). length ms) none); next = tt };
  hope = λ _. refl;
}

-- where something does, the federate has started, and so it has after the posts
pub waiting_ready : (p : P) → IsInWorld p → p.client.outbox ≢ [] → ready_place p ≡ p
waiting_ready p w some_ = ready_same p (λ none. some_ ((places_tell p w).sends.new none).3)

pub posted_ready : (posted : Bool) (waits : Option ℕ) (p q : P) → IsInWorld p → p.client.outbox ≢ [] → HasSent posted waits p q → ready_place q ≡ q
posted_ready posted waits p q w some_ s = ready_same q (λ none. some_ ((places_tell p w).sends.new (sym (ap (λ (x : LbtsView). x.request) s.done.view) ∙ none)).3)

pub posted_of : (r : Result Bool NodeEnd) (p q : P) → IfOk r (λ posted. (waits : Option ℕ) × HasSent posted waits p q × (IsHeldUp q → waits ≡ None)) → IfOk r (λ posted. IsPosted posted p q)
posted_of (Ok b) p q h = record { waits = h.0; sent = h.1; hope = h.2 }
posted_of (Err e) p q h = h

pub held_up_of : (r : Result Bool NodeEnd) (p q : P)
    → IfErr r (λ end. (number : ℕ) × (posted : Bool) × (end ≡ NoBuffer number) × HasSent posted (Some number) p q × IsHeldUp q) → IfErr r (λ end. IsHeldUpBy end p q)
held_up_of (Ok b) p q h = h
held_up_of (Err e) p q h = record { number = h.0; posted = h.1; end_is = h.2; sent = h.3; held_up = h.4 }

pub ready_after : {Q R : Type 0} (sh : Shown Q R) (n : Node Q R) (r : Result Bool NodeEnd) (p q : P) → IsInWorld p → p.client.outbox ≢ []
    → IfOk r (λ posted. (waits : Option ℕ) × HasSent posted waits p q × (IsHeldUp q → waits ≡ None))
    → IfErr r (λ end. (number : ℕ) × (posted : Bool) × (end ≡ NoBuffer number) × HasSent posted (Some number) p q × IsHeldUp q) → Mirrors sh n q → Mirrors sh n (ready_place q)
ready_after sh n (Ok b) p q w some_ ok err m = subst (Mirrors sh n) (sym (posted_ready b ok.0 p q w some_ ok.1)) m
ready_after sh n (Err e) p q w some_ ok err m = subst (Mirrors sh n) (sym (posted_ready err.1 (Some err.0) p q w some_ err.3)) m

-- the error of a call that is handed on
pub err_then : (r : Result Bool NodeEnd) (A : NodeEnd → Type 0) → ((e : NodeEnd) → r ≡ Err e → A e) → IfErr r A
err_then (Ok b) A h = tt
err_then (Err e) A h = h e refl

-- AFTER THE RECEIPT, the posts, the reduction and the settling
pub gone_received : (p q : P) → IsInWorld p → HasReceived p q → GoneOn p q
gone_received p q w h =
    let k = kept_received p q w h in
    let c = ap (λ l. length l) k.contributions in
    record { seat = seat_received p q w h; stop = stop_received p q w h; time = time_received p q w h; federation = k.federation; rounds = omega (arith, c) }

pub gone_posted : (posted : Bool) (waits : Option ℕ) (p q r : P) → GoneOn p q → HasSent posted waits q r → GoneOn p r
gone_posted posted waits p q r g s =
    let a = g.seat in
    let b = s.done.seat in
    let v = s.done.view in
    let c = ap (λ (x : LbtsView). length x.contributions) v in
    record {
      seat = record { number = b.number ∙ a.number; federates = b.federates ∙ a.federates; buffers = b.buffers ∙ a.buffers; steps = let x = a.steps in let y = b.steps in omega (arith, x, y); stops = b.stops ∙ a.stops };
      stop = s.done.stop ∙ g.stop;
      time = ap time_of v ∙ g.time;
      federation = ap (λ (x : LbtsView). x.federation) v ∙ g.federation;
      rounds = let l = g.rounds in omega (arith, c, l);
    }

gone_stays : (p q r : P) → GoneOn p q → SeatStays q r → ViewStays q.client r.client → length r.client.contributions ≤ length p.client.contributions + 1 → GoneOn p r
gone_stays p q r g b v few =
    let a = g.seat in
    record {
      seat = record { number = b.number ∙ a.number; federates = b.federates ∙ a.federates; buffers = b.buffers ∙ a.buffers; steps = let x = a.steps in let y = b.steps in omega (arith, x, y); stops = b.stops ∙ a.stops };
      stop = b.stop ∙ g.stop;
      time = ap (λ (ns : List Noted). now_of (map (λ (e : Noted). e.entry) ns)) v.journal ∙ g.time;
      federation = v.federation ∙ g.federation;
      rounds = few;
    }

module _ (posted reduced released : Bool) (p p1 p2 p3 p4 : P) (w : IsInWorld p) (hr : HasReceived p p1) (hs : IsPosted posted p1 p2) (hd : HasReduced reduced p2 p3) (hl : HasSettled (bound_of p3.client) released p3 p4) where
  gone2 : GoneOn p p2
  gone2 = gone_posted posted hs.waits p p1 p2 (gone_received p p1 w hr) hs.sent

  first_rounds : length p2.client.contributions ≡ length p.client.contributions
  first_rounds = ap (λ (x : LbtsView). length x.contributions) hs.sent.done.view ∙ ap (λ l. length l) (kept_received p p1 w hr).contributions

  pub gone_settled : GoneOn p p4
  gone_settled =
      let few = hd.one in
      let e = first_rounds in
      let c = ap (λ (x : LbtsView). length x.contributions) hl.view in
      gone_stays p p3 p4 (gone_stays p p2 p3 gone2 (seat_reduced reduced p2 p3 hd) (view_reduced reduced p2 p3 hd) (omega (arith, few, e))) (seat_settled (bound_of p3.client) released p3 p4 hl)
      (view_settled (bound_of p3.client) released p3 p4 hl) (omega (arith, few, e, c))

-- A MESSAGE cannot be posted any more
pub ends_held_up : {Q R : Type 0} (sh : Shown Q R) (n : Node Q R) (end : NodeEnd) (p q r : P) → IsInWorld p → IsInWorld q → HasReceived p q → IsBelowEnd p.client → Mirrors sh n (ready_place r) → IsHeldUpBy end q r → HasEndedBy end n p r
ends_held_up sh n end p q r w wq hr early m h = subst (λ (x : NodeEnd). HasEndedBy x n p r) (sym h.end_is) by_buffers
  where
    waits : Waits h.number q r
    waits = h.sent.next

    some_ : q.client.outbox ≢ []
    some_ none = waits.some (h.sent.done.left ∙ drop_all h.sent.count q.client.outbox (let e = ap (λ (ms : List Message). length ms) none in omega (arith, e)))

    ready : ready_place r ≡ r
    ready = posted_ready h.posted (Some h.number) q r wq some_ h.sent

    here : Mirrors sh n r
    here = subst (Mirrors sh n) ready m

    asked : r.client.request ≢ None
    asked none = some_ ((places_tell q wq).sends.new (sym (ap (λ (x : LbtsView). x.request) h.sent.done.view) ∙ none)).3

    by_buffers : HasEndedBy (NoBuffer h.number) n p r
    by_buffers = ends_there n (NoBuffer h.number) p r (gone_posted h.posted (Some h.number) p q r (gone_received p q w hr) h.sent) early (report_of sh n r here) here.calm
        (record { started = asked; waits = waits.some; first = waits.number_is; full = λ k lt. (waits.full k lt).1; held_up = h.held_up })
        (λ k lt. let f = waits.full k lt in let s = (seat_received p q w hr).steps in (let t = f.0 in omega (arith, t, s), f.1))

-- THE ROUNDS are spent
calm_ready : (p : P) → IsCalm (ready_place p).client → IsCalm p.client
calm_ready p = by (is_new p.client.request)
  where
    by : (b : Bool) → IsCalm (ready_by p b).client → IsCalm p.client
    by true c = record { in_hand = c.in_hand; spent = c.spent; sending = c.sending }
    by false c = c

pub ends_in_rounds : {Q R : Type 0} (sh : Shown Q R) (n : Node Q R) (end : NodeEnd) (p q : P) → GoneOn p q → IsBelowEnd p.client → Mirrors sh n (ready_place q) → end ≡ RoundsSpent → HasSpentRounds n.rounds.limit q → HasEndedBy end n p q
ends_in_rounds sh n end p q g early m is spent =
    let k = kept_ready q in
    let j = ready_journal q in
    subst (λ (x : NodeEnd). HasEndedBy x n p q) (sym is)
    (ends_there n RoundsSpent p q g early
    (record {
      me = m.me;
      journal = m.journal ∙ ap (map (λ (e : Noted). e.entry)) j;
      now = m.course.now ∙ ap (λ (ns : List Noted). now_of (map (λ (e : Noted). e.entry) ns)) j;
      bound = m.rounds.bound ∙ ap bound_in k.results;
      taken = m.rounds.taken ∙ ap (λ l. length l) k.contributions;
    })
    (calm_ready q m.calm) spent tt)

-- A GRANT was refused
pub ends_at_grant : {Q R : Type 0} (n : Node Q R) (end : NodeEnd) (p q : P) → GoneOn p q → IsBelowEnd p.client → IsCalm q.client → IsRefusal end → IsReportOf n q → (end ≡ SendsSpent → SpendsAtGrant q) → HasEndedBy end n p q
ends_at_grant n end p q g early calm bad report spent = elim bad [
  | inl e ↦ subst (λ (x : NodeEnd). HasEndedBy x n p q) (sym e) (ends_there n SendsSpent p q g early report calm (inr (spent e)) tt)
  | inr e ↦ subst (λ (x : NodeEnd). HasEndedBy x n p q) (sym e) (ends_there n NoMemory p q g early report calm tt tt)
]
