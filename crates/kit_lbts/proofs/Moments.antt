-- A floor on which all agree with the simulation shows a moment of a run, at which known bounds are bounds.
use Rattle.std.proofs.Common.{◌≡◌, ℕ, zero, suc, ◌+◌, ◌<◌, ◌≤◌, ◌==◌, ◌&&◌, nat_lt, Bool, true, false, cond, not, ◌||◌, inl, inr, List, [], ◌∷◌, length, map, filter, replicate, Option, Some, None, IfSome, refl, sym, ap, ◌∙◌, subst, arith, eq-eqb}
use Rattle.std.specs.List.{All, count_by}
use Rattle.std.proofs.lemmas.Bool.{cases_lt, le-ltb, lt-ltb}
use Rattle.std.proofs.lemmas.List.Elements.{All-append, All-cons, All-filter, All-head, All-map, All-nil, All-replicate, All-tail, All-weaker}
use Rattle.std.proofs.Math.Bool.{or-true}
use mathlib.Core.Option.{some}
use lib.ListN.{get_elem?}
use Rattle.kit_base.specs.declared.message.Message.{Message}
use Rattle.kit_ground.specs.declared.place.Place.{Place}
use Rattle.kit_ground.specs.declared.place.SeatBuffers.{SeatBuffers}
use Rattle.kit_ground.specs.Memory.{Memory}
use Rattle.kit_ground.specs.Rules.{FloorHolds, World}
use Rattle.kit_ground.proofs.Lists.{at_map_or, at_or}
use Rattle.kit_ground.proofs.Sums.{sum_has}
use Rattle.kit_model.specs.Journals.{now_of}
use Rattle.kit_queue.specs.Entries.{messages_of}
use Rattle.kit_parts.specs.Cuts.{AreBounded, AreSound, AreSplit}
use Rattle.kit_parts.specs.Fronts.{IsFront, Standing, is_by, is_transported_to as is_sent_to, sends_after, sent_by}
use Rattle.kit_parts.specs.Promises.{promise, promise_after, promise_at, seat_promise}
use Rattle.kit_base.proofs.Counting.{count_cons, one_if}
use Rattle.kit_parts.proofs.InOrder.{copies_are_transported_law}
use Rattle.kit_rounds.specs.Channels.{IsUnreceived, is_copy, posts_of, receipts_of, same_stamp}
use Rattle.kit_rounds.specs.Ledgers.{Ledger, Stamp, blank}
use Rattle.kit_rules.specs.declared.table.Request.{Request}
use Rattle.kit_rules.specs.Delivery.{due_time, pending_messages}
use Rattle.kit_rules.specs.Federation.{IsFederation}
use Rattle.kit_rules.specs.Parts.{Parts, effective_lookahead}
use Rattle.kit_rules.specs.Simulation.{Block, Seat}
use Rattle.kit_lbts.specs.declared.view.Filled.{Filled}
use Rattle.kit_lbts.specs.declared.view.Noted.{Noted}
use Rattle.kit_lbts.specs.declared.view.Posting.{Posting}
use Rattle.kit_lbts.specs.declared.view.LbtsView.{LbtsView}
use Rattle.kit_lbts.specs.Views.{messages_delivered, due_by, due_of, is_empty, has_receiver, is_new, is_waiting, receipts, messages_received, time_of}
use Rattle.kit_lbts.specs.Promises.{added_of, bound_of, copy_posted, copy_received, ledger_of, ledgers_of, promise_of, promise_by, stamp_of}
use Rattle.kit_lbts.specs.Letters.{letter_in}
use Rattle.kit_lbts.specs.Seats.{is_owed, left_of}
use Rattle.kit_lbts.specs.Ways.{copies_on_way, mark_in_mail, passing_copies, letters_posted_to, letters_received_from}
use Rattle.kit_lbts.specs.Rule.{FederateRule, lbts_rule}
use Rattle.kit_lbts.specs.Agreement.{Agrees, AllAgree, blocks_in, done_of, messages_on_way, place_at, progress_at, progress_of, transit_at, waiting_at}
use Rattle.kit_lbts.specs.AgreementLaws.{KnownBoundsBound, MomentsAreSound}
use Rattle.kit_lbts.proofs.Agreeing.{due_ordered}
use Rattle.kit_lbts.proofs.Bounds.{known_bounds_bound}
use Rattle.kit_lbts.proofs.Copies.{count_filter}
use Rattle.kit_lbts.proofs.Dues.{adds}
use Rattle.kit_lbts.proofs.Fitting.{senders}
use Rattle.kit_lbts.proofs.Hands.{count_append, count_map}
use Rattle.kit_lbts.proofs.Promising.{late_enough, promised_below, promised_end}
use Rattle.kit_lbts.proofs.RoundSteps.{ledger_before}

abbrev P : Type 0
P = Place LbtsView

-- ---- what is on its way
count_replicate : (t : Message → Bool) (n : ℕ) (x : Message) → count_by t (replicate n x) ≡ cond (t x) n 0
count_replicate t zero x = by (t x)
  where
    by : (b : Bool) → count_by t [] ≡ cond b 0 0
    by true = refl
    by false = refl
count_replicate t (suc n) x = count_cons t x (replicate n x) ∙ by (t x) (count_replicate t n x)
  where
    by : (b : Bool) → count_by t (replicate n x) ≡ cond b n 0 → one_if b + count_by t (replicate n x) ≡ cond b (suc n) 0
    by true h = omega (arith, h)
    by false h = omega (arith, h)

count_on_way : (t : Message → Bool) (letter : ℕ → Filled) (copies : ℕ → ℕ) (b : ℕ) → count_by t (messages_on_way letter copies b) ≡ passing_copies (λ (f : Filled). t f.message) letter copies b
count_on_way t letter copies zero = refl
count_on_way t letter copies (suc b) =
    count_append t (messages_on_way letter copies b) (replicate (copies b) (letter b).message)
    ∙ (λ k. count_on_way t letter copies b k + count_replicate t (copies b) (letter b).message k)

all_repeated : (A : Message → Type 0) (n : ℕ) (x : Message) → (0 < n → A x) → All A (replicate n x)
all_repeated A zero x h = All-nil A
all_repeated A (suc n) x h = All-replicate A (suc n) x (h (omega arith))

all_on_way : (A : Message → Type 0) (letter : ℕ → Filled) (copies : ℕ → ℕ) (b : ℕ) → ((k : ℕ) → k < b → 0 < copies k → A (letter k).message) → All A (messages_on_way letter copies b)
all_on_way A letter copies zero h = All-nil A
all_on_way A letter copies (suc b) h =
    All-append A (messages_on_way letter copies b) (replicate (copies b) (letter b).message) (all_on_way A letter copies b (λ k lk. h k (omega (arith, lk)))) (all_repeated A (copies b) (letter b).message (h b (omega arith)))

all_left : (A : Message → Type 0) (sending : Option ℕ) (s : SeatBuffers) (f : Parts) (i : ℕ) (ms : List Message) → All A ms → All A (left_of sending s f i ms)
all_left A sending s f i [] h = All-nil A
all_left A sending s f i (m ∷ ms) h = by (is_owed sending s f i m)
  where
    rest : All A (filter (has_receiver f i) ms)
    rest = All-filter (has_receiver f i) A ms (All-tail A m ms h)

    by : (b : Bool) → All A (cond b (m ∷ filter (has_receiver f i) ms) (filter (has_receiver f i) ms))
    by true = All-cons A m (filter (has_receiver f i) ms) (All-head A m ms h) rest
    by false = rest

-- of those received, the messages from one
count_from : (t : Message → Bool) (j : ℕ) (rs : List Filled) → count_by t (filter (is_by j) (map (λ (x : Filled). x.message) rs)) ≡ count_by (λ (x : Filled). t x.message) (filter (λ (x : Filled). x.message.sender == j) rs)
count_from t j rs =
    count_filter t (is_by j) (map (λ (x : Filled). x.message) rs)
    ∙ count_map (λ (x : Filled). x.message) (λ (m : Message). is_by j m && t m) (λ (x : Filled). x.message.sender == j && t x.message) rs (λ x. refl)
    ∙ sym (count_filter (λ (x : Filled). t x.message) (λ (x : Filled). x.message.sender == j) rs)

-- a promise is said in two ways
same_promise : (end look now due : ℕ) (waits : Bool) → cond (nat_lt now end) (promise_at end look now due waits) (end + 1) ≡ promise_by end look now due waits
same_promise end look now due waits = elim (cases_lt now end) [
  | inl lt ↦ ap (λ b. cond b (promise_at end look now due waits) (end + 1)) (lt-ltb now end lt) ∙ sym (promised_below end look now due waits lt)
  | inr ge ↦ ap (λ b. cond b (promise_at end look now due waits) (end + 1)) (le-ltb now end ge) ∙ sym (promised_end end look now due waits ge)
]

module _ (p : P) (m : Memory) (places : List P) (w : World lbts_rule p m places) (agree : AllAgree places) where
  abbrev n : ℕ
  n = length places

  abbrev f : Parts
  f = p.client.federation

  abbrev ledgers : ℕ → Ledger
  ledgers = ledgers_of places

  abbrev all : ℕ → Standing
  all = progress_at p places

  -- the seat of a number
  abbrev q : ℕ → P
  q j = place_at p places j

  there : (j : ℕ) → j < length places → get_elem? places j ≡ some (q j)
  there j lt = at_or places j p lt

  seat : (j : ℕ) → j < length places → FederateRule m places j (q j)
  seat j lt = w.client.each j (q j) (there j lt)

  federation_is : (j : ℕ) → j < length places → (q j).client.federation ≡ p.client.federation
  federation_is j lt = (w.client.common.each j (q j) (there j lt)).0 ∙ sym (w.client.common.each p.own.number p w.here).0

  many : length places ≡ length p.client.federation.federates
  many = w.client.common.many ∙ sym (ap (λ (x : Parts). length x.federates) (w.client.common.each p.own.number p w.here).0)

  sound : IsFederation p.client.federation
  sound = subst IsFederation (sym (w.client.common.each p.own.number p w.here).0) w.client.common.sound

  within : (j : ℕ) → j < length p.client.federation.federates → j < length places
  within j lt = subst (λ (k : ℕ). j < k) (sym many) lt

  agrees : (j : ℕ) → j < length places → Agrees j (q j).client
  agrees j lt = agree j (q j) (there j lt)

  -- the same world, by another seat
  world_of : (j : ℕ) → j < length places → World lbts_rule (q j) m places
  world_of j lt =
      let own = w.floor.each j (q j) (there j lt) in
      record {
        floor = subst (λ (b : ℕ). FloorHolds b m places) (sym own.buffers) w.floor;
        client = w.client;
        here = subst (λ (k : ℕ). get_elem? places k ≡ some (q j)) (sym own.number) (there j lt);
      }

  adds_some : (j : ℕ) → j < length places → 1 ≤ added_of (q j)
  adds_some j lt = adds (q j) m places (world_of j lt)

  -- what a federate promises by its view
  number_is : (j : ℕ) → j < length places → (q j).own.number ≡ j
  number_is j lt = (w.floor.each j (q j) (there j lt)).number

  -- ---- what a federate promises
  promise_is : (j : ℕ) → j < length places → promise p.client.federation j (progress_at p places j) ≡ promise_of (place_at p places j)
  promise_is j lt =
      subst (λ (x : Parts). promise x j (progress_of j (q j).client) ≡ promise_of (q j)) (federation_is j lt) (by (q j).client.request refl)
    where
      add_is : added_of (q j) ≡ effective_lookahead (q j).client.federation j
      add_is = ap (λ (k : ℕ). effective_lookahead (q j).client.federation k) (number_is j lt)

      by : (o : Option Request) → (q j).client.request ≡ o → promise (q j).client.federation j (progress_of j (q j).client) ≡ promise_of (q j)
      by None e =
          let v : LbtsView = (q j).client in
          let g : Parts = v.federation in
          let look : ℕ = effective_lookahead g j in
          let none = (seat j lt).sends.new e in
          let zero_time : time_of v ≡ 0 = ap (λ (l : List Noted). now_of (map (λ (x : Noted). x.entry) l)) none.2 in
          let waits : is_waiting v ≡ true = ap (λ (o : Option Request). is_new o || not (is_empty v.outbox)) e in
          let some_end : 0 < g.end = subst (λ (x : Parts). 0 < x.end) (sym (federation_is j lt)) sound.end.0 in
          ap (λ (o : Option Request). promise_after g j (not (is_empty v.outbox)) (messages_received v) (done_of o (blocks_in j v))) e
          ∙ sym ((λ t. promise_by g.end (add_is t) (zero_time t) (due_of v) (waits t)) ∙ promised_below g.end look 0 (due_of v) true some_end)
      by (Some r) e =
          let v : LbtsView = (q j).client in
          let g : Parts = v.federation in
          let look : ℕ = effective_lookahead g j in
          let x : Bool = not (is_empty v.outbox) in
          let due : ℕ = due_time r (pending_messages g j (messages_delivered v) (messages_received v)) in
          let due_is : due_of v ≡ due = ap (λ (o : Option Request). due_by o (messages_of v.queue)) e ∙ ap (due_time r) (seat j lt).queue.is ∙ due_ordered r (pending_messages g j (messages_delivered v) (messages_received v)) in
          let waits : is_waiting v ≡ x = ap (λ (o : Option Request). is_new o || not (is_empty v.outbox)) e in
          ap (λ (o : Option Request). promise_after g j x (messages_received v) (done_of o (blocks_in j v))) e
          ∙ ap (seat_promise g j x (messages_received v)) ((agrees j lt).seat r e)
          ∙ same_promise g.end look (time_of v) due x
          ∙ sym (λ t. promise_by g.end (add_is t) (time_of v) (due_is t) (waits t))

  -- what it has sent
  sent_is : (j : ℕ) → j < length places → sent_by (place_at p places j).client.federation j (progress_at p places j) ≡ (place_at p places j).client.state.sends
  sent_is j lt = by (q j).client.request refl
    where
      by : (o : Option Request) → (q j).client.request ≡ o → sent_by (q j).client.federation j (progress_of j (q j).client) ≡ (q j).client.state.sends
      by None e = ap (λ (o : Option Request). sends_after (q j).client.federation j (done_of o (blocks_in j (q j).client))) e ∙ sym ((seat j lt).sends.new e).0
      by (Some r) e = ap (λ (o : Option Request). sends_after (q j).client.federation j (done_of o (blocks_in j (q j).client))) e ∙ ap (λ (s : Seat). s.state.sends) ((agrees j lt).seat r e)

  split : (j i : ℕ) → j < length places → i < length places → AreSplit p.client.federation (progress_at p places) (transit_at m p places) (waiting_at p places) j i
  split j i lj li = record {
    counts = λ test. subst (λ (g : Parts). count_by test (filter (is_sent_to g i) (sent_by g j (progress_at p places j)))
        ≡ count_by test (filter (is_by j) (progress_at p places i).received) + count_by test (transit_at m p places j i) + count_by test (waiting_at p places j i)) (federation_is j lj) (counts test);
  }
    where
      counts : (test : Message → Bool) → count_by test (filter (is_sent_to (q j).client.federation i) (sent_by (q j).client.federation j (progress_at p places j)))
          ≡ count_by test (filter (is_by j) (progress_at p places i).received) + count_by test (transit_at m p places j i) + count_by test (waiting_at p places j i)
      counts test =
          let v : LbtsView = (q j).client in
          let u : LbtsView = (q i).client in
          let g : Parts = v.federation in
          let b : ℕ = (q j).own.buffers in
          let left : List Message = left_of v.sending (q j).own.stock g i v.outbox in
          let t : Filled → Bool = λ x. test x.message in
          let copies : ℕ → ℕ = copies_on_way (mark_in_mail m j i) j u.in_hand in
          let inside : i < (q j).own.federates = subst (λ (k : ℕ). i < k) (sym (w.floor.each j (q j) (there j lj)).federates) li in
          let posted : count_by test (map (λ (x : Filled). x.message) (letters_posted_to i v)) ≡ count_by t (letters_received_from j u) + passing_copies t (letter_in v) copies b =
          count_map (λ (x : Filled). x.message) test t (letters_posted_to i v) (λ x. refl) ∙ (w.client.ways j i (q j) (q i) (there j lj) (there i li)).copies t in
          ap (λ (l : List Message). count_by test (filter (is_sent_to g i) l)) (sent_is j lj)
          ∙ ap (count_by test) (copies_are_transported_law g i v.state.sends ∙ (seat j lj).sends.each i inside)
          ∙ count_append test (map (λ (x : Filled). x.message) (letters_posted_to i v)) left
          ∙ (λ k. posted k + count_by test left)
          ∙ (λ k. sym (count_from test j (receipts u)) k + sym (count_on_way test (letter_in v) copies b) k + count_by test left)

  abbrev Late : ℕ → Message → Type 0
  Late j x = promise p.client.federation j (progress_at p places j) ≤ x.time

  late : (j i : ℕ) → j < length places → All (λ (x : Message). promise p.client.federation j (progress_at p places j) ≤ x.time) (waiting_at p places j i)
  late j i lj = all_left (Late j) (q j).client.sending (q j).own.stock (q j).client.federation i (q j).client.outbox (by (q j).client.outbox refl)
    where
      by : (ob : List Message) → (q j).client.outbox ≡ ob → All (Late j) (q j).client.outbox
      by [] e = subst (All (Late j)) (sym e) (All-nil (Late j))
      by (x ∷ xs) e =
          let v : LbtsView = (q j).client in
          let waits : is_waiting v ≡ true = ap (λ (l : List Message). is_new v.request || not (is_empty l)) e ∙ or-true (is_new v.request) in
          let is : promise_of (q j) ≡ promise_by v.federation.end (added_of (q j)) (time_of v) (due_of v) true = ap (promise_by v.federation.end (added_of (q j)) (time_of v) (due_of v)) waits in
          All-weaker (λ (y : Message). time_of v + added_of (q j) ≤ y.time) (Late j)
          (λ y h. omega (arith, promise_is j lj, is, late_enough v.federation.end (added_of (q j)) (time_of v) (due_of v) y.time (adds_some j lj) h)) v.outbox (seat j lj).sends.late

  pub moment : AreSound p.client.federation (progress_at p places) (transit_at m p places) (waiting_at p places)
  moment = record {
    fronts = λ i li. if_done i (q i).client.request (blocks_in i (q i).client)
        (subst (λ (g : Parts). IsFront g i (blocks_in i (q i).client)) (federation_is i (within i li)) (agrees i (within i li)).front);
    senders = λ i li. All-map (λ (x : Message). x.sender < length f.federates) (λ (x : Filled). x.message) (receipts (q i).client)
        (subst (λ (k : ℕ). All (λ (x : Filled). x.message.sender < k) (receipts (q i).client)) many (senders p m places w i (q i) (there i (within i li))));
    split = λ j i lj li. split j i (within j lj) (within i li);
    waiting_late = λ j i lj li. late j i (within j lj);
  }
    where
      if_done : (i : ℕ) (o : Option Request) (bs : List Block) → IsFront p.client.federation i bs → IfSome (done_of o bs) (IsFront p.client.federation i)
      if_done i None bs h = tt
      if_done i (Some r) bs h = h

  -- ---- a copy on its way was not received
  unreceived : (j i k : ℕ) → j < length places → i < length places → k < (place_at p places j).own.buffers
      → 0 < copies_on_way (mark_in_mail m j i) j (place_at p places i).client.in_hand k → IsUnreceived (ledgers_of places) j i (stamp_of (letter_in (place_at p places j).client k))
  unreceived j i k lj li lk some_copy =
      let v : LbtsView = (q j).client in
      let u : LbtsView = (q i).client in
      let s : Stamp = stamp_of (letter_in v k) in
      let t : Filled → Bool = λ x. same_stamp (stamp_of x) s in
      let copies : ℕ → ℕ = copies_on_way (mark_in_mail m j i) j u.in_hand in
      let b : ℕ = (q j).own.buffers in
      let lq : ledgers_of places j ≡ ledger_of (q j) = at_map_or ledger_of places j (q j) blank (there j lj) in
      let lu : ledgers_of places i ≡ ledger_of (q i) = at_map_or ledger_of places i (q i) blank (there i li) in
      let posts : posts_of (ledgers_of places) j i s ≡ count_by t (letters_posted_to i v) =
      ap (λ (l : Ledger). count_by (is_copy i s) l.posted) lq
      ∙ (count_map copy_posted (is_copy i s) (λ (x : Posting). x.to == i && same_stamp (stamp_of x.filled) s) v.posted (λ x. refl)
      ∙ (sym (count_filter (λ (x : Posting). same_stamp (stamp_of x.filled) s) (λ (x : Posting). x.to == i) v.posted)
      ∙ sym (count_map (λ (x : Posting). x.filled) t (λ (x : Posting). same_stamp (stamp_of x.filled) s) (filter (λ (x : Posting). x.to == i) v.posted) (λ x. refl)))) in
      let got : receipts_of (ledgers_of places) j i s ≡ count_by t (letters_received_from j u) =
      ap (λ (l : Ledger). count_by (is_copy j s) l.received) lu
      ∙ (count_map copy_received (is_copy j s) (λ (x : Filled). x.message.sender == j && same_stamp (stamp_of x) s) (receipts u) (λ x. refl)
      ∙ sym (count_filter t (λ (x : Filled). x.message.sender == j) (receipts u))) in
      let way = (w.client.ways j i (q j) (q i) (there j lj) (there i li)).copies t in
      let itself : t (letter_in v k) ≡ true = (λ x. eq-eqb s.colour s.colour refl x && eq-eqb s.time s.time refl x) in
      let one : cond (t (letter_in v k)) (copies k) 0 ≡ copies k = ap (λ (y : Bool). cond y (copies k) 0) itself in
      let has : cond (t (letter_in v k)) (copies k) 0 ≤ passing_copies t (letter_in v) copies b = sum_has (λ x. cond (t (letter_in v x)) (copies x) 0) b k lk in
      omega (arith, posts, got, way, one, has, some_copy)

  pub bounded : AreBounded p.client.federation (bound_of p.client) (progress_at p places) (transit_at m p places) (waiting_at p places)
  bounded =
      let bound = known_bounds_bound places p.own.number p w.here w.client.rounds (w.client.each p.own.number p w.here).learnt in
      record {
        sound = moment;
        transit_late = λ j i lj li.
            let u : LbtsView = (q i).client in
            all_on_way (λ (x : Message). bound_of p.client ≤ x.time) (letter_in (q j).client) (copies_on_way (mark_in_mail m j i) j u.in_hand) (q j).own.buffers
            (λ k lk some_copy. bound.copies j i (stamp_of (letter_in (q j).client k)) (within j lj) (within i li) (unreceived j i k (within j lj) (within i li) lk some_copy));
        promised = λ i li.
            let l = within i li in
            omega (arith, bound.promises i l, ap (λ (x : Ledger). x.promise) (ledger_before places i (q i) (q i) (there i l)), promise_is i l);
      }

pub moments_are_sound : MomentsAreSound
moments_are_sound p m places w agree = moment p m places w agree

pub known_bounds_are_bounds : KnownBoundsBound
known_bounds_are_bounds p m places w agree = bounded p m places w agree
