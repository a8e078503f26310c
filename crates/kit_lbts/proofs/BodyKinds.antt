-- What the queue, the spent buffers and the orphans become where a copy is received: an Event waits, or its
-- Retraction came before; a Retraction takes its target out of the queue, or makes it an orphan.
use Rattle.std.proofs.Common.{◌≡◌, ℕ, ◌+◌, ◌<◌, ◌≤◌, ◌==◌, ◌&&◌, ◌||◌, Bool, true, false, cond, not, ⊎_elim, List, [], ◌∷◌, ◌++◌, filter, get_or, Option, Some, None, is_some, refl, sym, ap, ◌∙◌, subst, arith, eqb-true, eq-eqb, true≢false}
use Rattle.std.specs.List.{count_by, list_any, All, Contains}
use Rattle.std.specs.Prelude.{slice_set, IfSome}
use Rattle.std.proofs.lemmas.Bool.{not-true, and_from, and_left, and_parts, and_right, cases_Bool, false_from_ne_true, or_right}
use Rattle.std.proofs.lemmas.Cmp.{nat_eq_equiv}
use Rattle.std.proofs.lemmas.List.{append-nil}
use Rattle.std.proofs.lemmas.List.Elements.{All-append, All-contains, All-cons, All-filter, All-nil, All-push, filter_agree}
use Rattle.std.proofs.lemmas.List.Folds.{list_any-append}
use Rattle.kit_base.specs.declared.message.Kind.{Kind}
use Rattle.kit_base.specs.declared.message.Kind.TheVariants.{Event, Retraction}
use Rattle.kit_base.specs.declared.message.Message.{Message}
use Rattle.kit_base.specs.Order.{in_order, put}
use Rattle.kit_ground.specs.declared.address.Address.TheVariants.{Part}
use Rattle.kit_ground.specs.declared.place.Deed.TheVariants.{ReadPart}
use Rattle.kit_ground.specs.declared.place.Place.{Place}
use Rattle.kit_ground.specs.Memory.{Memory, with_word}
use Rattle.kit_ground.specs.Rules.{RuleStays, World}
use Rattle.kit_ground.specs.Steps.{place_after}
use Rattle.kit_laws.proofs.Pendings as pendings
use Rattle.kit_queue.specs.declared.entry.Entry.{Entry}
use Rattle.kit_queue.specs.Entries.{entry_of, is_numbered, messages_of, put_entry, entries_without}
use Rattle.kit_queue.proofs.Waiting.{apart_put, apart_without, in_order_put, in_order_without}
use Rattle.kit_rules.specs.Parts.{Parts}
use Rattle.kit_rules.specs.Delivery.{is_pending, is_same, is_transported, pending_messages, retracts}
use Rattle.kit_rules.specs.Step.{is_event, no_message}
use Rattle.kit_lbts.specs.declared.view.Filled.{Filled}
use Rattle.kit_lbts.specs.declared.view.Orphan.{Orphan}
use Rattle.kit_lbts.specs.declared.view.Spent.{Spent}
use Rattle.kit_lbts.specs.declared.view.LbtsView.{LbtsView}
use Rattle.kit_lbts.specs.Views.{messages_delivered, has_receiver, is_orphan, is_spent, receipts, messages_received, time_of}
use Rattle.kit_lbts.specs.Promises.{bound_of}
use Rattle.kit_lbts.specs.Letters.{letter_in}
use Rattle.kit_lbts.specs.MessageLaws.{BodiesKeep, BodiesTell, HasHead, IsTold}
use Rattle.kit_lbts.specs.Progress.{message_in, orphan, view_after, spent, spent_buffer, spent_entry, taken_in}
use Rattle.kit_lbts.specs.Rule.{FederateRule, lbts_rule}
use Rattle.kit_lbts.specs.Seats.{is_event_of, is_orphaned, names, waits_in}
use Rattle.kit_lbts.specs.Ways.{letters_received_from}
use Rattle.kit_lbts.proofs.Arriving as arriving
use Rattle.kit_lbts.proofs.BodySteps.{Lie, Taken, base, receive}
use Rattle.kit_lbts.proofs.Copies.{contains_filter, filter_contains, map_contains, one_number}
use Rattle.kit_lbts.proofs.Hands.{count_append, count_cons, count_last, found_passes, one_if, spent_else, waits_else, waits_here}
use Rattle.kit_lbts.proofs.Pendings.{all_put_entry, and_not_false, any_at, any_gone, any_ordered, any_there, any_without, count_put, entry_any, in_order_filter, in_order_push, messages_put, messages_sieved, none_at, none_is, none_sieved, none_there, none_weaker, orphan_known, orphan_made, orphan_none, orphaned_more, orphans_stay, pending_event, pending_retraction, taken_out}

abbrev P : Type 0
P = Place LbtsView

-- a pair of numbers, as a test
pair_is : (a b c d : ℕ) → (a == b && c == d) ≡ true → (a ≡ b) × (c ≡ d)
pair_is a b c d e = let t = and_parts (a == b) (c == d) e in (eqb-true a b t.0, eqb-true c d t.1)

spent_here : (i k : ℕ) → is_spent i k (spent i k) ≡ true
spent_here i k = (λ t. eq-eqb i i refl t && eq-eqb k k refl t)

module _ (p : P) (i k head : ℕ) (li : i < p.own.federates) (lk : k < p.own.buffers) (has_head : HasHead p i k head) (m : Memory) (places : List P) (w : World lbts_rule p m places) where
  abbrev me : ℕ
  me = p.own.number

  abbrev f : Parts
  f = p.client.federation

  abbrev message : Message
  message = (letter_in (get_or places i p).client k).message

  abbrev rule : FederateRule m places p.own.number p
  rule = w.client.each p.own.number p w.here

  abbrev start : LbtsView
  start = base p i k head li lk has_head m places w

  abbrev Becomes : List Entry → List Spent → List Orphan → Type 0
  Becomes = Taken p i k head li lk has_head m places w

  from : message.sender ≡ i
  from = (arriving.letter p i k head li lk has_head m places w).sender

  late : time_of p.client < message.time
  late = arriving.after_grant p i k head li lk has_head m places w

  alone_waits : count_by (waits_in i k) p.client.queue ≡ 0
  alone_waits = (arriving.alone p i k head li lk has_head m places w).2

  alone_spent : count_by (is_spent i k) p.client.spent ≡ 0
  alone_spent = (arriving.alone p i k head li lk has_head m places w).3

  new : list_any (is_numbered i message.number) (messages_received p.client) ≡ false
  new = arriving.new_number p i k head li lk has_head m places w

  -- ---- what is in the queue is pending
  queue_any : (t : Message → Bool) → list_any t (messages_of p.client.queue) ≡ list_any t (pending_messages f me (messages_delivered p.client) (messages_received p.client))
  queue_any t = ap (list_any t) rule.queue.is ∙ any_ordered t (pending_messages f me (messages_delivered p.client) (messages_received p.client))

  pub entry_clear : entry_of i message.number p.client.queue ≡ None
  entry_clear = none_is (entry_of i message.number p.client.queue) (entry_any i message.number p.client.queue
      ∙ (queue_any (is_numbered i message.number) ∙ none_sieved (is_numbered i message.number) (is_pending f me (messages_delivered p.client) (messages_received p.client)) (messages_received p.client) new))

  entry_new : entry_of message.sender message.number p.client.queue ≡ None
  entry_new = (λ t. entry_of (from t) message.number p.client.queue) ∙ entry_clear

  -- the buffer that is in hand is another than those that are spent and wait
  spent_more : (ss : List Spent) → count_by (is_spent i k) (ss ++ spent i k ∷ []) ≡ count_by (is_spent i k) ss + 1
  spent_more ss = count_last (is_spent i k) ss (spent i k) ∙ ap (λ (b : Bool). count_by (is_spent i k) ss + one_if b) (spent_here i k)

  inside : (spent i k).from < p.own.federates
  inside = li

  -- ---- an Event
  module _ (kind : message.kind ≡ Event) where
    event : is_event message.kind ≡ true
    event = ap is_event kind

    no_name : (a n : ℕ) → names a n message ≡ false
    no_name a n = ap (λ (b : Bool). not b && message.sender == a && message.value == n) event

    is_it : (a n : ℕ) → is_event_of a n message ≡ true → (a ≡ i) × (n ≡ message.number)
    is_it a n e =
        let t = and_parts (is_event message.kind) (is_numbered a n message) e in
        let u = pair_is message.sender a message.number n t.1 in
        (sym u.0 ∙ from, sym u.1)

    none_delivered : list_any (is_same message) (messages_delivered p.client) ≡ false
    none_delivered = none_there (is_same message) (messages_delivered p.client) (λ x has. false_from_ne_true (is_same message x) (λ e.
        let t = and_parts (x.time == message.time && x.sender == message.sender) (x.number == message.number) e in
        let u = and_parts (x.time == message.time) (x.sender == message.sender) t.0 in
        let numbered : is_numbered i message.number x ≡ true = and_from (x.sender == i) (x.number == message.number) (eq-eqb x.sender i (eqb-true x.sender message.sender u.1 ∙ from)) t.1 in
        true≢false (sym numbered ∙ none_at (is_numbered i message.number) (messages_received p.client) x new (All-contains (Contains (messages_received p.client)) (messages_delivered p.client) x rule.heard.came has))))

    -- whether it is pending: where no Retraction of it came
    pending_by : (b : Bool) → list_any (retracts message) (messages_received p.client) ≡ b → is_pending f me (messages_delivered p.client) (messages_received p.client) message ≡ not b
    pending_by b e =
        ap (λ (c : Bool). is_event message.kind && is_transported f message && has_receiver f me message && not (list_any (is_same message) (messages_delivered p.client)) && not c) e
        ∙ front (is_event message.kind) (is_transported f message) (has_receiver f me message) (not (list_any (is_same message) (messages_delivered p.client))) (not b) event
        (arriving.transported p i k head li lk has_head m places w) (arriving.for_me p i k head li lk has_head m places w) (ap not none_delivered)
      where
        front : (a b c d e : Bool) → a ≡ true → b ≡ true → c ≡ true → d ≡ true → (a && b && c && d && e) ≡ e
        front a b c d e ea eb ec ed = (λ t. ea t && eb t && ec t && ed t && e)

    named_is : list_any (retracts message) (messages_received p.client) ≡ list_any (names i message.number) (messages_received p.client)
    named_is = ap (λ (s : ℕ). list_any (names s message.number) (messages_received p.client)) from

    orphan_rule : list_any (is_orphan i message.number) p.client.orphans ≡ (list_any (names i message.number) (messages_received p.client) && not (list_any (is_event_of i message.number) (messages_received p.client)))
    orphan_rule = rule.heard.orphans i message.number

    not_come : list_any (is_event_of i message.number) (messages_received p.client) ≡ false
    not_come = none_weaker (is_numbered i message.number) (is_event_of i message.number) (messages_received p.client) (λ x e. and_right (is_event x.kind) (is_numbered i message.number x) e) new

    -- no Retraction of it came: it waits
    waits : list_any (is_orphan i message.number) p.client.orphans ≡ false → Becomes (put_entry (record { message = message; buffer = Some k }) p.client.queue) p.client.spent p.client.orphans
    waits clear =
        let e : Entry = record { message = message; buffer = Some k } in
        let unnamed : list_any (names i message.number) (messages_received p.client) ≡ false = and_not_false _ _ not_come (sym orphan_rule ∙ clear) in
        let pends : is_pending f me (messages_delivered p.client) (messages_received p.client) message ≡ true = pending_by false (named_is ∙ unnamed) in
        record {
          is = ap (λ (c : Kind). taken_in c i k message start) kind
              ∙ ap (λ (b : Bool). cond b (record start { orphans = filter (λ o. not (is_orphan i message.number o)) start.orphans; spent = start.spent ++ spent i k ∷ [] }) (record start { queue = put_entry e start.queue })) clear;
          here = let c = count_put (waits_in i k) e p.client.queue in let o : one_if (waits_in i k e) ≡ 1 = ap one_if (waits_here i k e from refl) in let a = alone_waits in let b = alone_spent in omega arith;
          others = λ a c apart. let x = count_put (waits_in a c) e p.client.queue in let o : one_if (waits_in a c e) ≡ 0 = ap one_if (waits_else i k a c apart e (waits_here i k e from refl)) in omega arith;
          queue = all_put_entry (λ (e : Entry). (e.message.sender < p.own.federates) × IfSome e.buffer (λ k. k < p.own.buffers)) e p.client.queue (subst (λ (s : ℕ). s < p.own.federates) (sym from) li, lk) rule.holdings.queue;
          spent = rule.holdings.spent;
          ordered = in_order_put e p.client.queue entry_new rule.queue.ordered;
          apart = apart_put e p.client.queue entry_new rule.queue.apart;
          pend = messages_put e p.client.queue
              ∙ (ap (put message) rule.queue.is
              ∙ (sym (in_order_push (pending_messages f me (messages_delivered p.client) (messages_received p.client)) message)
              ∙ ap in_order (sym (pending_event f me (messages_delivered p.client) (messages_received p.client) message event ∙ ap (λ (b : Bool). pending_messages f me (messages_delivered p.client) (messages_received p.client) ++ cond b (message ∷ []) []) pends))));
          ahead = all_put_entry (λ (e : Entry). time_of p.client < e.message.time) e p.client.queue late rule.queue.ahead;
          settled = all_put_entry (λ (e : Entry). e.buffer ≡ None → e.message.time < bound_of p.client) e p.client.queue (λ x. absurd (cc)) rule.queue.settled;
          lies = λ a v same h. all_put_entry (Lie a v) e p.client.queue (λ x. same (sym x ∙ from)) h;
          orphans = λ a n. ⊎_elim
              (λ (it : is_event_of a n message ≡ true).
              let t = is_it a n it in
              (λ x. list_any (is_orphan (t.0 x) (t.1 x)) p.client.orphans) ∙ (clear ∙ sym (orphaned_more a n (messages_received p.client) message
              ∙ orphan_none (list_any (names a n) (messages_received p.client)) (list_any (is_event_of a n) (messages_received p.client)) (names a n message) (is_event_of a n message) it)))
              (λ (it : is_event_of a n message ≡ false).
              rule.heard.orphans a n ∙ sym (orphaned_more a n (messages_received p.client) message
              ∙ orphans_stay (list_any (names a n) (messages_received p.client)) (list_any (is_event_of a n) (messages_received p.client)) (names a n message) (is_event_of a n message) (no_name a n) it))
              (cases_Bool (is_event_of a n message));
        }

    -- its Retraction came: it is forgotten
    forgotten : list_any (is_orphan i message.number) p.client.orphans ≡ true → Becomes p.client.queue (p.client.spent ++ spent i k ∷ []) (filter (λ o. not (is_orphan i message.number o)) p.client.orphans)
    forgotten known =
        let named : list_any (names i message.number) (messages_received p.client) ≡ true = (and_parts _ _ (sym orphan_rule ∙ known)).0 in
        let gone : is_pending f me (messages_delivered p.client) (messages_received p.client) message ≡ false = pending_by true (named_is ∙ named) in
        record {
          is = ap (λ (c : Kind). taken_in c i k message start) kind
              ∙ ap (λ (b : Bool). cond b (record start { orphans = filter (λ o. not (is_orphan i message.number o)) start.orphans; spent = start.spent ++ spent i k ∷ [] }) (record start { queue = put_entry (record { message = message; buffer = Some k }) start.queue })) known;
          here = let c = spent_more p.client.spent in let a = alone_waits in let b = alone_spent in omega arith;
          others = λ a c apart. let x = count_last (is_spent a c) p.client.spent (spent i k) in let o : one_if (is_spent a c (spent i k)) ≡ 0 = ap one_if (spent_else i k a c apart (spent i k) (spent_here i k)) in omega arith;
          queue = rule.holdings.queue;
          spent = All-push (λ (s : Spent). (s.from < p.own.federates) × (s.buffer < p.own.buffers)) p.client.spent (spent i k) rule.holdings.spent (li, lk);
          ordered = rule.queue.ordered;
          apart = rule.queue.apart;
          pend = rule.queue.is ∙ ap in_order (sym (pending_event f me (messages_delivered p.client) (messages_received p.client) message event
              ∙ (ap (λ (b : Bool). pending_messages f me (messages_delivered p.client) (messages_received p.client) ++ cond b (message ∷ []) []) gone ∙ append-nil (pending_messages f me (messages_delivered p.client) (messages_received p.client)))));
          ahead = rule.queue.ahead;
          settled = rule.queue.settled;
          lies = λ a v same h. h;
          orphans = λ a n. ⊎_elim
              (λ (it : is_event_of a n message ≡ true).
              let t = is_it a n it in
              (λ x. list_any (is_orphan (t.0 x) (t.1 x)) (filter (λ o. not (is_orphan i message.number o)) p.client.orphans)) ∙ (any_gone (is_orphan i message.number) p.client.orphans ∙ sym (orphaned_more a n (messages_received p.client) message
              ∙ orphan_none (list_any (names a n) (messages_received p.client)) (list_any (is_event_of a n) (messages_received p.client)) (names a n message) (is_event_of a n message) it)))
              (λ (it : is_event_of a n message ≡ false).
              any_without (is_orphan i message.number) (is_orphan a n) p.client.orphans (λ o e. false_from_ne_true (is_orphan a n o) (λ g.
              let s = pair_is o.from i o.number message.number e in
              let t = pair_is o.from a o.number n g in
              let both : is_event_of a n message ≡ true = and_from (is_event message.kind) (is_numbered a n message) event (and_from (message.sender == a) (message.number == n) (eq-eqb message.sender a (from ∙ (sym s.0 ∙ t.0))) (eq-eqb message.number n (sym s.1 ∙ t.1))) in
              true≢false (sym both ∙ it)))
              ∙ (rule.heard.orphans a n ∙ sym (orphaned_more a n (messages_received p.client) message
              ∙ orphans_stay (list_any (names a n) (messages_received p.client)) (list_any (is_event_of a n) (messages_received p.client)) (names a n message) (is_event_of a n message) (no_name a n) it)))
              (cases_Bool (is_event_of a n message));
        }

  -- ---- a Retraction
  module _ (kind : message.kind ≡ Retraction) where
    no_event : is_event message.kind ≡ false
    no_event = ap is_event kind

    abbrev value : ℕ
    value = message.value

    no_own : (a n : ℕ) → is_event_of a n message ≡ false
    no_own a n = and_left (is_event message.kind) (is_numbered a n message) no_event

    named_by : (a n : ℕ) → names a n message ≡ (i == a && value == n)
    named_by a n = (λ t. not (no_event t) && from t == a && value == n)

    -- ---- where its target does not wait it was not received
    abbrev r : P
    r = get_or places i p

    abbrev sends : List Message
    sends = (get_or places i p).client.state.sends

    abbrev sent_rule : FederateRule m places i (get_or places i p)
    sent_rule = w.client.each i (get_or places i p) (arriving.at p i k head li lk has_head m places w)

    -- what was received of i it sent, to the reader among others
    came_from : (x : Message) → Contains (messages_received p.client) x → x.sender ≡ i → (has_receiver f me x ≡ true) × (is_transported f x ≡ true) × Contains sends x
    came_from x has of =
        let t = map_contains (λ (g : Filled). g.message) (receipts p.client) x has in
        let mail : Contains (letters_received_from i p.client) t.0 = filter_contains (λ (g : Filled). g.message.sender == i) (receipts p.client) t.0 (eq-eqb t.0.message.sender i (ap (λ (y : Message). y.sender) t.2 ∙ of)) t.1 in
        let s = arriving.sent_of p i k head li lk has_head m places w t.0 (arriving.received_posted p i k head li lk has_head m places w t.0 mail) in
        (subst (λ (y : Message). has_receiver f me y ≡ true) t.2 s.0, subst (λ (y : Message). is_transported f y ≡ true) t.2 s.1, subst (Contains sends) t.2 s.2)

    own_sent : Contains sends message
    own_sent = arriving.in_sends p i k head li lk has_head m places w

    target_waits : (e : Message) → Contains (messages_received p.client) e → is_event_of i value e ≡ true → is_pending f me (messages_delivered p.client) (messages_received p.client) e ≡ true
    target_waits e has it =
        let t = and_parts (is_event e.kind) (is_numbered i value e) it in
        let u = pair_is e.sender i e.number value t.1 in
        let s = came_from e has u.0 in
        let back = sent_rule.sends.takes_back in
        let target = All-contains (λ (r : Message). is_event r.kind ≡ false → (x : Message) × Contains sends x × (is_event x.kind ≡ true) × (x.number ≡ r.value) × (x.time ≡ r.time) × (x.group ≡ r.group)) sends message back.target own_sent no_event in
        let same : e ≡ target.0 = one_number 1 sends no_message (λ x lx. sent_rule.sends.numbered x lx ∙ (let z : x + 1 ≡ 1 + x = omega arith in z)) e target.0 s.2 target.1 (u.1 ∙ sym target.3) in
        let time : e.time ≡ message.time = ap (λ (y : Message). y.time) same ∙ target.4 in
        let undelivered : list_any (is_same e) (messages_delivered p.client) ≡ false = none_there (is_same e) (messages_delivered p.client) (λ x hx. false_from_ne_true (is_same e x) (λ g.
        let a = and_parts (x.time == e.time && x.sender == e.sender) (x.number == e.number) g in
        let b = and_parts (x.time == e.time) (x.sender == e.sender) a.0 in
        let at : x.time ≡ e.time = eqb-true x.time e.time b.0 in
        let past = All-contains (λ (y : Message). y.time ≤ time_of p.client) (messages_delivered p.client) x rule.heard.past hx in
        let l = late in
        omega arith)) in
        let unnamed : list_any (retracts e) (messages_received p.client) ≡ false = none_there (retracts e) (messages_received p.client) (λ x hx. false_from_ne_true (retracts e x) (λ g.
        let a = and_parts (not (is_event x.kind) && x.sender == e.sender) (x.value == e.number) g in
        let b = and_parts (not (is_event x.kind)) (x.sender == e.sender) a.0 in
        let of : x.sender ≡ i = eqb-true x.sender e.sender b.1 ∙ u.0 in
        let named : message.value ≡ x.value = sym u.1 ∙ sym (eqb-true x.value e.number a.1) in
        let once = All-contains (λ (y : Message). is_event message.kind ≡ false → is_event y.kind ≡ false → message.value ≡ y.value → message.number ≡ y.number) sends x
        (All-contains (λ (r : Message). All (λ (s : Message). is_event r.kind ≡ false → is_event s.kind ≡ false → r.value ≡ s.value → r.number ≡ s.number) sends) sends message back.once own_sent) (came_from x hx of).2 in
        let number : message.number ≡ x.number = once no_event (not-true (is_event x.kind) b.0) named in
        let numbered : is_numbered i message.number x ≡ true = and_from (x.sender == i) (x.number == message.number) (eq-eqb x.sender i of) (eq-eqb x.number message.number (sym number)) in
        true≢false (sym numbered ∙ none_at (is_numbered i message.number) (messages_received p.client) x new hx))) in
        (λ x. t.0 x && s.1 x && s.0 x && not (undelivered x) && not (unnamed x))

    target_gone : is_some (entry_of i value p.client.queue) ≡ false → list_any (is_event_of i value) (messages_received p.client) ≡ false
    target_gone none = false_from_ne_true (list_any (is_event_of i value) (messages_received p.client)) (λ any.
        let t = any_there (is_event_of i value) (messages_received p.client) any in
        let pends = filter_contains (is_pending f me (messages_delivered p.client) (messages_received p.client)) (messages_received p.client) t.0 (target_waits t.0 t.1 t.2) t.1 in
        let numbered = (and_parts (is_event t.0.kind) (is_numbered i value t.0) t.2).1 in
        true≢false (sym (entry_any i value p.client.queue ∙ (queue_any (is_numbered i value) ∙ any_at (is_numbered i value) (pending_messages f me (messages_delivered p.client) (messages_received p.client)) t.0 pends numbered)) ∙ none))

    target_came : is_some (entry_of i value p.client.queue) ≡ true → list_any (is_event_of i value) (messages_received p.client) ≡ true
    target_came there =
        let t = any_there (is_numbered i value) (pending_messages f me (messages_delivered p.client) (messages_received p.client)) (sym (entry_any i value p.client.queue ∙ queue_any (is_numbered i value)) ∙ there) in
        let u = contains_filter (is_pending f me (messages_delivered p.client) (messages_received p.client)) (messages_received p.client) t.0 t.1 in
        any_at (is_event_of i value) (messages_received p.client) t.0 u.1 (and_from (is_event t.0.kind) (is_numbered i value t.0) (pendings.pending_event f me (messages_delivered p.client) (messages_received p.client) t.0 u.0) t.2)

    abbrev left : List Spent
    left = p.client.spent ++ spent i k ∷ spent_entry i (entry_of i message.value p.client.queue)

    left_counts : (a c : ℕ) → count_by (is_spent a c) left ≡ count_by (is_spent a c) p.client.spent + one_if (is_spent a c (spent i k)) + count_by (is_spent a c) (spent_entry i (entry_of i value p.client.queue))
    left_counts a c =
        let x = count_append (is_spent a c) p.client.spent (spent i k ∷ spent_entry i (entry_of i value p.client.queue)) in
        let y = count_cons (is_spent a c) (spent i k) (spent_entry i (entry_of i value p.client.queue)) in
        omega arith

    spent_inside : All (λ (s : Spent). (s.from < p.own.federates) × (s.buffer < p.own.buffers)) (spent_entry i (entry_of i value p.client.queue))
    spent_inside = by (entry_of i value p.client.queue) refl
      where
        in_buffer : (o : Option ℕ) → IfSome o (λ k. k < p.own.buffers) → All (λ (s : Spent). (s.from < p.own.federates) × (s.buffer < p.own.buffers)) (spent_buffer i o)
        in_buffer None h = All-nil (λ (s : Spent). (s.from < p.own.federates) × (s.buffer < p.own.buffers))
        in_buffer (Some b) h = All-cons (λ (s : Spent). (s.from < p.own.federates) × (s.buffer < p.own.buffers)) (spent i b) [] (li, h) (All-nil (λ (s : Spent). (s.from < p.own.federates) × (s.buffer < p.own.buffers)))

        by : (o : Option Entry) → entry_of i value p.client.queue ≡ o → All (λ (s : Spent). (s.from < p.own.federates) × (s.buffer < p.own.buffers)) (spent_entry i o)
        by None is = All-nil (λ (s : Spent). (s.from < p.own.federates) × (s.buffer < p.own.buffers))
        by (Some e) is =
            let t = found_passes (λ (e : Entry). is_numbered i value e.message) p.client.queue e is in
            in_buffer e.buffer (All-contains (λ (e : Entry). (e.message.sender < p.own.federates) × IfSome e.buffer (λ k. k < p.own.buffers)) p.client.queue e rule.holdings.queue t.1).1

    orphans_by : (b : Bool) → is_some (entry_of i value p.client.queue) ≡ b → (a n : ℕ)
        → list_any (is_orphan a n) (cond b p.client.orphans (p.client.orphans ++ orphan i value ∷ [])) ≡ is_orphaned a n (messages_received p.client ++ message ∷ [])
    orphans_by true is a n = ⊎_elim
        (λ (it : (i == a && value == n) ≡ true).
        let t = pair_is i a value n it in
        let came : list_any (is_event_of a n) (messages_received p.client) ≡ true = (λ x. list_any (is_event_of (sym t.0 x) (sym t.1 x)) (messages_received p.client)) ∙ target_came is in
        rule.heard.orphans a n ∙ (and_right (list_any (names a n) (messages_received p.client)) (not (list_any (is_event_of a n) (messages_received p.client))) (ap not came)
        ∙ sym (orphaned_more a n (messages_received p.client) message ∙ orphan_known (list_any (names a n) (messages_received p.client)) (list_any (is_event_of a n) (messages_received p.client)) (names a n message) (is_event_of a n message) came)))
        (λ (it : (i == a && value == n) ≡ false).
        rule.heard.orphans a n ∙ sym (orphaned_more a n (messages_received p.client) message
        ∙ orphans_stay (list_any (names a n) (messages_received p.client)) (list_any (is_event_of a n) (messages_received p.client)) (names a n message) (is_event_of a n message) (named_by a n ∙ it) (no_own a n)))
        (cases_Bool (i == a && value == n))
    orphans_by false is a n = list_any-append (is_orphan a n) p.client.orphans (orphan i value ∷ []) ∙ ⊎_elim
        (λ (it : (i == a && value == n) ≡ true).
        let t = pair_is i a value n it in
        let away : list_any (is_event_of a n) (messages_received p.client) ≡ false = (λ x. list_any (is_event_of (sym t.0 x) (sym t.1 x)) (messages_received p.client)) ∙ target_gone is in
        or_right (list_any (is_orphan a n) p.client.orphans) ((i == a && value == n) || false) (ap (λ b. b || false) it)
        ∙ sym (orphaned_more a n (messages_received p.client) message
        ∙ orphan_made (list_any (names a n) (messages_received p.client)) (list_any (is_event_of a n) (messages_received p.client)) (names a n message) (is_event_of a n message) (named_by a n ∙ it) away (no_own a n)))
        (λ (it : (i == a && value == n) ≡ false).
        ap (λ b. list_any (is_orphan a n) p.client.orphans || (b || false)) it
        ∙ (either (list_any (is_orphan a n) p.client.orphans) ∙ (rule.heard.orphans a n ∙ sym (orphaned_more a n (messages_received p.client) message
        ∙ orphans_stay (list_any (names a n) (messages_received p.client)) (list_any (is_event_of a n) (messages_received p.client)) (names a n message) (is_event_of a n message) (named_by a n ∙ it) (no_own a n)))))
        (cases_Bool (i == a && value == n))
      where
        either : (b : Bool) → (b || false) ≡ b
        either true = refl
        either false = refl

    retracts_is : (x : Message) → not (is_numbered i value x) ≡ not (retracts x message)
    retracts_is x = ap not ((λ t. nat_eq_equiv.symm x.sender i t && nat_eq_equiv.symm x.number value t) ∙ (λ t. not (sym no_event t) && sym from t == x.sender && value == x.number))

    taken_back : Becomes (entries_without i message.value p.client.queue) left (cond (is_some (entry_of i message.value p.client.queue)) p.client.orphans (p.client.orphans ++ orphan i message.value ∷ []))
    taken_back = record {
      is = ap (λ (c : Kind). taken_in c i k message start) kind;
      here =
          let x = taken_out i k i value p.client.queue rule.queue.apart in
          let y = left_counts i k in
          let o : one_if (is_spent i k (spent i k)) ≡ 1 = ap one_if (spent_here i k) in
          let a = alone_waits in let b = alone_spent in omega arith;
      others = λ a c apart.
          let x = taken_out a c i value p.client.queue rule.queue.apart in
          let y = left_counts a c in
          let o : one_if (is_spent a c (spent i k)) ≡ 0 = ap one_if (spent_else i k a c apart (spent i k) (spent_here i k)) in
          omega arith;
      queue = All-filter (λ e. not (is_numbered i value e.message)) (λ (e : Entry). (e.message.sender < p.own.federates) × IfSome e.buffer (λ k. k < p.own.buffers)) p.client.queue rule.holdings.queue;
      spent = All-append (λ (s : Spent). (s.from < p.own.federates) × (s.buffer < p.own.buffers)) p.client.spent (spent i k ∷ spent_entry i (entry_of i value p.client.queue)) rule.holdings.spent
          (All-cons (λ (s : Spent). (s.from < p.own.federates) × (s.buffer < p.own.buffers)) (spent i k) (spent_entry i (entry_of i value p.client.queue)) (li, lk) spent_inside);
      ordered = in_order_without i value p.client.queue rule.queue.ordered;
      apart = apart_without i value p.client.queue rule.queue.apart;
      pend = messages_sieved (λ x. not (is_numbered i value x)) p.client.queue
          ∙ (ap (filter (λ x. not (is_numbered i value x))) rule.queue.is
          ∙ (sym (in_order_filter (λ x. not (is_numbered i value x)) (pending_messages f me (messages_delivered p.client) (messages_received p.client)))
          ∙ ap in_order (filter_agree (λ x. not (is_numbered i value x)) (λ x. not (retracts x message)) retracts_is (pending_messages f me (messages_delivered p.client) (messages_received p.client))
          ∙ sym (pending_retraction f me (messages_delivered p.client) (messages_received p.client) message no_event))));
      ahead = All-filter (λ e. not (is_numbered i value e.message)) (λ (e : Entry). time_of p.client < e.message.time) p.client.queue rule.queue.ahead;
      settled = All-filter (λ e. not (is_numbered i value e.message)) (λ (e : Entry). e.buffer ≡ None → e.message.time < bound_of p.client) p.client.queue rule.queue.settled;
      lies = λ a v same h. All-filter (λ e. not (is_numbered i value e.message)) (Lie a v) p.client.queue h;
      orphans = λ a n. orphans_by (is_some (entry_of i value p.client.queue)) refl a n;
    }

  pub whole : RuleStays lbts_rule m places (with_word m (Part i k 1) (m (Part i k 1))) (slice_set places p.own.number (place_after view_after (ReadPart i k 1 (m (Part i k 1))) p))
  whole = by message.kind refl
    where
      by : (c : Kind) → message.kind ≡ c → RuleStays lbts_rule m places (with_word m (Part i k 1) (m (Part i k 1))) (slice_set places p.own.number (place_after view_after (ReadPart i k 1 (m (Part i k 1))) p))
      by Event is = ⊎_elim
          (λ (e : list_any (is_orphan i message.number) p.client.orphans ≡ true). receive p i k head li lk has_head m places w _ _ _ (forgotten is e))
          (λ (e : list_any (is_orphan i message.number) p.client.orphans ≡ false). receive p i k head li lk has_head m places w _ _ _ (waits is e))
          (cases_Bool (list_any (is_orphan i message.number) p.client.orphans))
      by Retraction is = receive p i k head li lk has_head m places w _ _ _ (taken_back is)

pub bodies_keep : BodiesKeep lbts_rule
bodies_keep p i k head li lk has_head m places w = whole p i k head li lk has_head m places w

pub bodies_tell : BodiesTell lbts_rule
bodies_tell p i k head word li lk has_head told =
    let m : Memory = told.0 in
    let places : List P = told.1 in
    let w = told.2 in
    let letter : Filled = letter_in (get_or places i p).client k in
    let is : letter.message ≡ message_in i head word = sym (arriving.message_is p i k head li lk has_head m places w) ∙ ap (message_in i head) told.3 in
    subst (IsTold p i) is (record {
      bound = arriving.at_bound p i k head li lk has_head m places w;
      late = arriving.after_grant p i k head li lk has_head m places w;
      for_it = arriving.for_me p i k head li lk has_head m places w;
      transported = arriving.transported p i k head li lk has_head m places w;
      number = arriving.number_within p i k head li lk has_head m places w letter.message (arriving.in_sends p i k head li lk has_head m places w);
      named = arriving.named_within p i k head li lk has_head m places w;
      unheard = arriving.new_number p i k head li lk has_head m places w;
      new = entry_clear p i k head li lk has_head m places w;
      posted = (m, places, get_or places i p, w, arriving.at p i k head li lk has_head m places w, (letter.colour, arriving.posted p i k head li lk has_head m places w));
    })
