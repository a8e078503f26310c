-- To publish the clock grants the due time, and keeps the rule.
use Rattle.std.proofs.Common.{◌≡◌, ◌≢◌, ℕ, ◌+◌, ◌-◌, ◌<◌, ◌≤◌, ◌||◌, not, nat_le, nat_lt, inl, inr, ⊎_elim, Bool, true, false, cond, List, [], ◌∷◌, ◌++◌, length, map, filter, drop, get_or, Option, Some, None, IfSome, refl, sym, ap, ◌∙◌, subst, arith, true≢false}
use Rattle.std.specs.List.{All, AllByRecursion, Contains, IsDistinct, filter_map}
use Rattle.std.specs.List.Sorted.{IsStrictlySortedBy}
use Rattle.std.specs.Prelude.{slice_set}
use Rattle.std.proofs.lemmas.Bool.{lt-ltb, ltb-true}
use Rattle.std.proofs.lemmas.List.{append-nil, drop_at, length-append, map-append}
use Rattle.std.proofs.lemmas.List.Elements.{All-append, All-contains, All-contains_itself, All-filter, All-from_recursion, All-map, All-weaker, Contains-append_right, Contains-get_or, filter-append, filter_map-append, filter_passes, recursion_from_All}
use Rattle.std.proofs.lemmas.List.Kept.{IsStrictlySortedBy-filter}
use Rattle.kit_base.specs.declared.message.Message.{Message}
use Rattle.kit_base.specs.Order.{key_cmp}
use Rattle.kit_ground.specs.declared.address.Address.TheVariants.{Register}
use Rattle.kit_ground.specs.declared.address.Reg.{Reg}
use Rattle.kit_ground.specs.declared.place.Deed.TheVariants.{Published}
use Rattle.kit_ground.specs.declared.place.Place.{Place}
use Rattle.kit_ground.specs.Memory.{Memory, with_word}
use Rattle.kit_ground.specs.Rules.{World}
use Rattle.kit_ground.specs.Steps.{place_after, own_after}
use Rattle.kit_ground.proofs.Lists.{at_inside}
use Rattle.kit_ground.proofs.Memories.{register_else, stored_here}
use Rattle.kit_laws.proofs.Pendings.{From, due_capped, due_from}
use Rattle.kit_laws.proofs.Sane as sane
use Rattle.kit_model.specs.declared.journal.JournalEntry.{JournalEntry}
use Rattle.kit_model.specs.declared.journal.JournalEntry.TheVariants.{Delivered, Granted}
use Rattle.kit_model.specs.Journals.{IsLawful, last_grant}
use Rattle.kit_model.proofs.Lawful.{grants_are_lawful, last_grant-push}
use Rattle.kit_parts.specs.Queues.{queue_of}
use Rattle.kit_parts.proofs.Among as among
use Rattle.kit_parts.proofs.Gains.{Gain, Named, Once, gain_by_block}
use Rattle.kit_parts.proofs.InOrder.{due_is_received_law}
use Rattle.kit_parts.proofs.Queueing.{queue_delivers_law, queue_keeps_law}
use Rattle.kit_queue.specs.declared.entry.Entry.{Entry}
use Rattle.kit_queue.specs.Entries.{messages_of, shares_number}
use Rattle.kit_queue.proofs.Keys.{distinct_filter}
use Rattle.kit_rounds.specs.Ledgers.{Ledger}
use Rattle.kit_rules.specs.declared.scene.State.{State}
use Rattle.kit_rules.specs.declared.table.Request.{Request}
use Rattle.kit_rules.specs.Delivery.{due_messages, due_time, is_transported}
use Rattle.kit_rules.specs.Federation.{IsFederation}
use Rattle.kit_rules.specs.Parts.{Parts}
use Rattle.kit_rules.specs.Simulation.{after_block, request_at}
use Rattle.kit_rules.specs.Step.{is_event, no_message}
use Rattle.kit_rules.proofs.Growth.{AreNumbered, AreNumbered-append, Grows}
use Rattle.kit_lbts.specs.declared.view.Filled.{Filled}
use Rattle.kit_lbts.specs.declared.view.Noted.{Noted}
use Rattle.kit_lbts.specs.declared.view.LbtsView.{LbtsView}
use Rattle.kit_lbts.specs.Views.{messages_delivered, delivery_of, due_by, due_of, entries_of, is_empty, has_receiver, is_new, is_waiting, receipts, messages_received, time_of, transported_of}
use Rattle.kit_lbts.specs.Promises.{added_of, bound_of, ledgers_of}
use Rattle.kit_lbts.specs.Reduction.{reg_of}
use Rattle.kit_ground.specs.Layout.{clock_of}
use Rattle.kit_lbts.specs.Registers.{ShowsRound, Learnt, Registers, word_at}
use Rattle.kit_lbts.specs.Letters.{Letters, letter_in}
use Rattle.kit_lbts.specs.Seats.{AreChargedOnce, Granting, Receiving, Holdings, Queue, Sends, TakeBack, is_orphaned, left_of, most_sends}
use Rattle.kit_lbts.specs.Ways.{Way, WayBetween, mark_in_mail, letters_posted_to}
use Rattle.kit_lbts.specs.Progress.{due_in, view_after_grant, note_of, view_after}
use Rattle.kit_lbts.specs.PublishLaws.{GrantsKeep}
use Rattle.kit_lbts.specs.Rule.{LbtsRule, FederateRule, lbts_rule}
use Rattle.kit_laws.proofs.Joins.{grows_by_block}
use Rattle.kit_lbts.proofs.Blocks.{asked_after, delivered_lawful, deliveries_in, held_on, numbered_from, wish_by_block}
use Rattle.kit_lbts.proofs.Charging.{AreInPlace, more_behind, more_sent}
use Rattle.kit_lbts.proofs.Changes.{ChangedAt, Was, still, ways_to}
use Rattle.kit_lbts.proofs.Copies.{one_number}
use Rattle.kit_lbts.proofs.Dues.{adds, due_between}
use Rattle.kit_lbts.proofs.LetterFacts.{letters_aside}
use Rattle.kit_lbts.proofs.Pendings.{messages_sieved}
use Rattle.kit_lbts.proofs.Publishing.{Lasts, lasts, learnt_on, published_at, shown_on}
use Rattle.kit_lbts.proofs.ReadySteps.{granted_time, grants_are, same_receipts}
use Rattle.kit_lbts.proofs.RoundSteps.{rises_keep_rounds}
use Rattle.kit_lbts.proofs.SendSteps.{left_none}
use Rattle.kit_lbts.proofs.Starting.{numbered_at, numbered_own}
use Rattle.kit_lbts.proofs.Ways.{sent, way_still}

abbrev P : Type 0
P = Place LbtsView

some_of : {X : Type 0} (o : Option X) → o ≢ None → (x : X) × (o ≡ Some x)
some_of None h = absurd (h refl)
some_of (Some x) h = (x, refl)

pub some_is : {X : Type 0} {a b : X} → Some a ≡ Some b → a ≡ b
some_is {X} {a} {b} h = cc

-- the messages of the entries of a grant
entries_due : (d : ℕ) (due : List Message) → map (λ (e : Noted). e.entry) (map (λ m. note_of (Delivered d m)) due) ≡ map (Delivered d) due
entries_due d [] = refl
entries_due d (m ∷ ms) = ap (λ (l : List JournalEntry). Delivered d m ∷ l) (entries_due d ms)

-- a channel whose reader has left out some that waited
way_granted : (b : ℕ) (mail : ℕ → ℕ) (i j : ℕ) (v u u' : LbtsView) (keep : Entry → Bool) → receipts u' ≡ receipts u → u'.in_hand ≡ u.in_hand → u'.queue ≡ filter keep u.queue
    → Way b mail i j v u → Way b mail i j v u'
way_granted b mail i j v u u' keep r h q w =
    let less : LbtsView = record u { queue = filter keep u.queue } in
    let first : Way b mail i j v less = record {
      copies = w.copies;
      heads = w.heads;
      lies = All-filter keep (λ (e : Entry). e.message.sender ≡ i → IfSome e.buffer (λ k. (letter_in v k).message ≡ e.message)) u.queue w.lies;
    } in
    way_still b mail mail i j v less v u' (λ k lk. refl) refl (λ t. (r t, h t, q t)) first

module _ (p : P) (asked : p.client.request ≢ None) (none : p.client.outbox ≡ []) (lt : time_of p.client < p.client.federation.end) (below : due_of p.client < bound_of p.client)
    (loose : All (λ (e : Entry). e.message.time ≤ due_of p.client → e.buffer ≡ None) p.client.queue) (m : Memory) (places : List P) (w : World lbts_rule p m places) where
  abbrev me : ℕ
  me = p.own.number

  abbrev f : Parts
  f = p.client.federation

  abbrev v : LbtsView
  v = p.client

  abbrev d : ℕ
  d = due_of p.client

  abbrev r : Reg
  r = clock_of p.own.number

  abbrev now : Memory
  now = with_word m (Register (clock_of p.own.number)) (due_of p.client)

  abbrev due : List Message
  due = due_in (due_of p.client) p.client.queue

  abbrev after : State
  after = after_block p.client.federation p.own.number (due_of p.client) p.client.state (due_in (due_of p.client) p.client.queue)

  abbrev then : LbtsView
  then = view_after_grant p.own.number (due_of p.client) p.client

  abbrev q : P
  q = record { own = own_after (Published (clock_of p.own.number) (due_of p.client)) p.own; client = view_after_grant p.own.number (due_of p.client) p.client }

  abbrev n : ℕ
  n = length places

  abbrev ledgers : ℕ → Ledger
  ledgers = ledgers_of places

  abbrev ledgers_after : ℕ → Ledger
  ledgers_after = ledgers_of (slice_set places p.own.number q)

  mine : FederateRule m places p.own.number p
  mine = w.client.each me p w.here

  inside : p.own.number < length places
  inside = at_inside places me p w.here

  pub sound : IsFederation p.client.federation
  sound = subst IsFederation (sym (w.client.common.each me p w.here).0) w.client.common.sound

  pub within : p.own.number < length p.client.federation.federates
  within = subst (λ (x : Parts). me < length x.federates) (sym (w.client.common.each me p w.here).0) (subst (λ (n : ℕ). me < n) w.client.common.many inside)

  -- ---- the request and the time
  pub request : (x : Request) × (p.client.request ≡ Some x)
  request = some_of p.client.request asked

  pub due_is : due_of p.client ≡ due_time request.0 (messages_of p.client.queue)
  due_is = ap (λ (o : Option Request). due_by o (messages_of v.queue)) request.1

  between : (time_of p.client < due_of p.client) × (due_of p.client ≤ p.client.federation.end)
  between = due_between me p mine.granting mine.queue asked lt

  later : time_of p.client < due_of p.client
  later = between.0

  in_time : due_of p.client ≤ p.client.federation.end
  in_time = between.1

  capped : due_of p.client ≤ sane.time_of request.0
  capped = omega (arith, due_is, due_capped request.0 (messages_of v.queue))

  pub time_is : time_of then ≡ due_of p.client
  time_is = granted_time me d v

  -- ---- what is delivered
  queue_is : messages_of p.client.queue ≡ queue_of p.client.federation p.own.number (messages_delivered p.client) (messages_received p.client)
  queue_is = mine.queue.is

  pub due_messages_are : due ≡ due_messages p.client.federation p.own.number (due_of p.client) (messages_delivered p.client) (messages_received p.client)
  due_messages_are =
      messages_sieved (λ x. nat_le x.time d) v.queue ∙ ap (filter (λ (x : Message). nat_le x.time d)) queue_is
      ∙ sym (queue_delivers_law f me d (messages_delivered v) (messages_received v))

  receipts_are : receipts then ≡ receipts p.client
  receipts_are = same_receipts d due v.journal

  pub received_is : messages_received then ≡ messages_received p.client
  received_is = ap (map (λ (x : Filled). x.message)) receipts_are

  pub entries_are : entries_of then ≡ (entries_of p.client ++ map (Delivered d) due) ++ Granted d ∷ []
  entries_are =
      map-append (λ (e : Noted). e.entry) (v.journal ++ map (λ x. note_of (Delivered d x)) due) (note_of (Granted d) ∷ [])
      ∙ ap (λ (l : List JournalEntry). l ++ Granted d ∷ []) (map-append (λ (e : Noted). e.entry) v.journal (map (λ x. note_of (Delivered d x)) due) ∙ ap (λ (l : List JournalEntry). entries_of v ++ l) (entries_due d due))

  pub delivered_is : messages_delivered then ≡ messages_delivered p.client ++ due
  delivered_is =
      ap (filter_map delivery_of) entries_are ∙ filter_map-append delivery_of (entries_of v ++ map (Delivered d) due) (Granted d ∷ [])
      ∙ append-nil (filter_map delivery_of (entries_of v ++ map (Delivered d) due))
      ∙ filter_map-append delivery_of (entries_of v) (map (Delivered d) due)
      ∙ ap (λ (l : List Message). messages_delivered v ++ l) (deliveries_in d due)

  -- ---- what was sent
  grow : Grows p.own.number p.client.state after
  grow = grows_by_block f me d v.state due

  gain : Gain (due_of p.client + added_of p) p.client.state after
  gain = gain_by_block f me d v.state due sound within

  more_is : drop (length p.client.state.sends) after.sends ≡ gain.made
  more_is = ap (drop (length v.state.sends)) gain.sends ∙ drop_at v.state.sends gain.made (length v.state.sends) refl

  outbox_is : then.outbox ≡ filter (is_transported p.client.federation) gain.made
  outbox_is = (λ t. none t ++ filter (is_transported f) (more_is t))

  late : All (λ (x : Message). due_of p.client + added_of p ≤ x.time) gain.made
  late = All-from_recursion (From (d + added_of p)) gain.made gain.late

  sending_none : p.client.sending ≡ None
  sending_none = by p.client.sending refl
    where
      by : (o : Option ℕ) → p.client.sending ≡ o → o ≡ None
      by None is = refl
      by (Some k) is = let h = (mine.letters.sending k is).outbox in let e = none in absurd (cc)

  -- ---- the rule of the seat
  registers : Registers now n ledgers_after p.own.number q
  registers =
      let last : Lasts ledgers ledgers_after = lasts p m places w now q refl [] (sym (append-nil v.contributions)) in
      let c : ℕ = length v.contributions in
      let same : (stage round : ℕ) → stage < 6 → word_at m me stage round ≡ word_at now me stage round =
      λ stage round less. sym (register_else m r (reg_of me stage round) d (λ _ e. omega (arith, e, less))) in
      record {
        now = λ stage less does. ⊎_elim
            (λ (h : ShowsRound n ledgers me stage c (word_at m me stage c)). inl (subst (ShowsRound n ledgers_after me stage c) (same stage c less) (shown_on n ledgers ledgers_after last me stage c (word_at m me stage c) h)))
            (λ (h : ShowsRound n ledgers me stage (c - 2) (word_at m me stage c)). inr (subst (ShowsRound n ledgers_after me stage (c - 2)) (same stage c less) (shown_on n ledgers ledgers_after last me stage (c - 2) (word_at m me stage c) h)))
            (mine.registers.now stage less does);
        before = λ stage less does.
            subst (ShowsRound n ledgers_after me stage (c - 1)) (same stage (c + 1) less) (shown_on n ledgers ledgers_after last me stage (c - 1) (word_at m me stage (c + 1)) (mine.registers.before stage less does));
        unused = λ stage round less none. sym (same stage round less) ∙ mine.registers.unused stage round less none;
        clock = stored_here m (Register r) d ∙ sym time_is;
        lows = mine.registers.lows;
      }

  learnt : Learnt n ledgers_after p.own.number q
  learnt =
      let h = learnt_on n ledgers ledgers_after (lasts p m places w now q refl [] (sym (append-nil v.contributions))) (omega (arith, inside)) me p mine.learnt in
      record { under_way = h.under_way; fresh = h.fresh; few = h.few; taken = h.taken; results = h.results }

  letters : Letters now p.own.number q
  letters =
      let old = letters_aside m now me p (λ x lx on. on) (λ x y lx on. refl) mine.letters in
      record {
        sized = old.sized;
        counted = old.counted;
        sending = λ x is. absurd (let e = sending_none in (cc));
        others = old.others;
      }

  abbrev keep : Entry → Bool
  keep e = nat_lt (due_of p.client) e.message.time

  holdings : Holdings q
  holdings =
      let old = mine.holdings in
      record {
        each = λ i k li lk. let a = old.each i k li lk in let b = held_on i k d v.queue loose in omega arith;
        in_hand = old.in_hand;
        queue = All-filter keep (λ (e : Entry). (e.message.sender < p.own.federates) × IfSome e.buffer (λ k. k < p.own.buffers)) v.queue old.queue;
        spent = old.spent;
      }

  queue : Queue p.own.number q
  queue =
      let old = mine.queue in
      let sieve : Message → Bool = λ x. nat_lt d x.time in
      let sieved : messages_of then.queue ≡ filter sieve (messages_of v.queue) = messages_sieved sieve v.queue in
      record {
        ordered = subst (IsStrictlySortedBy key_cmp) (sym sieved) (IsStrictlySortedBy-filter key_cmp sieve (messages_of v.queue) old.ordered);
        apart = subst (IsDistinct shares_number) (sym sieved) (distinct_filter sieve (messages_of v.queue) old.apart);
        is =
            sieved ∙ ap (filter sieve) queue_is ∙ sym (queue_keeps_law f me d (messages_delivered v) (messages_received v))
            ∙ (λ t. queue_of f me ((ap (λ (l : List Message). messages_delivered v ++ l) (sym due_messages_are) ∙ sym delivered_is) t) (sym received_is t));
        ahead = subst (λ (x : ℕ). All (λ (e : Entry). x < e.message.time) then.queue) (sym time_is)
            (All-weaker (λ (e : Entry). keep e ≡ true) (λ (e : Entry). d < e.message.time) (λ e h. ltb-true d e.message.time h) then.queue (filter_passes keep v.queue));
        settled = All-filter keep (λ (e : Entry). e.buffer ≡ None → e.message.time < bound_of v) v.queue old.settled;
      }

  heard : Receiving then
  heard =
      let old = mine.heard in
      let ds : List Message = due_messages f me d (messages_delivered v) (messages_received v) in
      let tells : (x : Message) → Contains ds x → Contains (messages_received v) x × (x.time ≤ d) = λ x c. let t = due_is_received_law f me d (messages_delivered v) (messages_received v) x c in (t.0, t.1) in
      let came : All (Contains (messages_received v)) ds = All-weaker (Contains ds) (Contains (messages_received v)) (λ x c. (tells x c).0) ds (All-contains_itself ds) in
      let past : All (λ (x : Message). x.time ≤ d) ds = All-weaker (Contains ds) (λ (x : Message). x.time ≤ d) (λ x c. (tells x c).1) ds (All-contains_itself ds) in
      let all : messages_delivered v ++ ds ≡ messages_delivered then = ap (λ (l : List Message). messages_delivered v ++ l) (sym due_messages_are) ∙ sym delivered_is in
      record {
        orphans = λ i k. old.orphans i k ∙ ap (is_orphaned i k) (sym received_is);
        came = subst (λ (x : List Message × List Message). All (Contains x.0) x.1) (λ t. (sym received_is t, all t)) (All-append (Contains (messages_received v)) (messages_delivered v) ds old.came came);
        past = subst (λ (x : ℕ × List Message). All (λ (y : Message). y.time ≤ x.0) x.1) (λ t. (sym time_is t, all t))
            (All-append (λ (x : Message). x.time ≤ d) (messages_delivered v) ds (All-weaker (λ (x : Message). x.time ≤ time_of v) (λ (x : Message). x.time ≤ d) (λ x h. omega (arith, h, later)) (messages_delivered v) old.past) past);
      }

  granting : Granting q
  granting =
      let old = mine.granting in
      let front = delivered_lawful d due (entries_of v) old.lawful in
      let es : List JournalEntry = entries_of v ++ map (Delivered d) due in
      record {
        lawful = subst IsLawful (sym entries_are) (grants_are_lawful es d front.0 (omega (arith, front.1, later))).0;
        below = subst (λ (o : Option ℕ). IfSome o (λ t. t < bound_of v)) (sym (ap last_grant entries_are ∙ last_grant-push es (Granted d))) below;
        within = omega (arith, time_is, in_time);
        wish = wish_by_block f me d v.state due sound within old.wish;
        asked = λ x is less.
            let early : d < f.end = omega (arith, time_is, less) in
            let made : then.request ≡ Some (request_at after.wish d f.end) = ap (λ (b : Bool). cond b (Some (request_at after.wish d f.end)) v.request) (lt-ltb d f.end early) in
            some_is (sym is ∙ made) ∙ ap (λ (t : ℕ). request_at after.wish t f.end) (sym time_is);
      }

  numbered : AreNumbered p.own.number 1 after.sends
  numbered =
      let old = mine.sends in
      let first : AreNumbered me 1 v.state.sends = numbered_from me 1 v.state.sends old.own (λ k less. old.numbered k less ∙ (let e : k + 1 ≡ 1 + k = omega arith in e)) in
      let next : v.state.next ≡ 1 + length v.state.sends = omega (arith, old.next) in
      subst (AreNumbered me 1) (sym grow.sends) (AreNumbered-append me 1 v.state.sends grow.made first (subst (λ (x : ℕ). AreNumbered me x grow.made) next grow.numbered))

  named_before : AllByRecursion (Named p.client.state.sends) p.client.state.sends
  named_before = recursion_from_All (Named v.state.sends) v.state.sends (All-weaker (λ (x : Message). is_event x.kind ≡ false
      → (e : Message) × Contains v.state.sends e × (is_event e.kind ≡ true) × (e.number ≡ x.value) × (e.time ≡ x.time) × (e.group ≡ x.group)) (Named v.state.sends)
      (λ x h no. let t = h no in (t.0, among.contains_among t.0 v.state.sends t.1, (t.2, t.3, t.4, t.5))) v.state.sends mine.sends.takes_back.target)

  once_before : Once p.client.state.sends
  once_before a b in_a in_b no_a no_b same =
      let ca = among.among_contains a v.state.sends in_a in
      let cb = among.among_contains b v.state.sends in_b in
      let inner = All-contains (λ (x : Message). All (λ (y : Message). is_event x.kind ≡ false → is_event y.kind ≡ false → x.value ≡ y.value → x.number ≡ y.number) v.state.sends) v.state.sends a mine.sends.takes_back.once ca in
      let number = All-contains (λ (y : Message). is_event a.kind ≡ false → is_event y.kind ≡ false → a.value ≡ y.value → a.number ≡ y.number) v.state.sends b inner cb no_a no_b same in
      one_number 1 v.state.sends no_message (λ k less. mine.sends.numbered k less ∙ (let e : k + 1 ≡ 1 + k = omega arith in e)) a b ca cb number

  takes_back : TakeBack after.sends
  takes_back =
      let once : Once after.sends = gain.once once_before in
      record {
        target = All-weaker (Named after.sends) (λ (x : Message). is_event x.kind ≡ false
            → (e : Message) × Contains after.sends e × (is_event e.kind ≡ true) × (e.number ≡ x.value) × (e.time ≡ x.time) × (e.group ≡ x.group))
            (λ x h no. let t = h no in (t.0, among.among_contains t.0 after.sends t.1, t.2.0, t.2.1, t.2.2, t.2.3)) after.sends (All-from_recursion (Named after.sends) after.sends (gain.named named_before));
        once = λ x c lx y e ly na nb same.
            let a : Message = get_or after.sends x c in
            let b : Message = get_or after.sends y e in
            ap (λ (z : Message). z.number) (once a b (among.contains_among a after.sends (Contains-get_or after.sends x c lx)) (among.contains_among b after.sends (Contains-get_or after.sends y e ly)) na nb same);
      }

  sends : length (view_after_grant p.own.number (due_of p.client) p.client).state.sends ≤ most_sends → Sends p.own.number q
  sends few =
      let old = mine.sends in
      let own_adds = adds p m places w in
      let timed : All (λ (x : Message). 0 < x.time) (v.state.sends ++ gain.made) =
      All-append (λ (x : Message). 0 < x.time) v.state.sends gain.made old.timed (All-weaker (λ (x : Message). d + added_of p ≤ x.time) (λ (x : Message). 0 < x.time) (λ x h. omega (arith, h, own_adds)) gain.made late) in
      let among_all : All (Contains after.sends) gain.made =
      All-weaker (Contains gain.made) (Contains after.sends) (λ x c. subst (λ (l : List Message). Contains l x) (sym gain.sends) (Contains-append_right v.state.sends gain.made x c)) gain.made (All-contains_itself gain.made) in
      record {
        own = numbered_own me 1 after.sends numbered;
        numbered = λ k less. numbered_at me 1 after.sends no_message numbered k less ∙ (let e : 1 + k ≡ k + 1 = omega arith in e);
        next = omega (arith, grow.next, old.next, ap length grow.sends, length-append v.state.sends grow.made);
        timed = subst (All (λ (x : Message). 0 < x.time)) (sym gain.sends) timed;
        takes_back = takes_back;
        waiting = subst (All (Contains after.sends)) (sym outbox_is) (All-filter (is_transported f) (Contains after.sends) gain.made among_all);
        late = subst (λ (x : ℕ × List Message). All (λ (y : Message). x.0 + added_of p ≤ y.time) x.1) (λ t. (sym time_is t, sym outbox_is t)) (All-filter (is_transported f) (λ (x : Message). d + added_of p ≤ x.time) gain.made late);
        transported = subst (All (λ (x : Message). is_transported f x ≡ true)) (sym outbox_is) (filter_passes (is_transported f) gain.made);
        behind = (length (transported_of v), outbox_is ∙ more_behind f v.state.sends mine.sends.numbered gain.made after.sends gain.sends);
        once = once;
        each = each;
        receivers = old.receivers;
        coloured = old.coloured;
        few = few;
        new = λ is. absurd (still_asked (nat_lt d f.end) is);
      }
    where
      still_asked : (b : Bool) → cond b (Some (request_at after.wish (due_of p.client) p.client.federation.end)) p.client.request ≡ None → ⊥
      still_asked true is = true≢false (sym (ap is_new is))
      still_asked false is = asked is

      once : AreChargedOnce p.client.federation after.sends then.outbox p.client.sending p.client.filled
      once =
          let places_of : AreInPlace after.sends = λ k less. numbered_at me 1 after.sends no_message numbered k less ∙ (let e : 1 + k ≡ k + 1 = omega arith in e) in
          let old : AreChargedOnce f v.state.sends [] None v.filled = subst (λ (x : List Message × Option ℕ). AreChargedOnce f v.state.sends x.0 x.1 v.filled) (λ t. (none t, sending_none t)) mine.sends.once in
          subst (λ (x : List Message × Option ℕ). AreChargedOnce f after.sends x.0 x.1 v.filled) (λ t. (sym outbox_is t, sym sending_none t)) (more_sent f v.state.sends mine.sends.numbered gain.made after.sends v.filled gain.sends places_of old)

      each : (i : ℕ) → i < p.own.federates → filter (has_receiver p.client.federation i) (transported_of then) ≡ map (λ (x : Filled). x.message) (letters_posted_to i p.client) ++ left_of p.client.sending p.own.stock p.client.federation i then.outbox
      each i li =
          let gone : filter (has_receiver f i) (transported_of v) ≡ map (λ (x : Filled). x.message) (letters_posted_to i v) =
          mine.sends.each i li ∙ ap (λ (l : List Message). map (λ (x : Filled). x.message) (letters_posted_to i v) ++ left_of v.sending p.own.stock f i l) none ∙ append-nil (map (λ (x : Filled). x.message) (letters_posted_to i v)) in
          ap (λ (l : List Message). filter (has_receiver f i) (filter (is_transported f) l)) gain.sends
          ∙ ap (filter (has_receiver f i)) (filter-append (is_transported f) v.state.sends gain.made)
          ∙ filter-append (has_receiver f i) (transported_of v) (filter (is_transported f) gain.made)
          ∙ ap (λ (l : List Message). l ++ filter (has_receiver f i) (filter (is_transported f) gain.made)) gone
          ∙ ap (λ (l : List Message). map (λ (x : Filled). x.message) (letters_posted_to i v) ++ l)
          (sym (left_none p.own.stock f i (filter (is_transported f) gain.made)) ∙ (λ t. left_of (sym sending_none t) p.own.stock f i (sym outbox_is t)))

  -- ---- the channels and the rounds
  way_me : (a : ℕ) (x : P) → Was places p.own.number p q a x → WayBetween now a p.own.number x q
  way_me a x ta =
      let b = still (λ (y : P). y.own.buffers) places me p q refl a x ta in
      subst (λ (y : ℕ). Way y (mark_in_mail now a me) a me x.client then) (sym b)
      (way_granted ta.before.own.buffers (mark_in_mail now a me) a me x.client v then keep receipts_are refl refl
      (way_still ta.before.own.buffers (mark_in_mail m a me) (mark_in_mail now a me) a me ta.before.client v x.client v (λ y ly. refl)
      (still (λ (y : P). sent me y.client) places me p q refl a x ta) refl (w.client.ways a me ta.before p ta.at w.here)))

  no_earlier : due_of p.client ≤ due_of then
  no_earlier =
      let ahead : AllByRecursion (From d) (messages_of then.queue) =
      recursion_from_All (From d) (messages_of then.queue) (All-map (From d) (λ (e : Entry). e.message) then.queue
      (All-weaker (λ (e : Entry). keep e ≡ true) (λ (e : Entry). d ≤ e.message.time) (λ e h. omega (arith, ltb-true d e.message.time h)) then.queue (filter_passes keep v.queue))) in
      by (nat_lt d f.end) refl ahead
    where
      by : (b : Bool) → nat_lt (due_of p.client) p.client.federation.end ≡ b → AllByRecursion (From (due_of p.client)) (messages_of then.queue)
          → due_of p.client ≤ due_by (cond b (Some (request_at after.wish (due_of p.client) p.client.federation.end)) p.client.request) (messages_of then.queue)
      by true e ahead = due_from d (request_at after.wish d f.end) (messages_of then.queue)
          (omega (arith, asked_after after.wish d f.end (wish_by_block f me d v.state due sound within mine.granting.wish) (ltb-true d f.end e))) ahead
      by false e ahead = subst (λ (o : Option Request). d ≤ due_by o (messages_of then.queue)) (sym request.1) (due_from d request.0 (messages_of then.queue) capped ahead)

  idle : is_waiting p.client ≡ false
  idle = ap (λ (x : Option Request × List Message). is_new x.0 || not (is_empty x.1)) (λ t. (request.1 t, none t))

  changed : length (view_after_grant p.own.number (due_of p.client) p.client).state.sends ≤ most_sends → ChangedAt p m places w now q refl
  changed few = record {
    letters = letters;
    others = λ a x other at. letters_aside m now a x (λ y ly on. on) (λ y z ly on. refl) (w.client.each a x at).letters;
    holdings = holdings;
    queue = queue;
    heard = heard;
    granting = granting;
    sends = sends few;
    ways = ways_to places me p q (WayBetween now) way_me (λ a l x s other at ta.
        let b = still (λ (y : P). y.own.buffers) places me p q refl a x ta in
        subst (λ (y : ℕ). Way y (mark_in_mail now a l) a l x.client s.client) (sym b)
        (way_still ta.before.own.buffers (mark_in_mail m a l) (mark_in_mail now a l) a l ta.before.client s.client x.client s.client (λ y ly. refl)
        (still (λ (y : P). sent l y.client) places me p q refl a x ta) refl (w.client.ways a l ta.before s ta.at at)));
    rounds = rises_keep_rounds places me p q w.here w.client.rounds (grants_are p idle (omega (arith, later)) no_earlier);
  }

  pub grant : length (view_after_grant p.own.number (due_of p.client) p.client).state.sends ≤ most_sends → LbtsRule (with_word m (Register (clock_of p.own.number)) (due_of p.client)) (slice_set places p.own.number (place_after view_after (Published (clock_of p.own.number) (due_of p.client)) p))
  grant few = published_at p m places w now q refl (omega (arith, inside)) (record {
    words = λ x other. register_else m r x d (λ own. absurd (other own));
    federation = refl;
    scheme = refl;
    more = [];
    grows = sym (append-nil v.contributions);
    registers = registers;
    learnt = learnt;
  }) (changed few)

pub grants_keep : GrantsKeep lbts_rule
grants_keep p asked none lt below loose few m places w = record { client = grant p asked none lt below loose m places w few; guests = λ g sees. tt }
