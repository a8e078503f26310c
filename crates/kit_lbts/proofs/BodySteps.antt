-- The body of a copy in hand is read: the copy is received. What the queue, the spent buffers and the orphans
-- become is told apart from the rest.
use Rattle.std.proofs.Common.{◌≡◌, ℕ, ◌+◌, ◌<◌, ◌≤◌, not, List, [], ◌∷◌, ◌++◌, map, filter, get_or, Option, Some, None, refl, sym, ap, ◌∙◌, subst, arith}
use Rattle.std.specs.List.{count_by, list_any, filter_map, All, Contains}
use Rattle.std.specs.Prelude.{slice_index, slice_set, IfSome}
use Rattle.std.specs.Int.{bit_at}
use Rattle.std.proofs.lemmas.List.{append-nil, map-append}
use Rattle.std.proofs.lemmas.List.Elements.{All-filter, All-weaker, Contains-append_left, filter_map-append}
use mathlib.Core.Logic.{dite}
use mathlib.Core.Option.{some, some-injective}
use native.Mathlib.Decide.{ℕ_discrete}
use lib.ListN.{get_elem?}
use Rattle.kit_base.specs.declared.message.Message.{Message}
use Rattle.kit_base.specs.Order.{in_order}
use Rattle.kit_base.specs.Words.{head_of}
use Rattle.kit_ground.specs.declared.address.Address.TheVariants.{Part}
use Rattle.kit_ground.specs.declared.place.Deed.{Deed}
use Rattle.kit_ground.specs.declared.place.Deed.TheVariants.{ReadPart}
use Rattle.kit_ground.specs.declared.place.Place.{Place}
use Rattle.kit_ground.specs.Memory.{Memory, with_word}
use Rattle.kit_ground.specs.Rules.{RuleStays, World}
use Rattle.kit_ground.specs.Steps.{place_after, own_after}
use Rattle.kit_ground.proofs.Memories.{stored_same}
use Rattle.kit_model.specs.declared.journal.JournalEntry.TheVariants.{Received}
use Rattle.kit_model.specs.Journals.{IsLawful, last_grant, now_of}
use Rattle.kit_model.proofs.Lawful.{last_grant-push, others_keep_the_time, receipts_are_lawful}
use Rattle.kit_queue.specs.declared.entry.Entry.{Entry}
use Rattle.kit_queue.specs.Entries.{AreNumberedApart, IsInOrder, messages_of}
use Rattle.kit_rules.specs.declared.table.Request.{Request}
use Rattle.kit_rules.specs.Delivery.{pending_messages}
use Rattle.kit_rules.specs.Simulation.{request_at}
use Rattle.kit_rounds.specs.Channels.{IsUnreceived}
use Rattle.kit_lbts.specs.declared.view.Filled.{Filled}
use Rattle.kit_lbts.specs.declared.view.InHand.{InHand}
use Rattle.kit_lbts.specs.declared.view.Noted.{Noted}
use Rattle.kit_lbts.specs.declared.view.Orphan.{Orphan}
use Rattle.kit_lbts.specs.declared.view.Spent.{Spent}
use Rattle.kit_lbts.specs.declared.view.LbtsView.{LbtsView}
use Rattle.kit_lbts.specs.Views.{messages_delivered, delivery_of, entries_of, is_in_hand, is_orphan, is_spent, receipt_of, receipts, messages_received, time_of}
use Rattle.kit_lbts.specs.Promises.{added_of, bound_of, ledgers_of, stamp_of}
use Rattle.kit_lbts.specs.Letters.{Letters, letter_in}
use Rattle.kit_lbts.specs.LedgerLaws.{stamp_read}
use Rattle.kit_lbts.specs.MessageLaws.{HasHead}
use Rattle.kit_lbts.specs.Progress.{head_in, message_in, view_after, taken_in}
use Rattle.kit_lbts.specs.Rule.{RoundsHold, FederateRule, lbts_rule}
use Rattle.kit_lbts.specs.Seats.{Granting, Receiving, Holdings, Queue, Sends, is_orphaned, waits_in}
use Rattle.kit_lbts.specs.Ways.{Way, WayBetween, mark_in_mail}
use Rattle.kit_lbts.proofs.Arriving as arriving
use Rattle.kit_lbts.proofs.Changes.{Was, kept, mine, said, still, ways_to}
use Rattle.kit_lbts.proofs.Hands.{count_gone, count_without, hand_else}
use Rattle.kit_lbts.proofs.LetterFacts.{letters_aside}
use Rattle.kit_lbts.proofs.ReceiptSteps.{receipts_are}
use Rattle.kit_lbts.proofs.RoundSteps.{receipts_keep_rounds}
use Rattle.kit_lbts.proofs.Ways.{got, sent, way_received, way_received_else, way_still}

abbrev P : Type 0
P = Place LbtsView

abbrev pub Lie : ℕ → LbtsView → Entry → Type 0
Lie a v e = e.message.sender ≡ a → IfSome e.buffer (λ k. (letter_in v k).message ≡ e.message)

module _ (p : P) (i k head : ℕ) (li : i < p.own.federates) (lk : k < p.own.buffers) (has_head : HasHead p i k head) (m : Memory) (places : List P) (w : World lbts_rule p m places) where
  abbrev me : ℕ
  me = p.own.number

  abbrev word : ℕ
  word = m (Part i k 1)

  abbrev deed : Deed
  deed = ReadPart i k 1 (m (Part i k 1))

  abbrev now : Memory
  now = with_word m (Part i k 1) (m (Part i k 1))

  abbrev q : P
  q = place_after view_after (ReadPart i k 1 (m (Part i k 1))) p

  abbrev f : Filled
  f = letter_in (get_or places i p).client k

  abbrev message : Message
  message = (letter_in (get_or places i p).client k).message

  abbrev rule : FederateRule m places p.own.number p
  rule = mine p m places w now deed

  -- the view without the copy in hand, and with its receipt
  abbrev pub base : LbtsView
  base = record p.client { in_hand = filter (λ h. not (is_in_hand i k h)) p.client.in_hand; journal = p.client.journal ++ record { entry = Received message; colour = f.colour } ∷ [] }

  read_is : message_in i (head_in i k p.client.in_hand) word ≡ message
  read_is = ap (λ (h : ℕ). message_in i h word) (arriving.head_in_is p i k head li lk has_head m places w) ∙ arriving.message_is p i k head li lk has_head m places w

  colour_is : (head_of (head_in i k p.client.in_hand)).colour ≡ f.colour
  colour_is = ap (λ (h : ℕ). (head_of h).colour) (arriving.head_in_is p i k head li lk has_head m places w) ∙ arriving.colour_is p i k head li lk has_head m places w

  step_is : view_after deed p ≡ taken_in message.kind i k message base
  step_is = λ t. taken_in (read_is t).kind i k (read_is t)
      (record p.client { in_hand = filter (λ h. not (is_in_hand i k h)) p.client.in_hand; journal = p.client.journal ++ record { entry = Received (read_is t); colour = colour_is t } ∷ [] })

  -- what the queue, the spent buffers and the orphans become
  pub record Taken (qs : List Entry) (ss : List Spent) (os : List Orphan) : Type 0 where
    pub is : taken_in message.kind i k message base ≡ record base { queue = qs; spent = ss; orphans = os }
    pub here : count_by (waits_in i k) qs + count_by (is_spent i k) ss ≡ 1
    pub others : (a c : ℕ) → ((a ≡ i) → (c ≡ k) → ⊥) → count_by (waits_in a c) qs + count_by (is_spent a c) ss ≡ count_by (waits_in a c) p.client.queue + count_by (is_spent a c) p.client.spent
    pub queue : All (λ (e : Entry). (e.message.sender < p.own.federates) × IfSome e.buffer (λ k. k < p.own.buffers)) qs
    pub spent : All (λ (s : Spent). (s.from < p.own.federates) × (s.buffer < p.own.buffers)) ss
    pub ordered : IsInOrder qs
    pub apart : AreNumberedApart qs
    pub pend : messages_of qs ≡ in_order (pending_messages p.client.federation p.own.number (messages_delivered p.client) (messages_received p.client ++ message ∷ []))
    pub ahead : All (λ (e : Entry). time_of p.client < e.message.time) qs
    pub settled : All (λ (e : Entry). e.buffer ≡ None → e.message.time < bound_of p.client) qs
    pub lies : (a : ℕ) (v : LbtsView) → (a ≡ i → (letter_in v k).message ≡ message) → All (Lie a v) p.client.queue → All (Lie a v) qs
    pub orphans : (a n : ℕ) → list_any (is_orphan a n) os ≡ is_orphaned a n (messages_received p.client ++ message ∷ [])

  words : (a c x : ℕ) → now (Part a c x) ≡ m (Part a c x)
  words a c x = ap (λ (y : Memory). y (Part a c x)) (stored_same m (Part i k 1))

  module _ (qs : List Entry) (ss : List Spent) (os : List Orphan) (taken : Taken qs ss os) where
    abbrev then : LbtsView
    then = record p.client {
      in_hand = filter (λ h. not (is_in_hand i k h)) p.client.in_hand;
      journal = p.client.journal ++ record { entry = Received message; colour = f.colour } ∷ [];
      queue = qs;
      spent = ss;
      orphans = os;
    }

    abbrev with : LbtsView → P
    with v = record { own = own_after (ReadPart i k 1 (m (Part i k 1))) p.own; client = v }

    is : q.client ≡ then
    is = step_is ∙ taken.is

    -- ---- the journal
    abbrev noted : Noted
    noted = record { entry = Received message; colour = f.colour }

    entries_is : entries_of then ≡ entries_of p.client ++ Received message ∷ []
    entries_is = map-append (λ (e : Noted). e.entry) p.client.journal (noted ∷ [])

    time_is : time_of then ≡ time_of p.client
    time_is = ap now_of entries_is ∙ others_keep_the_time (entries_of p.client) (Received message) refl

    receipts_are_more : receipts then ≡ receipts p.client ++ f ∷ []
    receipts_are_more = filter_map-append (λ (e : Noted). receipt_of e.entry e.colour) p.client.journal (noted ∷ [])

    received_is : messages_received then ≡ messages_received p.client ++ message ∷ []
    received_is = ap (map (λ (x : Filled). x.message)) receipts_are_more ∙ map-append (λ (x : Filled). x.message) (receipts p.client) (f ∷ [])

    delivered_is : messages_delivered then ≡ messages_delivered p.client
    delivered_is = ap (filter_map delivery_of) entries_is ∙ (filter_map-append delivery_of (entries_of p.client) (Received message ∷ []) ∙ append-nil (messages_delivered p.client))

    last_is : last_grant (entries_of then) ≡ last_grant (entries_of p.client)
    last_is = ap last_grant entries_is ∙ last_grant-push (entries_of p.client) (Received message)

    letters : Letters now me (with then)
    letters =
        let old = letters_aside m now me p (λ x lx on. on) (λ x y lx on. words me x y) rule.letters in
        record {
          sized = old.sized;
          counted = old.counted;
          sending = λ x e. let h = old.sending x e in record { first = h.first; rest = h.rest; within = h.within; outbox = h.outbox; owed = h.owed; filled = h.filled };
          others = old.others;
        }

    abbrev Held : ℕ → ℕ → Type 0
    Held a c = bit_at (slice_index p.own.stock.holds a) c ≡ count_by (is_in_hand a c) (filter (λ h. not (is_in_hand i k h)) p.client.in_hand) + count_by (waits_in a c) qs + count_by (is_spent a c) ss

    held_here : Held i k
    held_here =
        let g = count_gone (is_in_hand i k) p.client.in_hand in
        let h = taken.here in
        let b = (arriving.alone p i k head li lk has_head m places w).0 in
        omega arith

    held_there : (a c : ℕ) → a < p.own.federates → c < p.own.buffers → ((a ≡ i) → (c ≡ k) → ⊥) → Held a c
    held_there a c la lc apart =
        let g = count_without (is_in_hand i k) (is_in_hand a c) p.client.in_hand (hand_else i k a c apart) in
        let h = taken.others a c apart in
        let b = rule.holdings.each a c la lc in
        omega arith

    holdings : Holdings (with then)
    holdings = record {
      each = λ a c la lc. dite (ℕ_discrete a i)
          (λ ai. dite (ℕ_discrete c k)
          (λ ck. subst (λ (x : ℕ × ℕ). Held x.0 x.1) (λ t. (sym ai t, sym ck t)) held_here)
          (λ other. held_there a c la lc (λ _. other)))
          (λ other. held_there a c la lc (λ e. absurd (other e)));
      in_hand = All-filter (λ h. not (is_in_hand i k h)) (λ (h : InHand). (h.from < p.own.federates) × (h.buffer < p.own.buffers)) p.client.in_hand rule.holdings.in_hand;
      queue = taken.queue;
      spent = taken.spent;
    }

    queue : Queue me (with then)
    queue = record {
      ordered = taken.ordered;
      apart = taken.apart;
      is = taken.pend ∙ (λ t. in_order (pending_messages p.client.federation me (sym delivered_is t) (sym received_is t)));
      ahead = subst (λ (x : ℕ). All (λ (e : Entry). x < e.message.time) qs) (sym time_is) taken.ahead;
      settled = taken.settled;
    }

    heard : Receiving then
    heard = record {
      orphans = λ a n. taken.orphans a n ∙ ap (is_orphaned a n) (sym received_is);
      came = subst (λ (x : List Message × List Message). All (Contains x.0) x.1) (λ t. (sym received_is t, sym delivered_is t))
          (All-weaker (Contains (messages_received p.client)) (Contains (messages_received p.client ++ message ∷ [])) (λ x has. Contains-append_left (messages_received p.client) (message ∷ []) x has) (messages_delivered p.client) rule.heard.came);
      past = subst (λ (x : ℕ × List Message). All (λ (y : Message). y.time ≤ x.0) x.1) (λ t. (sym time_is t, sym delivered_is t)) rule.heard.past;
    }

    granting : Granting (with then)
    granting = record {
      lawful = subst IsLawful (sym entries_is) (receipts_are_lawful (entries_of p.client) message rule.granting.lawful (arriving.after_grant p i k head li lk has_head m places w));
      below = subst (λ (o : Option ℕ). IfSome o (λ t. t < bound_of p.client)) (sym last_is) rule.granting.below;
      within = subst (λ (x : ℕ). x ≤ p.client.federation.end) (sym time_is) rule.granting.within;
      wish = rule.granting.wish;
      asked = subst (λ (x : ℕ). (r : Request) → p.client.request ≡ Some r → x < p.client.federation.end → r ≡ request_at p.client.state.wish x p.client.federation.end) (sym time_is) rule.granting.asked;
    }

    sends : Sends me (with then)
    sends =
        let old = rule.sends in
        record {
          own = old.own;
          numbered = old.numbered;
          next = old.next;
          timed = old.timed;
          takes_back = old.takes_back;
          waiting = old.waiting;
          late = subst (λ (x : ℕ). All (λ (y : Message). x + added_of p ≤ y.time) p.client.outbox) (sym time_is) old.late;
          transported = old.transported;
          behind = old.behind;
          once = old.once;
          each = old.each;
          receivers = old.receivers;
          coloured = old.coloured;
          few = old.few;
          new = λ e. absurd (nothing_in (old.new e).4 (arriving.there p i k head li lk has_head m places w));
        }
      where
        nothing_in : {X : Type 0} {xs : List X} {x : X} → xs ≡ [] → Contains xs x → ⊥
        nothing_in {X} {xs} {x} e has = let t : Contains [] x = subst (λ (l : List X). Contains l x) e has in let l = t.1 in omega arith

    -- ---- the channels to the reader
    one_place : (a : ℕ) (x : P) → a ≡ i → get_elem? places a ≡ some x → letter_in x.client k ≡ f
    one_place a x same at =
        let e : some (get_or places i p) ≡ some x = sym (arriving.at p i k head li lk has_head m places w) ∙ subst (λ (y : ℕ). get_elem? places y ≡ some x) same at in
        ap (λ (y : P). letter_in y.client k) (sym (some-injective (get_or places i p) x e))

    way_before : (a : ℕ) (x : P) → get_elem? places a ≡ some x → Way x.own.buffers (mark_in_mail m a me) a me x.client then
    way_before a x at =
        let lies = taken.lies a x.client (λ same. ap (λ (y : Filled). y.message) (one_place a x same at)) (w.client.ways a me x p at w.here).lies in
        let from = (arriving.letter p i k head li lk has_head m places w).sender in
        dite (ℕ_discrete a i)
        (λ same.
        let letter = one_place a x same at in
        way_received x.own.buffers (mark_in_mail m a me) a me x.client p.client then k (subst (λ (n : ℕ). k < n) (sym (w.floor.each a x at).buffers) lk)
        (receipts_are_more ∙ ap (λ (y : Filled). receipts p.client ++ y ∷ []) (sym letter)) (ap (λ (y : Filled). y.message.sender) letter ∙ (from ∙ sym same))
        (λ t. filter (λ h. not (is_in_hand (sym same t) k h)) p.client.in_hand)
        (ap (λ (y : ℕ). count_by (is_in_hand y k) p.client.in_hand) same ∙ (arriving.alone p i k head li lk has_head m places w).1)
        lies (w.client.ways a me x p at w.here))
        (λ other. way_received_else x.own.buffers (mark_in_mail m a me) a me x.client p.client then i k f other receipts_are_more from refl lies (w.client.ways a me x p at w.here))

    way_me : (a : ℕ) (r : P) → Was places me p q a r → WayBetween now a me r q
    way_me a r ta =
        let b = still (λ (x : P). x.own.buffers) places me p q refl a r ta in
        let s : sent me r.client ≡ sent me ta.before.client = still (λ (x : P). sent me x.client) places me p q (ap (sent me) is) a r ta in
        subst (λ (n : ℕ). Way n (mark_in_mail now a me) a me r.client q.client) (sym b)
        (way_still ta.before.own.buffers (mark_in_mail m a me) (mark_in_mail now a me) a me ta.before.client then r.client q.client (λ x lx. refl) s (ap got is) (way_before a ta.before ta.at))

    rounds : RoundsHold (slice_set places me q)
    rounds =
        let stamp : stamp_read p i k word ≡ stamp_of f = λ t. record { colour = colour_is t; time = (read_is t).time } in
        receipts_keep_rounds places i me p q (stamp_read p i k word) w.here (arriving.there_i p i k head li lk has_head m places w) w.client.rounds
        (subst (IsUnreceived (ledgers_of places) i me) (sym stamp) (arriving.unreceived p i k head li lk has_head m places w))
        (receipts_are p i k word)

    pub receive : RuleStays lbts_rule m places now (slice_set places p.own.number (place_after view_after (ReadPart i k 1 (m (Part i k 1))) p))
    receive = kept p m places w now deed (record { words = λ r. refl; federation = ap (λ (v : LbtsView). v.federation) is; same = ap said is; time = ap time_of is ∙ time_is }) (record {
      letters = subst (λ (v : LbtsView). Letters now me (with v)) (sym is) letters;
      others = λ a r other at. letters_aside m now a r (λ x lx on. on) (λ x y lx on. words a x y) (w.client.each a r at).letters;
      holdings = subst (λ (v : LbtsView). Holdings (with v)) (sym is) holdings;
      queue = subst (λ (v : LbtsView). Queue me (with v)) (sym is) queue;
      heard = subst Receiving (sym is) heard;
      granting = subst (λ (v : LbtsView). Granting (with v)) (sym is) granting;
      sends = subst (λ (v : LbtsView). Sends me (with v)) (sym is) sends;
      ways = ways_to places me p q (WayBetween now) way_me (λ a l r s other at ta.
          let b = still (λ (x : P). x.own.buffers) places me p q refl a r ta in
          subst (λ (n : ℕ). Way n (mark_in_mail now a l) a l r.client s.client) (sym b)
          (way_still ta.before.own.buffers (mark_in_mail m a l) (mark_in_mail now a l) a l ta.before.client s.client r.client s.client (λ x lx. refl)
          (still (λ (x : P). sent l x.client) places me p q (ap (sent l) is) a r ta) refl (w.client.ways a l ta.before s ta.at at)));
      rounds = rounds;
    })
