-- The order in which copies are received.
use Rattle.std.proofs.Common.{◌≡◌, ◌≢◌, ℕ, ◌+◌, ◌<◌, ◌≤◌, ◌&&◌, true, false, List, [], ◌∷◌, ◌++◌, map, inl, inr, refl, sym, ap, ◌∙◌, arith, append_assoc, eq-eqb, true≢false}
use Rattle.std.specs.Prelude.{All, Option, None, Some, slice_index_or}
use Rattle.std.specs.List.{filter_map, list_any}
use Rattle.std.proofs.lemmas.Bool.{or_parts}
use Rattle.std.proofs.lemmas.List.{append-nil}
use Rattle.std.proofs.lemmas.List.Folds.{list_any-append}
use Rattle.std.proofs.lemmas.List.Elements.{All-append, All-cons, All-nil, All-push, filter_map-append}
use Rattle.kit_base.specs.declared.message.Message.{Message}
use Rattle.kit_ground.specs.declared.place.Place.{Place}
use Rattle.kit_model.specs.declared.journal.Journal.{Journal}
use Rattle.kit_model.specs.declared.journal.JournalEntry.{JournalEntry}
use Rattle.kit_model.specs.declared.journal.JournalEntry.TheVariants.{Delivered, Granted, Received}
use Rattle.kit_model.proofs.Pairs.{pairs_append, pairs_front, pairs_last}
use Rattle.kit_queue.specs.Entries.{is_numbered}
use Rattle.kit_rounds.proofs.Lists.{all_front, all_last}
use Rattle.kit_lbts.specs.declared.view.Filled.{Filled}
use Rattle.kit_lbts.specs.declared.view.LbtsView.{LbtsView}
use Rattle.kit_lbts.specs.declared.view.Noted.{Noted}
use Rattle.kit_lbts.specs.LedgerLaws.{ready_place}
use Rattle.kit_lbts.specs.Views.{entries_of, messages_received, receipts_in}
use Rattle.kit_node.specs.declared.inbox.Arrival.{Arrival}
use Rattle.kit_node.specs.Receiving.{ComesBefore, NumbersFall, ReceivesInOrder, ReceivesInOrderFrom, ReceivesOne, message_with}
use Rattle.kit_node.proofs.ReadyPlaces.{ready_journal}

abbrev P : Type 0
P = Place LbtsView

-- ---- nothing came
pub received_nothing : (p q : P) → messages_received q.client ≡ messages_received p.client → ReceivesInOrder p q
received_nothing p q same = record {
  came = [];
  received = same ∙ sym (append-nil (messages_received p.client));
  order = λ i j d lt le. absurd (omega (arith, le));
}

pub received_nothing_from : (from : ℕ) (p q : P) → messages_received q.client ≡ messages_received p.client → ReceivesInOrderFrom from p q
received_nothing_from from p q same = record {
  came = [];
  received = same ∙ sym (append-nil (messages_received p.client));
  sender = All-nil _;
  order = λ i j d lt le. absurd (omega (arith, le));
}

-- nothing more came, or nothing had
pub received_then : (p q r : P) → ReceivesInOrder p q → messages_received r.client ≡ messages_received q.client → ReceivesInOrder p r
received_then p q r h same = record { came = h.came; received = same ∙ h.received; order = h.order }

pub received_since : (p q r : P) → messages_received q.client ≡ messages_received p.client → ReceivesInOrder q r → ReceivesInOrder p r
received_since p q r same h = record { came = h.came; received = h.received ∙ ap (λ (ms : List Message). ms ++ h.came) same; order = h.order }

-- what the journal says
pub received_by_journal : (v u : LbtsView) → u.journal ≡ v.journal → messages_received u ≡ messages_received v
received_by_journal v u same = ap (λ (ns : List Noted). map (λ f. f.message) (receipts_in ns)) same

pub received_ready : (p : P) → messages_received (ready_place p).client ≡ messages_received p.client
received_ready p = received_by_journal p.client (ready_place p).client (ready_journal p)

pub received_since_from : (from : ℕ) (p q r : P) → messages_received q.client ≡ messages_received p.client → ReceivesInOrderFrom from q r → ReceivesInOrderFrom from p r
received_since_from from p q r same h = record {
  came = h.came;
  received = h.received ∙ ap (λ (ms : List Message). ms ++ h.came) same;
  sender = h.sender;
  order = h.order;
}

-- ---- one copy, as a node's journal has it
abbrev came_by : JournalEntry → Option Message
came_by (Received m) = Some m
came_by _ = None

one_more : (e : JournalEntry) (colour : ℕ) (ns : List Noted) → map (λ (f : Filled). f.message) (receipts_in ns) ≡ filter_map came_by (map (λ (x : Noted). x.entry) ns)
    → map (λ (f : Filled). f.message) (receipts_in (record { entry = e; colour = colour } ∷ ns)) ≡ filter_map came_by (e ∷ map (λ (x : Noted). x.entry) ns)
one_more (Received m) colour ns rest = ap (λ (ms : List Message). m ∷ ms) rest
one_more (Delivered t m) colour ns rest = rest
one_more (Granted t) colour ns rest = rest

messages_in : (ns : List Noted) → map (λ (f : Filled). f.message) (receipts_in ns) ≡ filter_map came_by (map (λ (e : Noted). e.entry) ns)
messages_in [] = refl
messages_in (n ∷ ns) = one_more n.entry n.colour ns (messages_in ns)

pub receives_one : (from : ℕ) (a : Arrival) (body : ℕ) (m : Message) (j j' : Journal) (p q : P) → m ≡ message_with from a.head body
    → list_any (is_numbered m.sender m.number) (messages_received p.client) ≡ false → j.entries ≡ entries_of p.client → j'.entries ≡ entries_of q.client → j'.entries ≡ j.entries ++ Received m ∷ []
    → ReceivesOne from a p q
receives_one from a body m j j' p q is unheard before after more = record {
  message = m;
  sender = ap (λ (x : Message). x.sender) is;
  number = ap (λ (x : Message). x.number) is;
  unheard = ap (λ (k : ℕ). list_any (is_numbered k m.number) (messages_received p.client)) (sym (ap (λ (x : Message). x.sender) is)) ∙ unheard;
  received = messages_in q.client.journal
      ∙ (ap (filter_map came_by) (sym after ∙ (more ∙ ap (λ (es : List JournalEntry). es ++ Received m ∷ []) before))
      ∙ (filter_map-append came_by (entries_of p.client) (Received m ∷ []) ∙ ap (λ (ms : List Message). ms ++ m ∷ []) (sym (messages_in p.client.journal))));
}

-- ---- the copies of one sender, the last in hand first
pub record TakesInOrder (from : ℕ) (left : List Arrival) (p q : P) : Type 0 where
  pub falls : NumbersFall left
  pub came : ReceivesInOrderFrom from p q
  pub before : All (λ (m : Message). All (λ (a : Arrival). m.number ≤ a.head.number) left) came.came

pub takes_none : (from : ℕ) (left : List Arrival) (p : P) → NumbersFall left → TakesInOrder from left p p
takes_none from left p falls = record {
  falls = falls;
  came = record {
    came = [];
    received = sym (append-nil (messages_received p.client));
    sender = All-nil _;
    order = λ i j d lt le. absurd (omega (arith, le));
  };
  before = All-nil _;
}

-- none of these messages has the number
is_numbered_so : (from n : ℕ) (m : Message) → m.sender ≡ from → m.number ≡ n → is_numbered from n m ≡ true
is_numbered_so from n m sender number = λ t. eq-eqb m.sender from sender t && eq-eqb m.number n number t

abbrev IsOther : ℕ → ℕ → Message → Type 0
IsOther from n m = m.sender ≡ from → m.number ≢ n

has_other_number : (from n : ℕ) (ms : List Message) → list_any (is_numbered from n) ms ≡ false → All (IsOther from n) ms
has_other_number from n [] none = All-nil (IsOther from n)
has_other_number from n (m ∷ ms) none =
    let parts = or_parts (is_numbered from n m) (list_any (is_numbered from n) ms) none in
    All-cons (IsOther from n) m ms (λ sender number. true≢false (sym (is_numbered_so from n m sender number) ∙ parts.0)) (has_other_number from n ms parts.1)

abbrev Lower : Message → Message → Type 0
Lower a b = a.number < b.number

abbrev NotAfter : Message → Arrival → Type 0
NotAfter m a = m.number ≤ a.head.number

module _ (from : ℕ) (xs : List Arrival) (a : Arrival) (p q r : P) (on : TakesInOrder from (xs ++ a ∷ []) p q) (one : ReceivesOne from a q r) where
  abbrev came : List Message
  came = on.came.came

  abbrev m : Message
  m = one.message

  unheard : All (IsOther from m.number) came
  unheard = has_other_number from m.number came (or_parts (list_any (is_numbered from m.number) (messages_received p.client)) (list_any (is_numbered from m.number) came)
      (sym (list_any-append (is_numbered from m.number) (messages_received p.client) came) ∙ (ap (list_any (is_numbered from m.number)) (sym on.came.received) ∙ one.unheard))).1

  below : (n k l : ℕ) → n ≤ l → k ≡ l → n ≢ k → n < k
  below n k l le e ne = omega arith

  comes_last : All (λ (x : Message). All (Lower x) (m ∷ [])) came
  comes_last k d lt =
      let x : Message = slice_index_or came k d in
      let low : x.number ≤ a.head.number = all_last (NotAfter x) xs a (on.before k d lt) in
      All-cons (Lower x) m [] (below x.number m.number a.head.number low one.number (unheard k d lt (on.came.sender k d lt))) (All-nil (Lower x))

  pub takes_next : TakesInOrder from xs p r
  takes_next = record {
    falls = pairs_front (λ (b c : Arrival). c.head.number ≤ b.head.number) xs (a ∷ []) on.falls;
    came = record {
      came = came ++ m ∷ [];
      received = one.received ∙ (ap (λ (ms : List Message). ms ++ m ∷ []) on.came.received ∙ append_assoc (messages_received p.client) came (m ∷ []));
      sender = All-push (λ (x : Message). x.sender ≡ from) came m on.came.sender one.sender;
      order = pairs_append Lower came (m ∷ []) on.came.order (λ i j d lt le. absurd (omega (arith, lt, le))) comes_last;
    };
    before = All-push (λ (x : Message). All (NotAfter x) xs) came m
        (λ k d lt. all_front (NotAfter (slice_index_or came k d)) xs (a ∷ []) (on.before k d lt))
        (λ k d lt. let low = pairs_last (λ (b c : Arrival). c.head.number ≤ b.head.number) xs a on.falls k d lt in let e = one.number in omega (arith, low, e));
  }

-- ---- one sender after another
pub record ReceivesBelow (n : ℕ) (p q : P) : Type 0 where
  pub in_order : ReceivesInOrder p q
  pub sender : All (λ (m : Message). m.sender < n) in_order.came

pub receives_below_none : (p : P) → ReceivesBelow 0 p p
receives_below_none p = record {
  in_order = record { came = []; received = sym (append-nil (messages_received p.client)); order = λ i j d lt le. absurd (omega (arith, le)) };
  sender = All-nil _;
}

pub receives_below_same : (n : ℕ) (p q : P) → ReceivesBelow n p q → ReceivesBelow (n + 1) p q
receives_below_same n p q h = record { in_order = h.in_order; sender = λ k d lt. let l = h.sender k d lt in omega (arith, l) }

pub receives_below_next : (n : ℕ) (p q r : P) → ReceivesBelow n p q → ReceivesInOrderFrom n q r → ReceivesBelow (n + 1) p r
receives_below_next n p q r h g = record {
  in_order = record {
    came = h.in_order.came ++ g.came;
    received = g.received ∙ (ap (λ (ms : List Message). ms ++ g.came) h.in_order.received ∙ append_assoc (messages_received p.client) h.in_order.came g.came);
    order = pairs_append ComesBefore h.in_order.came g.came h.in_order.order
        (λ i j d lt le. let b = g.sender j d le in inr (g.sender i d (omega (arith, lt, le)) ∙ sym b, g.order i j d lt le))
        (λ k d lt l e less. inl (let a = h.sender k d lt in let b = g.sender l e less in omega (arith, a, b)));
  };
  sender = All-append (λ (m : Message). m.sender < n + 1) h.in_order.came g.came
      (λ k d lt. let l = h.sender k d lt in omega (arith, l)) (λ k d lt. let e = g.sender k d lt in omega (arith, e));
}

pub receives_in_order : (n : ℕ) (p q r : P) → ReceivesBelow n p q → ReceivesInOrderFrom n q r → ReceivesInOrder p r
receives_in_order n p q r h g = (receives_below_next n p q r h g).in_order
