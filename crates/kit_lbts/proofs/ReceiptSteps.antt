-- To read the body of a copy is a receipt of the federate's ledger.
use Rattle.std.proofs.Common.{◌≡◌, ℕ, ◌≤◌, Bool, true, false, cond, not, min, List, [], ◌∷◌, ◌++◌, map, fold, Option, Some, None, arith, refl, sym, ap, ◌∙◌}
use Rattle.std.specs.List.{AllByRecursion, filter, list_any}
use Rattle.std.proofs.lemmas.List.{map-append}
use Rattle.std.proofs.lemmas.List.Elements.{filter_map-append}
use Rattle.kit_base.specs.declared.message.Kind.{Kind}
use Rattle.kit_base.specs.declared.message.Kind.TheVariants.{Event, Retraction}
use Rattle.kit_base.specs.declared.message.Message.{Message}
use Rattle.kit_base.specs.Order.{is_before}
use Rattle.kit_base.specs.Words.{head_of}
use Rattle.kit_base.proofs.Lists.{all_filter}
use Rattle.kit_ground.specs.declared.place.Deed.TheVariants.{ReadPart}
use Rattle.kit_ground.specs.declared.place.Place.{Place}
use Rattle.kit_model.specs.declared.journal.JournalEntry.TheVariants.{Received}
use Rattle.kit_model.specs.Journals.{now_of}
use Rattle.kit_model.proofs.Lawful.{others_keep_the_time}
use Rattle.kit_queue.specs.declared.entry.Entry.{Entry}
use Rattle.kit_queue.specs.Entries.{messages_of, put_entry, entries_without, is_numbered}
use Rattle.kit_rules.specs.declared.table.Request.{Request}
use Rattle.kit_rules.specs.declared.table.Request.TheVariants.{Tar, Ner}
use Rattle.kit_rounds.specs.Ledgers.{Ledger}
use Rattle.kit_rounds.specs.Steps.{Receives}
use Rattle.kit_lbts.specs.declared.view.Noted.{Noted}
use Rattle.kit_lbts.specs.declared.view.LbtsView.{LbtsView}
use Rattle.kit_lbts.specs.Views.{entries_of, time_of, due_of, due_by, is_waiting, is_in_hand, is_orphan, receipt_of, receipts_in}
use Rattle.kit_lbts.specs.Promises.{added_of, promise_by, ledger_of, copy_received}
use Rattle.kit_lbts.specs.Progress.{head_in, message_in, spent, taken_in}
use Rattle.kit_lbts.specs.LedgerLaws.{after, stamp_read, ReceiptsAre}
use Rattle.kit_lbts.proofs.Promising.{falls_to}

-- entries timed v or more
abbrev From : ℕ → List Entry → Type 0
From v es = AllByRecursion (λ (e : Entry). v ≤ e.message.time) es

-- v is at most the least of a time and those of the entries
below_due : (v t : ℕ) (es : List Entry) → v ≤ fold (λ (t : ℕ) (m : Message). min t m.time) t (messages_of es) → (v ≤ t) × From v es
below_due v t [] h = (h, tt)
below_due v t (e ∷ es) h =
    let rest = below_due v (min t e.message.time) es h in
    (omega (arith, rest.0), (omega (arith, rest.0), rest.1))

due_below : (v t : ℕ) (es : List Entry) → v ≤ t → From v es → v ≤ fold (λ (t : ℕ) (m : Message). min t m.time) t (messages_of es)
due_below v t [] le h = le
due_below v t (e ∷ es) le h = due_below v (min t e.message.time) es (omega (arith, h.0)) h.1

from_put : (v : ℕ) (e : Entry) (es : List Entry) → v ≤ e.message.time → From v es → From v (put_entry e es)
from_put v e [] le h = (le, tt)
from_put v e (x ∷ xs) le h = step (is_before e.message x.message) (from_put v e xs le h.1)
  where
    step : (b : Bool) → From v (put_entry e xs) → From v (cond b (e ∷ x ∷ xs) (x ∷ put_entry e xs))
    step true rest = (le, h)
    step false rest = (h.0, rest)

-- what a queue becomes that takes a message in
abbrev IsTakenIn : ℕ → List Entry → List Entry → Type 0
IsTakenIn time es then = (v : ℕ) → v ≤ time → From v es → From v then

-- the due time falls to the message's time at most
due_falls : (r : Option Request) (time : ℕ) (es then : List Entry) → IsTakenIn time es then
    → (v : ℕ) → v ≤ due_by r (messages_of es) → v ≤ time → v ≤ due_by r (messages_of then)
due_falls None time es then taken v h le = h
due_falls (Some (Tar t)) time es then taken v h le = h
due_falls (Some (Ner t)) time es then taken v h le =
    let both = below_due v t es h in due_below v t then both.0 (taken v le both.1)

module _ (p : Place LbtsView) (i k body : ℕ) where
  abbrev v : LbtsView
  v = p.client

  abbrev head : ℕ
  head = head_in i k v.in_hand

  abbrev m : Message
  m = message_in i head body

  abbrev then : LbtsView
  then = record v { in_hand = filter (λ h. not (is_in_hand i k h)) v.in_hand; journal = v.journal ++ record { entry = Received m; colour = (head_of head).colour } ∷ [] }

  same_time : time_of then ≡ time_of v
  same_time =
      ap now_of (map-append (λ (e : Noted). e.entry) v.journal (record { entry = Received m; colour = (head_of head).colour } ∷ []))
      ∙ others_keep_the_time (entries_of v) (Received m) refl

  one_more : map copy_received (receipts_in then.journal) ≡ map copy_received (receipts_in v.journal) ++ record { peer = i; stamp = stamp_read p i k body } ∷ []
  one_more =
      ap (map copy_received) (filter_map-append (λ (e : Noted). receipt_of e.entry e.colour) v.journal (record { entry = Received m; colour = (head_of head).colour } ∷ []))
      ∙ map-append copy_received (receipts_in v.journal) (record { message = m; colour = (head_of head).colour } ∷ [])

  abbrev with_view : LbtsView → Ledger
  with_view w = ledger_of (record p { client = w })

  -- whatever the queue becomes that takes the message in
  received : (queue : List Entry) (w : LbtsView) → IsTakenIn m.time v.queue queue
      → with_view w ≡ with_view (record then { queue = queue }) → Receives i (stamp_read p i k body) (ledger_of p) (with_view w)
  received queue w taken e = record {
    holds = λ x low le.
        let r = record then { queue = queue } in
        omega (
          arith,
          ap (λ (l : Ledger). l.promise) e,
          ap (λ t. promise_by v.federation.end (added_of p) t (due_of r) (is_waiting v)) same_time,
          falls_to v.federation.end (added_of p) (time_of v) (due_of v) (due_of r) m.time x (is_waiting v) (due_falls v.request m.time v.queue queue taken) low le,
        );
    is =
        e ∙ ap (λ rs. record (with_view (record then { queue = queue })) { received = rs }) one_more
        ∙ ap (λ x. record (ledger_of p) { promise = x; received = map copy_received (receipts_in v.journal) ++ record { peer = i; stamp = stamp_read p i k body } ∷ [] }) (sym (ap (λ (l : Ledger). l.promise) e));
  }

  by_event : (b : Bool) → Receives i (stamp_read p i k body) (ledger_of p) (with_view (cond b
      (record then { orphans = filter (λ o. not (is_orphan i m.number o)) then.orphans; spent = then.spent ++ spent i k ∷ [] })
      (record then { queue = put_entry (record { message = m; buffer = Some k }) then.queue })))
  by_event true = received v.queue (record then { orphans = filter (λ o. not (is_orphan i m.number o)) then.orphans; spent = then.spent ++ spent i k ∷ [] }) (λ x le h. h) refl
  by_event false = received (put_entry (record { message = m; buffer = Some k }) v.queue) (record then { queue = put_entry (record { message = m; buffer = Some k }) then.queue }) (λ x le h. from_put x (record { message = m; buffer = Some k }) v.queue le h) refl

  by_kind : (kind : Kind) → Receives i (stamp_read p i k body) (ledger_of p) (with_view (taken_in kind i k m then))
  by_kind Event = by_event (list_any (is_orphan i m.number) then.orphans)
  by_kind Retraction =
      received (entries_without i m.value v.queue) (taken_in Retraction i k m then)
      (λ x le h. all_filter (λ (e : Entry). x ≤ e.message.time) (λ e. not (is_numbered i m.value e.message)) v.queue h) refl

  pub receipt_is : Receives i (stamp_read p i k body) (ledger_of p) (ledger_of (after (ReadPart i k 1 body) p))
  receipt_is = by_kind m.kind

pub receipts_are : ReceiptsAre
receipts_are = λ p i k body. receipt_is p i k body
