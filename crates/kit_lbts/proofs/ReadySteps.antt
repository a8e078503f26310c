-- The start's rules run; mail is collected; a time is granted: rises of a federate's ledger.
use Rattle.std.proofs.Common.{◌≡◌, ℕ, ◌≤◌, Bool, true, false, cond, ◌||◌, not, List, [], ◌∷◌, ◌++◌, map, arith, refl, ap, ◌∙◌}
use Rattle.std.proofs.lemmas.List.{map-append, append-nil}
use Rattle.std.proofs.lemmas.List.Elements.{filter_map-append}
use Rattle.kit_base.specs.declared.message.Message.{Message}
use Rattle.kit_ground.specs.declared.place.Place.{Place}
use Rattle.kit_model.specs.declared.journal.JournalEntry.TheVariants.{Delivered, Granted}
use Rattle.kit_model.specs.Journals.{now_of}
use Rattle.kit_model.proofs.Lawful.{now_of-granted}
use Rattle.kit_rounds.specs.Ledgers.{Ledger}
use Rattle.kit_rounds.specs.Steps.{Rises}
use Rattle.kit_lbts.specs.declared.view.Noted.{Noted}
use Rattle.kit_lbts.specs.declared.view.LbtsView.{LbtsView}
use Rattle.kit_lbts.specs.Views.{time_of, due_of, is_new, is_empty, is_waiting, receipt_of, receipts_in}
use Rattle.kit_lbts.specs.Promises.{added_of, promise_of, promise_by, ledger_of, copy_received}
use Rattle.kit_lbts.specs.Progress.{view_after_start, note_of, due_in, view_after_grant}
use Rattle.kit_lbts.specs.LedgerLaws.{ReadyIs, CollectsAre, GrantsAre}
use Rattle.kit_lbts.proofs.Promising.{rises_idle, granted_rises}

abbrev with_view : Place LbtsView → LbtsView → Ledger
with_view p v = ledger_of (record p { client = v })

idle_or_not : (end lookahead now due : ℕ) (b : Bool) → now ≤ due → promise_by end lookahead now due true ≤ promise_by end lookahead now due b
idle_or_not end lookahead now due true le = omega arith
idle_or_not end lookahead now due false le = rises_idle end lookahead now due le

ready_rises : (p : Place LbtsView) (b : Bool) → is_new p.client.request ≡ b → time_of p.client ≤ due_of (cond b (view_after_start p.own.number p.client) p.client)
    → Rises (ledger_of p) (with_view p (cond b (view_after_start p.own.number p.client) p.client))
ready_rises p false new le = record { rises = omega arith; is = refl }
ready_rises p true new le =
    let v = p.client in
    let after = view_after_start p.own.number v in
    let waits : is_waiting v ≡ true = ap (λ b. b || not (is_empty v.outbox)) new in
    record {
      rises = omega (arith, ap (promise_by v.federation.end (added_of p) (time_of v) (due_of v)) waits, idle_or_not v.federation.end (added_of p) (time_of v) (due_of after) (is_waiting after) le);
      is = refl;
    }

pub ready_is : ReadyIs
ready_is p le = ready_rises p (is_new p.client.request) refl le

pub collects_are : CollectsAre
collects_are p i word mail le =
    let h = ready_is p le in
    record { rises = h.rises; is = h.is }

-- entries of deliveries and of a grant tell of no receipt
no_receipts : (d : ℕ) (due : List Message) → receipts_in (map (λ m. note_of (Delivered d m)) due) ≡ []
no_receipts d [] = refl
no_receipts d (m ∷ ms) = no_receipts d ms

pub same_receipts : (d : ℕ) (due : List Message) (ns : List Noted) → receipts_in (ns ++ map (λ m. note_of (Delivered d m)) due ++ note_of (Granted d) ∷ []) ≡ receipts_in ns
same_receipts d due ns =
    filter_map-append (λ (e : Noted). receipt_of e.entry e.colour) (ns ++ map (λ m. note_of (Delivered d m)) due) (note_of (Granted d) ∷ [])
    ∙ append-nil (receipts_in (ns ++ map (λ m. note_of (Delivered d m)) due))
    ∙ filter_map-append (λ (e : Noted). receipt_of e.entry e.colour) ns (map (λ m. note_of (Delivered d m)) due)
    ∙ ap (λ fs. receipts_in ns ++ fs) (no_receipts d due) ∙ append-nil (receipts_in ns)

-- the time that was granted is the logical time
pub granted_time : (j d : ℕ) (v : LbtsView) → time_of (view_after_grant j d v) ≡ d
granted_time j d v =
    ap now_of (map-append (λ (e : Noted). e.entry) (v.journal ++ map (λ m. note_of (Delivered d m)) (due_in d v.queue)) (note_of (Granted d) ∷ []))
    ∙ now_of-granted (map (λ (e : Noted). e.entry) (v.journal ++ map (λ m. note_of (Delivered d m)) (due_in d v.queue))) d

pub grants_are : GrantsAre
grants_are p idle ahead later =
    let v = p.client in
    let d = due_of v in
    let q = view_after_grant p.own.number d v in
    record {
      rises =
          omega (
            arith,
            ap (promise_by v.federation.end (added_of p) (time_of v) d) idle,
            ap (λ t. promise_by v.federation.end (added_of p) t (due_of q) (is_waiting q)) (granted_time p.own.number d v),
            granted_rises v.federation.end (added_of p) (time_of v) d (due_of q) (is_waiting q) ahead later,
          );
      is = ap (λ fs. record (ledger_of p) { promise = promise_of (record p { client = q }); received = map copy_received fs }) (same_receipts d (due_in d v.queue) v.journal);
    }
