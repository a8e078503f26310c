-- A node mirrors its seat again once its settled entries gave their buffers back.
use Rattle.std.proofs.Common.{◌≡◌, ℕ, ◌<◌, ◌≤◌, ◌&&◌, nat_lt, Bool, true, false, List, [], ◌∷◌, map, refl, sym, ap, ◌∙◌, subst, arith}
use Rattle.std.specs.Prelude.{Option, Some, None, is_some, All, if◌then◌else◌, slice_index_or}
use Rattle.std.proofs.lemmas.Bool.{ltb-false}
use Rattle.std.proofs.lemmas.List.Elements.{All-head, All-map, All-tail}
use Rattle.std.proofs.lemmas.Option.{none-some}
use Rattle.kit_ground.specs.declared.place.Place.{Place}
use Rattle.kit_queue.specs.declared.entry.Entry.{Entry}
use Rattle.kit_queue.specs.Entries.{without_buffer}
use Rattle.kit_lbts.specs.declared.view.LbtsView.{LbtsView}
use Rattle.kit_lbts.specs.Promises.{bound_of}
use Rattle.kit_node.specs.declared.inbox.Inbox.{Inbox}
use Rattle.kit_node.specs.declared.receipts.Receipts.{Receipts}
use Rattle.kit_node.specs.Mirrors.{MirrorsInbox, MirrorsReceipts, orphan_seen}
use Rattle.kit_node.proofs.MirrorFrames.{receipts_frame}
use Rattle.kit_lbts.specs.Views.{receipts}
use Rattle.kit_node.specs.Settling.{HasSettled, settled_below, settled_or_same}

abbrev P : Type 0
P = Place LbtsView

abbrev pub Loose : ℕ → Entry → Type 0
Loose below e = e.message.time < below → e.buffer ≡ None

-- an entry without a buffer below the bound stays as it is
loose_test : (below : ℕ) (e : Entry) (b : Bool) (o : Option ℕ) → nat_lt e.message.time below ≡ b → e.buffer ≡ o → Loose below e → (b && is_some o) ≡ false
loose_test below e false o early is loose = refl
loose_test below e true None early is loose = refl
loose_test below e true (Some k) early is loose = let lt : e.message.time < below = grind (arith, early) in absurd (none-some k (sym (loose lt) ∙ is))

loose_same : (below : ℕ) (e : Entry) → Loose below e → settled_or_same below e ≡ e
loose_same below e loose = ap (λ (b : Bool). if b then without_buffer e else e) (loose_test below e (nat_lt e.message.time below) e.buffer refl refl loose)

pub all_loose : (below : ℕ) (es : List Entry) → All (Loose below) es → settled_below below es ≡ es
all_loose below [] h = refl
all_loose below (e ∷ es) h = λ i. loose_same below e (All-head (Loose below) e es h) i ∷ all_loose below es (All-tail (Loose below) e es h) i

-- nothing is settled where nothing has to be
pub settles_none : (bound : ℕ) (p : P) → All (Loose bound) p.client.queue → HasSettled bound false p p
settles_none bound p h = record {
  seat = record { number = refl; federates = refl; buffers = refl; steps = omega arith; stops = refl };
  registers = refl;
  counts = refl;
  mail = refl;
  stop = refl;
  shown = refl;
  collects = refl;
  buffers = refl;
  view = ap (λ (l : List Entry). record p.client { queue = l }) (sym (all_loose bound p.client.queue h));
  none = λ _. refl;
  some = λ e. absurd (cc);
}

-- what is settled below a bound has no buffer below it
settled_test : (below : ℕ) (e : Entry) (b : Bool) (o : Option ℕ) → nat_lt e.message.time below ≡ b → e.buffer ≡ o → Loose below (if b && is_some o then without_buffer e else e)
settled_test below e true (Some k) early is = λ _. refl
settled_test below e true None early is = λ _. is
settled_test below e false o early is = λ lt. let le : below ≤ e.message.time = ltb-false e.message.time below early in absurd (omega arith)

settled_loose : (below : ℕ) (e : Entry) → Loose below (settled_or_same below e)
settled_loose below e = settled_test below e (nat_lt e.message.time below) e.buffer refl refl

pub all_settled : (below : ℕ) (es : List Entry) → All (Loose below) (settled_below below es)
all_settled below es = All-map (Loose below) (settled_or_same below) es (λ k d lt. settled_loose below (slice_index_or es k d))

-- the inbox mirrors the view again, with the bound as what it is settled to
pub inbox_settles : {Q : Type 0} (entries : Q → List Entry) (i after : Inbox Q) (released : Bool) (p q : P) → MirrorsInbox entries i p.client → HasSettled (bound_of p.client) released p q
    → entries after.queue ≡ q.client.queue → after.orphans ≡ i.orphans → after.receipts ≡ i.receipts → after.settled ≡ bound_of p.client → MirrorsInbox entries after q.client
inbox_settles entries i after released p q m h queue orphans receipts_same settled =
    let v = h.view in
    let same : bound_of q.client ≡ bound_of p.client = ap bound_of v in
    let loose : All (Loose (bound_of p.client)) q.client.queue = subst (All (Loose (bound_of p.client))) (sym (ap (λ (x : LbtsView). x.queue) v)) (all_settled (bound_of p.client) p.client.queue) in
    record {
      queue = queue;
      orphans = ap (λ o. map orphan_seen o.items) orphans ∙ (m.orphans ∙ sym (ap (λ (x : LbtsView). x.orphans) v));
      receipts = receipts_frame after.receipts p.client q.client (ap receipts v) (ap (λ (x : LbtsView). x.contributions) v) (subst (λ (r : Receipts). MirrorsReceipts r p.client) (sym receipts_same) m.receipts);
      settled = subst (λ (b : ℕ). All (Loose b) q.client.queue) (sym settled) loose;
      settled_to = omega arith;
    }
