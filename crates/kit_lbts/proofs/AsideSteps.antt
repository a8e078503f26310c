-- Deeds that leave a federate's ledger as it is.
use Rattle.std.proofs.Common.{◌≡◌, ℕ, zero, suc, Bool, true, false, cond, ◌==◌, ◌&&◌, not, length, List, [], ◌∷◌, ◌++◌, map, arith, refl, ap}
use Rattle.std.specs.List.{list_any, filter}
use Rattle.kit_ground.specs.declared.address.Reg.{Reg}
use Rattle.kit_ground.specs.declared.place.Deed.TheVariants.{Looked, Published, Charged, PostedTo, Collected, ReadPart, Released, SawFree, SawStop, Stopped, Wrote}
use Rattle.kit_ground.specs.declared.place.Place.{Place}
use Rattle.kit_model.specs.Shares.{share_of}
use Rattle.kit_queue.specs.declared.entry.Entry.{Entry}
use Rattle.kit_queue.specs.Entries.{messages_of, without_buffer}
use Rattle.kit_rounds.specs.Ledgers.{Ledger}
use Rattle.kit_lbts.specs.declared.view.LbtsView.{LbtsView}
use Rattle.kit_lbts.specs.Views.{is_spent, due_by, time_of, is_waiting}
use Rattle.kit_lbts.specs.Promises.{promise_by, added_of, ledger_of}
use Rattle.kit_lbts.specs.Seats.{waits_in}
use Rattle.kit_lbts.specs.Reduction.{next_source, sources, share_with_taken}
use Rattle.kit_lbts.specs.Progress.{is_under_way, own_share, view_after_close, shows_next, view_after_look, put_down}
use Rattle.kit_lbts.specs.LedgerLaws.{AsidesLeaveLedgers}

-- to give up a buffer leaves the messages
same_messages : (i k : ℕ) (es : List Entry) → messages_of (map (λ e. cond (waits_in i k e) (without_buffer e) e) es) ≡ messages_of es
same_messages i k [] = refl
same_messages i k (e ∷ es) = step (waits_in i k e) (same_messages i k es)
  where
    step : (b : Bool) → messages_of (map (λ e. cond (waits_in i k e) (without_buffer e) e) es) ≡ messages_of es
        → (cond b (without_buffer e) e).message ∷ messages_of (map (λ e. cond (waits_in i k e) (without_buffer e) e) es) ≡ e.message ∷ messages_of es
    step true rest = ap (λ ms. e.message ∷ ms) rest
    step false rest = ap (λ ms. e.message ∷ ms) rest

-- the ledger of a seat with this view
abbrev with_view : Place LbtsView → LbtsView → Ledger
with_view p v = ledger_of (record p { client = v })

-- to close a round leaves the ledger
pub close_leaves : (p : Place LbtsView) (n j : ℕ) (v : LbtsView) → with_view p (view_after_close n j v) ≡ with_view p v
close_leaves p n j v = step (is_under_way v && length v.taken == length (sources v.scheme n j))
  where
    step : (b : Bool) → with_view p (cond b (record v { results = v.results ++ share_with_taken v.scheme n j (own_share v) v.taken ∷ []; taken = [] }) v) ≡ with_view p v
    step true = refl
    step false = refl

look_leaves : (p : Place LbtsView) (r : Reg) (word : ℕ) → with_view p (view_after_look r word p) ≡ ledger_of p
look_leaves p r word = step (is_under_way p.client && shows_next (next_source p.client.scheme p.own.federates p.own.number (length p.client.taken)) (length p.client.contributions) r word)
  where
    step : (b : Bool) → with_view p (cond b (view_after_close p.own.federates p.own.number (record p.client { taken = p.client.taken ++ (share_of word).0 ∷ [] })) p.client) ≡ ledger_of p
    step true = close_leaves p p.own.federates p.own.number (record p.client { taken = p.client.taken ++ (share_of word).0 ∷ [] })
    step false = refl

release_leaves : (p : Place LbtsView) (i k : ℕ) → with_view p (put_down i k p.client) ≡ ledger_of p
release_leaves p i k = step (list_any (is_spent i k) p.client.spent)
  where
    step : (b : Bool) → with_view p (cond b (record p.client { spent = filter (λ s. not (is_spent i k s)) p.client.spent }) (record p.client { queue = map (λ e. cond (waits_in i k e) (without_buffer e) e) p.client.queue })) ≡ ledger_of p
    step true = refl
    step false =
        ap (λ ms. record (ledger_of p) { promise = promise_by p.client.federation.end (added_of p) (time_of p.client) (due_by p.client.request ms) (is_waiting p.client) })
        (same_messages i k p.client.queue)

pub asides_leave_ledgers : AsidesLeaveLedgers
asides_leave_ledgers p (Looked r word) h = look_leaves p r word
asides_leave_ledgers p (Published r word) h = absurd h
asides_leave_ledgers p Stopped h = refl
asides_leave_ledgers p (SawStop set) h = refl
asides_leave_ledgers p (SawFree k free) h = refl
asides_leave_ledgers p (Wrote k part word) h = refl
asides_leave_ledgers p (Charged k mask) h = refl
asides_leave_ledgers p (PostedTo k j) h = absurd h
asides_leave_ledgers p (Collected i word mail) h = absurd h
asides_leave_ledgers p (ReadPart i k zero word) h = refl
asides_leave_ledgers p (ReadPart i k (suc part) word) h = absurd (omega (arith, h))
asides_leave_ledgers p (Released i k) h = release_leaves p i k
