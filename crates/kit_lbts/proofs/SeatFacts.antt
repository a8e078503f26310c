-- What a federate's own place tells, in any world in which the rule holds.
use Rattle.std.proofs.Common.{◌≡◌, ℕ, ◌+◌, ◌<◌, ◌≤◌, ◌==◌, Bool, List, true, false, cond, length, filter, get_or, unwrap_or, Option, refl, sym, ap, ◌∙◌, subst, arith, eq-eqb}
use Rattle.std.specs.Prelude.{None, Some, IfSome}
use Rattle.std.specs.List.{All, Contains}
use Rattle.std.proofs.lemmas.List.Elements.{All-contains, All-contains_itself, All-weaker}
use mathlib.Core.Option.{some}
use lib.ListN.{get_elem?}
use Rattle.kit_base.specs.declared.message.Message.{Message}
use Rattle.kit_base.specs.Order.{in_order}
use Rattle.kit_parts.specs.Queues.{due_by_queue}
use Rattle.kit_parts.proofs.Granting.{dues_by_queue}
use Rattle.kit_rules.specs.Delivery.{due_time, pending_messages}
use Rattle.kit_rules.specs.Parts.{Parts}
use Rattle.kit_lbts.proofs.Agreeing.{due_ordered}
use Rattle.kit_ground.specs.declared.place.Place.{Place}
use Rattle.kit_ground.proofs.Lists.{at_inside, at_or}
use Rattle.kit_model.specs.Journals.{last_grant}
use Rattle.kit_model.specs.Shares.{FitsWord}
use Rattle.kit_queue.specs.Entries.{messages_of}
use Rattle.kit_rounds.specs.Ledgers.{Copy, Ledger, last_run}
use Rattle.kit_rounds.specs.Rounds.{run_of}
use Rattle.kit_rounds.proofs.Colours.{colour_near}
use Rattle.kit_rules.specs.declared.table.Request.{Request}
use Rattle.kit_lbts.specs.declared.view.Filled.{Filled}
use Rattle.kit_lbts.specs.declared.view.LbtsView.{LbtsView}
use Rattle.kit_lbts.specs.declared.view.Posting.{Posting}
use Rattle.kit_lbts.specs.Promises.{bound_of, copy_posted, ledger_of, ledgers_of, next_contribution}
use Rattle.kit_lbts.specs.Rule.{FederateRule}
use Rattle.kit_lbts.specs.SeatLaws.{CopiesAreFew, DuesAreAhead, DuesGoByFirst, IsInWorld, NextSharesFit, PlacesTell, ReceiptsAreNear}
use Rattle.kit_lbts.specs.Seats.{most_sends}
use Rattle.kit_lbts.specs.Views.{messages_delivered, due_by, entries_of, is_new, receipts, messages_received, time_of}
use Rattle.kit_lbts.specs.Ways.{letters_posted_to, letters_received_from}
use Rattle.kit_lbts.specs.Progress.{view_after_start}
use Rattle.kit_lbts.proofs.Dues.{due_between}
use Rattle.kit_lbts.proofs.Copies.{contains_filter, contains_map, counted_there, filter_contains, map_contains, same_letter, same_letter_is, same_letter_self}
use Rattle.kit_lbts.proofs.Fitting.{next_fits, posts_few, receipts_few, senders}
use Rattle.kit_lbts.proofs.GrantAgreement.{without_agreement}
use Rattle.kit_lbts.proofs.Hands.{count_has}
use Rattle.kit_lbts.proofs.NextBlocks.{sound}
use Rattle.kit_lbts.proofs.RoundSteps.{ledger_before}
use Rattle.kit_lbts.proofs.Starting.{started_world}

abbrev P : Type 0
P = Place LbtsView

pub places_tell : PlacesTell
places_tell p (m, places, w) =
    let rule : FederateRule m places p.own.number p = w.client.floor.each p.own.number p w.here in
    let common = w.client.floor.common.each p.own.number p w.here in
    let many : p.own.federates ≡ length places = (w.floor.each p.own.number p w.here).federates in
    record {
      federation = sound p m places w;
      there = subst (λ (n : ℕ). p.own.number < n) (sym many) (at_inside places p.own.number p w.here);
      federates = many ∙ (w.client.floor.common.many ∙ ap (λ f. length f.federates) (sym common.0));
      buffers = common.2 ∙ ap (λ f. f.buffers) (sym common.0);
      filled = rule.letters.sized;
      half_posted = rule.letters.others;
      sending = rule.letters.sending;
      holdings = rule.holdings;
      queue = rule.queue;
      receiving = rule.heard;
      granting = rule.granting;
      sends = rule.sends;
      agrees = w.client.agree p.own.number p w.here;
    }

pub dues_are_ahead : DuesAreAhead
dues_are_ahead p (m, places, w) there lt =
    let rule : FederateRule m places p.own.number p = w.client.floor.each p.own.number p w.here in
    due_between p.own.number p rule.granting rule.queue there lt

pub dues_go_by_first : DuesGoByFirst
dues_go_by_first p (m, places, w) r is =
    let rule : FederateRule m places p.own.number p = w.client.floor.each p.own.number p w.here in
    let v : LbtsView = p.client in
    ap (λ (o : Option Request). due_by o (messages_of v.queue)) is ∙ by r v.federation p.own.number (messages_delivered v) (messages_received v) (messages_of v.queue) rule.queue.is
  where
    by : (r : Request) (f : Parts) (j : ℕ) (got came ms : List Message) → ms ≡ in_order (pending_messages f j got came) → due_time r ms ≡ due_by_queue r ms
    by r f j got came ms e = ap (due_time r) e ∙ (due_ordered r (pending_messages f j got came) ∙ (dues_by_queue f j r got came ∙ ap (due_by_queue r) (sym e)))

pub copies_are_few : CopiesAreFew
copies_are_few p (m, places, w) =
    let x = without_agreement p m places w in
    (posts_few p m places x p.own.number p x.here, receipts_few p m places x p.own.number p x.here)

pub next_shares_fit : NextSharesFit
next_shares_fit p (m, places, w) few = by (is_new p.client.request) refl few
  where
    by : (b : Bool) → is_new p.client.request ≡ b → length (cond b (view_after_start p.own.number p.client) p.client).state.sends ≤ most_sends
        → FitsWord (next_contribution (record p { client = cond b (view_after_start p.own.number p.client) p.client })).share
    by false e small = let x = without_agreement p m places w in next_fits p m places x p.own.number p x.here
    by true e small =
        let q : P = record p { client = view_after_start p.own.number p.client } in
        let x = started_world p e small m places (without_agreement p m places w) in
        next_fits q m _ x p.own.number q x.here

-- where the bound is not beyond the end, the end was not granted
pub early_of : (p : P) → IsInWorld p → bound_of p.client ≤ p.client.federation.end → time_of p.client < p.client.federation.end
early_of p w le = by (last_grant (entries_of p.client)) (places_tell p w).granting.below
  where
    by : (o : Option ℕ) → IfSome o (λ t. t < bound_of p.client) → unwrap_or o 0 < p.client.federation.end
    by None h = (places_tell p w).federation.end.0
    by (Some t) h = omega (arith, h, le)

same_colour : (x : Posting) (f : Filled) → x.filled ≡ f → x.filled.colour ≡ f.colour
same_colour x f e = ap (λ (y : Filled). y.colour) e

pub receipts_are_near : ReceiptsAreNear
receipts_are_near p (m, places, w) = All-weaker (Contains (receipts p.client)) (λ (f : Filled). f.colour ≤ last_run p.client.contributions + 1) near (receipts p.client) (All-contains_itself (receipts p.client))
  where
    near : (f : Filled) → Contains (receipts p.client) f → f.colour ≤ last_run p.client.contributions + 1
    near f has =
        let x = without_agreement p m places w in
        let me : ℕ = p.own.number in
        let i : ℕ = f.message.sender in
        let li : i < length places = All-contains (λ (g : Filled). g.message.sender < length places) (receipts p.client) f (senders p m places x me p x.here) has in
        let r : P = get_or places i p in
        let at : get_elem? places i ≡ some r = at_or places i p li in
        let came : Contains (letters_received_from i p.client) f = filter_contains (λ (g : Filled). g.message.sender == i) (receipts p.client) f (eq-eqb i i refl) has in
        let c = (x.client.ways i me r p at x.here).copies (same_letter f) in
        let l = count_has (same_letter f) (letters_received_from i p.client) f came (same_letter_self f) in
        let t = counted_there (same_letter f) (letters_posted_to me r.client) (omega arith) in
        let posted : Contains (letters_posted_to me r.client) f = subst (Contains (letters_posted_to me r.client)) (sym (same_letter_is f t.0 t.2)) t.1 in
        let g = map_contains (λ (y : Posting). y.filled) (filter (λ (y : Posting). y.to == me) r.client.posted) f posted in
        let in_posted = (contains_filter (λ (y : Posting). y.to == me) r.client.posted g.0 g.1).1 in
        let run : ℕ = run_of (length places) (ledgers_of places) x.client.rounds.0 in
        let newest = x.client.rounds.1.newest i li in
        let same : ledgers_of places i ≡ ledger_of r = ledger_before places i r r at in
        let all = subst (λ (y : Ledger). All (λ (k : Copy). k.stamp.colour ≤ run) y.posted) same newest in
        let most = All-contains (λ (k : Copy). k.stamp.colour ≤ run) (ledger_of r).posted (copy_posted g.0) all (contains_map copy_posted r.client.posted g.0 in_posted) in
        let near = colour_near (length places) (ledgers_of places) x.client.rounds.0 me x.client.rounds.1.rounds (at_inside places me p x.here) in
        let mine : (ledgers_of places me).colour ≡ last_run p.client.contributions = ap (λ (y : Ledger). y.colour) (ledger_before places me p p x.here) in
        omega (arith, most, same_colour g.0 f g.2, near.1, mine)
