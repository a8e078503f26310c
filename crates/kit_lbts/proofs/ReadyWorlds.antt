-- The place of a federate whose start's rules have run: it is a place in a world, too, and the start leaves what is
-- half posted, the federation, and what its registers show.
use Rattle.std.proofs.Common.{◌≡◌, ◌≢◌, ℕ, ◌≤◌, Bool, true, false, cond, List, [], length, map, refl, sym, ap, ◌∙◌, if◌then◌else◌}
use Rattle.std.specs.Prelude.{Option, Some, None, slice_set}
use Rattle.kit_ground.specs.declared.place.Place.{Place}
use Rattle.kit_ground.proofs.PlaceSteps.{each_after}
use Rattle.kit_rules.specs.declared.table.Request.{Request}
use Rattle.kit_lbts.specs.Agreement.{Agrees}
use Rattle.kit_lbts.specs.declared.view.LbtsView.{LbtsView}
use Rattle.kit_lbts.specs.declared.view.Noted.{Noted}
use Rattle.kit_lbts.specs.LedgerLaws.{ready_place}
use Rattle.kit_lbts.specs.Progress.{view_after_start, view_when_ready}
use Rattle.kit_lbts.specs.PublishLaws.{ShowsLast}
use Rattle.kit_lbts.specs.SeatLaws.{IsInWorld}
use Rattle.kit_lbts.specs.Seats.{most_sends}
use Rattle.kit_lbts.specs.Views.{entries_of, is_new}
use Rattle.kit_lbts.proofs.Agreeing.{starts_agree}
use Rattle.kit_lbts.proofs.GrantAgreement.{without_agreement}
use Rattle.kit_lbts.proofs.Starting.{new_is, started_world}

abbrev P : Type 0
P = Place LbtsView

pub ready_in_world : (p : P) → IsInWorld p → length (view_when_ready p.own.number p.client).state.sends ≤ most_sends → IsInWorld (ready_place p)
ready_in_world p (m, places, w) few = by (is_new p.client.request) refl few
  where
    by : (b : Bool) → is_new p.client.request ≡ b → length (cond b (view_after_start p.own.number p.client) p.client).state.sends ≤ most_sends
        → IsInWorld (record p { client = cond b (view_after_start p.own.number p.client) p.client })
    by false e small = (m, places, w)
    by true e small =
        let me : ℕ = p.own.number in
        let q : P = record p { client = view_after_start p.own.number p.client } in
        let new = new_is p.client.request e in
        let none : entries_of p.client ≡ [] = ap (λ (l : List Noted). map (λ (x : Noted). x.entry) l) ((w.client.floor.each me p w.here).sends.new new).2 in
        let x = started_world p e small m places (without_agreement p m places w) in (
          m,
          slice_set places me q,
          record {
            floor = x.floor;
            client = record {
              floor = x.client;
              agree = each_after (λ i (r : P). Agrees i r.client) places me q (starts_agree me p.client new none (w.client.agree me p w.here)) (λ i r other at. w.client.agree i r at);
            };
            here = x.here;
          },
        )

abbrev ready_by : P → Bool → P
ready_by p b = record p { client = cond b (view_after_start p.own.number p.client) p.client }

pub ready_shows : (p : P) → ShowsLast (ready_place p) → ShowsLast p
ready_shows p = by (is_new p.client.request)
  where
    by : (b : Bool) → ShowsLast (ready_by p b) → ShowsLast p
    by true h = h
    by false h = h

pub ready_sending : (p : P) → (ready_place p).client.sending ≡ p.client.sending
ready_sending p = by (is_new p.client.request)
  where
    by : (b : Bool) → (ready_by p b).client.sending ≡ p.client.sending
    by true = refl
    by false = refl

pub ready_federation : (p : P) → (ready_place p).client.federation ≡ p.client.federation
ready_federation p = by (is_new p.client.request)
  where
    by : (b : Bool) → (ready_by p b).client.federation ≡ p.client.federation
    by true = refl
    by false = refl

pub ready_asked : (p : P) → (ready_place p).client.request ≢ None
ready_asked p none = by p.client.request refl none
  where
    some_is_none : (r : Request) → Some r ≡ None → ⊥
    some_is_none r e = cc

    by : (o : Option Request) → p.client.request ≡ o → (ready_place p).client.request ≡ None → ⊥
    by None e h = some_is_none _ (sym (ap (λ (o : Option Request). (if is_new o then view_after_start p.own.number p.client else p.client).request) e) ∙ h)
    by (Some r) e h = some_is_none r (sym e ∙ (sym (ap (λ (o : Option Request). (if is_new o then view_after_start p.own.number p.client else p.client).request) e) ∙ h))
