-- What the loop over the outbox hands to the next post.
use Rattle.std.proofs.Common.{◌≡◌, ℕ, ◌-◌, ◌<◌, ◌≤◌, Bool, List, ◌∷◌, length, None, sym, ap, ◌∙◌, subst, arith}
use Rattle.std.proofs.lemmas.List.{length-drop}
use Rattle.kit_base.specs.declared.message.Message.{Message}
use Rattle.kit_ground.specs.declared.place.Place.{Place}
use Rattle.kit_rules.specs.Parts.{Parts}
use Rattle.kit_rounds.specs.Ledgers.{last_run}
use Rattle.kit_lbts.specs.declared.view.LbtsView.{LbtsView}
use Rattle.kit_node.specs.declared.outbox.Outbox.{Outbox}
use Rattle.kit_node.specs.Fields.{waiting_in}
use Rattle.kit_node.specs.Looks.{LooksAtCounts}
use Rattle.kit_node.specs.Mirrors.{MirrorsOutbox}
use Rattle.kit_node.specs.Sending.{HasPosted, IsFirstOf}
use Rattle.kit_node.proofs.PostedAll.{HasPostedSome, still_whole}

abbrev P : Type 0
P = Place LbtsView

-- one fewer waits
pub fewer_wait : (o after : Outbox) (q r s : P) → MirrorsOutbox o q.client → LooksAtCounts q r → HasPosted 1 r s → MirrorsOutbox after s.client → length (waiting_in after) < length (waiting_in o)
fewer_wait o after q r s m looks h now =
    let a : length (waiting_in after) ≡ length s.client.outbox = ap length now.messages in
    let b : length s.client.outbox ≡ length r.client.outbox - 1 = ap length h.left ∙ length-drop 1 r.client.outbox in
    let few : 1 ≤ length r.client.outbox = h.few in
    let d : length r.client.outbox ≡ length q.client.outbox = ap (λ (c : LbtsView). length c.outbox) looks.view in
    let e : length (waiting_in o) ≡ length q.client.outbox = ap length m.messages in
    omega arith

module _ (posted : Bool) (p q r : P) (a : HasPostedSome posted p q) (looks : LooksAtCounts q r) where
  pub federation_still : (f : Parts) → p.client.federation ≡ f → r.client.federation ≡ f
  federation_still f is = ap (λ (c : LbtsView). c.federation) looks.view ∙ (ap (λ (c : LbtsView). c.federation) a.done.view ∙ is)

  pub colour_still : (colour : ℕ) → colour ≡ last_run p.client.contributions → colour ≡ last_run r.client.contributions
  colour_still colour is = is ∙ sym (ap (λ (c : LbtsView). last_run c.contributions) looks.view ∙ ap (λ (c : LbtsView). last_run c.contributions) a.done.view)

  pub first_waits : (o : Outbox) (m : Message) (rest : List Message) → p.client.sending ≡ None → MirrorsOutbox o q.client → waiting_in o ≡ m ∷ rest → IsFirstOf m r.client
  first_waits o m rest whole mirrors is = record {
    rest = rest;
    outbox = ap (λ (c : LbtsView). c.outbox) looks.view ∙ (sym mirrors.messages ∙ is);
    whole = ap (λ (c : LbtsView). c.sending) looks.view ∙ still_whole posted p q a whole;
  }

pub mirrors_still : (o : Outbox) (q r : P) → LooksAtCounts q r → MirrorsOutbox o q.client → MirrorsOutbox o r.client
mirrors_still o q r looks m = subst (λ (c : LbtsView). MirrorsOutbox o c) (sym looks.view) m
