-- The start's rules of a federate have run: the rule holds as before.
use Rattle.std.proofs.Common.{◌≡◌, ℕ, zero, suc, ◌+◌, ◌<◌, ◌≤◌, ◌==◌, Bool, true, false, cond, List, [], ◌∷◌, ◌++◌, length, map, filter, get_or, Option, Some, None, refl, sym, ap, ◌∙◌, subst, arith, true≢false, length-set}
use Rattle.std.specs.List.{All, AllByRecursion, Contains}
use Rattle.std.specs.Prelude.{slice_set}
use Rattle.std.proofs.lemmas.List.{map-set}
use Rattle.std.proofs.lemmas.List.Elements.{All-cons, All-contains_itself, All-filter, All-from_recursion, All-nil, All-weaker, Contains-get_or, filter_passes}
use mathlib.Core.Option.{some}
use lib.ListN.{get_elem?}
use Rattle.atomic_table.proofs.Lists.{at_map, set_again, set_here}
use Rattle.kit_base.specs.declared.message.Message.{Message}
use Rattle.kit_ground.specs.declared.place.SeatState.{SeatState}
use Rattle.kit_ground.specs.declared.place.Place.{Place}
use Rattle.kit_ground.specs.declared.place.SeatBuffers.{SeatBuffers}
use Rattle.kit_ground.specs.Memory.{Memory}
use Rattle.kit_ground.specs.Rules.{FloorHolds, OwnFits, World, stock_of}
use Rattle.kit_ground.specs.Sets.{Pool}
use Rattle.kit_ground.proofs.Lists.{at_inside}
use Rattle.kit_rules.specs.declared.scene.State.{State}
use Rattle.kit_rules.specs.declared.table.Request.{Request}
use Rattle.kit_rules.specs.declared.table.Trigger.TheVariants.{Start}
use Rattle.kit_rules.specs.Delivery.{is_transported}
use Rattle.kit_rules.specs.Federation.{IsFederation}
use Rattle.kit_rules.specs.Parts.{Parts}
use Rattle.kit_rules.specs.Simulation.{request_at}
use Rattle.kit_rules.specs.Step.{is_event, no_message, state_after}
use Rattle.kit_rules.proofs.Growth.{AreNumbered, Grows, grows_by_step}
use Rattle.kit_rules.proofs.Kept.{kept_by_step}
use Rattle.kit_laws.proofs.Pendings.{From}
use Rattle.kit_model.specs.Journals.{now_of}
use Rattle.kit_rounds.specs.Steps.{Rises}
use Rattle.kit_lbts.specs.declared.view.Filled.{Filled}
use Rattle.kit_lbts.specs.declared.view.Noted.{Noted}
use Rattle.kit_lbts.specs.declared.view.Posting.{Posting}
use Rattle.kit_lbts.specs.declared.view.LbtsView.{LbtsView}
use Rattle.kit_lbts.specs.Views.{is_new, time_of}
use Rattle.kit_lbts.specs.Promises.{added_of, ledger_of}
use Rattle.kit_lbts.specs.Letters.{Letters}
use Rattle.kit_lbts.specs.Seats.{Granting, Sends, TakeBack, left_of, most_sends}
use Rattle.kit_lbts.specs.Ways.{Way, mark_in_mail}
use Rattle.kit_lbts.specs.Progress.{view_when_ready, view_after_start}
use Rattle.kit_lbts.specs.Rule.{LbtsRule, FederateRule, lbts_rule}
use Rattle.kit_parts.proofs.Among.{among_contains, contains_among}
use Rattle.kit_lbts.proofs.Charging.{none_charged}
use Rattle.kit_lbts.proofs.Changes.{kept_at, still, was}
use Rattle.kit_lbts.proofs.Dues.{adds}
use Rattle.kit_parts.proofs.Gains.{Gain, Named, Once, gain_by_step}
use Rattle.kit_lbts.proofs.ReadySteps.{ready_is}
use Rattle.kit_lbts.proofs.RoundSteps.{rises_keep_rounds}
use Rattle.kit_lbts.proofs.SendSteps.{left_none}
use Rattle.kit_lbts.proofs.Ways.{got, sent, way_still}

abbrev P : Type 0
P = Place LbtsView

pub new_is : (r : Option Request) → is_new r ≡ true → r ≡ None
new_is None e = refl
new_is (Some r) e = absurd (true≢false (sym e))

-- numbered messages are the sender's, and each has the number of its place
pub numbered_own : (sender n : ℕ) (ms : List Message) → AreNumbered sender n ms → All (λ (m : Message). m.sender ≡ sender) ms
numbered_own sender n [] h = All-nil (λ (m : Message). m.sender ≡ sender)
numbered_own sender n (m ∷ ms) h = All-cons (λ (m : Message). m.sender ≡ sender) m ms h.0 (numbered_own sender (n + 1) ms h.2)

pub numbered_at : (sender n : ℕ) (ms : List Message) (d : Message) → AreNumbered sender n ms → (k : ℕ) → k < length ms → (get_or ms k d).number ≡ n + k
numbered_at sender n [] d h k lt = absurd (omega arith)
numbered_at sender n (m ∷ ms) d h zero lt = h.1 ∙ (let e : n ≡ n + 0 = omega arith in e)
numbered_at sender n (m ∷ ms) d h (suc k) lt = numbered_at sender (n + 1) ms d h.2 k (omega arith) ∙ (let e : n + 1 + k ≡ n + suc k = omega arith in e)

-- a floor on which a federate knows the same of itself
floor_still : (b : ℕ) (m : Memory) (places : List P) (me : ℕ) (p q : P) → get_elem? places me ≡ some p → q.own ≡ p.own → FloorHolds b m places → FloorHolds b m (slice_set places me q)
floor_still b m places me p q here same h =
    let long = length-set places me q in
    let stocks : map stock_of (slice_set places me q) ≡ map stock_of places =
    map-set stock_of places me q ∙ (ap (λ (o : SeatState). slice_set (map stock_of places) me o.stock) same ∙ set_again (map stock_of places) me (stock_of p) (at_map stock_of places me p here)) in
    record {
      few = subst (λ (n : ℕ). n ≤ 16) (sym long) h.few;
      small = h.small;
      each = λ j r at.
          let t = was places me p q here j r at in
          let o : r.own ≡ t.before.own = still (λ (x : P). x.own) places me p q same j r t in
          subst (λ (x : ℕ × SeatState). OwnFits m x.0 b j x.1) (λ y. (sym long y, sym o y)) (h.each j t.before t.at);
      pool = subst (λ (x : List SeatBuffers × ℕ). Pool m x.0 x.1 b) (λ y. (sym stocks y, sym long y)) h.pool;
      stop = h.stop;
    }

module _ (p : P) (fresh : is_new p.client.request ≡ true) (few : length (view_after_start p.own.number p.client).state.sends ≤ most_sends) (m : Memory) (places : List P) (w : World lbts_rule p m places) where
  abbrev me : ℕ
  me = p.own.number

  abbrev f : Parts
  f = p.client.federation

  abbrev after : State
  after = state_after p.client.federation p.own.number Start 0 0 p.client.state

  abbrev then : LbtsView
  then = view_after_start p.own.number p.client

  abbrev pub q : P
  q = record p { client = view_after_start p.own.number p.client }

  rule : FederateRule m places p.own.number p
  rule = w.client.each me p w.here

  none : (p.client.state.sends ≡ []) × (p.client.posted ≡ []) × (p.client.journal ≡ []) × (p.client.outbox ≡ []) × (p.client.in_hand ≡ []) × (p.client.contributions ≡ [])
  none = rule.sends.new (new_is p.client.request fresh)

  time_zero : time_of p.client ≡ 0
  time_zero = ap (λ (j : List Noted). now_of (map (λ (e : Noted). e.entry) j)) none.2

  sound : IsFederation p.client.federation
  sound = subst IsFederation (sym (w.client.common.each me p w.here).0) w.client.common.sound

  within : p.own.number < length p.client.federation.federates
  within = subst (λ (x : Parts). me < length x.federates) (sym (w.client.common.each me p w.here).0) (subst (λ (n : ℕ). me < n) w.client.common.many (at_inside places me p w.here))

  gain : Gain (0 + added_of p) p.client.state (state_after p.client.federation p.own.number Start 0 0 p.client.state)
  gain = gain_by_step f me Start 0 0 p.client.state sound within

  grow : Grows p.own.number p.client.state (state_after p.client.federation p.own.number Start 0 0 p.client.state)
  grow = grows_by_step f me Start 0 0 p.client.state

  sends_are : after.sends ≡ grow.made
  sends_are = grow.sends ∙ ap (λ (l : List Message). l ++ grow.made) none.0

  gains_are : after.sends ≡ gain.made
  gains_are = gain.sends ∙ ap (λ (l : List Message). l ++ gain.made) none.0

  next_one : p.client.state.next ≡ 1
  next_one = rule.sends.next ∙ ap (λ (l : List Message). length l + 1) none.0

  numbered : AreNumbered p.own.number 1 after.sends
  numbered = subst (AreNumbered me 1) (sym sends_are) (subst (λ (n : ℕ). AreNumbered me n grow.made) next_one grow.numbered)

  late : All (λ (x : Message). 0 + added_of p ≤ x.time) after.sends
  late = subst (All (λ (x : Message). 0 + added_of p ≤ x.time)) (sym gains_are) (All-from_recursion (From (0 + added_of p)) gain.made gain.late)

  named : AllByRecursion (Named after.sends) after.sends
  named = gain.named (subst (λ (l : List Message). AllByRecursion (Named l) l) (sym none.0) tt)

  once : Once after.sends
  once = gain.once (subst Once (sym none.0) (λ a b in_a. absurd in_a))

  takes_back : TakeBack after.sends
  takes_back = record {
    target = All-weaker (Named after.sends) (λ (r : Message). is_event r.kind ≡ false
        → (e : Message) × Contains after.sends e × (is_event e.kind ≡ true) × (e.number ≡ r.value) × (e.time ≡ r.time) × (e.group ≡ r.group))
        (λ r h e. let t = h e in (t.0, among_contains t.0 after.sends t.1, t.2.0, t.2.1, t.2.2, t.2.3)) after.sends (All-from_recursion (Named after.sends) after.sends named);
    once = λ x d lx y c ly na nb e.
        let a : Message = get_or after.sends x d in
        let b : Message = get_or after.sends y c in
        ap (λ (z : Message). z.number) (once a b (contains_among a after.sends (Contains-get_or after.sends x d lx)) (contains_among b after.sends (Contains-get_or after.sends y c ly)) na nb e);
  }

  sending_none : p.client.sending ≡ None
  sending_none = by p.client.sending refl
    where
      by : (o : Option ℕ) → p.client.sending ≡ o → o ≡ None
      by None is = refl
      by (Some k) is = let h = (rule.letters.sending k is).outbox in let n = none.3 in absurd (cc)

  letters : Letters m me q
  letters =
      let old = rule.letters in
      record {
        sized = old.sized;
        counted = old.counted;
        sending = λ k is. let n = sending_none in absurd (cc);
        others = old.others;
      }

  granting : Granting q
  granting =
      let old = rule.granting in
      record {
        lawful = old.lawful;
        below = old.below;
        within = old.within;
        wish = (kept_by_step f me Start 0 0 p.client.state sound within).wish old.wish;
        asked = λ r is below. sym (some_is is) ∙ ap (λ (x : ℕ). request_at after.wish x p.client.federation.end) (sym time_zero);
      }
    where
      some_is : {a b : Request} → Some a ≡ Some b → a ≡ b
      some_is {a} {b} h = cc

  sends : Sends me q
  sends = record {
    own = numbered_own me 1 after.sends numbered;
    numbered = λ k lk. numbered_at me 1 after.sends no_message numbered k lk ∙ (let e : 1 + k ≡ k + 1 = omega arith in e);
    next = let n = grow.next in let o = next_one in let l : length after.sends ≡ length grow.made = ap length sends_are in omega arith;
    timed = All-weaker (λ (x : Message). 0 + added_of p ≤ x.time) (λ (x : Message). 0 < x.time) (λ x h. let a = adds p m places w in omega arith) after.sends late;
    takes_back = takes_back;
    waiting = All-filter (is_transported f) (Contains after.sends) after.sends (All-contains_itself after.sends);
    late = subst (λ (t : ℕ). All (λ (x : Message). t + added_of p ≤ x.time) then.outbox) (sym time_zero) (All-filter (is_transported f) (λ (x : Message). 0 + added_of p ≤ x.time) after.sends late);
    transported = filter_passes (is_transported f) after.sends;
    behind = (0, refl);
    once =
        let none = none_charged f p.client.state.sends rule.sends.numbered none.0 p.client.outbox p.client.sending p.client.filled rule.sends.once in
        record { sent = λ k x e. absurd (none k x e); gone = λ k x e. absurd (none k x e); apart = λ k l x y ne e. absurd (none k x e) };
    each = λ i li.
        sym (left_none p.own.stock f i then.outbox)
        ∙ ((λ t. left_of (sym sending_none t) p.own.stock f i then.outbox)
        ∙ ap (λ (l : List Filled). map (λ (x : Filled). x.message) l ++ left_of p.client.sending p.own.stock f i then.outbox) (λ t. map (λ (x : Posting). x.filled) (filter (λ (x : Posting). x.to == i) (sym none.1 t))));
    receivers = rule.sends.receivers;
    coloured = rule.sends.coloured;
    few = few;
    new = λ e. absurd (let t : false ≡ true = ap is_new e in (cc));
  }

  ready_is_started : view_when_ready me p.client ≡ then
  ready_is_started = ap (λ (b : Bool). cond b (view_after_start p.own.number p.client) p.client) fresh

  rises : Rises (ledger_of p) (ledger_of q)
  rises = subst (λ (v : LbtsView). Rises (ledger_of p) (ledger_of (record p { client = v }))) ready_is_started (ready_is p (let z = time_zero in omega arith))

  pub start : LbtsRule m (slice_set places p.own.number (record p { client = view_after_start p.own.number p.client }))
  start = (kept_at p m places w m q refl (record { words = λ r. refl; federation = refl; same = refl; time = refl }) (record {
    letters = letters;
    others = λ i r other at. (w.client.each i r at).letters;
    holdings = let old = rule.holdings in record { each = old.each; in_hand = old.in_hand; queue = old.queue; spent = old.spent };
    queue = let old = rule.queue in record { ordered = old.ordered; apart = old.apart; is = old.is; ahead = old.ahead; settled = old.settled };
    heard = let old = rule.heard in record { orphans = old.orphans; came = old.came; past = old.past };
    granting = granting;
    sends = sends;
    ways = λ i j r s ti tj.
        let b = still (λ (x : P). x.own.buffers) places me p q refl i r ti in
        subst (λ (n : ℕ). Way n (mark_in_mail m i j) i j r.client s.client) (sym b)
        (way_still ti.before.own.buffers (mark_in_mail m i j) (mark_in_mail m i j) i j ti.before.client tj.before.client r.client s.client (λ x lx. refl)
        (still (λ (x : P). sent j x.client) places me p q refl i r ti) (still (λ (x : P). got x.client) places me p q refl j s tj) (w.client.ways i j ti.before tj.before ti.at tj.at));
    rounds = rises_keep_rounds places me p q w.here w.client.rounds rises;
  })).client

  -- the same world, in which the federate has this place
  pub started_world : World lbts_rule (record p { client = view_after_start p.own.number p.client }) m (slice_set places p.own.number (record p { client = view_after_start p.own.number p.client }))
  started_world = record {
    floor = floor_still p.own.buffers m places me p q w.here refl w.floor;
    client = start;
    here = set_here places me q (at_inside places me p w.here);
  }
