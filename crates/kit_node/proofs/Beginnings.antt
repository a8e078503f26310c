-- A node before its first turn stands for its federate's place on a new floor.
use Rattle.std.proofs.Common.{◌≡◌, ℕ, ◌+◌, ◌^◌, ◌<◌, ◌≤◌, List, [], ◌∷◌, replicate, map, refl, sym, ap, ◌∙◌, subst, arith, length, drop}
use Rattle.std.specs.Prelude.{zero, suc, Option, None}
use Rattle.kit_ground.specs.declared.place.Place.{Place}
use Rattle.kit_ground.specs.Rules.{own_at_first}
use Rattle.kit_rules.specs.Parts.{Parts, federate_at}
use Rattle.kit_rules.specs.Step.{opening_state}
use Rattle.kit_lbts.specs.declared.lbts.Opening.{Opening}
use Rattle.kit_lbts.specs.declared.view.LbtsView.{LbtsView}
use Rattle.kit_lbts.specs.Progress.{lbts_first}
use Rattle.kit_lbts.proofs.SeatFacts.{places_tell}
use Rattle.std.proofs.lemmas.Bool.{false≢true}
use Rattle.std.proofs.lemmas.List.Elements.{All-nil}
use Rattle.kit_node.specs.declared.node.Node.{Node}
use Rattle.kit_node.specs.declared.posts.Posts.{Posts}
use Rattle.kit_node.specs.declared.receipts.Receipts.{Receipts}
use Rattle.kit_node.specs.Fields.{AreNoRounds, IsEmptyInbox, no_posts}
use Rattle.kit_node.specs.Mirrors.{Mirrors, MirrorsCourse, MirrorsInbox, MirrorsOutbox, MirrorsRounds, Shown, orphan_seen, time_put}
use Rattle.kit_node.specs.Nodes.{BeginsAs, IsFirstPlace}
use Rattle.kit_node.specs.declared.ends.NodeEnd.{NodeEnd}
use Rattle.kit_node.specs.Seats.{GoesOn, IsBelowEnd, IsNodeOf, IsSeatOf, IsWithinEnd}

abbrev P : Type 0
P = Place LbtsView

-- what a new node has
pub record IsNew {Q R : Type 0} (sh : Shown Q R) (f : Parts) (federates k rounds : ℕ) (n : Node Q R) : Type 0 where
  pub me : n.me ≡ k
  pub ended : n.ended ≡ None
  pub turns : n.turns.value ≡ []
  pub state : n.course.state ≡ opening_state (federate_at f k)
  pub now : n.course.now ≡ 0
  pub request : n.course.request ≡ None
  pub journal : n.journal.entries ≡ []
  pub inbox : IsEmptyInbox sh.entries n.inbox
  pub messages : n.outbox.messages.items ≡ []
  pub done : n.outbox.done ≡ 0
  pub put : n.outbox.put.items ≡ replicate f.buffers 0
  pub posts : n.outbox.posts ≡ no_posts
  pub none : AreNoRounds rounds n.rounds
  pub of_federates : (sh.state n.rounds.reduction).federates ≡ federates
  pub of_number : (sh.state n.rounds.reduction).number ≡ k
  pub due : n.due.items ≡ []

puts : (b : ℕ) → replicate b 0 ≡ map time_put (replicate b None)
puts zero = refl
puts (suc b) = ap (λ (l : List ℕ). 0 ∷ l) (puts b)

abbrev first_place : ℕ → ℕ → ℕ → Opening → P
first_place federates b k o = record { own = own_at_first federates b k; client = lbts_first o k }

module _ {Q R : Type 0} (sh : Shown Q R) (federates k rounds : ℕ) (o : Opening) (n : Node Q R) (new : IsNew sh o.federation.value federates k rounds n) where
  abbrev p : P
  p = first_place federates o.federation.value.buffers k o

  course : MirrorsCourse n.course p.client
  course = record { state = new.state; now = new.now; request = new.request }

  outbox : MirrorsOutbox n.outbox p.client
  outbox = record {
    done = let d = new.done in omega arith;
    messages = λ i. drop (new.done i) (new.messages i);
    emptied = λ _. new.messages;
    put = new.put ∙ puts o.federation.value.buffers;
    posts = record { older = ap (λ (x : Posts). x.older) new.posts; own = ap (λ (x : Posts). x.own) new.posts; all_counted = ap (λ (x : Posts). x.older + x.own) new.posts; least = ap (λ (x : Posts). x.least) new.posts };
  }

  inbox : MirrorsInbox sh.entries n.inbox p.client
  inbox =
      let e = new.inbox in record {
        queue = e.queue;
        orphans = ap (map orphan_seen) e.orphans;
        receipts = record { older = ap (λ (x : Receipts). x.older) e.receipts; own = ap (λ (x : Receipts). x.own) e.receipts; next = ap (λ (x : Receipts). x.next) e.receipts; all_counted = ap (λ (x : Receipts). x.older + x.own + x.next) e.receipts };
        settled = All-nil _;
        settled_to = let z = e.settled in omega arith;
      }

  rounds_of : o.scheme ≡ sh.scheme → rounds < 2 ^ 40 → MirrorsRounds sh n.rounds p
  rounds_of scheme small =
      let z = new.none in record {
        federates = sym new.of_federates;
        number = sym new.of_number;
        scheme = scheme;
        taken = z.taken;
        limited = let a = z.taken in omega arith;
        small = subst (λ (x : ℕ). x < 2 ^ 40) (sym z.limited) small;
        run = z.run;
        colour = z.colour;
        bound = z.bound;
        under_way = λ e. absurd (false≢true (sym z.under_way ∙ e));
        closed = λ _. (refl, λ stage lt does some_. absurd (omega arith));
      }

  mirrors : o.scheme ≡ sh.scheme → rounds < 2 ^ 40 → Mirrors sh n p
  mirrors scheme small = record {
    me = new.me;
    journal = new.journal;
    course = course;
    outbox = outbox;
    inbox = inbox;
    rounds = rounds_of scheme small;
    due = new.due;
    arrivals = new.inbox.arrivals;
    calm = record { in_hand = refl; spent = refl; sending = refl };
  }

-- the place of a federate on a new floor for a federation
placed : (o : Opening) (k : ℕ) (p : P) → IsFirstPlace o k p → p ≡ first_place (length o.federation.value.federates) o.federation.value.buffers k o
placed o k p first =
    let t = places_tell p first.world in
    let n = t.federates ∙ ap (λ (v : LbtsView). length v.federation.federates) first.client in
    let b = t.buffers ∙ ap (λ (v : LbtsView). v.federation.buffers) first.client in
    let own : p.own ≡ own_at_first (length o.federation.value.federates) o.federation.value.buffers k = first.own ∙ (λ i. own_at_first (n i) (b i) k) in
    λ i. record { own = own i; client = first.client i }

module _ {Q R : Type 0} (sh : Shown Q R) (k rounds : ℕ) (n : Node Q R) (o : Opening) (new : IsNew sh o.federation.value (length o.federation.value.federates) k rounds n)
    (some_ : 1 ≤ o.federation.value.end) (small : rounds < 2 ^ 40) where
  seated : (p : P) → o.scheme ≡ sh.scheme → IsFirstPlace o k p → IsSeatOf sh o.federation.value n p
  seated p scheme first =
      let is = placed o k p first in
      let goes : GoesOn sh n p = record {
        mirrors = subst (λ (q : P). Mirrors sh n q) (sym is) (mirrors sh (length o.federation.value.federates) k rounds o n new scheme small);
        early = subst (λ (v : LbtsView). IsBelowEnd v) (sym first.client) (omega arith);
        within = subst (λ (v : LbtsView). IsWithinEnd v) (sym first.client) (λ on. absurd (false≢true on));
      } in
      record {
        world = first.world;
        federation_is = ap (λ (v : LbtsView). v.federation) first.client;
        node = subst (λ (e : Option NodeEnd). IsNodeOf sh e n p) (sym new.ended) goes;
      }

pub begins : {Q R : Type 0} (sh : Shown Q R) (f : Parts) (k rounds : ℕ) (n : Node Q R) → IsNew sh f (length f.federates) k rounds n → 1 ≤ f.end → rounds < 2 ^ 40 → BeginsAs sh f k rounds n
begins sh f k rounds n new some_ small = record {
  me = new.me;
  ended = new.ended;
  turns = new.turns;
  limit = new.none.limited;
  seat = λ o p is scheme first.
      let A : Parts → Type 0 = λ x. IsNew sh x (length x.federates) k rounds n in
      subst (λ (x : Parts). IsSeatOf sh x n p) is (seated sh k rounds n o (subst A (sym is) new) (subst (λ (x : Parts). 1 ≤ x.end) (sym is) some_) small p scheme first);
}
