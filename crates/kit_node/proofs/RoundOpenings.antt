-- When a node may open a round, and what it does to the node and its seat.
use Rattle.std.proofs.Common.{◌≡◌, ◌≢◌, ℕ, ◌+◌, ◌^◌, ◌<◌, ◌≤◌, ◌==◌, Bool, true, false, List, length, refl, sym, ap, ◌∙◌, subst, arith, if◌then◌else◌}
use Rattle.std.specs.Prelude.{Option, Some, None}
use Rattle.kit_ground.specs.declared.place.Place.{Place}
use Rattle.kit_model.specs.declared.share.Share.{Share}
use Rattle.kit_queue.specs.declared.entry.Entry.{Entry}
use Rattle.kit_rules.specs.declared.table.Request.{Request}
use Rattle.kit_rules.specs.Parts.{Parts}
use Rattle.kit_lbts.specs.declared.view.LbtsView.{LbtsView}
use Rattle.kit_lbts.specs.LedgerLaws.{ready_place}
use Rattle.kit_lbts.specs.Progress.{view_when_ready}
use Rattle.kit_lbts.specs.Promises.{bound_in, bound_of}
use Rattle.kit_lbts.specs.PublishLaws.{ShowsLast}
use Rattle.kit_lbts.specs.SeatLaws.{IsInWorld}
use Rattle.kit_lbts.specs.Seats.{most_sends}
use Rattle.kit_lbts.specs.Views.{is_new, receipts}
use Rattle.kit_lbts.proofs.SeatFacts.{copies_are_few, places_tell}
use Rattle.kit_fly.specs.Rounds.{FollowsRound, LeavesSeat, SlotsShowRound}
use Rattle.kit_fly.specs.Starts.{LooksNowhere, MayStart, view_started}
use Rattle.kit_node.specs.declared.node.Node.{Node}
use Rattle.kit_node.specs.Fields.{posts_turned, receipts_turned}
use Rattle.kit_node.specs.Mirrors.{Mirrors, Shown}
use Rattle.kit_node.specs.Reducing.{CanPromise, HasOpened, HasSpentRounds, coloured, share_of_node}
use Rattle.kit_node.proofs.MirrorFrames.{SameRounds}
use Rattle.kit_node.proofs.ReadyPlaces.{ready_by}
use Rattle.kit_lbts.proofs.ReadyWorlds.{ready_asked, ready_federation, ready_in_world, ready_sending, ready_shows}
use Rattle.kit_node.proofs.Sharing.{can_promise, share_is}

abbrev P : Type 0
P = Place LbtsView

-- THE START leaves the rounds, the federation and what is half posted
pub ready_rounds : (p : P) → SameRounds p (ready_place p)
ready_rounds p = by (is_new p.client.request)
  where
    by : (b : Bool) → SameRounds p (ready_by p b)
    by true = record { number = refl; federates = refl; shown = refl; scheme = refl; contributions = refl; taken = refl; results = refl }
    by false = record { number = refl; federates = refl; shown = refl; scheme = refl; contributions = refl; taken = refl; results = refl }

-- THE COLOUR leaves all but itself and the counts
module _ {Q R : Type 0} (n : Node Q R) where
  abbrev pub coloured_by : Bool → Node Q R
  coloured_by b = if b then n else record n {
    rounds = record n.rounds { colour = n.rounds.run };
    outbox = record n.outbox { posts = posts_turned n.outbox.posts };
    inbox = record n.inbox { receipts = receipts_turned n.inbox.receipts };
  }

  pub coloured_me : (coloured n).me ≡ n.me
  coloured_me = by (n.rounds.colour == n.rounds.run)
    where
      by : (b : Bool) → (coloured_by b).me ≡ n.me
      by true = refl
      by false = refl

  pub coloured_taken : (coloured n).rounds.taken ≡ n.rounds.taken
  coloured_taken = by (n.rounds.colour == n.rounds.run)
    where
      by : (b : Bool) → (coloured_by b).rounds.taken ≡ n.rounds.taken
      by true = refl
      by false = refl

  pub coloured_reduction : (coloured n).rounds.reduction ≡ n.rounds.reduction
  coloured_reduction = by (n.rounds.colour == n.rounds.run)
    where
      by : (b : Bool) → (coloured_by b).rounds.reduction ≡ n.rounds.reduction
      by true = refl
      by false = refl

  pub coloured_promises : (entries : Q → List Entry) (f : Parts) → CanPromise entries f n → CanPromise entries f (coloured n)
  coloured_promises entries f h = by (n.rounds.colour == n.rounds.run)
    where
      by : (b : Bool) → CanPromise entries f (coloured_by b)
      by true = h
      by false = record { now = h.now; due = h.due; done = h.done }

module _ {Q R : Type 0} (sh : Shown Q R) (f : Parts) (n : Node Q R) (p : P) (w : IsInWorld p) (federation : p.client.federation ≡ f) (m : Mirrors sh n (ready_place p)) where
  pub me_there : n.me < length f.federates
  me_there =
      let t = places_tell p w in
      let e = ap (λ (x : Parts). length x.federates) federation in
      omega (arith, t.there, t.federates, e, m.me)

  -- the counts of copies have room
  pub posts_few : n.outbox.posts.older + n.outbox.posts.own < 2 ^ 32
  posts_few = by (is_new p.client.request) m.outbox.posts.all_counted
    where
      by : (b : Bool) → n.outbox.posts.older + n.outbox.posts.own ≡ length (ready_by p b).client.posted → n.outbox.posts.older + n.outbox.posts.own < 2 ^ 32
      by true e = omega (arith, e, (copies_are_few p w).0)
      by false e = omega (arith, e, (copies_are_few p w).0)

  pub receipts_few : n.inbox.receipts.older + n.inbox.receipts.own < 2 ^ 32
  receipts_few = by (is_new p.client.request) m.inbox.receipts.all_counted
    where
      by : (b : Bool) → n.inbox.receipts.older + n.inbox.receipts.own + n.inbox.receipts.next ≡ length (receipts (ready_by p b).client) → n.inbox.receipts.older + n.inbox.receipts.own < 2 ^ 32
      by true e = omega (arith, e, (copies_are_few p w).1)
      by false e = omega (arith, e, (copies_are_few p w).1)

  -- where no round is under way and the bound is not beyond the end
  module _ (idle : n.rounds.under_way ≡ false) (within : n.rounds.bound ≤ f.end) where
    level : length (ready_place p).client.contributions ≡ length (ready_place p).client.results
    level = (m.rounds.closed idle).0

    pub within_end : bound_of p.client ≤ p.client.federation.end
    within_end = let b = ap bound_in (ready_rounds p).results in let known = m.rounds.bound in let fe = ap (λ (x : Parts). x.end) federation in omega (arith, b, known, fe, within)

    pub spent_rounds : n.rounds.taken ≡ n.rounds.limit → HasSpentRounds n.rounds.limit p
    spent_rounds e =
        let s = ready_rounds p in
        let c = ap (λ l. length l) s.contributions in
        let r = ap (λ l. length l) s.results in
        let b = ap bound_in s.results in
        let t = m.rounds.taken in
        let l = level in
        record {
          all = sym c ∙ (sym t ∙ e);
          closed = sym r ∙ (sym l ∙ (sym t ∙ e));
          within = let known = m.rounds.bound in let fe = ap (λ (x : Parts). x.end) federation in omega (arith, b, known, fe, within);
        }

    -- and where the next number is that of a message yet
    module _ (few : length n.course.state.sends ≤ most_sends) where
      numbers : length (view_when_ready p.own.number p.client).state.sends ≤ most_sends
      numbers = subst (λ s. length s.sends ≤ most_sends) m.course.state few

      ready_world : IsInWorld (ready_place p)
      ready_world = ready_in_world p w numbers

      pub may_promise : CanPromise sh.entries f (coloured n)
      may_promise = coloured_promises n sh.entries f (can_promise sh f n (ready_place p) ready_world (ready_federation p ∙ federation) m (ready_asked p)
          (let known = m.rounds.bound in let fe = ap (λ (x : Parts). x.end) (ready_federation p ∙ federation) in omega (arith, known, fe, within)))

      pub may_start : (share : Share) (round : ℕ) → share ≡ share_of_node sh.entries f (coloured n) → round ≡ n.rounds.taken + 1 → n.rounds.taken ≢ n.rounds.limit
          → MayStart sh.scheme (sh.state n.rounds.reduction) round share p
      may_start share round share_of next more =
          let s = ready_rounds p in
          let c = ap (λ l. length l) s.contributions in
          let r = ap (λ l. length l) s.results in
          let t = m.rounds.taken in
          let l = level in
          record {
            scheme_is = sym s.scheme ∙ m.rounds.scheme;
            federates = m.rounds.federates;
            number = m.rounds.number;
            closed = sym c ∙ (l ∙ r);
            shows = ready_shows p (m.rounds.closed idle).1;
            whole = sym (ready_sending p) ∙ m.calm.sending;
            numbers = numbers;
            next = omega (arith, next, t, c);
            small = below n.rounds.taken n.rounds.limit round next m.rounds.limited more m.rounds.small;
            share_is = share_of ∙ share_is sh f n (ready_place p) ready_world (ready_federation p ∙ federation) m level;
          }
        where
          below : (a b c : ℕ) → c ≡ a + 1 → a ≤ b → a ≢ b → b < 2 ^ 40 → c < 2 ^ 40
          below a b c is le ne small = grind (arith, is, le, ne, small)

-- A ROUND WAS OPENED by a node that had taken the run's colour
module _ {Q R : Type 0} (sh : Shown Q R) (n : Node Q R) (p q : P) (x : R) (closed : n.rounds.under_way ≡ false) (room : n.rounds.taken < n.rounds.limit) (within : bound_of p.client ≤ p.client.federation.end) (left : LeavesSeat p q) (looks : LooksNowhere p q) (view : q.client ≡ view_started p)
    (follows : FollowsRound sh.scheme (sh.state x) q) (shown : SlotsShowRound sh.scheme (sh.state x) q) where
  abbrev under_way_with : Node Q R → Node Q R
  under_way_with k = record k { rounds = record k.rounds { reduction = x; taken = k.rounds.taken + 1; under_way = true } }

  of_coloured : HasOpened sh n (under_way_with (coloured n)) p q
  of_coloured = record {
    closed = closed;
    room = room;
    within = within;
    leaves = left;
    looks = looks;
    view = view;
    follows = follows;
    shown = shown;
    node = λ i. record (coloured n) { rounds = record (coloured n).rounds { reduction = x; taken = coloured_taken n i + 1; under_way = true } };
  }

  pub has_opened : (k : Node Q R) → k ≡ coloured n → HasOpened sh n (under_way_with k) p q
  has_opened k e = subst (λ (y : Node Q R). HasOpened sh n (under_way_with y) p q) (sym e) of_coloured

-- the next round may be started with what the node contributes then
module _ {Q R : Type 0} (sh : Shown Q R) (f : Parts) (n : Node Q R) (p : P) (w : IsInWorld p) (federation : p.client.federation ≡ f) (m : Mirrors sh n (ready_place p))
    (idle : n.rounds.under_way ≡ false) (within : n.rounds.bound ≤ f.end) (few : length n.course.state.sends ≤ most_sends) (k : Node Q R) (is : k ≡ coloured n) where
  pub promises_then : CanPromise sh.entries f k
  promises_then = subst (λ (y : Node Q R). CanPromise sh.entries f y) (sym is) (may_promise sh f n p w federation m idle within few)

  pub me_then : k.me < length f.federates
  me_then = let h = me_there sh f n p w federation m in let e = ap (λ (y : Node Q R). y.me) is ∙ coloured_me n in omega (arith, h, e)

  pub starts_then : (share : Share) → share ≡ share_of_node sh.entries f k → n.rounds.taken ≢ n.rounds.limit → MayStart sh.scheme (sh.state k.rounds.reduction) (k.rounds.taken + 1) share p
  starts_then share share_of more =
      let taken = ap (λ (y : Node Q R). y.rounds.taken) is ∙ coloured_taken n in
      let reduction = ap (λ (y : Node Q R). y.rounds.reduction) is ∙ coloured_reduction n in
      subst (λ (y : R). MayStart sh.scheme (sh.state y) (k.rounds.taken + 1) share p) (sym reduction)
      (may_start sh f n p w federation m idle within few share (k.rounds.taken + 1) (share_of ∙ ap (share_of_node sh.entries f) is) (ap (λ (t : ℕ). t + 1) taken) more)
