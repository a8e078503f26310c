-- A node with a round under way: one that was before, or one that was opened now.
use Rattle.std.proofs.Common.{◌≡◌, ◌≢◌, ℕ, ◌+◌, ◌-◌, ◌^◌, ◌<◌, ◌≤◌, ◌==◌, ◌⊎◌, inl, inr, Bool, true, false, List, [], ◌∷◌, ◌++◌, length, take, map, get_or, refl, sym, ap, ◌∙◌, subst, arith, eq-eqb, if◌then◌else◌}
use Rattle.std.specs.Prelude.{All, None, count_by}
use Rattle.std.proofs.lemmas.Bool.{eqb-true, false≢true, ne_eqb, true≢false}
use Rattle.std.proofs.lemmas.List.{append-nil, get_or_append_left, length-append, length_push, take_all, take_at}
use Rattle.std.proofs.lemmas.List.Elements.{All-map, All-weaker}
use Rattle.kit_ground.specs.declared.place.Place.{Place}
use Rattle.kit_model.specs.declared.share.Share.{Share}
use Rattle.kit_model.specs.Counts.{old_count}
use Rattle.kit_queue.specs.declared.entry.Entry.{Entry}
use Rattle.kit_rounds.specs.declared.contribution.Contribution.{Contribution}
use Rattle.kit_rounds.specs.Ledgers.{Copy, colours, last_run}
use Rattle.kit_rounds.specs.Rounds.{run_after}
use Rattle.kit_rounds.proofs.Lists.{none_passes}
use Rattle.kit_rounds.proofs.Results.{same_runs}
use Rattle.kit_model.proofs.OldCopies.{old_more}
use Rattle.kit_lbts.specs.declared.view.Filled.{Filled}
use Rattle.kit_lbts.specs.declared.view.LbtsView.{LbtsView}
use Rattle.kit_lbts.specs.declared.view.Posting.{Posting}
use Rattle.kit_lbts.specs.LedgerLaws.{ready_place}
use Rattle.kit_lbts.specs.Promises.{bound_in, copy_posted, copy_received, least_post, next_contribution, next_run, result_at, unknown}
use Rattle.kit_lbts.specs.SeatLaws.{IsInWorld}
use Rattle.kit_lbts.specs.Views.{entries_of, receipts, receipts_in, time_of}
use Rattle.kit_lbts.proofs.Contributions.{last_is}
use Rattle.kit_lbts.proofs.SeatFacts.{places_tell, receipts_are_near}
use Rattle.kit_fly.specs.Starts.{view_started}
use Rattle.kit_node.specs.declared.node.Node.{Node}
use Rattle.kit_node.specs.declared.posts.Posts.{Posts}
use Rattle.kit_node.specs.declared.receipts.Receipts.{Receipts}
use Rattle.kit_node.specs.Fields.{posts_turned, receipts_turned}
use Rattle.kit_node.specs.Mirrors.{HasUnderWay, Mirrors, MirrorsPosts, MirrorsReceipts, Shown, colour_of, copies_posted, copies_received, is_colour, time_put}
use Rattle.kit_node.specs.Reducing.{HasOpened, coloured}
use Rattle.kit_lbts.proofs.FewColours.{runs_few, runs_near}
use Rattle.kit_node.proofs.MirrorFrames.{course_frame, ready_same}
use Rattle.kit_node.proofs.ReadyPlaces.{ready_journal, ready_posted}
use Rattle.kit_node.proofs.Polling.{closes_or_not}
use Rattle.kit_node.proofs.RoundMirrors.{MirrorsOpened, results_before}
use Rattle.kit_node.proofs.RoundOpenings.{ready_rounds}
use Rattle.kit_node.proofs.Sharing.{none_of_run}

abbrev P : Type 0
P = Place LbtsView

-- one that has not started contributed to no round
pub fresh : (p : P) → IsInWorld p → p.client.request ≡ None → p.client.contributions ≡ []
fresh p w new = ((places_tell p w).sends.new new).5

-- A ROUND THAT WAS UNDER WAY
module _ {Q R : Type 0} (sh : Shown Q R) (n : Node Q R) (p : P) (w : IsInWorld p) (m : Mirrors sh n (ready_place p)) where
  -- a federate with a round has started
  pub asked_in_round : 0 < length p.client.contributions → p.client.request ≢ None
  asked_in_round some_ new = let e = ap (λ (l : List Contribution). length l) (fresh p w new) in absurd (omega (arith, e, some_))

  rounds_there : length (ready_place p).client.contributions ≡ length p.client.contributions
  rounds_there = ap (λ l. length l) (ready_rounds p).contributions

  pub asked_under_way : n.rounds.under_way ≡ true → p.client.request ≢ None
  asked_under_way on = asked_in_round (let f = (m.rounds.under_way on).follows in let s = f.started in let r = f.round in let t = rounds_there in omega (arith, s, r, t))

  pub mirrors_asked : p.client.request ≢ None → Mirrors sh n p
  mirrors_asked asked = subst (λ (x : P). Mirrors sh n x) (ready_same p asked) m

  -- so has one that knows a bound
  pub asked_with_bound : n.rounds.under_way ≡ false → 0 < n.rounds.bound → p.client.request ≢ None
  asked_with_bound idle some_ new =
      let none : p.client.results ≡ [] = no_results p.client.results (let c = (m.rounds.closed idle).0 in let t = rounds_there in let r = ap (λ l. length l) (ready_rounds p).results in let z = ap (λ (l : List Contribution). length l) (fresh p w new) in omega (arith, c, t, r, z)) in
      let known = m.rounds.bound ∙ ap bound_in ((ready_rounds p).results ∙ none) in
      absurd (omega (arith, known, some_))
    where
      no_results : (l : List Share) → length l ≡ 0 → l ≡ []
      no_results [] e = refl
      no_results (x ∷ xs) e = absurd (omega (arith, e))

  -- the runs have room
  pub runs_small : n.rounds.run + 1 < 2 ^ 64
  runs_small =
      let r = m.rounds.run in
      let few = runs_few (result_at (ready_place p).client) (length (ready_place p).client.results) in
      let count = results_few in
      let t = m.rounds.taken in
      let l = m.rounds.limited in
      let s = m.rounds.small in
      omega (arith, r, few, count, t, l, s)
    where
      by : (b : Bool) → n.rounds.under_way ≡ b → length (ready_place p).client.results ≤ length (ready_place p).client.contributions
      by true on = let u = m.rounds.under_way on in let f = u.follows in let s = (f.under_way u.more).results in let k = f.round in omega (arith, s, k)
      by false off = let c = (m.rounds.closed off).0 in omega (arith, c)

      results_few : length (ready_place p).client.results ≤ length (ready_place p).client.contributions
      results_few = by n.rounds.under_way refl

pub opened_before : {Q R : Type 0} (sh : Shown Q R) (n : Node Q R) (p : P) → Mirrors sh n p → n.rounds.under_way ≡ true → MirrorsOpened sh n p
opened_before sh n p m on =
    let u = m.rounds.under_way on in
    let f = u.follows in
    let short : length p.client.results ≡ length p.client.contributions - 1 = (let s = (f.under_way u.more).results in let r = f.round in omega (arith, s, r)) in
    let before : results_before p.client ≡ p.client.results = take_all (length p.client.contributions - 1) p.client.results (omega (arith, short)) in
    record {
      me = m.me;
      journal = m.journal;
      course = m.course;
      outbox = m.outbox;
      queue = m.inbox.queue;
      orphans = m.inbox.orphans;
      receipts = m.inbox.receipts;
      settled = m.inbox.settled;
      settled_to = let s = m.inbox.settled_to in let e = ap bound_in before in omega (arith, s, e);
      federates = m.rounds.federates;
      number = m.rounds.number;
      scheme = m.rounds.scheme;
      taken = m.rounds.taken;
      limited = m.rounds.limited;
      small = m.rounds.small;
      run = m.rounds.run ∙ ap (run_after (result_at p.client)) short;
      colour = m.rounds.colour;
      bound = m.rounds.bound ∙ ap bound_in (sym before);
      under_way = on;
      some = let s = f.started in let r = f.round in omega (arith, s, r);
      many = omega (arith, short);
      due = m.due;
      arrivals = m.arrivals;
      calm = m.calm;
    }

-- COUNTS by a colour that no copy has yet
pub no_colour : (run : ℕ) (cs : List ℕ) → All (λ (c : ℕ). c < run) cs → count_by (is_colour run) cs ≡ 0
no_colour run cs all = none_passes (is_colour run) cs (All-weaker (λ (c : ℕ). c < run) (λ (c : ℕ). is_colour run c ≡ false) (λ c lt. ne_eqb c run (λ e. omega (arith, e, lt))) cs all)

posted_below : (run : ℕ) (xs : List Posting) → All (λ (x : Posting). x.filled.colour < run) xs → All (λ (c : Copy). c.stamp.colour < run) (map copy_posted xs)
posted_below run xs all = All-map (λ (c : Copy). c.stamp.colour < run) copy_posted xs all

received_below : (run : ℕ) (fs : List Filled) → All (λ (f : Filled). f.colour < run) fs → All (λ (c : Copy). c.stamp.colour < run) (map copy_received fs)
received_below run fs all = All-map (λ (c : Copy). c.stamp.colour < run) copy_received fs all

colours_below : (run : ℕ) (cs : List Copy) → All (λ (c : Copy). c.stamp.colour < run) cs → All (λ (c : ℕ). c < run) (colours cs)
colours_below run cs all = All-map (λ (c : ℕ). c < run) (λ (c : Copy). c.stamp.colour) cs all

-- the counts with the next colour
posts_turn : (o : Posts) (v u : LbtsView) → u.posted ≡ v.posted → colour_of u ≡ colour_of v + 1 → All (λ (x : Posting). x.filled.colour ≤ colour_of v) v.posted → MirrorsPosts o v → MirrorsPosts (posts_turned o) u
posts_turn o v u posted next low m =
    let c : ℕ = colour_of v in
    let below : All (λ (x : Posting). x.filled.colour < colour_of u) u.posted =
    subst (λ (y : ℕ × List Posting). All (λ (x : Posting). x.filled.colour < y.0) y.1) (λ i. (sym next i, sym posted i))
    (All-weaker (λ (x : Posting). x.filled.colour ≤ colour_of v) (λ (x : Posting). x.filled.colour < colour_of v + 1) (λ x h. omega (arith, h)) v.posted low) in
    let copies = posted_below (colour_of u) u.posted below in
    record {
      older = (λ i. m.older i + m.own i) ∙ (sym (old_more c (colours (copies_posted v))) ∙ (λ i. old_count (sym next i) (colours (map copy_posted (sym posted i)))));
      own = sym (no_colour (colour_of u) (colours (copies_posted u)) (colours_below (colour_of u) (copies_posted u) copies));
      all_counted = let a = m.all_counted in let e = ap (λ (l : List Posting). length l) posted in omega (arith, a, e);
      least = sym (none_of_run (colour_of u) (copies_posted u) copies);
    }

receipts_turn : (r : Receipts) (v u : LbtsView) → receipts u ≡ receipts v → colour_of u ≡ colour_of v + 1 → All (λ (f : Filled). f.colour ≤ colour_of v + 1) (receipts v) → MirrorsReceipts r v → MirrorsReceipts (receipts_turned r) u
receipts_turn r v u same next low m =
    let c : ℕ = colour_of v in
    let below : All (λ (f : Filled). f.colour < colour_of u + 1) (receipts u) =
    subst (λ (y : ℕ × List Filled). All (λ (f : Filled). f.colour < y.0 + 1) y.1) (λ i. (sym next i, sym same i))
    (All-weaker (λ (f : Filled). f.colour ≤ colour_of v + 1) (λ (f : Filled). f.colour < colour_of v + 1 + 1) (λ f h. omega (arith, h)) (receipts v) low) in
    let copies = received_below (colour_of u + 1) (receipts u) below in
    record {
      older = (λ i. m.older i + m.own i) ∙ (sym (old_more c (colours (copies_received v))) ∙ (λ i. old_count (sym next i) (colours (map copy_received (sym same i)))));
      own = m.next ∙ (λ i. count_by (is_colour (sym next i)) (colours (map copy_received (sym same i))));
      next = sym (no_colour (colour_of u + 1) (colours (copies_received u)) (colours_below (colour_of u + 1) (copies_received u) copies));
      all_counted = let a = m.all_counted in let e = ap (λ (l : List Filled). length l) same in omega (arith, a, e);
    }

-- where the colour stays
posts_stay : (o : Posts) (v u : LbtsView) → u.posted ≡ v.posted → colour_of u ≡ colour_of v → MirrorsPosts o v → MirrorsPosts o u
posts_stay o v u posted same m = record {
  older = m.older ∙ (λ i. old_count (sym same i) (colours (map copy_posted (sym posted i))));
  own = m.own ∙ (λ i. count_by (is_colour (sym same i)) (colours (map copy_posted (sym posted i))));
  all_counted = m.all_counted ∙ ap (λ (l : List Posting). length l) (sym posted);
  least = m.least ∙ (λ i. least_post (sym same i) (map copy_posted (sym posted i)));
}

receipts_stay : (r : Receipts) (v u : LbtsView) → receipts u ≡ receipts v → colour_of u ≡ colour_of v → MirrorsReceipts r v → MirrorsReceipts r u
receipts_stay r v u fs same m = record {
  older = m.older ∙ (λ i. old_count (sym same i) (colours (map copy_received (sym fs i))));
  own = m.own ∙ (λ i. count_by (is_colour (sym same i)) (colours (map copy_received (sym fs i))));
  next = m.next ∙ (λ i. count_by (is_colour (sym same i + 1)) (colours (map copy_received (sym fs i))));
  all_counted = m.all_counted ∙ ap (λ (l : List Filled). length l) (sym fs);
}

-- A ROUND THAT WAS OPENED
module _ {Q R : Type 0} (sh : Shown Q R) (n n' : Node Q R) (p q : P) (w : IsInWorld p) (m : Mirrors sh n (ready_place p)) (h : HasOpened sh n n' p q) where
  abbrev r : P
  r = ready_place p

  pub level : length r.client.contributions ≡ length r.client.results
  level = (m.rounds.closed h.closed).0

  -- the view is that of the ready place, with the contribution and maybe its result
  abbrev grown : List Share → LbtsView
  grown zs = record r.client { contributions = r.client.contributions ++ next_contribution r ∷ []; taken = []; results = r.client.results ++ zs }

  pub view_is : (zs : List Share) × (q.client ≡ grown zs)
  view_is = elim (closes_or_not p.own.federates p.own.number (record r.client { contributions = r.client.contributions ++ next_contribution r ∷ []; taken = [] })) [
    | inl e ↦ ([], h.view ∙ (e ∙ ap (λ (l : List Share). record r.client { contributions = r.client.contributions ++ next_contribution r ∷ []; taken = []; results = l }) (sym (append-nil r.client.results))))
    | inr t ↦ (t.0 ∷ [], h.view ∙ t.1)
  ]

  abbrev view : q.client ≡ grown view_is.0
  view = view_is.1

  pub one_more : length q.client.contributions ≡ length r.client.results + 1
  one_more = let a = ap (λ (x : LbtsView). length x.contributions) view in let b = length_push r.client.contributions (next_contribution r) in let l = level in omega (arith, a, b, l)

  index : length q.client.contributions - 1 ≡ length r.client.results
  index = let o = one_more in omega (arith, o)

  results_are : q.client.results ≡ r.client.results ++ view_is.0
  results_are = ap (λ (x : LbtsView). x.results) view

  pub base : results_before q.client ≡ r.client.results
  base = (λ i. take (index i) (results_are i)) ∙ take_at r.client.results view_is.0 (length r.client.results) refl

  pub many : length q.client.contributions - 1 ≤ length q.client.results
  many = let i = index in let l = ap (λ (l : List Share). length l) results_are ∙ length-append r.client.results view_is.0 in omega (arith, i, l)

  -- the colour is the run of the round
  colour_is : colour_of q.client ≡ next_run r.client
  colour_is = ap (λ (x : LbtsView). last_run x.contributions) view ∙ last_is r.client.contributions (next_contribution r)

  pub run_then : n.rounds.run ≡ next_run r.client
  run_then = m.rounds.run ∙ ap (run_after (result_at r.client)) (sym level)

  run_in_results : n.rounds.run ≡ run_after (result_at q.client) (length q.client.contributions - 1)
  run_in_results =
      m.rounds.run
      ∙ (same_runs (result_at r.client) (result_at q.client) (length r.client.results)
      (λ l lt. sym (ap (λ (rs : List Share). get_or rs l unknown) results_are ∙ get_or_append_left r.client.results view_is.0 unknown l lt))
      ∙ ap (run_after (result_at q.client)) (sym index))

  -- it is the colour before, or the one after that
  same_colour : n.rounds.colour ≡ n.rounds.run → colour_of q.client ≡ colour_of r.client
  same_colour e = colour_is ∙ (sym run_then ∙ (sym e ∙ m.rounds.colour))

  other_colour : n.rounds.colour ≢ n.rounds.run → colour_of q.client ≡ colour_of r.client + 1
  other_colour other =
      let s = ready_rounds p in
      let near = runs_near p w (ap (λ l. length l) (sym s.contributions) ∙ (level ∙ ap (λ l. length l) s.results)) in
      let runs : next_run r.client ≡ next_run p.client = λ i. run_after (λ (k : ℕ). get_or (s.results i) k unknown) (length (s.contributions i)) in
      let last : colour_of r.client ≡ last_run p.client.contributions = ap last_run s.contributions in
      let c = m.rounds.colour in
      let t = run_then in
      let is = colour_is in
      let ne : colour_of r.client ≢ next_run r.client = λ e. other (c ∙ (e ∙ sym t)) in
      ends (colour_of r.client) (next_run r.client) (colour_of q.client) is (omega (arith, near.0, runs, last)) (omega (arith, near.1, runs, last)) ne
    where
      ends : (a b x : ℕ) → x ≡ b → a ≤ b → b ≤ a + 1 → a ≢ b → x ≡ a + 1
      ends a b x is lo hi ne = grind (arith, is, lo, hi, ne)

  posted_is : q.client.posted ≡ r.client.posted
  posted_is = ap (λ (x : LbtsView). x.posted) view

  receipts_are : receipts q.client ≡ receipts r.client
  receipts_are = ap receipts view

  low_posts : All (λ (x : Posting). x.filled.colour ≤ colour_of r.client) r.client.posted
  low_posts =
      let s = ready_rounds p in
      subst (λ (y : ℕ × List Posting). All (λ (x : Posting). x.filled.colour ≤ y.0) y.1) (λ i. (last_run (sym s.contributions i), sym (ready_posted p) i)) (places_tell p w).sends.coloured

  low_receipts : All (λ (f : Filled). f.colour ≤ colour_of r.client + 1) (receipts r.client)
  low_receipts =
      let s = ready_rounds p in
      subst (λ (y : ℕ × List Filled). All (λ (f : Filled). f.colour ≤ y.0 + 1) y.1) (λ i. (last_run (sym s.contributions i), receipts_in (sym (ready_journal p) i))) (receipts_are_near p w)

  abbrev rest_of : Node Q R → Node Q R
  rest_of k = record k { rounds = record k.rounds { reduction = n'.rounds.reduction; taken = n.rounds.taken + 1; under_way = true } }

  abbrev turned : Node Q R
  turned = record n {
    rounds = record n.rounds { colour = n.rounds.run };
    outbox = record n.outbox { posts = posts_turned n.outbox.posts };
    inbox = record n.inbox { receipts = receipts_turned n.inbox.receipts };
  }

  -- with these counts and this colour the node mirrors its seat
  opened_with : (o : Posts) (t : Receipts) (colour : ℕ) → MirrorsPosts o q.client → MirrorsReceipts t q.client → colour ≡ colour_of q.client
      → MirrorsOpened sh (rest_of (record n { rounds = record n.rounds { colour = colour }; outbox = record n.outbox { posts = o }; inbox = record n.inbox { receipts = t } })) q
  opened_with o t colour posts received is =
      let before = base in record {
        me = m.me ∙ sym h.leaves.number;
        journal = m.journal ∙ sym (ap entries_of view);
        course = course_frame n.course r.client q.client (ap (λ (x : LbtsView). x.state) view) (ap time_of view) (ap (λ (x : LbtsView). x.request) view) m.course;
        outbox = record {
          done = m.outbox.done;
          messages = m.outbox.messages ∙ sym (ap (λ (x : LbtsView). x.outbox) view);
          emptied = λ e. m.outbox.emptied (sym (ap (λ (x : LbtsView). x.outbox) view) ∙ e);
          put = m.outbox.put ∙ sym (ap (λ (x : LbtsView). map time_put x.filled) view);
          posts = posts;
        };
        queue = m.inbox.queue ∙ sym (ap (λ (x : LbtsView). x.queue) view);
        orphans = m.inbox.orphans ∙ sym (ap (λ (x : LbtsView). x.orphans) view);
        receipts = received;
        settled = subst (λ (es : List Entry). All (λ (e : Entry). e.message.time < n.inbox.settled → e.buffer ≡ None) es) (sym (ap (λ (x : LbtsView). x.queue) view)) m.inbox.settled;
        settled_to = let s = m.inbox.settled_to in let e = ap bound_in before in omega (arith, s, e);
        federates = h.follows.federates;
        number = h.follows.number;
        scheme = h.follows.scheme_is;
        taken = let t = m.rounds.taken in let l = level in let one = one_more in omega (arith, t, l, one);
        limited = let room = h.room in omega (arith, room);
        small = m.rounds.small;
        run = run_in_results;
        colour = is;
        bound = m.rounds.bound ∙ ap bound_in (sym before);
        under_way = refl;
        some = let one = one_more in omega (arith, one);
        many = many;
        due = m.due;
        arrivals = m.arrivals;
        calm = record { in_hand = ap (λ (x : LbtsView). x.in_hand) view ∙ m.calm.in_hand; spent = ap (λ (x : LbtsView). x.spent) view ∙ m.calm.spent; sending = ap (λ (x : LbtsView). x.sending) view ∙ m.calm.sending };
      }

  abbrev chosen : Bool → Node Q R
  chosen b = if b then n else turned

  node_is : n' ≡ rest_of (coloured n)
  node_is = h.node

  pub opened_now : MirrorsOpened sh n' q
  opened_now = subst (λ (x : Node Q R). MirrorsOpened sh x q) (sym node_is) (by (n.rounds.colour == n.rounds.run) refl)
    where
      by : (b : Bool) → (n.rounds.colour == n.rounds.run) ≡ b → MirrorsOpened sh (rest_of (chosen b)) q
      by true e =
          let same = eqb-true n.rounds.colour n.rounds.run e in
          let stays = same_colour same in
          opened_with n.outbox.posts n.inbox.receipts n.rounds.colour (posts_stay n.outbox.posts r.client q.client posted_is stays m.outbox.posts) (receipts_stay n.inbox.receipts r.client q.client receipts_are stays m.inbox.receipts)
          (m.rounds.colour ∙ sym stays)
      by false e =
          let next = other_colour (λ is. true≢false (sym (eq-eqb n.rounds.colour n.rounds.run is) ∙ e)) in
          opened_with (posts_turned n.outbox.posts) (receipts_turned n.inbox.receipts) n.rounds.run (posts_turn n.outbox.posts r.client q.client posted_is next low_posts m.outbox.posts)
          (receipts_turn n.inbox.receipts r.client q.client receipts_are next low_receipts m.inbox.receipts) (run_then ∙ sym colour_is)
