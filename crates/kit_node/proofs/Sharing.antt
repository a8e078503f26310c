-- What a node contributes to a round is what its seat's view says.
use Rattle.std.proofs.Common.{◌≡◌, ◌≢◌, ℕ, zero, suc, ◌+◌, ◌<◌, ◌≤◌, ◌==◌, ◌||◌, nat_lt, not, Bool, true, false, cond, List, [], ◌∷◌, length, map, refl, sym, ap, ◌∙◌, subst, arith, unwrap_or, eq-eqb}
use Rattle.std.specs.Prelude.{All, Option, Some, None, IfSome, count_by, is_none, if◌then◌else◌}
use Rattle.std.proofs.lemmas.Bool.{eqb-true, ne_eqb, true≢false}
use Rattle.std.proofs.lemmas.List.Sums.{sum_by-cons}
use Rattle.std.proofs.lemmas.List.Elements.{All-cons, All-head, All-nil, All-tail, All-weaker}
use Rattle.kit_ground.specs.declared.place.Place.{Place}
use Rattle.kit_ground.proofs.Lists.{at_inside}
use Rattle.kit_model.specs.Counts.{is_old, old_count}
use Rattle.kit_model.proofs.OldCopies.{old_more}
use Rattle.kit_model.specs.Journals.{last_grant}
use Rattle.kit_parts.specs.Queues.{due_by_queue}
use Rattle.kit_queue.specs.declared.entry.Entry.{Entry}
use Rattle.kit_queue.specs.Entries.{first_time, messages_of}
use Rattle.kit_rounds.specs.Ledgers.{Copy, Ledger, colours, last_run}
use Rattle.kit_rounds.specs.Rounds.{result_of, run_after, run_of, RoundsAt}
use Rattle.kit_rounds.proofs.Colours.{colour_is, colour_none}
use Rattle.kit_rounds.proofs.Results.{run_next, same_runs}
use Rattle.kit_rules.specs.declared.table.Request.{Request}
use Rattle.kit_rules.specs.declared.table.Request.TheVariants.{Tar, Ner}
use Rattle.kit_rules.specs.Parts.{Parts, effective_lookahead}
use Rattle.kit_lbts.specs.declared.view.LbtsView.{LbtsView}
use Rattle.kit_lbts.specs.declared.view.Posting.{Posting}
use Rattle.kit_lbts.specs.Promises.{bound_of, copy_posted, ledgers_of, least_post, least_with, next_contribution, next_run, promise_by, promise_of, result_at}
use Rattle.kit_lbts.specs.SeatLaws.{IsInWorld}
use Rattle.kit_lbts.specs.Views.{due_of, due_by, entries_of, is_empty, is_new, is_waiting, time_of}
use Rattle.kit_lbts.proofs.GrantAgreement.{without_agreement}
use Rattle.kit_lbts.proofs.Lows.{lows_are_least}
use Rattle.kit_lbts.proofs.RoundSteps.{ledger_before}
use Rattle.kit_lbts.proofs.FewColours.{runs_near}
use Rattle.kit_lbts.proofs.SeatFacts.{dues_are_ahead, dues_go_by_first, early_of, places_tell}
use Rattle.kit_node.specs.declared.node.Node.{Node}
use Rattle.kit_rules.specs.Delivery.{request_due}
use Rattle.kit_node.specs.Fields.{posts_turned, receipts_turned, waiting_in}
use Rattle.kit_node.specs.Mirrors.{Mirrors, Shown, copies_posted, copies_received, is_colour}
use Rattle.kit_node.specs.Reducing.{CanPromise, coloured, due_at, promise_of_node, share_of_node}

abbrev P : Type 0
P = Place LbtsView

-- no copy of a later colour counts for the low
pub none_of_run : (run : ℕ) (cs : List Copy) → All (λ (c : Copy). c.stamp.colour < run) cs → least_post run cs ≡ None
none_of_run run [] all = refl
none_of_run run (c ∷ cs) all =
    let early = All-head (λ (x : Copy). x.stamp.colour < run) c cs all in
    let no : (c.stamp.colour == run) ≡ false = ne_eqb c.stamp.colour run (λ e. omega (arith, e, early)) in
    ap (λ (b : Bool). if b then Some (least_with c.stamp.time (least_post run cs)) else least_post run cs) no ∙ none_of_run run cs (All-tail (λ (x : Copy). x.stamp.colour < run) c cs all)

posted_early : (run : ℕ) (xs : List Posting) → All (λ (x : Posting). x.filled.colour < run) xs → All (λ (c : Copy). c.stamp.colour < run) (map copy_posted xs)
posted_early run [] all = All-nil _
posted_early run (x ∷ xs) all = All-cons (λ (c : Copy). c.stamp.colour < run) (copy_posted x) (map copy_posted xs) (All-head (λ (y : Posting). y.filled.colour < run) x xs all)
    (posted_early run xs (All-tail (λ (y : Posting). y.filled.colour < run) x xs all))

due_queue : (r : Request) (es : List Entry) → request_due r (first_time es) ≡ due_by_queue r (messages_of es)
due_queue (Tar t) es = refl
due_queue (Ner t) [] = refl
due_queue (Ner t) (e ∷ es) = refl

module _ {Q R : Type 0} (sh : Shown Q R) (f : Parts) (n : Node Q R) (q : P) (w : IsInWorld q) (federation : q.client.federation ≡ f) (m : Mirrors sh n q) where
  pub due_is : due_at n.course.request (sh.entries n.inbox.queue) ≡ due_of q.client
  due_is =
      (λ i. due_at (m.course.request i) (m.inbox.queue i)) ∙ by q.client.request refl
    where
      by : (o : Option Request) → q.client.request ≡ o → due_at o q.client.queue ≡ due_of q.client
      by None e = sym (ap (λ (o : Option Request). due_by o (messages_of q.client.queue)) e)
      by (Some r) e = due_queue r q.client.queue ∙ sym (dues_go_by_first q w r e)

  waits_is : (if is_none n.course.request then true else not (is_empty (waiting_in n.outbox))) ≡ is_waiting q.client
  waits_is = (λ i. if is_none (m.course.request i) then true else not (is_empty (m.outbox.messages i))) ∙ by q.client.request
    where
      by : (o : Option Request) → (if is_none o then true else not (is_empty q.client.outbox)) ≡ (is_new o || not (is_empty q.client.outbox))
      by None = refl
      by (Some r) = refl

  pub promise_is : promise_of_node sh.entries f n ≡ promise_of q
  promise_is = λ i. promise_by (sym federation i).end (effective_lookahead (sym federation i) (m.me i)) (m.course.now i) (due_is i) (waits_is i)

  pub can_promise : q.client.request ≢ None → bound_of q.client ≤ q.client.federation.end → CanPromise sh.entries f n
  can_promise asked le =
      let ahead = dues_are_ahead q w asked (early_of q w le) in
      let end : q.client.federation.end ≡ f.end = ap (λ (x : Parts). x.end) federation in
      record {
        now = let t = (places_tell q w).granting.within in let e = m.course.now in omega (arith, t, e, end);
        due = let d = due_is in omega (arith, ahead.1, d, end);
        done = m.outbox.done;
      }

  -- the counts and the low, by the run of the round
  abbrev run : ℕ
  run = next_run q.client

  low_is : (o : Option ℕ) → o ≡ least_post (next_run q.client) (copies_posted q.client) → least_with (promise_of_node sh.entries f n) o ≡ (next_contribution q).share.low
  low_is o e = (λ i. least_with (promise_is i) (e i)) ∙ sym (lows_are_least (next_run q.client) (promise_of q) (copies_posted q.client))

  module _ (level : length q.client.contributions ≡ length q.client.results) where
    run_is : n.rounds.run ≡ next_run q.client
    run_is = m.rounds.run ∙ ap (run_after (result_at q.client)) (sym level)

    same_colour : n.rounds.colour ≡ n.rounds.run → last_run q.client.contributions ≡ next_run q.client
    same_colour e = sym m.rounds.colour ∙ (e ∙ run_is)

    other_colour : n.rounds.colour ≢ n.rounds.run → next_run q.client ≡ last_run q.client.contributions + 1
    other_colour other =
        let near = runs_near q w level in
        let c = m.rounds.colour in
        let r = run_is in
        let ne : last_run q.client.contributions ≢ next_run q.client = λ e. other (c ∙ (e ∙ sym r)) in
        ends (last_run q.client.contributions) (next_run q.client) near.0 near.1 ne
      where
        ends : (a b : ℕ) → a ≤ b → b ≤ a + 1 → a ≢ b → b ≡ a + 1
        ends a b lo hi ne = grind (arith, lo, hi, ne)

    share_where_same : n.rounds.colour ≡ n.rounds.run → share_of_node sh.entries f n ≡ (next_contribution q).share
    share_where_same e =
        let c = same_colour e in
        λ i. record {
          out = (m.outbox.posts.older ∙ ap (λ (x : ℕ). old_count x (colours (copies_posted q.client))) c) i;
          inn = (m.inbox.receipts.older ∙ ap (λ (x : ℕ). old_count x (colours (copies_received q.client))) c) i;
          low = low_is n.outbox.posts.least (m.outbox.posts.least ∙ ap (λ (x : ℕ). least_post x (copies_posted q.client)) c) i;
        }

    share_where_other : n.rounds.colour ≢ n.rounds.run
        → record { out = n.outbox.posts.older + n.outbox.posts.own; inn = n.inbox.receipts.older + n.inbox.receipts.own; low = least_with (promise_of_node sh.entries f n) None } ≡ (next_contribution q).share
    share_where_other other =
        let c : ℕ = last_run q.client.contributions in
        let r = other_colour other in
        let po = m.outbox.posts in
        let re = m.inbox.receipts in
        let out : n.outbox.posts.older + n.outbox.posts.own ≡ old_count (c + 1) (colours (copies_posted q.client)) = (λ i. po.older i + po.own i) ∙ sym (old_more c (colours (copies_posted q.client))) in
        let inn : n.inbox.receipts.older + n.inbox.receipts.own ≡ old_count (c + 1) (colours (copies_received q.client)) = (λ i. re.older i + re.own i) ∙ sym (old_more c (colours (copies_received q.client))) in
        let early : All (λ (x : Posting). x.filled.colour < next_run q.client) q.client.posted =
        subst (λ (y : ℕ). All (λ (x : Posting). x.filled.colour < y) q.client.posted) (sym r)
        (All-weaker (λ (x : Posting). x.filled.colour ≤ c) (λ (x : Posting). x.filled.colour < c + 1) (λ x h. omega (arith, h)) q.client.posted (places_tell q w).sends.coloured) in
        let none = none_of_run (next_run q.client) (copies_posted q.client) (posted_early (next_run q.client) q.client.posted early) in
        λ i. record {
          out = (out ∙ ap (λ (x : ℕ). old_count x (colours (copies_posted q.client))) (sym r)) i;
          inn = (inn ∙ ap (λ (x : ℕ). old_count x (colours (copies_received q.client))) (sym r)) i;
          low = low_is None (sym none) i;
        }

    abbrev chosen : Bool → Node Q R
    chosen b = if b then n else record n {
      rounds = record n.rounds { colour = n.rounds.run };
      outbox = record n.outbox { posts = posts_turned n.outbox.posts };
      inbox = record n.inbox { receipts = receipts_turned n.inbox.receipts };
    }

    pub share_is : share_of_node sh.entries f (coloured n) ≡ (next_contribution q).share
    share_is = by (n.rounds.colour == n.rounds.run) refl
      where
        by : (b : Bool) → (n.rounds.colour == n.rounds.run) ≡ b → share_of_node sh.entries f (coloured n) ≡ (next_contribution q).share
        by true e = ap (λ (b : Bool). share_of_node sh.entries f (chosen b)) e ∙ share_where_same (eqb-true n.rounds.colour n.rounds.run e)
        by false e = ap (λ (b : Bool). share_of_node sh.entries f (chosen b)) e ∙ share_where_other (λ is. true≢false (sym (eq-eqb n.rounds.colour n.rounds.run is) ∙ e))
