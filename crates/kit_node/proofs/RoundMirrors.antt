-- A node mirrors its seat again once it polled the round that is under way.
use Rattle.std.proofs.Common.{◌≡◌, ◌≢◌, ℕ, suc, ◌+◌, ◌-◌, ◌^◌, ◌<◌, ◌≤◌, ◌==◌, ◌⊎◌, inl, inr, Bool, true, false, cond, List, [], ◌∷◌, ◌++◌, length, take, map, get_or, refl, sym, ap, ◌∙◌, subst, arith}
use Rattle.std.specs.Prelude.{All, None}
use Rattle.std.proofs.lemmas.Bool.{false≢true, true≢false}
use Rattle.std.proofs.lemmas.List.{get_or-take, get_or_append_left, get_or_push, length-take-le, length_push, take_all}
use Rattle.kit_ground.specs.declared.place.Place.{Place}
use Rattle.kit_model.specs.declared.share.Share.{Share}
use Rattle.kit_queue.specs.declared.entry.Entry.{Entry}
use Rattle.kit_rounds.specs.Ledgers.{last_run}
use Rattle.kit_rounds.specs.Rounds.{run_after}
use Rattle.kit_rounds.proofs.Results.{same_runs}
use Rattle.kit_lbts.specs.declared.view.LbtsView.{LbtsView}
use Rattle.kit_lbts.specs.Promises.{bound_in, bound_of, result_at, unknown}
use Rattle.kit_lbts.specs.SeatLaws.{IsInWorld}
use Rattle.kit_lbts.specs.Views.{entries_of, receipts, time_of}
use Rattle.kit_lbts.proofs.Bounds.{next_bound}
use Rattle.kit_node.specs.declared.node.Node.{Node}
use Rattle.kit_node.specs.declared.rounds.Rounds.{Rounds}
use Rattle.kit_node.specs.Fields.{closed_with}
use Rattle.kit_node.specs.Mirrors.{IsCalm, Mirrors, MirrorsCourse, MirrorsOutbox, MirrorsReceipts, MirrorsRounds, Shown, colour_of, orphan_seen}
use Rattle.kit_node.specs.Reducing.{HasPolled, IsClosed, IsStillOpen}
use Rattle.kit_node.proofs.MirrorFrames.{course_frame, outbox_frame, receipts_frame}
use Rattle.kit_node.proofs.RisingBounds.{bound_push, bound_rises}

abbrev P : Type 0
P = Place LbtsView

-- the results of the rounds before the last to which the federate contributed
abbrev pub results_before : LbtsView → List Share
results_before v = take (length v.contributions - 1) v.results

-- a node with a round under way mirrors its seat, but for what the result of that round tells
pub record MirrorsOpened {Q R : Type 0} (sh : Shown Q R) (n : Node Q R) (q : P) : Type 0 where
  pub me : n.me ≡ q.own.number
  pub journal : n.journal.entries ≡ entries_of q.client
  pub course : MirrorsCourse n.course q.client
  pub outbox : MirrorsOutbox n.outbox q.client
  pub queue : sh.entries n.inbox.queue ≡ q.client.queue
  pub orphans : map orphan_seen n.inbox.orphans.items ≡ q.client.orphans
  pub receipts : MirrorsReceipts n.inbox.receipts q.client
  pub settled : All (λ (e : Entry). e.message.time < n.inbox.settled → e.buffer ≡ None) q.client.queue
  pub settled_to : n.inbox.settled ≤ bound_in (results_before q.client)
  pub federates : q.own.federates ≡ (sh.state n.rounds.reduction).federates
  pub number : q.own.number ≡ (sh.state n.rounds.reduction).number
  pub scheme : q.client.scheme ≡ sh.scheme
  pub taken : n.rounds.taken ≡ length q.client.contributions
  pub limited : n.rounds.taken ≤ n.rounds.limit
  pub small : n.rounds.limit < 2 ^ 40
  pub run : n.rounds.run ≡ run_after (result_at q.client) (length q.client.contributions - 1)
  pub colour : n.rounds.colour ≡ colour_of q.client
  pub bound : n.rounds.bound ≡ bound_in (results_before q.client)
  pub under_way : n.rounds.under_way ≡ true
  pub some : 0 < length q.client.contributions
  pub many : length q.client.contributions - 1 ≤ length q.client.results
  pub due : n.due.items ≡ []
  pub arrivals : n.inbox.arrivals.items ≡ []
  pub calm : IsCalm q.client

-- the run that some results lead to, and with one more
abbrev run_in : List Share → ℕ → ℕ
run_in rs k = run_after (λ l. get_or rs l unknown) k

run_push : (xs : List Share) (s : Share) (k : ℕ) → length xs ≡ k → run_in (xs ++ s ∷ []) (suc k) ≡ cond (s.out == s.inn) (run_in (xs ++ s ∷ []) k + 1) (run_in (xs ++ s ∷ []) k)
run_push xs s k long = ap (λ (t : Share). cond (t.out == t.inn) (run_in (xs ++ s ∷ []) k + 1) (run_in (xs ++ s ∷ []) k)) (get_or_push xs s unknown k long)

run_before : (k : ℕ) (rs : List Share) (s : Share) → k ≤ length rs → length (take k rs) ≡ k → run_in (take k rs ++ s ∷ []) k ≡ run_in rs k
run_before k rs s le long = same_runs (λ l. get_or (take k rs ++ s ∷ []) l unknown) (λ l. get_or rs l unknown) k (λ l lt.
    get_or_append_left (take k rs) (s ∷ []) unknown l (omega (arith, lt, long)) ∙ get_or-take k rs l unknown lt)

module _ {Q R : Type 0} (sh : Shown Q R) (found : Bool) (n n' : Node Q R) (p q : P) (m : MirrorsOpened sh n p) (h : HasPolled sh found n n' p q) (w : IsInWorld q) where
  abbrev v : LbtsView
  v = p.client

  abbrev u : LbtsView
  u = q.client

  -- a node that differs in its rounds alone, and whose rounds are those of the seat, mirrors it
  mirrors_with : (r : Rounds R) → MirrorsRounds sh r q → bound_in (results_before p.client) ≤ bound_of q.client → Mirrors sh (record n { rounds = r }) q
  mirrors_with r rounds rises =
      let w = h.view in record {
        me = m.me ∙ sym h.leaves.number;
        journal = m.journal ∙ sym (ap entries_of w);
        course = course_frame n.course p.client q.client (ap (λ (x : LbtsView). x.state) w) (ap time_of w) (ap (λ (x : LbtsView). x.request) w) m.course;
        outbox = outbox_frame n.outbox p.client q.client (ap (λ (x : LbtsView). x.outbox) w) (ap (λ (x : LbtsView). x.filled) w) (ap (λ (x : LbtsView). x.posted) w) (ap (λ (x : LbtsView). x.contributions) w) m.outbox;
        inbox = record {
          queue = m.queue ∙ sym (ap (λ (x : LbtsView). x.queue) w);
          orphans = m.orphans ∙ sym (ap (λ (x : LbtsView). x.orphans) w);
          receipts = receipts_frame n.inbox.receipts p.client q.client (ap receipts w) (ap (λ (x : LbtsView). x.contributions) w) m.receipts;
          settled = subst (λ (es : List Entry). All (λ (e : Entry). e.message.time < n.inbox.settled → e.buffer ≡ None) es) (sym (ap (λ (x : LbtsView). x.queue) w)) m.settled;
          settled_to = let s = m.settled_to in omega (arith, s, rises);
        };
        rounds = rounds;
        due = m.due;
        arrivals = m.arrivals;
        calm = record { in_hand = ap (λ (x : LbtsView). x.in_hand) w ∙ m.calm.in_hand; spent = ap (λ (x : LbtsView). x.spent) w ∙ m.calm.spent; sending = ap (λ (x : LbtsView). x.sending) w ∙ m.calm.sending };
      }

  -- THE ROUND GOES ON
  module _ (s : IsStillOpen sh found n n' p q) where
    pub results_short : length q.client.results ≡ length q.client.contributions - 1
    results_short = let f = s.under_way.follows in let u = (f.under_way s.under_way.more).results in let r = f.round in omega (arith, u, r)

    before_are : results_before p.client ≡ q.client.results
    before_are =
        let few : length p.client.results ≤ length p.client.contributions - 1 =
        (let a = results_short in let b = ap (λ (l : List Share). length l) s.results in let c = ap (λ l. length l) h.contributions in omega (arith, a, b, c)) in
        take_all (length p.client.contributions - 1) p.client.results few ∙ sym s.results

    open_rounds : MirrorsRounds sh (record n.rounds { reduction = n'.rounds.reduction }) q
    open_rounds =
        let f = s.under_way.follows in record {
          federates = f.federates;
          number = f.number;
          scheme = f.scheme_is;
          taken = m.taken ∙ ap (λ l. length l) (sym h.contributions);
          limited = m.limited;
          small = m.small;
          run =
              m.run
              ∙ (ap (λ (rs : List Share). run_in rs (length p.client.contributions - 1)) (sym s.results)
              ∙ ap (run_in q.client.results) (ap (λ l. length l - 1) (sym h.contributions) ∙ sym results_short));
          colour = m.colour ∙ ap last_run (sym h.contributions);
          bound = m.bound ∙ ap bound_in before_are;
          under_way = λ _. s.under_way;
          closed = λ e. absurd (true≢false (sym m.under_way ∙ e));
        }

    pub open_mirrors : Mirrors sh n' q
    open_mirrors =
        subst (λ (x : Node Q R). Mirrors sh x q) (sym s.node)
        (mirrors_with (record n.rounds { reduction = n'.rounds.reduction }) open_rounds (let e = ap bound_in before_are in omega (arith, e)))

  -- IT WAS CLOSED
  module _ (s : IsClosed sh found n n' p q) where
    abbrev k : ℕ
    k = length p.client.contributions - 1

    abbrev xs : List Share
    xs = take (length p.client.contributions - 1) p.client.results

    results_are : q.client.results ≡ xs ++ s.sum ∷ []
    results_are = s.results ∙ ap (λ (l : ℕ). take (l - 1) p.client.results ++ s.sum ∷ []) (ap (λ l. length l) h.contributions)

    long : length xs ≡ k
    long = length-take-le (length p.client.contributions - 1) p.client.results m.many

    pub all_long : length q.client.results ≡ suc k
    all_long = let a = ap (λ (l : List Share). length l) results_are in let b = length_push xs s.sum in let c = long in omega (arith, a, b, c)

    run_is : run_in q.client.results (length q.client.results) ≡ cond (s.sum.out == s.sum.inn) (n.rounds.run + 1) n.rounds.run
    run_is =
        (λ i. run_in (results_are i) (all_long i))
        ∙ (run_push xs s.sum k long
        ∙ ap (λ (r : ℕ). cond (s.sum.out == s.sum.inn) (r + 1) r) (run_before k p.client.results s.sum m.many long ∙ sym m.run))

    bound_is : bound_of q.client ≡ cond (s.sum.out == s.sum.inn) s.sum.low n.rounds.bound
    bound_is = ap bound_in results_are ∙ (bound_push xs s.sum ∙ ap (λ (b : ℕ). next_bound b s.sum) (sym m.bound))

    abbrev rounds_by : Bool → Rounds R
    rounds_by b = record (cond b (record n.rounds { under_way = false; bound = s.sum.low; run = n.rounds.run + 1 }) (record n.rounds { under_way = false })) { reduction = n'.rounds.reduction }

    closed_rounds : MirrorsRounds sh (record (closed_with s.sum n.rounds) { reduction = n'.rounds.reduction }) q
    closed_rounds = by (s.sum.out == s.sum.inn) run_is bound_is
      where
        by : (b : Bool) → run_in q.client.results (length q.client.results) ≡ cond b (n.rounds.run + 1) n.rounds.run → bound_of q.client ≡ cond b s.sum.low n.rounds.bound → MirrorsRounds sh (rounds_by b) q
        by true run bound = record {
          federates = h.leaves.federates ∙ (m.federates ∙ sym h.federates);
          number = h.leaves.number ∙ (m.number ∙ sym h.number);
          scheme = ap (λ (x : LbtsView). x.scheme) h.view ∙ m.scheme;
          taken = m.taken ∙ ap (λ l. length l) (sym h.contributions);
          limited = m.limited;
          small = m.small;
          run = sym run;
          colour = m.colour ∙ ap last_run (sym h.contributions);
          bound = sym bound;
          under_way = λ e. absurd (false≢true e);
          closed = λ _. (s.level, s.shows);
        }
        by false run bound = record {
          federates = h.leaves.federates ∙ (m.federates ∙ sym h.federates);
          number = h.leaves.number ∙ (m.number ∙ sym h.number);
          scheme = ap (λ (x : LbtsView). x.scheme) h.view ∙ m.scheme;
          taken = m.taken ∙ ap (λ l. length l) (sym h.contributions);
          limited = m.limited;
          small = m.small;
          run = sym run;
          colour = m.colour ∙ ap last_run (sym h.contributions);
          bound = sym bound;
          under_way = λ e. absurd (false≢true e);
          closed = λ _. (s.level, s.shows);
        }

    pub closed_mirrors : Mirrors sh n' q
    closed_mirrors =
        subst (λ (x : Node Q R). Mirrors sh x q) (sym s.node)
        (mirrors_with (record (closed_with s.sum n.rounds) { reduction = n'.rounds.reduction }) closed_rounds (bound_rises q w xs s.sum results_are s.level))

  pub polled_mirrors : Mirrors sh n' q
  polled_mirrors = elim h.answer [ inl s ↦ open_mirrors s | inr s ↦ closed_mirrors s ]
