-- What a node's parts show of a place they show of each place that agrees with it in what they read. So a node mirrors its seat again
-- after each part of a turn.
use Rattle.std.proofs.Common.{◌≡◌, ◌≢◌, ℕ, ◌+◌, ◌<◌, ◌≤◌, Bool, List, [], ◌∷◌, ◌++◌, length, drop, map, filter, refl, sym, ap, ◌∙◌, subst, arith, append_assoc}
use Rattle.std.specs.Prelude.{All, count_by, Option, Some, None, if◌then◌else◌}
use Rattle.std.proofs.lemmas.List.{append-nil, map-append}
use Rattle.std.proofs.lemmas.List.Elements.{All-head, All-tail}
use Rattle.kit_base.specs.declared.message.Message.{Message}
use Rattle.kit_ground.specs.declared.place.Place.{Place}
use Rattle.kit_model.specs.Counts.{old_count}
use Rattle.kit_model.specs.declared.journal.JournalEntry.{JournalEntry}
use Rattle.kit_model.specs.declared.journal.JournalEntry.TheVariants.{Received, Delivered, Granted}
use Rattle.kit_model.specs.Journals.{now_of}
use Rattle.kit_model.proofs.Lawful.{others_keep_the_time}
use Rattle.kit_queue.specs.declared.entry.Entry.{Entry}
use Rattle.kit_rounds.specs.Ledgers.{colours, last_run}
use Rattle.kit_rules.specs.declared.scene.State.{State}
use Rattle.kit_rules.specs.declared.table.Request.{Request}
use Rattle.kit_rules.specs.declared.table.Trigger.TheVariants as trigger
use Rattle.kit_rules.specs.Delivery.{is_transported}
use Rattle.kit_rules.specs.Parts.{Parts}
use Rattle.kit_rules.specs.Simulation.{request_at}
use Rattle.kit_rules.specs.Step.{state_after}
use Rattle.kit_lbts.specs.declared.view.Filled.{Filled}
use Rattle.kit_lbts.specs.declared.view.LbtsView.{LbtsView}
use Rattle.kit_lbts.specs.declared.view.Noted.{Noted}
use Rattle.kit_lbts.specs.declared.view.Scheme.{Scheme}
use Rattle.kit_lbts.specs.LedgerLaws.{ready_place}
use Rattle.kit_lbts.specs.Progress.{view_after_start}
use Rattle.kit_lbts.specs.Promises.{bound_in, copy_received}
use Rattle.kit_lbts.specs.SeatLaws.{IsInWorld}
use Rattle.kit_lbts.specs.Views.{entries_of, is_new, receipts, time_of}
use Rattle.kit_lbts.proofs.SeatFacts.{places_tell}
use Rattle.kit_fly.specs.Rounds.{FollowsRound, RoundState}
use Rattle.kit_node.specs.declared.course.Course.{Course}
use Rattle.kit_node.specs.declared.inbox.Inbox.{Inbox}
use Rattle.kit_node.specs.declared.node.Node.{Node}
use Rattle.kit_node.specs.declared.outbox.Outbox.{Outbox}
use Rattle.kit_node.specs.declared.posts.Posts.{Posts}
use Rattle.kit_node.specs.declared.receipts.Receipts.{Receipts}
use Rattle.kit_node.specs.declared.rounds.Rounds.{Rounds}
use Rattle.kit_node.specs.Frames.{IsReceipt, OnlyReceipts}
use Rattle.kit_node.specs.Mirrors.{HasUnderWay, is_colour, IsReportOf, Mirrors, MirrorsCourse, MirrorsInbox, MirrorsMail, MirrorsOutbox, MirrorsPosts, MirrorsReceipts, MirrorsRounds, Shown, time_put}
use Rattle.kit_node.specs.Receiving.{ReceivesOnly}
use Rattle.kit_node.specs.Sending.{HasPosted}
use Rattle.kit_node.specs.Settling.{HasSettled}
use Rattle.kit_node.specs.Starting.{IsBegun}

abbrev P : Type 0
P = Place LbtsView

-- THE COURSE
pub course_frame : (c : Course) (v u : LbtsView) → u.state ≡ v.state → time_of u ≡ time_of v → u.request ≡ v.request → MirrorsCourse c v → MirrorsCourse c u
course_frame c v u state time request m = record { state = m.state ∙ sym state; now = m.now ∙ sym time; request = m.request ∙ sym request }

-- THE OUTBOX
pub posts_frame : (o : Posts) (v u : LbtsView) → u.posted ≡ v.posted → u.contributions ≡ v.contributions → MirrorsPosts o v → MirrorsPosts o u
posts_frame o v u posted contributions m =
    let w : LbtsView = record v { posted = u.posted; contributions = u.contributions } in
    let same : v ≡ w = λ i. record v { posted = sym posted i; contributions = sym contributions i } in
    let n : MirrorsPosts o w = subst (λ (x : LbtsView). MirrorsPosts o x) same m in
    record { older = n.older; own = n.own; all_counted = n.all_counted; least = n.least }

pub outbox_frame : (o : Outbox) (v u : LbtsView) → u.outbox ≡ v.outbox → u.filled ≡ v.filled → u.posted ≡ v.posted → u.contributions ≡ v.contributions → MirrorsOutbox o v → MirrorsOutbox o u
outbox_frame o v u outbox filled posted contributions m = record {
  done = m.done;
  messages = m.messages ∙ sym outbox;
  emptied = λ e. m.emptied (sym outbox ∙ e);
  put = m.put ∙ ap (map time_put) (sym filled);
  posts = posts_frame o.posts v u posted contributions m.posts;
}

-- THE INBOX
pub receipts_frame : (r : Receipts) (v u : LbtsView) → receipts u ≡ receipts v → u.contributions ≡ v.contributions → MirrorsReceipts r v → MirrorsReceipts r u
receipts_frame r v u same contributions m =
    let cs : v.contributions ≡ u.contributions = sym contributions in
    let fs : receipts v ≡ receipts u = sym same in
    record {
      older = m.older ∙ (λ i. old_count (last_run (cs i)) (colours (map copy_received (fs i))));
      own = m.own ∙ (λ i. count_by (is_colour (last_run (cs i))) (colours (map copy_received (fs i))));
      next = m.next ∙ (λ i. count_by (is_colour (last_run (cs i) + 1)) (colours (map copy_received (fs i))));
      all_counted = m.all_counted ∙ ap (λ (l : List Filled). length l) fs;
    }

pub inbox_frame : {Q : Type 0} (entries : Q → List Entry) (i : Inbox Q) (v u : LbtsView) → u.queue ≡ v.queue → u.orphans ≡ v.orphans → receipts u ≡ receipts v
    → u.contributions ≡ v.contributions → u.results ≡ v.results → MirrorsInbox entries i v → MirrorsInbox entries i u
inbox_frame entries i v u queue orphans same contributions results m = record {
  queue = m.queue ∙ sym queue;
  orphans = m.orphans ∙ sym orphans;
  receipts = receipts_frame i.receipts v u same contributions m.receipts;
  settled = subst (λ (es : List Entry). All (λ (e : Entry). e.message.time < i.settled → e.buffer ≡ None) es) (sym queue) m.settled;
  settled_to = subst (λ (b : ℕ). i.settled ≤ b) (ap bound_in (sym results)) m.settled_to;
}

-- THE ROUNDS
pub record SameRounds (p q : P) : Type 0 where
  pub number : q.own.number ≡ p.own.number
  pub federates : q.own.federates ≡ p.own.federates
  pub shown : q.own.shown ≡ p.own.shown
  pub scheme : q.client.scheme ≡ p.client.scheme
  pub contributions : q.client.contributions ≡ p.client.contributions
  pub taken : q.client.taken ≡ p.client.taken
  pub results : q.client.results ≡ p.client.results

-- the place p, with what q knows of the rounds
abbrev with_rounds : P → P → P
with_rounds p q = record p {
  own = record p.own { number = q.own.number; federates = q.own.federates; shown = q.own.shown };
  client = record p.client { scheme = q.client.scheme; contributions = q.client.contributions; taken = q.client.taken; results = q.client.results };
}

with_rounds_same : (p q : P) → SameRounds p q → p ≡ with_rounds p q
with_rounds_same p q s = λ i. record p {
  own = record p.own { number = sym s.number i; federates = sym s.federates i; shown = sym s.shown i };
  client = record p.client { scheme = sym s.scheme i; contributions = sym s.contributions i; taken = sym s.taken i; results = sym s.results i };
}

follows_there : (scheme : Scheme) (k : RoundState) (p q : P) → FollowsRound scheme k (with_rounds p q) → FollowsRound scheme k q
follows_there scheme k p q f = record {
  scheme_is = f.scheme_is;
  federates = f.federates;
  number = f.number;
  started = f.started;
  round = f.round;
  few = f.few;
  under_way = λ lt. let u = f.under_way lt in record { results = u.results; taken = u.taken; value = u.value };
  closed = λ e. let c = f.closed e in record { results = c.results; value = c.value };
}

under_way_there : (scheme : Scheme) (k : RoundState) (p q : P) → HasUnderWay scheme k (with_rounds p q) → HasUnderWay scheme k q
under_way_there scheme k p q h = record { follows = follows_there scheme k p q h.follows; shown = h.shown; more = h.more }

pub follows_frame : (scheme : Scheme) (k : RoundState) (p q : P) → SameRounds p q → FollowsRound scheme k p → FollowsRound scheme k q
follows_frame scheme k p q s f = follows_there scheme k p q (subst (λ (r : P). FollowsRound scheme k r) (with_rounds_same p q s) f)

pub rounds_frame : {Q R : Type 0} (sh : Shown Q R) (r : Rounds R) (p q : P) → SameRounds p q → MirrorsRounds sh r p → MirrorsRounds sh r q
rounds_frame sh r p q s m =
    let n = subst (λ (x : P). MirrorsRounds sh r x) (with_rounds_same p q s) m in
    record {
      federates = n.federates;
      number = n.number;
      scheme = n.scheme;
      taken = n.taken;
      limited = n.limited;
      small = n.small;
      run = n.run;
      colour = n.colour;
      bound = n.bound;
      under_way = λ e. under_way_there sh.scheme (sh.state r.reduction) p q (n.under_way e);
      closed = n.closed;
    }

-- A PLACE THAT IS READY
pub ready_new : (p : P) → p.client.request ≡ None → ready_place p ≡ record p { client = view_after_start p.own.number p.client }
ready_new p new = ap (λ (o : Option Request). record p { client = if is_new o then view_after_start p.own.number p.client else p.client }) new

pub ready_same : (p : P) → p.client.request ≢ None → ready_place p ≡ p
ready_same p old = by p.client.request refl
  where
    by : (o : Option Request) → p.client.request ≡ o → ready_place p ≡ p
    by None e = absurd (old e)
    by (Some r) e = ap (λ (o : Option Request). record p { client = if is_new o then view_after_start p.own.number p.client else p.client }) e

-- RECEIPTS leave the logical time
receipt_keeps : (es : List JournalEntry) (e : JournalEntry) → IsReceipt e → now_of (es ++ e ∷ []) ≡ now_of es
receipt_keeps es (Received m) is = others_keep_the_time es (Received m) refl
receipt_keeps es (Delivered granted m) is = absurd is
receipt_keeps es (Granted t) is = absurd is

abbrev entry_in : Noted → JournalEntry
entry_in e = e.entry

receipts_keep : (es : List JournalEntry) (made : List Noted) → All (λ (e : Noted). IsReceipt e.entry) made → now_of (es ++ map entry_in made) ≡ now_of es
receipts_keep es [] all = ap now_of (append-nil es)
receipts_keep es (e ∷ made) all =
    ap now_of (sym (append_assoc es (e.entry ∷ []) (map entry_in made)))
    ∙ (receipts_keep (es ++ e.entry ∷ []) made (All-tail (λ (x : Noted). IsReceipt x.entry) e made all)
    ∙ receipt_keeps es e.entry (All-head (λ (x : Noted). IsReceipt x.entry) e made all))

pub receipts_keep_time : (v u : LbtsView) → OnlyReceipts v u → time_of u ≡ time_of v
receipts_keep_time v u o =
    ap (λ (l : List Noted). now_of (map entry_in l)) o.journal
    ∙ (ap now_of (map-append entry_in v.journal o.made) ∙ receipts_keep (entries_of v) o.made o.receipts)

-- THE NODE. After each part it mirrors its seat again, where the part that was changed does
module _ {Q R : Type 0} (sh : Shown Q R) (n n' : Node Q R) (p q : P) where
  pub mirrors_after_settle : (bound : ℕ) (released : Bool) → n' ≡ record n { inbox = n'.inbox } → n'.inbox.arrivals ≡ n.inbox.arrivals → HasSettled bound released p q
      → MirrorsInbox sh.entries n'.inbox q.client → Mirrors sh n p → Mirrors sh n' q
  mirrors_after_settle bound released others arrivals h inbox m =
      let v = h.view in
      let is : Mirrors sh (record n { inbox = n'.inbox }) q = record {
        me = m.me ∙ sym h.seat.number;
        journal = m.journal ∙ sym (ap entries_of v);
        course = course_frame n.course p.client q.client (ap (λ (x : LbtsView). x.state) v) (ap time_of v) (ap (λ (x : LbtsView). x.request) v) m.course;
        outbox = outbox_frame n.outbox p.client q.client (ap (λ (x : LbtsView). x.outbox) v) (ap (λ (x : LbtsView). x.filled) v) (ap (λ (x : LbtsView). x.posted) v) (ap (λ (x : LbtsView). x.contributions) v) m.outbox;
        inbox = inbox;
        rounds = rounds_frame sh n.rounds p q (record {
          number = h.seat.number;
          federates = h.seat.federates;
          shown = h.shown;
          scheme = ap (λ (x : LbtsView). x.scheme) v;
          contributions = ap (λ (x : LbtsView). x.contributions) v;
          taken = ap (λ (x : LbtsView). x.taken) v;
          results = ap (λ (x : LbtsView). x.results) v;
        }) m.rounds;
        due = m.due;
        arrivals = ap (λ a. a.items) arrivals ∙ m.arrivals;
        calm = record { in_hand = ap (λ (x : LbtsView). x.in_hand) v ∙ m.calm.in_hand; spent = ap (λ (x : LbtsView). x.spent) v ∙ m.calm.spent; sending = ap (λ (x : LbtsView). x.sending) v ∙ m.calm.sending };
      } in
      subst (λ (x : Node Q R). Mirrors sh x q) (sym others) is

  pub mirrors_after_posts : (count : ℕ) → n' ≡ record n { outbox = n'.outbox } → HasPosted count p q → MirrorsOutbox n'.outbox q.client → Mirrors sh n p → Mirrors sh n' q
  mirrors_after_posts count others h outbox m =
      let v = h.view in
      let is : Mirrors sh (record n { outbox = n'.outbox }) q = record {
        me = m.me ∙ sym h.seat.number;
        journal = m.journal ∙ sym (ap entries_of v);
        course = course_frame n.course p.client q.client (ap (λ (x : LbtsView). x.state) v) (ap time_of v) (ap (λ (x : LbtsView). x.request) v) m.course;
        outbox = outbox;
        inbox = inbox_frame sh.entries n.inbox p.client q.client (ap (λ (x : LbtsView). x.queue) v) (ap (λ (x : LbtsView). x.orphans) v) (ap receipts v) (ap (λ (x : LbtsView). x.contributions) v) (ap (λ (x : LbtsView). x.results) v) m.inbox;
        rounds = rounds_frame sh n.rounds p q (record {
          number = h.seat.number;
          federates = h.seat.federates;
          shown = h.shown;
          scheme = ap (λ (x : LbtsView). x.scheme) v;
          contributions = ap (λ (x : LbtsView). x.contributions) v;
          taken = ap (λ (x : LbtsView). x.taken) v;
          results = ap (λ (x : LbtsView). x.results) v;
        }) m.rounds;
        due = m.due;
        arrivals = m.arrivals;
        calm = record { in_hand = ap (λ (x : LbtsView). x.in_hand) v ∙ m.calm.in_hand; spent = ap (λ (x : LbtsView). x.spent) v ∙ m.calm.spent; sending = ap (λ (x : LbtsView). x.sending) v ∙ m.calm.sending };
      } in
      subst (λ (x : Node Q R). Mirrors sh x q) (sym others) is

  -- receipts: the inbox and the journal are those of what was received
  pub mirrors_after_receipts : n' ≡ record n { inbox = n'.inbox; journal = n'.journal } → ReceivesOnly p q → MirrorsMail sh.entries n'.inbox n'.journal q.client
      → n'.inbox.arrivals.items ≡ [] → q.client.in_hand ≡ [] → q.client.spent ≡ [] → Mirrors sh n p → Mirrors sh n' q
  mirrors_after_receipts others h mail arrivals in_hand spent m =
      let v = h.view in
      let is : Mirrors sh (record n { inbox = n'.inbox; journal = n'.journal }) q = record {
        me = m.me ∙ sym h.seat.number;
        journal = mail.journal;
        course = course_frame n.course p.client q.client (ap (λ (x : LbtsView). x.state) v) (receipts_keep_time p.client q.client h.journal) (ap (λ (x : LbtsView). x.request) v) m.course;
        outbox = outbox_frame n.outbox p.client q.client (ap (λ (x : LbtsView). x.outbox) v) (ap (λ (x : LbtsView). x.filled) v) (ap (λ (x : LbtsView). x.posted) v) (ap (λ (x : LbtsView). x.contributions) v) m.outbox;
        inbox = mail.inbox;
        rounds = rounds_frame sh n.rounds p q (record {
          number = h.seat.number;
          federates = h.seat.federates;
          shown = h.shown;
          scheme = ap (λ (x : LbtsView). x.scheme) v;
          contributions = ap (λ (x : LbtsView). x.contributions) v;
          taken = ap (λ (x : LbtsView). x.taken) v;
          results = ap (λ (x : LbtsView). x.results) v;
        }) m.rounds;
        due = m.due;
        arrivals = arrivals;
        calm = record { in_hand = in_hand; spent = spent; sending = ap (λ (x : LbtsView). x.sending) v ∙ m.calm.sending };
      } in
      subst (λ (x : Node Q R). Mirrors sh x q) (sym others) is

-- what a node that mirrors its seat reports
pub report_of : {Q R : Type 0} (sh : Shown Q R) (n : Node Q R) (p : P) → Mirrors sh n p → IsReportOf n p
report_of sh n p m = record { me = m.me; journal = m.journal; now = m.course.now; bound = m.rounds.bound; taken = m.rounds.taken }

-- THE START. A node whose start's rules have run mirrors the seat's place that is ready
module _ {Q R : Type 0} (sh : Shown Q R) (f : Parts) (n n' : Node Q R) (p : P) (w : IsInWorld p) (federation : p.client.federation ≡ f) (new : p.client.request ≡ None)
    (begun : IsBegun f n n') (m : Mirrors sh n p) where
  abbrev started : P
  started = record p { client = view_after_start p.own.number p.client }

  state_is : n'.course.state ≡ started.client.state
  state_is = begun.state ∙ (λ i. state_after (sym federation i) (m.me i) trigger.Start 0 0 (m.course.state i))

  time_is : time_of p.client ≡ 0
  time_is = ap (λ (l : List Noted). now_of (map entry_in l)) ((places_tell p w).sends.new new).2

  none_done : n.outbox.done ≡ 0
  none_done = let le = m.outbox.done in let e = ap (λ (l : List Message). length l) (m.outbox.emptied ((places_tell p w).sends.new new).3) in omega arith

  messages_are : n'.outbox.messages.items ≡ started.client.outbox
  messages_are =
      let none : n.course.state.sends ≡ [] = ap (λ (s : State). s.sends) m.course.state ∙ ((places_tell p w).sends.new new).0 in
      begun.outbox ∙ (λ i. filter (is_transported (sym federation i)) (drop (length (none i)) (state_is i).sends))

  outbox_is : MirrorsOutbox n'.outbox started.client
  outbox_is = record {
    done = let d = begun.done ∙ none_done in omega arith;
    messages = λ i. drop ((begun.done ∙ none_done) i) (messages_are i);
    emptied = λ e. messages_are ∙ e;
    put = ap (λ x. x.items) begun.put ∙ m.outbox.put;
    posts = posts_frame n'.outbox.posts p.client started.client refl refl (subst (λ (x : Posts). MirrorsPosts x p.client) (sym begun.posts) m.outbox.posts);
  }

  mirrors_started : Mirrors sh n' started
  mirrors_started =
      let is : Mirrors sh (record n { course = n'.course; outbox = n'.outbox }) started = record {
        me = m.me;
        journal = m.journal;
        course = record { state = state_is; now = begun.now ∙ sym time_is; request = begun.request ∙ (λ i. Some (request_at (state_is i).wish 0 (sym federation i).end)) };
        outbox = outbox_is;
        inbox = inbox_frame sh.entries n.inbox p.client started.client refl refl refl refl refl m.inbox;
        rounds = rounds_frame sh n.rounds p started (record { number = refl; federates = refl; shown = refl; scheme = refl; contributions = refl; taken = refl; results = refl }) m.rounds;
        due = m.due;
        arrivals = m.arrivals;
        calm = record { in_hand = m.calm.in_hand; spent = m.calm.spent; sending = m.calm.sending };
      } in
      subst (λ (x : Node Q R). Mirrors sh x started) (sym begun.others) is

  pub begun_mirrors : Mirrors sh n' (ready_place p)
  begun_mirrors = subst (λ (x : P). Mirrors sh n' x) (sym (ready_new p new)) mirrors_started
