-- A node mirrors its seat again once a grant was made.
use Rattle.std.proofs.Common.{◌≡◌, ◌≢◌, ℕ, ◌+◌, ◌*◌, ◌/◌, ◌%◌, ◌^◌, ◌<◌, ◌≤◌, nat_lt, true, List, [], ◌∷◌, ◌++◌, length, drop, map, filter, refl, sym, ap, ◌∙◌, subst, arith, append_assoc, length-append, if◌then◌else◌}
use Rattle.std.specs.Prelude.{All, Option, Some, None, slice_index, slice_set}
use Rattle.std.proofs.lemmas.List.{get_or-set_other}
use Rattle.std.proofs.lemmas.List.Elements.{All-filter, All-weaker}
use Rattle.std.proofs.lemmas.Option.{none-some}
use Rattle.kit_base.specs.declared.message.Message.{Message}
use Rattle.kit_ground.specs.declared.place.Deed.TheVariants.{Published}
use Rattle.kit_ground.specs.declared.place.Place.{Place}
use Rattle.kit_ground.specs.Steps.{place_after}
use Rattle.kit_model.specs.declared.journal.JournalEntry.{JournalEntry}
use Rattle.kit_model.specs.declared.journal.JournalEntry.TheVariants.{Delivered, Granted}
use Rattle.kit_queue.specs.declared.entry.Entry.{Entry}
use Rattle.kit_rules.specs.declared.scene.State.{State}
use Rattle.kit_rules.specs.declared.table.Request.{Request}
use Rattle.kit_rules.specs.Delivery.{is_transported}
use Rattle.kit_rules.specs.Parts.{Parts}
use Rattle.kit_rules.specs.Simulation.{after_block, request_at}
use Rattle.kit_lbts.specs.declared.view.LbtsView.{LbtsView}
use Rattle.kit_lbts.specs.declared.view.Scheme.{Scheme}
use Rattle.kit_lbts.specs.AgreementLaws.{MayBeGranted}
use Rattle.kit_lbts.specs.Progress.{due_in, view_after, view_after_grant}
use Rattle.kit_lbts.specs.Promises.{bound_of}
use Rattle.kit_lbts.specs.PublishLaws.{ShowsLast}
use Rattle.kit_ground.specs.Layout.{clock_of}
use Rattle.kit_lbts.specs.SeatLaws.{IsInWorld}
use Rattle.kit_lbts.specs.Seats.{most_sends}
use Rattle.kit_lbts.specs.Views.{due_of, entries_of, time_of}
use Rattle.kit_laws.proofs.Joins.{grows_by_block}
use Rattle.kit_lbts.proofs.GrantAgreement.{without_agreement}
use Rattle.kit_lbts.proofs.GrantSteps.{entries_are}
use Rattle.kit_lbts.proofs.ReadySteps.{granted_time, same_receipts}
use Rattle.kit_lbts.proofs.SeatFacts.{dues_are_ahead, places_tell}
use Rattle.kit_fly.specs.Rounds.{FollowsRound, RoundState, SlotsShowRound}
use Rattle.kit_node.specs.declared.course.Course.{Course}
use Rattle.kit_node.specs.declared.inbox.Inbox.{Inbox}
use Rattle.kit_node.specs.declared.node.Node.{Node}
use Rattle.kit_node.specs.declared.outbox.Outbox.{Outbox}
use Rattle.kit_node.specs.declared.rounds.Rounds.{Rounds}
use Rattle.kit_node.specs.Granting.{HasRunBlock, IsGrantable, KeepsReport, MayGrant, SpendsAtGrant, SpendsInBlock, behind_due, block_entries, front_due}
use Rattle.kit_node.specs.Mirrors.{IsReportOf, Mirrors, MirrorsCourse, MirrorsInbox, MirrorsOutbox, MirrorsRounds, Shown}
use Rattle.kit_node.specs.Reducing.{due_at}
use Rattle.kit_node.specs.Settling.{IsSettled}
use Rattle.kit_node.proofs.Fronts.{behind_is, front_is}
use Rattle.kit_node.proofs.MirrorFrames.{posts_frame, receipts_frame}
use Rattle.kit_node.proofs.Sharing.{due_is}

abbrev P : Type 0
P = Place LbtsView

-- the place once the due time was shown
abbrev pub granted_place : P → P
granted_place p = place_after view_after (Published (clock_of p.own.number) (due_of p.client)) p

-- THE ROUNDS. The clock is no slot of a round
slot_aside : (shown : List ℕ) (round stage word : ℕ) → stage < 6 → slice_index (slice_set shown 12 word) (round % 2 * 6 + stage) ≡ slice_index shown (round % 2 * 6 + stage)
slot_aside shown round stage word lt = get_or-set_other shown 12 (round % 2 * 6 + stage) word 0 (λ e. omega (arith, e, lt))

pub shows_granted : (p : P) → ShowsLast p → ShowsLast (granted_place p)
shows_granted p h stage lt does some_ = ap (λ (x : ℕ). x / 2 ^ 61) (slot_aside p.own.shown (length p.client.contributions) stage (due_of p.client) lt) ∙ h stage lt does some_

pub slot_granted : (p : P) (round stage : ℕ) → stage < 6 → slice_index (granted_place p).own.shown (round % 2 * 6 + stage) ≡ slice_index p.own.shown (round % 2 * 6 + stage)
slot_granted p round stage lt = slot_aside p.own.shown round stage (due_of p.client) lt

follows_granted : (scheme : Scheme) (k : RoundState) (p : P) → FollowsRound scheme k p → FollowsRound scheme k (granted_place p)
follows_granted scheme k p f = record {
  scheme_is = f.scheme_is;
  federates = f.federates;
  number = f.number;
  started = f.started;
  round = f.round;
  few = f.few;
  under_way = λ lt. let u = f.under_way lt in record { results = u.results; taken = u.taken; value = u.value };
  closed = λ e. let c = f.closed e in record { results = c.results; value = c.value };
}

slots_granted : (scheme : Scheme) (k : RoundState) (p : P) → SlotsShowRound scheme k p → SlotsShowRound scheme k (granted_place p)
slots_granted scheme k p h stage lt does enough = ap (λ (x : ℕ). x / 2 ^ 61) (slot_aside p.own.shown k.round stage (due_of p.client) lt) ∙ h stage lt does enough

rounds_granted : {Q R : Type 0} (sh : Shown Q R) (r : Rounds R) (p : P) → MirrorsRounds sh r p → MirrorsRounds sh r (granted_place p)
rounds_granted sh r p m = record {
  federates = m.federates;
  number = m.number;
  scheme = m.scheme;
  taken = m.taken;
  limited = m.limited;
  small = m.small;
  run = m.run;
  colour = m.colour;
  bound = m.bound;
  under_way = λ e. let u = m.under_way e in record { follows = follows_granted sh.scheme (sh.state r.reduction) p u.follows; shown = slots_granted sh.scheme (sh.state r.reduction) p u.shown; more = u.more };
  closed = λ e. let c = m.closed e in (c.0, shows_granted p c.1);
}

-- THE NODE stands at the time that was granted
pub record Stands {Q R : Type 0} (f : Parts) (d : ℕ) (n n' : Node Q R) : Type 0 where
  pub me : n'.me ≡ n.me
  pub course : n'.course ≡ record n.course { now = d; request = if nat_lt d f.end then Some (request_at n.course.state.wish d f.end) else n.course.request }
  pub journal : n'.journal.entries ≡ n.journal.entries ++ block_entries d n.due.items
  pub due : n'.due.items ≡ []
  pub inbox : n'.inbox ≡ n.inbox
  pub outbox : n'.outbox ≡ n.outbox
  pub rounds : n'.rounds ≡ n.rounds

-- WHERE A GRANT MAY BE MADE
module _ {Q R : Type 0} (sh : Shown Q R) (f : Parts) (n : Node Q R) (p : P) (w : IsInWorld p) (federation : p.client.federation ≡ f) (m : Mirrors sh n p) where
  pub due_there : (d : ℕ) → IsGrantable sh.entries n d → d ≡ due_of p.client
  due_there d g = g.due_is ∙ (sym (ap (λ (o : Option Request). due_at o (sh.entries n.inbox.queue)) g.request_is) ∙ due_is sh f n p w federation m)

  pub may_be_granted : (d : ℕ) → IsGrantable sh.entries n d → IsSettled p.client → time_of p.client < p.client.federation.end → MayBeGranted p
  may_be_granted d g settled early =
      let due = due_there d g in
      let bound = m.rounds.bound in
      let lower = g.below in
      let below : due_of p.client < bound_of p.client = omega arith in
      record {
        started = λ e. none-some g.request (sym e ∙ (sym m.course.request ∙ g.request_is));
        posted = sym m.outbox.messages ∙ g.waits;
        early = early;
        below = below;
        loose = All-weaker (λ (e : Entry). e.message.time < bound_of p.client → e.buffer ≡ None) (λ (e : Entry). e.message.time ≤ due_of p.client → e.buffer ≡ None) (λ e h le. h (omega (arith, le, below))) p.client.queue settled;
      }

  -- and where none may, the federate may not be granted its due time
  pub grants_nothing : ((d : ℕ) → IsGrantable sh.entries n d → ⊥) → MayGrant p.client → ⊥
  grants_nothing none may = by n.course.request refl
    where
      by : (o : Option Request) → n.course.request ≡ o → ⊥
      by None e = may.started (sym m.course.request ∙ e)
      by (Some r) e = none (due_of p.client) (record {
        waits = m.outbox.messages ∙ may.posted;
        request = r;
        request_is = e;
        due_is = sym (due_is sh f n p w federation m) ∙ ap (λ (o : Option Request). due_at o (sh.entries n.inbox.queue)) e;
        below = let b = may.below in let k = m.rounds.bound in omega arith;
      })

  pub me_within : n.me < length f.federates
  me_within = let t = places_tell p w in let e = ap (λ (x : Parts). length x.federates) federation in omega (arith, t.there, t.federates, e, m.me)

  pub request_duein : (d : ℕ) → IsGrantable sh.entries n d → time_of p.client < p.client.federation.end → d ≤ f.end
  request_duein d g early =
      let asked : p.client.request ≢ None = λ e. none-some g.request (sym e ∙ (sym m.course.request ∙ g.request_is)) in
      let ahead = dues_are_ahead p w asked early in
      let due = due_there d g in
      let end = ap (λ (x : Parts). x.end) federation in
      omega (arith, ahead.1, due, end)

  -- the state of the block is that of the view
  pub block_state : (d : ℕ) → d ≡ due_of p.client
      → after_block f n.me d n.course.state (front_due d (sh.entries n.inbox.queue)) ≡ after_block p.client.federation p.own.number (due_of p.client) p.client.state (due_in (due_of p.client) p.client.queue)
  block_state d is =
      (λ i. after_block (sym federation i) (m.me i) (is i) (m.course.state i) (front_due (is i) (m.inbox.queue i)))
      ∙ ap (after_block p.client.federation p.own.number (due_of p.client) p.client.state) (front_is (due_of p.client) p.client.queue (places_tell p w).queue.ordered)

  -- numbers past the last one are spent
  pub spends : (d : ℕ) → d ≡ due_of p.client → MayBeGranted p → SpendsInBlock f n.me d n.course.state (front_due d (sh.entries n.inbox.queue)) → SpendsAtGrant p
  spends d is may past =
      let grow = grows_by_block p.client.federation p.own.number (due_of p.client) p.client.state (due_in (due_of p.client) p.client.queue) in
      let next = ap (λ (s : State). s.next) (block_state d is) in
      let first = (places_tell p w).sends.next in
      let long = ap (λ (l : List Message). length l) grow.sends ∙ length-append p.client.state.sends grow.made in
      record { may = may; past = let g = grow.next in omega (arith, past, next, first, long, g) }

  pub report_kept : (n' : Node Q R) → KeepsReport n n' → IsReportOf n' p
  report_kept n' k = record {
    me = k.me ∙ m.me;
    journal = k.journal ∙ m.journal;
    now = k.now ∙ m.course.now;
    bound = ap (λ (r : Rounds R). r.bound) k.rounds ∙ m.rounds.bound;
    taken = ap (λ (r : Rounds R). r.taken) k.rounds ∙ m.rounds.taken;
  }

  -- its numbers suffice, where those of the node do
  pub numbers_suffice : (k : Node Q R) → HasRunBlock sh.entries f (due_of p.client) n k → length k.course.state.sends ≤ most_sends
      → length (view_after_grant p.own.number (due_of p.client) p.client).state.sends ≤ most_sends
  numbers_suffice k run few = subst (λ (s : State). length s.sends ≤ most_sends) (run.state ∙ block_state (due_of p.client) refl) few

  -- THE GRANT was made by a node that had run its block
  module _ (may : MayBeGranted p) (k k' : Node Q R) (run : HasRunBlock sh.entries f (due_of p.client) n k) (stands : Stands f (due_of p.client) k k') where
    abbrev d : ℕ
    d = due_of p.client

    abbrev v : LbtsView
    v = p.client

    abbrev q : P
    q = granted_place p

    state_is : k.course.state ≡ q.client.state
    state_is = run.state ∙ block_state (due_of p.client) refl

    end_is : f.end ≡ p.client.federation.end
    end_is = ap (λ (x : Parts). x.end) (sym federation)

    course_granted : MirrorsCourse k'.course q.client
    course_granted = subst (λ (c : Course). MirrorsCourse c q.client) (sym stands.course) (record {
      state = state_is;
      now = sym (granted_time p.own.number (due_of p.client) p.client);
      request = λ i. if nat_lt (due_of p.client) (end_is i) then Some (request_at (state_is i).wish (due_of p.client) (end_is i)) else (run.request ∙ m.course.request) i;
    })

    none_before : n.outbox.messages.items ≡ []
    none_before = m.outbox.emptied may.posted

    none_done : n.outbox.done ≡ 0
    none_done = let le = m.outbox.done in let e = ap (λ (l : List Message). length l) none_before in omega arith

    outbox_same : k'.outbox ≡ record n.outbox { messages = k.outbox.messages }
    outbox_same = stands.outbox ∙ ap (λ (x : Node Q R). x.outbox) run.others

    messages_are : k.outbox.messages.items ≡ q.client.outbox
    messages_are =
        run.outbox
        ∙ ((λ i. filter (is_transported (sym federation i)) (drop (length (m.course.state i).sends) (state_is i).sends))
        ∙ ap (λ (l : List Message). l ++ filter (is_transported p.client.federation) (drop (length p.client.state.sends) q.client.state.sends)) (sym may.posted))

    outbox_granted : MirrorsOutbox k'.outbox q.client
    outbox_granted = subst (λ (o : Outbox). MirrorsOutbox o q.client) (sym outbox_same) (record {
      done = let z = none_done in omega arith;
      messages = λ i. drop (none_done i) (messages_are i);
      emptied = λ e. messages_are ∙ e;
      put = m.outbox.put;
      posts = posts_frame n.outbox.posts p.client q.client refl refl m.outbox.posts;
    })

    inbox_same : k'.inbox ≡ record n.inbox { queue = k.inbox.queue }
    inbox_same = stands.inbox ∙ ap (λ (x : Node Q R). x.inbox) run.others

    inbox_granted : MirrorsInbox sh.entries k'.inbox q.client
    inbox_granted = subst (λ (i : Inbox Q). MirrorsInbox sh.entries i q.client) (sym inbox_same) (record {
      queue = run.queue ∙ (ap (behind_due (due_of p.client)) m.inbox.queue ∙ behind_is (due_of p.client) p.client.queue (places_tell p w).queue.ordered);
      orphans = m.inbox.orphans;
      receipts = receipts_frame n.inbox.receipts p.client q.client (same_receipts (due_of p.client) (due_in (due_of p.client) p.client.queue) p.client.journal) refl m.inbox.receipts;
      settled = All-filter (λ (e : Entry). nat_lt (due_of p.client) e.message.time) (λ (e : Entry). e.message.time < n.inbox.settled → e.buffer ≡ None) p.client.queue m.inbox.settled;
      settled_to = m.inbox.settled_to;
    })

    journal_granted : k'.journal.entries ≡ entries_of q.client
    journal_granted =
        let due : k.due.items ≡ due_in (due_of p.client) p.client.queue = run.due ∙ (ap (front_due (due_of p.client)) m.inbox.queue ∙ front_is (due_of p.client) p.client.queue (places_tell p w).queue.ordered) in
        stands.journal
        ∙ ((λ i. (run.journal ∙ m.journal) i ++ block_entries (due_of p.client) (due i))
        ∙ (sym (append_assoc (entries_of p.client) (map (Delivered (due_of p.client)) (due_in (due_of p.client) p.client.queue)) (Granted (due_of p.client) ∷ []))
        ∙ sym (entries_are p may.started may.posted may.early may.below may.loose w.0 w.1 (without_agreement p w.0 w.1 w.2))))

    pub mirrors_after_grant : Mirrors sh k' q
    mirrors_after_grant = record {
      me = stands.me ∙ (ap (λ (x : Node Q R). x.me) run.others ∙ m.me);
      journal = journal_granted;
      course = course_granted;
      outbox = outbox_granted;
      inbox = inbox_granted;
      rounds = subst (λ (r : Rounds R). MirrorsRounds sh r q) (sym (stands.rounds ∙ ap (λ (x : Node Q R). x.rounds) run.others)) (rounds_granted sh n.rounds p m.rounds);
      due = stands.due;
      arrivals = ap (λ (i : Inbox Q). i.arrivals.items) inbox_same ∙ m.arrivals;
      calm = record { in_hand = m.calm.in_hand; spent = m.calm.spent; sending = m.calm.sending };
    }
