-- What a turn comes to, by what its parts came to after the look at the stop word.
use Rattle.std.proofs.Common.{◌≡◌, ◌≢◌, ℕ, ◌+◌, ◌-◌, ◌<◌, ◌≤◌, ◌==◌, ◌&&◌, ◌⊎◌, inl, inr, not, Bool, true, false, List, [], ◌∷◌, length, refl, sym, ap, ◌∙◌, subst, arith}
use Rattle.std.specs.Prelude.{All, IfSome, Option, Some, None, count_by, slice_index, unwrap_or}
use Rattle.std.specs.Int.{bit_at}
use Rattle.std.specs.List.{Contains, list_any}
use Rattle.std.proofs.lemmas.Bool.{and_parts, eqb-false, eqb-true}
use Rattle.std.proofs.lemmas.List.Elements.{All-head}
use Rattle.kit_base.specs.declared.message.Message.{Message}
use Rattle.kit_ground.specs.declared.place.Deed.TheVariants.{SawStop}
use Rattle.kit_ground.specs.declared.place.Glance.{Glance}
use Rattle.kit_ground.specs.declared.place.Place.{Place}
use Rattle.kit_ground.specs.Steps.{place_after}
use Rattle.kit_model.specs.Journals.{last_grant}
use Rattle.kit_parts.specs.Queues.{queue_of}
use Rattle.kit_parts.proofs.Queueing.{queue_is_received_law}
use Rattle.kit_queue.specs.declared.entry.Entry.{Entry}
use Rattle.kit_queue.specs.Entries.{messages_of}
use Rattle.kit_rules.specs.Delivery.{has_bit, is_pending, is_same, is_transported, receivers_of, retracts}
use Rattle.kit_rules.specs.Parts.{Parts}
use Rattle.kit_rules.specs.Step.{is_event}
use Rattle.kit_lbts.specs.declared.view.LbtsView.{LbtsView}
use Rattle.kit_lbts.specs.Progress.{is_under_way, view_after}
use Rattle.kit_lbts.specs.Promises.{added_of, bound_of}
use Rattle.kit_lbts.specs.PublishLaws.{ShowsLast}
use Rattle.kit_lbts.specs.SeatLaws.{IsInWorld}
use Rattle.kit_lbts.specs.Seats.{waits_in}
use Rattle.kit_lbts.specs.Views.{messages_delivered, entries_of, messages_received, time_of}
use Rattle.kit_lbts.proofs.Dues.{adds}
use Rattle.kit_lbts.proofs.GrantAgreement.{without_agreement}
use Rattle.kit_lbts.proofs.SeatFacts.{places_tell}
use Rattle.kit_lbts.proofs.Worlds.{ended_are_complete}
use Rattle.kit_node.specs.declared.ends.NodeEnd.{NodeEnd}
use Rattle.kit_node.specs.declared.ends.NodeEnd.TheVariants as node_end
use Rattle.kit_node.specs.declared.ends.Turn.{Turn}
use Rattle.kit_node.specs.declared.ends.Turn.TheVariants as turn
use Rattle.kit_node.specs.declared.node.Node.{Node}
use Rattle.kit_node.specs.Ends.{closing_answer, end_by}
use Rattle.kit_node.specs.Frames.{IsSameSeat}
use Rattle.kit_node.specs.Mirrors.{Mirrors, Shown}
use Rattle.kit_node.specs.Nodes.{SameBesidesTurns}
use Rattle.kit_node.specs.Seats.{HasEndedBadly, HasFinished, IsBelowEnd, IsNodeOf, IsSeatOf, IsWithinEnd}
use Rattle.kit_node.specs.Turns.{Answers, HasEndedBy, HasGoneThrough, HasSeenNoStop, HasTurned, HasWorked, IsIdle, Progress, SameNode, TurnIs}
use Rattle.kit_node.proofs.MirrorFrames.{rounds_frame}
use Rattle.kit_rules.proofs.ReceiverMasks.{transported_early}
use Rattle.kit_node.proofs.Reductions.{some_under_way}
use Rattle.kit_node.proofs.Working.{holds_entries}

abbrev P : Type 0
P = Place LbtsView

-- THE LOOK at the stop word leaves all but its glance
abbrev pub looked_place : Bool → P → P
looked_place set p = place_after view_after (SawStop set) p

pub mirrors_looked : {Q R : Type 0} (sh : Shown Q R) (n : Node Q R) (set : Bool) (p : P) → Mirrors sh n p → Mirrors sh n (looked_place set p)
mirrors_looked sh n set p m = record {
  me = m.me;
  journal = m.journal;
  course = m.course;
  outbox = m.outbox;
  inbox = m.inbox;
  rounds = rounds_frame sh n.rounds p (looked_place set p) (record { number = refl; federates = refl; shown = refl; scheme = refl; contributions = refl; taken = refl; results = refl }) m.rounds;
  due = m.due;
  arrivals = m.arrivals;
  calm = m.calm;
}

pub seat_looked : (set : Bool) (p q : P) → IsSameSeat (looked_place set p) q → IsSameSeat p q × (p.own.steps < q.own.steps)
seat_looked set p q s = (
  record { number = s.number; federates = s.federates; buffers = s.buffers; steps = let l = s.steps in omega (arith, l); stops = s.stops },
  let l = s.steps in omega (arith, l),
)

pub unset_looked : (p q : P) → q.own.stop ≡ (looked_place false p).own.stop → HasSeenNoStop p q
unset_looked p q e = record { step = ap (λ (x : Glance Bool). x.step) e; gave = ap (λ (x : Glance Bool). x.gave) e }

pub through_looked : (p q : P) → HasGoneThrough (looked_place false p) q → HasGoneThrough p q
through_looked p q h = record {
  start = h.start;
  mail = λ i other word lt. let c = h.mail i other word lt in (c.0, let s = c.1 in omega (arith, s));
  received = h.received;
  sends = record {
    count = h.sends.count;
    posted = h.sends.posted;
    others = elim h.sends.others [
      | inl e ↦ inl e
      | inr s ↦ inr (record { some = s.some; left = s.left; full = λ k lt. let f = s.full k lt in (let t = f.0 in omega (arith, t), f.1); hope = s.hope })
    ];
  };
  rounds = h.rounds;
  looks = λ on. let a = h.looks on in record { more = a.more; since = let s = a.since in omega (arith, s); unshown = a.unshown };
  slots = h.slots;
  settled = h.settled;
  held = h.held;
  grants = h.grants;
}

pub idle_looked : (p q : P) → IsIdle (looked_place false p) q → IsIdle p q
idle_looked p q h = record { started = h.started; mail = h.mail; posts = h.posts; contributions = h.contributions; taken = h.taken; results = h.results; releases = h.releases; grants = h.grants }

pub idle_at_look : (p q : P) → IsIdle p q → IsIdle (looked_place false p) q
idle_at_look p q h = record { started = h.started; mail = h.mail; posts = h.posts; contributions = h.contributions; taken = h.taken; results = h.results; releases = h.releases; grants = h.grants }

-- THE END
module _ (q : P) (w : IsInWorld q) (ended : time_of q.client ≡ q.client.federation.end) where
  -- nothing waits to be posted, since all that does would be timed after the end
  none_waits : q.client.outbox ≡ []
  none_waits = by q.client.outbox (places_tell q w).sends.late (places_tell q w).sends.transported
    where
      by : (ms : List Message) → All (λ (m : Message). time_of q.client + added_of q ≤ m.time) ms → All (λ (m : Message). is_transported q.client.federation m ≡ true) ms → ms ≡ []
      by [] late there = refl
      by (m ∷ ms) late there =
          let after = All-head (λ (x : Message). time_of q.client + added_of q ≤ x.time) m ms late in
          let early = transported_early q.client.federation m (All-head (λ (x : Message). is_transported q.client.federation x ≡ true) m ms there) in
          let some_ = adds q w.0 w.1 (without_agreement q w.0 w.1 w.2) in
          let e = ended in
          absurd (omega (arith, after, early, some_, e))

  -- nor to be delivered
  none_pending : q.client.queue ≡ []
  none_pending = by q.client.queue refl (places_tell q w).queue.ahead
    where
      by : (es : List Entry) → q.client.queue ≡ es → All (λ (e : Entry). time_of q.client < e.message.time) es → es ≡ []
      by [] is ahead = refl
      by (e ∷ es) is ahead =
          let f = q.client.federation in
          let j = q.own.number in
          let got = messages_delivered q.client in
          let came = messages_received q.client in
          let m : Message = e.message in
          let has : Contains (queue_of f j got came) m = subst (λ (l : List Message). Contains l m) (ap messages_of (sym is) ∙ (places_tell q w).queue.is) (0, omega arith, refl) in
          let pending = (queue_is_received_law f j got came m has).1 in
          let a = and_parts (is_event m.kind && is_transported f m && has_bit (receivers_of f m.sender m.group) j && not (list_any (is_same m) got)) (not (list_any (retracts m) came)) pending in
          let b = and_parts (is_event m.kind && is_transported f m && has_bit (receivers_of f m.sender m.group) j) (not (list_any (is_same m) got)) a.0 in
          let c = and_parts (is_event m.kind && is_transported f m) (has_bit (receivers_of f m.sender m.group) j) b.0 in
          let d = and_parts (is_event m.kind) (is_transported f m) c.0 in
          let early = transported_early f m d.1 in
          let after = All-head (λ (x : Entry). time_of q.client < x.message.time) e es ahead in
          let t = ended in
          absurd (omega (arith, early, after, t))

  past_end : q.client.federation.end < bound_of q.client
  past_end = by (last_grant (entries_of q.client)) ended (places_tell q w).granting.below
    where
      by : (o : Option ℕ) → unwrap_or o 0 ≡ q.client.federation.end → IfSome o (λ t. t < bound_of q.client) → q.client.federation.end < bound_of q.client
      by None e below = let one = (places_tell q w).federation.end.0 in absurd (omega (arith, one, e))
      by (Some t) e below = omega (arith, e, below)

  module _ {Q R : Type 0} (sh : Shown Q R) (n : Node Q R) (m : Mirrors sh n q) (within : IsWithinEnd q.client) where
    level : (length q.client.contributions ≡ length q.client.results) × ShowsLast q
    level = by n.rounds.under_way refl
      where
        by : (b : Bool) → n.rounds.under_way ≡ b → (length q.client.contributions ≡ length q.client.results) × ShowsLast q
        by false off = m.rounds.closed off
        by true on =
            let u = m.rounds.under_way on in
            let f = u.follows in
            let short : length q.client.results ≡ length q.client.contributions - 1 = (let s = (f.under_way u.more).results in let r = f.round in omega (arith, s, r)) in
            let some_ : 0 < length q.client.contributions = (let s = f.started in let r = f.round in omega (arith, s, r)) in
            let low = within (some_under_way q.client short some_) in
            let past = past_end in
            absurd (omega (arith, low, past))

    pub has_finished : q.client.request ≢ None → HasFinished q
    has_finished asked = record {
      started = asked;
      granted = ended;
      complete = ended_are_complete w.0 w.1 w.2.client q.own.number q w.2.here (let e = ended in omega (arith, e));
      sent = none_waits;
      free = λ i k li lk. holds_entries q w m.calm i k li lk ∙ ap (count_by (waits_in i k)) none_pending;
      closed = level.0;
      shows = level.1;
    }

-- below the end, where it is not the end
pub early_turn : (q : P) → IsInWorld q → time_of q.client ≢ q.client.federation.end → IsBelowEnd q.client
early_turn q w other = lower (time_of q.client) q.client.federation.end (places_tell q w).granting.within other
  where
    lower : (a b : ℕ) → a ≤ b → a ≢ b → a < b
    lower a b le ne = grind (arith, le, ne)

-- WITH ITS END the node mirrors its seat as before
mirrors_ended : {Q R : Type 0} (sh : Shown Q R) (n : Node Q R) (e : Option NodeEnd) (q : P) → Mirrors sh n q → Mirrors sh (record n { ended = e }) q
mirrors_ended sh n e q m = record { me = m.me; journal = m.journal; course = m.course; outbox = m.outbox; inbox = m.inbox; rounds = m.rounds; due = m.due; arrivals = m.arrivals; calm = m.calm }

badly_ended : {Q R : Type 0} (n : Node Q R) (end : NodeEnd) (e : Option NodeEnd) (q : P) → HasEndedBadly end n q → HasEndedBadly end (record n { ended = e }) q
badly_ended n end e q h = let r = h.report in record { report = record { me = r.me; journal = r.journal; now = r.now; bound = r.bound; taken = r.taken }; calm = h.calm; early = h.early; cause = h.cause }

-- a turn that a part ended
pub ended_seat : {Q R : Type 0} (sh : Shown Q R) (f : Parts) (n n' : Node Q R) (end : NodeEnd) (p q : P) → IsInWorld q → q.client.federation ≡ f → HasEndedBy end n p q → n' ≡ record n { ended = Some end } → IsSeatOf sh f n' q
ended_seat sh f n n' end p q w federation h is = subst (λ (x : Node _ _). IsSeatOf sh f x q) (sym is) (record { world = w; federation_is = federation; node = by end h })
  where
    by : (e : NodeEnd) → HasEndedBy e n p q → IsNodeOf sh (Some e) (record n { ended = Some end }) q
    by node_end.Finished h = absurd h.looks
    by (node_end.NoBuffer number) h = badly_ended n (node_end.NoBuffer number) (Some end) q h.ended
    by node_end.SendsSpent h = badly_ended n node_end.SendsSpent (Some end) q h.ended
    by node_end.RoundsSpent h = badly_ended n node_end.RoundsSpent (Some end) q h.ended
    by node_end.NoMemory h = badly_ended n node_end.NoMemory (Some end) q h.ended

-- A TURN that went through all of its parts
module _ {Q R : Type 0} (sh : Shown Q R) (f : Parts) (n k : Node Q R) (p q : P) (busy : Bool) (w : IsInWorld q) (federation : q.client.federation ≡ f) (m : Mirrors sh k q) (same : SameNode n k)
    (worked : HasWorked busy (looked_place false p) q) where
  -- what is shown of the answer
  abbrev Closes : Turn → Node Q R → Type 0
  Closes a x = IsSeatOf sh f x q × HasTurned a n x p q

  end_is : f.end ≡ q.client.federation.end
  end_is = ap (λ (x : Parts). x.end) (sym federation)

  turned : (t : Turn) → Answers t n (record k { ended = end_by t }) p q → HasTurned t n (record k { ended = end_by t }) p q
  turned t cause =
      let s = seat_looked false p q worked.seat in
      record { cause = cause; ended = refl; seat = s.0; steps = s.1; rounds = worked.rounds; me = same.me; limit = same.limit }

  unset : HasSeenNoStop p q
  unset = unset_looked p q worked.stop

  parts : HasGoneThrough p q
  parts = through_looked p q worked.parts

  finished : (k.course.now == f.end) ≡ true → Closes turn.Finished (record k { ended = end_by turn.Finished })
  finished e =
      let time : time_of q.client ≡ q.client.federation.end = sym m.course.now ∙ (eqb-true k.course.now f.end e ∙ end_is) in (
        record { world = w; federation_is = federation; node = record { mirrors = mirrors_ended sh k (Some node_end.Finished) q m; cause = has_finished q w time sh k m worked.within worked.parts.start } },
        turned turn.Finished (record { unset = unset; looks = parts }),
      )

  module _ (other : (k.course.now == f.end) ≡ false) where
    early : IsBelowEnd q.client
    early = early_turn q w (λ e. eqb-false k.course.now f.end other (m.course.now ∙ (e ∙ sym end_is)))

    goes_on : IsSeatOf sh f (record k { ended = None }) q
    goes_on = record { world = w; federation_is = federation; node = record { mirrors = mirrors_ended sh k None q m; early = early; within = worked.within } }

    progress : Progress p q
    progress = record { parts = parts; unset = unset; early = early }

    worked_on : busy ≡ true → Closes turn.Worked (record k { ended = end_by turn.Worked })
    worked_on on = (goes_on, turned turn.Worked (progress, λ idle. worked.not_idle on (idle_at_look p q idle)))

    idled : busy ≡ false → Closes turn.Idle (record k { ended = end_by turn.Idle })
    idled off = (goes_on, turned turn.Idle (progress, idle_looked p q (worked.idle off)))

  pub closes : (answer : Turn) (n' : Node Q R) → answer ≡ closing_answer (k.course.now == f.end) busy → n' ≡ record k { ended = end_by answer } → Closes answer n'
  closes answer n' is new = subst (λ (x : Node Q R). Closes answer x) (sym new) (by (k.course.now == f.end) busy refl refl)
    where
      at : (t : Turn) → answer ≡ t → Closes t (record k { ended = end_by t }) → Closes answer (record k { ended = end_by answer })
      at t e c = subst (λ (x : Turn). Closes x (record k { ended = end_by x })) (sym e) c

      by : (b d : Bool) → (k.course.now == f.end) ≡ b → busy ≡ d → Closes answer (record k { ended = end_by answer })
      by true d e z = at turn.Finished (is ∙ ap (λ (x : Bool). closing_answer x busy) e) (finished e)
      by false true e z = at turn.Worked (is ∙ (λ i. closing_answer (e i) (z i))) (worked_on e z)
      by false false e z = at turn.Idle (is ∙ (λ i. closing_answer (e i) (z i))) (idled e z)

-- WITH ITS LIST OF TURNS the node is as before
module _ {Q R : Type 0} (sh : Shown Q R) (f : Parts) (n k n' : Node Q R) (p q : P) (others : SameBesidesTurns k n') where
  abbrev listed : Node Q R
  listed = record k { turns = n'.turns }

  mirrors_listed : Mirrors sh k q → Mirrors sh listed q
  mirrors_listed m = record { me = m.me; journal = m.journal; course = m.course; outbox = m.outbox; inbox = m.inbox; rounds = m.rounds; due = m.due; arrivals = m.arrivals; calm = m.calm }

  badly_listed : (end : NodeEnd) → HasEndedBadly end k q → HasEndedBadly end listed q
  badly_listed end h = let r = h.report in record { report = record { me = r.me; journal = r.journal; now = r.now; bound = r.bound; taken = r.taken }; calm = h.calm; early = h.early; cause = h.cause }

  node_listed : (e : Option NodeEnd) → IsNodeOf sh e k q → IsNodeOf sh e listed q
  node_listed None h = record { mirrors = mirrors_listed h.mirrors; early = h.early; within = h.within }
  node_listed (Some node_end.Finished) h = record { mirrors = mirrors_listed h.mirrors; cause = h.cause }
  node_listed (Some (node_end.NoBuffer number)) h = badly_listed (node_end.NoBuffer number) h
  node_listed (Some node_end.SendsSpent) h = badly_listed node_end.SendsSpent h
  node_listed (Some node_end.RoundsSpent) h = badly_listed node_end.RoundsSpent h
  node_listed (Some node_end.NoMemory) h = badly_listed node_end.NoMemory h

  pub seat_listed : IsSeatOf sh f k q → IsSeatOf sh f n' q
  seat_listed h = subst (λ (x : Node Q R). IsSeatOf sh f x q) (sym others.others) (record { world = h.world; federation_is = h.federation_is; node = node_listed k.ended h.node })

  same_listed : SameBesidesTurns n k → SameBesidesTurns n listed
  same_listed s = record { others = λ i. record (s.others i) { turns = n'.turns } }

  answers_listed : (t : Turn) → Answers t n k p q → Answers t n listed p q
  answers_listed turn.Worked h = h
  answers_listed turn.Idle h = h
  answers_listed turn.Stopped h = record { place = h.place; node = same_listed h.node }
  answers_listed turn.Finished h = h
  answers_listed (turn.NoBuffer number) h = h
  answers_listed turn.SendsSpent h = h
  answers_listed turn.RoundsSpent h = h
  answers_listed turn.NoMemory h = h

  turn_there : (e : Option NodeEnd) (t : Turn) → TurnIs e t n k p q → TurnIs e t n listed p q
  turn_there None t h = record { cause = answers_listed t h.cause; ended = h.ended; seat = h.seat; steps = h.steps; rounds = h.rounds; me = h.me; limit = h.limit }
  turn_there (Some end) t h = record { answer_is = h.answer_is; node = same_listed h.node; place = h.place }

  pub turn_listed : (e : Option NodeEnd) (t : Turn) → TurnIs e t n k p q → TurnIs e t n n' p q
  turn_listed e t h = subst (λ (x : Node Q R). TurnIs e t n x p q) (sym others.others) (turn_there e t h)
