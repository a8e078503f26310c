-- The part in the rounds: what a node contributes, and what its part of a turn comes to.
use Rattle.std.specs.Prelude.{◌≡◌, ◌≢◌, ℕ, ◌+◌, ◌<◌, ◌≤◌, ◌⊎◌, ◌==◌, Bool, true, false, not, if◌then◌else◌, List, length, take, slice_index, slice_index_or, Option, Some, None, is_none, [], ◌∷◌, ◌++◌, ◌-◌}
use Rattle.kit_model.specs.declared.share.Share.{Share}
use Rattle.kit_model.specs.Shares.{Shows}
use Rattle.kit_ground.specs.declared.address.Reg.{Reg}
use Rattle.kit_ground.specs.declared.place.Place.{Place}
use Rattle.kit_queue.specs.declared.entry.Entry.{Entry}
use Rattle.kit_queue.specs.Entries.{first_time}
use Rattle.kit_rules.specs.declared.table.Request.{Request}
use Rattle.kit_rules.specs.Parts.{Parts, effective_lookahead}
use Rattle.kit_lbts.specs.declared.view.LbtsView.{LbtsView}
use Rattle.kit_lbts.specs.LedgerLaws.{ready_place}
use Rattle.kit_lbts.specs.Progress.{is_under_way}
use Rattle.kit_lbts.specs.Promises.{bound_of, least_with, promise_by}
use Rattle.kit_lbts.specs.PublishLaws.{ShowsLast}
use Rattle.kit_lbts.specs.Reduction.{shares_needed, publishes, reg_of, source, sources}
use Rattle.kit_lbts.specs.Views.{is_empty}
use Rattle.kit_fly.specs.Rounds.{FollowsRound, LeavesSeat, SlotsShowRound}
use Rattle.kit_fly.specs.Starts.{LooksNowhere, view_started}
use Rattle.kit_node.specs.declared.node.Node.{Node}
use Rattle.kit_rules.specs.Delivery.{request_due}
use Rattle.kit_node.specs.Fields.{closed_with, posts_turned, receipts_turned, waiting_in}
use Rattle.kit_node.specs.Frames.{IsSince, last_look}
use Rattle.kit_node.specs.Mirrors.{HasUnderWay, Shown}

abbrev Seat : Type 0
Seat = Place LbtsView

-- with the contribution to the first round of a run the federate takes the run's colour
abbrev pub coloured : {Q R : Type 0} → Node Q R → Node Q R
coloured n = if n.rounds.colour == n.rounds.run then n else record n {
  rounds = record n.rounds { colour = n.rounds.run };
  outbox = record n.outbox { posts = posts_turned n.outbox.posts };
  inbox = record n.inbox { receipts = receipts_turned n.inbox.receipts };
}

-- THE SHARE of a node, with `entries` those of a queue
abbrev pub due_at : Option Request → List Entry → ℕ
due_at None es = 0
due_at (Some r) es = request_due r (first_time es)

abbrev pub promise_of_node : {Q R : Type 0} → (Q → List Entry) → Parts → Node Q R → ℕ
promise_of_node entries f n =
    promise_by f.end (effective_lookahead f n.me) n.course.now (due_at n.course.request (entries n.inbox.queue))
    (if is_none n.course.request then true else not (is_empty (waiting_in n.outbox)))

abbrev pub share_of_node : {Q R : Type 0} → (Q → List Entry) → Parts → Node Q R → Share
share_of_node entries f n = record { out = n.outbox.posts.older; inn = n.inbox.receipts.older; low = least_with (promise_of_node entries f n) n.outbox.posts.least }

-- it stands and its request is due by the end, and its outbox is in order
pub record CanPromise {Q R : Type 0} (entries : Q → List Entry) (f : Parts) (n : Node Q R) : Type 0 where
  pub now : n.course.now ≤ f.end
  pub due : due_at n.course.request (entries n.inbox.queue) ≤ f.end
  pub done : n.outbox.done ≤ length n.outbox.messages.items

-- OPENING a round, where none was under way and another may be opened: the share was contributed, and the reduction has it under way
pub record HasOpened {Q R : Type 0} (sh : Shown Q R) (n n' : Node Q R) (p q : Seat) : Type 0 where
  pub closed : n.rounds.under_way ≡ false
  pub room : n.rounds.taken < n.rounds.limit
  pub within : bound_of p.client ≤ p.client.federation.end
  pub leaves : LeavesSeat p q
  pub looks : LooksNowhere p q
  pub view : q.client ≡ view_started p
  pub follows : FollowsRound sh.scheme (sh.state n'.rounds.reduction) q
  pub shown : SlotsShowRound sh.scheme (sh.state n'.rounds.reduction) q
  pub node : n' ≡ record (coloured n) { rounds = record (coloured n).rounds { reduction = n'.rounds.reduction; taken = n.rounds.taken + 1; under_way = true } }

-- where none was opened: one is under way, or the bound is beyond the end
abbrev pub IsPastOpening : {Q R : Type 0} → Node Q R → ℕ → Type 0
IsPastOpening n end = (n.rounds.under_way ≡ true) ⊎ (end < n.rounds.bound)

-- the limit of rounds was reached where another would be opened
pub record HasSpentRounds (limit : ℕ) (p : Seat) : Type 0 where
  pub all : length p.client.contributions ≡ limit
  pub closed : length p.client.results ≡ limit
  pub within : bound_of p.client ≤ p.client.federation.end

-- THE NEXT REGISTER of the round that is under way was looked at since p, and did not show the round
abbrev pub next_register : Seat → Reg
next_register q =
    let s = slice_index_or (sources q.client.scheme q.own.federates q.own.number) (length q.client.taken) (source 0 0) in
    reg_of s.owner s.stage (length q.client.contributions)

pub record IsAwaited (p q : Seat) : Type 0 where
  pub more : length q.client.taken < length (sources q.client.scheme q.own.federates q.own.number)
  pub since : IsSince p (last_look q (next_register q))
  pub unshown : ¬ Shows (last_look q (next_register q)).gave (length q.client.contributions)

-- POLLING. The round goes on: the next register did not show it
pub record IsStillOpen {Q R : Type 0} (sh : Shown Q R) (found : Bool) (n n' : Node Q R) (p q : Seat) : Type 0 where
  pub under_way : HasUnderWay sh.scheme (sh.state n'.rounds.reduction) q
  pub awaited : IsAwaited p q
  pub results : q.client.results ≡ p.client.results
  pub none : found ≡ false → q.client ≡ p.client
  pub some : found ≡ true → length p.client.taken < length q.client.taken
  pub node : n' ≡ record n { rounds = record n.rounds { reduction = n'.rounds.reduction } }

-- or it was closed with this result
pub record IsClosed {Q R : Type 0} (sh : Shown Q R) (found : Bool) (n n' : Node Q R) (p q : Seat) : Type 0 where
  pub sum : Share
  pub none : found ≡ false → q.client ≡ p.client
  pub level : length q.client.contributions ≡ length q.client.results
  pub shows : ShowsLast q
  pub results : q.client.results ≡ take (length q.client.contributions - 1) p.client.results ++ sum ∷ []
  pub node : n' ≡ record n { rounds = record (closed_with sum n.rounds) { reduction = n'.rounds.reduction } }

pub record HasPolled {Q R : Type 0} (sh : Shown Q R) (found : Bool) (n n' : Node Q R) (p q : Seat) : Type 0 where
  pub leaves : LeavesSeat p q
  pub federates : (sh.state n'.rounds.reduction).federates ≡ (sh.state n.rounds.reduction).federates
  pub number : (sh.state n'.rounds.reduction).number ≡ (sh.state n.rounds.reduction).number
  pub view : q.client ≡ record p.client { taken = q.client.taken; results = q.client.results }
  pub contributions : q.client.contributions ≡ p.client.contributions
  pub answer : IsStillOpen sh found n n' p q ⊎ IsClosed sh found n n' p q

-- SLOTS. How many registers were taken in since the last contribution: all of them, once its round was closed
abbrev pub rounds_reached : Seat → ℕ
rounds_reached q = if is_under_way q.client then length q.client.taken else length (sources q.client.scheme q.own.federates q.own.number)

-- each own slot of the parity of the last contribution's round that is published from these shows that round
abbrev pub ShowsReached : Seat → Type 0
ShowsReached q = (stage : ℕ) → stage < 6 → publishes q.client.scheme q.own.federates q.own.number stage ≡ true
    → shares_needed q.client.scheme q.own.federates q.own.number stage ≤ rounds_reached q
    → let round = length q.client.contributions in
    0 < round → Shows (slice_index q.own.shown (reg_of q.own.number stage round).slot) round

-- WHAT THE PART COMES TO, and whether it did anything: a contribution, or a register that showed the round
pub record HasLearnt (p q : Seat) : Type 0 where
  pub more : (length p.client.contributions < length q.client.contributions) ⊎ (length p.client.results < length q.client.results) ⊎ (length p.client.taken < length q.client.taken)

pub record HasReduced (did : Bool) (p q : Seat) : Type 0 where
  pub leaves : LeavesSeat p q
  pub started : q.client.request ≢ None
  pub view : (q.client ≡ p.client) ⊎ (q.client ≡ record (ready_place p).client { contributions = q.client.contributions; taken = q.client.taken; results = q.client.results })
  pub one : length q.client.contributions ≤ length p.client.contributions + 1
  pub kept : take (length p.client.results) q.client.results ≡ p.client.results
  -- a round is under way, or was closed now, or the bound is beyond the end
  pub rounds : (is_under_way q.client ≡ true) ⊎ (length p.client.results < length q.client.results) ⊎ (q.client.federation.end < bound_of q.client)
  pub looks : is_under_way q.client ≡ true → IsAwaited p q
  -- one that is under way was so before, or the bound is not beyond the end
  pub within : is_under_way q.client ≡ true → (bound_of q.client ≡ bound_of p.client) × ((is_under_way p.client ≡ true) ⊎ (bound_of p.client ≤ p.client.federation.end))
  pub shown : ShowsReached q
  pub nothing : did ≡ false → q.client ≡ p.client
  pub something : did ≡ true → HasLearnt p q
