-- That a node's fields show what its seat's view says, between the parts of a turn. One record for each part of the node.
use Rattle.std.specs.Prelude.{◌≡◌, ℕ, ◌+◌, ◌^◌, ◌<◌, ◌≤◌, ◌==◌, Bool, true, false, List, [], length, map, drop, count_by, All, Option, Some, None}
use Rattle.kit_base.specs.declared.message.Message.{Message}
use Rattle.kit_model.specs.Counts.{old_count}
use Rattle.kit_model.specs.declared.journal.Journal.{Journal}
use Rattle.kit_queue.specs.declared.entry.Entry.{Entry}
use Rattle.kit_ground.specs.declared.place.Place.{Place}
use Rattle.kit_rounds.specs.Ledgers.{Copy, colours, last_run}
use Rattle.kit_rounds.specs.Rounds.{run_after}
use Rattle.kit_lbts.specs.declared.view.Filled.{Filled}
use Rattle.kit_lbts.specs.declared.view.LbtsView.{LbtsView}
use Rattle.kit_lbts.specs.declared.view.Orphan as the_orphan
use Rattle.kit_lbts.specs.declared.view.Scheme.{Scheme}
use Rattle.kit_lbts.specs.Promises.{bound_of, copy_posted, copy_received, least_post, result_at}
use Rattle.kit_lbts.specs.PublishLaws.{ShowsLast}
use Rattle.kit_lbts.specs.Views.{entries_of, receipts, time_of}
use Rattle.kit_fly.specs.Rounds.{FollowsRound, RoundState, SlotsShowRound, all_registers}
use Rattle.kit_node.specs.declared.course.Course.{Course}
use Rattle.kit_node.specs.declared.inbox.Inbox.{Inbox}
use Rattle.kit_node.specs.declared.inbox.Orphan.{Orphan}
use Rattle.kit_node.specs.declared.node.Node.{Node}
use Rattle.kit_node.specs.declared.outbox.Outbox.{Outbox}
use Rattle.kit_node.specs.declared.posts.Posts.{Posts}
use Rattle.kit_node.specs.declared.receipts.Receipts.{Receipts}
use Rattle.kit_node.specs.declared.rounds.Rounds.{Rounds}

abbrev pub Seat : Type 0
Seat = Place LbtsView

-- how contracts see what a node is made of: the entries of a queue, and what a reduction of this scheme keeps
pub record Shown (Q R : Type 0) : Type 0 where
  pub entries : Q → List Entry
  pub scheme : Scheme
  pub state : R → RoundState

abbrev pub shows : {Q R : Type 0} → (Q → List Entry) → Scheme → (R → RoundState) → Shown Q R
shows entries scheme state = record { entries = entries; scheme = scheme; state = state }

-- THE COURSE: state, logical time and request
pub record MirrorsCourse (c : Course) (v : LbtsView) : Type 0 where
  pub state : c.state ≡ v.state
  pub now : c.now ≡ time_of v
  pub request : c.request ≡ v.request

-- THE COUNTS of the copies posted, by the federate's colour, and the least time of those of its own
abbrev pub colour_of : LbtsView → ℕ
colour_of v = last_run v.contributions

abbrev pub is_colour : ℕ → ℕ → Bool
is_colour colour c = c == colour

abbrev pub copies_posted : LbtsView → List Copy
copies_posted v = map copy_posted v.posted

abbrev pub copies_received : LbtsView → List Copy
copies_received v = map copy_received (receipts v)

pub record MirrorsPosts (posts : Posts) (v : LbtsView) : Type 0 where
  pub older : posts.older ≡ old_count (colour_of v) (colours (copies_posted v))
  pub own : posts.own ≡ count_by (is_colour (colour_of v)) (colours (copies_posted v))
  pub all_counted : posts.older + posts.own ≡ length v.posted
  pub least : posts.least ≡ least_post (colour_of v) (copies_posted v)

-- and of those received
pub record MirrorsReceipts (r : Receipts) (v : LbtsView) : Type 0 where
  pub older : r.older ≡ old_count (colour_of v) (colours (copies_received v))
  pub own : r.own ≡ count_by (is_colour (colour_of v)) (colours (copies_received v))
  pub next : r.next ≡ count_by (is_colour (colour_of v + 1)) (colours (copies_received v))
  pub all_counted : r.older + r.own + r.next ≡ length (receipts v)

-- THE OUTBOX: what is to be posted, and the times of what was put in the buffers
abbrev pub time_put : Option Filled → ℕ
time_put None = 0
time_put (Some f) = f.message.time

pub record MirrorsOutbox (o : Outbox) (v : LbtsView) : Type 0 where
  pub done : o.done ≤ length o.messages.items
  pub messages : drop o.done o.messages.items ≡ v.outbox
  pub emptied : v.outbox ≡ [] → o.messages.items ≡ []
  pub put : o.put.items ≡ map time_put v.filled
  pub posts : MirrorsPosts o.posts v

-- an orphan of a node, as the view has it
abbrev pub orphan_seen : Orphan → the_orphan.Orphan
orphan_seen o = record { from = o.sender; number = o.number }

-- THE INBOX: what is to be delivered, with `entries` the entries of a queue
pub record MirrorsInbox {Q : Type 0} (entries : Q → List Entry) (i : Inbox Q) (v : LbtsView) : Type 0 where
  pub queue : entries i.queue ≡ v.queue
  pub orphans : map orphan_seen i.orphans.items ≡ v.orphans
  pub receipts : MirrorsReceipts i.receipts v
  -- what is timed below this has no buffer, and it is a bound that was known
  pub settled : All (λ (e : Entry). e.message.time < i.settled → e.buffer ≡ None) v.queue
  pub settled_to : i.settled ≤ bound_of v

-- what a receipt changes of a node: its inbox and its journal
pub record MirrorsMail {Q : Type 0} (entries : Q → List Entry) (i : Inbox Q) (j : Journal) (v : LbtsView) : Type 0 where
  pub inbox : MirrorsInbox entries i v
  pub journal : j.entries ≡ entries_of v

-- THE ROUNDS. A reduction has its round under way: registers are still to be taken in, and what is published from the others is shown
pub record HasUnderWay (scheme : Scheme) (k : RoundState) (p : Seat) : Type 0 where
  pub follows : FollowsRound scheme k p
  pub shown : SlotsShowRound scheme k p
  pub more : k.taken < all_registers scheme k

pub record MirrorsRounds {Q R : Type 0} (sh : Shown Q R) (r : Rounds R) (p : Seat) : Type 0 where
  pub federates : p.own.federates ≡ (sh.state r.reduction).federates
  pub number : p.own.number ≡ (sh.state r.reduction).number
  pub scheme : p.client.scheme ≡ sh.scheme
  pub taken : r.taken ≡ length p.client.contributions
  pub limited : r.taken ≤ r.limit
  pub small : r.limit < 2 ^ 40
  -- the run of the round that is under way, or else of the next
  pub run : r.run ≡ run_after (result_at p.client) (length p.client.results)
  pub colour : r.colour ≡ colour_of p.client
  pub bound : r.bound ≡ bound_of p.client
  pub under_way : r.under_way ≡ true → HasUnderWay sh.scheme (sh.state r.reduction) p
  pub closed : r.under_way ≡ false → (length p.client.contributions ≡ length p.client.results) × ShowsLast p

-- no copy was collected and not received, no buffer is still to be given back, and none is half posted
pub record IsCalm (v : LbtsView) : Type 0 where
  pub in_hand : v.in_hand ≡ []
  pub spent : v.spent ≡ []
  pub sending : v.sending ≡ None

-- THE NODE
pub record Mirrors {Q R : Type 0} (sh : Shown Q R) (n : Node Q R) (p : Seat) : Type 0 where
  pub me : n.me ≡ p.own.number
  pub journal : n.journal.entries ≡ entries_of p.client
  pub course : MirrorsCourse n.course p.client
  pub outbox : MirrorsOutbox n.outbox p.client
  pub inbox : MirrorsInbox sh.entries n.inbox p.client
  pub rounds : MirrorsRounds sh n.rounds p
  pub due : n.due.items ≡ []
  pub arrivals : n.inbox.arrivals.items ≡ []
  pub calm : IsCalm p.client

-- of a node that ended badly only this is told
pub record IsReportOf {Q R : Type 0} (n : Node Q R) (p : Seat) : Type 0 where
  pub me : n.me ≡ p.own.number
  pub journal : n.journal.entries ≡ entries_of p.client
  pub now : n.course.now ≡ time_of p.client
  pub bound : n.rounds.bound ≡ bound_of p.client
  pub taken : n.rounds.taken ≡ length p.client.contributions
