-- Grants: what is delivered from the front of a queue, what its rules make of a node, and what the part comes to.
use Rattle.std.specs.Prelude.{◌≡◌, ◌≢◌, ℕ, ◌<◌, nat_le, ◌⊎◌, Bool, true, false, if◌then◌else◌, List, [], ◌∷◌, ◌++◌, length, map, drop, filter, None, Some}
use Rattle.kit_base.specs.declared.message.Message.{Message}
use Rattle.kit_ground.specs.declared.place.Deed.TheVariants.{Published}
use Rattle.kit_ground.specs.declared.place.Place.{Place}
use Rattle.kit_ground.specs.Steps.{place_after}
use Rattle.kit_model.specs.declared.journal.JournalEntry.{JournalEntry}
use Rattle.kit_model.specs.declared.journal.JournalEntry.TheVariants.{Delivered, Granted}
use Rattle.kit_queue.specs.declared.entry.Entry.{Entry}
use Rattle.kit_queue.specs.Entries.{first_time}
use Rattle.kit_rules.specs.declared.scene.State.{State}
use Rattle.kit_rules.specs.declared.table.Request.{Request}
use Rattle.kit_rules.specs.Delivery.{is_transported}
use Rattle.kit_rules.specs.Parts.{Parts}
use Rattle.kit_rules.specs.Simulation.{after_block}
use Rattle.kit_lbts.specs.declared.view.LbtsView.{LbtsView}
use Rattle.kit_lbts.specs.AgreementLaws.{MayBeGranted}
use Rattle.kit_lbts.specs.Progress.{view_after_grant, view_after, view_after_start}
use Rattle.kit_lbts.specs.Promises.{bound_of}
use Rattle.kit_ground.specs.Layout.{clock_of}
use Rattle.kit_lbts.specs.Seats.{most_sends}
use Rattle.kit_lbts.specs.Views.{due_of}
use Rattle.kit_node.specs.declared.ends.NodeEnd.{NodeEnd}
use Rattle.kit_node.specs.declared.ends.NodeEnd.TheVariants as node_end
use Rattle.kit_node.specs.declared.node.Node.{Node}
use Rattle.kit_rules.specs.Delivery.{request_due}
use Rattle.kit_node.specs.Fields.{waiting_in}

abbrev Seat : Type 0
Seat = Place LbtsView

-- the messages at the front that are timed d or less
abbrev pub front_due : ℕ → List Entry → List Message
front_due d [] = []
front_due d (e ∷ es) = if nat_le e.message.time d then e.message ∷ front_due d es else []

-- the entries behind them
abbrev pub behind_due : ℕ → List Entry → List Entry
behind_due d [] = []
behind_due d (e ∷ es) = if nat_le e.message.time d then behind_due d es else e ∷ es

-- what a grant of d enters in a journal, with what it delivers
abbrev pub block_entries : ℕ → List Message → List JournalEntry
block_entries d due = map (Delivered d) due ++ Granted d ∷ []

-- nothing waits to be posted, and the request is due below the known bound
pub record IsGrantable {Q R : Type 0} (entries : Q → List Entry) (n : Node Q R) (due : ℕ) : Type 0 where
  pub waits : waiting_in n.outbox ≡ []
  pub request : Request
  pub request_is : n.course.request ≡ Some request
  pub due_is : due ≡ request_due request (first_time (entries n.inbox.queue))
  pub below : due < n.rounds.bound

-- the rules of a grant of d have run, with those of what it delivers: the state is that of the block, its messages are taken
-- out of the queue, what is transported of what they sent is the outbox, and there is room for its entries
pub record HasRunBlock {Q R : Type 0} (entries : Q → List Entry) (p : Parts) (d : ℕ) (n n' : Node Q R) : Type 0 where
  pub state : n'.course.state ≡ after_block p n.me d n.course.state (front_due d (entries n.inbox.queue))
  pub now : n'.course.now ≡ n.course.now
  pub request : n'.course.request ≡ n.course.request
  pub due : n'.due.items ≡ front_due d (entries n.inbox.queue)
  pub queue : entries n'.inbox.queue ≡ behind_due d (entries n.inbox.queue)
  pub outbox : n'.outbox.messages.items ≡ filter (is_transported p) (drop (length n.course.state.sends) n'.course.state.sends)
  pub journal : n'.journal.entries ≡ n.journal.entries
  pub room : length n'.due.items < n'.journal.spare
  pub others : n' ≡ record n { course = n'.course; inbox = record n.inbox { queue = n'.inbox.queue }; outbox = record n.outbox { messages = n'.outbox.messages }; due = n'.due; journal = n'.journal }

-- its rules, or those of what it delivers, would take number 16,385
abbrev pub SpendsInBlock : Parts → ℕ → ℕ → State → List Message → Type 0
SpendsInBlock p me d s due = 16385 < (after_block p me d s due).next

-- what a grant is refused for
abbrev pub IsRefusal : NodeEnd → Type 0
IsRefusal end = (end ≡ node_end.SendsSpent) ⊎ (end ≡ node_end.NoMemory)

-- of a node that is refused its grant the report is as before
pub record KeepsReport {Q R : Type 0} (n n' : Node Q R) : Type 0 where
  pub me : n'.me ≡ n.me
  pub ended : n'.ended ≡ n.ended
  pub journal : n'.journal.entries ≡ n.journal.entries
  pub now : n'.course.now ≡ n.course.now
  pub rounds : n'.rounds ≡ n.rounds
  pub turns : n'.turns ≡ n.turns

-- THE PART. Whether the federate may be granted its due time
pub record MayGrant (v : LbtsView) : Type 0 where
  pub started : v.request ≢ None
  pub posted : v.outbox ≡ []
  pub below : due_of v < bound_of v

-- one grant was made where one was due, and none elsewhere
pub record HasGranted (did : Bool) (p q : Seat) : Type 0 where
  pub one : did ≡ true → MayBeGranted p × (q ≡ place_after view_after (Published (clock_of p.own.number) (due_of p.client)) p)
  pub none : did ≡ false → (q ≡ p) × (MayGrant p.client → ⊥)

-- the rules of a grant that is due, or of the start that has not been, would take number 16,385
pub record SpendsAtGrant (p : Seat) : Type 0 where
  pub may : MayBeGranted p
  pub past : most_sends < length (view_after_grant p.own.number (due_of p.client) p.client).state.sends

pub record SpendsAtStart (p : Seat) : Type 0 where
  pub new : p.client.request ≡ None
  pub past : most_sends < length (view_after_start p.own.number p.client).state.sends
