-- What the small functions of a node do to its fields.
use Rattle.std.specs.Prelude.{◌≡◌, ℕ, ◌+◌, ◌==◌, nat_lt, min, Bool, true, false, ◌&&◌, if◌then◌else◌, List, [], ◌∷◌, drop, Option, Some, None}
use Rattle.kit_base.specs.declared.message.Message.{Message}
use Rattle.kit_base.specs.Words.{head_of}
use Rattle.kit_model.specs.declared.share.Share.{Share}
use Rattle.kit_queue.specs.declared.entry.Entry.{Entry}
use Rattle.kit_node.specs.declared.inbox.Arrival.{Arrival}
use Rattle.kit_node.specs.declared.inbox.Inbox.{Inbox}
use Rattle.kit_node.specs.declared.inbox.Orphan.{Orphan}
use Rattle.kit_node.specs.declared.outbox.Outbox.{Outbox}
use Rattle.kit_node.specs.declared.posts.Posts.{Posts}
use Rattle.kit_node.specs.declared.receipts.Receipts.{Receipts}
use Rattle.kit_node.specs.declared.rounds.Rounds.{Rounds}

-- the lesser of a time and one that is known
abbrev pub earlier : ℕ → Option ℕ → Option ℕ
earlier t None = Some t
earlier t (Some u) = Some (min u t)

-- POSTS
abbrev pub no_posts : Posts
no_posts = record { older = 0; own = 0; least = None }

abbrev pub one_post_more : ℕ → Posts → Posts
one_post_more time p = record p { own = p.own + 1; least = earlier time p.least }

abbrev pub posts_turned : Posts → Posts
posts_turned p = record { older = p.older + p.own; own = 0; least = None }

-- RECEIPTS
abbrev pub no_receipts : Receipts
no_receipts = record { older = 0; own = 0; next = 0 }

abbrev pub one_receipt_more : ℕ → ℕ → Receipts → Receipts
one_receipt_more colour own r = if nat_lt colour own then record r { older = r.older + 1 } else if colour == own then record r { own = r.own + 1 } else record r { next = r.next + 1 }

abbrev pub receipts_turned : Receipts → Receipts
receipts_turned r = record { older = r.older + r.own; own = r.next; next = 0 }

-- THE OUTBOX
abbrev pub waiting_in : Outbox → List Message
waiting_in o = drop o.done o.messages.items

-- THE INBOX
abbrev pub is_named_so : Orphan → Orphan → Bool
is_named_so a b = (a.sender == b.sender) && (a.number == b.number)

-- a copy that was collected in this buffer, and whose head is still to be read
abbrev pub arrival : ℕ → Arrival
arrival k = record { head = head_of 0; buffer = k }

pub record IsEmptyInbox {Q : Type 0} (entries : Q → List Entry) (i : Inbox Q) : Type 0 where
  pub queue : entries i.queue ≡ []
  pub orphans : i.orphans.items ≡ []
  pub receipts : i.receipts ≡ no_receipts
  pub arrivals : i.arrivals.items ≡ []
  pub settled : i.settled ≡ 0

-- ROUNDS
pub record AreNoRounds {R : Type 0} (limit : ℕ) (r : Rounds R) : Type 0 where
  pub taken : r.taken ≡ 0
  pub limited : r.limit ≡ limit
  pub under_way : r.under_way ≡ false
  pub run : r.run ≡ 1
  pub colour : r.colour ≡ 0
  pub bound : r.bound ≡ 0

abbrev pub closed_with : {R : Type 0} → Share → Rounds R → Rounds R
closed_with share r = if share.out == share.inn then record r { under_way = false; bound = share.low; run = r.run + 1 } else record r { under_way = false }
