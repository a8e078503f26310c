-- The posting of the outbox: what a place is once a message was put in a buffer, charged and posted.
use Rattle.std.specs.Prelude.{◌≡◌, ◌≢◌, ℕ, zero, suc, ◌^◌, ◌<◌, ◌≤◌, nat_lt, Bool, false, if◌then◌else◌, List, [], ◌∷◌, ◌++◌, length, map, filter, take, drop, slice_index_or, Option, None, IfSome}
use Rattle.std.specs.List.{flat_map, range_with_len}
use Rattle.kit_base.specs.declared.message.Message.{Message}
use Rattle.kit_base.specs.Words.{body_word, head_word}
use Rattle.kit_ground.specs.declared.place.Deed.TheVariants.{Charged, PostedTo, Wrote}
use Rattle.kit_ground.specs.declared.place.Place.{Place}
use Rattle.kit_ground.specs.Steps.{place_after}
use Rattle.kit_rules.specs.Delivery.{has_bit, receivers_of}
use Rattle.kit_rules.specs.Step.{no_message}
use Rattle.kit_lbts.specs.declared.view.LbtsView.{LbtsView}
use Rattle.kit_lbts.specs.declared.view.Posting.{Posting}
use Rattle.kit_lbts.specs.Letters.{letter_in, letter_of}
use Rattle.kit_lbts.specs.Progress.{view_after}
use Rattle.kit_lbts.specs.Views.{time_of}
use Rattle.kit_node.specs.declared.posts.Posts.{Posts}
use Rattle.kit_node.specs.Fields.{one_post_more}
use Rattle.kit_node.specs.Frames.{IsSameSeat, IsSince, last_count}

abbrev Seat : Type 0
Seat = Place LbtsView

-- a message and a colour that have room in two words
pub record CarriesMessage (m : Message) (colour : ℕ) : Type 0 where
  pub group_fits : m.group < 128
  pub colour_fits : colour < 2 ^ 40
  pub time_fits : m.time < 2 ^ 32

-- the message is the first that is to be posted, and no other is half posted
pub record IsFirstOf (m : Message) (v : LbtsView) : Type 0 where
  pub rest : List Message
  pub outbox : v.outbox ≡ m ∷ rest
  pub whole : v.sending ≡ None

-- its head and then its body were written
abbrev pub written_place : Message → ℕ → ℕ → Seat → Seat
written_place m colour k p = place_after view_after (Wrote k 1 (body_word m)) (place_after view_after (Wrote k 0 (head_word m colour)) p)

-- the buffer was charged with the receivers
abbrev pub charged_place : Message → ℕ → ℕ → ℕ → Seat → Seat
charged_place m colour k mask p = place_after view_after (Charged k mask) (written_place m colour k p)

-- and posted to those of the mask below n, in ascending order
abbrev pub posted_below : ℕ → ℕ → ℕ → Seat → Seat
posted_below zero k mask p = p
posted_below (suc n) k mask p = if has_bit mask n then place_after view_after (PostedTo k n) (posted_below n k mask p) else posted_below n k mask p

abbrev pub posted_place : ℕ → ℕ → Seat → Seat
posted_place k mask p = posted_below p.own.federates k mask p

-- so the posts are counted
abbrev pub posts_after : ℕ → ℕ → ℕ → Posts → Posts
posts_after time mask zero posts = posts
posts_after time mask (suc n) posts = if has_bit mask n then one_post_more time (posts_after time mask n posts) else posts_after time mask n posts

-- THE COPIES of a message for all of its receivers, in ascending order
abbrev pub copies_of : LbtsView → ℕ → Message → List Posting
copies_of v n m = map (λ j. record { to = j; filled = letter_of v m }) (filter (has_bit (receivers_of v.federation m.sender m.group)) (range_with_len 0 n))

abbrev pub copies_of_all : LbtsView → ℕ → List Message → List Posting
copies_of_all v n ms = flat_map (copies_of v n) ms

-- the first messages of the outbox, so many, were posted whole, each to all of its receivers
pub record HasPosted (count : ℕ) (p q : Seat) : Type 0 where
  pub seat : IsSameSeat p q
  pub registers : q.own.registers ≡ p.own.registers
  pub mail : q.own.mail ≡ p.own.mail
  pub stop : q.own.stop ≡ p.own.stop
  pub shown : q.own.shown ≡ p.own.shown
  pub collects : q.own.collects ≡ p.own.collects
  pub holds : q.own.stock.holds ≡ p.own.stock.holds
  pub few : count ≤ length p.client.outbox
  pub posted : q.client.posted ≡ p.client.posted ++ copies_of_all p.client p.own.federates (take count p.client.outbox)
  pub left : q.client.outbox ≡ drop count p.client.outbox
  pub view : q.client ≡ record p.client { outbox = q.client.outbox; posted = q.client.posted; filled = q.client.filled }

-- each own count word was looked at since p, and was not 0
abbrev pub IsFull : Seat → Seat → Type 0
IsFull p q = (k : ℕ) → k < q.own.buffers → IsSince p (last_count q k) × ((last_count q k).gave ≡ false)

-- the message that waits is the first of the outbox
abbrev pub first_waiting : Seat → Message
first_waiting q = slice_index_or q.client.outbox 0 no_message

-- a message waits for a buffer: no buffer was found free
pub record Waits (number : ℕ) (p q : Seat) : Type 0 where
  pub some : q.client.outbox ≢ []
  pub number_is : (first_waiting q).number ≡ number
  pub full : IsFull p q

-- each buffer has a message that is timed after the federate's time, so none becomes free before that goes on
abbrev pub IsHeldUp : Seat → Type 0
IsHeldUp q = (k : ℕ) → k < q.own.buffers → time_of q.client < (letter_in q.client k).message.time

-- what became of the outbox: so many of its messages were posted, and the next one waits where there is one
pub record HasSent (posted : Bool) (waits : Option ℕ) (p q : Seat) : Type 0 where
  pub count : ℕ
  pub done : HasPosted count p q
  pub some : posted ≡ nat_lt 0 count
  pub all : waits ≡ None → count ≡ length p.client.outbox
  pub next : IfSome waits (λ number. Waits number p q)
