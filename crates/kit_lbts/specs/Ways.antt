-- The rule of the channels: what one federate posted to another was received, is in its hand, or is in its
-- mail. A channel has no order.
use Rattle.std.specs.Prelude.{◌≡◌, ◌==◌, ℕ, ◌+◌, ◌/◌, ◌%◌, Bool, if◌then◌else◌, List, All, map, filter, count_by, IfSome}
use Rattle.std.specs.Int.{bit_at}
use Rattle.kit_base.specs.Words.{head_word}
use Rattle.kit_ground.specs.declared.address.Address.TheVariants.{Mail}
use Rattle.kit_ground.specs.declared.place.Place.{Place}
use Rattle.kit_ground.specs.Memory.{Memory}
use Rattle.kit_ground.specs.Sets.{sum_to}
use Rattle.kit_queue.specs.declared.entry.Entry.{Entry}
use Rattle.kit_lbts.specs.declared.view.Filled.{Filled}
use Rattle.kit_lbts.specs.declared.view.InHand.{InHand}
use Rattle.kit_lbts.specs.declared.view.Posting.{Posting}
use Rattle.kit_lbts.specs.declared.view.LbtsView.{LbtsView}
use Rattle.kit_lbts.specs.Views.{receipts, is_in_hand}
use Rattle.kit_lbts.specs.Letters.{letter_in}

-- what the federate posted to j, in order
abbrev pub letters_posted_to : ℕ → LbtsView → List Filled
letters_posted_to j v = map (λ (x : Posting). x.filled) (filter (λ (x : Posting). x.to == j) v.posted)

-- what it received from i, in order
abbrev pub letters_received_from : ℕ → LbtsView → List Filled
letters_received_from i v = filter (λ (f : Filled). f.message.sender == i) (receipts v)

-- 1 where the bit of the buffer k of i stands in the mail of j, otherwise 0
abbrev pub mark_in_mail : Memory → ℕ → ℕ → ℕ → ℕ
mark_in_mail m i j k = bit_at (m (Mail j i (k / 64))) (k % 64)

-- how many copies of the buffer k of i are on their way: marked in the mail, or in the receiver's hand
abbrev pub copies_on_way : (ℕ → ℕ) → ℕ → List InHand → ℕ → ℕ
copies_on_way mail i hand k = mail k + count_by (is_in_hand i k) hand

-- of the copies of b buffers, how many have letters that pass a test
abbrev pub passing_copies : (Filled → Bool) → (ℕ → Filled) → (ℕ → ℕ) → ℕ → ℕ
passing_copies t letter copies b = sum_to (λ k. if t (letter k) then copies k else 0) b

-- the channel from i, with the view v and b buffers, to j, with the view u, where this is in the mail. Of the
-- copies that pass any test, those posted are those received, those in hand and those in the mail.
pub record Way (b : ℕ) (mail : ℕ → ℕ) (i j : ℕ) (v u : LbtsView) : Type 0 where
  pub copies : (t : Filled → Bool) → count_by t (letters_posted_to j v) ≡ count_by t (letters_received_from i u) + passing_copies t (letter_in v) (copies_on_way mail i u.in_hand) b
  -- a head that was read is that of the letter, and a message that waits with its buffer lies in it
  pub heads : All (λ (h : InHand). h.from ≡ i → IfSome h.head (λ word. word ≡ head_word (letter_in v h.buffer).message (letter_in v h.buffer).colour)) u.in_hand
  pub lies : All (λ (e : Entry). e.message.sender ≡ i → IfSome e.buffer (λ k. (letter_in v k).message ≡ e.message)) u.queue

abbrev pub WayBetween : Memory → ℕ → ℕ → Place LbtsView → Place LbtsView → Type 0
WayBetween m i j p q = Way p.own.buffers (mark_in_mail m i j) i j p.client q.client
