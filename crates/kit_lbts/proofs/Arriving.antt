-- What a world tells of a copy in hand whose head was read.
use Rattle.std.proofs.Common.{◌≡◌, ℕ, ◌+◌, ◌<◌, ◌≤◌, ◌==◌, ◌&&◌, Bool, true, false, cond, List, ◌++◌, length, map, filter, get_or, Option, Some, None, refl, sym, ap, ◌∙◌, subst, arith, eq-eqb}
use Rattle.std.specs.List.{count_by, list_any, Contains}
use Rattle.std.specs.Prelude.{slice_index, IfSome, unwrap_or}
use Rattle.std.specs.Option.{option_and_then}
use Rattle.std.specs.Int.{bit_at}
use Rattle.std.proofs.lemmas.Bool.{false_from_ne_true}
use Rattle.std.proofs.lemmas.List.Elements.{All-contains, Contains-append_left}
use Rattle.std.proofs.lemmas.Nat.Bits.{bit_at-lt}
use mathlib.Core.Option.{some}
use lib.ListN.{get_elem?}
use Rattle.kit_base.specs.declared.message.Message.{Message}
use Rattle.kit_base.specs.declared.words.Head.{Head}
use Rattle.kit_base.specs.Words.{head_word, head_of, head_with, body_of}
use Rattle.kit_base.proofs.Layouts.{heads_come_back_law, bodies_come_back_law}
use Rattle.kit_ground.specs.declared.address.Address.TheVariants.{Part}
use Rattle.kit_ground.specs.declared.place.Place.{Place}
use Rattle.kit_ground.specs.Memory.{Memory}
use Rattle.kit_ground.specs.Rules.{World}
use Rattle.kit_ground.proofs.Lists.{at_inside, at_map_or, at_or}
use Rattle.kit_ground.proofs.Sums.{sum_has}
use Rattle.kit_model.specs.Journals.{last_grant}
use Rattle.kit_queue.specs.Entries.{is_numbered}
use Rattle.kit_rules.specs.Parts.{Parts}
use Rattle.kit_rules.specs.Delivery.{is_transported}
use Rattle.kit_rules.specs.Step.{is_event, no_message}
use Rattle.kit_rounds.specs.Channels.{IsUnreceived, is_copy, posts_of, receipts_of, same_stamp}
use Rattle.kit_rounds.specs.Ledgers.{Ledger, Stamp, blank}
use Rattle.kit_lbts.specs.declared.view.Filled.{Filled}
use Rattle.kit_lbts.specs.declared.view.InHand.{InHand}
use Rattle.kit_lbts.specs.declared.view.Posting.{Posting}
use Rattle.kit_lbts.specs.declared.view.LbtsView.{LbtsView}
use Rattle.kit_lbts.specs.Views.{entries_of, has_receiver, is_in_hand, is_spent, receipts, messages_received, time_of, transported_of}
use Rattle.kit_lbts.specs.Promises.{bound_of, copy_posted, copy_received, ledger_of, ledgers_of, stamp_of}
use Rattle.kit_lbts.specs.Letters.{IsLetter, letter_in}
use Rattle.kit_lbts.specs.MessageLaws.{HasHead}
use Rattle.kit_lbts.specs.Progress.{head_in, message_in}
use Rattle.kit_lbts.specs.Rule.{FederateRule, lbts_rule}
use Rattle.kit_lbts.specs.Seats.{left_of, most_sends, waits_in}
use Rattle.kit_lbts.specs.Ways.{Way, copies_on_way, mark_in_mail, letters_posted_to, letters_received_from}
use Rattle.kit_lbts.proofs.Bounds.{known_bounds_bound}
use Rattle.kit_lbts.proofs.Copies.{contains_filter, contains_map, count_filter, count_filter_most, counted_there, get_or_any, numbered_once, same_letter, same_letter_is, same_letter_self}
use Rattle.kit_lbts.proofs.Hands.{count_any, count_append, count_has, count_map, found_passes}
use Rattle.kit_lbts.proofs.HeadSteps.{held_letter}

abbrev P : Type 0
P = Place LbtsView

-- a buffer that is in hand is held for that alone
only_hand : (h a b c : ℕ) → h ≡ a + b + c → h < 2 → 0 < a → (h ≡ 1) × (a ≡ 1) × (b ≡ 0) × (c ≡ 0)
only_hand h a b c e lt pos = (omega arith, omega arith, omega arith, omega arith)

later : (o : Option ℕ) (b t : ℕ) → IfSome o (λ g. g < b) → b ≤ t → 0 < t → unwrap_or o 0 < t
later None b t h le pos = pos
later (Some g) b t h le pos = omega arith

module _ (p : P) (i k head : ℕ) (li : i < p.own.federates) (lk : k < p.own.buffers) (has_head : HasHead p i k head) (m : Memory) (places : List P) (w : World lbts_rule p m places) where
  abbrev me : ℕ
  me = p.own.number

  abbrev mine : FederateRule m places p.own.number p
  mine = w.client.each p.own.number p w.here

  pub there_i : i < length places
  there_i = subst (λ (n : ℕ). i < n) (w.floor.each me p w.here).federates li

  pub there_me : p.own.number < length places
  there_me = at_inside places p.own.number p w.here

  -- the sender's place
  abbrev pub r : P
  r = get_or places i p

  pub at : get_elem? places i ≡ some (get_or places i p)
  at = at_or places i p there_i

  abbrev sender : FederateRule m places i (get_or places i p)
  sender = w.client.each i (get_or places i p) at

  abbrev pub f : Filled
  f = letter_in (get_or places i p).client k

  abbrev hand : InHand
  hand = record { from = i; buffer = k; head = Some head }

  pub there : Contains p.client.in_hand (record { from = i; buffer = k; head = Some head })
  there = (found_passes (is_in_hand i k) p.client.in_hand hand has_head).1

  pub alone : (bit_at (slice_index p.own.stock.holds i) k ≡ 1) × (count_by (is_in_hand i k) p.client.in_hand ≡ 1) × (count_by (waits_in i k) p.client.queue ≡ 0) × (count_by (is_spent i k) p.client.spent ≡ 0)
  alone = only_hand (bit_at (slice_index p.own.stock.holds i) k) (count_by (is_in_hand i k) p.client.in_hand) (count_by (waits_in i k) p.client.queue) (count_by (is_spent i k) p.client.spent)
      (mine.holdings.each i k li lk) (bit_at-lt (slice_index p.own.stock.holds i) k)
      (count_has (is_in_hand i k) p.client.in_hand hand there (found_passes (is_in_hand i k) p.client.in_hand hand has_head).0)

  pub letter : IsLetter m i k (letter_in (get_or places i p).client k)
  letter = held_letter p m places w i k (get_or places i p) at lk alone.0 there_i

  pub way : Way (get_or places i p).own.buffers (mark_in_mail m i p.own.number) i p.own.number (get_or places i p).client p.client
  way = w.client.ways i me (get_or places i p) p at w.here

  pub within : k < (get_or places i p).own.buffers
  within = subst (λ (n : ℕ). k < n) (sym (w.floor.each i (get_or places i p) at).buffers) lk

  -- ---- what the words tell
  head_is : head ≡ head_word f.message f.colour
  head_is = All-contains (λ (h : InHand). h.from ≡ i → IfSome h.head (λ word. word ≡ head_word (letter_in r.client h.buffer).message (letter_in r.client h.buffer).colour)) p.client.in_hand hand way.heads there refl

  head_tells : head_of head ≡ head_with f.message f.colour
  head_tells = ap head_of head_is ∙ heads_come_back_law f.message f.colour letter.fits

  body_tells : body_of (m (Part i k 1)) ≡ (f.message.time, f.message.value)
  body_tells = ap body_of letter.body ∙ bodies_come_back_law f.message letter.value

  pub message_is : message_in i head (m (Part i k 1)) ≡ (letter_in (get_or places i p).client k).message
  message_is = λ t. record { time = (body_tells t).0; sender = sym letter.sender t; number = (head_tells t).number; kind = (head_tells t).kind; group = (head_tells t).group; value = (body_tells t).1 }

  pub colour_is : (head_of head).colour ≡ (letter_in (get_or places i p).client k).colour
  colour_is = ap (λ (h : Head). h.colour) head_tells

  pub head_in_is : head_in i k p.client.in_hand ≡ head
  head_in_is = ap (λ (o : Option InHand). unwrap_or (option_and_then (λ (h : InHand). h.head) o) 0) has_head

  -- ---- it was posted more often than it was received
  pub more : (t : Filled → Bool) → t (letter_in (get_or places i p).client k) ≡ true → count_by t (letters_received_from i p.client) < count_by t (letters_posted_to p.own.number (get_or places i p).client)
  more t passes =
      let copies : ℕ → ℕ = λ x. cond (t (letter_in r.client x)) (copies_on_way (mark_in_mail m i me) i p.client.in_hand x) 0 in
      let c = way.copies t in
      let s : copies k ≤ _ = sum_has copies r.own.buffers k within in
      let one : copies k ≡ mark_in_mail m i me k + count_by (is_in_hand i k) p.client.in_hand = ap (λ (b : Bool). cond b (copies_on_way (mark_in_mail m i me) i p.client.in_hand k) 0) passes in
      let h = alone.1 in
      omega arith

  pub posted : Contains (letters_posted_to p.own.number (get_or places i p).client) (letter_in (get_or places i p).client k)
  posted =
      let l = more (same_letter f) (same_letter_self f) in
      let t = counted_there (same_letter f) (letters_posted_to me r.client) (omega arith) in
      subst (Contains (letters_posted_to me r.client)) (sym (same_letter_is f t.0 t.2)) t.1

  me_there : p.own.number < (get_or places i p).own.federates
  me_there = subst (λ (n : ℕ). p.own.number < n) (sym (w.floor.each i (get_or places i p) at).federates) there_me

  sent_is : filter (has_receiver r.client.federation me) (transported_of r.client) ≡ map (λ (x : Filled). x.message) (letters_posted_to me r.client) ++ left_of r.client.sending r.own.stock r.client.federation me r.client.outbox
  sent_is = sender.sends.each me me_there

  one_federation : (get_or places i p).client.federation ≡ p.client.federation
  one_federation = (w.client.common.each i (get_or places i p) at).0 ∙ sym (w.client.common.each me p w.here).0

  -- what i posted to the reader it sent, to it among others
  pub sent_of : (g : Filled) → Contains (letters_posted_to p.own.number (get_or places i p).client) g
      → (has_receiver p.client.federation p.own.number g.message ≡ true) × (is_transported p.client.federation g.message ≡ true) × Contains (get_or places i p).client.state.sends g.message
  sent_of g has =
      let s : Contains (filter (has_receiver r.client.federation me) (transported_of r.client)) g.message = subst (λ (l : List Message). Contains l g.message) (sym sent_is)
      (Contains-append_left (map (λ (x : Filled). x.message) (letters_posted_to me r.client)) (left_of r.client.sending r.own.stock r.client.federation me r.client.outbox) g.message
      (contains_map (λ (x : Filled). x.message) (letters_posted_to me r.client) g has)) in
      let a = contains_filter (has_receiver r.client.federation me) (transported_of r.client) g.message s in
      let b = contains_filter (is_transported r.client.federation) r.client.state.sends g.message a.1 in
      (ap (λ (x : Parts). has_receiver x me g.message) (sym one_federation) ∙ a.0, ap (λ (x : Parts). is_transported x g.message) (sym one_federation) ∙ b.0, b.1)

  -- what was received of i it posted
  pub received_posted : (g : Filled) → Contains (letters_received_from i p.client) g → Contains (letters_posted_to p.own.number (get_or places i p).client) g
  received_posted g has =
      let c = way.copies (same_letter g) in
      let l = count_has (same_letter g) (letters_received_from i p.client) g has (same_letter_self g) in
      let t = counted_there (same_letter g) (letters_posted_to me r.client) (omega arith) in
      subst (Contains (letters_posted_to me r.client)) (sym (same_letter_is g t.0 t.2)) t.1

  pub for_me : has_receiver p.client.federation p.own.number (letter_in (get_or places i p).client k).message ≡ true
  for_me = (sent_of f posted).0

  pub transported : is_transported p.client.federation (letter_in (get_or places i p).client k).message ≡ true
  transported = (sent_of f posted).1

  pub in_sends : Contains (get_or places i p).client.state.sends (letter_in (get_or places i p).client k).message
  in_sends = (sent_of f posted).2

  -- ---- its number, and the one that it names
  pub number_within : (x : Message) → Contains (get_or places i p).client.state.sends x → (1 ≤ x.number) × (x.number ≤ most_sends)
  number_within x has =
      let sends : List Message = r.client.state.sends in
      let is : x.number ≡ has.0 + 1 = ap (λ (y : Message). y.number) (sym has.2 ∙ get_or_any sends has.0 x no_message has.1) ∙ sender.sends.numbered has.0 has.1 in
      (omega (arith, is), omega (arith, is, has.1, sender.sends.few))

  pub named_within : is_event (letter_in (get_or places i p).client k).message.kind ≡ false
      → (1 ≤ (letter_in (get_or places i p).client k).message.value) × ((letter_in (get_or places i p).client k).message.value ≤ most_sends)
  named_within takes_back =
      let t = All-contains (λ (y : Message). is_event y.kind ≡ false
      → (e : Message) × Contains r.client.state.sends e × (is_event e.kind ≡ true) × (e.number ≡ y.value) × (e.time ≡ y.time) × (e.group ≡ y.group)) r.client.state.sends f.message sender.sends.takes_back.target in_sends takes_back in
      let n = number_within t.0 t.1 in
      (omega (arith, n.0, t.3), omega (arith, n.1, t.3))

  -- ---- each number is that of one copy, so nothing of this number was received
  posted_once : (n : ℕ) → count_by (λ (x : Filled). x.message.number == n) (letters_posted_to me r.client) ≤ 1
  posted_once n =
      let t : Message → Bool = λ x. x.number == n in
      let a : count_by t (map (λ (x : Filled). x.message) (letters_posted_to me r.client)) ≡ count_by (λ (x : Filled). x.message.number == n) (letters_posted_to me r.client) = count_map (λ (x : Filled). x.message) t (λ (x : Filled). x.message.number == n) (letters_posted_to me r.client) (λ x. refl) in
      let b = count_append t (map (λ (x : Filled). x.message) (letters_posted_to me r.client)) (left_of r.client.sending r.own.stock r.client.federation me r.client.outbox) in
      let c = ap (count_by t) sent_is in
      let d = count_filter_most t (has_receiver r.client.federation me) (transported_of r.client) in
      let e = count_filter_most t (is_transported r.client.federation) r.client.state.sends in
      let g : count_by t r.client.state.sends ≤ 1 = numbered_once n 1 r.client.state.sends no_message (λ x lx. sender.sends.numbered x lx ∙ (let z : x + 1 ≡ 1 + x = omega arith in z)) in
      omega arith

  none_received : count_by (λ (x : Filled). x.message.number == f.message.number) (letters_received_from i p.client) ≡ 0
  none_received =
      let l = more (λ (x : Filled). x.message.number == f.message.number) (eq-eqb f.message.number f.message.number refl) in
      let o = posted_once f.message.number in
      omega arith

  pub new_number : list_any (is_numbered i (letter_in (get_or places i p).client k).message.number) (messages_received p.client) ≡ false
  new_number = false_from_ne_true (list_any (is_numbered i f.message.number) (messages_received p.client)) (λ e.
      let c = count_any (is_numbered i f.message.number) (messages_received p.client) e in
      let a : count_by (is_numbered i f.message.number) (messages_received p.client) ≡ count_by (λ (x : Filled). x.message.sender == i && x.message.number == f.message.number) (receipts p.client) =
      count_map (λ (x : Filled). x.message) (is_numbered i f.message.number) (λ (x : Filled). x.message.sender == i && x.message.number == f.message.number) (receipts p.client) (λ x. refl) in
      let b : count_by (λ (x : Filled). x.message.number == f.message.number) (letters_received_from i p.client) ≡ count_by (λ (x : Filled). x.message.sender == i && x.message.number == f.message.number) (receipts p.client) =
      count_filter (λ (x : Filled). x.message.number == f.message.number) (λ (x : Filled). x.message.sender == i) (receipts p.client) in
      let z = none_received in
      absurd (omega arith))

  -- ---- so it is on its way, and after every grant
  pub unreceived : IsUnreceived (ledgers_of places) i p.own.number (stamp_of (letter_in (get_or places i p).client k))
  unreceived =
      let s : Stamp = stamp_of f in
      let t : Filled → Bool = λ x. same_stamp (stamp_of x) s in
      let li : ledgers_of places i ≡ ledger_of r = at_map_or ledger_of places i r blank at in
      let lm : ledgers_of places me ≡ ledger_of p = at_map_or ledger_of places me p blank w.here in
      let a : posts_of (ledgers_of places) i me s ≡ count_by t (letters_posted_to me r.client) =
      ap (λ (l : Ledger). count_by (is_copy me s) l.posted) li
      ∙ (count_map copy_posted (is_copy me s) (λ (x : Posting). x.to == me && same_stamp (stamp_of x.filled) s) r.client.posted (λ x. refl)
      ∙ (sym (count_filter (λ (x : Posting). same_stamp (stamp_of x.filled) s) (λ (x : Posting). x.to == me) r.client.posted)
      ∙ sym (count_map (λ (x : Posting). x.filled) t (λ (x : Posting). same_stamp (stamp_of x.filled) s) (filter (λ (x : Posting). x.to == me) r.client.posted) (λ x. refl)))) in
      let b : receipts_of (ledgers_of places) i me s ≡ count_by t (letters_received_from i p.client) =
      ap (λ (l : Ledger). count_by (is_copy i s) l.received) lm
      ∙ (count_map copy_received (is_copy i s) (λ (x : Filled). x.message.sender == i && same_stamp (stamp_of x) s) (receipts p.client) (λ x. refl)
      ∙ sym (count_filter t (λ (x : Filled). x.message.sender == i) (receipts p.client))) in
      let l = more t ((λ x. eq-eqb f.colour f.colour refl x && eq-eqb f.message.time f.message.time refl x)) in
      omega arith

  pub at_bound : bound_of p.client ≤ (letter_in (get_or places i p).client k).message.time
  at_bound = (known_bounds_bound places me p w.here w.client.rounds mine.learnt).copies i me (stamp_of f) there_i there_me unreceived

  pub after_grant : time_of p.client < (letter_in (get_or places i p).client k).message.time
  after_grant =
      later (last_grant (entries_of p.client)) (bound_of p.client) f.message.time mine.granting.below at_bound
      (All-contains (λ (x : Message). 0 < x.time) r.client.state.sends f.message sender.sends.timed in_sends)
