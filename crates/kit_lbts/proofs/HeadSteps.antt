-- The head of a copy in hand is read.
use Rattle.std.proofs.Common.{◌≡◌, ℕ, ◌+◌, ◌<◌, Bool, cond, true, false, List, length, map, Some, refl, sym, ap, ◌∙◌, subst, arith}
use Rattle.std.specs.List.{count_by}
use Rattle.std.specs.Prelude.{slice_index, slice_set}
use Rattle.std.specs.Int.{bit_at}
use Rattle.std.proofs.lemmas.List.Elements.{All-map, All-weaker}
use mathlib.Core.Option.{some}
use lib.ListN.{get_elem?}
use Rattle.kit_ground.specs.declared.address.Address.TheVariants.{Part}
use Rattle.kit_ground.specs.declared.place.Deed.{Deed}
use Rattle.kit_ground.specs.declared.place.Deed.TheVariants.{ReadPart}
use Rattle.kit_ground.specs.declared.place.Place.{Place}
use Rattle.kit_ground.specs.Memory.{Memory, with_word}
use Rattle.kit_ground.specs.Rules.{RuleStays, World}
use Rattle.kit_ground.specs.Steps.{place_after}
use Rattle.kit_ground.proofs.Memories.{stored_same}
use Rattle.kit_ground.proofs.PlaceFacts.{held_counted}
use Rattle.kit_lbts.specs.declared.view.InHand.{InHand}
use Rattle.kit_lbts.specs.declared.view.LbtsView.{LbtsView}
use Rattle.kit_lbts.specs.Views.{is_in_hand, is_spent}
use Rattle.kit_lbts.specs.Letters.{Letters, IsLetter, letter_in}
use Rattle.kit_lbts.specs.Seats.{Holdings, waits_in}
use Rattle.kit_lbts.specs.Ways.{Way, WayBetween, mark_in_mail}
use Rattle.kit_lbts.specs.Progress.{view_after}
use Rattle.kit_lbts.specs.Rule.{lbts_rule}
use Rattle.kit_lbts.specs.MessageLaws.{HeadsKeep}
use Rattle.kit_lbts.proofs.Changes.{Was, kept, mine, still, ways_to}
use Rattle.kit_lbts.proofs.LetterFacts.{letters_aside, letter_still}
use Rattle.kit_lbts.proofs.RoundSteps.{rises_keep_rounds}
use Rattle.kit_lbts.proofs.Ways.{count_headed, headed, sent, way_headed, way_still}

abbrev P : Type 0
P = Place LbtsView

-- a letter that a seat holds lies in the buffer
pub held_letter : (p : P) (m : Memory) (places : List P) (w : World lbts_rule p m places) (i k : ℕ) (r : P) → get_elem? places i ≡ some r → k < p.own.buffers → bit_at (slice_index p.own.stock.holds i) k ≡ 1
    → i < length places → IsLetter m i k (letter_in r.client k)
held_letter p m places w i k r at lk held li =
    (w.client.each i r at).letters.counted k (subst (λ (b : ℕ). k < b) (sym (w.floor.each i r at).buffers) lk)
    (held_counted p.own.buffers m places w.floor p.own.number p w.here i k li lk held)

module _ (p : P) (i k : ℕ) (li : i < p.own.federates) (lk : k < p.own.buffers) (held : bit_at (slice_index p.own.stock.holds i) k ≡ 1) (m : Memory) (places : List P) (w : World lbts_rule p m places) where
  abbrev me : ℕ
  me = p.own.number

  abbrev word : ℕ
  word = m (Part i k 0)

  abbrev deed : Deed
  deed = ReadPart i k 0 (m (Part i k 0))

  abbrev now : Memory
  now = with_word m (Part i k 0) (m (Part i k 0))

  abbrev q : P
  q = place_after view_after (ReadPart i k 0 (m (Part i k 0))) p

  words : (a c x : ℕ) → now (Part a c x) ≡ m (Part a c x)
  words a c x = ap (λ (y : Memory). y (Part a c x)) (stored_same m (Part i k 0))

  letters : Letters now me q
  letters =
      let old = (mine p m places w now deed).letters in
      record {
        sized = old.sized;
        counted = λ x lx on. letter_still m now me x (letter_in p.client x) (λ y. words me x y) (old.counted x lx on);
        sending = λ x is. let h = old.sending x is in record { first = h.first; rest = h.rest; within = h.within; outbox = h.outbox; owed = h.owed; filled = h.filled };
        others = old.others;
      }

  holdings : Holdings q
  holdings =
      let old = (mine p m places w now deed).holdings in
      let Inside : InHand → Type 0 = λ h. (h.from < p.own.federates) × (h.buffer < p.own.buffers) in
      record {
        each = λ a c la lc. old.each a c la lc ∙ ap (λ (x : ℕ). x + count_by (waits_in a c) p.client.queue + count_by (is_spent a c) p.client.spent) (sym (count_headed i k word a c p.client.in_hand));
        in_hand = All-map Inside (headed i k word) p.client.in_hand (All-weaker Inside (λ (h : InHand). Inside (headed i k word h)) (λ h old. inside h (is_in_hand i k h) old) p.client.in_hand old.in_hand);
        queue = old.queue;
        spent = old.spent;
      }
    where
      inside : (h : InHand) (b : Bool) → (h.from < p.own.federates) × (h.buffer < p.own.buffers) → ((cond b (record h { head = Some word }) h).from < p.own.federates) × ((cond b (record h { head = Some word }) h).buffer < p.own.buffers)
      inside h true old = old
      inside h false old = old

  way_me : (a : ℕ) (r : P) → Was places me p q a r → WayBetween now a me r q
  way_me a r ta =
      let b = still (λ (x : P). x.own.buffers) places me p q refl a r ta in
      let li' : i < length places = subst (λ (n : ℕ). i < n) (w.floor.each me p w.here).federates li in
      let old : Way ta.before.own.buffers (mark_in_mail m a me) a me ta.before.client q.client =
      way_headed ta.before.own.buffers (mark_in_mail m a me) a me ta.before.client p.client i k word
      (λ same. (held_letter p m places w i k ta.before (subst (λ (x : ℕ). get_elem? places x ≡ some ta.before) same ta.at) lk held li').head)
      (w.client.ways a me ta.before p ta.at w.here) in
      subst (λ (n : ℕ). Way n (mark_in_mail now a me) a me r.client q.client) (sym b)
      (way_still ta.before.own.buffers (mark_in_mail m a me) (mark_in_mail now a me) a me ta.before.client q.client r.client q.client (λ x lx. refl)
      (still (λ (x : P). sent me x.client) places me p q refl a r ta) refl old)

  pub head_read : RuleStays lbts_rule m places now (slice_set places p.own.number (place_after view_after (ReadPart i k 0 (m (Part i k 0))) p))
  head_read = kept p m places w now deed (record { words = λ r. refl; federation = refl; same = refl; time = refl }) (record {
    letters = letters;
    others = λ a r other at. letters_aside m now a r (λ x lx on. on) (λ x y lx on. words a x y) (w.client.each a r at).letters;
    holdings = holdings;
    queue = let old = (mine p m places w now deed).queue in record { ordered = old.ordered; apart = old.apart; is = old.is; ahead = old.ahead; settled = old.settled };
    heard = let old = (mine p m places w now deed).heard in record { orphans = old.orphans; came = old.came; past = old.past };
    granting = let old = (mine p m places w now deed).granting in record { lawful = old.lawful; below = old.below; within = old.within; wish = old.wish; asked = old.asked };
    sends = let old = (mine p m places w now deed).sends in record { own = old.own; numbered = old.numbered; next = old.next; timed = old.timed; takes_back = old.takes_back; waiting = old.waiting; late = old.late; transported = old.transported; behind = old.behind; once = old.once; each = old.each; receivers = old.receivers; coloured = old.coloured; few = old.few; new = λ e. let t = old.new e in (t.0, t.1, t.2, t.3, ap (map (headed i k word)) t.4, t.5) };
    ways = ways_to places me p q (WayBetween now) way_me (λ a l r s other at ta.
        let b = still (λ (x : P). x.own.buffers) places me p q refl a r ta in
        subst (λ (n : ℕ). Way n (mark_in_mail now a l) a l r.client s.client) (sym b)
        (way_still ta.before.own.buffers (mark_in_mail m a l) (mark_in_mail now a l) a l ta.before.client s.client r.client s.client (λ x lx. refl)
        (still (λ (x : P). sent l x.client) places me p q refl a r ta) refl (w.client.ways a l ta.before s ta.at at)));
    rounds = rises_keep_rounds places me p q w.here w.client.rounds (record { rises = omega arith; is = refl });
  })

pub heads_keep : HeadsKeep lbts_rule
heads_keep p i k li lk held m places w = head_read p i k li lk held m places w
