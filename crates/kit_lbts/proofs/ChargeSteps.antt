-- An own buffer is charged with the first message of the outbox.
use Rattle.std.proofs.Common.{◌≡◌, ◌≢◌, ℕ, ◌<◌, Bool, true, cond, inl, inr, get_or, List, ◌∷◌, ◌++◌, length, map, filter, Option, Some, None, refl, sym, ap, ◌∙◌, subst, arith, length-set}
use Rattle.std.specs.List.{count_by, All, Contains}
use Rattle.std.specs.Prelude.{slice_set}
use Rattle.std.proofs.lemmas.List.Elements.{All-contains, All-head, Contains-get_or}
use mathlib.Core.Logic.{dite}
use mathlib.Core.Option.{some}
use native.Mathlib.Decide.{ℕ_discrete}
use lib.ListN.{get_elem?}
use Rattle.kit_base.specs.declared.message.Message.{Message}
use Rattle.kit_ground.specs.declared.address.Address.TheVariants.{Count}
use Rattle.kit_ground.specs.declared.place.Buffer.{Buffer}
use Rattle.kit_ground.specs.declared.place.Deed.{Deed}
use Rattle.kit_ground.specs.declared.place.Deed.TheVariants.{Charged}
use Rattle.kit_ground.specs.declared.place.Place.{Place}
use Rattle.kit_ground.specs.Memory.{Memory, with_word}
use Rattle.kit_ground.specs.Rules.{RuleStays, World}
use Rattle.kit_ground.specs.Steps.{place_after, becomes, buffer_of, buffer_after_charge}
use Rattle.kit_ground.proofs.Lists.{at_inside}
use Rattle.kit_ground.proofs.Memories.{count_else}
use Rattle.kit_ground.proofs.PlaceFacts.{buffers_wide, content_is}
use Rattle.kit_queue.specs.declared.entry.Entry.{Entry}
use Rattle.kit_rules.specs.Parts.{Parts}
use Rattle.kit_rules.specs.Delivery.{has_bit, is_transported}
use Rattle.kit_lbts.specs.declared.view.Filled.{Filled}
use Rattle.kit_lbts.specs.declared.view.InHand.{InHand}
use Rattle.kit_lbts.specs.declared.view.LbtsView.{LbtsView}
use Rattle.kit_lbts.specs.Views.{has_receiver, is_in_hand, is_spent}
use Rattle.kit_lbts.specs.Letters.{IsLetter, IsSending, Letters, letter_in, letter_of}
use Rattle.kit_lbts.specs.Seats.{AreChargedOnce, Sends, left_of, waits_in}
use Rattle.kit_lbts.specs.Ways.{Way, WayBetween, copies_on_way, mark_in_mail, letters_posted_to}
use Rattle.kit_lbts.specs.Progress.{first_letter, view_after}
use Rattle.kit_lbts.specs.Rule.{lbts_rule}
use Rattle.kit_lbts.specs.MessageLaws.{ChargesKeep, MayCharge}
use Rattle.kit_lbts.proofs.Charging.{charged_once}
use Rattle.kit_lbts.proofs.Copies.{filter_contains}
use Rattle.kit_lbts.proofs.Changes.{Was, kept, mine, still, ways_from}
use Rattle.kit_lbts.proofs.LetterFacts.{letter_else, letter_from, letter_put, letters_aside, letter_still}
use Rattle.kit_lbts.proofs.OnWay.{free_off, not_held}
use Rattle.kit_lbts.proofs.Owing.{buffer_else, buffer_here}
use Rattle.kit_lbts.proofs.RoundSteps.{rises_keep_rounds}
use Rattle.kit_lbts.proofs.Ways.{got, way_still, way_relettered}
use Rattle.kit_lbts.proofs.Hands.{count_has, hand_here, waits_here}

abbrev P : Type 0
P = Place LbtsView

module _ (p : P) (k mask : ℕ) (first : Message) (rest : List Message) (may : MayCharge p k mask first rest) (m : Memory) (places : List P) (w : World lbts_rule p m places) where
  abbrev me : ℕ
  me = p.own.number

  abbrev deed : Deed
  deed = Charged k mask

  abbrev now : Memory
  now = with_word m (Count p.own.number k) (becomes (Charged k mask) (m (Count p.own.number k)))

  abbrev q : P
  q = place_after view_after (Charged k mask) p

  letter : Filled
  letter = letter_of p.client first

  long : k < length p.own.stock.buffers
  long = let e : length p.own.stock.buffers ≡ p.own.buffers = buffers_wide p.own.buffers m places w.floor me p w.here in let l = may.within in omega arith

  filled_is : q.client.filled ≡ slice_set p.client.filled k (Some (letter_of p.client first))
  filled_is = ap (λ (o : List Message). slice_set p.client.filled k (first_letter p.client o)) may.outbox

  letter_here : letter_in q.client k ≡ letter_of p.client first
  letter_here = ap (λ (fs : List (Option Filled)). letter_from fs k) filled_is ∙ letter_put p.client.filled k (letter_of p.client first) (let s = (mine p m places w now deed).letters.sized in let l = may.within in omega arith)

  letter_there : (x : ℕ) → x ≢ k → letter_in q.client x ≡ letter_in p.client x
  letter_there x other = letter_else p.client.filled k x (first_letter p.client p.client.outbox) other

  count_there : (x : ℕ) → x ≢ k → now (Count me x) ≡ m (Count me x)
  count_there x other = count_else m me k me x (becomes deed (m (Count me k))) (λ _. other)

  charged_here : (buffer_of q.own.stock k).to_post ≡ mask
  charged_here = ap (λ (c : Buffer). c.to_post) (buffer_here p.own.stock k (buffer_after_charge mask (buffer_of p.own.stock k)) long)

  charged_there : (x : ℕ) → x ≢ k → (buffer_of q.own.stock x).to_post ≡ (buffer_of p.own.stock x).to_post
  charged_there x other = ap (λ (c : Buffer). c.to_post) (buffer_else p.own.stock k (buffer_after_charge mask (buffer_of p.own.stock k)) x other)

  sent_by_me : first.sender ≡ p.own.number
  sent_by_me =
      let old = (mine p m places w now deed).sends in
      All-contains (λ (x : Message). x.sender ≡ me) p.client.state.sends first old.own (All-head (Contains p.client.state.sends) first rest (subst (All (Contains p.client.state.sends)) may.outbox old.waiting))

  is_letter : IsLetter now me k (letter_of p.client first)
  is_letter = record {
    head = content_is p.own.buffers m places w.floor me p w.here k 0 may.within (omega arith) ∙ may.head;
    body = content_is p.own.buffers m places w.floor me p w.here k 1 may.within (omega arith) ∙ may.body;
    fits = may.fits;
    value = may.value;
    sender = sent_by_me;
  }

  letters : Letters now me q
  letters =
      let old = (mine p m places w now deed).letters in
      record {
        sized = length-set p.client.filled k (first_letter p.client p.client.outbox) ∙ old.sized;
        counted = λ x lx on. dite (ℕ_discrete x k)
            (λ same. subst (λ (y : ℕ). IsLetter now me y (letter_in q.client y)) (sym same) (subst (IsLetter now me k) (sym letter_here) is_letter))
            (λ other. subst (IsLetter now me x) (sym (letter_there x other)) (letter_still m now me x (letter_in p.client x) (λ y. refl) (old.counted x lx (subst (λ (c : ℕ). 0 < c) (count_there x other) on))));
        sending = λ x is. let same : k ≡ x = (cc) in subst (IsSending q) same (record { first = first; rest = rest; within = may.within; outbox = may.outbox; owed = λ e. may.others.0 (sym charged_here ∙ e); filled = letter_here });
        others = λ x owed. dite (ℕ_discrete x k)
            (λ same. ap Some (sym same))
            (λ other. let s = old.others x (λ e. owed (charged_there x other ∙ e)) in let n = may.none in absurd (cc));
      }

  once_sent : AreChargedOnce p.client.federation p.client.state.sends p.client.outbox (Some k) q.client.filled
  once_sent =
      let old = (mine p m places w now deed).sends in
      let none : AreChargedOnce p.client.federation p.client.state.sends p.client.outbox None p.client.filled = subst (λ (o : Option ℕ). AreChargedOnce p.client.federation p.client.state.sends p.client.outbox o p.client.filled) may.none old.once in
      let lk : k < length p.client.filled = (let s = (mine p m places w now deed).letters.sized in let l = may.within in omega arith) in
      let passes = All-head (λ (x : Message). is_transported p.client.federation x ≡ true) first rest (subst (All (λ (x : Message). is_transported p.client.federation x ≡ true)) may.outbox old.transported) in
      let sent = All-head (Contains p.client.state.sends) first rest (subst (All (Contains p.client.state.sends)) may.outbox old.waiting) in
      let made = charged_once p.client.federation p.client.state.sends old.numbered p.client.outbox rest first may.outbox p.client.filled k (letter_of p.client first) refl lk
      (filter_contains (is_transported p.client.federation) p.client.state.sends first passes sent) none in
      subst (AreChargedOnce p.client.federation p.client.state.sends p.client.outbox (Some k)) (sym filled_is) made

  left_is : (i : ℕ) → left_of p.client.sending p.own.stock p.client.federation i p.client.outbox ≡ left_of (Some k) q.own.stock p.client.federation i p.client.outbox
  left_is i =
      let f : Parts = p.client.federation in
      let owed : has_bit (buffer_of q.own.stock k).to_post i ≡ has_receiver f i first = ap (λ (x : ℕ). has_bit x i) (charged_here ∙ may.all) in
      (λ t. left_of (may.none t) p.own.stock f i (may.outbox t))
      ∙ (ap (λ (b : Bool). cond b (first ∷ filter (has_receiver f i) rest) (filter (has_receiver f i) rest)) (sym owed)
      ∙ ap (left_of (Some k) q.own.stock f i) (sym may.outbox))

  sends : Sends me q
  sends =
      let old = (mine p m places w now deed).sends in
      record {
        own = old.own;
        numbered = old.numbered;
        next = old.next;
        timed = old.timed;
        takes_back = old.takes_back;
        waiting = old.waiting;
        late = old.late;
        transported = old.transported;
        behind = old.behind;
        once = once_sent;
        each = λ i li. old.each i li ∙ ap (λ (l : List Message). map (λ (f : Filled). f.message) (letters_posted_to i p.client) ++ l) (left_is i);
        receivers = old.receivers;
        coloured = old.coloured;
        few = old.few;
        new = old.new;
      }

  there_me : p.own.number < length places
  there_me = at_inside places p.own.number p w.here

  -- nobody has the buffer on its way, in hand or in a queue
  module _ (j : ℕ) (s : P) (at : get_elem? places j ≡ some s) where
    none : (count_by (is_in_hand me k) s.client.in_hand ≡ 0) × (count_by (waits_in me k) s.client.queue ≡ 0) × (count_by (is_spent me k) s.client.spent ≡ 0)
    none = not_held p m places w j s at me k there_me may.within (free_off p m places w j s at me k p w.here may.within may.chargeable.0).1

    off : copies_on_way (mark_in_mail m me j) me s.client.in_hand k ≡ 0
    off = let a = (free_off p m places w j s at me k p w.here may.within may.chargeable.0).0 in let b = none.0 in omega arith

    way_before : Way p.own.buffers (mark_in_mail m me j) me j q.client s.client
    way_before = way_relettered p.own.buffers (mark_in_mail m me j) me j p.client s.client q.client refl
        (λ x lx. dite (ℕ_discrete x k) (λ same. inr (ap (copies_on_way (mark_in_mail m me j) me s.client.in_hand) same ∙ off)) (λ other. inl (letter_there x other)))
        (λ x d lx from.
        let h : InHand = get_or s.client.in_hand x d in
        letter_there h.buffer (λ same. let c = count_has (is_in_hand me k) s.client.in_hand h (Contains-get_or s.client.in_hand x d lx) (hand_here me k h from same) in let z = none.0 in absurd (omega arith)))
        (λ x d lx from y is.
        let e : Entry = get_or s.client.queue x d in
        letter_there y (λ same. let c = count_has (waits_in me k) s.client.queue e (Contains-get_or s.client.queue x d lx) (waits_here me k e from (is ∙ ap Some same)) in let z = none.1 in absurd (omega arith)))
        (w.client.ways me j p s w.here at)

  way_me : (j : ℕ) (s : P) → Was places me p q j s → WayBetween now me j q s
  way_me j s tj = way_still p.own.buffers (mark_in_mail m me j) (mark_in_mail now me j) me j q.client tj.before.client q.client s.client (λ x lx. refl) refl
      (still (λ (x : P). got x.client) places me p q refl j s tj) (way_before j tj.before tj.at)

  pub charge : RuleStays lbts_rule m places now (slice_set places p.own.number (place_after view_after (Charged k mask) p))
  charge = kept p m places w now deed (record { words = λ r. refl; federation = refl; same = refl; time = refl }) (record {
    letters = letters;
    others = λ i r other at.
        letters_aside m now i r (λ x lx on. subst (λ (c : ℕ). 0 < c) (count_else m me k i x (becomes deed (m (Count me k))) (λ a. absurd (other a))) on) (λ x y lx on. refl) (w.client.each i r at).letters;
    holdings = let old = (mine p m places w now deed).holdings in record { each = old.each; in_hand = old.in_hand; queue = old.queue; spent = old.spent };
    queue = let old = (mine p m places w now deed).queue in record { ordered = old.ordered; apart = old.apart; is = old.is; ahead = old.ahead; settled = old.settled };
    heard = let old = (mine p m places w now deed).heard in record { orphans = old.orphans; came = old.came; past = old.past };
    granting = let old = (mine p m places w now deed).granting in record { lawful = old.lawful; below = old.below; within = old.within; wish = old.wish; asked = old.asked };
    sends = sends;
    ways = ways_from places me p q (WayBetween now) way_me (λ i j r s other at tj.
        way_still r.own.buffers (mark_in_mail m i j) (mark_in_mail now i j) i j r.client tj.before.client r.client s.client (λ x lx. refl) refl
        (still (λ (x : P). got x.client) places me p q refl j s tj) (w.client.ways i j r tj.before at tj.at));
    rounds = rises_keep_rounds places me p q w.here w.client.rounds (record { rises = omega arith; is = refl });
  })

pub charges_keep : ChargesKeep lbts_rule
charges_keep p k mask first rest may m places w = charge p k mask first rest may m places w
