-- A copy is posted.
use Rattle.std.proofs.Common.{◌≡◌, ◌≢◌, ℕ, ◌+◌, ◌/◌, ◌%◌, ◌^◌, ◌<◌, ◌≤◌, ◌==◌, nat_le, Bool, cond, true, false, not, ⊎_elim, List, [], ◌∷◌, ◌++◌, length, map, filter, drop, Option, Some, None, refl, sym, ap, ◌∙◌, subst, arith, eqb-true, eq-eqb}
use Rattle.std.specs.List.{count_by, All, Contains}
use Rattle.std.specs.Prelude.{slice_set, bit_xor}
use Rattle.std.specs.Int.{bit_at}
use Rattle.std.proofs.lemmas.Bool.{cases_Bool, ne_eqb, or_right, and_parts, leb-true}
use Rattle.std.proofs.lemmas.List.Elements.{All-drop, All-push, All-head, filter-append}
use Rattle.std.proofs.lemmas.List.{map-append, append-nil}
use Rattle.std.proofs.lemmas.Nat.Bits.{bit_at-zero, bit_at-pow_other}
use Rattle.std.specs.Int.Bits.{xor_self}
use mathlib.Core.Logic.{dite}
use mathlib.Core.Option.{some}
use native.Mathlib.Decide.{ℕ_discrete}
use lib.ListN.{get_elem?}
use Rattle.kit_base.specs.declared.message.Message.{Message}
use Rattle.kit_ground.specs.declared.address.Address.TheVariants.{Mail}
use Rattle.kit_ground.specs.declared.place.Buffer.{Buffer}
use Rattle.kit_ground.specs.declared.place.Deed.{Deed}
use Rattle.kit_ground.specs.declared.place.Deed.TheVariants.{PostedTo}
use Rattle.kit_ground.specs.declared.place.Place.{Place}
use Rattle.kit_ground.specs.declared.place.SeatBuffers.{SeatBuffers}
use Rattle.kit_ground.specs.Memory.{Memory, with_word}
use Rattle.kit_ground.specs.Rules.{RuleStays, World}
use Rattle.kit_ground.specs.Steps.{place_after, becomes, buffer_of, buffer_after_post}
use Rattle.kit_ground.proofs.Bits.{flipped_else, flipped_here, joined_else, joined_here, xor_zero}
use Rattle.kit_ground.proofs.Lists.{at_inside}
use Rattle.kit_ground.proofs.MailWords.{same_buffer}
use Rattle.kit_ground.proofs.Memories.{mail_else, stored_here}
use Rattle.kit_ground.proofs.PlaceFacts.{buffers_wide}
use Rattle.kit_rules.specs.Parts.{Parts}
use Rattle.kit_rules.specs.Delivery.{has_bit, is_transported}
use Rattle.kit_rounds.specs.Ledgers.{last_run}
use Rattle.kit_lbts.specs.declared.view.Filled.{Filled}
use Rattle.kit_lbts.specs.declared.view.Posting.{Posting}
use Rattle.kit_lbts.specs.declared.view.LbtsView.{LbtsView}
use Rattle.kit_lbts.specs.Views.{has_receiver, is_in_hand, is_new, is_empty, time_of, transported_of}
use Rattle.kit_lbts.specs.Promises.{added_of, copy_posted}
use Rattle.kit_lbts.specs.Letters.{IsSending, Letters, letter_in}
use Rattle.kit_lbts.specs.LedgerLaws.{IsPostable}
use Rattle.kit_lbts.specs.Seats.{AreChargedOnce, Sends, left_of}
use Rattle.kit_lbts.specs.Ways.{Way, WayBetween, copies_on_way, mark_in_mail, letters_posted_to}
use Rattle.kit_lbts.specs.Progress.{view_after}
use Rattle.kit_lbts.specs.Rule.{RoundsHold, lbts_rule}
use Rattle.kit_lbts.specs.MessageLaws.{PostsKeep}
use Rattle.kit_lbts.proofs.Charging.{behind_by, posted_once}
use Rattle.kit_lbts.proofs.Changes.{Was, kept, mine, still, ways_from}
use Rattle.kit_lbts.proofs.Dues.{adds, due_ahead}
use Rattle.kit_lbts.proofs.LetterFacts.{letters_aside, letter_still}
use Rattle.kit_lbts.proofs.OnWay.{not_held, owed_off}
use Rattle.kit_lbts.proofs.Owing.{buffer_else, buffer_here}
use Rattle.kit_lbts.proofs.PostSteps.{posts_are}
use Rattle.kit_lbts.proofs.RoundSteps.{posts_keep_rounds}
use Rattle.kit_lbts.proofs.Ways.{got, way_still, way_posted}

abbrev P : Type 0
P = Place LbtsView

-- without the first, where it is taken out
all_left : {X : Type 0} (A : X → Type 0) (b : Bool) (xs : List X) → All A xs → All A (cond b (drop 1 xs) xs)
all_left A true xs h = All-drop A 1 xs h
all_left A false xs h = h

-- where no buffer is being posted, all is left
pub left_none : (s : SeatBuffers) (f : Parts) (i : ℕ) (ms : List Message) → left_of None s f i ms ≡ filter (has_receiver f i) ms
left_none s f i [] = refl
left_none s f i (m ∷ ms) = refl

push_assoc : (xs : List Message) (y : Message) (zs : List Message) → xs ++ y ∷ zs ≡ (xs ++ y ∷ []) ++ zs
push_assoc [] y zs = refl
push_assoc (x ∷ xs) y zs = ap (λ (l : List Message). x ∷ l) (push_assoc xs y zs)

both_zero : (a c : ℕ) → a ≡ 0 → c ≡ 0 → a + c ≡ 0
both_zero a c x y = omega arith

module _ (p : P) (k j : ℕ) (lk : k < p.own.buffers) (lj : j < p.own.federates) (owed : bit_at (buffer_of p.own.stock k).to_post j ≡ 1) (m : Memory) (places : List P) (w : World lbts_rule p m places) where
  abbrev me : ℕ
  me = p.own.number

  abbrev mask : ℕ
  mask = (buffer_of p.own.stock k).to_post

  abbrev deed : Deed
  deed = PostedTo k j

  abbrev now : Memory
  now = with_word m (Mail j p.own.number (k / 64)) (becomes (PostedTo k j) (m (Mail j p.own.number (k / 64))))

  abbrev q : P
  q = place_after view_after (PostedTo k j) p

  some_owed : mask ≢ 0
  some_owed e = let z : bit_at mask j ≡ 0 = ap (λ (x : ℕ). bit_at x j) e ∙ bit_at-zero j in let o = owed in absurd (omega arith)

  sending_is : p.client.sending ≡ Some k
  sending_is = (mine p m places w now deed).letters.others k some_owed

  before : IsSending p k
  before = (mine p m places w now deed).letters.sending k sending_is

  long : k < length p.own.stock.buffers
  long = let e : length p.own.stock.buffers ≡ p.own.buffers = buffers_wide p.own.buffers m places w.floor me p w.here in let l = lk in omega arith

  owed_here : (buffer_of q.own.stock k).to_post ≡ bit_xor mask (2 ^ j)
  owed_here = ap (λ (c : Buffer). c.to_post) (buffer_here p.own.stock k (buffer_after_post j (buffer_of p.own.stock k)) long)

  owed_there : (x : ℕ) → x ≢ k → (buffer_of q.own.stock x).to_post ≡ (buffer_of p.own.stock x).to_post
  owed_there x other = ap (λ (c : Buffer). c.to_post) (buffer_else p.own.stock k (buffer_after_post j (buffer_of p.own.stock k)) x other)

  -- ---- whether it is the last post of the message
  abbrev last : Bool
  last = mask == 2 ^ j

  last_is : last ≡ true → mask ≡ 2 ^ j
  last_is e = eqb-true mask (2 ^ j) e

  none_owed : last ≡ true → bit_xor mask (2 ^ j) ≡ 0
  none_owed e = ap (λ (x : ℕ). bit_xor x (2 ^ j)) (last_is e) ∙ xor_self (2 ^ j)

  more_owed : last ≡ false → bit_xor mask (2 ^ j) ≢ 0
  more_owed e z = let same = eq-eqb mask (2 ^ j) (xor_zero mask (2 ^ j) z) in absurd (let t : true ≡ false = sym same ∙ e in (cc))

  outbox_last : last ≡ true → q.client.outbox ≡ before.rest
  outbox_last e = ap (λ (b : Bool). cond b (drop 1 p.client.outbox) p.client.outbox) e ∙ ap (drop 1) before.outbox

  outbox_same : last ≡ false → q.client.outbox ≡ p.client.outbox
  outbox_same e = ap (λ (b : Bool). cond b (drop 1 p.client.outbox) p.client.outbox) e

  sending_last : last ≡ true → q.client.sending ≡ None
  sending_last e = ap (λ (b : Bool). cond b None p.client.sending) e

  sending_same : last ≡ false → q.client.sending ≡ Some k
  sending_same e = ap (λ (b : Bool). cond b None p.client.sending) e ∙ sending_is

  letters : Letters now me q
  letters =
      let old = (mine p m places w now deed).letters in
      record {
        sized = old.sized;
        counted = λ x lx on. letter_still m now me x (letter_in p.client x) (λ y. refl) (old.counted x lx on);
        sending = λ x is. ⊎_elim
            (λ (e : last ≡ true). let n = sending_last e in absurd (cc))
            (λ (e : last ≡ false).
            let s = sending_same e in
            let same : k ≡ x = (cc) in
            subst (IsSending q) same (record { first = before.first; rest = before.rest; within = before.within; outbox = outbox_same e ∙ before.outbox; owed = λ z. more_owed e (sym owed_here ∙ z); filled = before.filled }))
            (cases_Bool last);
        others = λ x some. dite (ℕ_discrete x k)
            (λ same. ⊎_elim
            (λ (e : last ≡ true). absurd (some (ap (λ (y : ℕ). (buffer_of q.own.stock y).to_post) same ∙ (owed_here ∙ none_owed e))))
            (λ (e : last ≡ false). sending_same e ∙ ap Some (sym same))
            (cases_Bool last))
            (λ other.
            let s = old.others x (λ e. some (owed_there x other ∙ e)) in
            let t = sending_is in
            let same : x ≡ k = (cc) in
            absurd (other same));
      }

  -- ---- what is left
  abbrev f : Parts
  f = p.client.federation

  left_before : (i : ℕ) → left_of p.client.sending p.own.stock f i p.client.outbox ≡ left_of (Some k) p.own.stock f i (before.first ∷ before.rest)
  left_before i = λ t. left_of (sending_is t) p.own.stock f i (before.outbox t)

  left_last : (i : ℕ) → last ≡ true → left_of q.client.sending q.own.stock f i q.client.outbox ≡ filter (has_receiver f i) before.rest
  left_last i e = (λ t. left_of (sending_last e t) q.own.stock f i (outbox_last e t)) ∙ left_none q.own.stock f i before.rest

  left_more : (i : ℕ) → last ≡ false → left_of q.client.sending q.own.stock f i q.client.outbox ≡ left_of (Some k) q.own.stock f i (before.first ∷ before.rest)
  left_more i e = λ t. left_of (sending_same e t) q.own.stock f i ((outbox_same e ∙ before.outbox) t)

  -- the message goes to j where the mask has its bit
  by_bit : (i : ℕ) (s : SeatBuffers) (b : Bool) → has_bit (buffer_of s k).to_post i ≡ b → left_of (Some k) s f i (before.first ∷ before.rest) ≡ cond b (before.first ∷ filter (has_receiver f i) before.rest) (filter (has_receiver f i) before.rest)
  by_bit i s b e = ap (λ (c : Bool). cond c (before.first ∷ filter (has_receiver f i) before.rest) (filter (has_receiver f i) before.rest)) e

  bit_owed : has_bit mask j ≡ true
  bit_owed = ap (λ (x : ℕ). x == 1) owed

  bit_done : has_bit (buffer_of q.own.stock k).to_post j ≡ false
  bit_done = ap (λ (x : ℕ). has_bit x j) owed_here ∙ ap (λ (x : ℕ). x == 1) (flipped_here mask j owed)

  bit_else : (i : ℕ) → i ≢ j → has_bit (buffer_of q.own.stock k).to_post i ≡ has_bit mask i
  bit_else i other = ap (λ (x : ℕ). has_bit x i) owed_here ∙ ap (λ (x : ℕ). x == 1) (flipped_else mask j i other)

  left_here : left_of p.client.sending p.own.stock f j p.client.outbox ≡ before.first ∷ left_of q.client.sending q.own.stock f j q.client.outbox
  left_here = left_before j ∙ (by_bit j p.own.stock true bit_owed ∙ ap (λ (l : List Message). before.first ∷ l) (⊎_elim
      (λ (e : last ≡ true). sym (left_last j e))
      (λ (e : last ≡ false). sym (left_more j e ∙ by_bit j q.own.stock false bit_done))
      (cases_Bool last)))

  left_there : (i : ℕ) → i ≢ j → left_of p.client.sending p.own.stock f i p.client.outbox ≡ left_of q.client.sending q.own.stock f i q.client.outbox
  left_there i other = left_before i ∙ ⊎_elim
      (λ (e : last ≡ true). by_bit i p.own.stock false (ap (λ (x : ℕ). has_bit x i) (last_is e) ∙ ap (λ (x : ℕ). x == 1) (bit_at-pow_other j i other)) ∙ sym (left_last i e))
      (λ (e : last ≡ false). by_bit i p.own.stock (has_bit mask i) refl ∙ (sym (by_bit i q.own.stock (has_bit mask i) (bit_else i other)) ∙ sym (left_more i e)))
      (cases_Bool last)

  -- ---- what was posted
  abbrev made : Posting
  made = record { to = j; filled = letter_in p.client k }

  posted_push : (i : ℕ) → letters_posted_to i q.client ≡ letters_posted_to i p.client ++ map (λ (x : Posting). x.filled) (cond (j == i) (made ∷ []) [])
  posted_push i =
      ap (map (λ (x : Posting). x.filled)) (filter-append (λ (x : Posting). x.to == i) p.client.posted (made ∷ []))
      ∙ map-append (λ (x : Posting). x.filled) (filter (λ (x : Posting). x.to == i) p.client.posted) (cond (j == i) (made ∷ []) [])

  posted_here : letters_posted_to j q.client ≡ letters_posted_to j p.client ++ letter_in p.client k ∷ []
  posted_here = posted_push j ∙ ap (λ (b : Bool). letters_posted_to j p.client ++ map (λ (x : Posting). x.filled) (cond b (made ∷ []) [])) (eq-eqb j j refl)

  posted_there : (i : ℕ) → i ≢ j → letters_posted_to i q.client ≡ letters_posted_to i p.client
  posted_there i other = posted_push i ∙ (ap (λ (b : Bool). letters_posted_to i p.client ++ map (λ (x : Posting). x.filled) (cond b (made ∷ []) [])) (ne_eqb j i (λ e. other (sym e))) ∙ append-nil (letters_posted_to i p.client))

  abbrev messages : List Filled → List Message
  messages l = map (λ (x : Filled). x.message) l

  message_is : (letter_in p.client k).message ≡ before.first
  message_is = ap (λ (x : Filled). x.message) before.filled

  abbrev Sent : ℕ → Type 0
  Sent i = filter (has_receiver f i) (transported_of q.client) ≡ messages (letters_posted_to i q.client) ++ left_of q.client.sending q.own.stock f i q.client.outbox

  sent_here : Sent j
  sent_here =
      let old = (mine p m places w now deed).sends in
      let left = left_of q.client.sending q.own.stock f j q.client.outbox in
      old.each j lj ∙ (ap (λ (l : List Message). messages (letters_posted_to j p.client) ++ l) left_here
      ∙ (push_assoc (messages (letters_posted_to j p.client)) before.first left
      ∙ ap (λ (l : List Message). l ++ left) (sym (ap messages posted_here
      ∙ (map-append (λ (x : Filled). x.message) (letters_posted_to j p.client) (letter_in p.client k ∷ [])
      ∙ ap (λ (x : Message). messages (letters_posted_to j p.client) ++ x ∷ []) message_is)))))

  sent_there : (i : ℕ) → i < p.own.federates → i ≢ j → Sent i
  sent_there i li other =
      let old = (mine p m places w now deed).sends in
      old.each i li ∙ (λ t. messages (sym (posted_there i other) t) ++ left_there i other t)

  abbrev Once : List Message → Option ℕ → Type 0
  Once outbox sending = AreChargedOnce f p.client.state.sends outbox sending p.client.filled

  once_sent : Once q.client.outbox q.client.sending
  once_sent =
      let old = (mine p m places w now deed).sends in
      ⊎_elim
      (λ (e : last ≡ true). subst (λ (x : List Message × Option ℕ). Once x.0 x.1) (λ t. (sym (outbox_last e) t, sym (sending_last e) t))
      (posted_once f p.client.state.sends old.numbered p.client.outbox before.rest before.first before.outbox p.client.filled k old.behind.0 old.behind.1 message_is (subst (Once p.client.outbox) sending_is old.once)))
      (λ (e : last ≡ false). subst (λ (x : List Message × Option ℕ). Once x.0 x.1) (λ t. (sym (outbox_same e) t, (sending_is ∙ sym (sending_same e)) t)) old.once)
      (cases_Bool last)

  sends : Sends me q
  sends =
      let old = (mine p m places w now deed).sends in
      record {
        own = old.own;
        numbered = old.numbered;
        next = old.next;
        timed = old.timed;
        takes_back = old.takes_back;
        waiting = all_left (Contains p.client.state.sends) last p.client.outbox old.waiting;
        late = all_left (λ (x : Message). time_of p.client + added_of p ≤ x.time) last p.client.outbox old.late;
        transported = all_left (λ (x : Message). is_transported p.client.federation x ≡ true) last p.client.outbox old.transported;
        behind = behind_by last old.behind.0 p.client.outbox (transported_of p.client) old.behind.1;
        once = once_sent;
        each = λ i li. dite (ℕ_discrete i j) (λ same. subst Sent (sym same) sent_here) (λ other. sent_there i li other);
        receivers = All-push (λ (x : Posting). x.to < p.own.federates) p.client.posted made old.receivers lj;
        coloured = All-push (λ (x : Posting). x.filled.colour ≤ last_run p.client.contributions) p.client.posted made old.coloured (omega (arith, ap (λ (x : Filled). x.colour) before.filled));
        few = old.few;
        new = λ e. let n = (old.new e).3 in let o = before.outbox in absurd (cc);
      }

  -- ---- the channels
  marked_here : mark_in_mail now me j k ≡ 1
  marked_here = ap (λ (x : ℕ). bit_at x (k % 64)) (stored_here m (Mail j me (k / 64)) (becomes deed (m (Mail j me (k / 64))))) ∙ joined_here (m (Mail j me (k / 64))) (k % 64)

  marked_there : (x : ℕ) → x ≢ k → mark_in_mail now me j x ≡ mark_in_mail m me j x
  marked_there x other =
      let old : ℕ = m (Mail j me (k / 64)) in
      dite (ℕ_discrete (x / 64) (k / 64))
      (λ same. (λ t. bit_at (now (Mail j me (same t))) (x % 64))
      ∙ (ap (λ (y : ℕ). bit_at y (x % 64)) (stored_here m (Mail j me (k / 64)) (becomes deed old))
      ∙ (joined_else old (k % 64) (x % 64) (λ e. other (same_buffer x k same e)) ∙ (λ t. bit_at (m (Mail j me (sym same t))) (x % 64)))))
      (λ apart. ap (λ (y : ℕ). bit_at y (x % 64)) (mail_else m j me (k / 64) j me (x / 64) (becomes deed old) (λ _ _. apart)))

  marked_else : (i l : ℕ) → (i ≡ me → l ≢ j) → (x : ℕ) → mark_in_mail now i l x ≡ mark_in_mail m i l x
  marked_else i l apart x = ap (λ (y : ℕ). bit_at y (x % 64)) (mail_else m j me (k / 64) l i (x / 64) (becomes deed (m (Mail j me (k / 64)))) (λ a e. absurd (apart a e)))

  there_me : p.own.number < length places
  there_me = at_inside places p.own.number p w.here

  way_here : (s : P) → get_elem? places j ≡ some s → Way p.own.buffers (mark_in_mail now me j) me j q.client s.client
  way_here s at =
      let t = owed_off p m places w j s at me k p w.here lk owed in
      let n = not_held p m places w j s at me k there_me lk t.1 in
      let off : copies_on_way (mark_in_mail m me j) me s.client.in_hand k ≡ 0 = both_zero (mark_in_mail m me j k) (count_by (is_in_hand me k) s.client.in_hand) t.0 n.0 in
      way_posted p.own.buffers (mark_in_mail m me j) (mark_in_mail now me j) me j p.client s.client q.client k lk posted_here refl off marked_here (λ x lx other. marked_there x other) (w.client.ways me j p s w.here at)

  way_me : (l : ℕ) (s : P) → Was places me p q l s → WayBetween now me l q s
  way_me l s tl = dite (ℕ_discrete l j)
      (λ same. subst (λ (x : ℕ). Way p.own.buffers (mark_in_mail now me x) me x q.client s.client) (sym same)
      (way_still p.own.buffers (mark_in_mail now me j) (mark_in_mail now me j) me j q.client tl.before.client q.client s.client (λ x lx. refl) refl
      (still (λ (x : P). got x.client) places me p q refl l s tl) (way_here tl.before (subst (λ (x : ℕ). get_elem? places x ≡ some tl.before) same tl.at))))
      (λ other. way_still p.own.buffers (mark_in_mail m me l) (mark_in_mail now me l) me l p.client tl.before.client q.client s.client (λ x lx. marked_else me l (λ _. other) x)
      (λ t. (posted_there l other t, letter_in p.client))
      (still (λ (x : P). got x.client) places me p q refl l s tl) (w.client.ways me l p tl.before w.here tl.at))

  -- ---- the rounds
  late : time_of p.client + added_of p ≤ before.first.time
  late = All-head (λ (x : Message). time_of p.client + added_of p ≤ x.time) before.first before.rest (subst (All (λ (x : Message). time_of p.client + added_of p ≤ x.time)) before.outbox (mine p m places w now deed).sends.late)

  in_time : before.first.time ≤ p.client.federation.end
  in_time =
      let t : is_transported p.client.federation before.first ≡ true =
      All-head (λ (x : Message). is_transported p.client.federation x ≡ true) before.first before.rest (subst (All (λ (x : Message). is_transported p.client.federation x ≡ true)) before.outbox (mine p m places w now deed).sends.transported) in
      leb-true before.first.time p.client.federation.end (and_parts (nat_le before.first.time p.client.federation.end) _ t).0

  postable : IsPostable p k (letter_in p.client k)
  postable =
      let rule = mine p m places w now deed in
      record {
        is = refl;
        colour = ap (λ (x : Filled). x.colour) before.filled;
        late = subst (λ (x : Message). time_of p.client + added_of p ≤ x.time) (sym message_is) late;
        some = adds p m places w;
        waits = or_right (is_new p.client.request) (not (is_empty p.client.outbox)) (ap (λ (o : List Message). not (is_empty o)) before.outbox);
        ahead = due_ahead me p rule.granting rule.queue (λ e. let n = (rule.sends.new e).3 in let o = before.outbox in absurd (cc)) (let a = late in let b = in_time in let c = adds p m places w in omega arith);
      }

  rounds : RoundsHold (slice_set places me q)
  rounds = posts_keep_rounds places me p q (copy_posted made) w.here w.client.rounds
      (posts_are (length places) p k j (letter_in p.client k) (subst (λ (n : ℕ). j < n) (w.floor.each me p w.here).federates lj) postable)

  pub post : RuleStays lbts_rule m places now (slice_set places p.own.number (place_after view_after (PostedTo k j) p))
  post = kept p m places w now deed (record { words = λ r. refl; federation = refl; same = refl; time = refl }) (record {
    letters = letters;
    others = λ i r other at. letters_aside m now i r (λ x lx on. on) (λ x y lx on. refl) (w.client.each i r at).letters;
    holdings = let old = (mine p m places w now deed).holdings in record { each = old.each; in_hand = old.in_hand; queue = old.queue; spent = old.spent };
    queue = let old = (mine p m places w now deed).queue in record { ordered = old.ordered; apart = old.apart; is = old.is; ahead = old.ahead; settled = old.settled };
    heard = let old = (mine p m places w now deed).heard in record { orphans = old.orphans; came = old.came; past = old.past };
    granting = let old = (mine p m places w now deed).granting in record { lawful = old.lawful; below = old.below; within = old.within; wish = old.wish; asked = old.asked };
    sends = sends;
    ways = ways_from places me p q (WayBetween now) way_me (λ i l r s other at tl.
        way_still r.own.buffers (mark_in_mail m i l) (mark_in_mail now i l) i l r.client tl.before.client r.client s.client (λ x lx. marked_else i l (λ a. absurd (other a)) x) refl
        (still (λ (x : P). got x.client) places me p q refl l s tl) (w.client.ways i l r tl.before at tl.at));
    rounds = rounds;
  })

pub posts_keep : PostsKeep lbts_rule
posts_keep p k j lk lj owed m places w = post p k j lk lj owed m places w
