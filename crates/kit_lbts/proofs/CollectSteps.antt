-- A mail word is collected, by a federate whose start's rules have run.
use Rattle.std.proofs.Common.{◌≡◌, ◌≢◌, ℕ, ◌+◌, ◌*◌, ◌/◌, ◌%◌, ◌<◌, ◌≤◌, ◌==◌, ◌&&◌, Bool, cond, true, false, ⊎_elim, max, List, ◌++◌, length, map, None, refl, sym, ap, ◌∙◌, subst, arith, get_or-set_same, get_or-set_other, eq-eqb}
use Rattle.std.proofs.lemmas.List.{set-set}
use Rattle.std.specs.List.{count_by, range_with_len, All}
use Rattle.std.specs.Prelude.{slice_index, slice_set, bit_or}
use Rattle.std.specs.Int.{bit_at}
use Rattle.std.proofs.lemmas.Bool.{ne_eqb, cases_Bool}
use Rattle.std.proofs.lemmas.List.Elements.{All-append, All-filter, All-map, All-weaker}
use Rattle.std.proofs.lemmas.Nat.Bits.{bit_at-lt, bit_at_or, bit_at-zero}
use mathlib.Core.Logic.{dite}
use native.Mathlib.Decide.{ℕ_discrete}
use Rattle.kit_base.specs.declared.message.Message.{Message}
use Rattle.kit_ground.specs.declared.address.Address.TheVariants.{Mail}
use Rattle.kit_ground.specs.declared.place.Deed.{Deed}
use Rattle.kit_ground.specs.declared.place.Deed.TheVariants.{Collected}
use Rattle.kit_ground.specs.declared.place.Place.{Place}
use Rattle.kit_ground.specs.Memory.{Memory, with_word}
use Rattle.kit_ground.specs.Rules.{RuleStays, World, stock_of}
use Rattle.kit_ground.specs.Steps.{place_after, mail_mask, own_after}
use Rattle.kit_ground.proofs.Lists.{at_inside}
use Rattle.kit_ground.proofs.MailWords.{mask_else, mask_here, whole_buffer}
use Rattle.kit_ground.proofs.Memories.{mail_else, stored_here}
use Rattle.kit_ground.proofs.PlaceFacts.{holds_wide}
use Rattle.kit_ground.proofs.SetFacts.{posted_due}
use Rattle.kit_rules.specs.Delivery.{has_bit}
use Rattle.kit_rounds.specs.Steps.{Rises}
use Rattle.kit_lbts.specs.declared.view.Filled.{Filled}
use Rattle.kit_lbts.specs.declared.view.InHand.{InHand}
use Rattle.kit_lbts.specs.declared.view.LbtsView.{LbtsView}
use Rattle.kit_lbts.specs.Views.{is_in_hand, is_new, is_spent, time_of}
use Rattle.kit_lbts.specs.Promises.{ledger_of}
use Rattle.kit_lbts.specs.Letters.{Letters}
use Rattle.kit_lbts.specs.Seats.{Granting, Receiving, Holdings, Queue, Sends, most_sends, waits_in}
use Rattle.kit_lbts.specs.Ways.{Way, WayBetween, mark_in_mail, letters_posted_to}
use Rattle.kit_lbts.specs.Progress.{buffers_in, view_after_collect, in_hand, view_after, view_when_ready, view_after_start}
use Rattle.kit_lbts.specs.Rule.{LbtsRule, lbts_rule}
use Rattle.kit_lbts.specs.MessageLaws.{CollectsKeep}
use Rattle.kit_lbts.proofs.Changes.{Was, kept, mine, said, still, ways_to}
use Rattle.kit_lbts.proofs.Hands.{below_row, count_append, count_come, count_come_else, one_if}
use Rattle.kit_lbts.proofs.LetterFacts.{letters_aside}
use Rattle.kit_lbts.proofs.OnWay.{holding_is}
use Rattle.kit_lbts.proofs.Owing.{left_same}
use Rattle.kit_lbts.proofs.Starting.{started_world}
use Rattle.kit_lbts.proofs.RoundSteps.{rises_keep_rounds}
use Rattle.kit_lbts.proofs.Ways.{got, sent, way_collected, way_still}

abbrev P : Type 0
P = Place LbtsView

-- a bit as a test
bit_test : (b x : ℕ) → x < 2 → one_if (x == 1) ≡ x
bit_test b x lt = dite (ℕ_discrete x 1)
    (λ one. ap one_if (eq-eqb x 1 one) ∙ sym one)
    (λ other. ap one_if (ne_eqb x 1 other) ∙ (let z : 0 ≡ x = omega arith in z))

either_bit : (a z : ℕ) → z < 2 → a < 2 → (a ≡ 1 → z ≡ 0) → max z a ≡ z + a
either_bit a z lz la apart = dite (ℕ_discrete a 1) (λ one. let n = apart one in omega arith) (λ other. omega arith)

module _ (p : P) (i word : ℕ) (li : i < p.own.federates) (old_seat : is_new p.client.request ≡ false) (m : Memory) (places : List P) (w : World lbts_rule p m places) where
  abbrev me : ℕ
  me = p.own.number

  abbrev mail : ℕ
  mail = m (Mail p.own.number i word)

  abbrev deed : Deed
  deed = Collected i word (m (Mail p.own.number i word))

  abbrev now : Memory
  now = with_word m (Mail p.own.number i word) 0

  abbrev q : P
  q = place_after view_after (Collected i word (m (Mail p.own.number i word))) p

  abbrev new : List InHand
  new = map (in_hand i) (buffers_in p.own.buffers word (m (Mail p.own.number i word)))

  abbrev then : LbtsView
  then = record p.client { in_hand = p.client.in_hand ++ new }

  abbrev with : LbtsView → P
  with v = record { own = own_after (Collected i word (m (Mail p.own.number i word))) p.own; client = v }

  is : q.client ≡ then
  is = ap (λ (b : Bool). view_after_collect p.own.buffers i word mail (cond b (view_after_start p.own.number p.client) p.client)) old_seat

  there_i : i < length places
  there_i = subst (λ (n : ℕ). i < n) (w.floor.each me p w.here).federates li

  there_me : p.own.number < length places
  there_me = at_inside places p.own.number p w.here

  -- what came of a buffer
  passes : ℕ → Bool
  passes c = c / 64 == word && has_bit mail (c % 64)

  here : (c : ℕ) → c / 64 ≡ word → bit_at mail (c % 64) ≡ mark_in_mail m i me c
  here c same = λ t. bit_at (m (Mail me i (sym same t))) (c % 64)

  came_here : (c : ℕ) → c < p.own.buffers → c / 64 ≡ word → count_by (is_in_hand i c) new ≡ mark_in_mail m i me c
  came_here c lc same =
      count_come (λ k. k / 64 == word && has_bit mail (k % 64)) i c p.own.buffers lc
      ∙ (ap (λ (b : Bool). one_if (b && has_bit mail (c % 64))) (eq-eqb (c / 64) word same)
      ∙ (bit_test 0 (bit_at mail (c % 64)) (bit_at-lt mail (c % 64)) ∙ here c same))

  came_else : (c : ℕ) → c < p.own.buffers → c / 64 ≢ word → count_by (is_in_hand i c) new ≡ 0
  came_else c lc other =
      count_come (λ k. k / 64 == word && has_bit mail (k % 64)) i c p.own.buffers lc
      ∙ ap (λ (b : Bool). one_if (b && has_bit mail (c % 64))) (ne_eqb (c / 64) word other)

  marked_here : (c : ℕ) → c / 64 ≡ word → mark_in_mail now i me c ≡ 0
  marked_here c same = (λ t. bit_at (now (Mail me i (same t))) (c % 64)) ∙ (ap (λ (x : ℕ). bit_at x (c % 64)) (stored_here m (Mail me i word) 0) ∙ bit_at-zero (c % 64))

  marked_else : (a l c : ℕ) → (a ≡ i → l ≡ me → c / 64 ≢ word) → mark_in_mail now a l c ≡ mark_in_mail m a l c
  marked_else a l c apart = ap (λ (x : ℕ). bit_at x (c % 64)) (mail_else m me i word l a (c / 64) 0 apart)

  moved : (c : ℕ) → c < p.own.buffers → mark_in_mail now i me c + count_by (is_in_hand i c) new ≡ mark_in_mail m i me c
  moved c lc = dite (ℕ_discrete (c / 64) word)
      (λ same. let a = marked_here c same in let b = came_here c lc same in omega arith)
      (λ other. let a = marked_else i me c (λ _ _. other) in let b = came_else c lc other in omega arith)

  moved_else : (a c : ℕ) → a ≢ i → mark_in_mail now a me c + count_by (is_in_hand a c) new ≡ mark_in_mail m a me c
  moved_else a c other = let x = marked_else a me c (λ e. absurd (other e)) in let y = count_come_else i a c (buffers_in p.own.buffers word mail) other in omega arith

  -- ---- what is held
  narrow : (c : ℕ) → bit_at mail c ≡ 1 → c < 64
  narrow c on = (w.floor.pool.narrow me i word c there_me there_i on).0

  mask_is : (c : ℕ) → c < p.own.buffers → bit_at (mail_mask word mail) c ≡ count_by (is_in_hand i c) new
  mask_is c lc = dite (ℕ_discrete (c / 64) word)
      (λ same.
      let place : 64 * word + c % 64 ≡ c = ap (λ (z : ℕ). 64 * z + c % 64) (sym same) ∙ whole_buffer c in
      ap (bit_at (mail_mask word mail)) (sym place) ∙ (mask_here word mail (c % 64) ∙ (here c same ∙ sym (came_here c lc same))))
      (λ other. mask_else word mail c narrow other ∙ sym (came_else c lc other))

  apart : (c : ℕ) → c < p.own.buffers → count_by (is_in_hand i c) new ≡ 1 → bit_at (slice_index p.own.stock.holds i) c ≡ 0
  apart c lc one = dite (ℕ_discrete (c / 64) word)
      (λ same. sym (holding_is p m places w me p w.here i c) ∙ (posted_due m (map stock_of places) (length places) p.own.buffers w.floor.pool i c there_i lc me there_me (sym (came_here c lc same) ∙ one)).2)
      (λ other. let z = came_else c lc other in absurd (omega arith))

  wide : i < length p.own.stock.holds
  wide = subst (λ (n : ℕ). i < n) ((w.floor.each me p w.here).federates ∙ sym (holds_wide p.own.buffers m places w.floor me p w.here)) li

  held_here : (c : ℕ) → c < p.own.buffers → bit_at (slice_index (own_after deed p.own).stock.holds i) c ≡ bit_at (slice_index p.own.stock.holds i) c + count_by (is_in_hand i c) new
  held_here c lc =
      let z : ℕ = bit_at (slice_index p.own.stock.holds i) c in
      let mask = mask_is c lc in
      let small : bit_at (mail_mask word mail) c < 2 = bit_at-lt (mail_mask word mail) c in
      ap (λ (x : ℕ). bit_at x c) (get_or-set_same p.own.stock.holds i (bit_or (slice_index p.own.stock.holds i) (mail_mask word mail)) 0 wide)
      ∙ (bit_at_or (slice_index p.own.stock.holds i) (mail_mask word mail) c
      ∙ (ap (max z) mask ∙ either_bit (count_by (is_in_hand i c) new) z (bit_at-lt (slice_index p.own.stock.holds i) c) (subst (λ (x : ℕ). x < 2) mask small) (apart c lc)))

  held_else : (a c : ℕ) → a ≢ i → bit_at (slice_index (own_after deed p.own).stock.holds a) c ≡ bit_at (slice_index p.own.stock.holds a) c
  held_else a c other = ap (λ (x : ℕ). bit_at x c) (get_or-set_other p.own.stock.holds i a (bit_or (slice_index p.own.stock.holds i) (mail_mask word mail)) 0 other)

  abbrev Held : ℕ → ℕ → Type 0
  Held a c = bit_at (slice_index (own_after (Collected i word (m (Mail p.own.number i word))) p.own).stock.holds a) c
      ≡ count_by (is_in_hand a c) (p.client.in_hand ++ new) + count_by (waits_in a c) p.client.queue + count_by (is_spent a c) p.client.spent

  held : (a c : ℕ) → a < p.own.federates → c < p.own.buffers → Held a c
  held a c la lc =
      let old = (mine p m places w now deed).holdings.each a c la lc in
      let sum = count_append (is_in_hand a c) p.client.in_hand new in
      dite (ℕ_discrete a i)
      (λ same. subst (λ (x : ℕ). Held x c) (sym same)
      (let old_i = (mine p m places w now deed).holdings.each i c li lc in let sum_i = count_append (is_in_hand i c) p.client.in_hand new in let h = held_here c lc in omega arith))
      (λ other. let h = held_else a c other in let z = count_come_else i a c (buffers_in p.own.buffers word mail) other in omega arith)

  holdings : Holdings (with then)
  holdings =
      let old = (mine p m places w now deed).holdings in
      let Inside : InHand → Type 0 = λ h. (h.from < p.own.federates) × (h.buffer < p.own.buffers) in
      record {
        each = held;
        in_hand = All-append Inside p.client.in_hand new old.in_hand (All-map Inside (in_hand i) (buffers_in p.own.buffers word mail)
            (All-weaker (λ (k : ℕ). k < p.own.buffers) (λ (k : ℕ). (i < p.own.federates) × (k < p.own.buffers)) (λ k lk. (li, lk)) (buffers_in p.own.buffers word mail)
            (All-filter (λ k. k / 64 == word && has_bit mail (k % 64)) (λ (k : ℕ). k < p.own.buffers) (range_with_len 0 p.own.buffers) (below_row p.own.buffers 0 p.own.buffers (omega arith)))));
        queue = old.queue;
        spent = old.spent;
      }

  queue : Queue me (with then)
  queue = let old = (mine p m places w now deed).queue in record { ordered = old.ordered; apart = old.apart; is = old.is; ahead = old.ahead; settled = old.settled }

  letters : Letters now me (with then)
  letters =
      let old = letters_aside m now me p (λ x lx on. on) (λ x y lx on. refl) (mine p m places w now deed).letters in
      record {
        sized = old.sized;
        counted = old.counted;
        sending = λ x e. let h = old.sending x e in record { first = h.first; rest = h.rest; within = h.within; outbox = h.outbox; owed = h.owed; filled = h.filled };
        others = old.others;
      }

  heard : Receiving then
  heard = let old = (mine p m places w now deed).heard in record { orphans = old.orphans; came = old.came; past = old.past }

  granting : Granting (with then)
  granting = let old = (mine p m places w now deed).granting in record { lawful = old.lawful; below = old.below; within = old.within; wish = old.wish; asked = old.asked }

  sends : Sends me (with then)
  sends = let old = (mine p m places w now deed).sends in record {
    own = old.own;
    numbered = old.numbered;
    next = old.next;
    timed = old.timed;
    takes_back = old.takes_back;
    waiting = old.waiting;
    late = old.late;
    transported = old.transported;
    behind = old.behind;
    once = old.once;
    each = λ x lx. old.each x lx ∙ ap (λ (l : List Message). map (λ (f : Filled). f.message) (letters_posted_to x p.client) ++ l) (sym (left_same p.client.sending (own_after deed p.own).stock p.own.stock p.client.federation x p.client.outbox (λ y. refl)));
    receivers = old.receivers;
    coloured = old.coloured;
    few = old.few;
    new = λ e. absurd (let t : true ≡ false = sym (ap is_new e) ∙ old_seat in (cc));
  }

  way_me : (a : ℕ) (r : P) → Was places me p q a r → WayBetween now a me r q
  way_me a r ta =
      let own = w.floor.each a ta.before ta.at in
      let b = still (λ (x : P). x.own.buffers) places me p q refl a r ta in
      let s : sent me r.client ≡ sent me ta.before.client = still (λ (x : P). sent me x.client) places me p q (ap (sent me) is) a r ta in
      let unread : All (λ (h : InHand). h.head ≡ None) new = All-map (λ (h : InHand). h.head ≡ None) (in_hand i) (buffers_in p.own.buffers word mail) (λ k d lk. refl) in
      let less : (k : ℕ) → k < ta.before.own.buffers → k < p.own.buffers = λ k lk. subst (λ (n : ℕ). k < n) own.buffers lk in
      let new_way : Way ta.before.own.buffers (mark_in_mail now a me) a me ta.before.client then =
      way_collected ta.before.own.buffers (mark_in_mail m a me) (mark_in_mail now a me) a me ta.before.client p.client new
      (λ k lk. dite (ℕ_discrete a i)
      (λ same. subst (λ (x : ℕ). mark_in_mail now x me k + count_by (is_in_hand x k) new ≡ mark_in_mail m x me k) (sym same) (moved k (less k lk)))
      (λ other. moved_else a k other))
      unread (w.client.ways a me ta.before p ta.at w.here) in
      subst (λ (n : ℕ). Way n (mark_in_mail now a me) a me r.client q.client) (sym b)
      (way_still ta.before.own.buffers (mark_in_mail now a me) (mark_in_mail now a me) a me ta.before.client then r.client q.client (λ x lx. refl) s (ap got is) new_way)

  pub collect : RuleStays lbts_rule m places now (slice_set places p.own.number (place_after view_after (Collected i word (m (Mail p.own.number i word))) p))
  collect = kept p m places w now deed (record { words = λ r. refl; federation = ap (λ (v : LbtsView). v.federation) is; same = ap said is; time = ap time_of is }) (record {
    letters = subst (λ (v : LbtsView). Letters now me (with v)) (sym is) letters;
    others = λ a r other at. letters_aside m now a r (λ x lx on. on) (λ x y lx on. refl) (w.client.each a r at).letters;
    holdings = subst (λ (v : LbtsView). Holdings (with v)) (sym is) holdings;
    queue = subst (λ (v : LbtsView). Queue me (with v)) (sym is) queue;
    heard = subst Receiving (sym is) heard;
    granting = subst (λ (v : LbtsView). Granting (with v)) (sym is) granting;
    sends = subst (λ (v : LbtsView). Sends me (with v)) (sym is) sends;
    ways = ways_to places me p q (WayBetween now) way_me (λ a l r s other at ta.
        let b = still (λ (x : P). x.own.buffers) places me p q refl a r ta in
        subst (λ (n : ℕ). Way n (mark_in_mail now a l) a l r.client s.client) (sym b)
        (way_still ta.before.own.buffers (mark_in_mail m a l) (mark_in_mail now a l) a l ta.before.client s.client r.client s.client (λ x lx. marked_else a l x (λ _ e. absurd (other e)))
        (still (λ (x : P). sent l x.client) places me p q (ap (sent l) is) a r ta) refl (w.client.ways a l ta.before s ta.at at)));
    rounds = rises_keep_rounds places me p q w.here w.client.rounds (subst (λ (v : LbtsView). Rises (ledger_of p) (ledger_of (with v))) (sym is) (record { rises = omega arith; is = refl }));
  })

-- where the start's rules have not run, they run first
first_collect : (p : P) (i word : ℕ) → i < p.own.federates → is_new p.client.request ≡ true → length (view_when_ready p.own.number p.client).state.sends ≤ most_sends → (m : Memory) (places : List P) (w : World lbts_rule p m places)
    → RuleStays lbts_rule m places (with_word m (Mail p.own.number i word) 0) (slice_set places p.own.number (place_after view_after (Collected i word (m (Mail p.own.number i word))) p))
first_collect p i word li fresh few m places w =
    let me : ℕ = p.own.number in
    let deed = Collected i word (m (Mail p.own.number i word)) in
    let now : Memory = with_word m (Mail p.own.number i word) 0 in
    let p' : P = record p { client = view_after_start p.own.number p.client } in
    let k = collect p' i word li refl m (slice_set places me p') (started_world p fresh (subst (λ (b : Bool). length (cond b (view_after_start p.own.number p.client) p.client).state.sends ≤ most_sends) fresh few) m places w) in
    let view : view_when_ready me p.client ≡ view_after_start me p.client = ap (λ (b : Bool). cond b (view_after_start p.own.number p.client) p.client) fresh in
    let same : place_after view_after deed p' ≡ place_after view_after deed p = λ t. record { own = own_after deed p.own; client = view_after_collect p.own.buffers i word (m (Mail p.own.number i word)) (sym view t) } in
    let after : slice_set (slice_set places me p') me (place_after view_after deed p') ≡ slice_set places me (place_after view_after deed p) =
    set-set places me p' (place_after view_after deed p') ∙ ap (slice_set places me) same in
    record { client = subst (LbtsRule now) after k.client; guests = λ g sees. tt }

pub collects_keep : CollectsKeep lbts_rule
collects_keep p i word li other lw few m places w = ⊎_elim
    (λ (e : is_new p.client.request ≡ true). first_collect p i word li e few m places w)
    (λ (e : is_new p.client.request ≡ false). collect p i word li e m places w)
    (cases_Bool (is_new p.client.request))
