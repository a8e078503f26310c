-- A buffer is released: one that was spent, or that of a message that waits on without it.
use Rattle.std.proofs.Common.{◌≡◌, ℕ, ◌+◌, ◌^◌, ◌<◌, Bool, cond, true, false, not, ⊎_elim, List, ◌++◌, length, map, filter, None, refl, sym, ap, ◌∙◌, subst, arith, get_or-set_same, get_or-set_other}
use Rattle.std.specs.List.{count_by, list_any, All, IsDistinct}
use Rattle.std.specs.List.Sorted.{IsStrictlySortedBy}
use Rattle.std.specs.Prelude.{slice_index, slice_set, bit_xor, IfSome}
use Rattle.std.specs.Int.{bit_at}
use Rattle.std.proofs.lemmas.Bool.{cases_Bool}
use Rattle.std.proofs.lemmas.List.Elements.{All-filter, All-map, All-weaker}
use mathlib.Core.Logic.{dite}
use native.Mathlib.Decide.{ℕ_discrete}
use Rattle.kit_base.specs.declared.message.Message.{Message}
use Rattle.kit_base.specs.Order.{key_cmp}
use Rattle.kit_ground.specs.declared.address.Address.TheVariants.{Count}
use Rattle.kit_ground.specs.declared.place.Deed.{Deed}
use Rattle.kit_ground.specs.declared.place.Deed.TheVariants.{Released}
use Rattle.kit_ground.specs.declared.place.Place.{Place}
use Rattle.kit_ground.specs.Memory.{Memory, with_word}
use Rattle.kit_ground.specs.Rules.{RuleStays, World}
use Rattle.kit_ground.specs.Steps.{place_after, becomes, own_after}
use Rattle.kit_ground.proofs.Bits.{flipped_else, flipped_here}
use Rattle.kit_ground.proofs.Memories.{count_else}
use Rattle.kit_ground.proofs.PlaceFacts.{held_counted, holds_wide}
use Rattle.kit_queue.specs.declared.entry.Entry.{Entry}
use Rattle.kit_queue.specs.Entries.{messages_of, without_buffer, shares_number}
use Rattle.kit_rounds.specs.Steps.{Rises}
use Rattle.kit_lbts.specs.declared.view.Filled.{Filled}
use Rattle.kit_lbts.specs.declared.view.Spent.{Spent}
use Rattle.kit_lbts.specs.declared.view.LbtsView.{LbtsView}
use Rattle.kit_lbts.specs.Views.{is_in_hand, is_spent, time_of}
use Rattle.kit_lbts.specs.Promises.{bound_of, ledger_of}
use Rattle.kit_lbts.specs.Letters.{Letters, letter_in}
use Rattle.kit_lbts.specs.Seats.{Granting, Receiving, Holdings, Queue, Sends, waits_in}
use Rattle.kit_lbts.specs.Ways.{Way, WayBetween, mark_in_mail, letters_posted_to}
use Rattle.kit_lbts.specs.Progress.{view_after, put_down}
use Rattle.kit_lbts.specs.Rule.{lbts_rule}
use Rattle.kit_lbts.specs.MessageLaws.{MaySettle, ReleasesKeep}
use Rattle.kit_lbts.proofs.AsideSteps.{asides_leave_ledgers}
use Rattle.kit_lbts.proofs.Changes.{Was, kept, mine, said, still, ways_to}
use Rattle.kit_lbts.proofs.Hands.{count_any, count_gone, count_without, give_up, given_up_all, given_up_else, given_up_here, given_up_messages, spent_else}
use Rattle.kit_lbts.proofs.LetterFacts.{letters_aside}
use Rattle.kit_lbts.proofs.Owing.{left_same}
use Rattle.kit_lbts.proofs.RoundSteps.{rises_keep_rounds}
use Rattle.kit_lbts.proofs.Ways.{got, sent, way_still}

abbrev P : Type 0
P = Place LbtsView

-- a buffer that is held for one reason is held for no other
reasons : (h a b c : ℕ) → h ≡ a + b + c → h ≡ 1 → (0 < b → (a ≡ 0) × (c ≡ 0)) × (0 < c → (a ≡ 0) × (b ≡ 0))
reasons h a b c e one = ((λ l. (omega arith, omega arith)), (λ l. (omega arith, omega arith)))

zeros : (h a b c : ℕ) → h ≡ 0 → a ≡ 0 → b ≡ 0 → c ≡ 0 → h ≡ a + b + c
zeros h a b c x y z u = omega arith

all_both : {X : Type 0} (A B : X → Type 0) (xs : List X) → All A xs → All B xs → All (λ x. A x × B x) xs
all_both A B xs h g = λ k d lk. (h k d lk, g k d lk)

module _ (p : P) (i k : ℕ) (li : i < p.own.federates) (lk : k < p.own.buffers) (held : bit_at (slice_index p.own.stock.holds i) k ≡ 1) (m : Memory) (places : List P) (w : World lbts_rule p m places) where
  abbrev me : ℕ
  me = p.own.number

  abbrev deed : Deed
  deed = Released i k

  abbrev now : Memory
  now = with_word m (Count i k) (becomes (Released i k) (m (Count i k)))

  abbrev q : P
  q = place_after view_after (Released i k) p

  abbrev with : LbtsView → P
  with v = record { own = own_after (Released i k) p.own; client = v }

  -- what the queue and the spent buffers become
  pub record Left (qs : List Entry) (ss : List Spent) : Type 0 where
    pub is : put_down i k p.client ≡ record p.client { queue = qs; spent = ss }
    pub none : (count_by (is_in_hand i k) p.client.in_hand ≡ 0) × (count_by (waits_in i k) qs ≡ 0) × (count_by (is_spent i k) ss ≡ 0)
    pub others : (a c : ℕ) → ((a ≡ i) → (c ≡ k) → ⊥) → (count_by (waits_in a c) qs ≡ count_by (waits_in a c) p.client.queue) × (count_by (is_spent a c) ss ≡ count_by (is_spent a c) p.client.spent)
    pub messages : messages_of qs ≡ messages_of p.client.queue
    pub queue : All (λ (e : Entry). (e.message.sender < p.own.federates) × IfSome e.buffer (λ k. k < p.own.buffers)) qs
    pub spent : All (λ (s : Spent). (s.from < p.own.federates) × (s.buffer < p.own.buffers)) ss
    pub ahead : All (λ (e : Entry). time_of p.client < e.message.time) qs
    pub settled : All (λ (e : Entry). e.buffer ≡ None → e.message.time < bound_of p.client) qs
    pub lies : (a : ℕ) (v : LbtsView) → All (λ (e : Entry). e.message.sender ≡ a → IfSome e.buffer (λ k. (letter_in v k).message ≡ e.message)) p.client.queue
        → All (λ (e : Entry). e.message.sender ≡ a → IfSome e.buffer (λ k. (letter_in v k).message ≡ e.message)) qs

  counts : 0 < m (Count i k)
  counts = held_counted p.own.buffers m places w.floor me p w.here i k (subst (λ (n : ℕ). i < n) (w.floor.each me p w.here).federates li) lk held

  counted : (a c : ℕ) → 0 < now (Count a c) → 0 < m (Count a c)
  counted a c on = dite (ℕ_discrete a i)
      (λ ai. dite (ℕ_discrete c k)
      (λ ck. subst (λ (x : ℕ × ℕ). 0 < m (Count x.0 x.1)) (λ t. (sym ai t, sym ck t)) counts)
      (λ other. subst (λ (n : ℕ). 0 < n) (count_else m i k a c (becomes deed (m (Count i k))) (λ _. other)) on))
      (λ other. subst (λ (n : ℕ). 0 < n) (count_else m i k a c (becomes deed (m (Count i k))) (λ e. absurd (other e))) on)

  wide : i < length p.own.stock.holds
  wide = subst (λ (n : ℕ). i < n) ((w.floor.each me p w.here).federates ∙ sym (holds_wide p.own.buffers m places w.floor me p w.here)) li

  -- the bits of what is held
  bit_here : bit_at (slice_index (own_after deed p.own).stock.holds i) k ≡ 0
  bit_here = ap (λ (x : ℕ). bit_at x k) (get_or-set_same p.own.stock.holds i (bit_xor (slice_index p.own.stock.holds i) (2 ^ k)) 0 wide) ∙ flipped_here (slice_index p.own.stock.holds i) k held

  bit_there : (a c : ℕ) → ((a ≡ i) → (c ≡ k) → ⊥) → bit_at (slice_index (own_after deed p.own).stock.holds a) c ≡ bit_at (slice_index p.own.stock.holds a) c
  bit_there a c apart = dite (ℕ_discrete a i)
      (λ same. subst (λ (x : ℕ). bit_at (slice_index (own_after deed p.own).stock.holds x) c ≡ bit_at (slice_index p.own.stock.holds x) c) (sym same)
      (ap (λ (x : ℕ). bit_at x c) (get_or-set_same p.own.stock.holds i (bit_xor (slice_index p.own.stock.holds i) (2 ^ k)) 0 wide) ∙ flipped_else (slice_index p.own.stock.holds i) k c (apart same)))
      (λ other. ap (λ (x : ℕ). bit_at x c) (get_or-set_other p.own.stock.holds i a (bit_xor (slice_index p.own.stock.holds i) (2 ^ k)) 0 other))

  module _ (qs : List Entry) (ss : List Spent) (left : Left qs ss) where
    abbrev then : LbtsView
    then = record p.client { queue = qs; spent = ss }

    abbrev Held : ℕ → ℕ → Type 0
    Held a c = bit_at (slice_index (own_after (Released i k) p.own).stock.holds a) c ≡ count_by (is_in_hand a c) p.client.in_hand + count_by (waits_in a c) qs + count_by (is_spent a c) ss

    here : Held i k
    here = zeros (bit_at (slice_index (own_after deed p.own).stock.holds i) k) (count_by (is_in_hand i k) p.client.in_hand) (count_by (waits_in i k) qs) (count_by (is_spent i k) ss) bit_here left.none.0 left.none.1 left.none.2

    there : (a c : ℕ) → a < p.own.federates → c < p.own.buffers → ((a ≡ i) → (c ≡ k) → ⊥) → Held a c
    there a c la lc apart =
        let t = left.others a c apart in
        bit_there a c apart ∙ ((mine p m places w now deed).holdings.each a c la lc ∙ (λ x. count_by (is_in_hand a c) p.client.in_hand + sym t.0 x + sym t.1 x))

    holdings : Holdings (with then)
    holdings =
        let old = (mine p m places w now deed).holdings in
        record {
          each = λ a c la lc. dite (ℕ_discrete a i)
              (λ ai. dite (ℕ_discrete c k)
              (λ ck. subst (λ (x : ℕ × ℕ). Held x.0 x.1) (λ t. (sym ai t, sym ck t)) here)
              (λ other. there a c la lc (λ _. other)))
              (λ other. there a c la lc (λ e. absurd (other e)));
          in_hand = old.in_hand;
          queue = left.queue;
          spent = left.spent;
        }

    queue : Queue me (with then)
    queue =
        let old = (mine p m places w now deed).queue in
        record {
          ordered = subst (IsStrictlySortedBy key_cmp) (sym left.messages) old.ordered;
          apart = subst (IsDistinct shares_number) (sym left.messages) old.apart;
          is = left.messages ∙ old.is;
          ahead = left.ahead;
          settled = left.settled;
        }

    letters : Letters now me (with then)
    letters =
        let old = letters_aside m now me p (λ x lx. counted me x) (λ x y lx on. refl) (mine p m places w now deed).letters in
        record {
          sized = old.sized;
          counted = old.counted;
          sending = λ x is. let h = old.sending x is in record { first = h.first; rest = h.rest; within = h.within; outbox = h.outbox; owed = h.owed; filled = h.filled };
          others = old.others;
        }

    heard : Receiving then
    heard = let old = (mine p m places w now deed).heard in record { orphans = old.orphans; came = old.came; past = old.past }

    granting : Granting (with then)
    granting = let old = (mine p m places w now deed).granting in record { lawful = old.lawful; below = old.below; within = old.within; wish = old.wish; asked = old.asked }

    sends : Sends me (with then)
    sends = let old = (mine p m places w now deed).sends in record { own = old.own; numbered = old.numbered; next = old.next; timed = old.timed; takes_back = old.takes_back; waiting = old.waiting; late = old.late; transported = old.transported; behind = old.behind; once = old.once; each = λ x lx. old.each x lx ∙ ap (λ (l : List Message). map (λ (f : Filled). f.message) (letters_posted_to x p.client) ++ l) (sym (left_same p.client.sending (own_after deed p.own).stock p.own.stock p.client.federation x p.client.outbox (λ y. refl))); receivers = old.receivers; coloured = old.coloured; few = old.few; new = old.new }

    way_me : (a : ℕ) (r : P) → Was places me p q a r → WayBetween now a me r q
    way_me a r ta =
        let b = still (λ (x : P). x.own.buffers) places me p q refl a r ta in
        let s : sent me r.client ≡ sent me ta.before.client = still (λ (x : P). sent me x.client) places me p q (ap (sent me) left.is) a r ta in
        let old = w.client.ways a me ta.before p ta.at w.here in
        let new : Way ta.before.own.buffers (mark_in_mail m a me) a me ta.before.client then = record { copies = old.copies; heads = old.heads; lies = left.lies a ta.before.client old.lies } in
        subst (λ (n : ℕ). Way n (mark_in_mail now a me) a me r.client q.client) (sym b)
        (way_still ta.before.own.buffers (mark_in_mail m a me) (mark_in_mail now a me) a me ta.before.client then r.client q.client (λ x lx. refl) s (ap got left.is) new)

    pub release : RuleStays lbts_rule m places now (slice_set places p.own.number (place_after view_after (Released i k) p))
    release = kept p m places w now deed (record { words = λ r. refl; federation = ap (λ (v : LbtsView). v.federation) left.is; same = ap said left.is; time = ap time_of left.is }) (record {
      letters = subst (λ (v : LbtsView). Letters now me (with v)) (sym left.is) letters;
      others = λ a r other at. letters_aside m now a r (λ x lx. counted a x) (λ x y lx on. refl) (w.client.each a r at).letters;
      holdings = subst (λ (v : LbtsView). Holdings (with v)) (sym left.is) holdings;
      queue = subst (λ (v : LbtsView). Queue me (with v)) (sym left.is) queue;
      heard = subst Receiving (sym left.is) heard;
      granting = subst (λ (v : LbtsView). Granting (with v)) (sym left.is) granting;
      sends = subst (λ (v : LbtsView). Sends me (with v)) (sym left.is) sends;
      ways = ways_to places me p q (WayBetween now) way_me (λ a l r s other at ta.
          let b = still (λ (x : P). x.own.buffers) places me p q refl a r ta in
          subst (λ (n : ℕ). Way n (mark_in_mail now a l) a l r.client s.client) (sym b)
          (way_still ta.before.own.buffers (mark_in_mail m a l) (mark_in_mail now a l) a l ta.before.client s.client r.client s.client (λ x lx. refl)
          (still (λ (x : P). sent l x.client) places me p q (ap (sent l) left.is) a r ta) refl (w.client.ways a l ta.before s ta.at at)));
      rounds = rises_keep_rounds places me p q w.here w.client.rounds (subst (Rises (ledger_of p)) (sym (asides_leave_ledgers p deed tt)) (record { rises = omega arith; is = refl }));
    })

  -- ---- the two reasons for which a buffer is released
  found : (0 < count_by (waits_in i k) p.client.queue → (count_by (is_in_hand i k) p.client.in_hand ≡ 0) × (count_by (is_spent i k) p.client.spent ≡ 0))
      × (0 < count_by (is_spent i k) p.client.spent → (count_by (is_in_hand i k) p.client.in_hand ≡ 0) × (count_by (waits_in i k) p.client.queue ≡ 0))
  found = reasons (bit_at (slice_index p.own.stock.holds i) k) (count_by (is_in_hand i k) p.client.in_hand) (count_by (waits_in i k) p.client.queue) (count_by (is_spent i k) p.client.spent)
      ((mine p m places w now deed).holdings.each i k li lk) held

  pub spent_left : list_any (is_spent i k) p.client.spent ≡ true → Left p.client.queue (filter (λ s. not (is_spent i k s)) p.client.spent)
  spent_left e =
      let n = found.1 (count_any (is_spent i k) p.client.spent e) in
      let old = mine p m places w now deed in
      record {
        is = ap (λ (b : Bool). cond b (record p.client { spent = filter (λ s. not (is_spent i k s)) p.client.spent }) (record p.client { queue = map (give_up i k) p.client.queue })) e;
        none = (n.0, n.1, count_gone (is_spent i k) p.client.spent);
        others = λ a c apart. (refl, count_without (is_spent i k) (is_spent a c) p.client.spent (spent_else i k a c apart));
        messages = refl;
        queue = old.holdings.queue;
        spent = All-filter (λ s. not (is_spent i k s)) (λ (s : Spent). (s.from < p.own.federates) × (s.buffer < p.own.buffers)) p.client.spent old.holdings.spent;
        ahead = old.queue.ahead;
        settled = old.queue.settled;
        lies = λ a v h. h;
      }

  pub settled_left : MaySettle p i k → list_any (is_spent i k) p.client.spent ≡ false → Left (map (give_up i k) p.client.queue) p.client.spent
  settled_left may e =
      let n = found.0 (count_any (waits_in i k) p.client.queue may.waits) in
      let old = mine p m places w now deed in
      record {
        is = ap (λ (b : Bool). cond b (record p.client { spent = filter (λ s. not (is_spent i k s)) p.client.spent }) (record p.client { queue = map (give_up i k) p.client.queue })) e;
        none = (n.0, given_up_here i k p.client.queue, n.1);
        others = λ a c apart. (given_up_else i k a c apart p.client.queue, refl);
        messages = given_up_messages i k p.client.queue;
        queue = given_up_all (λ (e : Entry). (e.message.sender < p.own.federates) × IfSome e.buffer (λ k. k < p.own.buffers)) i k p.client.queue (λ e h a. (a.0, tt)) old.holdings.queue;
        spent = old.holdings.spent;
        ahead = given_up_all (λ (e : Entry). time_of p.client < e.message.time) i k p.client.queue (λ e h a. a) old.queue.ahead;
        settled = below (all_both (λ (e : Entry). waits_in i k e ≡ true → e.message.time < bound_of p.client) (λ (e : Entry). e.buffer ≡ None → e.message.time < bound_of p.client) p.client.queue may.below old.queue.settled);
        lies = λ a v h. given_up_all (λ (e : Entry). e.message.sender ≡ a → IfSome e.buffer (λ k. (letter_in v k).message ≡ e.message)) i k p.client.queue (λ e h a from. tt) h;
      }
    where
      below : All (λ (e : Entry). (waits_in i k e ≡ true → e.message.time < bound_of p.client) × (e.buffer ≡ None → e.message.time < bound_of p.client)) p.client.queue
          → All (λ (e : Entry). e.buffer ≡ None → e.message.time < bound_of p.client) (map (give_up i k) p.client.queue)
      below h = All-map (λ (e : Entry). e.buffer ≡ None → e.message.time < bound_of p.client) (give_up i k) p.client.queue
          (All-weaker (λ (e : Entry). (waits_in i k e ≡ true → e.message.time < bound_of p.client) × (e.buffer ≡ None → e.message.time < bound_of p.client))
          (λ (e : Entry). (give_up i k e).buffer ≡ None → (give_up i k e).message.time < bound_of p.client) (λ e t. one e (waits_in i k e) refl t) p.client.queue h)
        where
          one : (e : Entry) (b : Bool) → waits_in i k e ≡ b → (waits_in i k e ≡ true → e.message.time < bound_of p.client) × (e.buffer ≡ None → e.message.time < bound_of p.client)
              → (cond b (without_buffer e) e).buffer ≡ None → (cond b (without_buffer e) e).message.time < bound_of p.client
          one e true h t is = t.0 h
          one e false h t is = t.1 is

pub releases_keep : ReleasesKeep lbts_rule
releases_keep p i k li lk held may m places w = ⊎_elim
    (λ (e : list_any (is_spent i k) p.client.spent ≡ true). by_spent e)
    (λ (may : MaySettle p i k). ⊎_elim
    (λ (e : list_any (is_spent i k) p.client.spent ≡ true). by_spent e)
    (λ (e : list_any (is_spent i k) p.client.spent ≡ false). release p i k li lk held m places w (map (give_up i k) p.client.queue) p.client.spent (settled_left p i k li lk held m places w may e))
    (cases_Bool (list_any (is_spent i k) p.client.spent)))
    may
  where
    by_spent : list_any (is_spent i k) p.client.spent ≡ true → RuleStays lbts_rule m places (with_word m (Count i k) (becomes (Released i k) (m (Count i k)))) (slice_set places p.own.number (place_after view_after (Released i k) p))
    by_spent e = release p i k li lk held m places w p.client.queue (filter (λ s. not (is_spent i k s)) p.client.spent) (spent_left p i k li lk held m places w e)
