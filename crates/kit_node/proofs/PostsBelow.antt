-- The posts of a charged buffer to its receivers, one after another.
use Rattle.std.proofs.Common.{◌≡◌, ◌≢◌, ◌==◌, ℕ, zero, suc, ◌+◌, ◌%◌, ◌^◌, ◌<◌, ◌≤◌, Bool, true, false, ⊎_elim, List, [], ◌∷◌, ◌++◌, length, map, filter, drop, Some, None, refl, sym, ap, ◌∙◌, subst, arith, eqb-true, eq-eqb, length-set, cond}
use Rattle.std.specs.Prelude.{bit_xor, if◌then◌else◌}
use Rattle.std.specs.List.{range_with_len}
use Rattle.std.specs.Int.{bit_at}
use Rattle.std.specs.Int.Bits.{xor_self}
use Rattle.std.proofs.lemmas.Bool.{cases_Bool, cases_lt, eqb-false, ne_eqb}
use Rattle.std.proofs.lemmas.List.{append-nil, append_assoc, map-append, map-id}
use Rattle.std.proofs.lemmas.List.Elements.{filter-append}
use Rattle.std.proofs.lemmas.List.FromFn.{map-range_with_len_more}
use Rattle.std.proofs.lemmas.Nat.Bits.{bit_at-lt, bit_at-zero, bit_at_above, bit_at_xor, same_from_bits}
use mathlib.Core.Logic.{dite}
use native.Mathlib.Decide.{ℕ_discrete}
use Rattle.kit_ground.specs.declared.place.Buffer.{Buffer}
use Rattle.kit_ground.specs.declared.place.Deed.TheVariants.{PostedTo}
use Rattle.kit_ground.specs.declared.place.Place.{Place}
use Rattle.kit_ground.specs.Steps.{buffer_after_post, buffer_of, place_after}
use Rattle.kit_ground.proofs.Bits.{flipped_else, flipped_here}
use Rattle.kit_rules.specs.Delivery.{has_bit}
use Rattle.kit_lbts.specs.declared.view.LbtsView.{LbtsView}
use Rattle.kit_lbts.specs.declared.view.Posting.{Posting}
use Rattle.kit_lbts.specs.Letters.{letter_in}
use Rattle.kit_lbts.specs.Progress.{view_after}
use Rattle.kit_lbts.proofs.Owing.{buffer_here}
use Rattle.kit_node.specs.declared.posts.Posts.{Posts}
use Rattle.kit_node.specs.Fields.{one_post_more}
use Rattle.kit_node.specs.Frames.{IsSameSeat}
use Rattle.kit_node.specs.Sending.{posted_below, posts_after}
use Rattle.kit_rules.proofs.ReceiverMasks.{bit_off, bit_on}
use Rattle.kit_ground.proofs.Bits.{xor_zero}

abbrev P : Type 0
P = Place LbtsView

-- the bits of the mask that are still owed, and that nothing else of the seat was changed
pub record OwesOn (n k mask : ℕ) (p q : P) : Type 0 where
  pub seat : IsSameSeat p q
  pub registers : q.own.registers ≡ p.own.registers
  pub counts : q.own.counts ≡ p.own.counts
  pub mail : q.own.mail ≡ p.own.mail
  pub stop : q.own.stop ≡ p.own.stop
  pub shown : q.own.shown ≡ p.own.shown
  pub collects : q.own.collects ≡ p.own.collects
  pub holds : q.own.stock.holds ≡ p.own.stock.holds
  pub long : length q.own.stock.buffers ≡ length p.own.stock.buffers
  pub posted : (j : ℕ) → j < n → bit_at (buffer_of q.own.stock k).to_post j ≡ 0
  pub owed : (j : ℕ) → n ≤ j → bit_at (buffer_of q.own.stock k).to_post j ≡ bit_at mask j

owes_first : (k mask : ℕ) (p : P) → (buffer_of p.own.stock k).to_post ≡ mask → OwesOn 0 k mask p p
owes_first k mask p is = record {
  seat = record { number = refl; federates = refl; buffers = refl; steps = omega arith; stops = refl };
  registers = refl;
  counts = refl;
  mail = refl;
  stop = refl;
  shown = refl;
  collects = refl;
  holds = refl;
  long = refl;
  posted = λ j lt. absurd (omega arith);
  owed = λ j le. ap (λ (m : ℕ). bit_at m j) is;
}

owed_after : (n k : ℕ) (q : P) → k < length q.own.stock.buffers → (buffer_of (place_after view_after (PostedTo k n) q).own.stock k).to_post ≡ bit_xor (buffer_of q.own.stock k).to_post (2 ^ n)
owed_after n k q lk = ap (λ (c : Buffer). c.to_post) (buffer_here q.own.stock k (buffer_after_post n (buffer_of q.own.stock k)) lk)

owes_less : (n k mask : ℕ) (p q : P) → k < length p.own.stock.buffers → OwesOn n k mask p q → bit_at mask n ≡ 1 → OwesOn (suc n) k mask p (place_after view_after (PostedTo k n) q)
owes_less n k mask p q lk o on =
    let m : ℕ = (buffer_of q.own.stock k).to_post in
    let long : length q.own.stock.buffers ≡ length p.own.stock.buffers = o.long in
    let is = owed_after n k q (omega arith) in
    let bit : bit_at m n ≡ 1 = o.owed n (omega arith) ∙ on in
    record {
      seat = record { number = o.seat.number; federates = o.seat.federates; buffers = o.seat.buffers; steps = let s = o.seat.steps in omega arith; stops = o.seat.stops };
      registers = o.registers;
      counts = o.counts;
      mail = o.mail;
      stop = o.stop;
      shown = o.shown;
      collects = o.collects;
      holds = o.holds;
      long = length-set q.own.stock.buffers k (buffer_after_post n (buffer_of q.own.stock k)) ∙ o.long;
      posted = λ j lt. ap (λ (x : ℕ). bit_at x j) is ∙ dite (ℕ_discrete j n)
          (λ same. ap (λ (x : ℕ). bit_at (bit_xor m (2 ^ n)) x) same ∙ flipped_here m n bit)
          (λ other. flipped_else m n j other ∙ o.posted j (omega arith));
      owed = λ j le. ap (λ (x : ℕ). bit_at x j) is ∙ (flipped_else m n j (λ same. absurd (omega arith)) ∙ o.owed j (omega arith));
    }

owes_same : (n k mask : ℕ) (p q : P) → OwesOn n k mask p q → bit_at mask n ≡ 0 → OwesOn (suc n) k mask p q
owes_same n k mask p q o off = record {
  seat = o.seat;
  registers = o.registers;
  counts = o.counts;
  mail = o.mail;
  stop = o.stop;
  shown = o.shown;
  collects = o.collects;
  holds = o.holds;
  long = o.long;
  posted = λ j lt. dite (ℕ_discrete j n) (λ same. ap (λ (x : ℕ). bit_at (buffer_of q.own.stock k).to_post x) same ∙ (o.owed n (omega arith) ∙ off)) (λ other. o.posted j (omega arith));
  owed = λ j le. o.owed j (omega arith);
}

-- a step further, by the bit of the mask
pub below_on : (n k mask : ℕ) (p : P) → has_bit mask n ≡ true → posted_below (suc n) k mask p ≡ place_after view_after (PostedTo k n) (posted_below n k mask p)
below_on n k mask p on = ap (λ (b : Bool). cond b (place_after view_after (PostedTo k n) (posted_below n k mask p)) (posted_below n k mask p)) on

pub below_off : (n k mask : ℕ) (p : P) → has_bit mask n ≡ false → posted_below (suc n) k mask p ≡ posted_below n k mask p
below_off n k mask p off = ap (λ (b : Bool). cond b (place_after view_after (PostedTo k n) (posted_below n k mask p)) (posted_below n k mask p)) off

pub owes_below : (n k mask : ℕ) (p : P) → k < length p.own.stock.buffers → (buffer_of p.own.stock k).to_post ≡ mask → OwesOn n k mask p (posted_below n k mask p)
owes_below zero k mask p lk is = owes_first k mask p is
owes_below (suc n) k mask p lk is =
    let before = owes_below n k mask p lk is in
    ⊎_elim
    (λ (on : has_bit mask n ≡ true). subst (OwesOn (suc n) k mask p) (sym (below_on n k mask p on)) (owes_less n k mask p (posted_below n k mask p) lk before (bit_on mask n on)))
    (λ (off : has_bit mask n ≡ false). subst (OwesOn (suc n) k mask p) (sym (below_off n k mask p off)) (owes_same n k mask p (posted_below n k mask p) before (bit_off mask n off)))
    (cases_Bool (has_bit mask n))

-- THE POSTS that are counted
pub posts_on : (time mask n : ℕ) (o : Posts) → has_bit mask n ≡ true → posts_after time mask (suc n) o ≡ one_post_more time (posts_after time mask n o)
posts_on time mask n o on = ap (λ (b : Bool). cond b (one_post_more time (posts_after time mask n o)) (posts_after time mask n o)) on

pub posts_off : (time mask n : ℕ) (o : Posts) → has_bit mask n ≡ false → posts_after time mask (suc n) o ≡ posts_after time mask n o
posts_off time mask n o off = ap (λ (b : Bool). cond b (one_post_more time (posts_after time mask n o)) (posts_after time mask n o)) off

pub posts_few : (time mask n : ℕ) (o : Posts) → (posts_after time mask n o).own ≤ o.own + n
posts_few time mask zero o = omega arith
posts_few time mask (suc n) o =
    let before = posts_few time mask n o in
    ⊎_elim
    (λ (on : has_bit mask n ≡ true). let is = ap (λ (x : Posts). x.own) (posts_on time mask n o on) in omega arith)
    (λ (off : has_bit mask n ≡ false). let is = ap (λ (x : Posts). x.own) (posts_off time mask n o off) in omega arith)
    (cases_Bool (has_bit mask n))

-- THE VIEW after the posts: with the last one the message leaves the outbox
abbrev pub copy : ℕ → LbtsView → ℕ → Posting
copy k v j = record { to = j; filled = letter_in v k }

abbrev pub made_below : ℕ → ℕ → ℕ → LbtsView → List Posting
made_below n k mask v = map (copy k v) (filter (has_bit mask) (range_with_len 0 n))

abbrev after_posts : Bool → List Posting → ℕ → LbtsView → LbtsView
after_posts done made k v = record v { posted = v.posted ++ made; outbox = if done then drop 1 v.outbox else v.outbox; sending = if done then None else Some k }

-- the numbers below one more
range_more : (n : ℕ) → range_with_len 0 (suc n) ≡ range_with_len 0 n ++ n ∷ []
range_more n =
    let next : suc n ≡ n + 1 = omega arith in
    let here : 0 + n ≡ n = omega arith in
    ap (range_with_len 0) next
    ∙ (sym (map-id (range_with_len 0 (n + 1)))
    ∙ (map-range_with_len_more (λ (x : ℕ). x) 0 n n here
    ∙ ap (λ (l : List ℕ). l ++ n ∷ []) (map-id (range_with_len 0 n))))

made_more : (n k mask : ℕ) (v : LbtsView) → made_below (suc n) k mask v ≡ made_below n k mask v ++ map (copy k v) (if has_bit mask n then n ∷ [] else [])
made_more n k mask v =
    ap (λ (l : List ℕ). map (copy k v) (filter (has_bit mask) l)) (range_more n)
    ∙ (ap (map (copy k v)) (filter-append (has_bit mask) (range_with_len 0 n) (n ∷ []))
    ∙ map-append (copy k v) (filter (has_bit mask) (range_with_len 0 n)) (if has_bit mask n then n ∷ [] else []))

pub made_on : (n k mask : ℕ) (v : LbtsView) → has_bit mask n ≡ true → made_below (suc n) k mask v ≡ made_below n k mask v ++ copy k v n ∷ []
made_on n k mask v on = made_more n k mask v ∙ ap (λ (b : Bool). made_below n k mask v ++ map (copy k v) (if b then n ∷ [] else [])) on

pub made_off : (n k mask : ℕ) (v : LbtsView) → has_bit mask n ≡ false → made_below (suc n) k mask v ≡ made_below n k mask v
made_off n k mask v off = made_more n k mask v ∙ (ap (λ (b : Bool). made_below n k mask v ++ map (copy k v) (if b then n ∷ [] else [])) off ∙ append-nil (made_below n k mask v))

module _ (k mask : ℕ) (p : P) (lk : k < length p.own.stock.buffers) (is : (buffer_of p.own.stock k).to_post ≡ mask) (some_ : mask ≢ 0) (sending : p.client.sending ≡ Some k) where
  abbrev owed : ℕ → ℕ
  owed n = (buffer_of (posted_below n k mask p).own.stock k).to_post

  abbrev View : ℕ → Type 0
  View n = (posted_below n k mask p).client ≡ after_posts (owed n == 0) (made_below n k mask p.client) k p.client

  -- what is still owed is 0 after a post exactly where it was to this receiver alone
  last_post : (m n : ℕ) → (bit_xor m (2 ^ n) == 0) ≡ (m == 2 ^ n)
  last_post m n = ⊎_elim
      (λ (e : (m == 2 ^ n) ≡ true). eq-eqb (bit_xor m (2 ^ n)) 0 (ap (λ (x : ℕ). bit_xor x (2 ^ n)) (eqb-true m (2 ^ n) e) ∙ xor_self (2 ^ n)) ∙ sym e)
      (λ (e : (m == 2 ^ n) ≡ false). ne_eqb (bit_xor m (2 ^ n)) 0 (λ z. eqb-false m (2 ^ n) e (xor_zero m (2 ^ n) z)) ∙ sym e)
      (cases_Bool (m == 2 ^ n))

  some_left : (m n : ℕ) → bit_at m n ≡ 1 → (m == 0) ≡ false
  some_left m n on = ne_eqb m 0 (λ z. let e : bit_at m n ≡ 0 = ap (λ (x : ℕ). bit_at x n) z ∙ bit_at-zero n in absurd (omega arith))

  -- one post more
  posts_once : (n m : ℕ) (made : List Posting) → after_posts (m == 2 ^ n) (made ++ copy k p.client n ∷ []) k p.client
      ≡ record (after_posts false made k p.client) { posted = (p.client.posted ++ made) ++ copy k p.client n ∷ []; outbox = if m == 2 ^ n then drop 1 p.client.outbox else p.client.outbox; sending = if m == 2 ^ n then None else Some k }
  posts_once n m made = ap (λ (l : List Posting). record (after_posts (m == 2 ^ n) made k p.client) { posted = l }) (sym (append_assoc p.client.posted made (copy k p.client n ∷ [])))

  view_on : (n : ℕ) → View n → has_bit mask n ≡ true → View (suc n)
  view_on n before on =
      let q : P = posted_below n k mask p in
      let o = owes_below n k mask p lk is in
      let m : ℕ = owed n in
      let left : bit_at m n ≡ 1 = o.owed n (omega arith) ∙ bit_on mask n on in
      let now : q.client ≡ after_posts false (made_below n k mask p.client) k p.client = before ∙ ap (λ (b : Bool). after_posts b (made_below n k mask p.client) k p.client) (some_left m n left) in
      let long : length q.own.stock.buffers ≡ length p.own.stock.buffers = o.long in
      let inside : k < length q.own.stock.buffers = (let l = lk in omega arith) in
      let owed_is : owed (suc n) ≡ bit_xor m (2 ^ n) = ap (λ (r : P). (buffer_of r.own.stock k).to_post) (below_on n k mask p on) ∙ owed_after n k q inside in
      let Once : LbtsView → LbtsView = λ v. record v { posted = v.posted ++ copy k v n ∷ []; outbox = if m == 2 ^ n then drop 1 v.outbox else v.outbox; sending = if m == 2 ^ n then None else v.sending } in
      ap (λ (r : P). r.client) (below_on n k mask p on)
      ∙ (ap Once now
      ∙ (sym (posts_once n m (made_below n k mask p.client))
      ∙ (ap (λ (l : List Posting). after_posts (m == 2 ^ n) l k p.client) (sym (made_on n k mask p.client on))
      ∙ ap (λ (b : Bool). after_posts b (made_below (suc n) k mask p.client) k p.client) (sym (last_post m n) ∙ ap (λ (x : ℕ). x == 0) (sym owed_is)))))

  view_off : (n : ℕ) → View n → has_bit mask n ≡ false → View (suc n)
  view_off n before off =
      ap (λ (r : P). r.client) (below_off n k mask p off)
      ∙ (before
      ∙ (λ i. after_posts (sym (ap (λ (r : P). (buffer_of r.own.stock k).to_post) (below_off n k mask p off)) i == 0) (sym (made_off n k mask p.client off) i) k p.client))

  view_first : View 0
  view_first =
      let none : (owed 0 == 0) ≡ false = ne_eqb (owed 0) 0 (λ z. some_ (sym is ∙ z)) in
      (λ i. record p.client { posted = sym (append-nil p.client.posted) i; sending = sending i })
      ∙ ap (λ (b : Bool). after_posts b [] k p.client) (sym none)

  pub view_below : (n : ℕ) → View n
  view_below zero = view_first
  view_below (suc n) = ⊎_elim (λ (on : has_bit mask n ≡ true). view_on n (view_below n) on) (λ (off : has_bit mask n ≡ false). view_off n (view_below n) off) (cases_Bool (has_bit mask n))

  -- after the last receiver nothing is owed
  none_owed : (n : ℕ) → mask < 2 ^ n → owed n ≡ 0
  none_owed n small =
      let o = owes_below n k mask p lk is in
      same_from_bits (owed n) 0 (λ i. ⊎_elim
      (λ (lt : i < n). o.posted i lt ∙ sym (bit_at-zero i))
      (λ (le : n ≤ i). o.owed i le ∙ (bit_at_above mask n i small le ∙ sym (bit_at-zero i)))
      (cases_lt i n))

  pub view_whole : (n : ℕ) → mask < 2 ^ n → (posted_below n k mask p).client ≡ record p.client { posted = p.client.posted ++ made_below n k mask p.client; outbox = drop 1 p.client.outbox; sending = None }
  view_whole n small = view_below n ∙ ap (λ (b : Bool). after_posts b (made_below n k mask p.client) k p.client) (eq-eqb (owed n) 0 (none_owed n small))
