-- The channels after a step: of one that changes nothing that a channel reads.
use Rattle.std.proofs.Common.{◌≡◌, ◌≢◌, ℕ, ◌+◌, ◌<◌, Bool, true, false, cond, not, eq-eqb, map, ◌⊎◌, ⊎_elim, Some, None, get_or, [], ◌∷◌, ◌++◌, List, refl, sym, ap, ◌∙◌, subst, arith}
use Rattle.std.specs.List.{All, count_by, filter}
use Rattle.std.specs.Prelude.{◌==◌, IfSome, Option}
use Rattle.kit_base.specs.Words.{head_word}
use Rattle.kit_ground.specs.Sets.{sum_to}
use Rattle.kit_ground.proofs.Sums.{sum_same, sum_change}
use Rattle.kit_lbts.proofs.Hands.{one_if, count_append, count_gone, count_last, count_map, count_without, hand_else, hand_is}
use Rattle.std.proofs.lemmas.List.Elements.{All-append, All-filter, All-map, All-weaker, filter-append}
use Rattle.std.proofs.lemmas.List.{append-nil}
use Rattle.std.proofs.lemmas.Bool.{ne_eqb}
use Rattle.kit_queue.specs.declared.entry.Entry.{Entry}
use Rattle.kit_lbts.specs.declared.view.Filled.{Filled}
use Rattle.kit_lbts.specs.declared.view.InHand.{InHand}
use Rattle.kit_lbts.specs.declared.view.LbtsView.{LbtsView}
use Rattle.kit_lbts.specs.Views.{receipts, is_in_hand}
use Rattle.kit_lbts.specs.Letters.{letter_in}
use Rattle.kit_lbts.specs.Ways.{Way, letters_posted_to, letters_received_from, copies_on_way, passing_copies}

-- what a channel reads of its sender, and of its receiver
abbrev pub Sent : Type 0
Sent = List Filled × (ℕ → Filled)

abbrev pub sent : ℕ → LbtsView → Sent
sent j v = (letters_posted_to j v, letter_in v)

abbrev pub Got : Type 0
Got = List Filled × List InHand × List Entry

abbrev pub got : LbtsView → Got
got u = (receipts u, u.in_hand, u.queue)

abbrev Copies : ℕ → (ℕ → ℕ) → ℕ → Sent → Got → Type 0
Copies b mail i s g = (t : Filled → Bool) → count_by t s.0 ≡ count_by t (filter (λ (f : Filled). f.message.sender == i) g.0) + passing_copies t s.1 (copies_on_way mail i g.1) b

abbrev Heads : ℕ → Sent → Got → Type 0
Heads i s g = All (λ (h : InHand). h.from ≡ i → IfSome h.head (λ word. word ≡ head_word (s.1 h.buffer).message (s.1 h.buffer).colour)) g.1

abbrev Lies : ℕ → Sent → Got → Type 0
Lies i s g = All (λ (e : Entry). e.message.sender ≡ i → IfSome e.buffer (λ k. (s.1 k).message ≡ e.message)) g.2

-- a channel of which nothing changed
pub way_still : (b : ℕ) (mail now : ℕ → ℕ) (i j : ℕ) (v u v' u' : LbtsView) → ((k : ℕ) → k < b → now k ≡ mail k) → sent j v' ≡ sent j v → got u' ≡ got u
    → Way b mail i j v u → Way b now i j v' u'
way_still b mail now i j v u v' u' bits s g h = record {
  copies = subst (λ (x : Sent × Got). Copies b now i x.0 x.1) (λ t. (sym s t, sym g t))
      (λ t. h.copies t ∙ ap (λ (x : ℕ). count_by t (letters_received_from i u) + x)
      (sum_same (λ k. cond (t (letter_in v k)) (copies_on_way mail i u.in_hand k) 0) (λ k. cond (t (letter_in v k)) (copies_on_way now i u.in_hand k) 0) b
      (λ k lk. ap (λ (x : ℕ). cond (t (letter_in v k)) (x + count_by (is_in_hand i k) u.in_hand) 0) (sym (bits k lk)))));
  heads = subst (λ (x : Sent × Got). Heads i x.0 x.1) (λ t. (sym s t, sym g t)) h.heads;
  lies = subst (λ (x : Sent × Got). Lies i x.0 x.1) (λ t. (sym s t, sym g t)) h.lies;
}

-- a fact of what is there, from another one
pub if_some : {X : Type 0} (o : Option X) (A B : X → Type 0) → ((x : X) → o ≡ Some x → A x → B x) → IfSome o A → IfSome o B
if_some None A B h a = tt
if_some (Some x) A B h a = h x refl a

-- the letters of buffers that are not on their way may change
pub way_relettered : (b : ℕ) (mail : ℕ → ℕ) (i j : ℕ) (v u v' : LbtsView) → letters_posted_to j v' ≡ letters_posted_to j v
    → ((k : ℕ) → k < b → (letter_in v' k ≡ letter_in v k) ⊎ (copies_on_way mail i u.in_hand k ≡ 0))
    → All (λ (h : InHand). h.from ≡ i → letter_in v' h.buffer ≡ letter_in v h.buffer) u.in_hand
    → All (λ (e : Entry). e.message.sender ≡ i → (k : ℕ) → e.buffer ≡ Some k → letter_in v' k ≡ letter_in v k) u.queue
    → Way b mail i j v u → Way b mail i j v' u
way_relettered b mail i j v u v' posts letters hands waits h = record {
  copies = λ t. ap (count_by t) posts ∙ (h.copies t ∙ ap (λ (x : ℕ). count_by t (letters_received_from i u) + x)
      (sum_same (λ k. cond (t (letter_in v k)) (copies_on_way mail i u.in_hand k) 0) (λ k. cond (t (letter_in v' k)) (copies_on_way mail i u.in_hand k) 0) b
      (λ k lk. ⊎_elim
      (λ (same : letter_in v' k ≡ letter_in v k). ap (λ (f : Filled). cond (t f) (copies_on_way mail i u.in_hand k) 0) (sym same))
      (λ (none : copies_on_way mail i u.in_hand k ≡ 0). nothing_of (t (letter_in v k)) (copies_on_way mail i u.in_hand k) none ∙ sym (nothing_of (t (letter_in v' k)) (copies_on_way mail i u.in_hand k) none))
      (letters k lk))));
  heads = λ x d lx from.
      let e : InHand = get_or u.in_hand x d in
      let same = hands x d lx from in
      if_some e.head (λ word. word ≡ head_word (letter_in v e.buffer).message (letter_in v e.buffer).colour) (λ word. word ≡ head_word (letter_in v' e.buffer).message (letter_in v' e.buffer).colour)
      (λ word is a. subst (λ (f : Filled). word ≡ head_word f.message f.colour) (sym same) a) (h.heads x d lx from);
  lies = λ x d lx from.
      let e : Entry = get_or u.queue x d in
      if_some e.buffer (λ k. (letter_in v k).message ≡ e.message) (λ k. (letter_in v' k).message ≡ e.message)
      (λ k is a. ap (λ (f : Filled). f.message) (waits x d lx from k is) ∙ a) (h.lies x d lx from);
}
  where
    nothing_of : (b : Bool) (x : ℕ) → x ≡ 0 → cond b x 0 ≡ 0
    nothing_of true x e = e
    nothing_of false x e = refl

-- a copy was posted: the letter of the buffer k, which was not on its way, and is now marked in the mail
pub way_posted : (b : ℕ) (mail now : ℕ → ℕ) (i j : ℕ) (v u v' : LbtsView) (k : ℕ) → k < b
    → letters_posted_to j v' ≡ letters_posted_to j v ++ letter_in v k ∷ [] → letter_in v' ≡ letter_in v
    → copies_on_way mail i u.in_hand k ≡ 0 → now k ≡ 1 → ((x : ℕ) → x < b → x ≢ k → now x ≡ mail x)
    → Way b mail i j v u → Way b now i j v' u
way_posted b mail now i j v u v' k lk posts letters off here others h = record {
  copies = λ t.
      let before : ℕ → ℕ = λ x. cond (t (letter_in v x)) (copies_on_way mail i u.in_hand x) 0 in
      let after : ℕ → ℕ = λ x. cond (t (letter_in v x)) (copies_on_way now i u.in_hand x) 0 in
      let sum : sum_to after b + before k ≡ sum_to before b + after k =
      sum_change before after b k lk (λ x lx other. ap (λ (y : ℕ). cond (t (letter_in v x)) (y + count_by (is_in_hand i x) u.in_hand) 0) (sym (others x lx other))) in
      let one : copies_on_way now i u.in_hand k ≡ 1 = one_more (mail k) (count_by (is_in_hand i k) u.in_hand) (now k) off here in
      let none : before k ≡ 0 = nothing_of (t (letter_in v k)) (copies_on_way mail i u.in_hand k) off in
      let more : after k ≡ one_if (t (letter_in v k)) = ap (λ (y : ℕ). cond (t (letter_in v k)) y 0) one in
      let old : count_by t (letters_posted_to j v) ≡ count_by t (letters_received_from i u) + sum_to before b = h.copies t in
      let pushed : count_by t (letters_posted_to j v') ≡ count_by t (letters_posted_to j v) + one_if (t (letter_in v k)) = ap (count_by t) posts ∙ count_last t (letters_posted_to j v) (letter_in v k) in
      let new : count_by t (letters_posted_to j v') ≡ count_by t (letters_received_from i u) + sum_to after b = omega arith in
      subst (λ (l : ℕ → Filled). count_by t (letters_posted_to j v') ≡ count_by t (letters_received_from i u) + passing_copies t l (copies_on_way now i u.in_hand) b) (sym letters) new;
  heads = subst (λ (l : ℕ → Filled). Heads i ([], l) (got u)) (sym letters) h.heads;
  lies = subst (λ (l : ℕ → Filled). Lies i ([], l) (got u)) (sym letters) h.lies;
}
  where
    nothing_of : (b : Bool) (x : ℕ) → x ≡ 0 → cond b x 0 ≡ 0
    nothing_of true x e = e
    nothing_of false x e = refl

    one_more : (a c d : ℕ) → a + c ≡ 0 → d ≡ 1 → d + c ≡ 1
    one_more a c d z o = omega arith

-- a head was read: that of the letter, where the buffer is the sender's
abbrev pub headed : ℕ → ℕ → ℕ → InHand → InHand
headed a c word h = cond (is_in_hand a c h) (record h { head = Some word }) h

pub hand_kept : (i k : ℕ) (b : Bool) (h : InHand) (word : ℕ) → is_in_hand i k (cond b (record h { head = Some word }) h) ≡ is_in_hand i k h
hand_kept i k true h word = refl
hand_kept i k false h word = refl

pub count_headed : (a c word i k : ℕ) (hs : List InHand) → count_by (is_in_hand i k) (map (headed a c word) hs) ≡ count_by (is_in_hand i k) hs
count_headed a c word i k hs = count_map (headed a c word) (is_in_hand i k) (is_in_hand i k) hs (λ h. hand_kept i k (is_in_hand a c h) h word)

-- a head that was read of a copy from i is that of the letter
abbrev pub Head : ℕ → LbtsView → InHand → Type 0
Head i v x = x.from ≡ i → IfSome x.head (λ word. word ≡ head_word (letter_in v x.buffer).message (letter_in v x.buffer).colour)

pub way_headed : (b : ℕ) (mail : ℕ → ℕ) (i j : ℕ) (v u : LbtsView) (a c word : ℕ)
    → (i ≡ a → word ≡ head_word (letter_in v c).message (letter_in v c).colour)
    → Way b mail i j v u → Way b mail i j v (record u { in_hand = map (headed a c word) u.in_hand })
way_headed b mail i j v u a c word is h = record {
  copies = λ t. h.copies t ∙ ap (λ (x : ℕ). count_by t (letters_received_from i u) + x)
      (sum_same (λ k. cond (t (letter_in v k)) (copies_on_way mail i u.in_hand k) 0) (λ k. cond (t (letter_in v k)) (copies_on_way mail i (map (headed a c word) u.in_hand) k) 0) b
      (λ k lk. ap (λ (x : ℕ). cond (t (letter_in v k)) (mail k + x) 0) (sym (count_headed a c word i k u.in_hand))));
  heads = All-map (Head i v) (headed a c word) u.in_hand (All-weaker (Head i v) (λ (x : InHand). Head i v (headed a c word x)) (λ x old. one x (is_in_hand a c x) refl old) u.in_hand h.heads);
  lies = h.lies;
}
  where
    one : (x : InHand) (t : Bool) → is_in_hand a c x ≡ t → Head i v x → Head i v (cond t (record x { head = Some word }) x)
    one x true e old from = let is_here = hand_is a c x e in is (sym from ∙ is_here.0) ∙ ap (λ (y : ℕ). head_word (letter_in v y).message (letter_in v y).colour) (sym is_here.1)
    one x false e old from = old from

-- copies were collected: what the mail lost is in hand, and no head of it was read
pub way_collected : (b : ℕ) (mail now : ℕ → ℕ) (i j : ℕ) (v u : LbtsView) (new : List InHand) → ((k : ℕ) → k < b → now k + count_by (is_in_hand i k) new ≡ mail k)
    → All (λ (h : InHand). h.head ≡ None) new → Way b mail i j v u → Way b now i j v (record u { in_hand = u.in_hand ++ new })
way_collected b mail now i j v u new same unread h = record {
  copies = λ t. h.copies t ∙ ap (λ (x : ℕ). count_by t (letters_received_from i u) + x)
      (sum_same (λ k. cond (t (letter_in v k)) (copies_on_way mail i u.in_hand k) 0) (λ k. cond (t (letter_in v k)) (copies_on_way now i (u.in_hand ++ new) k) 0) b
      (λ k lk. ap (λ (x : ℕ). cond (t (letter_in v k)) x 0)
      (moved (mail k) (now k) (count_by (is_in_hand i k) u.in_hand) (count_by (is_in_hand i k) new) (count_by (is_in_hand i k) (u.in_hand ++ new)) (same k lk) (count_append (is_in_hand i k) u.in_hand new))));
  heads = All-append (Head i v) u.in_hand new h.heads (All-weaker (λ (h : InHand). h.head ≡ None) (Head i v) (λ x none from. subst (λ (o : Option ℕ). IfSome o (λ word. word ≡ head_word (letter_in v x.buffer).message (letter_in v x.buffer).colour)) (sym none) tt) new unread);
  lies = h.lies;
}
  where
    moved : (a z c d e : ℕ) → z + d ≡ a → e ≡ c + d → a + c ≡ z + e
    moved a z c d e x y = omega arith

-- a copy was received: its letter is among the receipts, and it is in hand no more
pub way_received : (b : ℕ) (mail : ℕ → ℕ) (i j : ℕ) (v u u' : LbtsView) (k : ℕ) → k < b → receipts u' ≡ receipts u ++ letter_in v k ∷ [] → (letter_in v k).message.sender ≡ i
    → u'.in_hand ≡ filter (λ h. not (is_in_hand i k h)) u.in_hand → count_by (is_in_hand i k) u.in_hand ≡ 1
    → All (λ (e : Entry). e.message.sender ≡ i → IfSome e.buffer (λ k. (letter_in v k).message ≡ e.message)) u'.queue
    → Way b mail i j v u → Way b mail i j v u'
way_received b mail i j v u u' k lk more from hands one lies h = record {
  copies = λ t.
      let hands' : List InHand = filter (λ h. not (is_in_hand i k h)) u.in_hand in
      let before : ℕ → ℕ = λ x. cond (t (letter_in v x)) (copies_on_way mail i u.in_hand x) 0 in
      let after : ℕ → ℕ = λ x. cond (t (letter_in v x)) (copies_on_way mail i hands' x) 0 in
      let sum : sum_to after b + before k ≡ sum_to before b + after k =
      sum_change before after b k lk (λ x lx other. ap (λ (y : ℕ). cond (t (letter_in v x)) (mail x + y) 0) (sym (count_without (is_in_hand i k) (is_in_hand i x) u.in_hand (hand_else i k i x (λ _ e. other e))))) in
      let gone : copies_on_way mail i hands' k ≡ mail k + 0 = ap (λ (y : ℕ). mail k + y) (count_gone (is_in_hand i k) u.in_hand) in
      let there : copies_on_way mail i u.in_hand k ≡ mail k + 1 = ap (λ (y : ℕ). mail k + y) one in
      let less : before k ≡ after k + one_if (t (letter_in v k)) = step (t (letter_in v k)) (copies_on_way mail i u.in_hand k) (copies_on_way mail i hands' k) (mail k) there gone in
      let old : count_by t (letters_posted_to j v) ≡ count_by t (letters_received_from i u) + sum_to before b = h.copies t in
      let pushed : count_by t (letters_received_from i u') ≡ count_by t (letters_received_from i u) + one_if (t (letter_in v k)) =
      ap (λ (rs : List Filled). count_by t (filter (λ (f : Filled). f.message.sender == i) rs)) more
      ∙ (ap (count_by t) (filter-append (λ (f : Filled). f.message.sender == i) (receipts u) (letter_in v k ∷ []) ∙ ap (λ (c : Bool). letters_received_from i u ++ cond c (letter_in v k ∷ []) []) (eq-eqb (letter_in v k).message.sender i from))
      ∙ count_last t (letters_received_from i u) (letter_in v k)) in
      let new : count_by t (letters_posted_to j v) ≡ count_by t (letters_received_from i u') + sum_to after b = omega arith in
      subst (λ (hs : List InHand). count_by t (letters_posted_to j v) ≡ count_by t (letters_received_from i u') + passing_copies t (letter_in v) (copies_on_way mail i hs) b) (sym hands) new;
  heads = subst (All (Head i v)) (sym hands) (All-filter (λ h. not (is_in_hand i k h)) (Head i v) u.in_hand h.heads);
  lies = lies;
}
  where
    step : (c : Bool) (x y z : ℕ) → x ≡ z + 1 → y ≡ z + 0 → cond c x 0 ≡ cond c y 0 + one_if c
    step true x y z a e = omega arith
    step false x y z a e = refl

-- of another sender nothing was received
pub way_received_else : (b : ℕ) (mail : ℕ → ℕ) (i j : ℕ) (v u u' : LbtsView) (a k : ℕ) (f : Filled) → i ≢ a → receipts u' ≡ receipts u ++ f ∷ [] → f.message.sender ≡ a
    → u'.in_hand ≡ filter (λ h. not (is_in_hand a k h)) u.in_hand
    → All (λ (e : Entry). e.message.sender ≡ i → IfSome e.buffer (λ k. (letter_in v k).message ≡ e.message)) u'.queue
    → Way b mail i j v u → Way b mail i j v u'
way_received_else b mail i j v u u' a k f other more from hands lies h = record {
  copies = λ t.
      let hands' : List InHand = filter (λ h. not (is_in_hand a k h)) u.in_hand in
      let same : letters_received_from i u' ≡ letters_received_from i u =
      ap (filter (λ (f : Filled). f.message.sender == i)) more
      ∙ (filter-append (λ (f : Filled). f.message.sender == i) (receipts u) (f ∷ []) ∙ (ap (λ (c : Bool). letters_received_from i u ++ cond c (f ∷ []) []) (ne_eqb f.message.sender i (λ e. other (sym e ∙ from))) ∙ append-nil (letters_received_from i u))) in
      let sums : passing_copies t (letter_in v) (copies_on_way mail i u.in_hand) b ≡ passing_copies t (letter_in v) (copies_on_way mail i hands') b =
      sum_same (λ x. cond (t (letter_in v x)) (copies_on_way mail i u.in_hand x) 0) (λ x. cond (t (letter_in v x)) (copies_on_way mail i hands' x) 0) b
      (λ x lx. ap (λ (y : ℕ). cond (t (letter_in v x)) (mail x + y) 0) (sym (count_without (is_in_hand a k) (is_in_hand i x) u.in_hand (hand_else a k i x (λ e _. other e))))) in
      let new : count_by t (letters_posted_to j v) ≡ count_by t (letters_received_from i u') + passing_copies t (letter_in v) (copies_on_way mail i hands') b = h.copies t ∙ (λ x. count_by t (sym same x) + sums x) in
      subst (λ (hs : List InHand). count_by t (letters_posted_to j v) ≡ count_by t (letters_received_from i u') + passing_copies t (letter_in v) (copies_on_way mail i hs) b) (sym hands) new;
  heads = subst (All (Head i v)) (sym hands) (All-filter (λ h. not (is_in_hand a k h)) (Head i v) u.in_hand h.heads);
  lies = lies;
}
