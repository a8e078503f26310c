-- Pending messages, where one more was received; and that messages in their order can be sieved before or after.
use Rattle.std.proofs.Common.{◌≡◌, ℕ, ◌+◌, ◌==◌, ◌&&◌, ◌||◌, not, Bool, true, false, cond, List, [], ◌∷◌, ◌++◌, filter, fold, Option, Some, None, is_some, refl, sym, ap, ◌∙◌, arith, eqb-true}
use Rattle.std.specs.List.{All, AllByRecursion, IsDistinct, count_by, list_any, Contains}
use Rattle.std.specs.Ordering.{is_lt, ordering_reverse}
use Rattle.std.specs.declared.cmp.Ordering.{Ordering}
use Rattle.std.specs.declared.cmp.Ordering.TheVariants.{Less, Equal, Greater}
use Rattle.std.proofs.lemmas.Bool.{and_parts, and_right, or_parts, or_right, false_from_ne_true, true≢false}
use Rattle.std.proofs.lemmas.Cmp.{alike_right}
use Rattle.std.proofs.lemmas.List.{append-nil}
use Rattle.std.proofs.lemmas.List.Elements.{All-cons, All-head, All-tail, filter-append, filter_agree, Contains-append_right}
use Rattle.std.proofs.lemmas.List.Folds.{list_any-append, list_any_at}
use Rattle.std.proofs.lemmas.List.Sums.{fold_push}
use Rattle.kit_base.specs.declared.message.Message.{Message}
use Rattle.kit_base.specs.Order.{in_order, is_before, key_cmp, put}
use Rattle.kit_base.proofs.Lists.{all_filter, each_weaker}
use Rattle.kit_base.proofs.Orders.{all_put, key_total}
use Rattle.kit_queue.specs.declared.entry.Entry.{Entry}
use Rattle.kit_queue.specs.Entries.{AreNumberedApart, entry_of, is_numbered, messages_of, put_entry, shares_number, entries_without}
use Rattle.kit_rules.specs.Parts.{Parts}
use Rattle.kit_rules.specs.Delivery.{has_bit, is_pending, is_same, is_transported, pending_messages, receivers_of, retracts}
use Rattle.kit_rules.specs.Step.{is_event}
use Rattle.kit_lbts.specs.Views.{is_spent}
use Rattle.kit_lbts.specs.Progress.{spent, spent_buffer, spent_entry}
use Rattle.kit_lbts.specs.Seats.{is_buffer, is_event_of, is_orphaned, names, waits_in}
use Rattle.kit_lbts.proofs.Hands.{count_cons, one_if}

or_false : (b : Bool) → (b || false) ≡ b
or_false true = refl
or_false false = refl

-- ---- one more was received
module _ (f : Parts) (j : ℕ) (got sent : List Message) (m : Message) where
  abbrev front : Message → Bool
  front x = is_event x.kind && is_transported f x && has_bit (receivers_of f x.sender x.group) j && not (list_any (is_same x) got)

  retracted_more : (x : Message) → list_any (retracts x) (sent ++ m ∷ []) ≡ (list_any (retracts x) sent || retracts x m)
  retracted_more x = list_any-append (retracts x) sent (m ∷ []) ∙ ap (λ (b : Bool). list_any (retracts x) sent || b) (or_false (retracts x m))

  event_aside : is_event m.kind ≡ true → (x : Message) → is_pending f j got (sent ++ m ∷ []) x ≡ is_pending f j got sent x
  event_aside e x = ap (λ (b : Bool). front x && not b) (retracted_more x ∙ (ap (λ (b : Bool). list_any (retracts x) sent || (not b && m.sender == x.sender && m.value == x.number)) e ∙ or_false (list_any (retracts x) sent)))

  pub pending_event : is_event m.kind ≡ true → pending_messages f j got (sent ++ m ∷ []) ≡ pending_messages f j got sent ++ cond (is_pending f j got sent m) (m ∷ []) []
  pending_event e =
      filter_agree (is_pending f j got (sent ++ m ∷ [])) (is_pending f j got sent) (event_aside e) (sent ++ m ∷ [])
      ∙ filter-append (is_pending f j got sent) sent (m ∷ [])

  retraction_aside : (x : Message) → is_pending f j got (sent ++ m ∷ []) x ≡ (is_pending f j got sent x && not (retracts x m))
  retraction_aside x = ap (λ (b : Bool). front x && not b) (retracted_more x) ∙ apart (front x) (list_any (retracts x) sent) (retracts x m)
    where
      apart : (a b c : Bool) → (a && not (b || c)) ≡ ((a && not b) && not c)
      apart false b c = refl
      apart true true c = refl
      apart true false c = refl

  pub pending_retraction : is_event m.kind ≡ false → pending_messages f j got (sent ++ m ∷ []) ≡ filter (λ x. not (retracts x m)) (pending_messages f j got sent)
  pending_retraction e =
      filter_agree (is_pending f j got (sent ++ m ∷ [])) (λ x. is_pending f j got sent x && not (retracts x m)) retraction_aside (sent ++ m ∷ [])
      ∙ (filter-append (λ x. is_pending f j got sent x && not (retracts x m)) sent (m ∷ [])
      ∙ (ap (λ (b : Bool). filter (λ x. is_pending f j got sent x && not (retracts x m)) sent ++ cond (b && is_transported f m && has_bit (receivers_of f m.sender m.group) j && not (list_any (is_same m) got) && not (list_any (retracts m) sent) && not (retracts m m)) (m ∷ []) []) e
      ∙ (append-nil (filter (λ x. is_pending f j got sent x && not (retracts x m)) sent) ∙ twice (is_pending f j got sent) (λ x. not (retracts x m)) sent)))
    where
      twice : (p q : Message → Bool) (xs : List Message) → filter (λ x. p x && q x) xs ≡ filter q (filter p xs)
      twice p q [] = refl
      twice p q (x ∷ xs) = one (p x) (q x) refl (twice p q xs)
        where
          one : (a b : Bool) → q x ≡ b → filter (λ x. p x && q x) xs ≡ filter q (filter p xs) → cond (a && b) (x ∷ filter (λ x. p x && q x) xs) (filter (λ x. p x && q x) xs) ≡ filter q (cond a (x ∷ filter p xs) (filter p xs))
          one true true e r = ap (λ l. x ∷ l) r ∙ ap (λ (b : Bool). cond b (x ∷ filter q (filter p xs)) (filter q (filter p xs))) (sym e)
          one true false e r = r ∙ ap (λ (b : Bool). cond b (x ∷ filter q (filter p xs)) (filter q (filter p xs))) (sym e)
          one false b e r = r

-- ---- messages in their order
is_less : (o : Ordering) → is_lt o ≡ true → o ≡ Less
is_less Less e = refl
is_less Equal e = absurd (true≢false (sym e))
is_less Greater e = absurd (true≢false (sym e))

after_less : (m x : Message) → key_cmp m x ≡ Less → key_cmp x m ≡ Greater
after_less m x e = key_total.antisymm x m ∙ ap ordering_reverse e

-- before one that is not after another, so before that
before_later : (m x y : Message) → is_before m x ≡ true → is_before y x ≡ false → is_before m y ≡ true
before_later m x y less not_less = by (key_cmp m y) refl
  where
    by : (o : Ordering) → key_cmp m y ≡ o → is_lt (key_cmp m y) ≡ true
    by Less e = ap is_lt e
    by Equal e = absurd (true≢false (sym (ap is_lt (key_total.antisymm y x ∙ ap ordering_reverse (sym (alike_right key_total m y x e) ∙ after_less m x (is_less (key_cmp m x) less)))) ∙ not_less))
    by Greater e = absurd (true≢false (sym (ap is_lt (key_total.trans y m x (key_total.antisymm y m ∙ ap ordering_reverse e) (is_less (key_cmp m x) less))) ∙ not_less))

not_back : (m x y : Message) → is_before m x ≡ true → is_before y x ≡ false → is_before y m ≡ false
not_back m x y less not_less = ap is_lt (after_less m y (is_less (key_cmp m y) (before_later m x y less not_less)))

-- none comes before one that stands before it
abbrev Ascends : List Message → Type 0
Ascends [] = Unit {0}
Ascends (x ∷ xs) = AllByRecursion (λ y. is_before y x ≡ false) xs × Ascends xs

ascends_put : (m : Message) (xs : List Message) → Ascends xs → Ascends (put m xs)
ascends_put m [] h = (tt, tt)
ascends_put m (x ∷ xs) h = by (is_before m x) refl (ascends_put m xs h.1)
  where
    by : (b : Bool) → is_before m x ≡ b → Ascends (put m xs) → Ascends (cond b (m ∷ x ∷ xs) (x ∷ put m xs))
    by true e r = ((ap is_lt (after_less m x (is_less (key_cmp m x) e)), each_weaker (λ y. is_before y x ≡ false) (λ y. is_before y m ≡ false) xs (λ y n. not_back m x y e n) h.0), h)
    by false e r = (all_put (λ y. is_before y x ≡ false) m xs e h.0, r)

put_front : (m : Message) (ys : List Message) → AllByRecursion (λ y. is_before m y ≡ true) ys → put m ys ≡ m ∷ ys
put_front m [] h = refl
put_front m (y ∷ ys) h = ap (λ (b : Bool). cond b (m ∷ y ∷ ys) (y ∷ put m ys)) h.0

put_filter : (p : Message → Bool) (m : Message) (xs : List Message) → Ascends xs → filter p (put m xs) ≡ cond (p m) (put m (filter p xs)) (filter p xs)
put_filter p m [] h = refl
put_filter p m (x ∷ xs) h = by (is_before m x) refl (put_filter p m xs h.1)
  where
    mixed : (a b : Bool) → is_before m x ≡ false → filter p (put m xs) ≡ cond b (put m (filter p xs)) (filter p xs)
        → cond a (x ∷ filter p (put m xs)) (filter p (put m xs)) ≡ cond b (put m (cond a (x ∷ filter p xs) (filter p xs))) (cond a (x ∷ filter p xs) (filter p xs))
    mixed true true e r = ap (λ l. x ∷ l) r ∙ ap (λ (b : Bool). cond b (m ∷ x ∷ filter p xs) (x ∷ put m (filter p xs))) (sym e)
    mixed true false e r = ap (λ l. x ∷ l) r
    mixed false true e r = r
    mixed false false e r = r

    by : (b : Bool) → is_before m x ≡ b → filter p (put m xs) ≡ cond (p m) (put m (filter p xs)) (filter p xs)
        → filter p (cond b (m ∷ x ∷ xs) (x ∷ put m xs)) ≡ cond (p m) (put m (filter p (x ∷ xs))) (filter p (x ∷ xs))
    by true e r = ap (λ l. cond (p m) l (filter p (x ∷ xs)))
        (sym (put_front m (filter p (x ∷ xs)) (all_filter (λ y. is_before m y ≡ true) p (x ∷ xs) (e, each_weaker (λ y. is_before y x ≡ false) (λ y. is_before m y ≡ true) xs (λ y n. before_later m x y e n) h.0))))
    by false e r = mixed (p x) (p m) e r

sieved : (p : Message → Bool) (acc xs : List Message) → Ascends acc
    → fold (λ (sorted : List Message) (m : Message). put m sorted) (filter p acc) (filter p xs) ≡ filter p (fold (λ (sorted : List Message) (m : Message). put m sorted) acc xs)
sieved p acc [] h = refl
sieved p acc (x ∷ xs) h = by (p x) refl (sieved p (put x acc) xs (ascends_put x acc h))
  where
    abbreviation : List Message → List Message → List Message
    abbreviation acc xs = fold (λ (sorted : List Message) (m : Message). put m sorted) acc xs

    by : (b : Bool) → p x ≡ b
        → fold (λ (sorted : List Message) (m : Message). put m sorted) (filter p (put x acc)) (filter p xs) ≡ filter p (fold (λ (sorted : List Message) (m : Message). put m sorted) (put x acc) xs)
        → fold (λ (sorted : List Message) (m : Message). put m sorted) (filter p acc) (cond b (x ∷ filter p xs) (filter p xs)) ≡ filter p (fold (λ (sorted : List Message) (m : Message). put m sorted) (put x acc) xs)
    by true e r = ap (λ l. fold (λ (sorted : List Message) (m : Message). put m sorted) l (filter p xs)) (sym (put_filter p x acc h ∙ ap (λ (b : Bool). cond b (put x (filter p acc)) (filter p acc)) e)) ∙ r
    by false e r = ap (λ l. fold (λ (sorted : List Message) (m : Message). put m sorted) l (filter p xs)) (sym (put_filter p x acc h ∙ ap (λ (b : Bool). cond b (put x (filter p acc)) (filter p acc)) e)) ∙ r

pub in_order_filter : (p : Message → Bool) (xs : List Message) → in_order (filter p xs) ≡ filter p (in_order xs)
in_order_filter p xs = sieved p [] xs tt

-- ---- what is among them
any_put : (p : Message → Bool) (m : Message) (xs : List Message) → list_any p (put m xs) ≡ (p m || list_any p xs)
any_put p m [] = refl
any_put p m (x ∷ xs) = by (is_before m x) (any_put p m xs)
  where
    turn : (a b c d : Bool) → d ≡ (a || c) → (b || d) ≡ (a || (b || c))
    turn true true c d e = refl
    turn true false c d e = e
    turn false true c d e = refl
    turn false false c d e = e

    by : (b : Bool) → list_any p (put m xs) ≡ (p m || list_any p xs) → list_any p (cond b (m ∷ x ∷ xs) (x ∷ put m xs)) ≡ (p m || (p x || list_any p xs))
    by true r = refl
    by false r = turn (p m) (p x) (list_any p xs) (list_any p (put m xs)) r

any_fold : (p : Message → Bool) (acc xs : List Message) → list_any p (fold (λ (sorted : List Message) (m : Message). put m sorted) acc xs) ≡ (list_any p acc || list_any p xs)
any_fold p acc [] = sym (or_false (list_any p acc))
any_fold p acc (x ∷ xs) = any_fold p (put x acc) xs ∙ (ap (λ (b : Bool). b || list_any p xs) (any_put p x acc) ∙ turn (p x) (list_any p acc) (list_any p xs))
  where
    turn : (a b c : Bool) → ((a || b) || c) ≡ (b || (a || c))
    turn true true c = refl
    turn true false c = refl
    turn false true c = refl
    turn false false c = refl

pub any_ordered : (p : Message → Bool) (xs : List Message) → list_any p (in_order xs) ≡ list_any p xs
any_ordered p xs = any_fold p [] xs

module _ {X : Type 0} where
  pub none_sieved : (p q : X → Bool) (xs : List X) → list_any p xs ≡ false → list_any p (filter q xs) ≡ false
  none_sieved p q [] h = refl
  none_sieved p q (x ∷ xs) h = by (q x) (or_parts (p x) (list_any p xs) h) (none_sieved p q xs (or_parts (p x) (list_any p xs) h).1)
    where
      by : (b : Bool) → (p x ≡ false) × (list_any p xs ≡ false) → list_any p (filter q xs) ≡ false → list_any p (cond b (x ∷ filter q xs) (filter q xs)) ≡ false
      by true t r = (λ i. t.0 i || r i)
      by false t r = r

  pub any_there : (p : X → Bool) (xs : List X) → list_any p xs ≡ true → (x : X) × Contains xs x × (p x ≡ true)
  any_there p [] h = absurd (true≢false (sym h))
  any_there p (x ∷ xs) h = by (p x) refl h (λ e. any_there p xs e)
    where
      by : (b : Bool) → p x ≡ b → (b || list_any p xs) ≡ true → (list_any p xs ≡ true → (y : X) × Contains xs y × (p y ≡ true)) → (y : X) × Contains (x ∷ xs) y × (p y ≡ true)
      by true e h r = (x, (0, omega arith, refl), e)
      by false e h r = let t = r h in (t.0, Contains-append_right (x ∷ []) xs t.0 t.1, t.2)

  pub none_there : (p : X → Bool) (xs : List X) → ((x : X) → Contains xs x → p x ≡ false) → list_any p xs ≡ false
  none_there p [] h = refl
  none_there p (x ∷ xs) h = (λ i. h x (0, omega arith, refl) i || none_there p xs (λ y has. h y (Contains-append_right (x ∷ []) xs y has)) i)

-- ---- entries
pub entry_any : (i n : ℕ) (es : List Entry) → is_some (entry_of i n es) ≡ list_any (is_numbered i n) (messages_of es)
entry_any i n [] = refl
entry_any i n (e ∷ es) = by (is_numbered i n e.message) (entry_any i n es)
  where
    by : (b : Bool) → is_some (entry_of i n es) ≡ list_any (is_numbered i n) (messages_of es) → is_some (cond b (Some e) (entry_of i n es)) ≡ (b || list_any (is_numbered i n) (messages_of es))
    by true r = refl
    by false r = r

pub none_is : {X : Type 0} (o : Option X) → is_some o ≡ false → o ≡ None
none_is None e = refl
none_is (Some x) e = absurd (true≢false e)

pub messages_put : (e : Entry) (es : List Entry) → messages_of (put_entry e es) ≡ put e.message (messages_of es)
messages_put e [] = refl
messages_put e (x ∷ xs) = by (is_before e.message x.message) (messages_put e xs)
  where
    by : (b : Bool) → messages_of (put_entry e xs) ≡ put e.message (messages_of xs) → messages_of (cond b (e ∷ x ∷ xs) (x ∷ put_entry e xs)) ≡ cond b (e.message ∷ x.message ∷ messages_of xs) (x.message ∷ put e.message (messages_of xs))
    by true r = refl
    by false r = ap (λ ms. x.message ∷ ms) r

pub messages_sieved : (p : Message → Bool) (es : List Entry) → messages_of (filter (λ e. p e.message) es) ≡ filter p (messages_of es)
messages_sieved p [] = refl
messages_sieved p (x ∷ xs) = by (p x.message) (messages_sieved p xs)
  where
    by : (b : Bool) → messages_of (filter (λ e. p e.message) xs) ≡ filter p (messages_of xs) → messages_of (cond b (x ∷ filter (λ e. p e.message) xs) (filter (λ e. p e.message) xs)) ≡ cond b (x.message ∷ filter p (messages_of xs)) (filter p (messages_of xs))
    by true r = ap (λ ms. x.message ∷ ms) r
    by false r = r

-- ---- orphans
pub orphaned_more : (a n : ℕ) (ms : List Message) (m : Message) → is_orphaned a n (ms ++ m ∷ []) ≡ ((list_any (names a n) ms || names a n m) && not (list_any (is_event_of a n) ms || is_event_of a n m))
orphaned_more a n ms m =
    (λ t. (list_any-append (names a n) ms (m ∷ []) ∙ ap (λ (b : Bool). list_any (names a n) ms || b) (or_false (names a n m))) t
    && not ((list_any-append (is_event_of a n) ms (m ∷ []) ∙ ap (λ (b : Bool). list_any (is_event_of a n) ms || b) (or_false (is_event_of a n m))) t))

-- ---- lists
module _ {X : Type 0} where
  pub none_at : (p : X → Bool) (xs : List X) (x : X) → list_any p xs ≡ false → Contains xs x → p x ≡ false
  none_at p xs x h has = false_from_ne_true (p x) (λ e. true≢false (sym (list_any_at p xs has.0 x has.1 (ap p has.2 ∙ e)) ∙ h))

  pub any_at : (p : X → Bool) (xs : List X) (x : X) → Contains xs x → p x ≡ true → list_any p xs ≡ true
  any_at p xs x has e = list_any_at p xs has.0 x has.1 (ap p has.2 ∙ e)

  pub none_weaker : (p q : X → Bool) (xs : List X) → ((x : X) → p x ≡ false → q x ≡ false) → list_any p xs ≡ false → list_any q xs ≡ false
  none_weaker p q [] w h = refl
  none_weaker p q (x ∷ xs) w h = let t = or_parts (p x) (list_any p xs) h in (λ i. w x t.0 i || none_weaker p q xs w t.1 i)

  pub any_gone : (p : X → Bool) (xs : List X) → list_any p (filter (λ x. not (p x)) xs) ≡ false
  any_gone p [] = refl
  any_gone p (x ∷ xs) = by (p x) refl (any_gone p xs)
    where
      by : (b : Bool) → p x ≡ b → list_any p (filter (λ x. not (p x)) xs) ≡ false → list_any p (cond (not b) (x ∷ filter (λ x. not (p x)) xs) (filter (λ x. not (p x)) xs)) ≡ false
      by true e r = r
      by false e r = (λ i. e i || r i)

  pub any_without : (p q : X → Bool) (xs : List X) → ((x : X) → p x ≡ true → q x ≡ false) → list_any q (filter (λ x. not (p x)) xs) ≡ list_any q xs
  any_without p q [] h = refl
  any_without p q (x ∷ xs) h = by (p x) refl (any_without p q xs h)
    where
      by : (b : Bool) → p x ≡ b → list_any q (filter (λ x. not (p x)) xs) ≡ list_any q xs → list_any q (cond (not b) (x ∷ filter (λ x. not (p x)) xs) (filter (λ x. not (p x)) xs)) ≡ (q x || list_any q xs)
      by true e r = r ∙ ap (λ (b : Bool). b || list_any q xs) (sym (h x e))
      by false e r = ap (λ (b : Bool). q x || b) r

-- a queue in which an entry was put
pub count_put : (t : Entry → Bool) (e : Entry) (es : List Entry) → count_by t (put_entry e es) ≡ one_if (t e) + count_by t es
count_put t e [] = count_cons t e []
count_put t e (x ∷ xs) = by (is_before e.message x.message) (count_put t e xs)
  where
    by : (b : Bool) → count_by t (put_entry e xs) ≡ one_if (t e) + count_by t xs → count_by t (cond b (e ∷ x ∷ xs) (x ∷ put_entry e xs)) ≡ one_if (t e) + count_by t (x ∷ xs)
    by true r = count_cons t e (x ∷ xs)
    by false r = let a = count_cons t x (put_entry e xs) in let c = count_cons t x xs in omega arith

pub all_put_entry : (A : Entry → Type 0) (e : Entry) (es : List Entry) → A e → All A es → All A (put_entry e es)
all_put_entry A e [] a h = All-cons A e [] a h
all_put_entry A e (x ∷ xs) a h = by (is_before e.message x.message) (all_put_entry A e xs a (All-tail A x xs h))
  where
    by : (b : Bool) → All A (put_entry e xs) → All A (cond b (e ∷ x ∷ xs) (x ∷ put_entry e xs))
    by true r = All-cons A e (x ∷ xs) a h
    by false r = All-cons A x (put_entry e xs) (All-head A x xs h) r

-- and one that is put into the order is put there at the end of all
pub in_order_push : (ms : List Message) (m : Message) → in_order (ms ++ m ∷ []) ≡ put m (in_order ms)
in_order_push ms m = fold_push (λ (sorted : List Message) (x : Message). put x sorted) [] ms m

-- ---- an entry is taken out
without_none : (i n : ℕ) (es : List Entry) → AllByRecursion (λ y. is_numbered i n y ≡ false) (messages_of es) → entries_without i n es ≡ es
without_none i n [] h = refl
without_none i n (e ∷ es) h = ap (λ (b : Bool). cond (not b) (e ∷ entries_without i n es) (entries_without i n es)) h.0 ∙ ap (λ l. e ∷ l) (without_none i n es h.1)

spent_waits : (a c i : ℕ) (e : Entry) → e.message.sender ≡ i → count_by (is_spent a c) (spent_buffer i e.buffer) ≡ one_if (waits_in a c e)
spent_waits a c i e from = by e.buffer
  where
    by : (o : Option ℕ) → count_by (is_spent a c) (spent_buffer i o) ≡ one_if (e.message.sender == a && is_buffer c o)
    by None = sym (ap one_if (and_right (e.message.sender == a) false refl))
    by (Some b) =
        let s : count_by (is_spent a c) (spent i b ∷ []) ≡ one_if (i == a && b == c) + 0 = count_cons (is_spent a c) (spent i b) [] in
        let t : one_if (i == a && b == c) ≡ one_if (e.message.sender == a && b == c) = ap (λ (x : ℕ). one_if (x == a && b == c)) (sym from) in
        omega arith

pub taken_out : (a c i n : ℕ) (es : List Entry) → AreNumberedApart es
    → count_by (waits_in a c) (entries_without i n es) + count_by (is_spent a c) (spent_entry i (entry_of i n es)) ≡ count_by (waits_in a c) es
unfolding IsDistinct
taken_out a c i n [] h = omega arith
taken_out a c i n (e ∷ es) h = by (is_numbered i n e.message) refl (taken_out a c i n es h.1)
  where
    by : (b : Bool) → is_numbered i n e.message ≡ b
        → count_by (waits_in a c) (entries_without i n es) + count_by (is_spent a c) (spent_entry i (entry_of i n es)) ≡ count_by (waits_in a c) es
        → count_by (waits_in a c) (cond (not b) (e ∷ entries_without i n es) (entries_without i n es)) + count_by (is_spent a c) (spent_entry i (cond b (Some e) (entry_of i n es))) ≡ count_by (waits_in a c) (e ∷ es)
    by true is r =
        let t = and_parts (e.message.sender == i) (e.message.number == n) is in
        let from : e.message.sender ≡ i = eqb-true e.message.sender i t.0 in
        let number : e.message.number ≡ n = eqb-true e.message.number n t.1 in
        let rest : entries_without i n es ≡ es = without_none i n es (each_weaker (λ y. shares_number e.message y ≡ false) (λ y. is_numbered i n y ≡ false) (messages_of es) (λ y d. (λ x. is_numbered (sym from x) (sym number x) y) ∙ d) h.0) in
        let s = spent_waits a c i e from in
        let d = count_cons (waits_in a c) e es in
        let l = ap (count_by (waits_in a c)) rest in
        omega arith
    by false is r = let d = count_cons (waits_in a c) e es in let g = count_cons (waits_in a c) e (entries_without i n es) in omega arith

-- ---- tests
pub and_not_false : (a b : Bool) → b ≡ false → (a && not b) ≡ false → a ≡ false
and_not_false true b e h = absurd (true≢false (sym (ap not e) ∙ h))
and_not_false false b e h = refl

pub orphans_stay : (a b c d : Bool) → c ≡ false → d ≡ false → ((a || c) && not (b || d)) ≡ (a && not b)
orphans_stay a b c d ec ed = (λ t. (ap (λ x. a || x) ec ∙ or_false a) t && not ((ap (λ x. b || x) ed ∙ or_false b) t))

pub orphan_none : (a b c d : Bool) → d ≡ true → ((a || c) && not (b || d)) ≡ false
orphan_none a b c d e = ap (λ x. (a || c) && not (b || x)) e ∙ and_right (a || c) (not (b || true)) (ap not (or_right b true refl))

pub orphan_known : (a b c d : Bool) → b ≡ true → ((a || c) && not (b || d)) ≡ false
orphan_known a b c d e = ap (λ x. (a || c) && not (x || d)) e ∙ and_right (a || c) false refl

pub orphan_made : (a b c d : Bool) → c ≡ true → b ≡ false → d ≡ false → ((a || c) && not (b || d)) ≡ true
orphan_made a b c d ec eb ed = (λ t. (a || ec t) && not (eb t || ed t)) ∙ ap (λ x. x && true) (or_right a true refl)
