-- The place of an entry in the list, and what stands there.
use Rattle.std.proofs.Common.{◌≡◌, ℕ, zero, suc, ◌<◌, ◌≤◌, Bool, true, false, cond, not, ◌==◌, List, [], ◌∷◌, length, get_or, set, Some, None, arith, refl, sym, ap, ◌∙◌, eqb-true, true≢false, ltb-false, nat_lt, is_some, option_map, option_and_then}
use Rattle.std.specs.Ordering.{is_lt}
use Rattle.std.specs.declared.cmp.Ordering.TheVariants.{Less}
use Rattle.std.specs.List.{AllByRecursion, IsDistinct, find, position, position_or_len, insert, remove}
use Rattle.std.specs.List.Sorted.{IsStrictlySortedBy, IsPartitionedBy}
use Rattle.std.proofs.lemmas.Bool.{and_parts}
use Rattle.std.proofs.lemmas.List.Folds.{find_at}
use Rattle.std.proofs.lemmas.List.Quantifiers.{position-Some}
use Rattle.std.proofs.lemmas.Option.{slice_get_past}
use Rattle.kit_base.specs.Order.{key_cmp, is_before}
use Rattle.kit_base.specs.declared.message.Message.{Message}
use Rattle.kit_base.proofs.Orders.{key_total}
use Rattle.kit_queue.specs.declared.entry.Entry.{Entry}
use Rattle.kit_queue.specs.Entries.{messages_of, is_numbered, shares_number, IsInOrder, AreNumberedApart, put_entry, entry_of, entries_without, is_settleable, without_buffer, with_first_settled, buffer_of, first_buffer}

-- the test is false
unset : (b : Bool) → not b ≡ true → b ≡ false
unset true h = sym h
unset false h = refl

-- the test is true
is_set : (b : Bool) → not b ≡ false → b ≡ true
is_set true h = refl
is_set false h = sym h

-- what holds of each message holds of that of each entry
at_place : (P : Message → Type 0) (es : List Entry) (k : ℕ) (d : Entry) → AllByRecursion P (messages_of es) → k < length es → P (get_or es k d).message
at_place P [] k d h l = absurd (omega arith)
at_place P (x ∷ xs) zero d h l = h.0
at_place P (x ∷ xs) (suc k) d h l = at_place P xs k d h.1 (omega arith)

-- a message that is before an entry is before each later one
later : (m : Message) (x : Entry) (xs : List Entry) (k : ℕ) (d : Entry) → AllByRecursion (λ y. key_cmp x.message y ≡ Less) (messages_of xs) → k < length xs → is_before m x.message ≡ true → is_before m (get_or xs k d).message ≡ true
later m x xs k d h l b =
    let less : key_cmp m x.message ≡ Less = lt_less (key_cmp m x.message) b in
    ap is_lt (key_total.trans m x.message (get_or xs k d).message less (at_place (λ y. key_cmp x.message y ≡ Less) xs k d h l))
  where
    lt_less : (o : _) → is_lt o ≡ true → o ≡ Less
    lt_less o h = grind arith

-- the entries that a message is not before stand before the others
pub parted : (m : Message) (es : List Entry) → IsInOrder es → IsPartitionedBy (λ x. not (is_before m x.message)) es
unfolding IsStrictlySortedBy
parted m [] s i j d le l h = absurd (omega arith)
parted m (x ∷ xs) s zero zero d le l h = h
parted m (x ∷ xs) s zero (suc j) d le l h =
    elim (is_before m x.message) as (λ b. is_before m x.message ≡ b → not b ≡ true) [
      | true ↦ λ e. sym (ap not (later m x xs j d s.0 (omega arith) e)) ∙ h
      | false ↦ λ e. refl
    ] refl
parted m (x ∷ xs) s (suc i) zero d le l h = absurd (omega arith)
parted m (x ∷ xs) s (suc i) (suc j) d le l h = parted m xs s.1 i j d (omega arith) (omega arith) h

-- an entry's place is between those that it is not before and the others
pub put_at : (e : Entry) (es : List Entry) (i : ℕ) → i ≤ length es
    → ((k : ℕ) (d : Entry) → k < i → not (is_before e.message (get_or es k d).message) ≡ true)
    → ((d : Entry) → i < length es → not (is_before e.message (get_or es i d).message) ≡ false)
    → put_entry e es ≡ insert es i e
put_at e [] zero l f t = refl
put_at e [] (suc i) l f t = absurd (omega arith)
put_at e (x ∷ xs) zero l f t = ap (λ b. cond b (e ∷ x ∷ xs) (x ∷ put_entry e xs)) (is_set _ (t e (omega arith)))
put_at e (x ∷ xs) (suc i) l f t =
    ap (λ b. cond b (e ∷ x ∷ xs) (x ∷ put_entry e xs)) (unset _ (f 0 e (omega arith)))
    ∙ ap (λ ys. x ∷ ys) (put_at e xs i (omega arith) (λ k d h. f (suc k) d (omega arith)) (λ d h. t d (omega arith)))

-- all but the entries of a number that no message has are all
all_others : (sender number : ℕ) (m : Message) (es : List Entry) → is_numbered sender number m ≡ true → AllByRecursion (λ y. shares_number m y ≡ false) (messages_of es) → entries_without sender number es ≡ es
all_others sender number m [] t a = refl
all_others sender number m (x ∷ xs) t a =
    let parts = and_parts (m.sender == sender) (m.number == number) t in
    let far : is_numbered sender number x.message ≡ false = ap (λ s. is_numbered s number x.message) (sym (eqb-true _ _ parts.0)) ∙ ap (λ n. is_numbered m.sender n x.message) (sym (eqb-true _ _ parts.1)) ∙ a.0 in
    ap (λ b. cond (not b) (x ∷ entries_without sender number xs) (entries_without sender number xs)) far ∙ ap (λ ys. x ∷ ys) (all_others sender number m xs t a.1)

-- to take out the entry of a number leaves those of other numbers
removed : (sender number : ℕ) (es : List Entry) (i : ℕ) (d : Entry) → AreNumberedApart es → i < length es → is_numbered sender number (get_or es i d).message ≡ true
    → ((k : ℕ) → k < i → is_numbered sender number (get_or es k d).message ≡ false)
    → entries_without sender number es ≡ remove es i
unfolding IsDistinct
removed sender number [] i d s l t f = absurd (omega arith)
removed sender number (x ∷ xs) zero d s l t f = ap (λ b. cond (not b) (x ∷ entries_without sender number xs) (entries_without sender number xs)) t ∙ all_others sender number x.message xs t s.0
removed sender number (x ∷ xs) (suc i) d s l t f =
    ap (λ b. cond (not b) (x ∷ entries_without sender number xs) (entries_without sender number xs)) (f 0 (omega arith))
    ∙ ap (λ ys. x ∷ ys) (removed sender number xs i d s.1 (omega arith) t (λ k h. f (suc k) (omega arith)))

-- without the entry of a number that no entry has
pub none_removed : (sender number : ℕ) (es : List Entry) → entry_of sender number es ≡ None → entries_without sender number es ≡ es
none_removed sender number [] h = refl
none_removed sender number (x ∷ xs) h =
    elim (is_numbered sender number x.message) as (λ b. cond b (Some x) (entry_of sender number xs) ≡ None → cond (not b) (x ∷ entries_without sender number xs) (entries_without sender number xs) ≡ x ∷ xs) [
      | true ↦ λ e. cc
      | false ↦ λ e. ap (λ ys. x ∷ ys) (none_removed sender number xs e)
    ] h

-- the first entry that can be settled is the one that changes
settled_at : (below : ℕ) (es : List Entry) (i : ℕ) (d : Entry) → i < length es → is_settleable below (get_or es i d) ≡ true
    → ((k : ℕ) → k < i → is_settleable below (get_or es k d) ≡ false)
    → with_first_settled below es ≡ set es i (without_buffer (get_or es i d))
settled_at below [] i d l t f = absurd (omega arith)
settled_at below (x ∷ xs) zero d l t f = ap (λ b. cond b (without_buffer x ∷ xs) (x ∷ with_first_settled below xs)) t
settled_at below (x ∷ xs) (suc i) d l t f =
    ap (λ b. cond b (without_buffer x ∷ xs) (x ∷ with_first_settled below xs)) (f 0 (omega arith))
    ∙ ap (λ ys. x ∷ ys) (settled_at below xs i d (omega arith) t (λ k h. f (suc k) (omega arith)))

-- nothing changes where no entry can be settled
pub none_settled : (below : ℕ) (es : List Entry) → find (is_settleable below) es ≡ None → with_first_settled below es ≡ es
none_settled below [] h = refl
none_settled below (x ∷ xs) h =
    elim (is_settleable below x) as (λ b. cond b (Some x) (find (is_settleable below) xs) ≡ None → cond b (without_buffer x ∷ xs) (x ∷ with_first_settled below xs) ≡ x ∷ xs) [
      | true ↦ λ e. cc
      | false ↦ λ e. ap (λ ys. x ∷ ys) (none_settled below xs e)
    ] h

-- the first element that passes, by its place
found : {X : Type 0} (p : X → Bool) (xs : List X) (i : ℕ) (d : X) → i < length xs → p (get_or xs i d) ≡ true → ((k : ℕ) → k < i → p (get_or xs k d) ≡ false) → find p xs ≡ Some (get_or xs i d)
found p [] i d l t f = absurd (omega arith)
found p (x ∷ xs) zero d l t f = ap (λ b. cond b (Some x) (find p xs)) t
found p (x ∷ xs) (suc i) d l t f =
    ap (λ b. cond b (Some x) (find p xs)) (f 0 (omega arith)) ∙ found p xs i d (omega arith) t (λ k h. f (suc k) (omega arith))

-- what stands at the first place is what is found
pub found_at : {X : Type 0} (p : X → Bool) (xs : List X) (i : ℕ) (x : X) → position p xs ≡ Some i → x ≡ get_or xs i x → find p xs ≡ Some x
found_at p xs i x h e = let first = position-Some p xs i x h in found p xs i x first.0 first.1 first.2 ∙ ap Some (sym e)

-- what stands at the first place passes
pub passes_at : {X : Type 0} (p : X → Bool) (xs : List X) (i : ℕ) (x : X) → position p xs ≡ Some i → x ≡ get_or xs i x → p x ≡ true
passes_at p xs i x h e = ap p e ∙ (position-Some p xs i x h).1

-- nothing is found where there is no place
pub missed : {X : Type 0} (p : X → Bool) (xs : List X) → position p xs ≡ None → find p xs ≡ None
missed p xs h =
    let n = position_or_len p xs in
    find_at p xs ∙ slice_get_past xs n (ltb-false n (length xs) (beyond (nat_lt n (length xs)) n h))
  where
    beyond : (b : Bool) (n : ℕ) → cond b (Some n) None ≡ None → b ≡ false
    beyond true n e = cc
    beyond false n e = refl

-- to take out the entry at its first place leaves those of other numbers
pub removed_at : (sender number : ℕ) (es : List Entry) (i : ℕ) (e : Entry) → AreNumberedApart es → position (λ (x : Entry). is_numbered sender number x.message) es ≡ Some i → entries_without sender number es ≡ remove es i
removed_at sender number es i e d h = let first = position-Some (λ (x : Entry). is_numbered sender number x.message) es i e h in removed sender number es i e d first.0 first.1 first.2

-- the entry at the first place that can be settled is the one that changes
pub settled_place : (below : ℕ) (es : List Entry) (i : ℕ) (e : Entry) → position (is_settleable below) es ≡ Some i → e ≡ get_or es i e → with_first_settled below es ≡ set es i (without_buffer e)
settled_place below es i e h same =
    let first = position-Some (is_settleable below) es i e h in
    settled_at below es i e first.0 first.1 first.2 ∙ ap (λ x. set es i (without_buffer x)) (sym same)

-- an entry that can be settled has a buffer
pub has_buffer : (below : ℕ) (e : Entry) → is_settleable below e ≡ true → e.buffer ≡ None → ⊥
has_buffer below e t none = true≢false (sym (and_parts (nat_lt e.message.time below) (is_some e.buffer) t).1 ∙ ap is_some none)

-- the buffer that is found
pub buffer_found : (below : ℕ) (es : List Entry) (e : Entry) (b : ℕ) → find (is_settleable below) es ≡ Some e → e.buffer ≡ Some b → first_buffer below es ≡ Some (e.message.sender, b)
buffer_found below es e b h has = ap (option_and_then buffer_of) h ∙ ap (option_map (λ (b : ℕ). (e.message.sender, b))) has

-- no buffer is found where no entry can be settled
pub no_buffer : (below : ℕ) (es : List Entry) → find (is_settleable below) es ≡ None → first_buffer below es ≡ None
no_buffer below es h = ap (option_and_then buffer_of) h
