-- What the calls leave of a list of entries is in order, with its numbers apart.
use Rattle.std.proofs.Common.{◌≡◌, ℕ, Bool, true, false, cond, not, List, [], ◌∷◌, ◌++◌, filter, Option, Some, None, refl, sym, ap, subst}
use Rattle.std.specs.List.{AllByRecursion, IsDistinct}
use Rattle.std.specs.List.Sorted.{IsStrictlySortedBy}
use Rattle.std.specs.Option.{option_to_list}
use Rattle.std.proofs.lemmas.List.Kept.{IsStrictlySortedBy-filter}
use Rattle.kit_base.specs.Order.{key_cmp, is_before, put}
use Rattle.kit_base.specs.declared.message.Message.{Message}
use Rattle.kit_queue.specs.declared.entry.Entry.{Entry}
use Rattle.kit_queue.specs.Entries.{messages_of, is_numbered, shares_number, IsInOrder, AreNumberedApart, put_entry, entry_of, entries_without, is_settleable, without_buffer, with_first_settled}
use Rattle.kit_queue.proofs.Keys.{sorted_put, distinct_put, distinct_filter}

-- the messages, once an entry is put in its place
messages_of-put_entry : (e : Entry) (es : List Entry) → messages_of (put_entry e es) ≡ put e.message (messages_of es)
messages_of-put_entry e [] = refl
messages_of-put_entry e (x ∷ xs) =
    elim (is_before e.message x.message) as (λ b. messages_of (cond b (e ∷ x ∷ xs) (x ∷ put_entry e xs)) ≡ cond b (e.message ∷ x.message ∷ messages_of xs) (x.message ∷ put e.message (messages_of xs))) [
      | true ↦ refl
      | false ↦ ap (λ ms. x.message ∷ ms) (messages_of-put_entry e xs)
    ]

-- the messages of those whose messages pass a test
messages_of-filter : (p : Message → Bool) (es : List Entry) → messages_of (filter (λ e. p e.message) es) ≡ filter p (messages_of es)
messages_of-filter p [] = refl
messages_of-filter p (x ∷ xs) =
    elim (p x.message) as (λ b. messages_of (cond b (x ∷ filter (λ e. p e.message) xs) (filter (λ e. p e.message) xs)) ≡ cond b (x.message ∷ filter p (messages_of xs)) (filter p (messages_of xs))) [
      | true ↦ ap (λ ms. x.message ∷ ms) (messages_of-filter p xs)
      | false ↦ messages_of-filter p xs
    ]

-- to settle an entry leaves the messages
messages_of-settled_first : (below : ℕ) (es : List Entry) → messages_of (with_first_settled below es) ≡ messages_of es
messages_of-settled_first below [] = refl
messages_of-settled_first below (x ∷ xs) =
    elim (is_settleable below x) as (λ b. messages_of (cond b (without_buffer x ∷ xs) (x ∷ with_first_settled below xs)) ≡ x.message ∷ messages_of xs) [
      | true ↦ refl
      | false ↦ ap (λ ms. x.message ∷ ms) (messages_of-settled_first below xs)
    ]

-- where no entry has a message's number, all messages have others
others : (m : Message) (es : List Entry) → entry_of m.sender m.number es ≡ None → AllByRecursion (λ y. shares_number m y ≡ false) (messages_of es)
others m [] h = tt
others m (x ∷ xs) h =
    elim (shares_number m x.message) as (λ b. cond b (Some x) (entry_of m.sender m.number xs) ≡ None → (b ≡ false) × AllByRecursion (λ y. shares_number m y ≡ false) (messages_of xs)) [
      | true ↦ λ e. cc
      | false ↦ λ e. (refl, others m xs e)
    ] h

-- an entry of a new number, put in its place, leaves the list in order
pub in_order_put : (e : Entry) (es : List Entry) → entry_of e.message.sender e.message.number es ≡ None → IsInOrder es → IsInOrder (put_entry e es)
in_order_put e es new s = subst (IsStrictlySortedBy key_cmp) (sym (messages_of-put_entry e es)) (sorted_put e.message (messages_of es) (others e.message es new) s)

-- and its numbers apart
pub apart_put : (e : Entry) (es : List Entry) → entry_of e.message.sender e.message.number es ≡ None → AreNumberedApart es → AreNumberedApart (put_entry e es)
apart_put e es new d = subst (IsDistinct shares_number) (sym (messages_of-put_entry e es)) (distinct_put e.message (messages_of es) (others e.message es new) d)

-- to take out the entry of a number leaves the list in order
pub in_order_without : (sender number : ℕ) (es : List Entry) → IsInOrder es → IsInOrder (entries_without sender number es)
in_order_without sender number es s =
    let p : Message → Bool = λ m. not (is_numbered sender number m) in
    subst (IsStrictlySortedBy key_cmp) (sym (messages_of-filter p es)) (IsStrictlySortedBy-filter key_cmp p (messages_of es) s)

-- and its numbers apart
pub apart_without : (sender number : ℕ) (es : List Entry) → AreNumberedApart es → AreNumberedApart (entries_without sender number es)
apart_without sender number es d =
    let p : Message → Bool = λ m. not (is_numbered sender number m) in
    subst (IsDistinct shares_number) (sym (messages_of-filter p es)) (distinct_filter p (messages_of es) d)

-- to settle an entry leaves the list in order
pub in_order_settled : (below : ℕ) (es : List Entry) → IsInOrder es → IsInOrder (with_first_settled below es)
in_order_settled below es s = subst (IsStrictlySortedBy key_cmp) (sym (messages_of-settled_first below es)) s

-- and its numbers apart
pub apart_settled : (below : ℕ) (es : List Entry) → AreNumberedApart es → AreNumberedApart (with_first_settled below es)
apart_settled below es d = subst (IsDistinct shares_number) (sym (messages_of-settled_first below es)) d

-- what is left once the first entry is taken is in order
pub in_order_rest : (taken : Option Entry) (old new : List Entry) → old ≡ option_to_list taken ++ new → IsInOrder old → IsInOrder new
unfolding IsStrictlySortedBy
in_order_rest None old new e s = subst IsInOrder e s
in_order_rest (Some x) old new e s = let all : IsInOrder (x ∷ new) = subst IsInOrder e s in all.1

-- the numbers of what is left are apart
pub apart_rest : (taken : Option Entry) (old new : List Entry) → old ≡ option_to_list taken ++ new → AreNumberedApart old → AreNumberedApart new
unfolding IsDistinct
apart_rest None old new e d = subst AreNumberedApart e d
apart_rest (Some x) old new e d = let all : AreNumberedApart (x ∷ new) = subst AreNumberedApart e d in all.1

-- no entry at all is in order
pub in_order_empty : (es : List Entry) → es ≡ [] → IsInOrder es
unfolding IsStrictlySortedBy
in_order_empty es e = subst IsInOrder (sym e) tt

-- of no entry at all the numbers are apart
pub apart_empty : (es : List Entry) → es ≡ [] → AreNumberedApart es
unfolding IsDistinct
apart_empty es e = subst AreNumberedApart (sym e) tt
