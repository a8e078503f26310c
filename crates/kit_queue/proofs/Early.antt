-- The first entry that can be settled stands among those that are timed below the bound.
use Rattle.std.proofs.Common.{◌≡◌, ℕ, suc, ◌≤◌, ◌+◌, Bool, true, false, cond, not, ◌&&◌, List, [], ◌∷◌, length, Option, Some, None, arith, refl, sym, ap, ◌∙◌, ltb-false, nat_lt, is_some, option_map}
use Rattle.std.specs.Ordering.{is_lt, ordering_reverse}
use Rattle.std.specs.declared.cmp.Ordering.TheVariants.{Less}
use Rattle.std.specs.List.{AllByRecursion, position, position_or_len, take_while}
use Rattle.std.specs.List.Sorted.{IsStrictlySortedBy}
use Rattle.std.proofs.lemmas.Bool.Decides.{nat_tests}
use Rattle.std.proofs.lemmas.List.Sums.{take_while-cons}
use Rattle.kit_base.specs.Order.{key_cmp}
use Rattle.kit_base.specs.declared.message.Message.{Message}
use Rattle.kit_base.proofs.Orders.{key_total, not_before}
use Rattle.kit_queue.specs.declared.entry.Entry.{Entry}
use Rattle.kit_queue.specs.Entries.{messages_of, IsInOrder, is_settleable}

-- whether an entry has a buffer
abbrev pub has_one : Entry → Bool
has_one e = is_some e.buffer

-- whether an entry is timed below `below`
abbrev pub is_below : ℕ → Entry → Bool
is_below below e = nat_lt e.message.time below

-- a place behind one more
abbrev behind_one : Option ℕ → Option ℕ
behind_one o = option_map (λ n. 1 + n) o

-- the place of the first that passes, by the first of all
position_cons : {X : Type 0} (p : X → Bool) (x : X) (xs : List X) → position p (x ∷ xs) ≡ cond (p x) (Some 0) (behind_one (position p xs))
position_cons p x xs = first (p x) (position_or_len p xs) (length xs)
  where
    first : (b : Bool) (n l : ℕ) → cond (nat_lt (cond (not b) (1 + n) 0) (suc l)) (Some (cond (not b) (1 + n) 0)) None ≡ cond b (Some 0) (behind_one (cond (nat_lt n l) (Some n) None))
    first true n l = grind (arith, nat_tests)
    first false n l =
        let same : nat_lt (1 + n) (suc l) ≡ nat_lt n l = grind (arith, nat_tests) in
        ap (λ t. cond t (Some (1 + n)) None) same
        ∙ elim (nat_lt n l) as (λ t. cond t (Some (1 + n)) None ≡ behind_one (cond t (Some n) None)) [ true ↦ refl | false ↦ refl ]

-- an entry that is not timed below `below` cannot be settled
not_below : (below : ℕ) (e : Entry) → is_below below e ≡ false → is_settleable below e ≡ false
not_below below e h = ap (λ b. b && has_one e) h

-- and of the others those that have a buffer can
if_below : (below : ℕ) (e : Entry) → is_below below e ≡ true → is_settleable below e ≡ has_one e
if_below below e h = ap (λ b. b && has_one e) h

-- a message behind another is not timed below what that one is not
stays_late : (below : ℕ) (a b : Message) → key_cmp a b ≡ Less → below ≤ a.time → nat_lt b.time below ≡ false
stays_late below a b l h =
    let not_earlier : a.time ≤ b.time = not_before b a (ap is_lt (key_total.antisymm b a ∙ ap ordering_reverse l)) in
    grind (arith, nat_tests)

-- behind an entry that is not timed below `below`, none can be settled
none_behind : (below : ℕ) (m : Message) (es : List Entry) → below ≤ m.time → AllByRecursion (λ y. key_cmp m y ≡ Less) (messages_of es) → position (is_settleable below) es ≡ None
none_behind below m [] h a = refl
none_behind below m (x ∷ xs) h a =
    position_cons (is_settleable below) x xs
    ∙ ap (λ b. cond b (Some 0) (behind_one (position (is_settleable below) xs))) (not_below below x (stays_late below m x.message a.0 h))
    ∙ ap behind_one (none_behind below m xs h a.1)

-- the first that can be settled is the first with a buffer among those timed below `below`
pub settleable_early : (below : ℕ) (es : List Entry) → IsInOrder es → position has_one (take_while (is_below below) es) ≡ position (is_settleable below) es
unfolding IsStrictlySortedBy
settleable_early below [] s = refl
settleable_early below (x ∷ xs) s =
    let rest = position (is_settleable below) xs in
    ap (position has_one) (take_while-cons (is_below below) x xs)
    ∙ elim (is_below below x) as (λ b. is_below below x ≡ b → position has_one (cond b (x ∷ take_while (is_below below) xs) []) ≡ position (is_settleable below) (x ∷ xs)) [
      | true ↦ λ e.
          position_cons has_one x (take_while (is_below below) xs)
          ∙ ap (λ o. cond (has_one x) (Some 0) (behind_one o)) (settleable_early below xs s.1)
          ∙ ap (λ b. cond b (Some 0) (behind_one rest)) (sym (if_below below x e))
          ∙ sym (position_cons (is_settleable below) x xs)
      | false ↦ λ e.
          sym (position_cons (is_settleable below) x xs
          ∙ ap (λ b. cond b (Some 0) (behind_one rest)) (not_below below x e)
          ∙ ap behind_one (none_behind below x.message xs (ltb-false x.message.time below e) s.0))
    ] refl
