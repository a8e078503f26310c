-- Rows that have no place in common.
use Rattle.std.proofs.Common.{◌⊎◌, inl, inr, ◌≡◌, ℕ, zero, suc, ◌+◌, ◌<◌, ◌≤◌, Bool, true, false, ◌&&◌, nat_lt, List, [], ◌∷◌, length, take, drop, get_or, set, arith, refl, sym, ap, ◌∙◌}
use Rattle.std.specs.List.{AllByRecursion, IsDistinct}
use Rattle.kit_queue.specs.declared.entry.Entry.{Entry}
use Rattle.kit_calendar.specs.declared.row.Row.{Row}
use Rattle.kit_calendar.specs.Rows.{row_of, lists, AreWithin, shares_place, AreApart}
use Rattle.kit_calendar.proofs.Places.{same_later, same_earlier}

-- a stretch of places does not meet another: it ends where that begins, or begins where that ends
abbrev Clear : (a b s e : ℕ) → Type 0
Clear a b s e = (b ≤ s) ⊎ (e ≤ a)

-- what the test of two rows says
clear : (s b a e : ℕ) → (nat_lt s b && nat_lt a e) ≡ false → Clear a b s e
clear s b a e h =
    elim (nat_lt s b) as (λ t. nat_lt s b ≡ t → Clear a b s e) [
      | false ↦ λ q. inl (not_lt s b q)
      | true ↦ λ q. inr (not_lt a e (ap (λ t. t && nat_lt a e) (sym q) ∙ h))
    ] refl
  where
    not_lt : (x y : ℕ) → nat_lt x y ≡ false → y ≤ x
    not_lt x y h = grind arith

-- a row that is clear of the places that change has the same entries
row_kept : (old new : List Entry) (a b : ℕ) (s : Row) → take a new ≡ take a old → drop b new ≡ drop b old → s.len ≤ s.room → Clear a b s.start (s.start + s.room) → row_of new s ≡ row_of old s
row_kept old new a b s before behind l (inl h) = ap (take s.len) (same_later new old b s.start h behind)
row_kept old new a b s before behind l (inr h) = same_earlier new old a s.start s.len (omega arith) before

-- and so have rows that share no place with one that changes
lists_kept : (old new : List Entry) (n : ℕ) (r : Row) (rs : List Row) → take r.start new ≡ take r.start old → drop (r.start + r.room) new ≡ drop (r.start + r.room) old
    → AllByRecursion (λ s. shares_place r s ≡ false) rs → AreWithin n rs → lists new rs ≡ lists old rs
lists_kept old new n r [] before behind a w = refl
lists_kept old new n r (s ∷ ss) before behind a w =
    ap (λ l. l ∷ lists new ss) (row_kept old new r.start (r.start + r.room) s before behind w.0.0 (clear s.start (r.start + r.room) r.start (s.start + s.room) a.0))
    ∙ ap (λ ls. row_of old s ∷ ls) (lists_kept old new n r ss before behind a.1 w.1)

-- to share a place is mutual
shares_back : (r s : Row) → shares_place r s ≡ shares_place s r
shares_back r s = swap (nat_lt s.start (r.start + r.room)) (nat_lt r.start (s.start + s.room))
  where
    swap : (x y : Bool) → (x && y) ≡ (y && x)
    swap true true = refl
    swap true false = refl
    swap false true = refl
    swap false false = refl

-- what holds of each row holds of the one at a place
pub row_there : (P : Row → Type 0) (rs : List Row) (i : ℕ) (d : Row) → AllByRecursion P rs → i < length rs → P (get_or rs i d)
row_there P [] i d a l = absurd (omega arith)
row_there P (r ∷ rs) zero d a l = a.0
row_there P (r ∷ rs) (suc i) d a l = row_there P rs i d a.1 (omega arith)

-- a row whose places changed is the only one whose entries did
pub lists_set : (old new : List Entry) (n : ℕ) (rs : List Row) (i : ℕ) (d r : Row) → i < length rs
    → take (get_or rs i d).start new ≡ take (get_or rs i d).start old
    → drop ((get_or rs i d).start + (get_or rs i d).room) new ≡ drop ((get_or rs i d).start + (get_or rs i d).room) old
    → AreApart rs → AreWithin n rs → lists new (set rs i r) ≡ set (lists old rs) i (row_of new r)
unfolding IsDistinct
lists_set old new n [] i d r l before behind a w = absurd (omega arith)
lists_set old new n (s ∷ ss) zero d r l before behind a w = ap (λ ls. row_of new r ∷ ls) (lists_kept old new n s ss before behind a.0 w.1)
lists_set old new n (s ∷ ss) (suc i) d r l before behind a w =
    let x : Row = get_or ss i d in
    let far : shares_place x s ≡ false = shares_back x s ∙ row_there (λ y. shares_place s y ≡ false) ss i d a.0 (omega arith) in
    ap (λ k. k ∷ lists new (set ss i r)) (row_kept old new x.start (x.start + x.room) s before behind w.0.0 (clear s.start (x.start + x.room) x.start (s.start + s.room) far))
    ∙ ap (λ ls. row_of old s ∷ ls) (lists_set old new n ss i d r (omega arith) before behind a.1 w.1)

-- each row with another in the place of one
pub each_set : (P : Row → Type 0) (rs : List Row) (i : ℕ) (r : Row) → P r → AllByRecursion P rs → AllByRecursion P (set rs i r)
each_set P [] i r h a = tt
each_set P (s ∷ ss) zero r h a = (h, a.1)
each_set P (s ∷ ss) (suc i) r h a = (a.0, each_set P ss i r h a.1)

-- a row with the same places stays apart from the others
pub apart_set : (rs : List Row) (i : ℕ) (d r : Row) → i < length rs → r.start ≡ (get_or rs i d).start → r.room ≡ (get_or rs i d).room → AreApart rs → AreApart (set rs i r)
unfolding IsDistinct
apart_set [] i d r l s m a = absurd (omega arith)
apart_set (x ∷ xs) zero d r l s m a = (others xs a.0, a.1)
  where
    others : (ys : List Row) → AllByRecursion (λ y. shares_place x y ≡ false) ys → AllByRecursion (λ y. shares_place r y ≡ false) ys
    others [] h = tt
    others (y ∷ ys) h = (ap (λ t. nat_lt y.start (t + r.room) && nat_lt t (y.start + y.room)) s ∙ ap (λ t. nat_lt y.start (x.start + t) && nat_lt x.start (y.start + y.room)) m ∙ h.0, others ys h.1)
apart_set (x ∷ xs) (suc i) d r l s m a =
    let y : Row = get_or xs i d in
    let far : shares_place x r ≡ false = ap (λ t. nat_lt t (x.start + x.room) && nat_lt x.start (t + r.room)) s ∙ ap (λ t. nat_lt y.start (x.start + x.room) && nat_lt x.start (y.start + t)) m ∙ row_there (λ z. shares_place x z ≡ false) xs i d a.0 (omega arith) in
    (each_set (λ z. shares_place x z ≡ false) xs i r far a.0, apart_set xs i d r (omega arith) s m a.1)
