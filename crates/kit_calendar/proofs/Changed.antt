-- One row of several changes.
use Rattle.std.proofs.Common.{◌≡◌, ℕ, zero, suc, ◌+◌, ◌<◌, List, [], ◌∷◌, length, take, drop, get_or, set, arith, refl, sym, ap, ◌∙◌, subst}
use Rattle.std.proofs.lemmas.List.{length-map}
use Rattle.kit_queue.specs.declared.entry.Entry.{Entry}
use Rattle.kit_calendar.specs.declared.row.Row.{Row}
use Rattle.kit_calendar.specs.Rows.{row_of, lists, list_at, IsWithin, AreWithin, AreApart}
use Rattle.kit_calendar.proofs.Apart.{lists_set, row_there, each_set, apart_set}
use Rattle.kit_calendar.proofs.Joined.{list_of, row_length}

-- the rows are as many as the lists
pub as_many : (places : List Entry) (rows : List Row) (i : ℕ) → i < length (lists places rows) → i < length rows
as_many places rows i h = omega (arith, length-map rows (row_of places))

-- a row at a place is within the places
pub row_within : (n : ℕ) (rows : List Row) (i : ℕ) (r : Row) → i < length rows → r ≡ get_or rows i r → AreWithin n rows → IsWithin n r
row_within n rows i r l h w = subst (IsWithin n) (sym h) (row_there (IsWithin n) rows i r w l)

-- its list
pub list_is : (places : List Entry) (rows : List Row) (i : ℕ) (r : Row) → i < length rows → r ≡ get_or rows i r → list_at (lists places rows) i ≡ row_of places r
list_is places rows i r l h = list_of places rows i r l ∙ ap (row_of places) (sym h)

-- and how long it is
pub list_length : (places : List Entry) (rows : List Row) (i : ℕ) (r : Row) → i < length rows → r ≡ get_or rows i r → AreWithin (length places) rows → length (list_at (lists places rows) i) ≡ r.len
list_length places rows i r l h w = ap length (list_is places rows i r l h) ∙ row_length places (length places) r refl (row_within (length places) rows i r l h w)

-- the lists where the places of one row change
pub lists_changed : (old new : List Entry) (rows : List Row) (i : ℕ) (r then : Row) (entries : List Entry) → i < length rows → r ≡ get_or rows i r → AreWithin (length old) rows → AreApart rows
    → take r.start new ≡ take r.start old → drop (r.start + r.room) new ≡ drop (r.start + r.room) old → row_of new then ≡ entries
    → lists new (set rows i then) ≡ set (lists old rows) i entries
lists_changed old new rows i r then entries l h w a before behind is =
    lists_set old new (length old) rows i r then l (subst (λ (x : Row). take x.start new ≡ take x.start old) h before) (subst (λ (x : Row). drop (x.start + x.room) new ≡ drop (x.start + x.room) old) h behind) a w
    ∙ ap (set (lists old rows) i) is

-- rows within the places still are
pub within_changed : (n m : ℕ) (rows : List Row) (i : ℕ) (then : Row) → m ≡ n → IsWithin n then → AreWithin n rows → AreWithin m (set rows i then)
within_changed n m rows i then h t w = subst (λ k. AreWithin k (set rows i then)) (sym h) (each_set (IsWithin n) rows i then t w)

-- a row that keeps its places stays apart
pub apart_changed : (rows : List Row) (i : ℕ) (r then : Row) → i < length rows → r ≡ get_or rows i r → then.start ≡ r.start → then.room ≡ r.room → AreApart rows → AreApart (set rows i then)
apart_changed rows i r then l h s m a = apart_set rows i r then l (s ∙ ap (λ (x : Row). x.start) h) (m ∙ ap (λ (x : Row). x.room) h) a

-- what stands at a place, set there again
pub set_same : {X : Type 0} (xs : List X) (i : ℕ) (d : X) → d ≡ get_or xs i d → set xs i d ≡ xs
set_same [] i d h = refl
set_same (x ∷ xs) zero d h = ap (λ y. y ∷ xs) h
set_same (x ∷ xs) (suc i) d h = ap (λ ys. x ∷ ys) (set_same xs i d h)
