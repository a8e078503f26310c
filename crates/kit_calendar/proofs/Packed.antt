-- Rows that are packed.
use Rattle.std.proofs.Common.{◌≡◌, ℕ, zero, suc, ◌+◌, ◌<◌, ◌≤◌, Bool, true, false, ◌&&◌, nat_lt, List, [], ◌∷◌, ◌++◌, length, take, drop, get_or, set, replicate, arith, refl, sym, ap, ◌∙◌, subst}
use Rattle.std.specs.List.{AllByRecursion, IsDistinct}
use Rattle.std.proofs.lemmas.List.{length-append, append_assoc, take-append-le, take-append-drop}
use Rattle.std.proofs.Math.Seq.{drop-append_seam, take-append_seam}
use Rattle.kit_queue.specs.declared.entry.Entry.{Entry}
use Rattle.kit_calendar.specs.declared.row.Row.{Row}
use Rattle.kit_calendar.specs.Rows.{row_of, lists, joined, IsWithin, AreWithin, shares_place, AreApart, packed}
use Rattle.kit_calendar.proofs.Joined.{row_length}

-- the row of some elements that stand between others
between : (xs es ys : List Entry) (start len : ℕ) → start ≡ length xs → len ≡ length es → take len (drop start (xs ++ (es ++ ys))) ≡ es
between xs es ys start len s l =
    ap (λ k. take len (drop k (xs ++ (es ++ ys)))) s
    ∙ ap (take len) (drop-append_seam xs (es ++ ys))
    ∙ ap (λ k. take k (es ++ ys)) l
    ∙ take-append_seam es ys

-- packed rows have the entries that they had
lists_packed_at : (old xs : List Entry) (rows : List Row) (start : ℕ) → start ≡ length xs → AreWithin (length old) rows → lists (xs ++ joined (lists old rows)) (packed start rows) ≡ lists old rows
lists_packed_at old xs [] start s w = refl
lists_packed_at old xs (r ∷ rs) start s w =
    let len : length (row_of old r) ≡ r.len = row_length old (length old) r refl w.0 in
    let next : start + r.len ≡ length (xs ++ row_of old r) = omega (arith, length-append xs (row_of old r)) in
    ap (λ l. l ∷ lists (xs ++ joined (lists old (r ∷ rs))) (packed (start + r.len) rs)) (between xs (row_of old r) (joined (lists old rs)) start r.len s (sym len))
    ∙ ap (λ ys. row_of old r ∷ lists ys (packed (start + r.len) rs)) (sym (append_assoc xs (row_of old r) (joined (lists old rs))))
    ∙ ap (λ ls. row_of old r ∷ ls) (lists_packed_at old (xs ++ row_of old r) rs (start + r.len) next w.1)

pub lists_packed : (old : List Entry) (rows : List Row) → AreWithin (length old) rows → lists (joined (lists old rows)) (packed 0 rows) ≡ lists old rows
lists_packed old rows w = lists_packed_at old [] rows 0 refl w

-- they are within the places
within_packed_at : (old : List Entry) (rows : List Row) (start n : ℕ) → AreWithin (length old) rows → n ≡ start + length (joined (lists old rows)) → AreWithin n (packed start rows)
within_packed_at old [] start n w h = tt
within_packed_at old (r ∷ rs) start n w h =
    let len : length (row_of old r) ≡ r.len = row_length old (length old) r refl w.0 in
    let all = length-append (row_of old r) (joined (lists old rs)) in
    ((omega arith, omega arith), within_packed_at old rs (start + r.len) n w.1 (omega arith))

pub within_packed : (old : List Entry) (rows : List Row) → AreWithin (length old) rows → AreWithin (length (joined (lists old rows))) (packed 0 rows)
within_packed old rows w = within_packed_at old rows 0 _ w (omega arith)

-- and apart
apart_packed_at : (rows : List Row) (start : ℕ) → AreApart (packed start rows)
unfolding IsDistinct
apart_packed_at [] start = tt
apart_packed_at (r ∷ rs) start = (behind rs (start + r.len) (omega arith), apart_packed_at rs (start + r.len))
  where
    ended : (a b : ℕ) (t : Bool) → b ≤ a → (nat_lt a b && t) ≡ false
    ended a b t l = grind arith

    behind : (ss : List Row) (from : ℕ) → start + r.len ≤ from → AllByRecursion (λ s. shares_place (record { start = start; len = r.len; room = r.len }) s ≡ false) (packed from ss)
    behind [] from l = tt
    behind (s ∷ ss) from l = (ended from (start + r.len) (nat_lt start (from + s.len)) l, behind ss (from + s.len) (omega arith))

pub apart_packed : (rows : List Row) → AreApart (packed 0 rows)
apart_packed rows = apart_packed_at rows 0

-- how many are packed
pub length_packed : (rows : List Row) (start : ℕ) → length (packed start rows) ≡ length rows
length_packed [] start = refl
length_packed (r ∷ rs) start = ap suc (length_packed rs (start + r.len))

-- the next of the rows that are still to be packed
pub next_row : (rows : List Row) (i : ℕ) (d : Row) → i < length rows → get_or (packed 0 (take i rows) ++ drop i rows) i d ≡ get_or rows i d
next_row rows i d l = at rows i 0 l
  where
    at : (rs : List Row) (i start : ℕ) → i < length rs → get_or (packed start (take i rs) ++ drop i rs) i d ≡ get_or rs i d
    at [] i start l = absurd (omega arith)
    at (r ∷ rs) zero start l = refl
    at (r ∷ rs) (suc i) start l = at rs i (start + r.len) (omega arith)

-- one more row is packed
pub packed_more : (old : List Entry) (rows : List Row) (i : ℕ) (r : Row) → AreWithin (length old) rows → i < length rows → r ≡ get_or rows i r
    → set (packed 0 (take i rows) ++ drop i rows) i (record { start = length (joined (lists old (take i rows))); len = r.len; room = r.len }) ≡ packed 0 (take (i + 1) rows) ++ drop (i + 1) rows
packed_more old rows i r w l h = at rows i (i + 1) 0 _ w l refl h (omega arith)
  where
    at : (rs : List Row) (i j from start : ℕ) → AreWithin (length old) rs → i < length rs → j ≡ i + 1 → r ≡ get_or rs i r → start ≡ from + length (joined (lists old (take i rs)))
        → set (packed from (take i rs) ++ drop i rs) i (record { start = start; len = r.len; room = r.len }) ≡ packed from (take j rs) ++ drop j rs
    at [] i j from start w l k h s = absurd (omega arith)
    at (x ∷ xs) zero zero from start w l k h s = absurd (omega arith)
    at (x ∷ xs) zero (suc zero) from start w l k h s =
        let same : start ≡ from = omega arith in
        ap (λ n. record { start = n; len = r.len; room = r.len } ∷ xs) same ∙ ap (λ (y : Row). record { start = from; len = y.len; room = y.len } ∷ xs) h
    at (x ∷ xs) zero (suc (suc j)) from start w l k h s = absurd (omega arith)
    at (x ∷ xs) (suc i) zero from start w l k h s = absurd (omega arith)
    at (x ∷ xs) (suc i) (suc j) from start w l k h s =
        let len : length (row_of old x) ≡ x.len = row_length old (length old) x refl w.0 in
        let all = length-append (row_of old x) (joined (lists old (take i xs))) in
        ap (λ ys. record { start = from; len = x.len; room = x.len } ∷ ys) (at xs i j (from + x.len) start w.1 (omega arith) (omega arith) h (omega arith))

-- the entries of one more row
pub joined_more : (old : List Entry) (rows : List Row) (i : ℕ) (r : Row) → i < length rows → r ≡ get_or rows i r → joined (lists old (take (i + 1) rows)) ≡ joined (lists old (take i rows)) ++ row_of old r
joined_more old rows i r l h = at rows i (i + 1) l refl h
  where
    at : (rs : List Row) (i j : ℕ) → i < length rs → j ≡ i + 1 → r ≡ get_or rs i r → joined (lists old (take j rs)) ≡ joined (lists old (take i rs)) ++ row_of old r
    at [] i j l k h = absurd (omega arith)
    at (x ∷ xs) zero zero l k h = absurd (omega arith)
    at (x ∷ xs) zero (suc zero) l k h = nothing_behind (row_of old x) ∙ ap (row_of old) (sym h)
      where
        nothing_behind : (es : List Entry) → es ++ [] ≡ es
        nothing_behind [] = refl
        nothing_behind (e ∷ es) = ap (λ ys. e ∷ ys) (nothing_behind es)
    at (x ∷ xs) zero (suc (suc j)) l k h = absurd (omega arith)
    at (x ∷ xs) (suc i) zero l k h = absurd (omega arith)
    at (x ∷ xs) (suc i) (suc j) l k h = ap (λ ys. row_of old x ++ ys) (at xs i j (omega arith) (omega arith) h) ∙ sym (append_assoc (row_of old x) (joined (lists old (take i xs))) (row_of old r))

-- some rows have no more entries than all
pub joined_first : (old : List Entry) (rows : List Row) (i : ℕ) → length (joined (lists old (take i rows))) ≤ length (joined (lists old rows))
joined_first old rows zero = omega arith
joined_first old [] (suc i) = omega arith
joined_first old (r ∷ rs) (suc i) = omega (arith, joined_first old rs i, length-append (row_of old r) (joined (lists old rs)), length-append (row_of old r) (joined (lists old (take i rs))))

-- a row of places stands the same among more
pub row_among : (xs ys : List Entry) (r : Row) → IsWithin (length xs) r → row_of (xs ++ ys) r ≡ row_of xs r
row_among xs ys r w = at xs r.start (omega arith)
  where
    at : (zs : List Entry) (s : ℕ) → s + r.len ≤ length zs → take r.len (drop s (zs ++ ys)) ≡ take r.len (drop s zs)
    at zs zero l = take-append-le r.len zs ys (omega arith)
    at [] (suc s) l = absurd (omega arith)
    at (z ∷ zs) (suc s) l = at zs s (omega arith)

-- a row without room
abbrev pub no_room : Row
no_room = record { start = 0; len = 0; room = 0 }

-- a row within the places that stay has its entries
kept : (old new : List Entry) (s : Row) → take (length old) new ≡ old → IsWithin (length old) s → row_of new s ≡ row_of old s
kept old new s k w =
    sym (ap (λ es. row_of es s) (take-append-drop (length old) new))
    ∙ row_among (take (length old) new) (drop (length old) new) s (subst (λ es. IsWithin (length es) s) (sym k) w)
    ∙ ap (λ es. row_of es s) k

-- such rows are within any places
pub within_none : (n k : ℕ) → AreWithin n (replicate k no_room)
within_none n zero = tt
within_none n (suc k) = ((omega arith, omega arith), within_none n k)

-- and apart
pub apart_none : (k : ℕ) → AreApart (replicate k no_room)
unfolding IsDistinct
apart_none zero = tt
apart_none (suc k) = (others k, apart_none k)
  where
    others : (k : ℕ) → AllByRecursion (λ s. shares_place no_room s ≡ false) (replicate k no_room)
    others zero = tt
    others (suc k) = (refl, others k)

-- and have no entries
pub lists_none : (places : List Entry) (k : ℕ) → lists places (replicate k no_room) ≡ replicate k []
lists_none places zero = refl
lists_none places (suc k) = ap (λ ls. [] ∷ ls) (lists_none places k)

pub joined_none : (k : ℕ) → joined (replicate k []) ≡ []
joined_none zero = refl
joined_none (suc k) = joined_none k

-- rows within some places are within more
pub within_more : (n m : ℕ) (rows : List Row) → n ≤ m → AreWithin n rows → AreWithin m rows
within_more n m [] l w = tt
within_more n m (r ∷ rs) l w = ((w.0.0, omega (arith, w.0.1)), within_more n m rs l w.1)

-- a row that moves behind all places is apart from the others
pub apart_moved : (n : ℕ) (rows : List Row) (i : ℕ) (r : Row) → r.start ≡ n → AreWithin n rows → AreApart rows → AreApart (set rows i r)
unfolding IsDistinct
apart_moved n [] i r s w a = tt
apart_moved n (x ∷ xs) zero r s w a = (before xs w.1, a.1)
  where
    ends : (t : Bool) (e b : ℕ) → e ≤ b → (t && nat_lt b e) ≡ false
    ends true e b l = grind arith
    ends false e b l = refl

    before : (ys : List Row) → AreWithin n ys → AllByRecursion (λ y. shares_place r y ≡ false) ys
    before [] v = tt
    before (y ∷ ys) v = (ends (nat_lt y.start (r.start + r.room)) (y.start + y.room) r.start (omega (arith, v.0.1)), before ys v.1)
apart_moved n (x ∷ xs) (suc i) r s w a = (with_last xs i a.0, apart_moved n xs i r s w.1 a.1)
  where
    begins : (t : Bool) (e b : ℕ) → e ≤ b → (nat_lt b e && t) ≡ false
    begins t e b l = grind arith

    with_last : (ys : List Row) (k : ℕ) → AllByRecursion (λ y. shares_place x y ≡ false) ys → AllByRecursion (λ y. shares_place x y ≡ false) (set ys k r)
    with_last [] k h = tt
    with_last (y ∷ ys) zero h = (begins (nat_lt x.start (r.start + r.room)) (x.start + x.room) r.start (omega (arith, w.0.1)), h.1)
    with_last (y ∷ ys) (suc k) h = (h.0, with_last ys k h.1)

-- and where it has its entries there, all lists are the same
pub lists_moved : (old new : List Entry) (rows : List Row) (i : ℕ) (r then : Row) → take (length old) new ≡ old → r ≡ get_or rows i r → AreWithin (length old) rows → row_of new then ≡ row_of old r → lists new (set rows i then) ≡ lists old rows
lists_moved old new [] i r then k h w is = refl
lists_moved old new (x ∷ xs) zero r then k h w is =
    ap (λ l. l ∷ lists new xs) (is ∙ ap (row_of old) h) ∙ ap (λ ls. row_of old x ∷ ls) (all_kept xs w.1)
  where
    all_kept : (ys : List Row) → AreWithin (length old) ys → lists new ys ≡ lists old ys
    all_kept [] v = refl
    all_kept (y ∷ ys) v = ap (λ l. l ∷ lists new ys) (kept old new y k v.0) ∙ ap (λ ls. row_of old y ∷ ls) (all_kept ys v.1)
lists_moved old new (x ∷ xs) (suc i) r then k h w is =
    ap (λ l. l ∷ lists new (set xs i then)) (kept old new x k w.0) ∙ ap (λ ls. row_of old x ∷ ls) (lists_moved old new xs i r then k h w.1 is)
