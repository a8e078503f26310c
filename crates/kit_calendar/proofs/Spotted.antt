-- Entries that are found in rows.
use Rattle.std.proofs.Common.{◌≡◌, ℕ, zero, suc, ◌+◌, ◌-◌, ◌%◌, ◌/◌, ◌<◌, ◌≤◌, Bool, true, false, cond, List, [], ◌∷◌, ◌++◌, length, take, get_or, Option, None, Some, arith, refl, sym, ap, ◌∙◌, subst}
use Rattle.std.specs.List.{AllByRecursion}
use Rattle.std.proofs.lemmas.List.{length-append, get_or-append_right}
use Rattle.std.proofs.Math.ListN.{get_or-append}
use Rattle.kit_base.specs.Order.{is_before}
use Rattle.kit_queue.specs.declared.entry.Entry.{Entry}
use Rattle.kit_calendar.specs.declared.spot.Spot.{Spot}
use Rattle.kit_calendar.specs.Rows.{joined, offset, list_at}
use Rattle.kit_calendar.specs.Buckets.{bucket_of, IsDealt, IsArranged, IsFromDay}
use Rattle.kit_calendar.specs.Least.{IsLeastOf, IsBestOf, lesser_of, is_entry, day_of}
use Rattle.kit_calendar.specs.Spots.{placed, IsThere, lesser_spot, spot_day}
use Rattle.kit_calendar.proofs.Joined.{offset_within}
use Rattle.kit_calendar.proofs.Least.{compared, skipped, same_there}
use Rattle.kit_calendar.proofs.Days.{past, none_that_day, not_that_day, least_that_day}
use Rattle.kit_calendar.proofs.Dealt.{before_offset, behind_offset, none_of_bucket}

-- the entry at a place of a list is that at its place among the joined ones
pub joined_at : (ls : List (List Entry)) (i k p : ℕ) (d : Entry) → i < length ls → k < length (list_at ls i) → p ≡ offset ls i + k → get_or (joined ls) p d ≡ get_or (list_at ls i) k d
joined_at [] i k p d l m h = absurd (omega arith)
joined_at (x ∷ xs) zero k p d l m h =
    let same : p ≡ k = omega arith in
    ap (λ j. get_or (x ++ joined xs) j d) same ∙ get_or-append x (joined xs) d k m
joined_at (x ∷ xs) (suc i) k p d l m h =
    let at : length x ≤ p = omega (arith, length-append x (joined (take i xs))) in
    let rest : p - length x ≡ offset xs i + k = omega (arith, length-append x (joined (take i xs))) in
    get_or-append_right x (joined xs) (length x) p d refl at ∙ joined_at xs i k (p - length x) d (omega arith) m rest

-- the next list begins behind the entries of this one
pub offset_more : (ls : List (List Entry)) (i : ℕ) → i < length ls → offset ls (i + 1) ≡ offset ls i + length (list_at ls i)
offset_more ls i l = at ls i (i + 1) l refl
  where
    at : (ks : List (List Entry)) (i j : ℕ) → i < length ks → j ≡ i + 1 → offset ks j ≡ offset ks i + length (list_at ks i)
    at [] i j l h = absurd (omega arith)
    at (x ∷ xs) zero zero l h = absurd (omega arith)
    at (x ∷ xs) zero (suc zero) l h = omega (arith, length-append x [])
    at (x ∷ xs) zero (suc (suc j)) l h = absurd (omega arith)
    at (x ∷ xs) (suc i) zero l h = absurd (omega arith)
    at (x ∷ xs) (suc i) (suc j) l h = omega (arith, length-append x (joined (take i xs)), length-append x (joined (take j xs)), at xs i j (omega arith) (omega arith))

-- all lists are before the end
pub offset_all : (ls : List (List Entry)) → offset ls (length ls) ≡ length (joined ls)
offset_all [] = refl
offset_all (x ∷ xs) = omega (arith, length-append x (joined xs), length-append x (joined (take (length xs) xs)), offset_all xs)

-- the lesser of two that are placed
placed_lesser : (ls : List (List Entry)) (best : Option Spot) (spot : Spot) → placed ls (lesser_spot best spot) ≡ lesser_of (placed ls best) (offset ls spot.row + spot.at) spot.entry
placed_lesser ls None spot = refl
placed_lesser ls (Some best) spot =
    elim (is_before spot.entry.message best.entry.message) as (λ t. placed ls (cond t (Some spot) (Some best)) ≡ cond t (Some (offset ls spot.row + spot.at, spot.entry)) (placed ls (Some best))) [ true ↦ refl | false ↦ refl ]

-- the next entry of a list, which passes, is compared with the best so far
pub spot_compared : (p : Entry → Bool) (ls : List (List Entry)) (row at : ℕ) (e : Entry) (best : Option Spot) → row < length ls → at < length (list_at ls row) → e ≡ get_or (list_at ls row) at e → p e ≡ true
    → IsBestOf p (joined ls) (offset ls row + at) (placed ls best) → IsBestOf p (joined ls) (offset ls row + (at + 1)) (placed ls (lesser_spot best (record { row = row; at = at; entry = e })))
spot_compared p ls row at e best l m h t b =
    let there : offset ls row + at < length (joined ls) = omega (arith, offset_within ls row l) in
    let more : offset ls row + at + 1 ≡ offset ls row + (at + 1) = omega arith in
    subst (λ n. IsBestOf p (joined ls) n (placed ls (lesser_spot best (record { row = row; at = at; entry = e })))) more
    (subst (IsBestOf p (joined ls) (offset ls row + at + 1)) (sym (placed_lesser ls best (record { row = row; at = at; entry = e })))
    (compared p (joined ls) (offset ls row + at) e (placed ls best) there (h ∙ sym (joined_at ls row at (offset ls row + at) e l m refl)) t b))

-- and one that does not pass is left aside
pub spot_skipped : (p : Entry → Bool) (ls : List (List Entry)) (row at : ℕ) (e : Entry) (best : Option Spot) → row < length ls → at < length (list_at ls row) → e ≡ get_or (list_at ls row) at e → p e ≡ false
    → IsBestOf p (joined ls) (offset ls row + at) (placed ls best) → IsBestOf p (joined ls) (offset ls row + (at + 1)) (placed ls best)
spot_skipped p ls row at e best l m h t b =
    let there : offset ls row + at < length (joined ls) = omega (arith, offset_within ls row l) in
    let more : offset ls row + at + 1 ≡ offset ls row + (at + 1) = omega arith in
    subst (λ n. IsBestOf p (joined ls) n (placed ls best)) more
    (skipped p (joined ls) (offset ls row + at) e (placed ls best) there (h ∙ sym (joined_at ls row at (offset ls row + at) e l m refl)) t b)

-- the lesser of two that are there is there
pub there_lesser : (ls : List (List Entry)) (best : Option Spot) (spot : Spot) → spot.row < length ls → spot.at < length (list_at ls spot.row) → IsThere ls best → IsThere ls (lesser_spot best spot)
there_lesser ls None spot l m t = (l, m)
there_lesser ls (Some best) spot l m t = elim (is_before spot.entry.message best.entry.message) as (λ b. IsThere ls (cond b (Some spot) (Some best))) [ true ↦ (l, m) | false ↦ t ]

-- the day of what was found
pub day_placed : (width : ℕ) (ls : List (List Entry)) (best : Option Spot) → spot_day width best ≡ day_of width (placed ls best)
day_placed width ls None = refl
day_placed width ls (Some spot) = refl

-- no entry is of a day whose bucket's list is empty
pub none_in_list : (width buckets day : ℕ) (ls : List (List Entry)) → IsDealt width buckets 0 ls → list_at ls (day % buckets) ≡ [] → IsFromDay width day (joined ls) → IsFromDay width (day + 1) (joined ls)
none_in_list width buckets day ls d n f = each (joined ls) (none_of_bucket width buckets 0 ls (day % buckets) (day % buckets) (omega arith) d n) f
  where
    each : (es : List Entry) → AllByRecursion (λ e. bucket_of width buckets e.message ≡ day % buckets → ⊥) es → IsFromDay width day es → IsFromDay width (day + 1) es
    each [] a b = tt
    each (e ∷ es) a b = (past (e.message.time / width) day b.0 (λ q. a.0 (ap (λ k. k % buckets) q)), each es a.1 b.1)

-- nor where the first of it is of another day
pub not_first : (width buckets day : ℕ) (ls : List (List Entry)) (e : Entry) → 0 < width → IsDealt width buckets 0 ls → IsArranged width buckets (joined ls) → IsFromDay width day (joined ls)
    → day % buckets < length ls → 0 < length (list_at ls (day % buckets)) → e ≡ get_or (list_at ls (day % buckets)) 0 e → (e.message.time / width ≡ day → ⊥) → IsFromDay width (day + 1) (joined ls)
not_first width buckets day ls e s d o f l m h other =
    let row = day % buckets in
    let at = offset ls row in
    let there : at < length (joined ls) = omega (arith, offset_within ls row l) in
    let stands = h ∙ sym (joined_at ls row 0 at e l m (omega arith)) in
    none_that_day width buckets day (joined ls) at s o (before_offset width buckets 0 ls row row (omega arith) d) (behind_offset width buckets 0 ls row row (omega arith) d) f (λ d' l'. not_that_day width day (joined ls) at e d' there stands f other)

-- the first of it is the least where it is of that day
pub is_first : (width buckets day : ℕ) (ls : List (List Entry)) (e : Entry) → 0 < width → IsDealt width buckets 0 ls → IsArranged width buckets (joined ls) → IsFromDay width day (joined ls)
    → day % buckets < length ls → 0 < length (list_at ls (day % buckets)) → e ≡ get_or (list_at ls (day % buckets)) 0 e → e.message.time / width ≡ day → IsLeastOf is_entry (joined ls) (length (joined ls)) (offset ls (day % buckets) + 0) e
is_first width buckets day ls e s d o f l m h own =
    let row = day % buckets in
    let at = offset ls row in
    let there : at < length (joined ls) = omega (arith, offset_within ls row l) in
    let none_more : at ≡ at + 0 = omega arith in
    subst (λ n. IsLeastOf is_entry (joined ls) (length (joined ls)) n e) none_more
    (least_that_day width buckets day (joined ls) at e s o (before_offset width buckets 0 ls row row (omega arith) d) f there (h ∙ sym (joined_at ls row 0 at e l m (omega arith))) own)

-- a list with an entry is one of the lists
pub is_row : (ls : List (List Entry)) (i : ℕ) → 0 < length (list_at ls i) → i < length ls
is_row [] zero m = absurd (omega arith)
is_row [] (suc i) m = absurd (omega arith)
is_row (x ∷ xs) zero m = omega arith
is_row (x ∷ xs) (suc i) m = let l = is_row xs i m in omega arith

-- what stands at a place of a list stands there in one that is the same
pub same_at : (ys es : List Entry) (n : ℕ) (d : Entry) → ys ≡ es → n < length ys → get_or ys n d ≡ get_or es n (get_or ys n d)
same_at ys es n d h l = same_there ys n d (get_or ys n d) l ∙ ap (λ zs. get_or zs n (get_or ys n d)) h

-- a list of no length has no entries
pub no_entries : (es : List Entry) → length es ≤ 0 → es ≡ []
no_entries [] l = refl
no_entries (x ∷ xs) l = absurd (omega arith)
