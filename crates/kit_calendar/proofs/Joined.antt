-- Lists joined one after another, and a change of one of them.
use Rattle.std.proofs.Common.{◌≡◌, ℕ, zero, suc, ◌+◌, ◌-◌, ◌<◌, ◌≤◌, List, [], ◌∷◌, ◌++◌, length, take, drop, get_or, set, arith, refl, sym, ap, ◌∙◌}
use Rattle.std.specs.List.{insert, remove}
use Rattle.std.proofs.lemmas.List.{length-append, set-append_left, set-append_right, get_or-map, length-set, length-take-le, length-drop}
use Rattle.std.proofs.lemmas.List.Edits.{insert-append_left, insert-append_right, remove-append_left, remove-append_right, length-insert, length-remove}
use Rattle.kit_queue.specs.declared.entry.Entry.{Entry}
use Rattle.kit_calendar.specs.declared.row.Row.{Row}
use Rattle.kit_calendar.specs.Rows.{row_of, lists, joined, offset, list_at, IsWithin}

-- the entries of a list are among the joined ones
pub offset_within : (ls : List (List Entry)) (i : ℕ) → i < length ls → offset ls i + length (list_at ls i) ≤ length (joined ls)
offset_within [] i l = absurd (omega arith)
offset_within (x ∷ xs) zero l = omega (arith, length-append x (joined xs))
offset_within (x ∷ xs) (suc i) l = omega (arith, length-append x (joined xs), length-append x (joined (take i xs)), offset_within xs i (omega arith))

-- an element put in one of the lists is put among the joined ones
pub joined_insert : (ls : List (List Entry)) (i k p : ℕ) (e : Entry) → i < length ls → k ≤ length (list_at ls i) → p ≡ offset ls i + k → joined (set ls i (insert (list_at ls i) k e)) ≡ insert (joined ls) p e
joined_insert [] i k p e l m h = absurd (omega arith)
joined_insert (x ∷ xs) zero k p e l m h =
    let same : p ≡ k = omega arith in
    sym (ap (λ j. insert (x ++ joined xs) j e) same ∙ insert-append_left x (joined xs) k e m)
joined_insert (x ∷ xs) (suc i) k p e l m h =
    let at : length x ≤ p = omega (arith, length-append x (joined (take i xs))) in
    let rest : p - length x ≡ offset xs i + k = omega (arith, length-append x (joined (take i xs))) in
    ap (λ ys. x ++ ys) (joined_insert xs i k (p - length x) e (omega arith) m rest) ∙ sym (insert-append_right x (joined xs) (length x) p e refl at)

-- an element taken out of one of the lists is taken out of the joined ones
pub joined_remove : (ls : List (List Entry)) (i k p : ℕ) → i < length ls → k < length (list_at ls i) → p ≡ offset ls i + k → joined (set ls i (remove (list_at ls i) k)) ≡ remove (joined ls) p
joined_remove [] i k p l m h = absurd (omega arith)
joined_remove (x ∷ xs) zero k p l m h =
    let same : p ≡ k = omega arith in
    sym (ap (λ j. remove (x ++ joined xs) j) same ∙ remove-append_left x (joined xs) k m)
joined_remove (x ∷ xs) (suc i) k p l m h =
    let at : length x ≤ p = omega (arith, length-append x (joined (take i xs))) in
    let rest : p - length x ≡ offset xs i + k = omega (arith, length-append x (joined (take i xs))) in
    ap (λ ys. x ++ ys) (joined_remove xs i k (p - length x) (omega arith) m rest) ∙ sym (remove-append_right x (joined xs) (length x) p refl at)

-- an element set in one of the lists is set among the joined ones
pub joined_set : (ls : List (List Entry)) (i k p : ℕ) (e : Entry) → i < length ls → k < length (list_at ls i) → p ≡ offset ls i + k → joined (set ls i (set (list_at ls i) k e)) ≡ set (joined ls) p e
joined_set [] i k p e l m h = absurd (omega arith)
joined_set (x ∷ xs) zero k p e l m h =
    let same : p ≡ k = omega arith in
    sym (ap (λ j. set (x ++ joined xs) j e) same ∙ set-append_left x (joined xs) k e m)
joined_set (x ∷ xs) (suc i) k p e l m h =
    let at : length x ≤ p = omega (arith, length-append x (joined (take i xs))) in
    let rest : p - length x ≡ offset xs i + k = omega (arith, length-append x (joined (take i xs))) in
    ap (λ ys. x ++ ys) (joined_set xs i k (p - length x) e (omega arith) m rest) ∙ sym (set-append_right x (joined xs) (length x) p e refl at)

-- how many there are then
pub count_insert : (ls : List (List Entry)) (i k : ℕ) (e : Entry) → i < length ls → k ≤ length (list_at ls i) → length (joined (set ls i (insert (list_at ls i) k e))) ≡ length (joined ls) + 1
count_insert ls i k e l m = ap length (joined_insert ls i k (offset ls i + k) e l m refl) ∙ length-insert (joined ls) (offset ls i + k) e (omega (arith, offset_within ls i l))

pub count_remove : (ls : List (List Entry)) (i k : ℕ) → i < length ls → k < length (list_at ls i) → length (joined (set ls i (remove (list_at ls i) k))) + 1 ≡ length (joined ls)
count_remove ls i k l m = ap (λ ys. length ys + 1) (joined_remove ls i k (offset ls i + k) l m refl) ∙ length-remove (joined ls) (offset ls i + k) (omega (arith, offset_within ls i l))

pub count_set : (ls : List (List Entry)) (i k : ℕ) (e : Entry) → i < length ls → k < length (list_at ls i) → length (joined (set ls i (set (list_at ls i) k e))) ≡ length (joined ls)
count_set ls i k e l m = ap length (joined_set ls i k (offset ls i + k) e l m refl) ∙ length-set (joined ls) (offset ls i + k) e

-- the list of a row
pub list_of : (places : List Entry) (rows : List Row) (i : ℕ) (d : Row) → i < length rows → list_at (lists places rows) i ≡ row_of places (get_or rows i d)
list_of places rows i d l = get_or-map (row_of places) rows i d [] l

-- a row has as many entries as it says
pub row_length : (places : List Entry) (n : ℕ) (r : Row) → n ≡ length places → IsWithin n r → length (row_of places r) ≡ r.len
row_length places n r h w = length-take-le r.len (drop r.start places) (omega (arith, length-drop r.start places, w.0, w.1))
