-- Rows in which one entry changed.
use Rattle.std.proofs.Common.{◌≡◌, ℕ, zero, suc, ◌+◌, ◌<◌, List, [], ◌∷◌, length, get_or, set, arith, refl, sym, ap, ◌∙◌, subst}
use Rattle.std.specs.List.{AllByRecursion, remove}
use Rattle.std.proofs.lemmas.List.{length-set}
use Rattle.kit_queue.specs.declared.entry.Entry.{Entry}
use Rattle.kit_calendar.specs.Rows.{joined, offset, list_at}
use Rattle.kit_calendar.specs.Buckets.{bucket_of, IsDealt}
use Rattle.kit_calendar.proofs.Joined.{joined_remove, joined_set}
use Rattle.kit_calendar.proofs.Dealt.{dealt_set, list_dealt, each_left, each_with}

-- there are as many rows
pub as_many_lists : (ls new : List (List Entry)) (i : ℕ) (l : List Entry) → new ≡ set ls i l → length new ≡ length ls
as_many_lists ls new i l h = ap length h ∙ length-set ls i l

-- an entry was taken out
pub waiting_removed : (ls new : List (List Entry)) (i k : ℕ) → i < length ls → k < length (list_at ls i) → new ≡ set ls i (remove (list_at ls i) k) → joined new ≡ remove (joined ls) (offset ls i + k)
waiting_removed ls new i k l m h = ap joined h ∙ joined_remove ls i k (offset ls i + k) l m refl

pub dealt_removed : (width buckets : ℕ) (ls new : List (List Entry)) (i k : ℕ) → IsDealt width buckets 0 ls → new ≡ set ls i (remove (list_at ls i) k) → IsDealt width buckets 0 new
dealt_removed width buckets ls new i k d h =
    subst (IsDealt width buckets 0) (sym h) (dealt_set width buckets 0 ls i (remove (list_at ls i) k) d (each_left (λ e. bucket_of width buckets e.message ≡ 0 + i) (list_at ls i) k (list_dealt width buckets 0 ls i d)))

-- an entry was set
pub waiting_set : (ls new : List (List Entry)) (i k : ℕ) (e : Entry) → i < length ls → k < length (list_at ls i) → new ≡ set ls i (set (list_at ls i) k e) → joined new ≡ set (joined ls) (offset ls i + k) e
waiting_set ls new i k e l m h = ap joined h ∙ joined_set ls i k (offset ls i + k) e l m refl

pub dealt_with : (width buckets : ℕ) (ls new : List (List Entry)) (i k : ℕ) (e : Entry) → bucket_of width buckets e.message ≡ 0 + i → IsDealt width buckets 0 ls → new ≡ set ls i (set (list_at ls i) k e) → IsDealt width buckets 0 new
dealt_with width buckets ls new i k e b d h =
    subst (IsDealt width buckets 0) (sym h) (dealt_set width buckets 0 ls i (set (list_at ls i) k e) d (each_with (λ x. bucket_of width buckets x.message ≡ 0 + i) (list_at ls i) k e b (list_dealt width buckets 0 ls i d)))

-- the bucket of an entry at a place of a row
pub bucket_there : (width buckets : ℕ) (ls : List (List Entry)) (i k : ℕ) (e : Entry) → IsDealt width buckets 0 ls → k < length (list_at ls i) → e ≡ get_or (list_at ls i) k e → bucket_of width buckets e.message ≡ 0 + i
bucket_there width buckets ls i k e d m h = subst (λ (x : Entry). bucket_of width buckets x.message ≡ 0 + i) (sym h) (entry_there (λ x. bucket_of width buckets x.message ≡ 0 + i) (list_at ls i) k e (list_dealt width buckets 0 ls i d) m)
  where
    entry_there : (P : Entry → Type 0) (es : List Entry) (n : ℕ) (x : Entry) → AllByRecursion P es → n < length es → P (get_or es n x)
    entry_there P [] n x a l = absurd (omega arith)
    entry_there P (y ∷ ys) zero x a l = a.0
    entry_there P (y ∷ ys) (suc n) x a l = entry_there P ys n x a.1 (omega arith)
