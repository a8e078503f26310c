-- Entries that are laid out one after another.
use Rattle.std.proofs.Common.{◌≡◌, ℕ, zero, suc, ◌+◌, ◌<◌, false, List, [], ◌∷◌, ◌++◌, length, take, get_or, arith, refl, sym, ap, ◌∙◌, subst}
use Rattle.std.specs.List.{AllByRecursion, IsDistinct}
use Rattle.std.specs.List.Sorted.{IsStrictlySortedBy}
use Rattle.std.proofs.lemmas.List.{take_more}
use Rattle.kit_queue.specs.declared.entry.Entry.{Entry}
use Rattle.kit_queue.specs.Entries.{shares_number, AreNumberedApart, put_entry}
use Rattle.kit_calendar.proofs.Queue.{shares_flip, at_place}
use Rattle.kit_calendar.specs.Buckets.{bucket_cmp, IsLaidOut, gathered, put_by}
use Rattle.kit_calendar.proofs.Gathered.{put_both, each_gathered, each_of_gathered, each_message}
use Rattle.kit_calendar.proofs.Arranged.{apart_put_by}
use Rattle.kit_calendar.proofs.Calls.{arranged_put, gathered_put}
use Rattle.kit_calendar.proofs.Least.{same_there}

-- those before a place have other numbers than the one there
apart_front : (es : List Entry) (i : ℕ) (e : Entry) → AreNumberedApart es → i < length es → e ≡ get_or es i e → AllByRecursion (λ x. shares_number e.message x.message ≡ false) (take i es)
unfolding IsDistinct
apart_front [] i e d l h = absurd (omega arith)
apart_front (x ∷ xs) zero e d l h = tt
apart_front (x ∷ xs) (suc i) e d l h =
    let far : shares_number x.message e.message ≡ false = ap (λ y. shares_number x.message y.message) h ∙ at_place (λ y. shares_number x.message y ≡ false) xs i e d.0 (omega arith) in
    (shares_flip e.message x.message ∙ far, apart_front xs i e d.1 (omega arith) h)

-- the last of some entries may be put last
gathered_last : (e : Entry) (xs : List Entry) → AllByRecursion (λ x. shares_number e.message x.message ≡ false) xs → gathered (xs ++ e ∷ []) ≡ put_entry e (gathered xs)
gathered_last e [] a = refl
gathered_last e (x ∷ xs) a = ap (put_entry x) (gathered_last e xs a.1) ∙ put_both x e (gathered xs) (shares_flip x.message e.message ∙ a.0)

-- nothing is laid out of no entries
pub none_laid : (width buckets : ℕ) (es laid : List Entry) → laid ≡ [] → IsLaidOut width buckets es 0 laid
unfolding IsStrictlySortedBy IsDistinct
none_laid width buckets es laid h =
    let empty : IsLaidOut width buckets es 0 [] = record { same = refl; arranged = tt; apart = tt; count = refl } in
    subst (IsLaidOut width buckets es 0) (sym h) empty

-- one more entry, put in its place
pub more_laid : (width buckets : ℕ) (es laid then ys : List Entry) (n : ℕ) (d : Entry) → AreNumberedApart es → ys ≡ es → n < length ys → IsLaidOut width buckets es n laid → then ≡ put_by (bucket_cmp width buckets) (get_or ys n d) laid → length then ≡ length laid + 1 → IsLaidOut width buckets es (n + 1) then
more_laid width buckets es laid then ys n d apart same l b h len =
    let e : Entry = get_or ys n d in
    let there : n < length es = subst (λ zs. n < length zs) same l in
    let stands : e ≡ get_or es n e = same_there ys n d e l ∙ ap (λ zs. get_or zs n e) same in
    let far = apart_front es n e apart there stands in
    let new = each_message (λ y. shares_number e.message y ≡ false) laid (each_of_gathered (λ x. shares_number e.message x.message ≡ false) laid (subst (AllByRecursion (λ x. shares_number e.message x.message ≡ false)) (sym b.same) (each_gathered (λ x. shares_number e.message x.message ≡ false) (take n es) far))) in
    subst (IsLaidOut width buckets es (n + 1)) (sym h) (record {
      same = gathered_put width buckets e laid new
          ∙ ap (put_entry e) b.same
          ∙ sym (ap gathered (take_more es n e there ∙ ap (λ y. take n es ++ y ∷ []) (sym stands)) ∙ gathered_last e (take n es) far);
      arranged = arranged_put width buckets e laid new b.arranged;
      apart = apart_put_by (bucket_cmp width buckets) e laid new b.apart;
      count = sym (ap length h) ∙ len ∙ ap (λ k. k + 1) b.count;
    })

-- one more entry, put in its place among as many buckets
pub next_laid : (width buckets m : ℕ) (es laid then ys : List Entry) (n : ℕ) (d : Entry) → m ≡ buckets → AreNumberedApart es → ys ≡ es → n < length ys → IsLaidOut width buckets es n laid → then ≡ put_by (bucket_cmp width m) (get_or ys n d) laid → length then ≡ length laid + 1 → IsLaidOut width buckets es (n + 1) then
next_laid width buckets m es laid then ys n d as_many apart same l b h len =
    more_laid width buckets es laid then ys n d apart same l b (h ∙ ap (λ k. put_by (bucket_cmp width k) (get_or ys n d) laid) as_many) len
