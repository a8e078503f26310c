-- What the calls leave of the entries.
use Rattle.std.proofs.Common.{eqb-true, ◌==◌, ◌≡◌, ℕ, zero, suc, ◌<◌, Bool, true, false, List, [], ◌∷◌, length, get_or, set, find, Some, None, arith, refl, sym, ap, ◌∙◌, subst, true≢false}
use Rattle.std.specs.Ordering.{ordering_then}
use Rattle.std.specs.declared.cmp.Ordering.{Ordering}
use Rattle.std.specs.declared.cmp.Ordering.TheVariants.{Equal}
use Rattle.std.specs.List.{AllByRecursion, IsDistinct, remove}
use Rattle.kit_base.proofs.Lists.{each_weaker}
use Rattle.kit_base.specs.Order.{key_cmp, is_before}
use Rattle.kit_base.specs.declared.message.Message.{Message}
use Rattle.kit_queue.specs.declared.entry.Entry.{Entry}
use Rattle.kit_queue.specs.Entries.{messages_of, is_numbered, shares_number, AreNumberedApart, put_entry, entry_of, entries_without, is_settleable, without_buffer, with_first_settled}
use Rattle.std.proofs.lemmas.Bool.{and_parts}
use Rattle.kit_calendar.proofs.Queue.{equal_shares, at_place, shares_flip}
use Rattle.kit_calendar.specs.Buckets.{bucket_cmp, IsArranged, gathered, put_by}
use Rattle.kit_calendar.specs.Least.{IsLeastOf, IsBestOf, is_entry}
use Rattle.kit_calendar.proofs.Gathered.{put_both, each_gathered, each_of_gathered, each_message, each_entry, none_passes, none_found, find_put, first_put, without_put, settled_put, taken_at, gathered_put_by}
use Rattle.kit_calendar.proofs.Arranged.{bucket_cmp_total, sorted_put_by}
use Rattle.kit_calendar.proofs.Least.{best_before, no_best}

-- messages that tie by bucket and key have the same number
tied : (width buckets : ℕ) (a b : Message) → bucket_cmp width buckets a b ≡ Equal → shares_number a b ≡ true
tied width buckets a b h = equal_shares a b (second _ (key_cmp a b) h)
  where
    second : (x y : Ordering) → ordering_then x y ≡ Equal → y ≡ Equal
    second x y h = grind arith

-- an entry whose number is not among those gathered has another number than each
pub is_new : (e : Entry) (es : List Entry) → entry_of e.message.sender e.message.number (gathered es) ≡ None → AllByRecursion (λ y. shares_number e.message y ≡ false) (messages_of es)
is_new e es h = each_message (λ y. shares_number e.message y ≡ false) es (each_of_gathered (λ x. shares_number e.message x.message ≡ false) es (none_passes (λ (x : Entry). shares_number e.message x.message) (gathered es) h))

-- an entry of a new number, put in its place, leaves the entries arranged
pub arranged_put : (width buckets : ℕ) (e : Entry) (es : List Entry) → AllByRecursion (λ y. shares_number e.message y ≡ false) (messages_of es) → IsArranged width buckets es → IsArranged width buckets (put_by (bucket_cmp width buckets) e es)
arranged_put width buckets e es new s =
    sorted_put_by (bucket_cmp width buckets) (bucket_cmp_total width buckets) e es
    (each_weaker (λ y. shares_number e.message y ≡ false) (λ y. bucket_cmp width buckets e.message y ≡ Equal → ⊥) (messages_of es) (λ y far h. true≢false (sym (tied width buckets e.message y h) ∙ far)) new)
    s

-- and is gathered with the others
pub gathered_put : (width buckets : ℕ) (e : Entry) (es : List Entry) → AllByRecursion (λ y. shares_number e.message y ≡ false) (messages_of es) → gathered (put_by (bucket_cmp width buckets) e es) ≡ put_entry e (gathered es)
gathered_put width buckets e es new = gathered_put_by (bucket_cmp width buckets) e es (each_entry (λ y. shares_number e.message y ≡ false) es new)

-- the least entry comes first, and then the rest
pub least_first : (es : List Entry) (found : ℕ × Entry) → AreNumberedApart es → IsLeastOf is_entry es (length es) found.0 found.1 → gathered es ≡ found.1 ∷ gathered (remove es found.0)
least_first es found d b =
    let others = each_gathered (λ x. true ≡ true → is_before found.1.message x.message ≡ true) (remove es found.0) (best_before is_entry es found d b) in
    taken_at es found.0 found.1 d b.within b.stands
    ∙ first_put found.1 (gathered (remove es found.0)) (each_weaker (λ x. true ≡ true → is_before found.1.message x.message ≡ true) (λ x. is_before found.1.message x.message ≡ true) (gathered (remove es found.0)) (λ x f. f refl) others)

-- an entry that keeps its message is put in the same place
changed_at : (es : List Entry) (i : ℕ) (y d : Entry) → AreNumberedApart es → i < length es → y.message ≡ (get_or es i d).message → gathered (set es i y) ≡ put_entry y (gathered (remove es i))
unfolding IsDistinct
changed_at [] i y d a l h = absurd (omega arith)
changed_at (x ∷ xs) zero y d a l h = refl
changed_at (x ∷ xs) (suc i) y d a l h =
    let far : shares_number x.message y.message ≡ false = ap (shares_number x.message) h ∙ at_place (λ z. shares_number x.message z ≡ false) xs i d a.0 (omega arith) in
    ap (put_entry x) (changed_at xs i y d a.1 (omega arith) h) ∙ put_both x y (gathered (remove xs i)) far

-- the messages stay
pub same_messages : (es : List Entry) (i : ℕ) (y d : Entry) → i < length es → y.message ≡ (get_or es i d).message → messages_of (set es i y) ≡ messages_of es
same_messages [] i y d l h = absurd (omega arith)
same_messages (x ∷ xs) zero y d l h = ap (λ m. m ∷ messages_of xs) h
same_messages (x ∷ xs) (suc i) y d l h = ap (λ ms. x.message ∷ ms) (same_messages xs i y d (omega arith) h)

-- the entries with the least that can be settled
pub settled_gathered : (below : ℕ) (es : List Entry) (found : ℕ × Entry) → AreNumberedApart es → IsLeastOf (is_settleable below) es (length es) found.0 found.1 → gathered (set es found.0 (without_buffer found.1)) ≡ with_first_settled below (gathered es)
settled_gathered below es found d b =
    changed_at es found.0 (without_buffer found.1) found.1 d b.within (ap (λ (x : Entry). x.message) b.stands)
    ∙ sym (ap (with_first_settled below) (taken_at es found.0 found.1 d b.within b.stands)
    ∙ settled_put below found.1 (gathered (remove es found.0)) b.passes (each_gathered (λ x. is_settleable below x ≡ true → is_before found.1.message x.message ≡ true) (remove es found.0) (best_before (is_settleable below) es found d b)))

-- that one is the first that is found
pub settleable_found : (below : ℕ) (es : List Entry) (found : ℕ × Entry) → AreNumberedApart es → IsLeastOf (is_settleable below) es (length es) found.0 found.1 → find (is_settleable below) (gathered es) ≡ Some found.1
settleable_found below es found d b =
    ap (find (is_settleable below)) (taken_at es found.0 found.1 d b.within b.stands)
    ∙ find_put (is_settleable below) found.1 (gathered (remove es found.0)) b.passes (each_gathered (λ x. is_settleable below x ≡ true → is_before found.1.message x.message ≡ true) (remove es found.0) (best_before (is_settleable below) es found d b))

-- where none can be settled none is found
pub no_settleable : (below : ℕ) (es : List Entry) → IsBestOf (is_settleable below) es (length es) None → find (is_settleable below) (gathered es) ≡ None
no_settleable below es b = none_found (is_settleable below) (gathered es) (each_gathered (λ x. is_settleable below x ≡ false) es (no_best (is_settleable below) es b))

-- the best of those that pass is the first that is found
pub first_sought : (p : Entry → Bool) (es : List Entry) (found : ℕ × Entry) → AreNumberedApart es → IsLeastOf p es (length es) found.0 found.1 → find p (gathered es) ≡ Some found.1
first_sought p es found d b =
    ap (find p) (taken_at es found.0 found.1 d b.within b.stands)
    ∙ find_put p found.1 (gathered (remove es found.0)) b.passes (each_gathered (λ x. p x ≡ true → is_before found.1.message x.message ≡ true) (remove es found.0) (best_before p es found d b))

-- where none passes none is found
pub none_sought : (p : Entry → Bool) (es : List Entry) → IsBestOf p es (length es) None → find p (gathered es) ≡ None
none_sought p es b = none_found p (gathered es) (each_gathered (λ x. p x ≡ false) es (no_best p es b))

-- the others have other numbers than the entry at a place
apart_others : (es : List Entry) (i : ℕ) (e : Entry) → AreNumberedApart es → i < length es → e ≡ get_or es i e → AllByRecursion (λ x. shares_number e.message x.message ≡ false) (remove es i)
unfolding IsDistinct
apart_others [] i e d l h = absurd (omega arith)
apart_others (x ∷ xs) zero e d l h = each_entry (λ y. shares_number e.message y ≡ false) xs (subst (λ (y : Entry). AllByRecursion (λ z. shares_number y.message z ≡ false) (messages_of xs)) (sym h) d.0)
apart_others (x ∷ xs) (suc i) e d l h =
    let far : shares_number x.message e.message ≡ false = ap (λ (y : Entry). shares_number x.message y.message) h ∙ at_place (λ y. shares_number x.message y ≡ false) xs i e d.0 (omega arith) in
    (shares_flip e.message x.message ∙ far, apart_others xs i e d.1 (omega arith) h)

-- all but the entry of a number are those without it
pub rest_numbered : (sender number : ℕ) (es : List Entry) (found : ℕ × Entry) → AreNumberedApart es → IsLeastOf (λ x. is_numbered sender number x.message) es (length es) found.0 found.1 → entries_without sender number (gathered es) ≡ gathered (remove es found.0)
rest_numbered sender number es found d b =
    let e = found.1 in
    let parts = and_parts (e.message.sender == sender) (e.message.number == number) b.passes in
    let own : e.message.sender ≡ sender = eqb-true _ _ parts.0 in
    let is : e.message.number ≡ number = eqb-true _ _ parts.1 in
    let others = each_weaker (λ (x : Entry). shares_number e.message x.message ≡ false) (λ x. is_numbered sender number x.message ≡ false) (remove es found.0) (λ x far. ap (λ s. is_numbered s number x.message) (sym own) ∙ ap (λ n. is_numbered e.message.sender n x.message) (sym is) ∙ far) (apart_others es found.0 e d b.within b.stands) in
    ap (entries_without sender number) (taken_at es found.0 e d b.within b.stands)
    ∙ without_put sender number e (gathered (remove es found.0)) b.passes (each_gathered (λ x. is_numbered sender number x.message ≡ false) (remove es found.0) others)
