-- The first entry of a day's bucket.
use Rattle.std.proofs.Common.{◌≡◌, ℕ, zero, suc, ◌+◌, ◌/◌, ◌%◌, ◌<◌, ◌≤◌, ◌==◌, true, false, List, [], ◌∷◌, length, take, drop, get_or, Option, None, Some, arith, refl, sym, ap, ◌∙◌, subst, true≢false, eq-eqb, eqb-true, nat_lt}
use Rattle.std.proofs.Math.Nat.{div-mul-le_self}
use Rattle.std.specs.Ordering.{nat_cmp, is_lt, ordering_then, ordering_reverse}
use Rattle.std.specs.declared.cmp.Ordering.{Ordering}
use Rattle.std.specs.declared.cmp.Ordering.TheVariants.{Less}
use Rattle.std.specs.List.{AllByRecursion}
use Rattle.std.specs.List.Sorted.{IsStrictlySortedBy}
use Rattle.std.proofs.lemmas.Nat.{le-div}
use Rattle.kit_base.proofs.Lists.{each_weaker}
use Rattle.kit_base.specs.Order.{key_cmp, is_before}
use Rattle.kit_base.specs.declared.message.Message.{Message}
use Rattle.kit_queue.specs.declared.entry.Entry.{Entry}
use Rattle.kit_queue.specs.Entries.{messages_of}
use Rattle.kit_base.proofs.Orders.{key_total}
use Rattle.kit_calendar.proofs.Queue.{at_place}
use Rattle.kit_calendar.specs.Buckets.{bucket_of, bucket_cmp, IsArranged, IsFromDay, put_by}
use Rattle.kit_calendar.specs.Least.{IsLeastOf, IsBest, is_entry, day_of}
use Rattle.kit_calendar.proofs.Gathered.{each_message}
use Rattle.kit_calendar.proofs.Arranged.{each_put_by}
use Rattle.kit_calendar.proofs.Slices.{no_later, same_bucket, below_index, not_below_index}
use Rattle.kit_calendar.proofs.Least.{not_itself, all_taken, same_there}

-- a message of a lesser key is timed no later
no_later_time : (a b : ℕ) (o : Ordering) → ordering_then (nat_cmp a b) o ≡ Less → a ≤ b
no_later_time a b o h = grind arith

-- a message that is timed later is not before one
later_time : (a b : ℕ) (o : Ordering) → a < b → is_lt (ordering_then (nat_cmp b a) o) ≡ false
later_time a b o h = grind arith

-- what is not before a message is timed no earlier
not_before_time : (a b : ℕ) (o : Ordering) → is_lt (ordering_then (nat_cmp b a) o) ≡ false → a ≤ b
not_before_time a b o h = grind arith

-- the day of a later time is no earlier
no_earlier_day : (a b width : ℕ) → 0 < width → a ≤ b → a / width ≤ b / width
no_earlier_day a b width s h = le-div (a / width) b width s (omega (arith, div-mul-le_self a width))

-- a number that is no less and not the same is more
pub past : (a b : ℕ) → b ≤ a → (a ≡ b → ⊥) → b + 1 ≤ a
past a b l f =
    elim (a == b) as (λ t. (a == b) ≡ t → b + 1 ≤ a) [
      | true ↦ λ q. absurd (f (eqb-true _ _ q))
      | false ↦ λ q. more a b l q
    ] refl
  where
    more : (n m : ℕ) → m ≤ n → (n == m) ≡ false → m + 1 ≤ n
    more n m h q = grind arith

-- the time of a later day is later
later_day : (a b width : ℕ) → 0 < width → a / width < b / width → a < b
later_day a b width s h =
    elim (nat_lt a b) as (λ t. nat_lt a b ≡ t → a < b) [
      | true ↦ λ q. below_index a b q
      | false ↦ λ q. let back : b / width ≤ a / width = no_earlier_day b a width s (not_below_index a b q) in absurd (omega arith)
    ] refl

-- a message of an earlier bucket than the day's is of a later day
front : (width buckets day : ℕ) (x : Message) → bucket_of width buckets x < day % buckets → day ≤ x.time / width → day + 1 ≤ x.time / width
front width buckets day x b l = past (x.time / width) day l (λ q. let own : bucket_of width buckets x ≡ day % buckets = ap (λ k. k % buckets) q in omega arith)

-- what stands behind a message that is of a later day is of a later day
later_than_day : (width buckets day : ℕ) (e x : Message) → 0 < width → bucket_cmp width buckets e x ≡ Less → day % buckets ≤ bucket_of width buckets e → day + 1 ≤ e.time / width → day ≤ x.time / width → day + 1 ≤ x.time / width
later_than_day width buckets day e x s h b l m =
    let up : bucket_of width buckets e ≤ bucket_of width buckets x = no_later (bucket_of width buckets e) (bucket_of width buckets x) (key_cmp e x) h in
    past (x.time / width) day m (λ q.
    let own : bucket_of width buckets x ≡ day % buckets = ap (λ k. k % buckets) q in
    let tie : bucket_of width buckets e ≡ bucket_of width buckets x = omega arith in
    let same : e.time / width ≤ x.time / width = no_earlier_day e.time x.time width s (no_later_time e.time x.time (ordering_then (nat_cmp e.sender x.sender) (nat_cmp e.number x.number)) (same_bucket (bucket_of width buckets e) (bucket_of width buckets x) (key_cmp e x) tie h)) in
    omega arith)

-- all that stand behind it are
rear : (width buckets day : ℕ) (e : Message) (ys : List Entry) → 0 < width → day % buckets ≤ bucket_of width buckets e → day + 1 ≤ e.time / width → AllByRecursion (λ y. bucket_cmp width buckets e y ≡ Less) (messages_of ys) → IsFromDay width day ys → IsFromDay width (day + 1) ys
rear width buckets day e [] s b l a f = tt
rear width buckets day e (y ∷ ys) s b l a f = (later_than_day width buckets day e y.message s a.0 b l f.0, rear width buckets day e ys s b l a.1 f.1)

-- no entry is of a day where the first of its bucket or a later one is not
pub none_that_day : (width buckets day : ℕ) (es : List Entry) (at : ℕ) → 0 < width → IsArranged width buckets es
    → AllByRecursion (λ e. bucket_of width buckets e.message < day % buckets) (take at es) → AllByRecursion (λ e. day % buckets ≤ bucket_of width buckets e.message) (drop at es)
    → IsFromDay width day es → ((d : Entry) → at < length es → day + 1 ≤ (get_or es at d).message.time / width) → IsFromDay width (day + 1) es
unfolding IsStrictlySortedBy
none_that_day width buckets day [] at s o a b f later = tt
none_that_day width buckets day (x ∷ xs) zero s o a b f later = let l = later x (omega arith) in (l, rear width buckets day x.message xs s b.0 l o.0 f.1)
none_that_day width buckets day (x ∷ xs) (suc at) s o a b f later =
    (front width buckets day x.message a.0 f.0, none_that_day width buckets day xs at s o.1 a.1 b f.1 (λ d l. later d (omega arith)))

-- an entry that stands at a place and is not of the day is of a later one
pub not_that_day : (width day : ℕ) (es : List Entry) (at : ℕ) (e d : Entry) → at < length es → e ≡ get_or es at e → IsFromDay width day es → (e.message.time / width ≡ day → ⊥) → day + 1 ≤ (get_or es at d).message.time / width
not_that_day width day es at e d l h f other =
    let here : day ≤ e.message.time / width = subst (λ (y : Entry). day ≤ y.message.time / width) (sym h) (at_place (λ m. day ≤ m.time / width) es at e f l) in
    subst (λ (y : Entry). day + 1 ≤ y.message.time / width) (h ∙ same_there es at e d l) (past (e.message.time / width) day here other)

-- tests of numbers that are not equal
unequal : (a b : ℕ) → (a == b) ≡ false → a ≡ b → ⊥
unequal a b h q = true≢false (sym (eq-eqb a b q) ∙ h)

-- what stands behind a message of the day is not before it
behind : (width buckets day : ℕ) (e x : Message) → 0 < width → bucket_cmp width buckets e x ≡ Less → e.time / width ≡ day → day ≤ x.time / width → is_before x e ≡ false
behind width buckets day e x s h own l =
    elim (bucket_of width buckets e == bucket_of width buckets x) as (λ b. (bucket_of width buckets e == bucket_of width buckets x) ≡ b → is_before x e ≡ false) [
      | true ↦ λ q. ap is_lt (key_total.antisymm x e ∙ ap ordering_reverse (same_bucket (bucket_of width buckets e) (bucket_of width buckets x) (key_cmp e x) (eqb-true _ _ q) h))
      | false ↦ λ q.
          let more : e.time / width + 1 ≤ x.time / width = past (x.time / width) (e.time / width) (omega arith) (λ t. unequal (bucket_of width buckets e) (bucket_of width buckets x) q (ap (λ k. k % buckets) (sym t))) in
          later_time e.time x.time (ordering_then (nat_cmp x.sender e.sender) (nat_cmp x.number e.number)) (later_day e.time x.time width s (omega arith))
    ] refl

-- none of those behind it is
all_behind : (width buckets day : ℕ) (e : Message) (ys : List Entry) → 0 < width → e.time / width ≡ day → AllByRecursion (λ y. bucket_cmp width buckets e y ≡ Less) (messages_of ys) → IsFromDay width day ys → AllByRecursion (λ y. is_before y.message e ≡ false) ys
all_behind width buckets day e [] s own a f = tt
all_behind width buckets day e (y ∷ ys) s own a f = (behind width buckets day e y.message s a.0 own f.0, all_behind width buckets day e ys s own a.1 f.1)

-- no entry is before the first of the day's bucket that is of the day
first_that_day : (width buckets day : ℕ) (es : List Entry) (at : ℕ) (e : Entry) → 0 < width → IsArranged width buckets es
    → AllByRecursion (λ x. bucket_of width buckets x.message < day % buckets) (take at es)
    → IsFromDay width day es → at < length es → e ≡ get_or es at e → e.message.time / width ≡ day → AllByRecursion (λ x. is_before x.message e.message ≡ false) es
unfolding IsStrictlySortedBy
first_that_day width buckets day [] at e s o a f l h own = absurd (omega arith)
first_that_day width buckets day (x ∷ xs) zero e s o a f l h own = (
  ap (λ y. is_before y.message e.message) (sym h) ∙ not_itself e.message,
  all_behind width buckets day e.message xs s own (subst (λ y. AllByRecursion (λ z. bucket_cmp width buckets y.message z ≡ Less) (messages_of xs)) (sym h) o.0) f.1,
)
first_that_day width buckets day (x ∷ xs) (suc at) e s o a f l h own =
    let past : day + 1 ≤ x.message.time / width = front width buckets day x.message a.0 f.0 in (
      later_time e.message.time x.message.time (ordering_then (nat_cmp x.message.sender e.message.sender) (nat_cmp x.message.number e.message.number)) (later_day e.message.time x.message.time width s (omega arith)),
      first_that_day width buckets day xs at e s o.1 a.1 f.1 (omega arith) h own,
    )

-- that one is the least
pub least_that_day : (width buckets day : ℕ) (es : List Entry) (at : ℕ) (e : Entry) → 0 < width → IsArranged width buckets es
    → AllByRecursion (λ x. bucket_of width buckets x.message < day % buckets) (take at es)
    → IsFromDay width day es → at < length es → e ≡ get_or es at e → e.message.time / width ≡ day → IsLeastOf is_entry es (length es) at e
least_that_day width buckets day es at e s o a f l h own = record {
  within = l;
  stands = h;
  passes = refl;
  first = subst (AllByRecursion (λ x. is_entry x ≡ true → is_before x.message e.message ≡ false)) (sym (all_taken es)) (each_weaker (λ x. is_before x.message e.message ≡ false) (λ x. is_entry x ≡ true → is_before x.message e.message ≡ false) es (λ x q t. q) (first_that_day width buckets day es at e s o a f l h own));
}

-- no entry is of an earlier day than the least
pub from_least : (width : ℕ) (es : List Entry) (at : ℕ) (e : Entry) → 0 < width → IsLeastOf is_entry es (length es) at e → IsFromDay width (e.message.time / width) es
from_least width es at e s b =
    let first = subst (AllByRecursion (λ x. is_entry x ≡ true → is_before x.message e.message ≡ false)) (all_taken es) b.first in
    each_message (λ m. e.message.time / width ≤ m.time / width) es
    (each_weaker (λ x. is_entry x ≡ true → is_before x.message e.message ≡ false) (λ x. e.message.time / width ≤ x.message.time / width) es
    (λ x q. no_earlier_day e.message.time x.message.time width s (not_before_time e.message.time x.message.time (ordering_then (nat_cmp x.message.sender e.message.sender) (nat_cmp x.message.number e.message.number)) (q refl))) first)

-- no entry is of an earlier day than the least that was found
pub from_best : (width : ℕ) (es : List Entry) (best : Option (ℕ × Entry)) → 0 < width → IsBest is_entry es best → IsFromDay width (day_of width best) es
from_best width es None s b = from_zero es
  where
    from_zero : (ys : List Entry) → IsFromDay width 0 ys
    from_zero [] = tt
    from_zero (y ∷ ys) = (omega arith, from_zero ys)
from_best width es (Some found) s b = from_least width es found.0 found.1 s b

-- no entry is before the earlier of a day and that of one that is put among them
pub from_put : (cmp : Message → Message → Ordering) (width day then : ℕ) (e : Entry) (es : List Entry) → then ≤ day → then ≤ e.message.time / width → IsFromDay width day es → IsFromDay width then (put_by cmp e es)
from_put cmp width day then e es l m f = each_put_by cmp (λ x. then ≤ x.time / width) e es m (each_weaker (λ x. day ≤ x.time / width) (λ x. then ≤ x.time / width) (messages_of es) (λ x h. omega arith) f)
