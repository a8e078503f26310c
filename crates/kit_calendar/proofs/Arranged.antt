-- Entries that stand in an order of their own.
use Rattle.std.proofs.Common.{◌≡◌, ℕ, zero, suc, ◌<◌, true, false, cond, List, [], ◌∷◌, length, get_or, arith, refl, ap, ◌∙◌}
use Rattle.std.specs.Ordering.{is_lt, ordering_reverse}
use Rattle.std.specs.declared.cmp.Ordering.{Ordering}
use Rattle.std.specs.declared.cmp.Ordering.TheVariants.{Less, Equal, Greater}
use Rattle.std.specs.Cmp.{IsTotalOrder}
use Rattle.std.specs.List.{AllByRecursion, IsDistinct, remove}
use Rattle.std.specs.List.Sorted.{IsStrictlySortedBy}
use Rattle.std.proofs.lemmas.Cmp.{nat_cmp_total, on_total, then_total}
use Rattle.kit_base.proofs.Lists.{each_weaker}
use Rattle.kit_base.specs.declared.message.Message.{Message}
use Rattle.kit_queue.specs.declared.entry.Entry.{Entry}
use Rattle.kit_queue.specs.Entries.{messages_of, shares_number, AreNumberedApart}
use Rattle.kit_base.proofs.Orders.{key_total}
use Rattle.kit_calendar.proofs.Queue.{shares_flip, at_place}
use Rattle.kit_calendar.specs.Buckets.{bucket_of, bucket_cmp, put_by}

-- messages are totally ordered by bucket and key
pub bucket_cmp_total : (width buckets : ℕ) → IsTotalOrder (bucket_cmp width buckets)
bucket_cmp_total width buckets = then_total (on_total (bucket_of width buckets) nat_cmp_total) key_total

-- a test that is true means Less
lt_less : (o : Ordering) → is_lt o ≡ true → o ≡ Less
lt_less o h = grind arith

-- a message that is before an entry is before each later one
later : (c : Message → Message → Ordering) → IsTotalOrder c → (m : Message) (x : Entry) (xs : List Entry) (k : ℕ) (d : Entry) → AllByRecursion (λ y. c x.message y ≡ Less) (messages_of xs) → k < length xs → is_lt (c m x.message) ≡ true → is_lt (c m (get_or xs k d).message) ≡ true
later c o m x xs k d h l b =
    ap is_lt (o.trans m x.message (get_or xs k d).message (lt_less (c m x.message) b) (at_place (λ y. c x.message y ≡ Less) xs k d h l))

-- what holds of an entry's message and of each of a list holds of each once it is put there
pub each_put_by : (c : Message → Message → Ordering) (P : Message → Type 0) (e : Entry) (es : List Entry) → P e.message → AllByRecursion P (messages_of es) → AllByRecursion P (messages_of (put_by c e es))
each_put_by c P e [] h a = (h, tt)
each_put_by c P e (x ∷ xs) h a = elim (is_lt (c e.message x.message)) as (λ b. AllByRecursion P (messages_of (cond b (e ∷ x ∷ xs) (x ∷ put_by c e xs)))) [ true ↦ (h, a) | false ↦ (a.0, each_put_by c P e xs h a.1) ]

-- an entry that no other ties with, put in its place, leaves them in strict order
pub sorted_put_by : (c : Message → Message → Ordering) → IsTotalOrder c → (e : Entry) (es : List Entry) → AllByRecursion (λ y. c e.message y ≡ Equal → ⊥) (messages_of es) → IsStrictlySortedBy c (messages_of es) → IsStrictlySortedBy c (messages_of (put_by c e es))
unfolding IsStrictlySortedBy
sorted_put_by c o e [] a s = (tt, tt)
sorted_put_by c o e (x ∷ xs) a s =
    elim (c e.message x.message) as (λ r. c e.message x.message ≡ r → IsStrictlySortedBy c (messages_of (cond (is_lt r) (e ∷ x ∷ xs) (x ∷ put_by c e xs)))) [
      | Less ↦ λ h. ((h, each_weaker (λ y. c x.message y ≡ Less) (λ y. c e.message y ≡ Less) (messages_of xs) (λ y l. o.trans e.message x.message y h l) s.0), s)
      | Equal ↦ λ h. absurd (a.0 h)
      | Greater ↦ λ h. (each_put_by c (λ y. c x.message y ≡ Less) e xs (o.antisymm x.message e.message ∙ ap ordering_reverse h) s.0, sorted_put_by c o e xs a.1 s.1)
    ] refl

-- an entry of a new number, put anywhere, leaves the numbers apart
pub apart_put_by : (c : Message → Message → Ordering) (e : Entry) (es : List Entry) → AllByRecursion (λ y. shares_number e.message y ≡ false) (messages_of es) → AreNumberedApart es → AreNumberedApart (put_by c e es)
unfolding IsDistinct
apart_put_by c e [] a d = (tt, tt)
apart_put_by c e (x ∷ xs) a d =
    elim (is_lt (c e.message x.message)) as (λ b. IsDistinct shares_number (messages_of (cond b (e ∷ x ∷ xs) (x ∷ put_by c e xs)))) [
      | true ↦ (a, d)
      | false ↦ (each_put_by c (λ y. shares_number x.message y ≡ false) e xs (shares_flip x.message e.message ∙ a.0) d.0, apart_put_by c e xs a.1 d.1)
    ]

-- what holds of each message holds of each that is left once one is taken out
pub each_removed : (P : Message → Type 0) (es : List Entry) (i : ℕ) → AllByRecursion P (messages_of es) → AllByRecursion P (messages_of (remove es i))
each_removed P [] zero a = a
each_removed P [] (suc i) a = a
each_removed P (x ∷ xs) zero a = a.1
each_removed P (x ∷ xs) (suc i) a = (a.0, each_removed P xs i a.1)

-- those that are left stand in order
pub sorted_remove : (c : Message → Message → Ordering) (es : List Entry) (i : ℕ) → IsStrictlySortedBy c (messages_of es) → IsStrictlySortedBy c (messages_of (remove es i))
unfolding IsStrictlySortedBy
sorted_remove c [] zero s = s
sorted_remove c [] (suc i) s = s
sorted_remove c (x ∷ xs) zero s = s.1
sorted_remove c (x ∷ xs) (suc i) s = (each_removed (λ y. c x.message y ≡ Less) xs i s.0, sorted_remove c xs i s.1)

-- and their numbers are apart
pub apart_remove : (es : List Entry) (i : ℕ) → AreNumberedApart es → AreNumberedApart (remove es i)
unfolding IsDistinct
apart_remove [] zero d = d
apart_remove [] (suc i) d = d
apart_remove (x ∷ xs) zero d = d.1
apart_remove (x ∷ xs) (suc i) d = (each_removed (λ y. shares_number x.message y ≡ false) xs i d.0, apart_remove xs i d.1)
