-- Entries that wait, in buckets by their times.
use Rattle.std.specs.Prelude.{◌≡◌, ◌≤◌, ℕ, ◌+◌, ◌-◌, ◌*◌, ◌==◌, ◌/◌, ◌%◌, nat_lt, min, max, fold, if◌then◌else◌, zero, suc, List, [], ◌∷◌, length, take, filter}
use Rattle.std.specs.Ordering.{nat_cmp, is_lt, ordering_then}
use Rattle.std.specs.Coded.{le_prop, Unit-prop, ×_prop}
use Rattle.std.proofs.Math.Nat.{ℕ_set}
use Rattle.std.specs.List.{AllByRecursion, AllByRecursion-prop}
use Rattle.std.specs.List.Sorted.{IsStrictlySortedBy, IsStrictlySortedBy-prop}
use Rattle.std.specs.declared.cmp.Ordering.{Ordering}
use Rattle.kit_base.specs.Order.{key_cmp}
use Rattle.kit_base.specs.declared.message.Message.{Message}
use Rattle.kit_queue.specs.declared.entry.Entry.{Entry}
use Rattle.kit_queue.specs.Entries.{messages_of, AreNumberedApart, put_entry}

-- the bucket of a message: its time divided by the width, modulo the number of buckets
abbrev pub bucket_of : ℕ → ℕ → Message → ℕ
bucket_of width buckets m = m.time / width % buckets

-- by bucket, then by key
abbrev pub bucket_cmp : ℕ → ℕ → Message → Message → Ordering
bucket_cmp width buckets a b = ordering_then (nat_cmp (bucket_of width buckets a) (bucket_of width buckets b)) (key_cmp a b)

-- the entries stand grouped by bucket, and those of each bucket in the order of keys
abbrev pub IsArranged : ℕ → ℕ → List Entry → Type 0
IsArranged width buckets es = IsStrictlySortedBy (bucket_cmp width buckets) (messages_of es)

-- there is one proof of that at most
pub IsArranged-prop : (width buckets : ℕ) (es : List Entry) → IsProp (IsArranged width buckets es)
IsArranged-prop width buckets es = IsStrictlySortedBy-prop (bucket_cmp width buckets) (messages_of es)

-- the entries, each put in its place in the order of keys
abbrev pub gathered : List Entry → List Entry
gathered [] = []
gathered (e ∷ es) = put_entry e (gathered es)

-- the lists from the k-th on have the entries of their buckets alone: the k-th list those of the bucket k, and so on
abbrev pub IsDealt : ℕ → ℕ → ℕ → List (List Entry) → Type 0
IsDealt width buckets k [] = Unit {0}
IsDealt width buckets k (l ∷ ls) = AllByRecursion (λ e. bucket_of width buckets e.message ≡ k) l × IsDealt width buckets (k + 1) ls

-- there is one proof of that at most
pub IsDealt-prop : (width buckets k : ℕ) (ls : List (List Entry)) → IsProp (IsDealt width buckets k ls)
IsDealt-prop width buckets k [] = Unit-prop
IsDealt-prop width buckets k (l ∷ ls) = ×_prop (AllByRecursion-prop (λ e. bucket_of width buckets e.message ≡ k) (λ e. ℕ_set _ _) l) (IsDealt-prop width buckets (k + 1) ls)

-- the entries of a bucket
abbrev pub in_bucket : ℕ → ℕ → ℕ → List Entry → List Entry
in_bucket width buckets index es = filter (λ e. bucket_of width buckets e.message == index) es

-- the entry put before those that come after it in this order
abbrev pub put_by : (Message → Message → Ordering) → Entry → List Entry → List Entry
put_by cmp e [] = e ∷ []
put_by cmp e (x ∷ xs) = if is_lt (cmp e.message x.message) then e ∷ x ∷ xs else x ∷ put_by cmp e xs

-- these are the first n of some entries, laid out by their buckets
pub record IsLaidOut (width buckets : ℕ) (es : List Entry) (n : ℕ) (laid : List Entry) : Type 0 where
  pub same : gathered laid ≡ gathered (take n es)
  pub arranged : IsArranged width buckets laid
  pub apart : AreNumberedApart laid
  pub count : length laid ≡ n

-- the number of buckets, doubled as long as the entries are more than twice the buckets; with this many doublings at most
abbrev pub doubled : ℕ → ℕ → ℕ → ℕ
doubled zero room buckets = buckets
doubled (suc most) room buckets = if nat_lt (2 * buckets) room then doubled most room (2 * buckets) else buckets

-- the number of buckets for so many entries: as many doublings as there are entries are more than enough
abbrev pub buckets_for : ℕ → ℕ → ℕ
buckets_for room buckets = doubled room room buckets

-- the least time of some entries, and this one
abbrev pub least_time : ℕ → List Entry → ℕ
least_time time es = fold (λ t e. min t e.message.time) time es

-- the greatest time of some entries, and this one
abbrev pub greatest_time : ℕ → List Entry → ℕ
greatest_time time es = fold (λ t e. max t e.message.time) time es

-- the width for some entries: the span of their times divided by their number, and at least 1
abbrev pub width_for : List Entry → ℕ
width_for [] = 1
width_for (e ∷ es) = max ((greatest_time e.message.time (e ∷ es) - least_time e.message.time (e ∷ es)) / length (e ∷ es)) 1

-- the width for some entries where the number of buckets was doubled, else the width as it was
abbrev pub new_width : ℕ → ℕ → ℕ → List Entry → ℕ
new_width room buckets width es = if buckets_for room buckets == buckets then width else width_for es

-- no entry's time, divided by the width, is below this day
abbrev pub IsFromDay : ℕ → ℕ → List Entry → Type 0
IsFromDay width day es = AllByRecursion (λ m. day ≤ m.time / width) (messages_of es)

-- there is one proof of that at most
pub IsFromDay-prop : (width day : ℕ) (es : List Entry) → IsProp (IsFromDay width day es)
IsFromDay-prop width day es = AllByRecursion-prop (λ m. day ≤ m.time / width) (λ m. le_prop) (messages_of es)
