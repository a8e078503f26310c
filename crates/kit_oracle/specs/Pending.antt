-- A federate's undelivered messages, in the order of their keys.
use Rattle.std.specs.Prelude.{◌≡◌, ◌<◌, ◌≤◌, true, false, length, slice_index_or, ℕ, nat_le, ◌==◌, Bool, not, ◌&&◌, if◌then◌else◌, List, [], ◌∷◌, filter, Option, Some, None}
use Rattle.std.specs.List.{AllByRecursion}
use Rattle.std.specs.List.Sorted.{IsStrictlySortedBy}
use Rattle.std.specs.Map.{keys_of}
use Rattle.std.specs.Ordering.{nat_cmp, is_lt, ordering_then, match_ordering}
use Rattle.std.specs.declared.cmp.Ordering.{Ordering}
use Rattle.kit_base.specs.declared.message.Message.{Message}
use Rattle.kit_base.specs.Order.{key_cmp}
use Rattle.kit_rules.specs.Step.{is_event}
use Rattle.kit_rules.specs.Delivery.{has_bit}
use Rattle.kit_oracle.specs.declared.pending.Key.{Key}

abbrev pub compare_keys : Key → Key → Ordering
compare_keys a b = ordering_then (nat_cmp a.time b.time) (ordering_then (nat_cmp a.sender b.sender) (nat_cmp a.number b.number))

abbrev pub key_of : Message → Key
key_of m = record { time = m.time; sender = m.sender; number = m.number }

-- a message enters at its place, and takes the place of one with its key
abbrev pub queue_with : Message → List Message → List Message
queue_with m [] = m ∷ []
queue_with m (x ∷ xs) = match_ordering (key_cmp m x) (m ∷ x ∷ xs) (m ∷ xs) (x ∷ queue_with m xs)

-- those at the front that are timed d or less
abbrev pub front_until : ℕ → List Message → List Message
front_until d [] = []
front_until d (m ∷ ms) = if nat_le m.time d then m ∷ front_until d ms else []

-- those behind them
abbrev pub rest_after : ℕ → List Message → List Message
rest_after d [] = []
rest_after d (m ∷ ms) = if nat_le m.time d then rest_after d ms else m ∷ ms

-- the time of the first message, if any is there
abbrev pub first_time : List Message → Option ℕ
first_time [] = None
first_time (m ∷ ms) = Some m.time

-- whether a message has this key
abbrev pub has_key : ℕ → ℕ → ℕ → Message → Bool
has_key time sender number x = time == x.time && (sender == x.sender && number == x.number)

-- those that have not this key
abbrev pub without_key : ℕ → ℕ → ℕ → List Message → List Message
without_key time sender number q = filter (λ x. not (has_key time sender number x)) q

-- federate j's queue after one more message was sent to these members
abbrev pub queue_after_message : ℕ → ℕ → Message → List Message → List Message
queue_after_message mask j m q = if is_event m.kind then (if has_bit mask j then queue_with m q else q) else without_key m.time m.sender m.value q

-- each message stands under its own key
abbrev pub AreKeyed : List (Key × Message) → Type 0
AreKeyed es = AllByRecursion (λ (e : Key × Message). e.0 ≡ key_of e.1) es

-- and the keys ascend
pub record IsByKey (es : List (Key × Message)) : Type 0 where
  pub keyed : AreKeyed es
  pub ordered : IsStrictlySortedBy compare_keys (keys_of es)

-- a key's place in a row is between the messages that come before it and the others
pub record IsPlace (k : Key) (xs : List Message) (i : ℕ) : Type 0 where
  pub within : i ≤ length xs
  pub before : (j : ℕ) (d : Message) → j < i → is_lt (compare_keys (key_of (slice_index_or xs j d)) k) ≡ true
  pub behind : (d : Message) → i < length xs → is_lt (compare_keys (key_of (slice_index_or xs i d)) k) ≡ false

-- whether the message at a place has this key
pub record IsKeyAt (k : Key) (xs : List Message) (i : ℕ) (found : Bool) : Type 0 where
  pub inside : found ≡ true → i < length xs
  pub there : (d : Message) → i < length xs → has_key k.time k.sender k.number (slice_index_or xs i d) ≡ found
