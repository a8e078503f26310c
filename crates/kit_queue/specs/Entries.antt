-- Entries that wait, in the order of their messages.
use Rattle.std.specs.Prelude.{ℕ, Bool, ◌==◌, ◌&&◌, not, nat_lt, nat_le, if◌then◌else◌, List, [], ◌∷◌, map, filter, find, Option, None, Some, is_some, option_map, option_and_then}
use Rattle.std.specs.List.{IsDistinct, IsDistinct-prop}
use Rattle.std.specs.List.Sorted.{IsStrictlySortedBy, IsStrictlySortedBy-prop}
use Rattle.kit_base.specs.Order.{key_cmp, is_before}
use Rattle.kit_base.specs.declared.message.Message.{Message}
use Rattle.kit_queue.specs.declared.entry.Entry.{Entry}

-- the messages of the entries
abbrev pub messages_of : List Entry → List Message
messages_of es = map (λ e. e.message) es

-- whether a message is the one that the sender gave this number
abbrev pub is_numbered : ℕ → ℕ → Message → Bool
is_numbered sender number m = (m.sender == sender) && (m.number == number)

-- whether two messages have the same sender and number
abbrev pub shares_number : Message → Message → Bool
shares_number a b = is_numbered a.sender a.number b

-- each entry's key, which is time, sender and number, is below those after it
abbrev pub IsInOrder : List Entry → Type 0
IsInOrder es = IsStrictlySortedBy key_cmp (messages_of es)

-- no two entries have the same sender and number
abbrev pub AreNumberedApart : List Entry → Type 0
AreNumberedApart es = IsDistinct shares_number (messages_of es)

-- there is one proof of the order at most
pub IsInOrder-prop : (es : List Entry) → IsProp (IsInOrder es)
IsInOrder-prop es = IsStrictlySortedBy-prop key_cmp (messages_of es)

-- and one proof that the numbers are apart
pub AreNumberedApart-prop : (es : List Entry) → IsProp (AreNumberedApart es)
AreNumberedApart-prop es = IsDistinct-prop shares_number (messages_of es)

-- the entry put before those that come after it
abbrev pub put_entry : Entry → List Entry → List Entry
put_entry e [] = e ∷ []
put_entry e (x ∷ xs) = if is_before e.message x.message then e ∷ x ∷ xs else x ∷ put_entry e xs

-- the entry of this sender and number, if there is one
abbrev pub entry_of : ℕ → ℕ → List Entry → Option Entry
entry_of sender number es = find (λ e. is_numbered sender number e.message) es

-- the list without the entry of this sender and number
abbrev pub entries_without : ℕ → ℕ → List Entry → List Entry
entries_without sender number es = filter (λ e. not (is_numbered sender number e.message)) es

-- whether an entry is timed below `below` and has a buffer
abbrev pub is_settleable : ℕ → Entry → Bool
is_settleable below e = nat_lt e.message.time below && is_some e.buffer

-- the entry with its buffer given up
abbrev pub without_buffer : Entry → Entry
without_buffer e = record e { buffer = None }

-- the list in which the first entry that can be settled is settled
abbrev pub with_first_settled : ℕ → List Entry → List Entry
with_first_settled below [] = []
with_first_settled below (e ∷ es) = if is_settleable below e then without_buffer e ∷ es else e ∷ with_first_settled below es

-- an entry's sender with the buffer that it has
abbrev pub buffer_of : Entry → Option (ℕ × ℕ)
buffer_of e = option_map (λ b. (e.message.sender, b)) e.buffer

-- the sender and the buffer of the first entry that can be settled
abbrev pub first_buffer : ℕ → List Entry → Option (ℕ × ℕ)
first_buffer below es = option_and_then buffer_of (find (is_settleable below) es)

-- the first entry's time
abbrev pub first_time : List Entry → Option ℕ
first_time [] = None
first_time (e ∷ es) = Some e.message.time

-- the first entry, if it is timed `time` or less
abbrev pub first_due : ℕ → List Entry → Option Entry
first_due time [] = None
first_due time (e ∷ es) = if nat_le e.message.time time then Some e else None
