-- The walk of the key cut of a saved file: its places in their order, and the first fault.
use Rattle.std.specs.Prelude.{ℕ, ◌+◌, ◌-◌, ◌^◌, List, [], ◌∷◌, ◌++◌, length, replicate, Bool, true, false, nat_lt, nat_le, ◌==◌, ◌&&◌, not, if◌then◌else◌, slice_index, Option, Some, None, option_and_then, is_some, Ok, codes}
use Rattle.std.specs.List.{list_all, list_any}
use Rattle.serde_json.specs.Data.{Data}
use Rattle.serde_json.specs.Find.{as_number, as_u64, as_array}
use Rattle.kit_base.specs.declared.message.Message.{Message}
use Rattle.kit_base.specs.declared.message.Kind.TheVariants.{Event}
use Rattle.kit_base.specs.Order.{is_before}
use Rattle.kit_rules.specs.declared.table.Wish.{Wish}
use Rattle.kit_rules.specs.declared.table.Request.{Request}
use Rattle.kit_rules.specs.declared.table.Request.TheVariants as request
use Rattle.kit_rules.specs.declared.own.Own.{Own}
use Rattle.kit_rules.specs.Parts.{Parts, federate_at}
use Rattle.kit_rules.specs.Delivery.{has_bit, receivers_of}
use Rattle.kit_walk.specs.declared.fault.FaultKind.TheVariants as kind
use Rattle.kit_walk.specs.Paths.{key_path, item_path, index_path}
use Rattle.kit_walk.specs.Reading.{Answer, ◌>>=◌, fault_at, within, or_fault, guard, each}
use Rattle.kit_walk.specs.Places.{object, has, member, number, list, data_of}
use Rattle.kit_file.specs.Federates.{wish_of}
use Rattle.kit_cut.specs.declared.cut.Standing.{Standing}
use Rattle.kit_cut.specs.declared.cut.Cut.{Cut}
use Rattle.kit_cut.specs.Reach.{is_in_reach}
use Rattle.kit_cut.specs.ValidCuts.{earliest}

-- the value itself is a whole number
abbrev pub whole : Data → Answer ℕ
whole d = or_fault kind.WrongKind [] (option_and_then as_u64 (as_number d))

-- the value itself is a whole number in a range
unfoldable pub number_in : ℕ → ℕ → Data → Answer ℕ
number_in low high d = do
  n ← whole d
  u ← guard (nat_le low n && nat_le n high) kind.OutOfRange []
  Ok n

-- one more number, the i-th of the list at a key
unfoldable pub number_step : List ℕ → ℕ → ℕ → ℕ → List ℕ → Data → Answer (List ℕ)
number_step key low high i done d = within (item_path key i) (number_in low high d) >>= λ n. Ok (done ++ n ∷ [])

-- a list of so many numbers in a range
unfoldable pub numbers_of : List ℕ → ℕ → ℕ → ℕ → Data → Answer (List ℕ)
numbers_of key count low high d = do
  ds ← list key count count d
  each (number_step key low high) 0 [] ds

-- one more number of a row, whatever it is
unfoldable pub row_step : ℕ → List ℕ → Data → Answer (List ℕ)
row_step i done d = within (index_path i) (whole d) >>= λ n. Ok (done ++ n ∷ [])

-- the value itself is a list of so many members
unfoldable pub members_of : ℕ → Data → Answer (List Data)
members_of count d = do
  ds ← or_fault kind.WrongKind [] (as_array d)
  u ← guard (length (data_of ds) == count) kind.OutOfRange []
  Ok (data_of ds)

-- the value itself is a list of so many numbers
unfoldable pub row_of : ℕ → Data → Answer (List ℕ)
row_of count d = do
  ds ← members_of count d
  each row_step 0 [] ds

-- a number of a row that breaks its condition
abbrev pub guard_at : Bool → ℕ → Answer (Unit {0})
guard_at holds k = guard holds kind.OutOfRange (index_path k)

-- number, time, group
abbrev pub own_in : List ℕ → Own
own_in ns = record { number = slice_index ns 0; time = slice_index ns 1; group = slice_index ns 2 }

-- whether the number is greater than those before
abbrev pub has_risen : List Own → Own → Bool
has_risen done o = list_all (λ (b : Own). nat_lt b.number o.number) done

-- an Event of federate i after these, that it may still take back, below its next number
unfoldable pub own_of : Parts → ℕ → ℕ → ℕ → List Own → Data → Answer Own
own_of p i now next done d = do
  ns ← row_of 3 d
  u ← guard_at (has_risen done (own_in ns)) 0
  u ← guard_at (nat_le 1 (own_in ns).number && nat_lt (own_in ns).number next) 0
  u ← guard_at (is_in_reach p i now (own_in ns)) 1
  u ← guard_at (nat_lt (own_in ns).group (length p.groups)) 2
  Ok (own_in ns)

-- one more, the j-th of the list own
unfoldable pub own_step : Parts → ℕ → ℕ → ℕ → ℕ → List Own → Data → Answer (List Own)
own_step p i now next j done d = within (item_path (codes "own") j) (own_of p i now next done d) >>= λ o. Ok (done ++ o ∷ [])

-- how many a federate may have: none, unless it is regulating
abbrev pub most_own : Parts → ℕ → ℕ
most_own p i = if is_some (federate_at p i).lookahead then 16384 else 0

-- the list own of federate i
unfoldable pub owns_of : Parts → ℕ → ℕ → ℕ → Data → Answer (List Own)
owns_of p i now next d = do
  ds ← list (codes "own") 0 (most_own p i) d
  each (own_step p i now next) 0 [] ds

-- time, sender, number, group, value
abbrev pub message_in : List ℕ → Message
message_in ns = record { time = slice_index ns 0; sender = slice_index ns 1; number = slice_index ns 2; kind = Event; group = slice_index ns 3; value = slice_index ns 4 }

-- whether two messages have one number of one sender
abbrev pub is_same_send : Message → Message → Bool
is_same_send m b = b.sender == m.sender && b.number == m.number

-- whether a federate is there, and regulating
abbrev pub is_regulating : Parts → ℕ → Bool
is_regulating p i = nat_lt i (length p.federates) && is_some (federate_at p i).lookahead

-- whether federate i receives what the sender sends to the group, which is there
abbrev pub is_receiver : Parts → ℕ → ℕ → ℕ → Bool
is_receiver p sender group i = nat_lt group (length p.groups) && has_bit (receivers_of p sender group) i

-- an Event after these that is pending for federate i, timed from such a time on, where these are the next numbers
unfoldable pub message_of : Parts → ℕ → ℕ → List ℕ → List Message → Data → Answer Message
message_of p i from nexts done d = do
  ns ← row_of 5 d
  u ← guard (list_all (λ b. is_before b (message_in ns)) done) kind.OutOfRange []
  u ← guard (not (list_any (is_same_send (message_in ns)) done)) kind.Repeated []
  u ← guard_at (nat_le from (message_in ns).time && nat_le (message_in ns).time p.end) 0
  u ← guard_at (is_regulating p (message_in ns).sender) 1
  u ← guard_at (nat_lt (message_in ns).number (slice_index nexts (message_in ns).sender)) 2
  u ← guard_at (is_receiver p (message_in ns).sender (message_in ns).group i) 3
  u ← guard_at (nat_lt (message_in ns).value (2 ^ 32)) 4
  Ok (message_in ns)

-- one more, the j-th of the list pending
unfoldable pub message_step : Parts → ℕ → ℕ → List ℕ → ℕ → List Message → Data → Answer (List Message)
message_step p i from nexts j done d = within (item_path (codes "pending") j) (message_of p i from nexts done d) >>= λ m. Ok (done ++ m ∷ [])

-- the list pending of federate i
unfoldable pub messages_of : Parts → ℕ → ℕ → List ℕ → Data → Answer (List Message)
messages_of p i from nexts d = do
  ds ← list (codes "pending") 0 262144 d
  each (message_step p i from nexts) 0 [] ds

-- the request of an object that has tar, or else ner, for a time after the cut
abbrev pub asked : ℕ → ℕ → Bool → Bool → Data → Answer Request
asked at end true ner r = number (codes "tar") (at + 1) end r >>= λ t. Ok (request.Tar t)
asked at end false true r = number (codes "ner") (at + 1) end r >>= λ t. Ok (request.Ner t)
asked at end false false r = fault_at kind.Missing (key_path (codes "tar"))

-- the request that an object is: TAR if it has both keys
unfoldable pub request_in : ℕ → ℕ → Data → Answer Request
request_in at end r = do
  u ← object r
  asked at end (has (codes "tar") r) (has (codes "ner") r) r

-- the key request
unfoldable pub request_of : ℕ → ℕ → Data → Answer Request
request_of at end d = do
  r ← member (codes "request") d
  within (key_path (codes "request")) (request_in at end r)

-- the request of a federate, which is looked at where its last grant is before the end
abbrev pub request_if : Bool → ℕ → ℕ → Data → Answer (Option Request)
request_if true at end d = request_of at end d >>= λ r. Ok (Some r)
request_if false at end d = Ok None

-- the key wish
unfoldable pub standing_wish_of : Data → Answer Wish
standing_wish_of d = do
  w ← member (codes "wish") d
  within (key_path (codes "wish")) (wish_of w)

-- the earliest time of a pending message by the request; without one nothing is early enough
abbrev pub earliest_by : ℕ → ℕ → Option Request → ℕ
earliest_by at now None = now + 1
earliest_by at now (Some r) = earliest at now r

-- the values of variables, and 0 in the places that are left
abbrev pub with_unused : List ℕ → List ℕ
with_unused vars = vars ++ replicate (8 - length vars) 0

-- what a cut at a time keeps of federate i, where these are the next numbers
unfoldable pub standing_of : Parts → ℕ → List ℕ → ℕ → Data → Answer Standing
standing_of p at nexts i d = do
  u ← object d
  now ← number (codes "now") 0 at d
  vars ← numbers_of (codes "vars") (length (federate_at p i).vars) 0 (2 ^ 32 - 1) d
  wish ← standing_wish_of d
  request ← request_if (nat_lt now p.end) at p.end d
  own ← owns_of p i now (slice_index nexts i) d
  pending ← messages_of p i (earliest_by at now request) nexts d
  Ok (record { now = now; vars = with_unused vars; wish = wish; request = request; own = own; pending = pending })

-- one more federate, the i-th of the list federates
unfoldable pub standing_step : Parts → ℕ → List ℕ → ℕ → List Standing → Data → Answer (List Standing)
standing_step p at nexts i done d = within (item_path (codes "federates") i) (standing_of p at nexts i d) >>= λ s. Ok (done ++ s ∷ [])

-- the list federates
unfoldable pub standings_of : Parts → ℕ → List ℕ → Data → Answer (List Standing)
standings_of p at nexts d = do
  ds ← list (codes "federates") (length p.federates) (length p.federates) d
  each (standing_step p at nexts) 0 [] ds

-- the cut of this federation that a value says
unfoldable pub cut_in : Parts → Data → Answer Cut
cut_in p d = do
  u ← object d
  at ← number (codes "at") 0 p.end d
  next ← numbers_of (codes "next") (length p.federates) 1 16385 d
  federates ← standings_of p at next d
  Ok (record { at = at; next = next; federates = federates })

-- the key cut
unfoldable pub cut_of : Parts → Data → Answer Cut
cut_of p d = do
  v ← member (codes "cut") d
  within (key_path (codes "cut")) (cut_in p v)
