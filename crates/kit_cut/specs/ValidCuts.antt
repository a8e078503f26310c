-- When a cut is one from which a simulation can be resumed. Its types say that there are 8 values of variables, and that values are below 2 ^ 32.
use Rattle.std.specs.Prelude.{◌≡◌, ◌≢◌, ℕ, ◌+◌, ◌<◌, ◌≤◌, IsTrue, List, [], length, slice_index, slice_index_or, IsSome, IsSomeAnd, Option, Some, None, All, AllPairs}
use Rattle.kit_base.specs.declared.message.Message.{Message}
use Rattle.kit_base.specs.Order.{is_before}
use Rattle.kit_rules.specs.declared.table.Wish.TheVariants as wish
use Rattle.kit_rules.specs.declared.table.Request.{Request}
use Rattle.kit_rules.specs.declared.table.Request.TheVariants as request
use Rattle.kit_rules.specs.Parts.{Parts, federate_at}
use Rattle.kit_rules.specs.Federation.{IsWish}
use Rattle.kit_rules.specs.Step.{is_event}
use Rattle.kit_rules.specs.Delivery.{has_bit, receivers_of}
use Rattle.kit_rules.specs.declared.own.Own.{Own}
use Rattle.kit_cut.specs.Reach.{is_in_reach}
use Rattle.kit_cut.specs.declared.cut.Standing.{Standing}
use Rattle.kit_cut.specs.declared.cut.Cut.{Cut}

-- a request is for a time after the cut, to the end
abbrev pub IsAhead : ℕ → ℕ → Request → Type 0
IsAhead at end (request.Tar t) = (at + 1 ≤ t) × (t ≤ end)
IsAhead at end (request.Ner t) = (at + 1 ≤ t) × (t ≤ end)

-- the earliest time of a message that is pending: after now, and after the cut where the request is for the next event
abbrev pub earliest : ℕ → ℕ → Request → ℕ
earliest at now (request.Tar t) = now + 1
earliest at now (request.Ner t) = at + 1

-- an own Event, below the next number
pub record IsOwn (p : Parts) (i now next : ℕ) (o : Own) : Type 0 where
  pub low : 1 ≤ o.number
  pub high : o.number < next
  pub reach : IsTrue (is_in_reach p i now o)
  pub group : o.group < length p.groups

-- a message that is pending for federate i, where these are the next numbers
pub record IsPendingMessage (p : Parts) (i from : ℕ) (nexts : List ℕ) (m : Message) : Type 0 where
  pub event : IsTrue (is_event m.kind)
  pub low : from ≤ m.time
  pub high : m.time ≤ p.end
  pub sender : m.sender < length p.federates
  pub regulating : IsSome (federate_at p m.sender).lookahead
  pub number : m.number < slice_index nexts m.sender
  pub group : m.group < length p.groups
  pub receives : IsTrue (has_bit (receivers_of p m.sender m.group) i)

-- two messages have not one number of one sender
abbrev pub NumbersDiffer : Message → Message → Type 0
NumbersDiffer a b = a.sender ≡ b.sender → a.number ≢ b.number

-- a sender and a number there can be
abbrev pub IsNumbered : Message → Type 0
IsNumbered m = (m.sender < 16) × (m.number < 16385)

-- the own Events of federate i, with rising numbers
pub record AreOwn (p : Parts) (i now next : ℕ) (own : List Own) : Type 0 where
  pub few : length own ≤ 16384
  pub rise : AllPairs (λ (a b : Own). a.number < b.number) own
  pub each : All (IsOwn p i now next) own

-- what may be pending for federate i by its request; without one it is nothing
pub record AreTimely (p : Parts) (at : ℕ) (nexts : List ℕ) (i now : ℕ) (request : Option Request) (ms : List Message) : Type 0 where
  pub asked : (r : Request) → request ≡ Some r → All (IsPendingMessage p i (earliest at now r) nexts) ms
  pub unasked : request ≡ None → ms ≡ []

-- what is pending for federate i, in order
pub record ArePending (p : Parts) (at : ℕ) (nexts : List ℕ) (i now : ℕ) (request : Option Request) (ms : List Message) : Type 0 where
  pub few : length ms ≤ 262144
  pub rise : AllPairs (λ a b. IsTrue (is_before a b)) ms
  pub differ : AllPairs NumbersDiffer ms
  pub each : AreTimely p at nexts i now request ms

-- a request exactly below the end, for a time after the cut
pub record IsAsking (at end now : ℕ) (request : Option Request) : Type 0 where
  pub below : now < end → IsSomeAnd request (IsAhead at end)
  pub over : end ≤ now → request ≡ None

-- what a cut keeps of federate i
pub record IsStanding (p : Parts) (at : ℕ) (nexts : List ℕ) (i : ℕ) (s : Standing) : Type 0 where
  pub now : s.now ≤ at
  pub unused : (k : ℕ) → length (federate_at p i).vars ≤ k → slice_index s.vars k ≡ 0
  pub wish : IsWish s.wish
  pub asks : IsAsking at p.end s.now s.request
  pub own : AreOwn p i s.now (slice_index nexts i) s.own
  pub pending : ArePending p at nexts i s.now s.request s.pending

-- what stands for a federate past the last
abbrev pub nobody_stands : Standing
nobody_stands = record { now = 0; vars = []; wish = wish.Tar 0; request = None; own = []; pending = [] }

-- what a cut keeps of the federate of a number
abbrev pub standing_at : Cut → ℕ → Standing
standing_at c i = slice_index_or c.federates i nobody_stands

-- the number that a federate's next message gets: one past the last where it has none left
abbrev pub IsNextNumber : ℕ → Type 0
IsNextNumber n = (1 ≤ n) × (n ≤ 16385)

-- a cut of a federation
pub record IsValidCut (p : Parts) (c : Cut) : Type 0 where
  pub at : c.at ≤ p.end
  pub each_next : length c.next ≡ length p.federates
  pub nexts : All IsNextNumber c.next
  pub each : length c.federates ≡ length p.federates
  pub federates : (i : ℕ) → i < length p.federates → IsStanding p c.at c.next i (standing_at c i)
