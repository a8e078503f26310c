-- Copies on their way. A channel has no order: of each stamp, as many copies are on their way as were
-- posted more often than received.
use Rattle.std.specs.Prelude.{◌==◌, ◌&&◌, ℕ, ◌<◌, ◌≤◌, Bool, if◌then◌else◌, List, [], ◌∷◌, All, map, filter, count_by, sum_by}
use Rattle.kit_model.specs.Blocks.{everybody}
use Rattle.kit_rounds.specs.Ledgers.{Stamp, Copy, Ledger}

abbrev pub same_stamp : Stamp → Stamp → Bool
same_stamp s t = s.colour == t.colour && s.time == t.time

-- whether a copy has this peer and this stamp
abbrev pub is_copy : ℕ → Stamp → Copy → Bool
is_copy peer s c = c.peer == peer && same_stamp c.stamp s

-- how many copies with this stamp i posted to j
abbrev pub posts_of : (ℕ → Ledger) → ℕ → ℕ → Stamp → ℕ
posts_of ledgers i j s = count_by (is_copy j s) (ledgers i).posted

-- how many copies with this stamp j received from i
abbrev pub receipts_of : (ℕ → Ledger) → ℕ → ℕ → Stamp → ℕ
receipts_of ledgers i j s = count_by (is_copy i s) (ledgers j).received

-- the channel from i to j: what was received was posted
abbrev pub Channel : (ℕ → Ledger) → ℕ → ℕ → Type 0
Channel ledgers i j = (s : Stamp) → receipts_of ledgers i j s ≤ posts_of ledgers i j s

-- a copy with this stamp is on its way from i to j
abbrev pub IsUnreceived : (ℕ → Ledger) → ℕ → ℕ → Stamp → Type 0
IsUnreceived ledgers i j s = receipts_of ledgers i j s < posts_of ledgers i j s

pub record Channels (n : ℕ) (ledgers : ℕ → Ledger) : Type 0 where
  pub posted : (i : ℕ) → i < n → All (λ c. c.peer < n) (ledgers i).posted
  pub received : (j : ℕ) → j < n → All (λ c. c.peer < n) (ledgers j).received
  pub each : (i j : ℕ) → i < n → j < n → Channel ledgers i j

-- the stamps of the copies with this peer
abbrev pub stamps_with : ℕ → List Copy → List Stamp
stamps_with peer cs = map (λ (c : Copy). c.stamp) (filter (λ c. c.peer == peer) cs)

-- the list without the first of these stamps
abbrev pub take_out : Stamp → List Stamp → List Stamp
take_out s [] = []
take_out s (t ∷ ts) = if same_stamp t s then ts else t ∷ take_out s ts

-- the list without one for each of these stamps
abbrev pub take_out_all : List Stamp → List Stamp → List Stamp
take_out_all [] ts = ts
take_out_all (s ∷ ss) ts = take_out_all ss (take_out s ts)

-- the stamps of the copies that are on their way from i to j
abbrev pub on_way : (ℕ → Ledger) → ℕ → ℕ → List Stamp
on_way ledgers i j = take_out_all (stamps_with i (ledgers j).received) (stamps_with j (ledgers i).posted)

-- how many of these copies pass a test of stamps
abbrev pub passing : (Stamp → Bool) → List Copy → ℕ
passing p cs = count_by (λ (c : Copy). p c.stamp) cs

-- how many that pass were posted by anybody, were received by anybody, and are on their way
abbrev pub all_posts : (Stamp → Bool) → ℕ → (ℕ → Ledger) → ℕ
all_posts p n ledgers = sum_by (λ i. passing p (ledgers i).posted) (everybody n)

abbrev pub all_receipts : (Stamp → Bool) → ℕ → (ℕ → Ledger) → ℕ
all_receipts p n ledgers = sum_by (λ j. passing p (ledgers j).received) (everybody n)

abbrev pub all_on_way : (Stamp → Bool) → ℕ → (ℕ → Ledger) → ℕ
all_on_way p n ledgers = sum_by (λ i. sum_by (λ j. count_by p (on_way ledgers i j)) (everybody n)) (everybody n)
