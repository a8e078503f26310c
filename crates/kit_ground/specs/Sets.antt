-- The three sets of federates of each buffer: to be posted, posted, and holding. Its count is the number of those in them.
use Rattle.std.specs.Prelude.{◌≡◌, ℕ, zero, suc, ◌+◌, ◌*◌, ◌/◌, ◌%◌, ◌^◌, ◌<◌, ◌≤◌, true, List, [], length, slice_index, slice_index_or}
use Rattle.std.specs.Int.{bit_at}
use Rattle.kit_ground.specs.declared.address.Address.TheVariants.{Mail, Count, Part}
use Rattle.kit_ground.specs.declared.place.Buffer.{Buffer}
use Rattle.kit_ground.specs.declared.place.SeatBuffers.{SeatBuffers}
use Rattle.kit_ground.specs.Memory.{Memory}
use Rattle.kit_ground.specs.Steps.{buffer_of, part_of}

abbrev pub sum_to : (ℕ → ℕ) → ℕ → ℕ
sum_to f zero = 0
sum_to f (suc n) = sum_to f n + f n

abbrev pub no_buffers : SeatBuffers
no_buffers = record { buffers = []; holds = [] }

abbrev pub stock_at : List SeatBuffers → ℕ → SeatBuffers
stock_at stocks i = slice_index_or stocks i no_buffers

module _ (m : Memory) (stocks : List SeatBuffers) where
  abbrev pub buffer_at : ℕ → ℕ → Buffer
  buffer_at i k = buffer_of (stock_at stocks i) k

  -- 1 where the federate j is in the set, for the buffer k of i, otherwise 0
  abbrev pub to_be_posted : ℕ → ℕ → ℕ → ℕ
  to_be_posted i k j = bit_at (buffer_at i k).to_post j

  abbrev pub posted : ℕ → ℕ → ℕ → ℕ
  posted i k j = bit_at (m (Mail j i (k / 64))) (k % 64)

  abbrev pub holding : ℕ → ℕ → ℕ → ℕ
  holding i k j = bit_at (slice_index (stock_at stocks j).holds i) k

  -- in how many of the three sets it is
  unfoldable pub due : ℕ → ℕ → ℕ → ℕ
  due i k j = to_be_posted i k j + posted i k j + holding i k j

  -- n federates with b buffers each
  pub record Pool (n b : ℕ) : Type 0 where
    pub seats : length stocks ≡ n
    pub sized : (i : ℕ) → i < n → (length (stock_at stocks i).buffers ≡ b) × (length (stock_at stocks i).holds ≡ n)
    pub counted : (i k : ℕ) → i < n → k < b → m (Count i k) ≡ sum_to (due i k) n
    -- the sets are disjoint, and the owner is in none
    pub once : (i k j : ℕ) → i < n → k < b → j < n → due i k j ≤ 1
    pub others : (i k : ℕ) → i < n → k < b → due i k i ≡ 0
    -- a buffer that was seen free counts nobody
    pub free : (i k : ℕ) → i < n → k < b → (buffer_at i k).free ≡ true → m (Count i k) ≡ 0
    -- the content words are those that the owner last wrote
    pub content : (i k p : ℕ) → i < n → k < b → p < 2 → m (Part i k p) ≡ part_of p (buffer_at i k)
    -- each bit in the mail is of a buffer that there is
    pub narrow : (j i w k : ℕ) → j < n → i < n → bit_at (m (Mail j i w)) k ≡ 1 → (k < 64) × (64 * w + k < b)
    -- what a seat holds are buffers that there are, and what it is still to post is for federates that there are
    pub held : (j i : ℕ) → j < n → i < n → slice_index (stock_at stocks j).holds i < 2 ^ b
    pub owed : (i k : ℕ) → i < n → k < b → (buffer_at i k).to_post < 2 ^ n
