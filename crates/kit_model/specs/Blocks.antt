-- The blocks of a butterfly: R. M. Fujimoto, 2000, "Parallel and Distributed Simulation Systems". At each
-- stage a federate below the width exchanges with the one whose number differs in one bit. Outer federates,
-- those from the width on, give their shares to the federate that is the width below them.
use Rattle.std.specs.Prelude.{ℕ, zero, suc, ◌+◌, ◌-◌, ◌/◌, ◌^◌, Bool, ◌==◌, ◌&&◌, nat_lt, if◌then◌else◌, min, bit_xor, List, filter, fold, sum_by}
use Rattle.std.specs.List.{range_with_len}
use Rattle.kit_model.specs.declared.share.Share.{Share}

-- how often n can be halved before it is below 2, counted up to a limit
abbrev pub halvings : ℕ → ℕ → ℕ
halvings zero n = 0
halvings (suc limit) n = if nat_lt n 2 then 0 else 1 + halvings limit (n / 2)

-- how many stages n federates take: the exponent of the greatest power of two that is not above n
unfoldable pub stages : ℕ → ℕ
stages n = halvings n n

-- that power of two
abbrev pub width : ℕ → ℕ
width n = 2 ^ stages n

-- the federate below the width that stands for this one: itself, or that which takes an outer one's share
abbrev pub place_of : ℕ → ℕ → ℕ
place_of n y = if nat_lt y (width n) then y else y - width n

-- the federate with which x exchanges at a stage
abbrev pub partner_of : ℕ → ℕ → ℕ
partner_of stage x = bit_xor x (2 ^ stage)

-- whether y is in the block of x at a stage: its place agrees with x in all bits from the stage on
abbrev pub in_block : ℕ → ℕ → ℕ → ℕ → Bool
in_block n stage x y = nat_lt y n && (place_of n y / 2 ^ stage == x / 2 ^ stage)

-- all federates, in ascending order
abbrev pub everybody : ℕ → List ℕ
everybody n = range_with_len 0 n

-- the block of x at a stage, in ascending order
abbrev pub block : ℕ → ℕ → ℕ → List ℕ
block n stage x = filter (in_block n stage x) (everybody n)

-- the least low of these federates, beginning with that of one of them
abbrev pub least_low : (ℕ → Share) → ℕ → List ℕ → ℕ
least_low share one ys = fold (λ low y. min low (share y).low) (share one).low ys

-- the shares of these federates together, of whom `one` is one: the sums of the counts, and the least low
abbrev pub share_sum_over : (ℕ → Share) → ℕ → List ℕ → Share
share_sum_over share one ys = record { out = sum_by (λ y. (share y).out) ys; inn = sum_by (λ y. (share y).inn) ys; low = least_low share one ys }

-- the value of x at a stage: the contributions of its block together
abbrev pub stage_value : ℕ → (ℕ → Share) → ℕ → ℕ → Share
stage_value n share stage x = share_sum_over share x (block n stage x)

-- the result of a round: all contributions together
abbrev pub round_result : ℕ → (ℕ → Share) → Share
round_result n share = share_sum_over share 0 (everybody n)
