-- Shares of a reduction, together and in a word.
use Rattle.std.specs.Prelude.{◌≡◌, ℕ, ◌+◌, ◌*◌, ◌/◌, ◌%◌, ◌^◌, ◌<◌, min}
use Rattle.kit_model.specs.declared.share.Share.{Share}

-- two shares together: the sums of the counts, and the lesser low
abbrev pub share_sum : Share → Share → Share
share_sum a b = record { out = a.out + b.out; inn = a.inn + b.inn; low = min a.low b.low }

-- a share that has room in a word
pub record FitsWord (share : Share) : Type 0 where
  pub out_fits : share.out < 2 ^ 22
  pub inn_fits : share.inn < 2 ^ 22
  pub low_fits : share.low < 2 ^ 17

-- the counts from bit 0 and bit 22, the low from bit 44, the round modulo 8 from bit 61
abbrev pub share_word : Share → ℕ → ℕ
share_word share round = share.out + share.inn * 2 ^ 22 + share.low * 2 ^ 44 + round % 8 * 2 ^ 61

-- what a word tells, read as a share and its round
abbrev pub share_of : ℕ → Share × ℕ
share_of word = (record { out = word % 2 ^ 22; inn = word / 2 ^ 22 % 2 ^ 22; low = word / 2 ^ 44 % 2 ^ 17 }, word / 2 ^ 61)

-- a word shows a round where its three top bits are the round modulo 8
abbrev pub Shows : ℕ → ℕ → Type 0
Shows word round = word / 2 ^ 61 ≡ round % 8
