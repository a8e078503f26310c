-- A mask of 16 bits has no other bit.
use Rattle.std.proofs.Common.{◌≡◌, ℕ, ◌<◌, ◌≤◌, ◌^◌, refl}
use Rattle.std.proofs.lemmas.Nat.Bits.{bit_at_above}
use Rattle.kit_rules.specs.Delivery.{without_bit}

-- a federate past the sixteenth is in no mask
pub without_far : (mask j : ℕ) → mask < 2 ^ 16 → 16 ≤ j → without_bit mask j ≡ mask
without_far mask j small far = rw (bit_at_above mask 16 j small far) refl
