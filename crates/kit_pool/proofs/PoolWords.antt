-- Where the words of a pool stand on a floor: behind the registers and the stop word.
use Rattle.std.proofs.Common.{◌≡◌, ℕ, ◌+◌, ◌*◌, ◌≤◌, length, arith}
use Rattle.std.proofs.lemmas.List.{length-replicate}
use Rattle.kit_ground.specs.declared.address.Address.TheVariants.{Mail, Count, Part}
use Rattle.kit_ground.specs.Layout.{index_of}
use Rattle.kit_pool.specs.Pools.{idle_registers}

pub length-unused : (n : ℕ) → length (idle_registers n) ≡ 13 * n + 1
unfolding idle_registers
length-unused n = length-replicate {A = ℕ} (13 * n + 1) 0

pub mail_behind : (n b j i w : ℕ) → 13 * n + 1 ≤ index_of n b (Mail j i w)
unfolding index_of
mail_behind n b j i w = omega arith

pub count_behind : (n b i k : ℕ) → 13 * n + 1 ≤ index_of n b (Count i k)
unfolding index_of
count_behind n b i k = omega arith

pub part_behind : (n b i k p : ℕ) → 13 * n + 1 ≤ index_of n b (Part i k p)
unfolding index_of
part_behind n b i k p = omega arith
