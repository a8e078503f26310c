-- The members of a group are two federates.
use Rattle.std.proofs.Common.{◌≡◌, ℕ, ◌<◌, ◌≤◌, ◌^◌, true, nat_lt, refl, arith}
use Rattle.std.specs.List.{range_with_len, list_all}
use Rattle.std.proofs.lemmas.Bool.{ltb-true}
use Rattle.std.proofs.Math.Nat.{pow-le-pow_right}
use Rattle.kit_gen.specs.Generator.{members_of}
use Rattle.kit_gen.proofs.Made.{passes_in}

-- in each ring of 4 to 16 federates, the members of each group are federates
each_mask_fits : list_all (λ n. list_all (λ i. nat_lt (members_of n i) (2 ^ n)) (range_with_len 0 n)) (range_with_len 4 13) ≡ true
each_mask_fits = refl

pub members_fit : (n i : ℕ) → 4 ≤ n → n ≤ 16 → i < n → members_of n i < 2 ^ n
members_fit n i low high at =
    let ring = passes_in (λ m. list_all (λ k. nat_lt (members_of m k) (2 ^ m)) (range_with_len 0 m)) 4 13 n each_mask_fits low (omega (arith, high)) in
    ltb-true (members_of n i) (2 ^ n) (passes_in (λ k. nat_lt (members_of n k) (2 ^ n)) 0 n i ring (omega arith) (omega (arith, at)))

-- so the mask has no more than 16 bits
pub members_are_short : (n i : ℕ) → 4 ≤ n → n ≤ 16 → i < n → members_of n i < 65536
members_are_short n i low high at = omega (arith, members_fit n i low high at, pow-le-pow_right {n = 2} (omega arith) {i = n} {j = 16} high)
