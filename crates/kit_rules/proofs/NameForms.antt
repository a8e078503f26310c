-- The form of names, as a test and as what it tells.
use Rattle.std.proofs.Common.{◌≡◌, ℕ, ◌≤◌, ◌&&◌, nat_le, true, length, arith, rules}
use Rattle.std.specs.List.{list_all}
use Rattle.std.proofs.lemmas.Bool.{and_parts, and_from, leb-true}
use Rattle.std.proofs.lemmas.List.Sums.{AllPass-from_list_all, list_all-from_AllPass}
use Rattle.kit_rules.specs.Limits.{most_name_bytes}
use Rattle.kit_rules.specs.Names.{IsNameByte, is_name_byte, NamesAreTested}

-- what the test of a byte tells
byte_told : (b : ℕ) → is_name_byte b ≡ true → IsNameByte b
byte_told b passes = search (arith, rules)

-- and which bytes pass it
byte_passes : (b : ℕ) → IsNameByte b → is_name_byte b ≡ true
byte_passes b is = search (arith, rules)

pub names_are_tested_law : NamesAreTested
names_are_tested_law s = (
  λ passes.
      let parts = and_parts (nat_le 1 (length s) && nat_le (length s) most_name_bytes) (list_all is_name_byte s) passes in
      let sizes = and_parts (nat_le 1 (length s)) (nat_le (length s) most_name_bytes) parts.0 in
      record {
        some = leb-true 1 (length s) sizes.0;
        short = leb-true (length s) most_name_bytes sizes.1;
        bytes = λ k d lt. byte_told _ (AllPass-from_list_all is_name_byte s parts.1 k d lt);
      },
  λ is.
      let some : 1 ≤ length s = is.some in
      let short : length s ≤ 16 = is.short in
      let low : nat_le 1 (length s) ≡ true = search arith in
      let high : nat_le (length s) most_name_bytes ≡ true = search arith in
      and_from _ _ (and_from _ _ low high) (list_all-from_AllPass is_name_byte s (λ k d lt. byte_passes _ (is.bytes k d lt))),
)
