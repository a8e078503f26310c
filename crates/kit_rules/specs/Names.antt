-- The form of names: as a test, and as what the test tells.
use Rattle.std.specs.Prelude.{◌≡◌, ◌⊎◌, ◌↔◌, ℕ, ◌≤◌, List, length, Bool, nat_le, ◌&&◌, ◌||◌, ◌==◌, IsTrue, All}
use Rattle.std.specs.List.{list_all}
use Rattle.kit_rules.specs.Limits.{most_name_bytes}

-- a letter, a digit, _ or -
abbrev pub IsNameByte : ℕ → Type 0
IsNameByte b = ((97 ≤ b) × (b ≤ 122)) ⊎ ((65 ≤ b) × (b ≤ 90)) ⊎ ((48 ≤ b) × (b ≤ 57)) ⊎ (b ≡ 95) ⊎ (b ≡ 45)

-- one such byte or more, and not too many
pub record IsName (name : List ℕ) : Type 0 where
  pub some : 1 ≤ length name
  pub short : length name ≤ most_name_bytes
  pub bytes : All IsNameByte name

-- whether a byte is a letter, a digit, _ or -
abbrev pub is_name_byte : ℕ → Bool
is_name_byte b = (nat_le 97 b && nat_le b 122) || (nat_le 65 b && nat_le b 90) || (nat_le 48 b && nat_le b 57) || (b == 95) || (b == 45)

-- whether bytes have the form of a name
abbrev pub is_name : List ℕ → Bool
is_name s = nat_le 1 (length s) && nat_le (length s) most_name_bytes && list_all is_name_byte s

-- the test passes exactly the names
abbrev pub NamesAreTested : Type 0
NamesAreTested = (s : List ℕ) → IsTrue (is_name s) ↔ IsName s
