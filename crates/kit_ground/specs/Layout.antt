-- Where the words stand on a floor of n federates with b buffers each.
use Rattle.std.specs.Prelude.{ℕ, ◌+◌, ◌*◌, ◌/◌, nat_lt, Bool, true, ◌&&◌, if◌then◌else◌, List, slice_index}
use Rattle.kit_ground.specs.declared.address.Address.{Address}
use Rattle.kit_ground.specs.declared.address.Address.TheVariants.{Register, Stop, Mail, Count, Part}
use Rattle.kit_ground.specs.declared.address.Reg.{Reg}
use Rattle.kit_ground.specs.Memory.{Memory}

-- the register with a federate's clock
abbrev pub clock_of : ℕ → Reg
clock_of owner = record { owner = owner; slot = 12 }

-- how many mail words there are for each pair of federates: one for every 64 buffers
unfoldable pub mail_words : ℕ → ℕ
mail_words b = (b + 63) / 64

-- how many words there are: registers, the stop word, mail, counts, contents
abbrev pub size_of : ℕ → ℕ → ℕ
size_of n b = 13 * n + 1 + mail_words b * (n * n) + b * n + b * n * 2

-- whether there is such a word
abbrev pub is_there : ℕ → ℕ → Address → Bool
is_there n b (Register r) = nat_lt r.owner n && nat_lt r.slot 13
is_there n b Stop = true
is_there n b (Mail j i w) = nat_lt j n && nat_lt i n && nat_lt w (mail_words b)
is_there n b (Count i k) = nat_lt i n && nat_lt k b
is_there n b (Part i k p) = nat_lt i n && nat_lt k b && nat_lt p 2

unfoldable pub index_of : ℕ → ℕ → Address → ℕ
index_of n b (Register r) = 13 * r.owner + r.slot
index_of n b Stop = 13 * n
index_of n b (Mail j i w) = 13 * n + 1 + ((j * n + i) * mail_words b + w)
index_of n b (Count i k) = 13 * n + 1 + mail_words b * (n * n) + (i * b + k)
index_of n b (Part i k p) = 13 * n + 1 + mail_words b * (n * n) + b * n + ((i * b + k) * 2 + p)

-- the memory that a list of words is
abbrev pub memory_of : ℕ → ℕ → List ℕ → Memory
memory_of n b words a = if is_there n b a then slice_index words (index_of n b a) else 0
