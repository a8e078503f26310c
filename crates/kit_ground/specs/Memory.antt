-- The words of a floor, by what they are for.
use Rattle.std.specs.Prelude.{ℕ, ◌==◌, Bool, true, false, ◌&&◌, if◌then◌else◌}
use Rattle.kit_ground.specs.declared.address.Address.{Address}
use Rattle.kit_ground.specs.declared.address.Address.TheVariants.{Register, Stop, Mail, Count, Part}

-- the word at each address
abbrev pub Memory : Type 0
Memory = Address → ℕ

abbrev pub same_address : Address → Address → Bool
same_address (Register a) (Register c) = a.owner == c.owner && a.slot == c.slot
same_address Stop Stop = true
same_address (Mail j i w) (Mail l h v) = j == l && i == h && w == v
same_address (Count i k) (Count h l) = i == h && k == l
same_address (Part i k p) (Part h l q) = i == h && k == l && p == q
same_address _ _ = false

-- the memory in which one word was stored
abbrev pub with_word : Memory → Address → ℕ → Memory
with_word m a v x = if same_address x a then v else m x
