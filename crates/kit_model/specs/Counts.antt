-- Mattern's counts of old copies: F. Mattern, 1993, "Efficient algorithms for distributed snapshots and
-- global virtual time approximation". A message carries its sender's colour, which is the number of the
-- run of the reduction to which the sender contributed last; each receiver has a copy of it.
use Rattle.std.specs.Prelude.{ℕ, Bool, nat_lt, List, [], ◌∷◌, ◌++◌, count_by}

-- the colours of the copies that a federate has posted and received, one for each copy, from the start on
pub record Copies : Type 0 where
  pub posted : List ℕ
  pub received : List ℕ

-- whether a copy of this colour is old in a run
abbrev pub is_old : ℕ → ℕ → Bool
is_old run colour = nat_lt colour run

-- how many of these copies are old in a run
abbrev pub old_count : ℕ → List ℕ → ℕ
old_count run colours = count_by (is_old run) colours

-- how many old copies the federate has posted
abbrev pub out_count : ℕ → Copies → ℕ
out_count run copies = old_count run copies.posted

-- how many old copies the federate has received
abbrev pub inn_count : ℕ → Copies → ℕ
inn_count run copies = old_count run copies.received

-- the federate after it posted one more copy of this colour
abbrev pub with_posted : ℕ → Copies → Copies
with_posted colour copies = record copies { posted = copies.posted ++ colour ∷ [] }

-- the federate after it received one more copy of this colour
abbrev pub with_received : ℕ → Copies → Copies
with_received colour copies = record copies { received = copies.received ++ colour ∷ [] }
