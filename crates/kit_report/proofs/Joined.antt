-- The parts of a line, written one after another.
use Rattle.std.proofs.Common.{◌≡◌, ℕ, List, ◌++◌, arith}
use Rattle.std.proofs.lemmas.Grind.{common_steps}

-- a line is its front, its origin and its numbers
pub joined : (out d sp n got g s h num v : List ℕ) → out ++ d ++ sp ++ n ++ got ++ g ++ sp ++ s ++ h ++ num ++ v ≡ out ++ (d ++ sp ++ n ++ got ++ (g ++ sp ++ s ++ h ++ num) ++ v)
joined out d sp n got g s h num v = grind (arith, common_steps)

-- what is written from its end is what is read from its start
pub turned : (t e v n : List ℕ) → t ++ (e ++ (v ++ n)) ≡ t ++ e ++ v ++ n
turned t e v n = grind (arith, common_steps)
