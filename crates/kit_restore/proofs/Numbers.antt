-- Lists of numbers in a range.
use Rattle.std.proofs.Common.{◌≡◌, ℕ, suc, ◌+◌, ◌≤◌, List, [], length, Result, Ok, Err, IfOk, nat_le, refl, subst, arith}
use Rattle.std.specs.Prelude.{◌&&◌}
use Rattle.std.specs.List.{All}
use Rattle.std.proofs.lemmas.Bool.{and_parts, leb-true}
use Rattle.std.proofs.lemmas.List.Elements.{All-nil, All-push}
use Rattle.serde_json.specs.Data.{Data}
use Rattle.kit_walk.specs.declared.fault.FaultKind.TheVariants as kind
use Rattle.kit_walk.specs.declared.fault.WalkEnd.{WalkEnd}
use Rattle.kit_walk.specs.Agreement.{Gives}
use Rattle.kit_walk.specs.Paths.{item_path}
use Rattle.kit_walk.specs.Reading.{◌>>=◌, guard, each}
use Rattle.kit_walk.specs.Places.{list}
use Rattle.kit_restore.specs.CutWalk.{whole, number_in, number_step, numbers_of}
use Rattle.kit_restore.proofs.Answered.{bind_ok, guarded, gave, gave_same, list_ok, each_kept, appended, one_longer}

-- a number is in a range
abbrev pub IsWithin : ℕ → ℕ → ℕ → Type 0
IsWithin low high n = (low ≤ n) × (n ≤ high)

-- a number that was read is in its range
number_within : (low high : ℕ) (d : Data) (n : ℕ) → number_in low high d ≡ Ok n → IsWithin low high n
unfolding number_in
number_within low high d n e =
    let m = bind_ok (whole d) (λ m. guard (nat_le low m && nat_le m high) kind.OutOfRange [] >>= λ u. gave m) n e in
    let g = guarded (nat_le low m.0 && nat_le m.0 high) kind.OutOfRange [] (λ u. gave m.0) n m.2 in
    let both = and_parts (nat_le low m.0) (nat_le m.0 high) g.0 in
    subst (IsWithin low high) (gave_same m.0 n g.1) (leb-true low m.0 both.0, leb-true m.0 high both.1)

-- so many numbers, each in the range
abbrev pub AreWithin : ℕ → ℕ → ℕ → List ℕ → Type 0
AreWithin low high count ns = All (IsWithin low high) ns × (length ns ≡ count)

-- one more
number_kept : (key : List ℕ) (low high i : ℕ) (done : List ℕ) (d : Data) (t : List ℕ) → AreWithin low high i done → number_step key low high i done d ≡ Ok t → AreWithin low high (suc i) t
unfolding number_step
number_kept key low high i done d t h e =
    let n = appended (item_path key i) (number_in low high d) done t e in
    subst (AreWithin low high (suc i)) n.2 (All-push (IsWithin low high) done n.0 h.0 (number_within low high d n.0 n.1), one_longer done n.0 i h.1)

-- a list of numbers that was read
pub numbers_within : (key : List ℕ) (count low high : ℕ) (d : Data) (ns : List ℕ) → numbers_of key count low high d ≡ Ok ns → AreWithin low high count ns
unfolding numbers_of
numbers_within key count low high d ns e =
    let ds = bind_ok (list key count count d) (λ ds. each (number_step key low high) 0 [] ds) ns e in
    let many = list_ok key count count d ds.0 ds.1 in
    let exact : 0 + length ds.0 ≡ count = omega arith in
    subst (λ n. AreWithin low high n ns) exact (each_kept (AreWithin low high) (number_step key low high) (number_kept key low high) 0 [] ds.0 ns (All-nil (IsWithin low high), refl) ds.2)

-- the same of what a function returned
pub numbers_found : {V : Type 0} (items : V → List ℕ) (key : List ℕ) (count low high : ℕ) (d : Data) (r : Result V WalkEnd) → Gives items r (numbers_of key count low high d)
    → IfOk r (λ v. All (IsWithin low high) (items v)) × IfOk r (λ v. length (items v) ≡ count)
numbers_found items key count low high d (Ok v) gives = numbers_within key count low high d (items v) gives
numbers_found items key count low high d (Err e) gives = (tt, tt)
