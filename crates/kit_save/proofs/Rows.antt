-- Numbers, and lists of numbers, come back.
use Rattle.std.proofs.Common.{◌≡◌, ℕ, ◌≤◌, List, length, map, true, false, Some, Ok, nat_lt, nat_le, refl, arith}
use Rattle.std.specs.List.{All}
use Rattle.std.proofs.lemmas.List.{length-map}
use Rattle.serde_json.specs.Data.{Data}
use Rattle.serde_json.specs.Find.{get}
use Rattle.kit_walk.specs.Places.{member, number, list, list_of}
use Rattle.kit_save.specs.Values.{count, list_value}
use Rattle.kit_save.specs.CutValues.{numbers_value}
use Rattle.kit_restore.specs.CutWalk.{number_in, number_step, numbers_of}
use Rattle.kit_save.proofs.Lists.{data_of_items, list_read, each_by_itself}

-- a number at a key
pub number_taken : (key : List ℕ) (low high : ℕ) (d : Data) (n : ℕ) → get key d ≡ Some (count n) → low ≤ n → n ≤ high → number key low high d ≡ Ok n
unfolding number member
number_taken key low high d n e lo hi =
    let above : nat_lt n low ≡ false = search arith in
    let below : nat_lt high n ≡ false = search arith in
    rw (e, above, below) refl

-- a list at a key
pub list_taken : {X : Type 0} (key : List ℕ) (low high : ℕ) (d : Data) (value : X → Data) (xs : List X) → get key d ≡ Some (list_value value xs) → low ≤ length xs → length xs ≤ high → list key low high d ≡ Ok (map value xs)
unfolding list list_of member
list_taken key low high d value xs e lo hi =
    let above : nat_lt (length xs) low ≡ false = search arith in
    let below : nat_lt high (length xs) ≡ false = search arith in
    rw (e, data_of_items (map value xs), length-map xs value, above, below) refl

-- a number that stands by itself
number_in_taken : (low high n : ℕ) → low ≤ n → n ≤ high → number_in low high (count n) ≡ Ok n
unfolding number_in
number_in_taken low high n lo hi =
    let above : nat_le low n ≡ true = search arith in
    let below : nat_le n high ≡ true = search arith in
    rw (above, below) refl

-- a number is in a range
abbrev pub IsWithin : ℕ → ℕ → ℕ → Type 0
IsWithin low high n = (low ≤ n) × (n ≤ high)

-- a list of so many numbers
pub numbers_taken : (key : List ℕ) (size low high : ℕ) (d : Data) (ns : List ℕ) → get key d ≡ Some (numbers_value ns) → length ns ≡ size → All (IsWithin low high) ns → numbers_of key size low high d ≡ Ok ns
unfolding numbers_of number_step
numbers_taken key size low high d ns e long h =
    list_read (list key size size d) (number_step key low high) count ns
    (list_taken key size size d count ns e (omega arith) (omega arith))
    (each_by_itself key (number_in low high) count (IsWithin low high) ns (λ n k. number_in_taken low high n k.0 k.1) h)
