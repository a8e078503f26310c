-- Digits, read one after another, and the number that they are.
use Rattle.std.proofs.Common.{◌≡◌, ◌≢◌, ℕ, ◌+◌, ◌-◌, ◌*◌, ◌^◌, ◌<◌, ◌≤◌, Bool, true, false, ◌&&◌, nat_eq, List, [], ◌∷◌, length, get_or, drop, refl, sym, ap, ◌∙◌, arith, rules}
use Rattle.std.specs.Char.{is_ascii_digit}
use Rattle.std.specs.Fmt.{decimal}
use Rattle.std.specs.Str.{all_ascii_digits}
use Rattle.std.proofs.lemmas.Fmt.{decimal-digits_value, digits_decimal, digits_value-decimal, first_decimal}
use Rattle.std.proofs.lemmas.List.{at_drop_more, at_drop_all}
use Rattle.std.proofs.lemmas.Str.Parse.{IsNumeralModel, numerals_by_fold}
use Rattle.std.specs.List.{starts_with}
use Rattle.std.proofs.lemmas.Slice.Eq.{starts_is}
use Rattle.std.proofs.lemmas.Bool.{false≢true}
use Rattle.std.proofs.lemmas.Bool.Decides.{Decides-eqb}
use Rattle.kit_schedule.specs.Schedules.{IsCount}

-- the number that digits are when they follow those of n
abbrev pub read_on : ℕ → List ℕ → ℕ
read_on n [] = n
read_on n (c ∷ cs) = read_on (10 * n + (c - 48)) cs

own : IsNumeralModel (λ ds. all_ascii_digits ds ≡ true) (read_on 0)
own = numerals_by_fold _ (search rules) read_on (search rules)

fits : (n : ℕ) → n ≤ 1000000 → n < 2 ^ 64
fits n h = omega arith

-- the digits of a count are digits, and they are read as it
pub count_digits : (ds : List ℕ) (n : ℕ) → IsCount ds n → all_ascii_digits ds ≡ true
count_digits ds n c = ap all_ascii_digits c.written ∙ digits_decimal own n (fits n c.most)

pub count_value : (ds : List ℕ) (n : ℕ) → IsCount ds n → read_on 0 ds ≡ n
count_value ds n c = ap (read_on 0) c.written ∙ digits_value-decimal own n (fits n c.most)

-- and the first is no 0
pub count_first : (ds : List ℕ) (n : ℕ) → IsCount ds n → get_or ds 0 0 ≡ 48 → ⊥
count_first ds n c e =
    let above : 48 < get_or (decimal n) 0 0 = first_decimal n c.least (fits n c.most) in
    let same : get_or ds 0 0 ≡ get_or (decimal n) 0 0 = ap (λ xs. get_or xs 0 0) c.written in
    absurd (omega arith)

some_digits : (ds : List ℕ) (n : ℕ) → read_on 0 ds ≡ n → 1 ≤ n → 0 < length ds
some_digits [] n e low = let z : 0 ≡ n = e in absurd (omega arith)
some_digits (d ∷ ds) n e low = omega arith

-- digits without a leading 0 are those of the number that they are read as
pub count_is : (ds : List ℕ) (n : ℕ) → all_ascii_digits ds ≡ true → read_on 0 ds ≡ n → 1 ≤ n → n ≤ 1000000 → get_or ds 0 0 ≢ 48 → IsCount ds n
count_is ds n all e low high first =
    let small : read_on 0 ds < 2 ^ 64 = omega arith in
    let whole : decimal (read_on 0 ds) ≡ ds = decimal-digits_value own ds all (some_digits ds n e low) (λ leading. absurd (first leading)) small in
    record { least = low; most = high; written = sym whole ∙ ap decimal e }

-- a leading 0, as `starts_with` finds it
pub zero_first : (ds : List ℕ) (r : Bool) → r ≡ starts_with nat_eq ds (48 ∷ []) → r ≡ true → get_or ds 0 0 ≡ 48
zero_first ds r e found = ap (λ xs. get_or xs 0 0) ((starts_is {E = nat_eq} Decides-eqb ds (48 ∷ []) r e).0 found)

zero_or_digit : (n : ℕ) → n ≡ 0 → n ≡ 48 → ⊥
zero_or_digit n e f = absurd (omega arith)

pub zero_not_first : (ds : List ℕ) (r : Bool) → r ≡ starts_with nat_eq ds (48 ∷ []) → r ≡ false → get_or ds 0 0 ≢ 48
zero_not_first [] r e other at = zero_or_digit (get_or [] 0 0) refl at
zero_not_first (d ∷ ds) r e other at =
    let found : r ≡ true = (starts_is {E = nat_eq} Decides-eqb (d ∷ ds) (48 ∷ []) r e).1 ds (ap (λ x. x ∷ ds) at) in
    absurd (false≢true (sym other ∙ found))

-- READING: what is read of the first i digits, with what is left
pub record IsReading (ds : List ℕ) (i count : ℕ) : Type 0 where
  pub digits : all_ascii_digits ds ≡ all_ascii_digits (drop i ds)
  pub value : read_on 0 ds ≡ read_on count (drop i ds)
  pub most : count ≤ 1000000

pub reading_none : (ds : List ℕ) → IsReading ds 0 0
reading_none ds = record { digits = refl; value = refl; most = omega arith }

next_digit : (ds : List ℕ) (i c : ℕ) → i < length ds → c ≡ get_or ds i 0 → all_ascii_digits (drop i ds) ≡ is_ascii_digit c && all_ascii_digits (drop (i + 1) ds)
next_digit ds i c h e = at_drop_more all_ascii_digits ds i 0 h ∙ ap (λ x. is_ascii_digit x && all_ascii_digits (drop (i + 1) ds)) (sym e)

next_value : (ds : List ℕ) (i count c : ℕ) → i < length ds → c ≡ get_or ds i 0 → read_on count (drop i ds) ≡ read_on (10 * count + (c - 48)) (drop (i + 1) ds)
next_value ds i count c h e = at_drop_more (read_on count) ds i 0 h ∙ ap (λ x. read_on (10 * count + (x - 48)) (drop (i + 1) ds)) (sym e)

pub reading_more : (ds : List ℕ) (i count c : ℕ) → i < length ds → c ≡ get_or ds i 0 → is_ascii_digit c ≡ true → 10 * count + (c - 48) ≤ 1000000 → IsReading ds i count → IsReading ds (i + 1) (10 * count + (c - 48))
reading_more ds i count c h e digit small r = record {
  digits = r.digits ∙ next_digit ds i c h e ∙ ap (λ b. b && all_ascii_digits (drop (i + 1) ds)) digit;
  value = r.value ∙ next_value ds i count c h e;
  most = small;
}

pub reading_stops : (ds : List ℕ) (i count c : ℕ) → i < length ds → c ≡ get_or ds i 0 → is_ascii_digit c ≡ false → IsReading ds i count → all_ascii_digits ds ≡ false
reading_stops ds i count c h e other r = r.digits ∙ next_digit ds i c h e ∙ ap (λ b. b && all_ascii_digits (drop (i + 1) ds)) other

read_on-le : (n : ℕ) (cs : List ℕ) → n ≤ read_on n cs
read_on-le n [] = omega arith
read_on-le n (c ∷ cs) = let more : 10 * n + (c - 48) ≤ read_on (10 * n + (c - 48)) cs = read_on-le (10 * n + (c - 48)) cs in omega arith

pub reading_beyond : (ds : List ℕ) (i count c : ℕ) → i < length ds → c ≡ get_or ds i 0 → 1000000 < 10 * count + (c - 48) → IsReading ds i count → 1000000 < read_on 0 ds
reading_beyond ds i count c h e large r =
    let same : read_on 0 ds ≡ read_on (10 * count + (c - 48)) (drop (i + 1) ds) = r.value ∙ next_value ds i count c h e in
    let above : 10 * count + (c - 48) ≤ read_on (10 * count + (c - 48)) (drop (i + 1) ds) = read_on-le (10 * count + (c - 48)) (drop (i + 1) ds) in
    omega arith

pub reading_all : (ds : List ℕ) (i count : ℕ) → length ds ≤ i → IsReading ds i count → (all_ascii_digits ds ≡ true) × (read_on 0 ds ≡ count)
reading_all ds i count h r = (r.digits ∙ at_drop_all all_ascii_digits ds i h, r.value ∙ at_drop_all (read_on count) ds i h)
