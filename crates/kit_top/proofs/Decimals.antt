-- Digits, read one after another, and the number that they are.
use Rattle.std.proofs.Common.{◌≡◌, ◌⊎◌, inl, inr, ℕ, zero, suc, ◌+◌, ◌-◌, ◌*◌, ◌^◌, ◌<◌, ◌≤◌, true, false, ◌&&◌, List, [], ◌∷◌, length, get_or, drop, refl, sym, ap, ◌∙◌, arith, rules}
use Rattle.std.specs.Char.{is_ascii_digit}
use Rattle.std.specs.Fmt.{decimal, digits}
use Rattle.std.specs.Str.{all_ascii_digits}
use Rattle.std.proofs.lemmas.Fmt.{decimal-digits_value, digits_decimal, digits_value-decimal, first_decimal}
use Rattle.std.proofs.lemmas.List.{at_drop_more, at_drop_all}
use Rattle.std.proofs.lemmas.Str.Parse.{IsNumeralModel, numerals_by_fold}

-- the number that digits are when they follow those of n
abbrev pub read_on : ℕ → List ℕ → ℕ
read_on n [] = n
read_on n (c ∷ cs) = read_on (10 * n + (c - 48)) cs

own : IsNumeralModel (λ ds. all_ascii_digits ds ≡ true) (read_on 0)
own = numerals_by_fold _ (search rules) read_on (search rules)

-- A NUMBER in decimal digits, of 64 bits
pub record IsWritten (ds : List ℕ) (n : ℕ) : Type 0 where
  pub small : n < 2 ^ 64
  pub written : ds ≡ decimal n

-- its digits are digits, and they are read as it
pub written_digits : (ds : List ℕ) (n : ℕ) → IsWritten ds n → all_ascii_digits ds ≡ true
written_digits ds n w = ap all_ascii_digits w.written ∙ digits_decimal own n w.small

pub written_value : (ds : List ℕ) (n : ℕ) → IsWritten ds n → read_on 0 ds ≡ n
written_value ds n w = ap (read_on 0) w.written ∙ digits_value-decimal own n w.small

zero_or_more : (n : ℕ) → (n ≡ 0) ⊎ (0 < n)
zero_or_more zero = inl refl
zero_or_more (suc n) = inr (omega arith)

zero_written : decimal 0 ≡ 48 ∷ []
unfolding digits
zero_written = refl

-- 0 has one digit, and the first digit of any other number is no 0
pub written_first : (ds : List ℕ) (n : ℕ) → IsWritten ds n → (length ds ≡ 1) ⊎ (48 < get_or ds 0 0)
written_first ds n w =
    elim (zero_or_more n) [
      | inl z ↦ inl (ap length (w.written ∙ ap decimal z ∙ zero_written))
      | inr more ↦ inr (let above : 48 < get_or (decimal n) 0 0 = first_decimal n more w.small in let same : get_or ds 0 0 ≡ get_or (decimal n) 0 0 = ap (λ xs. get_or xs 0 0) w.written in omega arith)
    ]

pub written_some : (ds : List ℕ) (n : ℕ) → IsWritten ds n → 0 < length ds
written_some [] n w = elim (written_first [] n w) [ inl one ↦ absurd (let z : 0 ≡ 1 = one in omega arith) | inr above ↦ absurd (let z : 48 < 0 = above in omega arith) ]
written_some (d ∷ ds) n w = omega arith

pub written_leads : (ds : List ℕ) (n : ℕ) → IsWritten ds n → get_or ds 0 0 ≡ 48 → length ds ≡ 1
written_leads ds n w e = elim (written_first ds n w) [ inl one ↦ one | inr above ↦ absurd (omega arith) ]

-- digits without a leading 0 are those of the number that they are read as
pub written_is : (ds : List ℕ) (n : ℕ) → all_ascii_digits ds ≡ true → read_on 0 ds ≡ n → n < 2 ^ 64 → 0 < length ds → (get_or ds 0 0 ≡ 48 → length ds ≡ 1) → ds ≡ decimal n
written_is ds n all e small some leads =
    let room : read_on 0 ds < 2 ^ 64 = omega arith in
    let whole : decimal (read_on 0 ds) ≡ ds = decimal-digits_value own ds all some leads room in
    sym whole ∙ ap decimal e

-- READING: what is read of the first i digits, with what is left
pub record IsReading (ds : List ℕ) (i number : ℕ) : Type 0 where
  pub digits : all_ascii_digits ds ≡ all_ascii_digits (drop i ds)
  pub value : read_on 0 ds ≡ read_on number (drop i ds)
  pub room : number < 2 ^ 64

pub reading_none : (ds : List ℕ) → IsReading ds 0 0
reading_none ds = record { digits = refl; value = refl; room = omega arith }

next_digit : (ds : List ℕ) (i c : ℕ) → i < length ds → c ≡ get_or ds i 0 → all_ascii_digits (drop i ds) ≡ is_ascii_digit c && all_ascii_digits (drop (i + 1) ds)
next_digit ds i c h e = at_drop_more all_ascii_digits ds i 0 h ∙ ap (λ x. is_ascii_digit x && all_ascii_digits (drop (i + 1) ds)) (sym e)

next_value : (ds : List ℕ) (i number c : ℕ) → i < length ds → c ≡ get_or ds i 0 → read_on number (drop i ds) ≡ read_on (10 * number + (c - 48)) (drop (i + 1) ds)
next_value ds i number c h e = at_drop_more (read_on number) ds i 0 h ∙ ap (λ x. read_on (10 * number + (x - 48)) (drop (i + 1) ds)) (sym e)

pub reading_more : (ds : List ℕ) (i number c : ℕ) → i < length ds → c ≡ get_or ds i 0 → is_ascii_digit c ≡ true → 10 * number + (c - 48) < 2 ^ 64 → IsReading ds i number → IsReading ds (i + 1) (10 * number + (c - 48))
reading_more ds i number c h e digit room r = record {
  digits = r.digits ∙ next_digit ds i c h e ∙ ap (λ b. b && all_ascii_digits (drop (i + 1) ds)) digit;
  value = r.value ∙ next_value ds i number c h e;
  room = room;
}

pub reading_stops : (ds : List ℕ) (i number c : ℕ) → i < length ds → c ≡ get_or ds i 0 → is_ascii_digit c ≡ false → IsReading ds i number → all_ascii_digits ds ≡ false
reading_stops ds i number c h e other r = r.digits ∙ next_digit ds i c h e ∙ ap (λ b. b && all_ascii_digits (drop (i + 1) ds)) other

read_on-le : (n : ℕ) (cs : List ℕ) → n ≤ read_on n cs
read_on-le n [] = omega arith
read_on-le n (c ∷ cs) = let more : 10 * n + (c - 48) ≤ read_on (10 * n + (c - 48)) cs = read_on-le (10 * n + (c - 48)) cs in omega arith

-- the number grows with each digit
pub reading_grows : (ds : List ℕ) (i number c : ℕ) → i < length ds → c ≡ get_or ds i 0 → IsReading ds i number → 10 * number + (c - 48) ≤ read_on 0 ds
reading_grows ds i number c h e r =
    let same : read_on 0 ds ≡ read_on (10 * number + (c - 48)) (drop (i + 1) ds) = r.value ∙ next_value ds i number c h e in
    let above : 10 * number + (c - 48) ≤ read_on (10 * number + (c - 48)) (drop (i + 1) ds) = read_on-le (10 * number + (c - 48)) (drop (i + 1) ds) in
    omega arith

pub reading_all : (ds : List ℕ) (i number : ℕ) → length ds ≤ i → IsReading ds i number → (all_ascii_digits ds ≡ true) × (read_on 0 ds ≡ number)
reading_all ds i number h r = (r.digits ∙ at_drop_all all_ascii_digits ds i h, r.value ∙ at_drop_all (read_on number) ds i h)
