-- Which federates are in a block.
use Rattle.std.proofs.Common.{◌≡◌, ◌≢◌, ℕ, ◌+◌, ◌-◌, ◌*◌, ◌/◌, ◌%◌, ◌^◌, ◌<◌, ◌≤◌, Bool, true, false, cond, ◌==◌, ◌&&◌, ◌||◌, nat_lt, ◌⊎◌, inl, inr, arith, refl, sym, ap, ◌∙◌}
use Rattle.std.specs.Int.Bits.{bit_xor, xor_assoc, xor_zero_r, xor_self}
use Rattle.std.specs.List.{filter}
use Rattle.std.proofs.Math.Bool.{and-or_distrib_left}
use Rattle.std.proofs.Math.Nat.{div_self, div-eq_of_lt, div-one}
use Rattle.std.proofs.lemmas.Bool.{cases_lt, lt-ltb, le-ltb, eq-eqb, eqb-true, and_parts, and_from}
use Rattle.std.proofs.lemmas.Bool.Decides.{nat_tests}
use Rattle.std.proofs.lemmas.Nat.{pow_pos, pow_below, shr-shr, xor_shr, xor_block, xor_lt, div-add-mod'}
use Rattle.kit_model.specs.Blocks.{stages, width, place_of, partner_of, in_block, everybody}
use Rattle.kit_model.specs.BlockLaws.{BlocksAreApart, EverybodyIsIn, FirstBlock, NextBlock, PartnersAreApart, PartnersAreWithin, PartnersAreMutual, LastBlock, BlocksOfSix}
use Rattle.kit_model.proofs.Widths.{width_is_greatest, there_is}
use Rattle.kit_model.proofs.Sieves.{all_pass}

-- to flip the lowest bit
flipped : (q : ℕ) → ((q % 2 ≡ 0) × (bit_xor q 1 ≡ q + 1)) ⊎ ((q % 2 ≡ 1) × (bit_xor q 1 + 1 ≡ q))
flipped q =
    let split : q / 2 * 2 + q % 2 ≡ q = div-add-mod' q 2 in
    let whole : bit_xor q 1 ≡ q / 2 * 2 + bit_xor (q % 2) 1 =
    ap (λ n. bit_xor n 1) (sym split) ∙ xor_block 1 (q / 2) 0 (q % 2) 1 (omega arith) (omega arith) ∙ ap (λ h. h * 2 + bit_xor (q % 2) 1) (xor_zero_r (q / 2)) in
    elim (cases_lt (q % 2) 1) [
      | inl lt ↦ let zero : q % 2 ≡ 0 = omega arith in let low : bit_xor (q % 2) 1 ≡ 1 = ap (λ r. bit_xor r 1) zero in inl (zero, omega arith)
      | inr ge ↦ let one : q % 2 ≡ 1 = omega arith in let low : bit_xor (q % 2) 1 ≡ 0 = ap (λ r. bit_xor r 1) one in inr (one, omega arith)
    ]

-- rows with one half are a row and its flip
halves_even : (p q r : ℕ) → q % 2 ≡ 0 → r ≡ q + 1 → (p / 2 == q / 2) ≡ ((p == q) || (p == r))
halves_even p q r e f = grind (arith, nat_tests)

halves_odd : (p q r : ℕ) → q % 2 ≡ 1 → r + 1 ≡ q → (p / 2 == q / 2) ≡ ((p == q) || (p == r))
halves_odd p q r e f = grind (arith, nat_tests)

halves : (p q : ℕ) → (p / 2 == q / 2) ≡ ((p == q) || (p == bit_xor q 1))
halves p q = elim (flipped q) [ inl h ↦ halves_even p q (bit_xor q 1) h.0 h.1 | inr h ↦ halves_odd p q (bit_xor q 1) h.0 h.1 ]

-- a row is not its flip
pub rows_apart : (p q r : ℕ) → q ≢ r → ((p == q) && (p == r)) ≡ false
rows_apart p q r ne = grind (arith, nat_tests)

flip_apart : (q : ℕ) → q ≢ bit_xor q 1
flip_apart q e = elim (flipped q) [ inl h ↦ omega (arith, h.1) | inr h ↦ omega (arith, h.1) ]

-- the row of the partner
partner_row : (stage x : ℕ) → partner_of stage x / 2 ^ stage ≡ bit_xor (x / 2 ^ stage) 1
partner_row stage x = xor_shr x (2 ^ stage) stage ∙ ap (bit_xor (x / 2 ^ stage)) (div_self (pow_pos stage))

-- the rows of the next stage are halves
next_row : (stage y : ℕ) → y / 2 ^ (stage + 1) ≡ y / 2 ^ stage / 2
next_row stage y = sym (shr-shr y stage 1)

pub next_block : NextBlock
next_block n stage x y =
    let p = place_of n y / 2 ^ stage in
    let q = x / 2 ^ stage in
    ap (λ a. nat_lt y n && (a == x / 2 ^ (stage + 1))) (next_row stage (place_of n y))
    ∙ ap (λ b. nat_lt y n && (p / 2 == b)) (next_row stage x)
    ∙ ap (λ t. nat_lt y n && t) (halves p q)
    ∙ and-or_distrib_left (nat_lt y n) (p == q) (p == bit_xor q 1)
    ∙ ap (λ r. nat_lt y n && (p == q) || nat_lt y n && (p == r)) (sym (partner_row stage x))

-- what fails for the tests fails where both are narrowed
narrowed : (a b c : Bool) → (b && c) ≡ false → ((a && b) && (a && c)) ≡ false
narrowed true b c h = h
narrowed false b c h = refl

pub partners_are_apart : PartnersAreApart
partners_are_apart n stage x y =
    let p = place_of n y / 2 ^ stage in
    let q = x / 2 ^ stage in
    narrowed (nat_lt y n) (p == q) (p == partner_of stage x / 2 ^ stage)
    (ap (λ r. (p == q) && (p == r)) (partner_row stage x) ∙ rows_apart p q (bit_xor q 1) (flip_apart q))

pub partners_are_within : PartnersAreWithin
partners_are_within n stage x within lt = xor_lt (stages n) x (2 ^ stage) within (pow_below stage (stages n) lt)

pub partners_are_mutual : PartnersAreMutual
partners_are_mutual stage x = xor_assoc x (2 ^ stage) (2 ^ stage) ∙ ap (bit_xor x) (xor_self (2 ^ stage)) ∙ xor_zero_r x

pub blocks_are_apart : BlocksAreApart
blocks_are_apart n stage x y z a b =
    let p = place_of n z / 2 ^ stage in
    let first : p ≡ x / 2 ^ stage = eqb-true _ _ (and_parts (nat_lt z n) (p == x / 2 ^ stage) a).1 in
    let second : p ≡ y / 2 ^ stage = eqb-true _ _ (and_parts (nat_lt z n) (p == y / 2 ^ stage) b).1 in
    ap (λ q. filter (λ w. nat_lt w n && (place_of n w / 2 ^ stage == q)) (everybody n)) (sym first ∙ second)

-- a federate below the width stands for itself
pub place_within : (n x : ℕ) → x < width n → place_of n x ≡ x
place_within n x lt = ap (λ b. cond b x (x - width n)) (lt-ltb x (width n) lt)

pub place_outer : (n x : ℕ) → width n ≤ x → place_of n x ≡ x - width n
place_outer n x le = ap (λ b. cond b x (x - width n)) (le-ltb x (width n) le)

pub place_below : (n y : ℕ) → y < n → place_of n y < width n
place_below n y lt =
    let greatest = width_is_greatest n (omega arith) in
    elim (cases_lt y (width n)) [
      | inl within ↦ omega (arith, place_within n y within)
      | inr outer ↦ omega (arith, place_outer n y outer, greatest.1)
    ]

pub everybody_is_in : EverybodyIsIn
everybody_is_in n stage y lt = (place_below n y lt, and_from (nat_lt y n) (place_of n y / 2 ^ stage == place_of n y / 2 ^ stage) (lt-ltb y n lt) (eq-eqb _ _ refl))

-- a federate below the width is in its own block
pub in_own_block : (n stage x : ℕ) → 1 ≤ n → x < width n → in_block n stage x x ≡ true
in_own_block n stage x one within =
    and_from (nat_lt x n) (place_of n x / 2 ^ stage == x / 2 ^ stage) (lt-ltb x n (there_is n x one within)) (eq-eqb _ _ (ap (λ p. p / 2 ^ stage) (place_within n x within)))

first_within : (n w x y : ℕ) → y < w → (nat_lt y n && (y == x)) ≡ (nat_lt y n && ((y == x) || (y == w + x)))
first_within n w x y lt = grind (arith, nat_tests)

first_outer : (n w x y : ℕ) → x < w → w ≤ y → (nat_lt y n && (y - w == x)) ≡ (nat_lt y n && ((y == x) || (y == w + x)))
first_outer n w x y lt le = grind (arith, nat_tests)

pub first_block : FirstBlock
first_block n x y within =
    ap (λ p. nat_lt y n && (p == x / 2 ^ 0)) (div-one (place_of n y)) ∙ ap (λ q. nat_lt y n && (place_of n y == q)) (div-one x)
    ∙ elim (cases_lt y (width n)) [
      | inl lt ↦ ap (λ p. nat_lt y n && (p == x)) (place_within n y lt) ∙ first_within n (width n) x y lt
      | inr le ↦ ap (λ p. nat_lt y n && (p == x)) (place_outer n y le) ∙ first_outer n (width n) x y within le
    ]

pub last_block : LastBlock
last_block n x one within =
    all_pass (in_block n (stages n) x) 0 n (λ y low lt.
    and_from (nat_lt y n) (place_of n y / 2 ^ stages n == x / 2 ^ stages n) (lt-ltb y n (omega arith)) (eq-eqb _ _ (div-eq_of_lt (place_below n y (omega arith)) ∙ sym (div-eq_of_lt within))))

pub blocks_of_six : BlocksOfSix
unfolding stages
blocks_of_six = (refl, refl, refl, refl)

-- nobody is its own partner
pub partner_differs : (stage x : ℕ) → partner_of stage x ≢ x
partner_differs stage x e = flip_apart (x / 2 ^ stage) (ap (λ y. y / 2 ^ stage) (sym e) ∙ partner_row stage x)
