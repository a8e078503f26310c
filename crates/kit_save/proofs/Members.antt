-- The members of a group come back, one bit for each federate.
use Rattle.std.proofs.Common.{◌≡◌, ℕ, suc, ◌+◌, ◌*◌, ◌%◌, ◌^◌, ◌<◌, ◌≤◌, List, [], ◌∷◌, ◌++◌, length, map, Some, Ok, codes, refl, sym, ap, subst, ◌∙◌, arith, inl, inr, eqb-true}
use Rattle.std.specs.Prelude.{◌==◌, bit_and, bit_or}
use Rattle.std.specs.Int.{bit_at}
use Rattle.std.proofs.lemmas.Bool.{cases_Bool, eqb-false}
use Rattle.std.proofs.lemmas.List.{append_assoc, append-nil, length-append}
use Rattle.std.proofs.lemmas.Nat.{pow_pos, mod-pow-add, mod_below, mod-mul-add, or_disjoint}
use Rattle.std.proofs.lemmas.Nat.Bits.{and_pow, bit_at-lt, bit_at_above}
use Rattle.serde_json.specs.Data.{Data, string}
use Rattle.serde_json.specs.Find.{get}
use Rattle.kit_rules.specs.declared.table.Federate.{Federate}
use Rattle.kit_rules.specs.Limits.{most_federates}
use Rattle.kit_walk.specs.Reading.{each}
use Rattle.kit_file.specs.Names.{itself, position_of}
use Rattle.kit_file.specs.Groups.{member_of, member_step, member_list_of, members_of}
use Rattle.kit_file.proofs.Ranges.{lists_are_taken}
use Rattle.kit_save.specs.Values.{name_at, list_value, member_names}
use Rattle.kit_save.proofs.Lists.{values_read}
use Rattle.kit_save.proofs.Names.{Differ, names_position, found_there}
use Rattle.kit_save.proofs.Federates.{federate_name, names_of}

-- the bits up to j are those below it, and its own
bits_upto : (mask j : ℕ) → mask % 2 ^ suc j ≡ bit_at mask j * 2 ^ j + mask % 2 ^ j
bits_upto mask j = ap (λ n. mask % 2 ^ n) (before j) ∙ mod-pow-add mask 1 j
  where
    before : (n : ℕ) → suc n ≡ 1 + n
    before n = omega arith

-- those below it do not have it
low_without : (mask j : ℕ) → bit_and (mask % 2 ^ j) (2 ^ j) ≡ 0
low_without mask j =
    let small : mask % 2 ^ j < 2 ^ j = mod_below mask (2 ^ j) (pow_pos j) in
    let off : bit_at (mask % 2 ^ j) j ≡ 0 = bit_at_above (mask % 2 ^ j) j j small (omega arith) in
    and_pow (mask % 2 ^ j) j ∙ ap (λ b. b * 2 ^ j) off ∙ nothing (2 ^ j)
  where
    nothing : (n : ℕ) → 0 * n ≡ 0
    nothing n = omega arith

-- a bit that is not set adds nothing
bit_absent : (mask j : ℕ) → bit_and mask (2 ^ j) ≡ 0 → mask % 2 ^ suc j ≡ mask % 2 ^ j
bit_absent mask j none =
    let product : bit_at mask j * 2 ^ j ≡ 0 = sym (and_pow mask j) ∙ none in
    let upto : mask % 2 ^ suc j ≡ bit_at mask j * 2 ^ j + mask % 2 ^ j = bits_upto mask j in
    upto ∙ ap (λ n. n + mask % 2 ^ j) product ∙ nothing (mask % 2 ^ j)
  where
    nothing : (n : ℕ) → 0 + n ≡ n
    nothing n = omega arith

-- one that is set is set by or
bit_present : (mask j : ℕ) → (bit_and mask (2 ^ j) ≡ 0 → ⊥) → bit_or (mask % 2 ^ j) (2 ^ j) ≡ mask % 2 ^ suc j
bit_present mask j some_ =
    let one : bit_at mask j ≡ 1 = is_one (bit_at mask j) (bit_at-lt mask j) (λ zero_. some_ (and_pow mask j ∙ ap (λ b. b * 2 ^ j) zero_ ∙ nothing (2 ^ j))) in
    or_disjoint (mask % 2 ^ j) (2 ^ j) (low_without mask j)
    ∙ swap (mask % 2 ^ j) (2 ^ j)
    ∙ ap (λ b. b * 2 ^ j + mask % 2 ^ j) (sym one)
    ∙ sym (bits_upto mask j)
  where
    is_one : (b : ℕ) → b < 2 → (b ≡ 0 → ⊥) → b ≡ 1
    is_one b few not_zero = omega arith

    nothing : (n : ℕ) → 0 * n ≡ 0
    nothing n = omega arith

    swap : (a b : ℕ) → a + b ≡ 1 * b + a
    swap a b = omega arith

-- a member, by its name
member_taken : (names : List (List ℕ)) (mask j : ℕ) (s : List ℕ) → position_of itself names s ≡ Some j → (bit_and mask (2 ^ j) ≡ 0 → ⊥) → member_of names (mask % 2 ^ j) (string s) ≡ Ok (mask % 2 ^ suc j)
unfolding member_of
member_taken names mask j s at some_ = rw (at, low_without mask j, bit_present mask j some_) refl

-- one federate on: its bit is read where the mask has it
one_bit : (names : List (List ℕ)) (mask i j : ℕ) (f : Federate) (rest : List Federate) → position_of itself names f.name ≡ Some j
    → ((k : ℕ) → each (member_step names) k (mask % 2 ^ suc j) (map string (member_names mask (suc j) rest)) ≡ Ok mask)
    → each (member_step names) i (mask % 2 ^ j) (map string (member_names mask j (f ∷ rest))) ≡ Ok mask
unfolding member_step
one_bit names mask i j f rest at next = elim (cases_Bool (bit_and mask (2 ^ j) == 0)) [
  | inl none ↦ rw (none, ← bit_absent mask j (eqb-true (bit_and mask (2 ^ j)) 0 none)) (next i)
  | inr one ↦ rw (one, member_taken names mask j f.name at (eqb-false (bit_and mask (2 ^ j)) 0 one)) (next (suc i))
]

-- the place of a federate, by its name
place_of : (before : List Federate) (f : Federate) (after : List Federate) → Differ federate_name (before ++ f ∷ after) → position_of itself (names_of (before ++ f ∷ after)) f.name ≡ Some (length before)
place_of before f after differ =
    ap (position_of itself (names_of (before ++ f ∷ after))) (sym (there before))
    ∙ names_position federate_name (before ++ f ∷ after) (name_at federate_name (before ++ f ∷ after) (length before))
    ∙ found_there federate_name (before ++ f ∷ after) (length before) differ (within_ before)
  where
    there : (bs : List Federate) → name_at federate_name (bs ++ f ∷ after) (length bs) ≡ f.name
    there [] = refl
    there (b ∷ bs) = there bs

    within_ : (bs : List Federate) → length bs < length (bs ++ f ∷ after)
    within_ bs = let e = length-append bs (f ∷ after) in omega arith

-- the bits of all federates from one on
bits_read : (mask : ℕ) (before rest : List Federate) (i j : ℕ) → Differ federate_name (before ++ rest) → length before ≡ j → mask < 2 ^ length (before ++ rest)
    → each (member_step (names_of (before ++ rest))) i (mask % 2 ^ j) (map string (member_names mask j rest)) ≡ Ok mask
bits_read mask before [] i j differ long small = ap Ok (all_of mask j (subst (λ n. mask < 2 ^ n) (ap length (append-nil before) ∙ long) small))
  where
    alone : (n m : ℕ) → n ≡ 0 * m + n
    alone n m = omega arith

    all_of : (n k : ℕ) → n < 2 ^ k → n % 2 ^ k ≡ n
    all_of n k lt = ap (λ m. m % 2 ^ k) (alone n (2 ^ k)) ∙ mod-mul-add 0 (2 ^ k) n lt
bits_read mask before (f ∷ rest) i j differ long small =
    let same : (before ++ f ∷ []) ++ rest ≡ before ++ f ∷ rest = append_assoc before (f ∷ []) rest in
    let longer : length (before ++ f ∷ []) ≡ suc j = (let e = length-append before (f ∷ []) in omega arith) in
    one_bit (names_of (before ++ f ∷ rest)) mask i j f rest (place_of before f rest differ ∙ ap Some long)
    (λ k. subst (λ all. each (member_step (names_of all)) k (mask % 2 ^ suc j) (map string (member_names mask (suc j) rest)) ≡ Ok mask) same
    (bits_read mask (before ++ f ∷ []) rest k (suc j) (subst (Differ federate_name) (sym same) differ) longer (subst (λ all. mask < 2 ^ length all) (sym same) small)))

-- no more members than federates
members_few : (mask j : ℕ) (fs : List Federate) → length (member_names mask j fs) ≤ length fs
members_few mask j [] = omega arith
members_few mask j (f ∷ fs) =
    let fewer : length (member_names mask (suc j) fs) ≤ length fs = members_few mask (suc j) fs in
    elim (cases_Bool (bit_and mask (2 ^ j) == 0)) [ inl none ↦ rw none (omega arith) | inr one ↦ rw one (omega arith) ]

-- the list members
pub members_taken : (fs : List Federate) (mask : ℕ) (d : Data) → get (codes "members") d ≡ Some (list_value string (member_names mask 0 fs)) → Differ federate_name fs → length fs ≤ most_federates → mask < 2 ^ length fs → members_of (names_of fs) d ≡ Ok mask
unfolding members_of
members_taken fs mask d e differ few small =
    let fewer : length (member_names mask 0 fs) ≤ length fs = members_few mask 0 fs in
    rw (values_read (codes "members") (λ n. n ≤ most_federates) member_list_of string (member_names mask 0 fs) d lists_are_taken.members e (omega arith))
    (ap (λ bits. each (member_step (names_of fs)) 0 bits (map string (member_names mask 0 fs))) (no_bits mask) ∙ bits_read mask [] fs 0 0 differ refl small)
  where
    no_bits : (n : ℕ) → 0 ≡ n % 2 ^ 0
    no_bits n = omega arith
