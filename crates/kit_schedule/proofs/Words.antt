-- What a word of a schedule stands for, where its first `*` stands, and that it stands for one thing.
use Rattle.std.proofs.Common.{◌≡◌, ◌≢◌, inl, inr, ℕ, zero, suc, ◌+◌, ◌-◌, ◌*◌, ◌^◌, ◌<◌, true, List, [], ◌∷◌, ◌++◌, length, map, replicate, get_or, take, drop, codes, Option, Some, None, IfNone, refl, sym, ap, subst, ◌∙◌, arith, length-append, length-drop}
use Rattle.std.specs.List.{AllByRecursion, concat}
use Rattle.std.specs.Str.{all_ascii_digits}
use Rattle.std.proofs.lemmas.Fmt.{decimal_injective}
use Rattle.std.specs.Char.{is_ascii_digit}
use Rattle.std.proofs.lemmas.Bool.{and_parts, false≢true}
use Rattle.std.proofs.lemmas.List.{append_assoc, append-nil, drop_at, at_drop_more, length-map, replicate_more, take-append-drop}
use Rattle.std.proofs.Math.Seq.{take-length}
use Rattle.std.proofs.lemmas.List.Folds.{concat-append}
use Rattle.kit_schedule.specs.Schedules.{AreLetters, IsCount, IsCounted, IsLetter, IsPlain, IsRepetition, entries_of, federate_of}
use Rattle.kit_schedule.proofs.Counts.{count_digits}

-- digits have no `*`
digits_no_star : (ds : List ℕ) → all_ascii_digits ds ≡ true → AllByRecursion (λ d. d ≢ 42) ds
digits_no_star [] h = tt
digits_no_star (d ∷ ds) h =
    let parts = and_parts (is_ascii_digit d) (all_ascii_digits ds) h in
    (λ e. (let star : is_ascii_digit 42 ≡ true = ap is_ascii_digit (sym e) ∙ parts.0 in absurd (false≢true star)), digits_no_star ds parts.1)

-- digits, `*` and letters come apart in one way
star_same : (a b xs ys : List ℕ) → AllByRecursion (λ d. d ≢ 42) a → AllByRecursion (λ d. d ≢ 42) b → a ++ 42 ∷ xs ≡ b ++ 42 ∷ ys → (a ≡ b) × (xs ≡ ys)
star_same [] [] xs ys p q e = (refl, cc)
star_same [] (b ∷ bs) xs ys p q e = let here : 42 ≡ b = cc in absurd (q.0 (sym here))
star_same (a ∷ more) [] xs ys p q e = let here : a ≡ 42 = cc in absurd (p.0 here)
star_same (a ∷ more) (b ∷ bs) xs ys p q e =
    let first : a ≡ b = cc in
    let rest : more ++ 42 ∷ xs ≡ bs ++ 42 ∷ ys = cc in
    let same = star_same more bs xs ys p.1 q.1 rest in
    let front : more ≡ bs = same.0 in
    (cc, same.1)

-- a counted word, with `*` as one byte
counted_is : (word letters : List ℕ) (times : ℕ) (c : IsCounted word times letters) → word ≡ c.digits ++ 42 ∷ letters
counted_is word letters times c = c.written ∙ append_assoc c.digits (codes "*") letters

counted_no_star : (word letters : List ℕ) (times : ℕ) (c : IsCounted word times letters) → AllByRecursion (λ d. d ≢ 42) c.digits
counted_no_star word letters times c = digits_no_star c.digits (count_digits c.digits times c.count)

-- its `*` stands behind its digits
get_or-star : (ds ls : List ℕ) → get_or (ds ++ 42 ∷ ls) (length ds) 0 ≡ 42
get_or-star [] ls = refl
get_or-star (d ∷ ds) ls = get_or-star ds ls

length-star : (ds ls : List ℕ) → length ds < length (ds ++ 42 ∷ ls)
length-star [] ls = omega arith
length-star (d ∷ ds) ls = let more = length-star ds ls in omega arith

-- and is the first
no_star_before : (ds ls : List ℕ) (k : ℕ) → AllByRecursion (λ d. d ≢ 42) ds → k < length ds → get_or (ds ++ 42 ∷ ls) k 0 ≢ 42
no_star_before [] ls k p h = absurd (omega arith)
no_star_before (d ∷ ds) ls zero p h = p.0
no_star_before (d ∷ ds) ls (suc k) p h = no_star_before ds ls k p.1 (omega arith)

-- letters have no `*`
letters_no_star : (letters : List ℕ) (k : ℕ) → AreLetters letters → k < length letters → get_or letters k 0 ≢ 42
letters_no_star letters k a h e = let here : IsLetter (get_or letters k 0) = a.each k 0 h in absurd (omega (arith, here.0))

-- a word without `*` stands for its letters, once
pub plain_is : (word letters : List ℕ) (times : ℕ) → ((j : ℕ) → j < length word → get_or word j 0 ≢ 42) → IsRepetition word times letters → AreLetters word
plain_is word letters times none r =
    elim r.form [
      | inl p ↦ subst AreLetters (sym p.written) r.letters_are
      | inr c ↦ (
          let e : word ≡ c.digits ++ 42 ∷ letters = counted_is word letters times c in
          let far : length c.digits < length word = subst (λ (w : List ℕ). length c.digits < length w) (sym e) (length-star c.digits letters) in
          let here : get_or word (length c.digits) 0 ≡ 42 = ap (λ w. get_or w (length c.digits) 0) e ∙ get_or-star c.digits letters in
          absurd (none (length c.digits) far here))
    ]

-- a word with `*` is counted by what stands before, and has the letters behind
pub record IsApart (word : List ℕ) (k times : ℕ) (letters : List ℕ) : Type 0 where
  pub count : IsCount (take k word) times
  pub letters_are : AreLetters (drop (k + 1) word)
  pub behind : drop (k + 1) word ≡ letters

apart_at : (word letters ds : List ℕ) (k times : ℕ) → k ≡ length ds → word ≡ ds ++ 42 ∷ letters → IsCount ds times → AreLetters letters → IsApart word k times letters
apart_at word letters ds k times at e count a =
    let front : take k word ≡ ds = ap (take k) e ∙ ap (λ n. take n (ds ++ 42 ∷ letters)) at ∙ take_front ds (42 ∷ letters) in
    let behind : drop (k + 1) word ≡ letters = ap (drop (k + 1)) (e ∙ sym (append_assoc ds (codes "*") letters)) ∙ drop_at (ds ++ codes "*") letters (k + 1) (length_star_front ds k at) in
    record {
      count = subst (λ (xs : List ℕ). IsCount xs times) (sym front) count;
      letters_are = subst AreLetters (sym behind) a;
      behind = behind;
    }
  where
    take_front : (xs ys : List ℕ) → take (length xs) (xs ++ ys) ≡ xs
    take_front [] ys = refl
    take_front (x ∷ xs) ys = ap (λ zs. x ∷ zs) (take_front xs ys)

    length_star_front : (xs : List ℕ) (n : ℕ) → n ≡ length xs → length (xs ++ codes "*") ≡ n + 1
    length_star_front xs n h = let size : length (xs ++ codes "*") ≡ length xs + 1 = length-append xs (codes "*") in omega arith

first_star : (word letters ds : List ℕ) (k : ℕ) → AllByRecursion (λ d. d ≢ 42) ds → word ≡ ds ++ 42 ∷ letters → k < length word → get_or word k 0 ≡ 42 → ((j : ℕ) → j < k → get_or word j 0 ≢ 42) → k ≡ length ds
first_star word letters ds k clean e far here first =
    let at : get_or word (length ds) 0 ≡ 42 = ap (λ w. get_or w (length ds) 0) e ∙ get_or-star ds letters in
    let not_below : k < length ds → ⊥ = λ h. no_star_before ds letters k clean h (ap (λ w. get_or w k 0) (sym e) ∙ here) in
    let not_above : length ds < k → ⊥ = λ h. first (length ds) h at in
    omega arith

pub starred_is : (word letters : List ℕ) (k times : ℕ) → k < length word → get_or word k 0 ≡ 42 → ((j : ℕ) → j < k → get_or word j 0 ≢ 42) → IsRepetition word times letters → IsApart word k times letters
starred_is word letters k times far here first r =
    elim r.form [
      | inl p ↦ (
          let a : AreLetters word = subst AreLetters (sym p.written) r.letters_are in
          absurd (letters_no_star word k a far here))
      | inr c ↦ (
          let e : word ≡ c.digits ++ 42 ∷ letters = counted_is word letters times c in
          let at : k ≡ length c.digits = first_star word letters c.digits k (counted_no_star word letters times c) e far here first in
          apart_at word letters c.digits k times at e c.count r.letters_are)
    ]

-- what stands before and behind the first `*` makes the word
pub starred : (word : List ℕ) (k times : ℕ) → k < length word → get_or word k 0 ≡ 42 → IsCount (take k word) times → AreLetters (drop (k + 1) word) → IsRepetition word times (drop (k + 1) word)
starred word k times far here count a =
    record { form = inr (record { digits = take k word; count = count; written = whole word k far here }); letters_are = a }
  where
    whole : (xs : List ℕ) (n : ℕ) → n < length xs → get_or xs n 0 ≡ 42 → xs ≡ take n xs ++ codes "*" ++ drop (n + 1) xs
    whole xs n h e =
        let behind : drop n xs ≡ 42 ∷ drop (n + 1) xs = at_drop_more (λ ys. ys) xs n 0 h ∙ ap (λ x. x ∷ drop (n + 1) xs) e in
        sym (take-append-drop n xs) ∙ ap (λ ys. take n xs ++ ys) behind ∙ sym (append_assoc (take n xs) (codes "*") (drop (n + 1) xs))

pub plain : (word : List ℕ) → AreLetters word → IsRepetition word 1 word
plain word a = record { form = inl (record { once = refl; written = refl }); letters_are = a }

-- a word of letters alone is not counted
plain_or_counted : (word l m : List ℕ) (t u : ℕ) → IsPlain word t l → AreLetters l → IsCounted word u m → ⊥
plain_or_counted word l m t u p a c =
    let e : word ≡ c.digits ++ 42 ∷ m = counted_is word m u c in
    let far : length c.digits < length word = subst (λ (w : List ℕ). length c.digits < length w) (sym e) (length-star c.digits m) in
    let here : get_or word (length c.digits) 0 ≡ 42 = ap (λ w. get_or w (length c.digits) 0) e ∙ get_or-star c.digits m in
    letters_no_star word (length c.digits) (subst AreLetters (sym p.written) a) far here

counted_same : (word l m : List ℕ) (t u : ℕ) → IsCounted word t l → IsCounted word u m → (t ≡ u) × (l ≡ m)
counted_same word l m t u a b =
    let parts = star_same a.digits b.digits l m (counted_no_star word l t a) (counted_no_star word m u b) (sym (counted_is word l t a) ∙ counted_is word m u b) in
    let low : t < 2 ^ 64 = omega (arith, a.count.most) in
    let high : u < 2 ^ 64 = omega (arith, b.count.most) in
    (decimal_injective t u low high (sym a.count.written ∙ parts.0 ∙ b.count.written), parts.1)

-- A WORD STANDS FOR ONE THING
pub repetition_same : (word l m : List ℕ) (t u : ℕ) → IsRepetition word t l → IsRepetition word u m → (t ≡ u) × (l ≡ m)
repetition_same word l m t u a b =
    elim a.form [
      | inl p ↦ elim b.form [
        | inl q ↦ (p.once ∙ sym q.once, sym p.written ∙ q.written)
        | inr d ↦ absurd (plain_or_counted word l m t u p a.letters_are d)
      ]
      | inr c ↦ elim b.form [
        | inl q ↦ absurd (plain_or_counted word m l u t q b.letters_are c)
        | inr d ↦ counted_same word l m t u c d
      ]
    ]

length-repeated : (times : ℕ) (xs : List ℕ) → length (concat (replicate times xs)) ≡ times * length xs
length-repeated zero xs = omega arith
length-repeated (suc n) xs =
    let more : length (concat (replicate n xs)) ≡ n * length xs = length-repeated n xs in
    let both : length (xs ++ concat (replicate n xs)) ≡ length xs + length (concat (replicate n xs)) = length-append xs (concat (replicate n xs)) in
    omega arith

-- how many entries so many letters make
pub length-entries_of : (times : ℕ) (letters : List ℕ) → length (entries_of times letters) ≡ times * length letters
length-entries_of times letters = length-repeated times (map federate_of letters) ∙ ap (λ n. times * n) (length-map letters federate_of)

-- once more
pub entries_of-more : (times : ℕ) (letters : List ℕ) → entries_of (times + 1) letters ≡ entries_of times letters ++ map federate_of letters
entries_of-more times letters =
    let once : List ℕ = map federate_of letters in
    ap concat (sym (replicate_more times once)) ∙ concat-append (replicate times once) (once ∷ []) ∙ ap (λ xs. entries_of times letters ++ xs) (append-nil once)

-- what holds in any case holds where there is none
pub always_if_none : {X P : Type 0} (r : Option X) → P → IfNone r P
always_if_none None p = p
always_if_none (Some x) p = tt

pub weaker_if_none : {X P Q : Type 0} (r : Option X) → (P → Q) → IfNone r P → IfNone r Q
weaker_if_none None f p = f p
weaker_if_none (Some x) f p = tt

-- the range of a slice from a place on
pub rest_whole : (xs : List ℕ) (n : ℕ) → take (length xs - n) (drop n xs) ≡ drop n xs
rest_whole xs n = ap (λ m. take m (drop n xs)) (sym (length-drop n xs)) ∙ take-length (drop n xs)
