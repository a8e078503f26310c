-- Pieces that a sink takes and a source gives, one after another.
use Rattle.std.proofs.Common.{◌≡◌, ℕ, ◌+◌, ◌-◌, ◌≤◌, List, [], ◌++◌, length, take, drop, Option, arith, sym, ap, subst, ◌∙◌, length-drop, length-take}
use Rattle.std.specs.Io.KnownBytes.{Appends, Consumes}
use Rattle.std.proofs.KnownBytes.{Appends-trans, Consumes-trans}
use Rattle.std.proofs.lemmas.List.{append-nil, drop-drop, take-append-drop}
use Rattle.std.proofs.Math.Seq.{take-add, take-length, drop-length, take-append_seam}

-- how far the text is taken, where n of the rest were
pub taken_more : (a b c : Option (List ℕ)) (text rest : List ℕ) (n : ℕ) → n ≤ length rest → rest ≡ drop (length text - length rest) text
    → Appends a b (take (length text - length rest) text) → Appends b c (take n rest) → Appends a c (take (length text - length (drop n rest)) text)
taken_more a b c text rest n few is p q =
    let within : length rest ≤ length text = omega (arith, ap length is, length-drop (length text - length rest) text) in
    let far : length text - length (drop n rest) ≡ (length text - length rest) + n = omega (arith, length-drop n rest) in
    let P : List ℕ → Type 0 = λ xs. Appends a c xs in
    let both : take (length text - length rest) text ++ take n rest ≡ take (length text - length (drop n rest)) text =
    ap (λ xs. take (length text - length rest) text ++ take n xs) is ∙ sym (take-add (length text - length rest) n text) ∙ ap (λ m. take m text) (sym far) in
    subst P both (Appends-trans a b c _ _ p q)

-- what is left of the text after n bytes of the rest is still an end of the text
pub rest_more : (text rest : List ℕ) (n : ℕ) → n ≤ length rest → rest ≡ drop (length text - length rest) text → drop n rest ≡ drop (length text - length (drop n rest)) text
rest_more text rest n few is =
    let within : length rest ≤ length text = omega (arith, ap length is, length-drop (length text - length rest) text) in
    let far : length text - length (drop n rest) ≡ (length text - length rest) + n = omega (arith, length-drop n rest) in
    ap (drop n) is ∙ drop-drop n (length text - length rest) text ∙ ap (λ m. drop m text) (sym far)

-- the slice from n on is the list without its first n
pub slice_from : (n : ℕ) (rest : List ℕ) → take (length rest - n) (drop n rest) ≡ drop n rest
slice_from n rest = rw (← length-drop n rest) (take-length (drop n rest))

-- a whole slice of a Vec that was written
pub written_back : (new items : List ℕ) (len : ℕ) → len ≡ length items → length new ≡ length items → take len (new ++ drop (length new) items) ≡ new
written_back new items len size same =
    let none : drop (length new) items ≡ [] = ap (λ n. drop n items) same ∙ drop-length items in
    let all : take len new ≡ new = ap (λ n. take n new) (size ∙ sym same) ∙ take-length new in
    ap (λ xs. take len (new ++ xs)) none ∙ ap (take len) (append-nil new) ∙ all

-- a read behind the first k bytes, which gives n, has consumed the first k + n bytes of the buffer
pub read_more : (a b c : Option (List ℕ)) (old new : List ℕ) (k n : ℕ) → take k new ≡ take k old → Consumes a b (take k old) → Consumes b c (take n (drop k new)) → Consumes a c (take (k + n) new)
read_more a b c old new k n kept p q =
    let P : List ℕ → Type 0 = λ xs. Consumes a c xs in
    subst P (ap (λ xs. xs ++ take n (drop k new)) (sym kept) ∙ sym (take-add k n new)) (Consumes-trans a b c _ _ p q)

-- what a source in memory gives is the front of what is left
pub front_given : (b into new : List ℕ) (at count : ℕ) → at + count ≤ length b → new ≡ take (at + count - at) (drop at b)
    → drop at b ≡ take count (new ++ drop count into) ++ drop (at + count) b
front_given b into new at count within is =
    let n : at + count - at ≡ count = omega arith in
    let new_is : new ≡ take count (drop at b) = is ∙ ap (λ m. take m (drop at b)) n in
    let long : length new ≡ count = omega (arith, ap length new_is, length-take count (drop at b), length-drop at b) in
    let front : take count (new ++ drop count into) ≡ new = ap (λ m. take m (new ++ drop count into)) (sym long) ∙ take-append_seam new (drop count into) in
    sym (ap (λ xs. xs ++ drop (at + count) b) (front ∙ new_is) ∙ ap (λ xs. take count (drop at b) ++ xs) (sym (drop-drop count at b)) ∙ take-append-drop count (drop at b))

-- a source in memory that stands at the end of its bytes has none left
pub nothing_left : (b : List ℕ) (at count : ℕ) → at ≡ length b → count ≡ 0 → drop (at + count) b ≡ []
nothing_left b at count e z = ap (λ n. drop n b) (let k : at + count ≡ length b = omega arith in k) ∙ drop-length b
