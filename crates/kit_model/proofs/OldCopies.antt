-- Counts of old copies.
use Rattle.std.proofs.Common.{◌≡◌, ℕ, ◌<◌, ◌≤◌, ◌+◌, ◌==◌, nat_lt, Bool, true, false, cond, List, [], ◌∷◌, ◌++◌, length, arith, refl, ap}
use Rattle.std.specs.List.{All, count_by}
use Rattle.std.proofs.lemmas.Bool.{lt-ltb, le-ltb}
use Rattle.std.proofs.lemmas.Bool.Decides.{nat_tests}
use Rattle.std.proofs.lemmas.List.Elements.{All-head, All-tail}
use Rattle.std.proofs.lemmas.List.Sums.{sum_by-cons, sum_by-append, sum_by_push, sum_by-le-sum_by}
use Rattle.kit_model.specs.Counts.{is_old, old_count}
use Rattle.kit_model.specs.Laws.{CopiesCountOnce, PostsCount, ReceiptsCount, CountsKeepGrowing, LaterRunsCountMore, AllColoursGetOld, NewCopiesDoNotCount}

-- what a copy adds to the count
abbrev counted : ℕ → ℕ → ℕ
counted run colour = cond (is_old run colour) 1 0

pub copies_count_once : CopiesCountOnce
copies_count_once run colour colours = sum_by_push (counted run) colours colour

pub posts_count : PostsCount
posts_count run colour copies = (copies_count_once run colour copies.posted, refl)

pub receipts_count : ReceiptsCount
receipts_count run colour copies = (copies_count_once run colour copies.received, refl)

pub old_count-append : (run : ℕ) (colours more : List ℕ) → old_count run (colours ++ more) ≡ old_count run colours + old_count run more
old_count-append run colours more = sum_by-append (counted run) colours more

pub counts_keep_growing : CountsKeepGrowing
counts_keep_growing run colours more = omega (arith, old_count-append run colours more)

counted_later : (run later colour : ℕ) → run ≤ later → counted run colour ≤ counted later colour
counted_later run later colour le = grind (arith, nat_tests)

pub later_runs_count_more : LaterRunsCountMore
later_runs_count_more run later colours le = sum_by-le-sum_by (counted run) (counted later) colours (λ c. counted_later run later c le)

pub all_colours_get_old : AllColoursGetOld
all_colours_get_old run [] below = refl
all_colours_get_old run (c ∷ cs) below =
    let one : counted run c ≡ 1 = ap (λ b. cond b 1 0) (lt-ltb c run (All-head (λ x. x < run) c cs below)) in
    let rest : old_count run cs ≡ length cs = all_colours_get_old run cs (All-tail (λ x. x < run) c cs below) in
    omega (arith, sum_by-cons (counted run) c cs)

none_old : (run : ℕ) (colours : List ℕ) → All (λ c. run ≤ c) colours → old_count run colours ≡ 0
none_old run [] above = refl
none_old run (c ∷ cs) above =
    let none : counted run c ≡ 0 = ap (λ b. cond b 1 0) (le-ltb c run (All-head (λ x. run ≤ x) c cs above)) in
    let rest : old_count run cs ≡ 0 = none_old run cs (All-tail (λ x. run ≤ x) c cs above) in
    omega (arith, sum_by-cons (counted run) c cs)

pub new_copies_do_not_count : NewCopiesDoNotCount
new_copies_do_not_count run colours more above = omega (arith, old_count-append run colours more, none_old run more above)

-- what is older than the next colour is older than a colour, or has it
older_or_own : (x c : ℕ) (a b e : Bool) → nat_lt x (c + 1) ≡ a → nat_lt x c ≡ b → (x == c) ≡ e → cond a 1 0 ≡ cond b 1 0 + cond e 1 0
older_or_own x c true true true p q r = absurd (grind (arith, p, q, r))
older_or_own x c true true false p q r = refl
older_or_own x c true false true p q r = refl
older_or_own x c true false false p q r = absurd (grind (arith, p, q, r))
older_or_own x c false true true p q r = absurd (grind (arith, p, q, r))
older_or_own x c false true false p q r = absurd (grind (arith, p, q, r))
older_or_own x c false false true p q r = absurd (grind (arith, p, q, r))
older_or_own x c false false false p q r = refl

-- a run later, the copies of one more colour are old
pub old_more : (c : ℕ) (xs : List ℕ) → old_count (c + 1) xs ≡ old_count c xs + count_by (λ (x : ℕ). x == c) xs
old_more c [] = refl
old_more c (x ∷ xs) =
    let a = sum_by-cons (counted (c + 1)) x xs in
    let b = sum_by-cons (counted c) x xs in
    let e = sum_by-cons (λ (y : ℕ). cond (y == c) 1 0) x xs in
    let one = older_or_own x c (nat_lt x (c + 1)) (nat_lt x c) (x == c) refl refl refl in
    let more = old_more c xs in
    omega (arith, a, b, e, one, more)
