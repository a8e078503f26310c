-- What holds of each element of a list, and how many of its elements pass a test.
use Rattle.std.proofs.Common.{◌≡◌, ℕ, zero, suc, ◌+◌, ◌<◌, ◌≤◌, Bool, true, false, cond, List, [], ◌∷◌, ◌++◌, length, get_or, take, drop, arith, refl, sym, ap, subst, ◌∙◌, length-append}
use Rattle.std.specs.List.{All, count_by}
use Rattle.std.proofs.Math.ListN.{get_or-append}
use Rattle.std.proofs.lemmas.List.{take-append-drop, get_or_push}
use Rattle.std.proofs.lemmas.List.Elements.{All-nil, All-cons, All-head, All-tail}
use Rattle.std.proofs.lemmas.List.Sums.{sum_by-cons, sum_by-append, sum_by_push}
use Rattle.kit_model.specs.Counts.{is_old, old_count}
use Rattle.kit_rounds.specs.Ledgers.{Stamp, Copy, colours}
use Rattle.kit_rounds.specs.Channels.{is_copy, passing}
use Rattle.kit_rounds.specs.Laws.{is_old_stamp}
use Rattle.kit_rounds.proofs.Stamps.{one_if, copy_stamp}

pub all_front : {X : Type 0} (P : X → Type 0) (xs ys : List X) → All P (xs ++ ys) → All P xs
all_front P xs ys h k d lt =
    subst P (get_or-append xs ys d k lt) (h k d (omega (arith, length-append xs ys)))

pub all_drop_front : {X : Type 0} (P : X → Type 0) (at : ℕ) (xs ys : List X) → All P (drop at (xs ++ ys)) → All P (drop at xs)
all_drop_front P zero xs ys h = all_front P xs ys h
all_drop_front P (suc at) [] ys h = All-nil P
all_drop_front P (suc at) (x ∷ xs) ys h = all_drop_front P at xs ys h

pub all_last : {X : Type 0} (P : X → Type 0) (xs : List X) (y : X) → All P (xs ++ y ∷ []) → P y
all_last P xs y h = subst P (get_or_push xs y y (length xs) refl) (h (length xs) y (omega (arith, length-append xs (y ∷ []))))

pub all_none : {X : Type 0} (P : X → Type 0) (xs : List X) → xs ≡ [] → All P xs
all_none P xs e = subst (All P) (sym e) (All-nil P)

pub weaker : {X : Type 0} (P Q : X → Type 0) (xs : List X) → ((x : X) → P x → Q x) → All P xs → All Q xs
weaker P Q xs f h k d lt = f (get_or xs k d) (h k d lt)

-- counts grow with the list
pub count_front : {X : Type 0} (p : X → Bool) (xs ys : List X) → count_by p xs ≤ count_by p (xs ++ ys)
count_front p xs ys = omega (arith, sum_by-append (λ x. cond (p x) 1 0) xs ys)

-- one element more counts for itself
pub count_push : {X : Type 0} (p : X → Bool) (xs : List X) (y : X) → count_by p (xs ++ y ∷ []) ≡ count_by p xs + cond (p y) 1 0
count_push p xs y = sum_by_push (λ x. cond (p x) 1 0) xs y

pub count_split : {X : Type 0} (p : X → Bool) (k : ℕ) (xs : List X) → count_by p xs ≡ count_by p (take k xs) + count_by p (drop k xs)
count_split p k xs = ap (count_by p) (sym (take-append-drop k xs)) ∙ sum_by-append (λ x. cond (p x) 1 0) (take k xs) (drop k xs)

-- where none counts, none passes
pub none_counts : {X : Type 0} (p : X → Bool) (xs : List X) → count_by p xs ≡ 0 → All (λ x. p x ≡ false) xs
none_counts p [] e = All-nil (λ x. p x ≡ false)
none_counts p (x ∷ xs) e =
    All-cons (λ y. p y ≡ false) x xs (step (p x) refl) (none_counts p xs (omega (arith, sum_by-cons (λ y. cond (p y) 1 0) x xs)))
  where
    step : (b : Bool) → p x ≡ b → p x ≡ false
    step true is = absurd (omega (arith, sum_by-cons (λ y. cond (p y) 1 0) x xs, ap one_if is))
    step false is = is

-- where each fails, none counts
pub none_passes : {X : Type 0} (p : X → Bool) (xs : List X) → All (λ x. p x ≡ false) xs → count_by p xs ≡ 0
none_passes p [] h = refl
none_passes p (x ∷ xs) h =
    omega (arith, sum_by-cons (λ y. cond (p y) 1 0) x xs, ap one_if (All-head (λ y. p y ≡ false) x xs h), none_passes p xs (All-tail (λ y. p y ≡ false) x xs h))

-- old copies are counted by their colours
pub old_passing : (run : ℕ) (cs : List Copy) → old_count run (colours cs) ≡ passing (is_old_stamp run) cs
old_passing run [] = refl
old_passing run (c ∷ cs) =
    sum_by-cons (λ k. cond (is_old run k) 1 0) c.stamp.colour (colours cs)
    ∙ ap (λ m. cond (is_old run c.stamp.colour) 1 0 + m) (old_passing run cs)
    ∙ sym (sum_by-cons (λ (x : Copy). cond (is_old_stamp run x.stamp) 1 0) c cs)

-- the stamp of a copy that is counted is that of a copy in the list
pub counted_is : (Q : Stamp → Type 0) (peer : ℕ) (s : Stamp) (cs : List Copy) → All (λ (c : Copy). Q c.stamp) cs → 0 < count_by (is_copy peer s) cs → Q s
counted_is Q peer s [] h lt = absurd (omega arith)
counted_is Q peer s (c ∷ cs) h lt = step (is_copy peer s c) refl (counted_is Q peer s cs (All-tail (λ (x : Copy). Q x.stamp) c cs h))
  where
    step : (b : Bool) → is_copy peer s c ≡ b → (0 < count_by (is_copy peer s) cs → Q s) → Q s
    step true is more = subst Q (copy_stamp peer s c is) (All-head (λ (x : Copy). Q x.stamp) c cs h)
    step false is more = more (omega (arith, sum_by-cons (λ (x : Copy). cond (is_copy peer s x) 1 0) c cs, ap one_if is))
