-- How the buckets grow.
use Rattle.std.proofs.Common.{◌≡◌, ℕ, zero, suc, ◌+◌, ◌*◌, ◌<◌, ◌≤◌, true, false, cond, arith, refl, sym, ap, ◌∙◌, nat_lt, List, length, take, get_or}
use Rattle.std.specs.List.{fold}
use Rattle.std.proofs.lemmas.List.Sums.{fold_more}
use Rattle.kit_queue.specs.declared.entry.Entry.{Entry}
use Rattle.kit_calendar.specs.Buckets.{doubled}

-- a test of numbers that holds
is_below : (a b : ℕ) → a < b → nat_lt a b ≡ true
is_below a b h = grind arith

-- and one that does not
not_below : (a b : ℕ) → b ≤ a → nat_lt a b ≡ false
not_below a b h = grind arith

-- more doublings than are needed change nothing
enough : (f g room buckets : ℕ) → 0 < buckets → room ≤ buckets + f → room ≤ buckets + g → doubled f room buckets ≡ doubled g room buckets
enough zero zero room b s l r = refl
enough zero (suc g) room b s l r = sym (ap (λ t. cond t (doubled g room (2 * b)) b) (not_below (2 * b) room (omega arith)))
enough (suc f) zero room b s l r = ap (λ t. cond t (doubled f room (2 * b)) b) (not_below (2 * b) room (omega arith))
enough (suc f) (suc g) room b s l r = ap (λ ys. cond (nat_lt (2 * b) room) ys b) (enough f g room (2 * b) (omega arith) (omega arith) (omega arith))

-- where the entries are more than twice the buckets they are doubled
pub doubles : (room buckets : ℕ) → 0 < buckets → 2 * buckets < room → doubled room room (2 * buckets) ≡ doubled room room buckets
doubles zero b s h = absurd (omega arith)
doubles (suc n) b s h =
    enough (suc n) n (suc n) (2 * b) (omega arith) (omega arith) (omega arith)
    ∙ sym (ap (λ t. cond t (doubled n (suc n) (2 * b)) b) (is_below (2 * b) (suc n) h))

-- elsewhere they stay
pub stays : (room buckets : ℕ) → room ≤ 2 * buckets → doubled room room buckets ≡ buckets
stays zero b h = refl
stays (suc n) b h = ap (λ t. cond t (doubled n (suc n) (2 * b)) b) (not_below (2 * b) (suc n) h)

-- what is gathered of the entries so far and of the next
pub folded_more : (f : ℕ → Entry → ℕ) (time : ℕ) (es ys : List Entry) (n : ℕ) (d : Entry) (m then : ℕ) → ys ≡ es → n < length ys → m ≡ fold f time (take n es) → then ≡ f m (get_or ys n d) → then ≡ fold f time (take (n + 1) es)
folded_more f time es ys n d m then same l so h =
    h ∙ ap (λ k. f k (get_or ys n d)) (so ∙ ap (λ zs. fold f time (take n zs)) (sym same)) ∙ sym (fold_more f time ys n d l) ∙ ap (λ zs. fold f time (take (n + 1) zs)) same
