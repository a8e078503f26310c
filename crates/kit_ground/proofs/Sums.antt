-- Sums over the federates.
use Rattle.std.proofs.Common.{◌≡◌, ◌≢◌, ℕ, zero, suc, ◌+◌, ◌<◌, ◌≤◌, refl, sym, ap, ◌∙◌, arith}
use mathlib.Core.Logic.{dite}
use native.Mathlib.Decide.{ℕ_discrete}
use Rattle.kit_ground.specs.Sets.{sum_to}

pub sum_same : (f g : ℕ → ℕ) (n : ℕ) → ((j : ℕ) → j < n → f j ≡ g j) → sum_to f n ≡ sum_to g n
sum_same f g zero h = refl
sum_same f g (suc n) h = let a = sum_same f g n (λ j lt. h j (omega arith)) in let b = h n (omega arith) in omega arith

-- one member changes
pub sum_change : (f g : ℕ → ℕ) (n m : ℕ) → m < n → ((j : ℕ) → j < n → j ≢ m → f j ≡ g j) → sum_to g n + f m ≡ sum_to f n + g m
sum_change f g zero m lt h = absurd (omega arith)
sum_change f g (suc n) m lt h = dite (ℕ_discrete m n)
    (λ same. let a = sum_same f g n (λ j l. h j (omega arith) (omega arith)) in let p : f m ≡ f n = ap f same in let q : g m ≡ g n = ap g same in omega arith)
    (λ other. let a = sum_change f g n m (omega arith) (λ j l. h j (omega arith)) in let b = h n (omega arith) (λ e. other (sym e)) in omega arith)

pub sum_none : (f : ℕ → ℕ) (n : ℕ) → sum_to f n ≡ 0 → (j : ℕ) → j < n → f j ≡ 0
sum_none f zero e j lt = absurd (omega arith)
sum_none f (suc n) e j lt = dite (ℕ_discrete j n) (λ same. ap f same ∙ omega arith) (λ other. sum_none f n (omega arith) j (omega arith))

pub sum_at_most : (f : ℕ → ℕ) (n : ℕ) → ((j : ℕ) → j < n → f j ≤ 1) → sum_to f n ≤ n
sum_at_most f zero h = omega arith
sum_at_most f (suc n) h = let a = sum_at_most f n (λ j lt. h j (omega arith)) in let b = h n (omega arith) in omega arith

-- a member is no more than the sum
pub sum_has : (f : ℕ → ℕ) (n j : ℕ) → j < n → f j ≤ sum_to f n
sum_has f zero j lt = absurd (omega arith)
sum_has f (suc n) j lt = dite (ℕ_discrete j n) (λ same. let p : f j ≡ f n = ap f same in omega arith) (λ other. let a = sum_has f n j (omega arith) in omega arith)

pub sum_zero : (f : ℕ → ℕ) (n : ℕ) → ((j : ℕ) → j < n → f j ≡ 0) → sum_to f n ≡ 0
sum_zero f zero h = refl
sum_zero f (suc n) h = let a = sum_zero f n (λ j lt. h j (omega arith)) in let b = h n (omega arith) in omega arith
