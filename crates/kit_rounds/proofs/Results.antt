-- Results of rounds, and the runs that they make.
use Rattle.std.proofs.Common.{subst, ◌-◌, ◌≡◌, ℕ, zero, suc, ◌+◌, ◌<◌, ◌≤◌, Bool, true, false, cond, ◌==◌, List, min, arith, refl, sym, ap, ◌∙◌, eq-eqb}
use Rattle.std.specs.List.{range_with_len, filter}
use Rattle.kit_model.specs.declared.share.Share.{Share}
use Rattle.kit_model.specs.Blocks.{everybody, round_result, share_sum_over}
use Rattle.kit_model.proofs.Joining.{groups_decide}
use Rattle.kit_model.proofs.Sieves.{least, least_le, all_pass}
use Rattle.kit_rounds.specs.Rounds.{run_after}

-- a run goes on, or the next begins
pub run_next : (results : ℕ → Share) (k : ℕ) → (run_after results k ≤ run_after results (suc k)) × (run_after results (suc k) ≤ run_after results k + 1)
run_next results k = step ((results k).out == (results k).inn) (run_after results k)
  where
    step : (b : Bool) (r : ℕ) → (r ≤ cond b (r + 1) r) × (cond b (r + 1) r ≤ r + 1)
    step true r = (omega arith, omega arith)
    step false r = (omega arith, omega arith)

pub run_ended : (results : ℕ → Share) (k : ℕ) → (results k).out ≡ (results k).inn → run_after results (suc k) ≡ run_after results k + 1
run_ended results k e = ap (λ b. cond b (run_after results k + 1) (run_after results k)) (eq-eqb (results k).out (results k).inn e)

-- runs do not fall
pub runs_rise : (results : ℕ → Share) (k more : ℕ) → run_after results k ≤ run_after results (k + more)
runs_rise results k zero = ap_le (omega arith)
  where
    ap_le : k ≡ k + 0 → run_after results k ≤ run_after results (k + 0)
    ap_le e = omega (arith, ap (run_after results) e)
runs_rise results k (suc more) =
    let e : k + suc more ≡ suc (k + more) = omega arith in
    omega (arith, ap (run_after results) e, (run_next results (k + more)).0, runs_rise results k more)

pub run_within : (results : ℕ → Share) (k l : ℕ) → k ≤ l → run_after results k ≤ run_after results l
run_within results k l le = omega (arith, runs_rise results k (l - k), ap (run_after results) (sum le))
  where
    sum : k ≤ l → k + (l - k) ≡ l
    sum h = omega arith

-- runs depend on the results of the rounds before
pub same_runs : (f g : ℕ → Share) (k : ℕ) → ((l : ℕ) → l < k → f l ≡ g l) → run_after f k ≡ run_after g k
same_runs f g zero h = refl
same_runs f g (suc k) h =
    let now : f k ≡ g k = h k (omega arith) in
    ap (λ (s : Share). cond (s.out == s.inn) (run_after f k + 1) (run_after f k)) now
    ∙ ap (λ r. cond ((g k).out == (g k).inn) (r + 1) r) (same_runs f g k (λ l lt. h l (omega arith)))

all_of : (n : ℕ) → filter (λ _. true) (everybody n) ≡ everybody n
all_of n = all_pass (λ _. true) 0 n (λ y low lt. refl)

-- the low of a result is at most each low
pub result_low_le : (share : ℕ → Share) (n j : ℕ) → j < n → (round_result n share).low ≤ (share j).low
result_low_le share n j lt =
    let f : ℕ → ℕ = λ y. (share y).low in
    let P : List ℕ → Type 0 = λ ys. least f (f 0) ys ≤ f j in
    subst P (all_of n) (least_le f (λ _. true) (f 0) j 0 n refl (omega arith) (omega arith))

pub least_from : (f : ℕ → ℕ) (a v low len : ℕ) → v ≤ a → ((y : ℕ) → y < low + len → v ≤ f y) → v ≤ least f a (range_with_len low len)
least_from f a v low zero h each = h
least_from f a v low (suc len) h each = least_from f (min a (f low)) v (low + 1) len (omega (arith, each low (omega arith))) (λ y lt. each y (omega arith))

-- and is the greatest such
pub result_low_greatest : (share : ℕ → Share) (n v : ℕ) → 1 ≤ n → ((j : ℕ) → j < n → v ≤ (share j).low) → v ≤ (round_result n share).low
result_low_greatest share n v one each = least_from (λ y. (share y).low) (share 0).low v 0 n (each 0 (omega arith)) (λ y lt. each y (omega arith))

-- a result depends on what each contributed
pub same_result : (n : ℕ) (share other : ℕ → Share) → 0 < n → ((j : ℕ) → j < n → share j ≡ other j) → round_result n share ≡ round_result n other
same_result n share other some h =
    ap (share_sum_over share 0) (sym (all_of n)) ∙ groups_decide n share other (λ _. true) 0 (h 0 some) (λ y lt _. h y lt) ∙ ap (share_sum_over other 0) (all_of n)
