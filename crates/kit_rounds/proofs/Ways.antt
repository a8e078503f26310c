-- What was posted was received or is on its way.
use Rattle.std.proofs.Common.{◌≡◌, ℕ, ◌+◌, ◌<◌, ◌≤◌, Bool, true, false, cond, ◌==◌, List, [], ◌∷◌, map, arith, refl, sym, ap, ◌∙◌}
use Rattle.std.specs.List.{All, count_by, sum_by, filter}
use Rattle.std.proofs.lemmas.List.Elements.{All-head, All-tail}
use Rattle.std.proofs.lemmas.List.Sums.{sum_by-cons, sum_by-le-sum_by}
use Rattle.kit_model.specs.Blocks.{everybody}
use Rattle.kit_rounds.specs.Ledgers.{Stamp, Copy, Ledger}
use Rattle.kit_rounds.specs.Channels.{same_stamp, IsUnreceived, Channel, Channels, stamps_with, on_way, passing, all_on_way}
use Rattle.kit_rounds.specs.Laws.{WayBalances}
use Rattle.kit_rounds.proofs.Sums.{sum_same, sum_plus, sum_zero, sum_swap, sum_one, term_at_most}
use Rattle.kit_rounds.proofs.Stamps.{one_if, weight, stamps_are, count_all_taken, count_with}

-- one copy more, in the count for each peer
peer_step : (p : Stamp → Bool) (c : Copy) (cs : List Copy) (j : ℕ)
    → count_by p (stamps_with j (c ∷ cs)) ≡ cond (c.peer == j) (weight p c.stamp) 0 + count_by p (stamps_with j cs)
peer_step p c cs j = step (c.peer == j) (filter (λ (x : Copy). x.peer == j) cs)
  where
    step : (b : Bool) (rest : List Copy) → count_by p (map (λ (x : Copy). x.stamp) (cond b (c ∷ rest) rest)) ≡ cond b (weight p c.stamp) 0 + count_by p (map (λ (x : Copy). x.stamp) rest)
    step true rest = sum_by-cons (weight p) c.stamp (map (λ (x : Copy). x.stamp) rest)
    step false rest = omega arith

-- copies are counted peer by peer
pub by_peers : (p : Stamp → Bool) (n : ℕ) (cs : List Copy) → All (λ (c : Copy). c.peer < n) cs
    → passing p cs ≡ sum_by (λ j. count_by p (stamps_with j cs)) (everybody n)
by_peers p n [] within = sym (sum_zero (λ j. count_by p (stamps_with j [])) (everybody n) (λ j. refl))
by_peers p n (c ∷ cs) within =
    let one = sum_one n c.peer (weight p c.stamp) (All-head (λ (x : Copy). x.peer < n) c cs within) in
    let rest = by_peers p n cs (All-tail (λ (x : Copy). x.peer < n) c cs within) in
    let split = sum_plus (λ j. cond (c.peer == j) (weight p c.stamp) 0) (λ j. count_by p (stamps_with j cs)) (everybody n) in
    let same = sum_same (λ j. count_by p (stamps_with j (c ∷ cs))) (λ j. cond (c.peer == j) (weight p c.stamp) 0 + count_by p (stamps_with j cs)) n (λ j lt. peer_step p c cs j) in
    omega (arith, one, rest, split, same, sum_by-cons (λ (x : Copy). weight p x.stamp) c cs)

-- what was received from i of what i posted, in stamps
pub pair_within : (ledgers : ℕ → Ledger) (i j : ℕ) → Channel ledgers i j → (s : Stamp)
    → count_by (λ t. same_stamp t s) (stamps_with i (ledgers j).received) ≤ count_by (λ t. same_stamp t s) (stamps_with j (ledgers i).posted)
pair_within ledgers i j h s =
    omega (arith, h s, count_with (λ t. same_stamp t s) i (ledgers j).received, count_with (λ t. same_stamp t s) j (ledgers i).posted)

-- one channel balances
pub pair_balances : (p : Stamp → Bool) (ledgers : ℕ → Ledger) (i j : ℕ) → Channel ledgers i j
    → count_by p (stamps_with j (ledgers i).posted) ≡ count_by p (stamps_with i (ledgers j).received) + count_by p (on_way ledgers i j)
pair_balances p ledgers i j h = count_all_taken p (stamps_with i (ledgers j).received) (stamps_with j (ledgers i).posted) (pair_within ledgers i j h)

pub way_balances : WayBalances
way_balances p n ledgers channels =
    let posts = sum_same (λ i. passing p (ledgers i).posted) (λ i. sum_by (λ j. count_by p (stamps_with j (ledgers i).posted)) (everybody n)) n
    (λ i lt. by_peers p n (ledgers i).posted (channels.posted i lt)) in
    let receipts = sum_same (λ j. passing p (ledgers j).received) (λ j. sum_by (λ i. count_by p (stamps_with i (ledgers j).received)) (everybody n)) n
    (λ j lt. by_peers p n (ledgers j).received (channels.received j lt)) in
    let swap = sum_swap (λ i j. count_by p (stamps_with i (ledgers j).received)) (everybody n) (everybody n) in
    let pairs = sum_same (λ i. sum_by (λ j. count_by p (stamps_with j (ledgers i).posted)) (everybody n))
    (λ i. sum_by (λ j. count_by p (stamps_with i (ledgers j).received)) (everybody n) + sum_by (λ j. count_by p (on_way ledgers i j)) (everybody n)) n
    (λ i here. sum_same (λ j. count_by p (stamps_with j (ledgers i).posted)) (λ j. count_by p (stamps_with i (ledgers j).received) + count_by p (on_way ledgers i j)) n
    (λ j there. pair_balances p ledgers i j (channels.each i j here there))
    ∙ sum_plus (λ j. count_by p (stamps_with i (ledgers j).received)) (λ j. count_by p (on_way ledgers i j)) (everybody n)) in
    let split = sum_plus (λ i. sum_by (λ j. count_by p (stamps_with i (ledgers j).received)) (everybody n)) (λ i. sum_by (λ j. count_by p (on_way ledgers i j)) (everybody n)) (everybody n) in
    omega (arith, posts, receipts, swap, pairs, split)

-- a stamp that is this one passes where this one does
lighter : (p : Stamp → Bool) (s : Stamp) → p s ≡ true → (t : Stamp) → weight (λ u. same_stamp u s) t ≤ weight p t
lighter p s passes t = step (same_stamp t s) (stamps_are t s)
  where
    step : (b : Bool) → (b ≡ true → t ≡ s) → cond b 1 0 ≤ weight p t
    step true is = omega (arith, ap (weight p) (is refl), ap one_if passes)
    step false is = omega arith

-- where nothing that passes is on its way, nothing that passes is unreceived
pub none_on_way : (p : Stamp → Bool) (n : ℕ) (ledgers : ℕ → Ledger) (i j : ℕ) (s : Stamp) → Channels n ledgers → i < n → j < n
    → all_on_way p n ledgers ≡ 0 → p s ≡ true → IsUnreceived ledgers i j s → ⊥
none_on_way p n ledgers i j s channels here there none passes unreceived =
    let same : Stamp → Bool = λ t. same_stamp t s in
    let one : 0 < count_by same (on_way ledgers i j) =
    omega (arith, pair_balances same ledgers i j (channels.each i j here there), count_with same i (ledgers j).received, count_with same j (ledgers i).posted) in
    let more : count_by same (on_way ledgers i j) ≤ count_by p (on_way ledgers i j) =
    sum_by-le-sum_by (weight same) (weight p) (on_way ledgers i j) (λ t. lighter p s passes t) in
    let row = term_at_most (λ j. count_by p (on_way ledgers i j)) n j there in
    let all = term_at_most (λ i. sum_by (λ j. count_by p (on_way ledgers i j)) (everybody n)) n i here in
    omega (arith, one, more, row, all)
