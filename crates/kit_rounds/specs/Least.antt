-- The rule of the round that is under way with one number in place of any, and the balance of its old copies.
use Rattle.std.specs.Prelude.{◌≡◌, ◌==◌, ◌↔◌, ℕ, ◌+◌, ◌≤◌, nat_lt, Bool, if◌then◌else◌, min, List, ◌∷◌, length, map, filter, fold, sum_by}
use Rattle.std.specs.List.{flat_map}
use Rattle.kit_model.specs.Blocks.{everybody}
use Rattle.kit_model.specs.Counts.{is_old}
use Rattle.kit_rounds.specs.Ledgers.{Copy, Ledger, at_round}
use Rattle.kit_rounds.specs.Channels.{passing, all_posts, all_on_way}
use Rattle.kit_rounds.specs.Rounds.{run_of}
use Rattle.kit_rounds.specs.Rule.{received_after, IsBelow, IsAbove, RoundRule}
use Rattle.kit_rounds.specs.Laws.{is_old_stamp}

-- whether the federate contributed to the round
abbrev pub has_contributed : Ledger → ℕ → Bool
has_contributed l k = nat_lt k (length l.contributions)

abbrev pub times : List Copy → List ℕ
times cs = map (λ (c : Copy). c.stamp.time) cs

-- the numbers of a federate that contributed: its low, and the times of the old copies that came after;
-- and those of one that didn't: the times of its posts of the run's colour
abbrev pub numbers_of : ℕ → ℕ → Ledger → List ℕ
numbers_of run done l =
    if has_contributed l done then (at_round l done).share.low ∷ times (filter (λ c. is_old run c.stamp.colour) (received_after l done))
    else times (filter (λ c. c.stamp.colour == run) l.posted)

-- the least of all these and of one number more
abbrev pub least_number : ℕ → ℕ → ℕ → (ℕ → Ledger) → ℕ → ℕ
least_number top n run ledgers done = fold (λ a b. min a b) top (flat_map (λ j. numbers_of run done (ledgers j)) (everybody n))

-- it is the greatest number below the round, up to that one
abbrev pub LeastIsGreatest : Type 0
LeastIsGreatest = (top n run done w : ℕ) (ledgers : ℕ → Ledger)
    → ((w ≤ top) × IsBelow n run ledgers done w) ↔ (w ≤ least_number top n run ledgers done)

-- so the rule tells of it
abbrev pub LeastIsKept : Type 0
LeastIsKept = (top n done : ℕ) (ledgers : ℕ → Ledger) → RoundRule n ledgers done
    → IsAbove n (run_of n ledgers done) ledgers done (least_number top n (run_of n ledgers done) ledgers done)

-- and it alone tells the rule
abbrev pub LeastIsAll : Type 0
LeastIsAll = (top n run done : ℕ) (ledgers : ℕ → Ledger) → IsAbove n run ledgers done (least_number top n run ledgers done)
    → (w : ℕ) → w ≤ top → IsBelow n run ledgers done w → IsAbove n run ledgers done w

-- the old copies that were received by one who contributed: those counted by its contribution, and those
-- that came after it
abbrev pub counted_by : Ledger → ℕ → ℕ
counted_by l done = if has_contributed l done then (at_round l done).share.inn else 0

abbrev pub came_after : ℕ → Ledger → ℕ → ℕ
came_after run l done = if has_contributed l done then passing (is_old_stamp run) (received_after l done) else 0

-- and by one who didn't
abbrev pub came_to_others : ℕ → Ledger → ℕ → ℕ
came_to_others run l done = if has_contributed l done then 0 else passing (is_old_stamp run) l.received

-- the old copies that anybody posted, at any moment of a round
abbrev pub OldCopiesBalance : Type 0
OldCopiesBalance = (n done : ℕ) (ledgers : ℕ → Ledger) → RoundRule n ledgers done
    → let run = run_of n ledgers done in
    all_posts (is_old_stamp run) n ledgers
    ≡ sum_by (λ j. counted_by (ledgers j) done) (everybody n) + sum_by (λ j. came_after run (ledgers j) done) (everybody n)
    + sum_by (λ j. came_to_others run (ledgers j) done) (everybody n) + all_on_way (is_old_stamp run) n ledgers
