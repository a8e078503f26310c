-- Laws of the rounds. Each step keeps the rule; what a full round tells; what a federate knows.
use Rattle.std.specs.Prelude.{◌≡◌, ◌↔◌, ℕ, suc, ◌+◌, ◌<◌, ◌≤◌, Bool, List, [], ◌++◌, length, All, count_by, sum_by, slice_set}
use Rattle.kit_model.specs.declared.share.Share.{Share}
use Rattle.kit_model.specs.Blocks.{everybody}
use Rattle.kit_model.specs.Counts.{is_old}
use Rattle.kit_rounds.specs.declared.contribution.Contribution.{Contribution}
use Rattle.kit_rounds.specs.Ledgers.{Stamp, Copy, Ledger, in_list, at_round, IsChanged}
use Rattle.kit_rounds.specs.Channels.{posts_of, receipts_of, same_stamp, Channel, IsUnreceived, Channels, stamps_with, passing, all_posts, all_receipts, all_on_way}
use Rattle.kit_rounds.specs.Rounds.{HasContributed, result_of, run_after, run_of, EndsRun}
use Rattle.kit_rounds.specs.Rule.{received_after, IsBound, RoundRule}
use Rattle.kit_rounds.specs.Steps.{Posts, Receives, Rises, Contributes}

-- whether a stamp is old in a run
abbrev pub is_old_stamp : ℕ → Stamp → Bool
is_old_stamp run s = is_old run s.colour

-- of the stamps that pass a test, those posted are those received and those on their way
abbrev pub WayBalances : Type 0
WayBalances = (p : Stamp → Bool) (n : ℕ) (ledgers : ℕ → Ledger) → Channels n ledgers
    → all_posts p n ledgers ≡ all_receipts p n ledgers + all_on_way p n ledgers

-- how many old copies those who contributed to a round received after that
abbrev pub all_late : ℕ → ℕ → (ℕ → Ledger) → ℕ → ℕ
all_late run n ledgers k = sum_by (λ j. passing (is_old_stamp run) (received_after (ledgers j) k)) (everybody n)

-- the counts of a full round differ by the old copies that came late or are on their way
abbrev pub FullRoundBalances : Type 0
FullRoundBalances = (n : ℕ) (ledgers : ℕ → Ledger) (done k : ℕ) → RoundRule n ledgers done → ((j : ℕ) → j < n → HasContributed (ledgers j) k)
    → let run = run_of n ledgers k in
    (result_of n ledgers k).out ≡ (result_of n ledgers k).inn + all_late run n ledgers k + all_on_way (is_old_stamp run) n ledgers

-- a post keeps the rule
abbrev pub PostsKeep : Type 0
PostsKeep = (n i done : ℕ) (c : Copy) (ledgers after : ℕ → Ledger) → RoundRule n ledgers done → i < n → IsChanged i ledgers after
    → Posts n c (ledgers i) (after i) → RoundRule n after done

-- so does the receipt of a copy that is on its way
abbrev pub ReceiptsKeep : Type 0
ReceiptsKeep = (n i j done : ℕ) (s : Stamp) (ledgers after : ℕ → Ledger) → RoundRule n ledgers done → i < n → j < n → IsChanged j ledgers after
    → IsUnreceived ledgers i j s → Receives i s (ledgers j) (after j) → RoundRule n after done

-- and the rise of a promise
abbrev pub RisesKeep : Type 0
RisesKeep = (n i done : ℕ) (ledgers after : ℕ → Ledger) → RoundRule n ledgers done → i < n → IsChanged i ledgers after
    → Rises (ledgers i) (after i) → RoundRule n after done

-- a contribution to the round that is under way keeps it
abbrev pub ContributionsKeep : Type 0
ContributionsKeep = (n i done : ℕ) (c : Contribution) (ledgers after : ℕ → Ledger) → RoundRule n ledgers done → i < n → IsChanged i ledgers after
    → length (ledgers i).contributions ≡ done → c.run ≡ run_of n ledgers done → Contributes c (ledgers i) (after i) → RoundRule n after done

-- a round to which all have contributed is done, and the next is under way
abbrev pub FullRoundsClose : Type 0
FullRoundsClose = (n done : ℕ) (ledgers : ℕ → Ledger) → RoundRule n ledgers done → ((j : ℕ) → j < n → HasContributed (ledgers j) done) → RoundRule n ledgers (suc done)

-- where the sums of a full round are equal, its low is a bound
abbrev pub EqualSumsBound : Type 0
EqualSumsBound = (n done : ℕ) (ledgers : ℕ → Ledger) → RoundRule n ledgers done → ((j : ℕ) → j < n → HasContributed (ledgers j) done)
    → EndsRun n ledgers done → IsBound n ledgers (result_of n ledgers done).low

-- the low is the greatest number that is at most each contribution's low
abbrev pub LowIsGreatest : Type 0
LowIsGreatest = (n k v : ℕ) (ledgers : ℕ → Ledger) → 0 < n
    → (((j : ℕ) → j < n → v ≤ (at_round (ledgers j) k).share.low) ↔ (v ≤ (result_of n ledgers k).low))

-- bounds do not fall from one run to a later one
abbrev pub BoundsRise : Type 0
BoundsRise = (n done k l : ℕ) (ledgers : ℕ → Ledger) → 0 < n → RoundRule n ledgers done → k < l → l < done → EndsRun n ledgers k → EndsRun n ledgers l
    → (result_of n ledgers k).low ≤ (result_of n ledgers l).low

-- the rule holds of ledgers with no entry
abbrev pub NewLedgersKeep : Type 0
NewLedgersKeep = (n : ℕ) (ledgers : ℕ → Ledger)
    → ((j : ℕ) → j < n → (ledgers j).colour ≡ 0) → ((j : ℕ) → j < n → (ledgers j).posted ≡ [])
    → ((j : ℕ) → j < n → (ledgers j).received ≡ []) → ((j : ℕ) → j < n → (ledgers j).contributions ≡ []) → RoundRule n ledgers 0

-- two colours differ by one at most
abbrev pub ColoursAreNear : Type 0
ColoursAreNear = (n done i j : ℕ) (ledgers : ℕ → Ledger) → RoundRule n ledgers done → i < n → j < n → (ledgers i).colour ≤ (ledgers j).colour + 1

-- and no copy on its way has a colour that is greater than the receiver's by more than one
abbrev pub CopiesAreNear : Type 0
CopiesAreNear = (n done i j : ℕ) (s : Stamp) (ledgers : ℕ → Ledger) → RoundRule n ledgers done → i < n → j < n → IsUnreceived ledgers i j s
    → s.colour ≤ (ledgers j).colour + 1

-- where each has contributed at least as often as i, the next round of i is under way: so it is for one
-- that has contributed to no round, and for one that has the result of each round that it contributed to
abbrev pub OpensNext : Type 0
OpensNext = (n done i : ℕ) (ledgers : ℕ → Ledger) → RoundRule n ledgers done → i < n
    → ((j : ℕ) → j < n → length (ledgers i).contributions ≤ length (ledgers j).contributions) → RoundRule n ledgers (length (ledgers i).contributions)

abbrev pub OpensAtFirst : Type 0
OpensAtFirst = (n done i : ℕ) (ledgers : ℕ → Ledger) → RoundRule n ledgers done → i < n → length (ledgers i).contributions ≡ 0 → RoundRule n ledgers 0

abbrev pub OpensWithResult : Type 0
OpensWithResult = (n done i k : ℕ) (ledgers : ℕ → Ledger) → RoundRule n ledgers done → i < n → length (ledgers i).contributions ≡ suc k
    → ((j : ℕ) → j < n → HasContributed (ledgers j) k) → RoundRule n ledgers (suc k)

-- who knows the results of the rounds before knows the run
abbrev pub RunIsKnown : Type 0
RunIsKnown = (n k : ℕ) (ledgers : ℕ → Ledger) (results : ℕ → Share) → ((l : ℕ) → l < k → results l ≡ result_of n ledgers l) → run_after results k ≡ run_of n ledgers k

-- a contribution to the next round, by one who knows the results of those before
abbrev pub NextContributionsKeep : Type 0
NextContributionsKeep = (n done i : ℕ) (c : Contribution) (ledgers after : ℕ → Ledger) (results : ℕ → Share) → RoundRule n ledgers done → i < n → IsChanged i ledgers after
    → ((j : ℕ) → j < n → length (ledgers i).contributions ≤ length (ledgers j).contributions)
    → ((l : ℕ) → l < length (ledgers i).contributions → results l ≡ result_of n ledgers l)
    → c.run ≡ run_after results (length (ledgers i).contributions) → Contributes c (ledgers i) (after i) → RoundRule n after (length (ledgers i).contributions)

-- contributions last: further ones leave those that were made
abbrev pub ContributionsLast : Type 0
ContributionsLast = (j k : ℕ) (ledgers after : ℕ → Ledger) (more : List Contribution) → (after j).contributions ≡ (ledgers j).contributions ++ more
    → HasContributed (ledgers j) k → HasContributed (after j) k × (at_round (after j) k ≡ at_round (ledgers j) k)

-- and with them the result of a full round
abbrev pub ResultsLast : Type 0
ResultsLast = (n k : ℕ) (ledgers after : ℕ → Ledger) → 0 < n → ((j : ℕ) → j < n → HasContributed (ledgers j) k)
    → ((j : ℕ) → j < n → (more : List Contribution) × ((after j).contributions ≡ (ledgers j).contributions ++ more)) → result_of n after k ≡ result_of n ledgers k

-- where what i posted to j is what j received from i and others, in any order, the others are on their way
abbrev pub OthersAreUnreceived : Type 0
OthersAreUnreceived = (ledgers : ℕ → Ledger) (i j : ℕ) (others : List Stamp)
    → ((s : Stamp) → posts_of ledgers i j s ≡ receipts_of ledgers i j s + count_by (λ t. same_stamp t s) others)
    → Channel ledgers i j × All (IsUnreceived ledgers i j) others

-- so they are where they stand behind what was received
abbrev pub RestIsUnreceived : Type 0
RestIsUnreceived = (ledgers : ℕ → Ledger) (i j : ℕ) (others : List Stamp)
    → stamps_with j (ledgers i).posted ≡ stamps_with i (ledgers j).received ++ others
    → Channel ledgers i j × All (IsUnreceived ledgers i j) others

-- one ledger of a list is replaced
abbrev pub StepsInLists : Type 0
StepsInLists = (ledgers : List Ledger) (i : ℕ) (l : Ledger) → i < length ledgers
    → IsChanged i (in_list ledgers) (in_list (slice_set ledgers i l)) × (in_list (slice_set ledgers i l) i ≡ l)
