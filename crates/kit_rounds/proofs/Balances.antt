-- The counts of a full round.
use Rattle.std.proofs.Common.{◌≡◌, ℕ, ◌+◌, ◌<◌, ◌≤◌, Bool, false, take, drop, arith, sym, ap, ◌∙◌}
use Rattle.std.specs.List.{count_by, sum_by}
use Rattle.std.proofs.lemmas.Bool.{le-ltb}
use Rattle.kit_model.specs.Blocks.{everybody}
use Rattle.kit_rounds.specs.declared.contribution.Contribution.{Contribution}
use Rattle.kit_rounds.specs.Ledgers.{Copy, Ledger, at_round}
use Rattle.kit_rounds.specs.Channels.{passing, all_posts, all_receipts}
use Rattle.kit_rounds.specs.Rounds.{run_of, IsFaithful}
use Rattle.kit_rounds.specs.Rule.{received_after}
use Rattle.kit_rounds.specs.Laws.{is_old_stamp, all_late, FullRoundBalances}
use Rattle.kit_rounds.proofs.Sums.{sum_same, sum_plus}
use Rattle.kit_rounds.proofs.Lists.{weaker, count_split, none_passes, old_passing}
use Rattle.kit_rounds.proofs.Ways.{way_balances}

-- a faithful contribution counts all old copies that were ever posted
pub out_is : (l : Ledger) (c : Contribution) → IsFaithful l c → c.share.out ≡ passing (is_old_stamp c.run) l.posted
out_is l c f =
    let old : Copy → Bool = λ x. is_old_stamp c.run x.stamp in
    let late : count_by old (drop c.posts l.posted) ≡ 0 =
    none_passes old (drop c.posts l.posted) (weaker (λ (x : Copy). c.run ≤ x.stamp.colour) (λ x. old x ≡ false) (drop c.posts l.posted) (λ x le. le-ltb x.stamp.colour c.run le) f.later) in
    omega (arith, f.out, old_passing c.run (take c.posts l.posted), count_split old c.posts l.posted, late)

-- and the old copies that were received, but for those that came later
pub inn_is : (l : Ledger) (c : Contribution) → IsFaithful l c → passing (is_old_stamp c.run) l.received ≡ c.share.inn + passing (is_old_stamp c.run) (drop c.receipts l.received)
inn_is l c f =
    omega (arith, f.inn, old_passing c.run (take c.receipts l.received), count_split (λ (x : Copy). is_old_stamp c.run x.stamp) c.receipts l.received)

pub full_round_balances : FullRoundBalances
full_round_balances n ledgers done k rule full =
    let run = run_of n ledgers k in
    let p = is_old_stamp run in
    let faithful : (j : ℕ) → j < n → IsFaithful (ledgers j) (at_round (ledgers j) k) = λ j lt. rule.rounds.faithful j k lt (full j lt) in
    let runs : (j : ℕ) → j < n → (at_round (ledgers j) k).run ≡ run = λ j lt. rule.rounds.runs j k lt (full j lt) in
    let outs : sum_by (λ j. (at_round (ledgers j) k).share.out) (everybody n) ≡ all_posts p n ledgers =
    sum_same (λ j. (at_round (ledgers j) k).share.out) (λ j. passing p (ledgers j).posted) n
    (λ j lt. out_is (ledgers j) (at_round (ledgers j) k) (faithful j lt) ∙ ap (λ r. passing (is_old_stamp r) (ledgers j).posted) (runs j lt)) in
    let inns : all_receipts p n ledgers ≡ sum_by (λ j. (at_round (ledgers j) k).share.inn) (everybody n) + all_late run n ledgers k =
    sum_same (λ j. passing p (ledgers j).received) (λ j. (at_round (ledgers j) k).share.inn + passing p (received_after (ledgers j) k)) n
    (λ j lt.
    ap (λ r. passing (is_old_stamp r) (ledgers j).received) (sym (runs j lt)) ∙ inn_is (ledgers j) (at_round (ledgers j) k) (faithful j lt)
    ∙ ap (λ r. (at_round (ledgers j) k).share.inn + passing (is_old_stamp r) (received_after (ledgers j) k)) (runs j lt))
    ∙ sum_plus (λ j. (at_round (ledgers j) k).share.inn) (λ j. passing p (received_after (ledgers j) k)) (everybody n) in
    omega (arith, outs, inns, way_balances p n ledgers rule.channels)
