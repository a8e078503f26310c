-- What is kept of the rule where the contributions stay as they are.
use Rattle.std.proofs.Common.{◌≡◌, ℕ, suc, ◌<◌, ◌≤◌, ◌⊎◌, List, length, drop, sym, ap, subst, ◌∙◌}
use Rattle.std.specs.List.{All}
use mathlib.Core.Path.{fun_ext}
use Rattle.std.specs.Prelude.{slice_index_or}
use Rattle.kit_model.specs.declared.share.Share.{Share}
use Rattle.kit_model.specs.Blocks.{round_result}
use Rattle.kit_rounds.specs.declared.contribution.Contribution.{Contribution}
use Rattle.kit_rounds.specs.Ledgers.{Copy, Ledger, nothing, at_round, last_run}
use Rattle.kit_rounds.specs.Channels.{Channels}
use Rattle.kit_rounds.specs.Rounds.{HasContributed, result_of, run_after, run_of, EndsRun, IsFaithful, RoundsAt}
use Rattle.kit_rounds.specs.Rule.{received_after, IsNewTimed, IsBelow, IsAbove, IsBound, IsLasting, RoundRule}

-- the contributions of everybody stay
abbrev pub StayTheSame : (ℕ → Ledger) → (ℕ → Ledger) → Type 0
StayTheSame ledgers after = (j : ℕ) → (after j).contributions ≡ (ledgers j).contributions

pub same_results : (n : ℕ) (ledgers after : ℕ → Ledger) → StayTheSame ledgers after → (k : ℕ) → result_of n after k ≡ result_of n ledgers k
same_results n ledgers after same k = ap (round_result n) (fun_ext (λ j. ap (λ cs. (slice_index_or cs k nothing).share) (same j)))

pub same_run : (n : ℕ) (ledgers after : ℕ → Ledger) → StayTheSame ledgers after → (k : ℕ) → run_of n after k ≡ run_of n ledgers k
same_run n ledgers after same k = ap (λ f. run_after f k) (fun_ext (same_results n ledgers after same))

rounds_kept : (n : ℕ) (ledgers after : ℕ → Ledger) (done : ℕ) → StayTheSame ledgers after → ((j : ℕ) → (after j).colour ≡ (ledgers j).colour)
    → ((j k : ℕ) → j < n → HasContributed (ledgers j) k → IsFaithful (after j) (at_round (ledgers j) k)) → RoundsAt n ledgers done → RoundsAt n after done
rounds_kept n ledgers after done same colour faithful r = record {
  counted = λ j lt. subst (λ (cs : List Contribution). (length cs ≡ done) ⊎ (length cs ≡ suc done)) (sym (same j)) (r.counted j lt);
  runs = λ j k lt has.
      ap (λ cs. (slice_index_or cs k nothing).run) (same j) ∙ r.runs j k lt (subst (λ (cs : List Contribution). k < length cs) (same j) has)
      ∙ sym (same_run n ledgers after same k);
  coloured = λ j lt. colour j ∙ r.coloured j lt ∙ ap last_run (sym (same j));
  faithful = λ j k lt has.
      subst (λ cs. IsFaithful (after j) (slice_index_or cs k nothing)) (sym (same j)) (faithful j k lt (subst (λ (cs : List Contribution). k < length cs) (same j) has));
}

lows_kept : (n : ℕ) (ledgers after : ℕ → Ledger) (run v : ℕ) → StayTheSame ledgers after
    → ((j k : ℕ) → j < n → HasContributed (ledgers j) k → run < (at_round (ledgers j) k).run → v ≤ (at_round (ledgers j) k).share.low)
    → (j k : ℕ) → j < n → HasContributed (after j) k → run < (at_round (after j) k).run → v ≤ (at_round (after j) k).share.low
lows_kept n ledgers after run v same lows j k lt =
    subst (λ (cs : List Contribution). k < length cs → run < (slice_index_or cs k nothing).run → v ≤ (slice_index_or cs k nothing).share.low) (sym (same j)) (lows j k lt)

-- the lows of those who contributed are the same
pub lows_back : (n : ℕ) (ledgers after : ℕ → Ledger) (done w : ℕ) → StayTheSame ledgers after → ((j : ℕ) → j < n → HasContributed (after j) done → w ≤ (at_round (after j) done).share.low)
    → (j : ℕ) → j < n → HasContributed (ledgers j) done → w ≤ (at_round (ledgers j) done).share.low
lows_back n ledgers after done w same lows j lt =
    subst (λ (cs : List Contribution). done < length cs → w ≤ (slice_index_or cs done nothing).share.low) (same j) (lows j lt)

-- who contributed after contributed before
pub contributed_back : (ledgers after : ℕ → Ledger) → StayTheSame ledgers after → (j k : ℕ) → HasContributed (after j) k → HasContributed (ledgers j) k
contributed_back ledgers after same j k = subst (λ (cs : List Contribution). k < length cs) (same j)

-- what holds of the receipts since a contribution, where they have grown at most
pub late_back : (P : Copy → Type 0) (ledgers after : ℕ → Ledger) → StayTheSame ledgers after → (j k : ℕ)
    → ((at : ℕ) → All P (drop at (after j).received) → All P (drop at (ledgers j).received))
    → (HasContributed (after j) k → All P (received_after (after j) k)) → HasContributed (ledgers j) k → All P (received_after (ledgers j) k)
late_back P ledgers after same j k back h has =
    back (at_round (ledgers j) k).receipts (subst (λ (cs : List Contribution). k < length cs → All P (drop (slice_index_or cs k nothing).receipts (after j).received)) (same j) h has)

-- what is left to show of the rule
pub record Keeping (n : ℕ) (ledgers after : ℕ → Ledger) (done : ℕ) : Type 0 where
  pub same : StayTheSame ledgers after
  pub colour : (j : ℕ) → (after j).colour ≡ (ledgers j).colour
  pub channels : Channels n after
  pub faithful : (j k : ℕ) → j < n → HasContributed (ledgers j) k → IsFaithful (after j) (at_round (ledgers j) k)
  pub newest : (j : ℕ) → j < n → All (λ c. c.stamp.colour ≤ run_of n ledgers done) (after j).posted
  pub current : (w : ℕ) → IsBelow n (run_of n ledgers done) after done w → IsAbove n (run_of n ledgers done) after done w
  pub bound : (v : ℕ) → IsBound n ledgers v → IsBound n after v
  pub lasting : (run v : ℕ) → IsBound n ledgers v → ((j : ℕ) → j < n → All (IsNewTimed run v) (ledgers j).posted) → (j : ℕ) → j < n → All (IsNewTimed run v) (after j).posted

pub rule_kept : (n : ℕ) (ledgers after : ℕ → Ledger) (done : ℕ) → RoundRule n ledgers done → Keeping n ledgers after done → RoundRule n after done
rule_kept n ledgers after done rule k =
    let results = same_results n ledgers after k.same in
    let ended : (l : ℕ) → EndsRun n after l → EndsRun n ledgers l = λ l. subst (λ (s : Share). s.out ≡ s.inn) (results l) in
    record {
      channels = k.channels;
      rounds = rounds_kept n ledgers after done k.same k.colour k.faithful rule.rounds;
      newest = subst (λ r. (j : ℕ) → j < n → All (λ (c : Copy). c.stamp.colour ≤ r) (after j).posted) (sym (same_run n ledgers after k.same done)) k.newest;
      current = subst (λ r. (w : ℕ) → IsBelow n r after done w → IsAbove n r after done w) (sym (same_run n ledgers after k.same done)) k.current;
      bound = λ l lt e. subst (λ (s : Share). IsBound n after s.low) (sym (results l)) (k.bound _ (rule.bound l lt (ended l e)));
      lasting = λ l lt e.
          let v = (result_of n ledgers l).low in
          let run = run_of n ledgers l in
          let before = rule.lasting l lt (ended l e) in
          let kept : IsLasting n after run v = record {
            posts = k.lasting run v (rule.bound l lt (ended l e)) before.posts;
            lows = lows_kept n ledgers after run v k.same before.lows;
          } in
          let at_run : IsLasting n after (run_of n after l) v = subst (λ r. IsLasting n after r v) (sym (same_run n ledgers after k.same l)) kept in
          subst (λ (s : Share). IsLasting n after (run_of n after l) s.low) (sym (results l)) at_run;
    }
