-- The rule at first.
use Rattle.std.proofs.Common.{◌≡◌, ℕ, ◌<◌, ◌≤◌, inl, length, arith, sym, ap, ◌∙◌}
use Rattle.std.specs.List.{count_by}
use Rattle.kit_rounds.specs.Ledgers.{Copy, last_run}
use Rattle.kit_rounds.specs.Channels.{is_copy}
use Rattle.kit_rounds.specs.Rounds.{run_of}
use Rattle.kit_rounds.specs.Rule.{IsTimed}
use Rattle.kit_rounds.specs.Laws.{EqualSumsBound, NewLedgersKeep}
use Rattle.kit_rounds.proofs.Lists.{all_none}
use Rattle.kit_rounds.proofs.Closing.{bounds}

pub equal_sums_bound : EqualSumsBound
equal_sums_bound = λ n done ledgers rule full e. bounds n done ledgers rule full e

pub new_ledgers_keep : NewLedgersKeep
new_ledgers_keep n ledgers colour posted received none =
    let short : (j : ℕ) → j < n → length (ledgers j).contributions ≡ 0 = λ j lt. ap length (none j lt) in
    record {
      channels = record {
        posted = λ j lt. all_none (λ (x : Copy). x.peer < n) (ledgers j).posted (posted j lt);
        received = λ j lt. all_none (λ (x : Copy). x.peer < n) (ledgers j).received (received j lt);
        each = λ i j here there s. omega (arith, ap (count_by (is_copy i s)) (received j there));
      };
      rounds = record {
        counted = λ j lt. inl (short j lt);
        runs = λ j k lt has. absurd (omega (arith, has, short j lt));
        coloured = λ j lt. colour j lt ∙ sym (ap last_run (none j lt));
        faithful = λ j k lt has. absurd (omega (arith, has, short j lt));
      };
      newest = λ j lt. all_none (λ (x : Copy). x.stamp.colour ≤ run_of n ledgers 0) (ledgers j).posted (posted j lt);
      current = λ w b. record {
        copies = λ j lt. all_none (IsTimed (run_of n ledgers 0) w) (ledgers j).posted (posted j lt);
        promises = λ j lt has. absurd (omega (arith, has, short j lt));
      };
      bound = λ k lt e. absurd (omega (arith, lt));
      lasting = λ k lt e. absurd (omega (arith, lt));
    }
