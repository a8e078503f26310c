-- A round to which all have contributed is done.
use Rattle.std.proofs.Common.{◌≡◌, ℕ, suc, ◌<◌, ◌≤◌, inl, inr, false, length, arith, sym, subst, ◌∙◌}
use Rattle.std.specs.List.{All}
use Rattle.std.proofs.lemmas.Bool.{cases_lt, lt-ltb, false≢true}
use Rattle.kit_rounds.specs.Ledgers.{Stamp, Copy, Ledger, at_round}
use Rattle.kit_rounds.specs.Channels.{IsUnreceived, passing}
use Rattle.kit_rounds.specs.Rounds.{HasContributed, result_of, run_of, EndsRun}
use Rattle.kit_rounds.specs.Rule.{IsOldTimed, IsNewTimed, received_after, IsBelow, IsBound, IsLasting, RoundRule}
use Rattle.kit_rounds.specs.Laws.{is_old_stamp, FullRoundsClose}
use Rattle.kit_rounds.proofs.Sums.{term_at_most}
use Rattle.kit_rounds.proofs.Lists.{weaker, none_counts, counted_is}
use Rattle.kit_rounds.proofs.Results.{run_next, run_within, result_low_le}
use Rattle.kit_rounds.proofs.Ways.{none_on_way}
use Rattle.kit_rounds.proofs.Balances.{full_round_balances}

module _ (n done : ℕ) (ledgers : ℕ → Ledger) (rule : RoundRule n ledgers done) (full : (j : ℕ) → j < n → HasContributed (ledgers j) done) where
  abbrev run : ℕ
  run = run_of n ledgers done

  abbrev low : ℕ
  low = (result_of n ledgers done).low

  counts : (j : ℕ) → j < n → length (ledgers j).contributions ≡ suc done
  counts j lt = elim (rule.rounds.counted j lt) [ inl e ↦ absurd (omega (arith, e, full j lt)) | inr e ↦ e ]

  -- where the sums are equal, no old copy came late and none is on its way
  none_late : EndsRun n ledgers done → (j : ℕ) → j < n → All (λ (x : Copy). is_old_stamp run x.stamp ≡ false) (received_after (ledgers j) done)
  none_late e j lt =
      none_counts (λ (x : Copy). is_old_stamp run x.stamp) (received_after (ledgers j) done)
      (omega (arith, e, full_round_balances n ledgers done done rule full, term_at_most (λ j. passing (is_old_stamp run) (received_after (ledgers j) done)) n j lt))

  none_old : EndsRun n ledgers done → (i j : ℕ) (s : Stamp) → i < n → j < n → IsUnreceived ledgers i j s → run ≤ s.colour
  none_old e i j s lt there un = elim (cases_lt s.colour run) [
    | inl old ↦ absurd (none_on_way (is_old_stamp run) n ledgers i j s rule.channels lt there (omega (arith, e, full_round_balances n ledgers done done rule full)) (lt-ltb s.colour run old) un)
    | inr ge ↦ ge
  ]

  -- so the low is below all
  below : EndsRun n ledgers done → IsBelow n run ledgers done low
  below e = record {
    lows = λ j lt has. result_low_le (λ j. (at_round (ledgers j) done).share) n j lt;
    posts = λ j lt out. absurd (omega (arith, full j lt, out));
    receipts = λ j lt has.
        weaker (λ (x : Copy). is_old_stamp run x.stamp ≡ false) (IsOldTimed run low) (received_after (ledgers j) done)
        (λ x new old. absurd (false≢true (sym new ∙ lt-ltb x.stamp.colour run old))) (none_late e j lt);
  }

  pub bounds : EndsRun n ledgers done → IsBound n ledgers low
  bounds e =
      let above = rule.current low (below e) in
      record {
        copies = λ i j s lt there un.
            let newest : s.colour ≤ run = counted_is (λ t. t.colour ≤ run) j s (ledgers i).posted (rule.newest i lt) (omega (arith, un)) in
            counted_is (λ t. t.colour ≡ run → low ≤ t.time) j s (ledgers i).posted (above.copies i lt) (omega (arith, un)) (omega (arith, newest, none_old e i j s lt there un));
        promises = λ j lt. above.promises j lt (full j lt);
      }

  -- nothing has a later colour yet
  lasts : IsLasting n ledgers run low
  lasts = record {
    posts = λ j lt. weaker (λ (x : Copy). x.stamp.colour ≤ run) (IsNewTimed run low) (ledgers j).posted (λ x le newer. absurd (omega (arith, le, newer))) (rule.newest j lt);
    lows = λ j k lt has newer. absurd (omega (arith, newer, rule.rounds.runs j k lt has, run_within (result_of n ledgers) k done (omega (arith, has, counts j lt))));
  }

  pub closed : RoundRule n ledgers (suc done)
  closed = record {
    channels = rule.channels;
    rounds = record {
      counted = λ j lt. inl (counts j lt);
      runs = rule.rounds.runs;
      coloured = rule.rounds.coloured;
      faithful = rule.rounds.faithful;
    };
    newest = λ j lt. weaker (λ (x : Copy). x.stamp.colour ≤ run) (λ (x : Copy). x.stamp.colour ≤ run_of n ledgers (suc done)) (ledgers j).posted (λ x le. omega (arith, le, (run_next (result_of n ledgers) done).0)) (rule.newest j lt);
    current = λ w b. record {
      copies = λ j lt. b.posts j lt (omega (arith, counts j lt));
      promises = λ j lt has. absurd (omega (arith, has, counts j lt));
    };
    bound = λ k lt e. elim (cases_lt k done) [
      | inl less ↦ rule.bound k less e
      | inr ge ↦ let is : done ≡ k = omega arith in subst (λ m. EndsRun n ledgers m → IsBound n ledgers (result_of n ledgers m).low) is bounds e
    ];
    lasting = λ k lt e. elim (cases_lt k done) [
      | inl less ↦ rule.lasting k less e
      | inr ge ↦ let is : done ≡ k = omega arith in subst (λ m. IsLasting n ledgers (run_of n ledgers m) (result_of n ledgers m).low) is lasts
    ];
  }

pub full_rounds_close : FullRoundsClose
full_rounds_close = λ n done ledgers rule full. closed n done ledgers rule full
