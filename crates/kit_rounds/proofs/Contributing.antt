-- A federate contributes to the round that is under way.
use Rattle.std.proofs.Common.{◌≡◌, ◌≢◌, ℕ, suc, ◌-◌, ◌<◌, ◌≤◌, ◌⊎◌, inl, inr, [], ◌∷◌, ◌++◌, length, drop, arith, refl, sym, ap, subst, subst₂, ◌∙◌}
use Rattle.std.specs.List.{All, count_by}
use Rattle.std.specs.Prelude.{slice_index_or}
use Rattle.std.proofs.lemmas.Bool.{cases_lt}
use Rattle.std.proofs.lemmas.List.{take_all, drop_all, get_or_append_left, get_or_push, length_push}
use Rattle.kit_model.specs.declared.share.Share.{Share}
use Rattle.kit_model.specs.Counts.{old_count}
use Rattle.kit_rounds.specs.declared.contribution.Contribution.{Contribution}
use Rattle.kit_rounds.specs.Ledgers.{Stamp, Copy, Ledger, nothing, colours, at_round, last_run, IsChanged}
use Rattle.kit_rounds.specs.Channels.{is_copy, posts_of, receipts_of, Channels}
use Rattle.kit_rounds.specs.Rounds.{HasContributed, result_of, run_of, EndsRun, IsFaithful, RoundsAt}
use Rattle.kit_rounds.specs.Rule.{IsTimed, IsOldTimed, IsNewTimed, received_after, IsBelow, IsAbove, IsBound, IsLasting, RoundRule}
use Rattle.kit_rounds.specs.Steps.{with_contribution, Contributes}
use Rattle.kit_rounds.specs.Laws.{ContributionsKeep}
use Rattle.kit_rounds.proofs.Lists.{all_none, weaker}
use Rattle.kit_rounds.proofs.Changing.{each_changed}
use Rattle.kit_rounds.proofs.Results.{same_result, same_runs}

module _ (n i done : ℕ) (c : Contribution) (ledgers after : ℕ → Ledger) (rule : RoundRule n ledgers done) (here : i < n) (changed : IsChanged i ledgers after)
    (outside : length (ledgers i).contributions ≡ done) (in_run : c.run ≡ run_of n ledgers done) (gives : Contributes c (ledgers i) (after i)) where
  longer : (after i).contributions ≡ (ledgers i).contributions ++ c ∷ []
  longer = ap (λ (l : Ledger). l.contributions) gives.is

  posted : (j : ℕ) → (after j).posted ≡ (ledgers j).posted
  posted = each_changed (λ j l. l.posted ≡ (ledgers j).posted) i ledgers after changed (λ j ne. refl) (ap (λ (l : Ledger). l.posted) gives.is)

  received : (j : ℕ) → (after j).received ≡ (ledgers j).received
  received = each_changed (λ j l. l.received ≡ (ledgers j).received) i ledgers after changed (λ j ne. refl) (ap (λ (l : Ledger). l.received) gives.is)

  promise : (j : ℕ) → (after j).promise ≡ (ledgers j).promise
  promise = each_changed (λ j l. l.promise ≡ (ledgers j).promise) i ledgers after changed (λ j ne. refl) (ap (λ (l : Ledger). l.promise) gives.is)

  same_posts : (a b : ℕ) (t : Stamp) → posts_of after a b t ≡ posts_of ledgers a b t
  same_posts a b t = ap (count_by (is_copy b t)) (posted a)

  same_receipts : (a b : ℕ) (t : Stamp) → receipts_of after a b t ≡ receipts_of ledgers a b t
  same_receipts a b t = ap (count_by (is_copy a t)) (received b)

  channels : Channels n after
  channels = record {
    posted = λ j lt. subst (All (λ (x : Copy). x.peer < n)) (sym (posted j)) (rule.channels.posted j lt);
    received = λ j lt. subst (All (λ (x : Copy). x.peer < n)) (sym (received j)) (rule.channels.received j lt);
    each = λ a b la lb t. omega (arith, same_posts a b t, same_receipts a b t, rule.channels.each a b la lb t);
  }

  -- the contributions of i before this one are the same, and this one is the last
  before_it : (k : ℕ) → k < done → at_round (after i) k ≡ at_round (ledgers i) k
  before_it k lt = ap (λ cs. slice_index_or cs k nothing) longer ∙ get_or_append_left (ledgers i).contributions (c ∷ []) nothing k (omega (arith, outside))

  it : at_round (after i) done ≡ c
  it = ap (λ cs. slice_index_or cs done nothing) longer ∙ get_or_push (ledgers i).contributions c nothing done outside

  counts : length (after i).contributions ≡ suc done
  counts = omega (arith, ap length longer, length_push (ledgers i).contributions c, outside)

  same_before : (k j : ℕ) → k < done → at_round (after j) k ≡ at_round (ledgers j) k
  same_before k j lt = each_changed (λ j l. at_round l k ≡ at_round (ledgers j) k) i ledgers after changed (λ j ne. refl) (before_it k lt) j

  results : (k : ℕ) → k < done → result_of n after k ≡ result_of n ledgers k
  results k lt =
      same_result n (λ j. (at_round (after j) k).share) (λ j. (at_round (ledgers j) k).share) (omega arith)
      (λ j there. ap (λ (x : Contribution). x.share) (same_before k j lt))

  run_same : (k : ℕ) → k ≤ done → run_of n after k ≡ run_of n ledgers k
  run_same k le = same_runs (result_of n after) (result_of n ledgers) k (λ l lt. results l (omega arith))

  -- a place among the contributions of i is an earlier one or the last
  places : (P : Contribution → Type 0) → ((k : ℕ) → k < done → P (at_round (ledgers i) k)) → P c → (k : ℕ) → k < length (after i).contributions → P (at_round (after i) k)
  places P before last k lt = elim (cases_lt k done) [
    | inl less ↦ subst P (sym (before_it k less)) (before k less)
    | inr ge ↦
        let e : done ≡ k = omega (arith, counts) in
        subst (λ m. P (at_round (after i) m)) e (subst P (sym it) last)
  ]

  runs_here : (k : ℕ) → k < length (after i).contributions → (at_round (after i) k).run ≡ run_of n after k
  runs_here k lt = elim (cases_lt k done) [
    | inl less ↦ ap (λ (x : Contribution). x.run) (before_it k less) ∙ rule.rounds.runs i k here (omega (arith, outside)) ∙ sym (run_same k (omega arith))
    | inr ge ↦
        let e : done ≡ k = omega (arith, counts) in
        subst (λ m. (at_round (after i) m).run ≡ run_of n after m) e (ap (λ (x : Contribution). x.run) it ∙ in_run ∙ sym (run_same done (omega arith)))
  ]

  -- to the copies of i the contribution is nothing
  as_before : (x : Contribution) → IsFaithful (ledgers i) x → IsFaithful (with_contribution c (ledgers i)) x
  as_before x f = record { posts = f.posts; receipts = f.receipts; out = f.out; inn = f.inn; later = f.later }

  this_one : IsFaithful (with_contribution c (ledgers i)) c
  this_one = record {
    posts = omega (arith, gives.posts);
    receipts = omega (arith, gives.receipts);
    out = gives.out ∙ ap (λ xs. old_count c.run (colours xs)) (sym (take_all c.posts (ledgers i).posted (omega (arith, gives.posts))));
    inn = gives.inn ∙ ap (λ xs. old_count c.run (colours xs)) (sym (take_all c.receipts (ledgers i).received (omega (arith, gives.receipts))));
    later = all_none (λ (y : Copy). c.run ≤ y.stamp.colour) (drop c.posts (ledgers i).posted) (drop_all c.posts (ledgers i).posted (omega (arith, gives.posts)));
  }

  last_is : last_run (after i).contributions ≡ c.run
  last_is =
      let last : length (after i).contributions - 1 ≡ done = omega (arith, counts) in
      ap (λ k. (at_round (after i) k).run) last ∙ ap (λ (x : Contribution). x.run) it

  rounds : RoundsAt n after done
  rounds = record {
    counted = each_changed (λ j l. j < n → (length l.contributions ≡ done) ⊎ (length l.contributions ≡ suc done)) i ledgers after changed
        (λ j ne lt. rule.rounds.counted j lt) (λ lt. inr counts);
    runs = each_changed (λ j l. (k : ℕ) → j < n → k < length l.contributions → (at_round l k).run ≡ run_of n after k) i ledgers after changed
        (λ j ne k lt has. rule.rounds.runs j k lt has ∙ sym (run_same k (within j k lt has)))
        (λ k lt has. runs_here k has);
    coloured = each_changed (λ j l. j < n → l.colour ≡ last_run l.contributions) i ledgers after changed
        (λ j ne lt. rule.rounds.coloured j lt) (λ lt. ap (λ (l : Ledger). l.colour) gives.is ∙ sym last_is);
    faithful = each_changed (λ j l. (k : ℕ) → j < n → k < length l.contributions → IsFaithful l (at_round l k)) i ledgers after changed
        (λ j ne k lt has. rule.rounds.faithful j k lt has)
        (λ k lt has.
        places (λ x. IsFaithful (after i) x)
        (λ m less. subst (λ l. IsFaithful l (at_round (ledgers i) m)) (sym gives.is) (as_before (at_round (ledgers i) m) (rule.rounds.faithful i m here (omega (arith, outside)))))
        (subst (λ l. IsFaithful l c) (sym gives.is) this_one) k has);
  }
    where
      within : (j k : ℕ) → j < n → k < length (ledgers j).contributions → k ≤ done
      within j k lt has = elim (rule.rounds.counted j lt) [ inl e ↦ omega (arith, e) | inr e ↦ omega (arith, e) ]

  -- who contributed before is another federate
  is_other : (j : ℕ) → HasContributed (ledgers j) done → j ≢ i
  is_other j has e = absurd (omega (arith, subst (λ x. HasContributed (ledgers x) done) e has, outside))

  same_at : (j : ℕ) → HasContributed (ledgers j) done → after j ≡ ledgers j
  same_at j has = changed.others j (is_other j has)

  still : (j : ℕ) → HasContributed (ledgers j) done → HasContributed (after j) done
  still j has = subst (λ (l : Ledger). done < length l.contributions) (sym (same_at j has)) has

  below : (w : ℕ) → IsBelow n (run_of n ledgers done) after done w → IsBelow n (run_of n ledgers done) ledgers done w
  below w b =
      let run = run_of n ledgers done in
      let own : w ≤ c.share.low = subst (λ (x : Contribution). w ≤ x.share.low) it (b.lows i here (omega (arith, counts))) in
      let mine : All (IsTimed run w) (ledgers i).posted =
      weaker (IsTimed c.run c.share.low) (IsTimed run w) (ledgers i).posted (λ x h e. omega (arith, own, h (e ∙ sym in_run))) gives.low.posts in
      record {
        lows = λ j lt has. subst (λ (l : Ledger). w ≤ (at_round l done).share.low) (same_at j has) (b.lows j lt (still j has));
        posts = λ j lt out.
            each_changed (λ j l. length (ledgers j).contributions ≤ done → (length l.contributions ≤ done → All (IsTimed run w) l.posted) → All (IsTimed run w) (ledgers j).posted) i ledgers after changed
            (λ j ne out h. h out) (λ out h. mine) j out (b.posts j lt);
        receipts = λ j lt has. subst (λ (l : Ledger). All (IsOldTimed run w) (received_after l done)) (same_at j has) (b.receipts j lt (still j has));
      }

  current : (w : ℕ) → IsBelow n (run_of n ledgers done) after done w → IsAbove n (run_of n ledgers done) after done w
  current w b =
      let run = run_of n ledgers done in
      let above = rule.current w (below w b) in
      let own : w ≤ c.share.low = subst (λ (x : Contribution). w ≤ x.share.low) it (b.lows i here (omega (arith, counts))) in
      record {
        copies = λ j lt. subst (All (IsTimed run w)) (sym (posted j)) (above.copies j lt);
        promises = λ j lt has. omega (arith, promise j, promised w above own j lt has);
      }
    where
      promised : (w : ℕ) → IsAbove n (run_of n ledgers done) ledgers done w → w ≤ c.share.low → (j : ℕ) → j < n → HasContributed (after j) done → w ≤ (ledgers j).promise
      promised w above own =
          each_changed (λ j l. j < n → done < length l.contributions → w ≤ (ledgers j).promise) i ledgers after changed
          (λ j ne lt has. above.promises j lt has) (λ lt has. omega (arith, own, gives.low.promise))

  bound : (v : ℕ) → IsBound n ledgers v → IsBound n after v
  bound v b = record {
    copies = λ a k t la lk un. b.copies a k t la lk (omega (arith, same_posts a k t, same_receipts a k t, un));
    promises = λ j lt. omega (arith, b.promises j lt, promise j);
  }

  lasting : (run v : ℕ) → IsBound n ledgers v → IsLasting n ledgers run v → IsLasting n after run v
  lasting run v b l = record {
    posts = λ j lt. subst (All (IsNewTimed run v)) (sym (posted j)) (l.posts j lt);
    lows = each_changed (λ j m. (k : ℕ) → j < n → k < length m.contributions → run < (at_round m k).run → v ≤ (at_round m k).share.low) i ledgers after changed
        (λ j ne k lt has. l.lows j k lt has)
        (λ k lt has.
        places (λ x. run < x.run → v ≤ x.share.low) (λ m less. l.lows i m here (omega (arith, outside)))
        (λ newer. gives.low.greatest v (b.promises i here) (weaker (IsNewTimed run v) (IsTimed c.run v) (ledgers i).posted (λ x h e. h (omega (arith, newer, e))) (l.posts i here))) k has);
  }

  pub contribution_kept : RoundRule n after done
  contribution_kept = record {
    channels = channels;
    rounds = rounds;
    newest = subst (λ r. (j : ℕ) → j < n → All (λ (x : Copy). x.stamp.colour ≤ r) (after j).posted) (sym (run_same done (omega arith)))
        (λ j lt. subst (All (λ (x : Copy). x.stamp.colour ≤ run_of n ledgers done)) (sym (posted j)) (rule.newest j lt));
    current = subst (λ r. (w : ℕ) → IsBelow n r after done w → IsAbove n r after done w) (sym (run_same done (omega arith))) current;
    bound = λ k lt e.
        let ended : EndsRun n ledgers k = subst (λ (s : Share). s.out ≡ s.inn) (results k lt) e in
        subst (λ (s : Share). IsBound n after s.low) (sym (results k lt)) (bound _ (rule.bound k lt ended));
    lasting = λ k lt e.
        let ended : EndsRun n ledgers k = subst (λ (s : Share). s.out ≡ s.inn) (results k lt) e in
        subst₂ (λ r (s : Share). IsLasting n after r s.low) (sym (run_same k (omega arith))) (sym (results k lt)) (lasting _ _ (rule.bound k lt ended) (rule.lasting k lt ended));
  }

pub contributions_keep : ContributionsKeep
contributions_keep = λ n i done c ledgers after rule here changed outside in_run gives. contribution_kept n i done c ledgers after rule here changed outside in_run gives
