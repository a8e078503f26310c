-- A federate posts a copy.
use Rattle.std.proofs.Common.{◌≡◌, ℕ, ◌<◌, ◌≤◌, inl, inr, Bool, true, false, List, [], ◌∷◌, ◌++◌, length, drop, arith, refl, sym, ap, subst, ◌∙◌, length-append}
use Rattle.std.specs.List.{All, count_by}
use Rattle.std.proofs.lemmas.Bool.{cases_lt}
use Rattle.std.proofs.lemmas.List.{take-append-le, drop-append-le}
use Rattle.std.proofs.lemmas.List.Elements.{All-push}
use Rattle.kit_model.specs.Counts.{old_count}
use Rattle.kit_rounds.specs.declared.contribution.Contribution.{Contribution}
use Rattle.kit_rounds.specs.Ledgers.{Stamp, Copy, Ledger, colours, at_round, IsChanged}
use Rattle.kit_rounds.specs.Channels.{is_copy, posts_of, receipts_of, Channels}
use Rattle.kit_rounds.specs.Rounds.{HasContributed, run_of, IsFaithful}
use Rattle.kit_rounds.specs.Rule.{IsTimed, IsOldTimed, IsNewTimed, IsBelow, IsAbove, IsBound, RoundRule}
use Rattle.kit_rounds.specs.Steps.{with_post, Posts}
use Rattle.kit_rounds.specs.Laws.{PostsKeep}
use Rattle.kit_rounds.proofs.Stamps.{one_if, copy_stamp}
use Rattle.kit_rounds.proofs.Lists.{all_front, all_last, count_front, count_push}
use Rattle.kit_rounds.proofs.Changing.{each_changed}
use Rattle.kit_rounds.proofs.Colours.{colour_near, runs_before}
use Rattle.kit_rounds.proofs.Kept.{StayTheSame, lows_back, contributed_back, late_back, rule_kept}

-- what is asked here, and what follows of the lists of the federate
module _ (n i done : ℕ) (c : Copy) (ledgers after : ℕ → Ledger) (rule : RoundRule n ledgers done) (here : i < n) (changed : IsChanged i ledgers after) (posts : Posts n c (ledgers i) (after i)) where
  posted_is : (after i).posted ≡ (ledgers i).posted ++ c ∷ []
  posted_is = ap (λ (l : Ledger). l.posted) posts.is

  same : StayTheSame ledgers after
  same = each_changed (λ j l. l.contributions ≡ (ledgers j).contributions) i ledgers after changed (λ j ne. refl) (ap (λ (l : Ledger). l.contributions) posts.is)

  colour : (j : ℕ) → (after j).colour ≡ (ledgers j).colour
  colour = each_changed (λ j l. l.colour ≡ (ledgers j).colour) i ledgers after changed (λ j ne. refl) (ap (λ (l : Ledger). l.colour) posts.is)

  received : (j : ℕ) → (after j).received ≡ (ledgers j).received
  received = each_changed (λ j l. l.received ≡ (ledgers j).received) i ledgers after changed (λ j ne. refl) (ap (λ (l : Ledger). l.received) posts.is)

  promises : (j : ℕ) → (ledgers j).promise ≤ (after j).promise
  promises = each_changed (λ j l. (ledgers j).promise ≤ l.promise) i ledgers after changed (λ j ne. omega arith) posts.rises

  -- what holds of all that was posted, and of the copy, holds of all posted after
  posted_all : (P : Copy → Type 0) → P c → ((j : ℕ) → j < n → All P (ledgers j).posted) → (j : ℕ) → j < n → All P (after j).posted
  posted_all P one before =
      each_changed (λ j l. j < n → All P l.posted) i ledgers after changed (λ j ne lt. before j lt)
      (λ lt. subst (All P) (sym posted_is) (All-push P (ledgers i).posted c (before i lt) one))

  -- and back
  posted_back : (P : Copy → Type 0) (j : ℕ) → All P (after j).posted → All P (ledgers j).posted
  posted_back P =
      each_changed (λ j l. All P l.posted → All P (ledgers j).posted) i ledgers after changed (λ j ne h. h)
      (λ h. all_front P (ledgers i).posted (c ∷ []) (subst (All P) posted_is h))

  more_posts : (j k : ℕ) (s : Stamp) → posts_of ledgers j k s ≤ posts_of after j k s
  more_posts j k s =
      each_changed (λ j l. count_by (is_copy k s) (ledgers j).posted ≤ count_by (is_copy k s) l.posted) i ledgers after changed (λ j ne. omega arith)
      (subst (λ xs. count_by (is_copy k s) (ledgers i).posted ≤ count_by (is_copy k s) xs) (sym posted_is) (count_front (is_copy k s) (ledgers i).posted (c ∷ []))) j

  same_receipts : (j k : ℕ) (s : Stamp) → receipts_of after j k s ≡ receipts_of ledgers j k s
  same_receipts j k s = ap (count_by (is_copy j s)) (received k)

  channels : Channels n after
  channels = record {
    posted = posted_all (λ x. x.peer < n) posts.addressed rule.channels.posted;
    received = λ j lt. subst (All (λ (x : Copy). x.peer < n)) (sym (received j)) (rule.channels.received j lt);
    each = λ j k lt there s. omega (arith, same_receipts j k s, more_posts j k s, rule.channels.each j k lt there s);
  }

  -- a contribution stays faithful, since the copy has a colour that is not old for it
  faithful_here : (x : Contribution) → x.run ≤ c.stamp.colour → IsFaithful (ledgers i) x → IsFaithful (with_post (after i).promise c (ledgers i)) x
  faithful_here x le f = record {
    posts = omega (arith, f.posts, length-append (ledgers i).posted (c ∷ []));
    receipts = f.receipts;
    out = f.out ∙ ap (λ xs. old_count x.run (colours xs)) (sym (take-append-le x.posts (ledgers i).posted (c ∷ []) f.posts));
    inn = f.inn;
    later = subst (All (λ (y : Copy). x.run ≤ y.stamp.colour)) (sym (drop-append-le x.posts (ledgers i).posted (c ∷ []) f.posts)) (All-push (λ (y : Copy). x.run ≤ y.stamp.colour) (drop x.posts (ledgers i).posted) c f.later le);
  }

  faithful : (j k : ℕ) → j < n → HasContributed (ledgers j) k → IsFaithful (after j) (at_round (ledgers j) k)
  faithful =
      each_changed (λ j l. (k : ℕ) → j < n → HasContributed (ledgers j) k → IsFaithful l (at_round (ledgers j) k)) i ledgers after changed
      (λ j ne k lt has. rule.rounds.faithful j k lt has)
      (λ k lt has.
      subst (λ l. IsFaithful l (at_round (ledgers i) k)) (sym posts.is)
      (faithful_here (at_round (ledgers i) k) (omega (arith, posts.stamped, runs_before n ledgers done i k rule.rounds lt has)) (rule.rounds.faithful i k lt has)))

  newest : (j : ℕ) → j < n → All (λ x. x.stamp.colour ≤ run_of n ledgers done) (after j).posted
  newest = posted_all (λ x. x.stamp.colour ≤ run_of n ledgers done) (omega (arith, posts.stamped, (colour_near n ledgers done i rule.rounds here).0)) rule.newest

  -- what is below after the post was below before
  below : (w : ℕ) → IsBelow n (run_of n ledgers done) after done w → IsBelow n (run_of n ledgers done) ledgers done w
  below w b =
      let run = run_of n ledgers done in
      record {
        lows = lows_back n ledgers after done w same b.lows;
        posts = λ j lt out. posted_back (IsTimed run w) j (b.posts j lt (subst (λ (cs : List Contribution). length cs ≤ done) (sym (same j)) out));
        receipts = λ j lt. late_back (IsOldTimed run w) ledgers after same j done (λ at. subst (λ rs. All (IsOldTimed run w) (drop at rs)) (received j)) (b.receipts j lt);
      }

  current : (w : ℕ) → IsBelow n (run_of n ledgers done) after done w → IsAbove n (run_of n ledgers done) after done w
  current w b =
      let run = run_of n ledgers done in
      let above = rule.current w (below w b) in
      let timed : IsTimed run w c = elim (rule.rounds.counted i here) [
        | inl e ↦
            let out : length (after i).contributions ≤ done = omega (arith, e, ap length (same i)) in
            all_last (IsTimed run w) (ledgers i).posted c (subst (All (IsTimed run w)) posted_is (b.posts i here out))
        | inr e ↦ λ _. omega (arith, above.promises i here (omega (arith, e)), posts.timed)
      ] in
      record {
        copies = posted_all (IsTimed run w) timed above.copies;
        promises = λ j lt has. omega (arith, above.promises j lt (contributed_back ledgers after same j done has), promises j);
      }

  -- a copy that is counted anew is this one
  is_new : (v : ℕ) → v ≤ c.stamp.time → (j k : ℕ) (s : Stamp) → posts_of ledgers j k s < posts_of after j k s → v ≤ s.time
  is_new v le j k s =
      each_changed (λ j l. count_by (is_copy k s) (ledgers j).posted < count_by (is_copy k s) l.posted → v ≤ s.time) i ledgers after changed
      (λ j ne lt. absurd (omega arith))
      (subst (λ xs. count_by (is_copy k s) (ledgers i).posted < count_by (is_copy k s) xs → v ≤ s.time) (sym posted_is)
      (λ lt. step (is_copy k s c) refl (omega (arith, count_push (is_copy k s) (ledgers i).posted c)))) j
    where
      step : (b : Bool) → is_copy k s c ≡ b → 0 < one_if (is_copy k s c) → v ≤ s.time
      step true is lt = subst (λ (t : Stamp). v ≤ t.time) (copy_stamp k s c is) le
      step false is lt = absurd (omega (arith, ap one_if is))

  bound : (v : ℕ) → IsBound n ledgers v → IsBound n after v
  bound v b = record {
    copies = λ j k s lt there un. elim (cases_lt (receipts_of ledgers j k s) (posts_of ledgers j k s)) [
      | inl before ↦ b.copies j k s lt there before
      | inr none ↦ is_new v (omega (arith, b.promises i here, posts.timed)) j k s (omega (arith, same_receipts j k s))
    ];
    promises = λ j lt. omega (arith, b.promises j lt, promises j);
  }

  lasting : (run v : ℕ) → IsBound n ledgers v → ((j : ℕ) → j < n → All (IsNewTimed run v) (ledgers j).posted) → (j : ℕ) → j < n → All (IsNewTimed run v) (after j).posted
  lasting run v b = posted_all (IsNewTimed run v) (λ newer. omega (arith, b.promises i here, posts.timed))

  pub post_kept : RoundRule n after done
  post_kept = rule_kept n ledgers after done rule (record {
    same = same;
    colour = colour;
    channels = channels;
    faithful = faithful;
    newest = newest;
    current = current;
    bound = bound;
    lasting = lasting;
  })

pub posts_keep : PostsKeep
posts_keep = λ n i done c ledgers after rule here changed posts. post_kept n i done c ledgers after rule here changed posts
