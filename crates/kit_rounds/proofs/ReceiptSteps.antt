-- A federate receives a copy that is on its way.
use Rattle.std.proofs.Common.{◌≡◌, ℕ, ◌<◌, ◌≤◌, inl, inr, Bool, true, false, List, [], ◌∷◌, ◌++◌, length, drop, arith, refl, sym, ap, subst, subst₂, ◌∙◌, length-append}
use Rattle.std.specs.List.{All, count_by}
use Rattle.std.specs.Prelude.{slice_index_or}
use Rattle.std.proofs.lemmas.Bool.{cases_lt}
use Rattle.std.proofs.lemmas.List.{take-append-le, drop-append-le}
use Rattle.std.proofs.lemmas.List.Elements.{All-push}
use Rattle.kit_model.specs.Counts.{old_count}
use Rattle.kit_rounds.specs.declared.contribution.Contribution.{Contribution}
use Rattle.kit_rounds.specs.Ledgers.{Stamp, Copy, Ledger, nothing, colours, at_round, IsChanged}
use Rattle.kit_rounds.specs.Channels.{is_copy, posts_of, receipts_of, Channel, IsUnreceived, Channels}
use Rattle.kit_rounds.specs.Rounds.{HasContributed, run_of, IsFaithful}
use Rattle.kit_rounds.specs.Rule.{IsTimed, IsOldTimed, IsNewTimed, IsBelow, IsAbove, IsBound, RoundRule}
use Rattle.kit_rounds.specs.Steps.{with_receipt, Receives}
use Rattle.kit_rounds.specs.Laws.{ReceiptsKeep}
use Rattle.kit_rounds.proofs.Stamps.{one_if, copy_stamp, copy_peer}
use Rattle.kit_rounds.proofs.Lists.{all_drop_front, all_last, count_front, count_push, counted_is}
use Rattle.kit_rounds.proofs.Changing.{each_changed}
use Rattle.kit_rounds.proofs.Kept.{StayTheSame, lows_back, contributed_back, late_back, rule_kept}

module _ (n i j done : ℕ) (s : Stamp) (ledgers after : ℕ → Ledger) (rule : RoundRule n ledgers done) (there : i < n) (here : j < n) (changed : IsChanged j ledgers after)
    (unreceived : IsUnreceived ledgers i j s) (receives : Receives i s (ledgers j) (after j)) where
  abbrev copy : Copy
  copy = record { peer = i; stamp = s }

  received_is : (after j).received ≡ (ledgers j).received ++ copy ∷ []
  received_is = ap (λ (l : Ledger). l.received) receives.is

  same : StayTheSame ledgers after
  same = each_changed (λ k l. l.contributions ≡ (ledgers k).contributions) j ledgers after changed (λ k ne. refl) (ap (λ (l : Ledger). l.contributions) receives.is)

  colour : (k : ℕ) → (after k).colour ≡ (ledgers k).colour
  colour = each_changed (λ k l. l.colour ≡ (ledgers k).colour) j ledgers after changed (λ k ne. refl) (ap (λ (l : Ledger). l.colour) receives.is)

  posted : (k : ℕ) → (after k).posted ≡ (ledgers k).posted
  posted = each_changed (λ k l. l.posted ≡ (ledgers k).posted) j ledgers after changed (λ k ne. refl) (ap (λ (l : Ledger). l.posted) receives.is)

  -- the copy was posted by i
  was_posted : (Q : Stamp → Type 0) → All (λ (c : Copy). Q c.stamp) (ledgers i).posted → Q s
  was_posted Q h = counted_is Q j s (ledgers i).posted h (omega (arith, unreceived))

  -- a promise that is not below w stays so, where the copy's time is not
  promised : (w k : ℕ) → (k ≡ j → w ≤ s.time) → w ≤ (ledgers k).promise → w ≤ (after k).promise
  promised w k =
      each_changed (λ k l. (k ≡ j → w ≤ s.time) → w ≤ (ledgers k).promise → w ≤ l.promise) j ledgers after changed (λ k ne time h. h)
      (λ time h. receives.holds w h (time refl)) k

  more_receipts : (a b : ℕ) (t : Stamp) → receipts_of ledgers a b t ≤ receipts_of after a b t
  more_receipts a b t =
      each_changed (λ k l. count_by (is_copy a t) (ledgers k).received ≤ count_by (is_copy a t) l.received) j ledgers after changed (λ k ne. omega arith)
      (subst (λ xs. count_by (is_copy a t) (ledgers j).received ≤ count_by (is_copy a t) xs) (sym received_is) (count_front (is_copy a t) (ledgers j).received (copy ∷ []))) b

  same_posts : (a b : ℕ) (t : Stamp) → posts_of after a b t ≡ posts_of ledgers a b t
  same_posts a b t = ap (count_by (is_copy b t)) (posted a)

  -- the channel has room for this copy
  room : (a : ℕ) (t : Stamp) → Channel ledgers a j → count_by (is_copy a t) ((ledgers j).received ++ copy ∷ []) ≤ posts_of ledgers a j t
  room a t h = step (is_copy a t copy) refl
    where
      step : (b : Bool) → is_copy a t copy ≡ b → count_by (is_copy a t) ((ledgers j).received ++ copy ∷ []) ≤ posts_of ledgers a j t
      step true is =
          let peer : i ≡ a = copy_peer a t copy is in
          let stamp : s ≡ t = copy_stamp a t copy is in
          let free : IsUnreceived ledgers a j t = subst₂ (λ x y. IsUnreceived ledgers x j y) peer stamp unreceived in
          omega (arith, count_push (is_copy a t) (ledgers j).received copy, ap one_if is, free)
      step false is = omega (arith, count_push (is_copy a t) (ledgers j).received copy, ap one_if is, h t)

  within : (a b : ℕ) → a < n → b < n → Channel after a b
  within a b lt lb t =
      let all : (k : ℕ) → k < n → count_by (is_copy a t) (after k).received ≤ posts_of ledgers a k t =
      each_changed (λ k l. k < n → count_by (is_copy a t) l.received ≤ posts_of ledgers a k t) j ledgers after changed
      (λ k ne lk. rule.channels.each a k lt lk t)
      (λ lk. subst (λ xs. count_by (is_copy a t) xs ≤ posts_of ledgers a j t) (sym received_is) (room a t (rule.channels.each a j lt lk))) in
      omega (arith, all b lb, same_posts a b t)

  channels : Channels n after
  channels = record {
    posted = λ k lt. subst (All (λ (x : Copy). x.peer < n)) (sym (posted k)) (rule.channels.posted k lt);
    received = each_changed (λ k l. k < n → All (λ (x : Copy). x.peer < n) l.received) j ledgers after changed (λ k ne lt. rule.channels.received k lt)
        (λ lt. subst (All (λ (x : Copy). x.peer < n)) (sym received_is) (All-push (λ (x : Copy). x.peer < n) (ledgers j).received copy (rule.channels.received j lt) there));
    each = within;
  }

  faithful_here : (x : Contribution) → IsFaithful (ledgers j) x → IsFaithful (with_receipt (after j).promise i s (ledgers j)) x
  faithful_here x f = record {
    posts = f.posts;
    receipts = omega (arith, f.receipts, length-append (ledgers j).received (record { peer = i; stamp = s } ∷ []));
    out = f.out;
    inn = f.inn ∙ ap (λ xs. old_count x.run (colours xs)) (sym (take-append-le x.receipts (ledgers j).received (record { peer = i; stamp = s } ∷ []) f.receipts));
    later = f.later;
  }

  faithful : (k m : ℕ) → k < n → HasContributed (ledgers k) m → IsFaithful (after k) (at_round (ledgers k) m)
  faithful =
      each_changed (λ k l. (m : ℕ) → k < n → HasContributed (ledgers k) m → IsFaithful l (at_round (ledgers k) m)) j ledgers after changed
      (λ k ne m lt has. rule.rounds.faithful k m lt has)
      (λ m lt has. subst (λ l. IsFaithful l (at_round (ledgers j) m)) (sym receives.is) (faithful_here (at_round (ledgers j) m) (rule.rounds.faithful j m lt has)))

  newest : (k : ℕ) → k < n → All (λ x. x.stamp.colour ≤ run_of n ledgers done) (after k).posted
  newest k lt = subst (All (λ (x : Copy). x.stamp.colour ≤ run_of n ledgers done)) (sym (posted k)) (rule.newest k lt)

  -- of what came after a contribution, less was there before
  late_front : (P : Copy → Type 0) (k at : ℕ) → All P (drop at (after k).received) → All P (drop at (ledgers k).received)
  late_front P k at =
      each_changed (λ k l. All P (drop at l.received) → All P (drop at (ledgers k).received)) j ledgers after changed (λ k ne h. h)
      (λ h. all_drop_front P at (ledgers j).received (copy ∷ []) (subst (λ rs. All P (drop at rs)) received_is h)) k

  below : (w : ℕ) → IsBelow n (run_of n ledgers done) after done w → IsBelow n (run_of n ledgers done) ledgers done w
  below w b =
      let run = run_of n ledgers done in
      record {
        lows = lows_back n ledgers after done w same b.lows;
        posts = λ k lt out. subst (All (IsTimed run w)) (posted k) (b.posts k lt (subst (λ (cs : List Contribution). length cs ≤ done) (sym (same k)) out));
        receipts = λ k lt. late_back (IsOldTimed run w) ledgers after same k done (late_front (IsOldTimed run w) k) (b.receipts k lt);
      }

  -- an old copy that comes to one who has contributed is among those that w is below
  late_time : (w : ℕ) → IsBelow n (run_of n ledgers done) after done w → HasContributed (ledgers j) done → s.colour < run_of n ledgers done → w ≤ s.time
  late_time w b has =
      let P : Copy → Type 0 = IsOldTimed (run_of n ledgers done) w in
      let at = (at_round (ledgers j) done).receipts in
      let same_at : (at_round (after j) done).receipts ≡ at = ap (λ cs. (slice_index_or cs done nothing).receipts) (same j) in
      let late : All P (drop (at_round (after j) done).receipts (after j).received) = b.receipts j here (subst (λ (cs : List Contribution). done < length cs) (sym (same j)) has) in
      let then : All P (drop at ((ledgers j).received ++ copy ∷ [])) = subst₂ (λ m rs. All P (drop m rs)) same_at received_is late in
      all_last P (drop at (ledgers j).received) copy (subst (All P) (drop-append-le at (ledgers j).received (copy ∷ []) (rule.rounds.faithful j done here has).receipts) then)

  current : (w : ℕ) → IsBelow n (run_of n ledgers done) after done w → IsAbove n (run_of n ledgers done) after done w
  current w b =
      let run = run_of n ledgers done in
      let above = rule.current w (below w b) in
      let newest_is : s.colour ≤ run = was_posted (λ t. t.colour ≤ run) (rule.newest i there) in
      let timed : s.colour ≡ run → w ≤ s.time = was_posted (λ t. t.colour ≡ run → w ≤ t.time) (above.copies i there) in
      record {
        copies = λ k lt. subst (All (IsTimed run w)) (sym (posted k)) (above.copies k lt);
        promises = λ k lt has.
            let had = contributed_back ledgers after same k done has in
            promised w k
            (λ e. elim (cases_lt s.colour run) [
              | inl old ↦ late_time w b (subst (λ x. HasContributed (ledgers x) done) e had) old
              | inr ge ↦ timed (omega arith)
            ])
            (above.promises k lt had);
      }

  bound : (v : ℕ) → IsBound n ledgers v → IsBound n after v
  bound v b = record {
    copies = λ a k t lt lk un. b.copies a k t lt lk (omega (arith, un, more_receipts a k t, same_posts a k t));
    promises = λ k lt. promised v k (λ e. b.copies i j s there here unreceived) (b.promises k lt);
  }

  lasting : (run v : ℕ) → IsBound n ledgers v → ((k : ℕ) → k < n → All (IsNewTimed run v) (ledgers k).posted) → (k : ℕ) → k < n → All (IsNewTimed run v) (after k).posted
  lasting run v b h k lt = subst (All (IsNewTimed run v)) (sym (posted k)) (h k lt)

  pub receipt_kept : RoundRule n after done
  receipt_kept = rule_kept n ledgers after done rule (record {
    same = same;
    colour = colour;
    channels = channels;
    faithful = faithful;
    newest = newest;
    current = current;
    bound = bound;
    lasting = lasting;
  })

pub receipts_keep : ReceiptsKeep
receipts_keep = λ n i j done s ledgers after rule there here changed un receives. receipt_kept n i j done s ledgers after rule there here changed un receives
