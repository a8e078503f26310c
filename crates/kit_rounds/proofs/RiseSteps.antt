-- A federate's promise rises.
use Rattle.std.proofs.Common.{◌≡◌, ℕ, ◌<◌, ◌≤◌, List, length, drop, arith, refl, sym, ap, subst}
use Rattle.std.specs.List.{All, count_by}
use Rattle.kit_rounds.specs.declared.contribution.Contribution.{Contribution}
use Rattle.kit_rounds.specs.Ledgers.{Stamp, Copy, Ledger, at_round, IsChanged}
use Rattle.kit_rounds.specs.Channels.{is_copy, posts_of, receipts_of, Channels}
use Rattle.kit_rounds.specs.Rounds.{HasContributed, run_of, IsFaithful}
use Rattle.kit_rounds.specs.Rule.{IsTimed, IsOldTimed, IsNewTimed, IsBelow, RoundRule}
use Rattle.kit_rounds.specs.Steps.{Rises}
use Rattle.kit_rounds.specs.Laws.{RisesKeep}
use Rattle.kit_rounds.proofs.Changing.{each_changed}
use Rattle.kit_rounds.proofs.Kept.{StayTheSame, lows_back, contributed_back, late_back, rule_kept}

module _ (n i done : ℕ) (ledgers after : ℕ → Ledger) (rule : RoundRule n ledgers done) (changed : IsChanged i ledgers after) (rises : Rises (ledgers i) (after i)) where
  same : StayTheSame ledgers after
  same = each_changed (λ j l. l.contributions ≡ (ledgers j).contributions) i ledgers after changed (λ j ne. refl) (ap (λ (l : Ledger). l.contributions) rises.is)

  colour : (j : ℕ) → (after j).colour ≡ (ledgers j).colour
  colour = each_changed (λ j l. l.colour ≡ (ledgers j).colour) i ledgers after changed (λ j ne. refl) (ap (λ (l : Ledger). l.colour) rises.is)

  posted : (j : ℕ) → (after j).posted ≡ (ledgers j).posted
  posted = each_changed (λ j l. l.posted ≡ (ledgers j).posted) i ledgers after changed (λ j ne. refl) (ap (λ (l : Ledger). l.posted) rises.is)

  received : (j : ℕ) → (after j).received ≡ (ledgers j).received
  received = each_changed (λ j l. l.received ≡ (ledgers j).received) i ledgers after changed (λ j ne. refl) (ap (λ (l : Ledger). l.received) rises.is)

  promises : (j : ℕ) → (ledgers j).promise ≤ (after j).promise
  promises = each_changed (λ j l. (ledgers j).promise ≤ l.promise) i ledgers after changed (λ j ne. omega arith) rises.rises

  same_posts : (a b : ℕ) (t : Stamp) → posts_of after a b t ≡ posts_of ledgers a b t
  same_posts a b t = ap (count_by (is_copy b t)) (posted a)

  same_receipts : (a b : ℕ) (t : Stamp) → receipts_of after a b t ≡ receipts_of ledgers a b t
  same_receipts a b t = ap (count_by (is_copy a t)) (received b)

  channels : Channels n after
  channels = record {
    posted = λ j lt. subst (All (λ (x : Copy). x.peer < n)) (sym (posted j)) (rule.channels.posted j lt);
    received = λ j lt. subst (All (λ (x : Copy). x.peer < n)) (sym (received j)) (rule.channels.received j lt);
    each = λ a b la lb t. omega (arith, same_posts a b t, same_receipts a b t, rule.channels.each a b la lb t);
  }

  faithful : (j k : ℕ) → j < n → HasContributed (ledgers j) k → IsFaithful (after j) (at_round (ledgers j) k)
  faithful =
      each_changed (λ j l. (k : ℕ) → j < n → HasContributed (ledgers j) k → IsFaithful l (at_round (ledgers j) k)) i ledgers after changed
      (λ j ne k lt has. rule.rounds.faithful j k lt has)
      (λ k lt has.
      let f = rule.rounds.faithful i k lt has in
      subst (λ l. IsFaithful l (at_round (ledgers i) k)) (sym rises.is) (record { posts = f.posts; receipts = f.receipts; out = f.out; inn = f.inn; later = f.later }))

  below : (w : ℕ) → IsBelow n (run_of n ledgers done) after done w → IsBelow n (run_of n ledgers done) ledgers done w
  below w b =
      let run = run_of n ledgers done in
      record {
        lows = lows_back n ledgers after done w same b.lows;
        posts = λ j lt out. subst (All (IsTimed run w)) (posted j) (b.posts j lt (subst (λ (cs : List Contribution). length cs ≤ done) (sym (same j)) out));
        receipts = λ j lt. late_back (IsOldTimed run w) ledgers after same j done (λ at. subst (λ rs. All (IsOldTimed run w) (drop at rs)) (received j)) (b.receipts j lt);
      }

  pub rise_kept : RoundRule n after done
  rise_kept = rule_kept n ledgers after done rule (record {
    same = same;
    colour = colour;
    channels = channels;
    faithful = faithful;
    newest = λ j lt. subst (All (λ (x : Copy). x.stamp.colour ≤ run_of n ledgers done)) (sym (posted j)) (rule.newest j lt);
    current = λ w b.
        let above = rule.current w (below w b) in
        record {
          copies = λ j lt. subst (All (IsTimed (run_of n ledgers done) w)) (sym (posted j)) (above.copies j lt);
          promises = λ j lt has. omega (arith, above.promises j lt (contributed_back ledgers after same j done has), promises j);
        };
    bound = λ v b. record {
      copies = λ a k t la lk un. b.copies a k t la lk (omega (arith, same_posts a k t, same_receipts a k t, un));
      promises = λ j lt. omega (arith, b.promises j lt, promises j);
    };
    lasting = λ run v b h j lt. subst (All (IsNewTimed run v)) (sym (posted j)) (h j lt);
  })

pub rises_keep : RisesKeep
rises_keep = λ n i done ledgers after rule here changed rises. rise_kept n i done ledgers after rule changed rises
