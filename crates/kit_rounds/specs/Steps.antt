-- The steps of a reduction, each as what it asks of the ledger of the federate that makes it.
use Rattle.std.specs.Prelude.{◌≡◌, ℕ, ◌<◌, ◌≤◌, All, [], ◌∷◌, ◌++◌, length}
use Rattle.kit_model.specs.Counts.{old_count}
use Rattle.kit_rounds.specs.declared.contribution.Contribution.{Contribution}
use Rattle.kit_rounds.specs.Ledgers.{Stamp, Copy, Ledger, colours}
use Rattle.kit_rounds.specs.Rule.{IsTimed}

abbrev pub with_post : ℕ → Copy → Ledger → Ledger
with_post promise c l = record l { promise = promise; posted = l.posted ++ c ∷ [] }

abbrev pub with_receipt : ℕ → ℕ → Stamp → Ledger → Ledger
with_receipt promise i s l = record l { promise = promise; received = l.received ++ record { peer = i; stamp = s } ∷ [] }

abbrev pub with_contribution : Contribution → Ledger → Ledger
with_contribution c l = record l { colour = c.run; contributions = l.contributions ++ c ∷ [] }

abbrev pub with_promise : ℕ → Ledger → Ledger
with_promise promise l = record l { promise = promise }

-- the federate posts a copy, in its own colour and timed its promise or more
pub record Posts (n : ℕ) (c : Copy) (before after : Ledger) : Type 0 where
  pub addressed : c.peer < n
  pub stamped : c.stamp.colour ≡ before.colour
  pub timed : before.promise ≤ c.stamp.time
  pub rises : before.promise ≤ after.promise
  pub is : after ≡ with_post after.promise c before

-- the federate receives a copy: its promise falls to the copy's time at most
pub record Receives (i : ℕ) (s : Stamp) (before after : Ledger) : Type 0 where
  pub holds : (w : ℕ) → w ≤ before.promise → w ≤ s.time → w ≤ after.promise
  pub is : after ≡ with_receipt after.promise i s before

-- the federate's promise rises, or nothing of its ledger changes
pub record Rises (before after : Ledger) : Type 0 where
  pub rises : before.promise ≤ after.promise
  pub is : after ≡ with_promise after.promise before

-- the low of a contribution: the least of the promise and of the times of the posts of the run's colour
pub record IsLow (l : Ledger) (run low : ℕ) : Type 0 where
  pub promise : low ≤ l.promise
  pub posts : All (IsTimed run low) l.posted
  pub greatest : (w : ℕ) → w ≤ l.promise → All (IsTimed run w) l.posted → w ≤ low

-- the federate contributes, and takes the colour of the run
pub record Contributes (c : Contribution) (before after : Ledger) : Type 0 where
  pub posts : c.posts ≡ length before.posted
  pub receipts : c.receipts ≡ length before.received
  pub out : c.share.out ≡ old_count c.run (colours before.posted)
  pub inn : c.share.inn ≡ old_count c.run (colours before.received)
  pub low : IsLow before c.run c.share.low
  pub is : after ≡ with_contribution c before
