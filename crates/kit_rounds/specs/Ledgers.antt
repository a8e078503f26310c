-- What the federates of a reduction have written down: what each promises, which copies it posted and
-- received, and what it contributed to each round.
use Rattle.std.specs.Prelude.{◌≡◌, ◌≢◌, ◌-◌, ℕ, List, [], length, map, slice_index_or}
use Rattle.kit_rounds.specs.declared.contribution.Contribution.{Contribution}

-- how a copy of a message looks to a reduction: the run to which its sender had contributed last, and its time
pub record Stamp : Type 0 where
  pub colour : ℕ
  pub time : ℕ

-- a copy: its peer is the receiver where it was posted, and the sender where it was received
pub record Copy : Type 0 where
  pub peer : ℕ
  pub stamp : Stamp

-- the contributions are one for each round from the first on
pub record Ledger : Type 0 where
  pub promise : ℕ
  pub colour : ℕ
  pub posted : List Copy
  pub received : List Copy
  pub contributions : List Contribution

-- no contribution
abbrev pub nothing : Contribution
nothing = record { run = 0; share = record { out = 0; inn = 0; low = 0 }; posts = 0; receipts = 0 }

-- a ledger with no entry
abbrev pub blank : Ledger
blank = record { promise = 0; colour = 0; posted = []; received = []; contributions = [] }

-- the ledgers of a list, each under its place
abbrev pub in_list : List Ledger → ℕ → Ledger
in_list ledgers j = slice_index_or ledgers j blank

-- the colours of some copies
abbrev pub colours : List Copy → List ℕ
colours cs = map (λ (c : Copy). c.stamp.colour) cs

-- the contribution to a round, by the number of rounds before it
abbrev pub at_round : Ledger → ℕ → Contribution
at_round l k = slice_index_or l.contributions k nothing

-- the run of the last of these contributions, or 0 where there is none
abbrev pub last_run : List Contribution → ℕ
last_run cs = (slice_index_or cs (length cs - 1) nothing).run

-- the ledger of one federate is another one, and nobody else's changed
pub record IsChanged (i : ℕ) (ledgers after : ℕ → Ledger) : Type 0 where
  pub others : (j : ℕ) → j ≢ i → after j ≡ ledgers j
