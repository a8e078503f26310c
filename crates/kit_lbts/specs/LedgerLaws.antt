-- What the deeds of a federate are to its ledger. The premises speak of its own place alone.
use Rattle.std.specs.Prelude.{◌≡◌, ℕ, ◌+◌, ◌<◌, ◌≤◌, ◌==◌, ◌%◌, true, false}
use Rattle.kit_base.specs.Words.{head_of}
use Rattle.kit_ground.specs.declared.address.Reg.{Reg}
use Rattle.kit_ground.specs.declared.place.Deed.{Deed}
use Rattle.kit_ground.specs.declared.place.Deed.TheVariants.{Published, PostedTo, Collected, ReadPart}
use Rattle.kit_ground.specs.declared.place.Place.{Place}
use Rattle.kit_ground.specs.Steps.{place_after}
use Rattle.kit_rounds.specs.Ledgers.{Stamp, last_run}
use Rattle.kit_rounds.specs.Steps.{Posts, Receives, Rises, Contributes}
use Rattle.kit_lbts.specs.declared.view.Filled.{Filled}
use Rattle.kit_lbts.specs.declared.view.LbtsView.{LbtsView}
use Rattle.kit_lbts.specs.Views.{time_of, due_of, is_waiting}
use Rattle.kit_lbts.specs.Promises.{added_of, next_run, ledger_of, copy_posted, next_contribution}
use Rattle.kit_lbts.specs.Letters.{letter_in}
use Rattle.kit_lbts.specs.Reduction.{share_stage}
use Rattle.kit_lbts.specs.Progress.{head_in, message_in, view_when_ready, view_after}

-- the place after a deed
abbrev pub after : Deed → Place LbtsView → Place LbtsView
after deed p = place_after view_after deed p

-- the deeds that leave a ledger as it is
abbrev pub IsAside : Deed → Type 0
IsAside (Published r word) = ⊥
IsAside (PostedTo k j) = ⊥
IsAside (Collected i word mail) = ⊥
IsAside (ReadPart i k part word) = part ≡ 0
IsAside _ = Unit {0}

abbrev pub AsidesLeaveLedgers : Type 0
AsidesLeaveLedgers = (p : Place LbtsView) (deed : Deed) → IsAside deed → ledger_of (after deed p) ≡ ledger_of p

-- a letter that may be posted: it carries the federate's colour, and is timed by its logical time and lookahead
pub record IsPostable (p : Place LbtsView) (k : ℕ) (f : Filled) : Type 0 where
  pub is : letter_in p.client k ≡ f
  pub colour : f.colour ≡ last_run p.client.contributions
  pub late : time_of p.client + added_of p ≤ f.message.time
  pub some : 1 ≤ added_of p
  pub waits : is_waiting p.client ≡ true
  pub ahead : time_of p.client ≤ due_of p.client

-- to post it is a post
abbrev pub PostsAre : Type 0
PostsAre = (n : ℕ) (p : Place LbtsView) (k j : ℕ) (f : Filled) → j < n → IsPostable p k f
    → Posts n (copy_posted (record { to = j; filled = f })) (ledger_of p) (ledger_of (after (PostedTo k j) p))

-- the stamp of a copy whose head was read, and whose body is this
abbrev pub stamp_read : Place LbtsView → ℕ → ℕ → ℕ → Stamp
stamp_read p i k body =
    let head = head_in i k p.client.in_hand in
    record { colour = (head_of head).colour; time = (message_in i head body).time }

-- to read the body of a copy is a receipt
abbrev pub ReceiptsAre : Type 0
ReceiptsAre = (p : Place LbtsView) (i k body : ℕ) → Receives i (stamp_read p i k body) (ledger_of p) (ledger_of (after (ReadPart i k 1 body) p))

-- to collect mail is a rise: the start's rules run, where they had not
abbrev pub CollectsAre : Type 0
CollectsAre = (p : Place LbtsView) (i word mail : ℕ) → time_of p.client ≤ due_of (view_when_ready p.own.number p.client)
    → Rises (ledger_of p) (ledger_of (after (Collected i word mail) p))

-- a grant of the due time is a rise, where nothing is to be posted and the next due time is no earlier
abbrev pub GrantsAre : Type 0
GrantsAre = (p : Place LbtsView) → is_waiting p.client ≡ false → time_of p.client ≤ due_of p.client
    → let q = after (Published (record { owner = p.own.number; slot = 12 }) (due_of p.client)) p in
    due_of p.client ≤ due_of q.client → Rises (ledger_of p) (ledger_of q)

-- the place of a federate whose start's rules have run
abbrev pub ready_place : Place LbtsView → Place LbtsView
ready_place p = record p { client = view_when_ready p.own.number p.client }

-- to be ready is a rise
abbrev pub ReadyIs : Type 0
ReadyIs = (p : Place LbtsView) → time_of p.client ≤ due_of (view_when_ready p.own.number p.client) → Rises (ledger_of p) (ledger_of (ready_place p))

-- to publish the own share is a contribution of one who is ready
abbrev pub ContributionsAre : Type 0
ContributionsAre = (p : Place LbtsView) (r : Reg) (word : ℕ) → (r.slot == 12) ≡ false → (r.slot % 6 == share_stage) ≡ true
    → let c = next_contribution (ready_place p) in
    (c.run ≡ next_run (ready_place p).client) × Contributes c (ledger_of (ready_place p)) (ledger_of (after (Published r word) p))
