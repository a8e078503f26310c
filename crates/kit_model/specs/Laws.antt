-- Laws of journals, of counts of copies and of shares.
use Rattle.std.specs.Prelude.{◌≡◌, ℕ, ◌+◌, ◌%◌, ◌<◌, ◌≤◌, ◌↔◌, if◌then◌else◌, List, [], ◌∷◌, ◌++◌, length, All, None}
use Rattle.kit_base.specs.declared.message.Message.{Message}
use Rattle.kit_model.specs.declared.journal.JournalEntry.{JournalEntry}
use Rattle.kit_model.specs.declared.journal.JournalEntry.TheVariants.{Received, Delivered, Granted}
use Rattle.kit_model.specs.declared.share.Share.{Share}
use Rattle.kit_model.specs.Journals.{IsLawful, time_granted, last_grant, now_of, MayFollowGrant}
use Rattle.kit_model.specs.Counts.{Copies, is_old, old_count, out_count, inn_count, with_posted, with_received}
use Rattle.kit_model.specs.Shares.{share_sum, FitsWord, share_word, share_of, Shows}

-- a journal with no entry is lawful
abbrev pub EmptyIsLawful : Type 0
EmptyIsLawful = IsLawful []

-- a journal with one more entry is lawful exactly where it was, and the entry may follow the last grant
abbrev pub PushesAreLawful : Type 0
PushesAreLawful = (entries : List JournalEntry) (e : JournalEntry)
    → IsLawful (entries ++ e ∷ []) ↔ (IsLawful entries × MayFollowGrant (last_grant entries) e)

-- a message may be received that is timed after the federate's logical time
abbrev pub ReceiptsAreLawful : Type 0
ReceiptsAreLawful = (entries : List JournalEntry) (m : Message) → IsLawful entries → now_of entries < m.time → IsLawful (entries ++ Received m ∷ [])

-- a message may be delivered at any time
abbrev pub DeliveriesAreLawful : Type 0
DeliveriesAreLawful = (entries : List JournalEntry) (granted : ℕ) (m : Message) → IsLawful entries → IsLawful (entries ++ Delivered granted m ∷ [])

-- a time may be granted that is after the federate's logical time, and is then its logical time
abbrev pub GrantsAreLawful : Type 0
GrantsAreLawful = (entries : List JournalEntry) (t : ℕ) → IsLawful entries → now_of entries < t
    → IsLawful (entries ++ Granted t ∷ []) × (now_of (entries ++ Granted t ∷ []) ≡ t)

-- no other entry changes the logical time
abbrev pub OthersKeepTheTime : Type 0
OthersKeepTheTime = (entries : List JournalEntry) (e : JournalEntry) → time_granted e ≡ None → now_of (entries ++ e ∷ []) ≡ now_of entries

-- the front of a lawful journal is lawful
abbrev pub FrontsAreLawful : Type 0
FrontsAreLawful = (entries more : List JournalEntry) → IsLawful (entries ++ more) → IsLawful entries

-- one more copy counts for itself
abbrev pub CopiesCountOnce : Type 0
CopiesCountOnce = (run colour : ℕ) (colours : List ℕ)
    → old_count run (colours ++ colour ∷ []) ≡ old_count run colours + (if is_old run colour then 1 else 0)

-- a copy that is posted counts for itself among those posted
abbrev pub PostsCount : Type 0
PostsCount = (run colour : ℕ) (copies : Copies)
    → (out_count run (with_posted colour copies) ≡ out_count run copies + (if is_old run colour then 1 else 0)) × (inn_count run (with_posted colour copies) ≡ inn_count run copies)

-- and one that is received among those received
abbrev pub ReceiptsCount : Type 0
ReceiptsCount = (run colour : ℕ) (copies : Copies)
    → (inn_count run (with_received colour copies) ≡ inn_count run copies + (if is_old run colour then 1 else 0)) × (out_count run (with_received colour copies) ≡ out_count run copies)

-- further copies take nothing off the count
abbrev pub CountsKeepGrowing : Type 0
CountsKeepGrowing = (run : ℕ) (colours more : List ℕ) → old_count run colours ≤ old_count run (colours ++ more)

-- what is old in a run is old in each later run
abbrev pub LaterRunsCountMore : Type 0
LaterRunsCountMore = (run later : ℕ) (colours : List ℕ) → run ≤ later → old_count run colours ≤ old_count later colours

-- a run above all colours counts all copies
abbrev pub AllColoursGetOld : Type 0
AllColoursGetOld = (run : ℕ) (colours : List ℕ) → All (λ c. c < run) colours → old_count run colours ≡ length colours

-- copies of the run's colour or a greater one do not count
abbrev pub NewCopiesDoNotCount : Type 0
NewCopiesDoNotCount = (run : ℕ) (colours more : List ℕ) → All (λ c. run ≤ c) more → old_count run (colours ++ more) ≡ old_count run colours

-- two shares may be joined in either order
abbrev pub JoinCommutes : Type 0
JoinCommutes = (a b : Share) → share_sum a b ≡ share_sum b a

-- and three in any grouping
abbrev pub JoinAssociates : Type 0
JoinAssociates = (a b c : Share) → share_sum (share_sum a b) c ≡ share_sum a (share_sum b c)

-- a share that was packed comes back, with its round modulo 8
abbrev pub SharesComeBack : Type 0
SharesComeBack = (share : Share) (round : ℕ) → FitsWord share → share_of (share_word share round) ≡ (share, round % 8)

-- no other word tells the same
abbrev pub SharesAreWords : Type 0
SharesAreWords = (share : Share) (round word : ℕ) → share_of word ≡ (share, round % 8) → word ≡ share_word share round

-- a share's word shows those rounds that are its own modulo 8
abbrev pub WordsShowTheirRound : Type 0
WordsShowTheirRound = (share : Share) (round other : ℕ) → FitsWord share → Shows (share_word share round) other ↔ (round % 8 ≡ other % 8)

-- so it does not show the round after the next, which is the next one of its parity
abbrev pub OldWordsDiffer : Type 0
OldWordsDiffer = (share : Share) (round : ℕ) → FitsWord share → ¬ Shows (share_word share round) (round + 2)

-- and a word of 0 shows neither of the first two rounds
abbrev pub ZeroShowsNoRound : Type 0
ZeroShowsNoRound = (¬ Shows 0 1) × (¬ Shows 0 2)
