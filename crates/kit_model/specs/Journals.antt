-- What a federate's journal tells, and when it is lawful: as HLA 1.3 has it for a time-constrained federate,
-- no message of a time that was granted, or of an earlier one, comes after the grant.
use Rattle.std.specs.Prelude.{ℕ, ◌<◌, List, [], ◌∷◌, AllPairs, fold, Option, None, Some, IfSome, unwrap_or}
use Rattle.std.specs.Option.{option_or}
use Rattle.std.specs.List.{flat_map}
use Rattle.kit_base.specs.declared.history.Line.{Line}
use Rattle.kit_base.specs.declared.history.Line.TheVariants as line
use Rattle.kit_model.specs.declared.journal.JournalEntry.{JournalEntry}
use Rattle.kit_model.specs.declared.journal.JournalEntry.TheVariants.{Received, Delivered, Granted}

-- the entries, and for how many more memory is set aside
pub record JournalState : Type 0 where
  pub entries : List JournalEntry
  pub spare : ℕ

-- what may come somewhere after what: after a grant only later grants, and only later messages are received
abbrev pub MayFollow : JournalEntry → JournalEntry → Type 0
MayFollow (Granted t) (Granted u) = t < u
MayFollow (Granted t) (Received m) = t < m.time
MayFollow _ _ = Unit {0}

-- granted times rise strictly, and no message is received after a grant of its time or a later one
abbrev pub IsLawful : List JournalEntry → Type 0
IsLawful entries = AllPairs MayFollow entries

-- the time that an entry grants, if it is a grant
abbrev pub time_granted : JournalEntry → Option ℕ
time_granted (Granted t) = Some t
time_granted _ = None

-- the time of the last grant
abbrev pub last_grant : List JournalEntry → Option ℕ
last_grant entries = fold (λ last e. option_or (time_granted e) last) None entries

-- the federate's logical time: that of its last grant, or 0
abbrev pub now_of : List JournalEntry → ℕ
now_of entries = unwrap_or (last_grant entries) 0

-- an entry may come after the last grant, if there is one
abbrev pub MayFollowGrant : Option ℕ → JournalEntry → Type 0
MayFollowGrant last e = IfSome last (λ t. MayFollow (Granted t) e)

-- the line that an entry tells of a federate: that a message was received is no line of a history
abbrev pub line_told : ℕ → JournalEntry → List Line
line_told federate (Received m) = []
line_told federate (Delivered granted m) = line.Deliver granted federate m ∷ []
line_told federate (Granted t) = line.Grant t federate ∷ []

-- the lines that a journal tells of a federate, in its order: the deliveries and the grants
abbrev pub lines_told : ℕ → List JournalEntry → List Line
lines_told federate entries = flat_map (line_told federate) entries
