-- The headline: what is true of every run by workers, whatever their number and the order of their steps.
use Rattle.std.specs.Prelude.{◌≡◌, ℕ, ◌<◌, List, ◌∷◌, ◌++◌, length, map, Option, IfSome, IsSome}
use Rattle.std.specs.Io.KnownBytes.{Appends}
use mathlib.Core.Option.{some}
use lib.ListN.{get_elem?}
use Rattle.kit_base.specs.declared.message.Message.{Message}
use Rattle.kit_io.specs.declared.source.Source.{Ghosts}
use Rattle.kit_rules.specs.Parts.{Parts}
use Rattle.kit_model.specs.declared.journal.JournalEntry.{JournalEntry}
use Rattle.kit_model.specs.declared.journal.JournalEntry.TheVariants.{Received, Granted}
use Rattle.kit_model.specs.Journals.{IsLawful}
use Rattle.kit_ground.specs.declared.address.Address.TheVariants.{Part}
use Rattle.kit_ground.specs.declared.place.Deed.TheVariants.{Wrote}
use Rattle.kit_ground.specs.Layout.{memory_of}
use Rattle.kit_ground.specs.Memory.{Memory}
use Rattle.kit_ground.specs.Rules.{stock_of}
use Rattle.kit_ground.specs.Sets.{due}
use Rattle.kit_ground.specs.Steps.{Allowed}
use Rattle.kit_ground.specs.Words.{RuledWords}
use Rattle.kit_lbts.specs.Agreement.{agreeing_rule}
use Rattle.kit_lbts.specs.Views.{entries_of}
use Rattle.kit_node.specs.declared.ends.End.{End}
use Rattle.kit_node.specs.declared.node.NodeReport.{NodeReport}
use Rattle.kit_node.specs.Seats.{HasFinished}
use Rattle.kit_replay.specs.Replays.{LbtsFloor}
use Rattle.kit_replay.specs.Reports.{AgreesWithPart}
use Rattle.kit_runner.specs.Locks.{IsLockRun}
use Rattle.kit_runner.specs.Runs.{IsRun, LbtsAccount, Seat}
use Rattle.kit_top.specs.declared.status.Status.{Status}
use Rattle.kit_top.specs.declared.status.Status.TheVariants.{Done, NoBuffer, SendsSpent, RoundsSpent}
use Rattle.kit_top.specs.declared.worker_command.WorkerCommand.{WorkerCommand}
use Rattle.kit_top.specs.declared.worker_command.WorkerCommand.TheVariants as by
use Rattle.kit_top.specs.Causes.{InputCauses}
use Rattle.kit_top.specs.WorkerCommands.{IsWorkerCommand, ReadsInput, SharesWords}
use Rattle.kit_top.specs.WorkerRuns.{IsFederationFor, text_by}

-- ---- no late message

-- NOTHING IS LATE in a journal: what the federate was handed after a grant, a message or a Retraction, is timed after that grant
abbrev pub NothingIsLate : List JournalEntry → Type 0
NothingIsLate entries = (before between after : List JournalEntry) (granted : ℕ) (m : Message) → entries ≡ before ++ Granted granted ∷ between ++ Received m ∷ after → granted < m.time

-- so it is in the journal of each federate
abbrev pub NothingCameLate : List Seat → Type 0
NothingCameLate places = (i : ℕ) (q : Seat) → get_elem? places i ≡ some q → NothingIsLate (entries_of q.client)

-- ---- no buffer filled again too soon

-- a federate is still to read the buffer k of i: it is to be posted to it, or lies in its mail, or it has not released it
abbrev pub IsCountedReader : Memory → List Seat → ℕ → ℕ → ℕ → Type 0
IsCountedReader m places i k j = due m (map stock_of places) i k j ≡ 1

-- A BUFFER IS FILLED ONLY WHERE NOBODY READS IT: at whatever moment federate i may write into its buffer k, no federate is counted as a
-- reader of that buffer
abbrev pub FillsUnreadBuffers : ℕ → Memory → List Seat → Type 0
FillsUnreadBuffers buffers m places = (i k part word j : ℕ) (q : Seat) → get_elem? places i ≡ some q → j < length places → Allowed q.own (Wrote k part word) (m (Part i k part)) → IsCountedReader m places i k j → ⊥

-- so it is on a floor with these words
abbrev pub FillsOnlyUnread : LbtsAccount → Type 0
FillsOnlyUnread a = FillsUnreadBuffers a.buffers (memory_of (length a.places) a.buffers a.words) a.places

-- BETWEEN ANY TWO STEPS of a run both rules hold of the floor's words and places; then nothing came late, and a buffer is filled only
-- where nobody reads it
pub record IsKept (a : LbtsAccount) : Type 0 where
  pub on_time : NothingCameLate a.places
  pub unread : FillsOnlyUnread a

abbrev pub RulesKeepIt : Type 0
RulesKeepIt = (a : LbtsAccount) → RuledWords agreeing_rule a.buffers a.words a.places → IsKept a

-- ---- the text

-- THE ANSWER of a command: the federation is that of the input, or of the trial's number, and what was written is the text of its
-- sequential timestamp-ordered simulation, or the summary of that
pub record IsAnsweredBy {S : Type 0} (g : Ghosts S) (command : WorkerCommand) (from to : S) (old new : Option (List ℕ)) : Type 0 where
  pub federation : Parts
  pub its : IsFederationFor g command from to federation
  pub written : Appends old new (text_by command federation)

-- where it is done each federate has made its whole part
abbrev pub AllHaveFinished : List Seat → Type 0
AllHaveFinished places = (i : ℕ) (q : Seat) → get_elem? places i ≡ some q → HasFinished q

-- ---- what is left

-- a federate's journal is lawful, and agrees with the sequential simulation as far as it goes
pub record AgreesSoFar (p : Parts) (i : ℕ) (entries : List JournalEntry) : Type 0 where
  pub lawful : IsLawful entries
  pub agrees : AgreesWithPart p i entries

abbrev pub AllAgreeSoFar : Parts → List Seat → Type 0
AllAgreeSoFar p places = (i : ℕ) (q : Seat) → get_elem? places i ≡ some q → AgreesSoFar p i (entries_of q.client)

-- THE ACCOUNT that `run` and `trial` leave is that of a run of the command's federation, whose rules held at its end; the reports are of its places
pub record IsAccounted {S : Type 0} (g : Ghosts S) (words : List (List ℕ)) (from to : S) (reports : List NodeReport) (a : LbtsAccount) : Type 0 where
  pub command : WorkerCommand
  pub word : IsWorkerCommand words command
  pub shares : SharesWords command
  pub federation : Parts
  pub its : IsFederationFor g command from to federation
  pub end : End
  pub run : IsRun federation end reports a
  pub agree : AllAgreeSoFar federation a.places

-- THE FLOOR that `lock` leaves is that of a run of the command's federation over one lock
pub record IsLeftByLock {S : Type 0} (g : Ghosts S) (command : WorkerCommand) (from to : S) (reports : List NodeReport) (f : LbtsFloor) : Type 0 where
  pub federation : Parts
  pub its : IsFederationFor g command from to federation
  pub end : End
  pub run : IsLockRun federation end reports f
  pub agree : AllAgreeSoFar federation f.places

-- the statuses of a run that was made
abbrev pub IsOfRun : Status → Type 0
IsOfRun Done = Unit {0}
IsOfRun (NoBuffer i number) = Unit {0}
IsOfRun (SendsSpent i) = Unit {0}
IsOfRun (RoundsSpent i) = Unit {0}
IsOfRun _ = ⊥

-- what such a run leaves is there: an account, or, for `lock`, a floor
abbrev pub IsThere : WorkerCommand → Option LbtsFloor → Option LbtsAccount → Type 0
IsThere (by.Lock workers) floor account = IsSome floor
IsThere _ floor account = IsSome account

-- the input of a command that reads it is none: a read failed, it is too long, or its file has a fault
abbrev pub IsBadInput : {S : Type 0} → Ghosts S → WorkerCommand → S → S → Type 0
IsBadInput g command old new = ReadsInput command × (s : Status) × (text : List ℕ) × InputCauses g old new s text

-- and where it is done each federate has made its whole part
abbrev pub AreComplete : WorkerCommand → Option LbtsFloor → Option LbtsAccount → Type 0
AreComplete (by.Lock workers) floor account = IfSome floor (λ f. AllHaveFinished f.places)
AreComplete _ floor account = IfSome account (λ a. AllHaveFinished a.places)
