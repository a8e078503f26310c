-- What the commands that run nodes by workers come to.
use Rattle.std.specs.Prelude.{◌≡◌, ℕ, List, Option, None, Some}
use Rattle.kit_io.specs.declared.source.Source.{Ghosts}
use Rattle.kit_rules.specs.Parts.{Parts}
use Rattle.kit_rules.specs.Text.{simulation_text}
use Rattle.kit_gen.specs.Generator.{generated}
use Rattle.kit_report.specs.Summary.{simulation_summary}
use Rattle.kit_node.specs.declared.ends.End.{End}
use Rattle.kit_node.specs.declared.ends.End.TheVariants as ends
use Rattle.kit_node.specs.declared.node.NodeReport.{NodeReport}
use Rattle.kit_replay.specs.Reports.{AreWholeParts}
use Rattle.kit_runner.specs.Locks.{IsLocked}
use Rattle.kit_runner.specs.Runs.{IsRan}
use Rattle.kit_top.specs.declared.ended.Ended.{Ended}
use Rattle.kit_top.specs.declared.status.Status.{Status}
use Rattle.kit_top.specs.declared.status.Status.TheVariants.{Done, ReadFault, TooLong, BadFile}
use Rattle.kit_top.specs.declared.worker_command.WorkerCommand.{WorkerCommand}
use Rattle.kit_top.specs.declared.worker_command.WorkerCommand.TheVariants as by
use Rattle.kit_top.specs.Causes.{BadEndCauses, EndsWith, InputCauses, IsInput, IsNamed, IsThis, Run}
use Rattle.kit_top.specs.WorkerCommands.{ReadsInput}

-- the federation that a command runs: that of the input, or, for a trial, the one that the generator makes of its number, and then
-- the source is left as it is
abbrev pub IsFederationFor : {S : Type 0} → Ghosts S → WorkerCommand → S → S → Parts → Type 0
IsFederationFor g (by.Trial number workers) old new p = (new ≡ old) × (p ≡ generated number)
IsFederationFor g _ old new p = IsInput g old new p

-- the run was one of this federation, for this command
abbrev pub IsRunBy : WorkerCommand → Parts → Run → Type 0
IsRunBy (by.Lock workers) p r = IsLocked p r.end r.reports r.floor × (r.account ≡ None)
IsRunBy _ p r = IsRan p r.end r.reports r.account × (r.floor ≡ None)

-- what a command asks of a federation: the text of its sequential timestamp-ordered simulation, or, for a trial, the summary of that
abbrev pub text_by : WorkerCommand → Parts → List ℕ
text_by (by.Trial number workers) p = simulation_summary number p
text_by _ p = simulation_text p

-- what the end of a run by workers causes: all nodes get turns until they end
abbrev pub WorkerEndCauses : WorkerCommand → Parts → End → Status → List ℕ → Type 0
WorkerEndCauses command p ends.Done s text = IsThis Done (text_by command p) s text
WorkerEndCauses command p (ends.Unfinished i) s text = ⊥
WorkerEndCauses command p end s text = BadEndCauses p end s text

-- what a run of a federation causes
abbrev pub WorkerRunCauses : WorkerCommand → Parts → Option Run → Status → List ℕ → Type 0
WorkerRunCauses command p None s text = ⊥
WorkerRunCauses command p (Some r) s text = IsRunBy command p r × WorkerEndCauses command p r.end s text

-- the status that a command, the input and the run cause, and its text; the source was the one and is the other
abbrev pub WorkerCauses : {S : Type 0} → Ghosts S → WorkerCommand → S → S → Option Run → Status → List ℕ → Type 0
WorkerCauses g command old new run ReadFault text = ReadsInput command × InputCauses g old new ReadFault text
WorkerCauses g command old new run TooLong text = ReadsInput command × InputCauses g old new TooLong text
WorkerCauses g command old new run (BadFile fault) text = ReadsInput command × InputCauses g old new (BadFile fault) text
WorkerCauses g command old new run s text = (p : Parts) × IsFederationFor g command old new p × WorkerRunCauses command p run s text

-- a run for a command and the input
abbrev pub IsWorkerRun : {S : Type 0} → Ghosts S → WorkerCommand → S → S → Run → Type 0
IsWorkerRun g command old new r = (p : Parts) × IsFederationFor g command old new p × IsRunBy command p r

-- HOW A CALL WITH WORKERS ENDED
abbrev pub EndsByWorkers : {S : Type 0} → Ghosts S → WorkerCommand → S → S → Option (List ℕ) → Option (List ℕ) → Ended → Type 0
EndsByWorkers g command from to old new ended = EndsWith (WorkerCauses g command from to) (IsWorkerRun g command from to) old new ended

-- what the end of a run by workers is told by: its federate, or, where it is Done, whole reports
abbrev pub CanTellBy : Parts → List NodeReport → End → Type 0
CanTellBy p reports ends.Done = AreWholeParts p reports
CanTellBy p reports (ends.Unfinished i) = ⊥
CanTellBy p reports end = IsNamed p end
