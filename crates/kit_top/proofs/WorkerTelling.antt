-- What runs by workers cause, and what their ends are told by.
use Rattle.std.proofs.Common.{◌≡◌, ℕ, ◌<◌, List, length, Option, Some, None, refl, sym, subst, arith}
use Rattle.kit_io.specs.declared.source.Source.{Ghosts}
use Rattle.kit_rules.specs.Parts.{Parts}
use Rattle.kit_node.specs.declared.ends.End.{End}
use Rattle.kit_node.specs.declared.ends.End.TheVariants as ends
use Rattle.kit_node.specs.declared.node.NodeReport.{NodeReport}
use Rattle.kit_replay.specs.Endings.{HasPlace}
use Rattle.kit_replay.specs.Replays.{LbtsFloor}
use Rattle.kit_runner.specs.Locks.{IsLocked}
use Rattle.kit_runner.specs.Runs.{IsRan, IsRun, LbtsAccount, Seat}
use Rattle.kit_top.specs.declared.status.Status.{Status}
use Rattle.kit_top.specs.declared.status.Status.TheVariants.{Done, Usage, ReadFault, TooLong, BadFile, Unfinished, NoBuffer, SendsSpent, RoundsSpent, WriteFault, NoMemory, CutTooLong}
use Rattle.kit_top.specs.declared.worker_command.WorkerCommand.{WorkerCommand}
use Rattle.kit_top.specs.declared.worker_command.WorkerCommand.TheVariants as by
use Rattle.kit_top.specs.Causes.{InputCauses, IsNamed, Run}
use Rattle.kit_top.specs.Headline.{IsOfRun}
use Rattle.kit_top.specs.WorkerCommands.{ReadsInput}
use Rattle.kit_top.specs.WorkerRuns.{CanTellBy, IsFederationFor, IsRunBy, WorkerCauses, WorkerEndCauses, WorkerRunCauses}
use Rattle.kit_top.proofs.Ends.{at_below}

-- what an input causes that is none, a command causes that reads it
pub by_input : {S : Type 0} (g : Ghosts S) (command : WorkerCommand) (old new : S) (run : Option Run) → ReadsInput command → (s : Status) (text : List ℕ) → InputCauses g old new s text → WorkerCauses g command old new run s text
by_input g command old new run reads ReadFault text h = (reads, h)
by_input g command old new run reads TooLong text h = (reads, h)
by_input g command old new run reads (BadFile x) text h = (reads, h)
by_input g command old new run reads Done text h = absurd h
by_input g command old new run reads Usage text h = absurd h
by_input g command old new run reads (Unfinished i) text h = absurd h
by_input g command old new run reads (NoBuffer i n) text h = absurd h
by_input g command old new run reads (SendsSpent i) text h = absurd h
by_input g command old new run reads (RoundsSpent i) text h = absurd h
by_input g command old new run reads WriteFault text h = absurd h
by_input g command old new run reads NoMemory text h = absurd h
by_input g command old new run reads CutTooLong text h = absurd h

-- the statuses that a run may cause
end_status : (command : WorkerCommand) (p : Parts) (end : End) (s : Status) (text : List ℕ) → WorkerEndCauses command p end s text → IsOfRun s
end_status command p ends.Done s text h = subst IsOfRun (sym h.0) tt
end_status command p (ends.Unfinished i) s text h = absurd h
end_status command p (ends.NoBuffer i n) s text h = subst IsOfRun (sym h.0) tt
end_status command p (ends.SendsSpent i) s text h = subst IsOfRun (sym h.0) tt
end_status command p (ends.RoundsSpent i) s text h = subst IsOfRun (sym h.0) tt
end_status command p ends.NoMemory s text h = absurd h

run_status : (command : WorkerCommand) (p : Parts) (run : Option Run) (s : Status) (text : List ℕ) → WorkerRunCauses command p run s text → IsOfRun s
run_status command p None s text h = absurd h
run_status command p (Some r) s text h = end_status command p r.end s text h.1

-- what a run causes, its command causes
pub by_run : {S : Type 0} (g : Ghosts S) (command : WorkerCommand) (old new : S) (p : Parts) (run : Option Run) → IsFederationFor g command old new p → (s : Status) (text : List ℕ) → WorkerRunCauses command p run s text → WorkerCauses g command old new run s text
by_run g command old new p run its ReadFault text h = absurd (run_status command p run ReadFault text h)
by_run g command old new p run its TooLong text h = absurd (run_status command p run TooLong text h)
by_run g command old new p run its (BadFile x) text h = absurd (run_status command p run (BadFile x) text h)
by_run g command old new p run its Done text h = (p, its, h)
by_run g command old new p run its Usage text h = (p, its, h)
by_run g command old new p run its (Unfinished i) text h = (p, its, h)
by_run g command old new p run its (NoBuffer i n) text h = (p, its, h)
by_run g command old new p run its (SendsSpent i) text h = (p, its, h)
by_run g command old new p run its (RoundsSpent i) text h = (p, its, h)
by_run g command old new p run its WriteFault text h = (p, its, h)
by_run g command old new p run its NoMemory text h = (p, its, h)
by_run g command old new p run its CutTooLong text h = (p, its, h)

-- WHAT AN END IS TOLD BY is there
pub named : (p : Parts) (end : End) (reports : List NodeReport) (a : LbtsAccount) (A : Seat → Type 0) (i : ℕ) → IsRun p end reports a → HasPlace A a.places i → i < length p.federates
named p end reports a A i h at = let below : i < length a.places = at_below a.places i at.place at.there in let many : length a.places ≡ length p.federates = h.account.many in omega arith

pub run_can_tell : (p : Parts) (end : End) (reports : List NodeReport) (a : LbtsAccount) → IsRun p end reports a → CanTellBy p reports end
run_can_tell p ends.Done reports a h = h.done refl
run_can_tell p (ends.Unfinished i) reports a h = h.end_is
run_can_tell p (ends.NoBuffer i n) reports a h = named p (ends.NoBuffer i n) reports a _ i h h.cause.0
run_can_tell p (ends.SendsSpent i) reports a h = named p (ends.SendsSpent i) reports a _ i h h.cause.0
run_can_tell p (ends.RoundsSpent i) reports a h = named p (ends.RoundsSpent i) reports a _ i h h.cause
run_can_tell p ends.NoMemory reports a h = tt

ran_can_tell : (p : Parts) (end : End) (reports : List NodeReport) (account : Option LbtsAccount) → IsRan p end reports account → CanTellBy p reports end
ran_can_tell p end reports None h = subst (CanTellBy p reports) (sym h.end_is) tt
ran_can_tell p end reports (Some a) h = run_can_tell p end reports a h

locked_can_tell : (p : Parts) (end : End) (reports : List NodeReport) (floor : Option LbtsFloor) → IsLocked p end reports floor → CanTellBy p reports end
locked_can_tell p end reports None h = subst (CanTellBy p reports) (sym h.end_is) tt
locked_can_tell p end reports (Some f) h = run_can_tell p end reports _ h.run

pub can_tell_by : (command : WorkerCommand) (p : Parts) (r : Run) → IsRunBy command p r → CanTellBy p r.reports r.end
can_tell_by (by.Lock w) p r h = locked_can_tell p r.end r.reports r.floor h.0
can_tell_by (by.Run w) p r h = ran_can_tell p r.end r.reports r.account h.0
can_tell_by (by.Trial n w) p r h = ran_can_tell p r.end r.reports r.account h.0

-- an end that is not Done names a federate that is there
pub can_name_by : (p : Parts) (reports : List NodeReport) (end : End) → (end ≡ ends.Done → ⊥) → CanTellBy p reports end → IsNamed p end
can_name_by p reports ends.Done other h = other refl
can_name_by p reports (ends.Unfinished i) other h = absurd h
can_name_by p reports (ends.NoBuffer i n) other h = h
can_name_by p reports (ends.SendsSpent i) other h = h
can_name_by p reports (ends.RoundsSpent i) other h = h
can_name_by p reports ends.NoMemory other h = tt
