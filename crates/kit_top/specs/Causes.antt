-- Which status the words, the input and what was replayed cause, and what is written for it.
use Rattle.std.specs.Prelude.{◌≡◌, ◌≢◌, ℕ, ◌+◌, ◌-◌, ◌^◌, ◌<◌, ◌≤◌, List, [], ◌∷◌, ◌++◌, length, take, codes, decimal, ◌⊎◌, Option, Some, None, IfSome}
use Rattle.std.specs.Io.KnownBytes.{Appends}
use Rattle.kit_io.specs.declared.source.Source.{Ghosts}
use Rattle.kit_io.specs.Causes.{Rose, Took, TookAtMost}
use Rattle.kit_io.specs.Reading.{ShowsEnd}
use Rattle.serde_json.specs.Data.{Data}
use Rattle.kit_cut.specs.declared.cut.Cut.{Cut}
use Rattle.kit_cut.specs.Cuts.{spender_by}
use Rattle.kit_cut.specs.Resuming.{resumed_spender}
use Rattle.kit_cut.specs.Upto.{upto_text}
use Rattle.kit_rules.specs.Parts.{Parts, federate_at}
use Rattle.kit_rules.specs.Need.{need_of}
use Rattle.kit_rules.specs.Limits.{most_time}
use Rattle.kit_rules.specs.Simulation.{spender}
use Rattle.kit_rules.specs.Text.{simulation_text, check_text}
use Rattle.kit_walk.specs.declared.fault.FileFault.{FileFault}
use Rattle.kit_walk.specs.declared.fault.FileFault.TheVariants as file
use Rattle.kit_walk.specs.Reading.{Answer}
use Rattle.kit_walk.specs.Answers.{IsNoJson, IsFirstFaultOf}
use Rattle.kit_file.specs.Walk.{walk}
use Rattle.kit_file.specs.Answers.{IsAccepted, IsAcceptedPlan}
use Rattle.kit_restore.specs.Saved.{saved_walk, IsSaved}
use Rattle.kit_save.specs.Text.{most_saved}
use Rattle.kit_regions.specs.Plan.{Plan}
use Rattle.kit_regions.specs.Text.{regions_text}
use Rattle.kit_schedule.specs.Schedules.{IsSchedule}
use Rattle.kit_node.specs.declared.ends.End.{End}
use Rattle.kit_node.specs.declared.ends.End.TheVariants as ends
use Rattle.kit_node.specs.declared.node.NodeReport.{NodeReport}
use Rattle.kit_oracle.specs.declared.end.OracleEnd.{OracleEnd}
use Rattle.kit_oracle.specs.declared.end.OracleEnd.TheVariants as oracle
use Rattle.kit_replay.specs.Replays.{IsReplayed, LbtsFloor}
use Rattle.kit_replay.specs.Reports.{AreWholeParts}
use Rattle.kit_runner.specs.Runs.{LbtsAccount}
use Rattle.kit_top.specs.declared.command.Command.{Command}
use Rattle.kit_top.specs.declared.command.Command.TheVariants.{OnFederation, Regions, Resume}
use Rattle.kit_top.specs.declared.command.FederationCommand.{FederationCommand}
use Rattle.kit_top.specs.declared.command.FederationCommand.TheVariants.{Oracle, Check, Replay, Upto, Save}
use Rattle.kit_top.specs.declared.ended.Ended.{Ended}
use Rattle.kit_top.specs.declared.status.Status.{Status}
use Rattle.kit_top.specs.declared.status.Status.TheVariants.{Done, Usage, ReadFault, TooLong, BadFile, Unfinished, NoBuffer, SendsSpent, RoundsSpent, WriteFault, NoMemory, CutTooLong}
use Rattle.kit_top.specs.Saving.{save_text, resumed_text, IsSavable, too_long_text}

-- the words are those of a command on a federation: its one word, or `replay` and the words of its schedule, or `upto` or `save` and a
-- time in decimal digits without a leading 0
abbrev pub IsFederationCommand : List (List ℕ) → FederationCommand → Type 0
IsFederationCommand words Oracle = words ≡ codes "oracle" ∷ []
IsFederationCommand words Check = words ≡ codes "check" ∷ []
IsFederationCommand words (Upto time) = (time ≤ most_time) × (words ≡ codes "upto" ∷ decimal time ∷ [])
IsFederationCommand words (Save time) = (time ≤ most_time) × (words ≡ codes "save" ∷ decimal time ∷ [])
IsFederationCommand words (Replay schedule) = (rest : List (List ℕ)) × (words ≡ codes "replay" ∷ rest) × IsSchedule rest schedule

-- the words are those of a command
abbrev pub IsCommand : List (List ℕ) → Command → Type 0
IsCommand words (OnFederation command) = IsFederationCommand words command
IsCommand words Regions = words ≡ codes "regions" ∷ []
IsCommand words Resume = words ≡ codes "resume" ∷ []

-- they are those of `replay`
abbrev pub IsReplayCommand : List (List ℕ) → Type 0
IsReplayCommand words = (schedule : List ℕ) × IsFederationCommand words (Replay schedule)

-- the words are those of no command
abbrev pub IsNoCommand : List (List ℕ) → Type 0
IsNoCommand words = (command : Command) → IsCommand words command → ⊥

-- what a command asks of a federation: the text of its sequential timestamp-ordered simulation, that of its needs, the lines of that
-- simulation up to a time, or the file of its cut then
abbrev pub text_of : FederationCommand → Parts → List ℕ
text_of Oracle p = simulation_text p
text_of Check p = check_text p
text_of (Replay schedule) p = simulation_text p
text_of (Upto time) p = upto_text p time
text_of (Save time) p = save_text p time

-- the federate that takes number 16,385 in what a command simulates: the simulation, or the simulation up to a time
abbrev pub spender_of : FederationCommand → Parts → Option ℕ
spender_of (Upto time) p = spender_by p time
spender_of (Save time) p = spender_by p time
spender_of _ p = spender p

-- what `regions` asks of the plan of a file, or of a file without one: a line for each update, or nothing
abbrev pub plan_text : Option Plan → List ℕ
plan_text None = []
plan_text (Some plan) = regions_text plan

-- WHAT WAS RUN: how the run ended, the reports of its nodes, and its floor, or the account of a floor of shared words
pub record Run : Type 0 where
  pub end : End
  pub reports : List NodeReport
  pub floor : Option LbtsFloor
  pub account : Option LbtsAccount

-- the most rounds that a node takes part in
abbrev pub most_rounds : ℕ
most_rounds = 2 ^ 40 - 1

-- the run was one of this federation, with the turns of this schedule
abbrev pub IsRunOf : Parts → List ℕ → Run → Type 0
IsRunOf p schedule r = IsReplayed p schedule most_rounds r.end r.reports r.floor × (r.account ≡ None)

-- how it ended, if there was one
abbrev pub end_of : Option Run → Option End
end_of None = None
end_of (Some r) = Some r.end

-- the most bytes of an input
abbrev pub most_bytes : ℕ
most_bytes = 1048576

-- THE INPUT: these bytes were all taken: a read of the call showed the end of the input, and where the source tells its bytes,
-- these are all that were left
pub record IsWhole {S : Type 0} (g : Ghosts S) (old new : S) (bytes : List ℕ) : Type 0 where
  pub ended : ShowsEnd g new
  pub short : length bytes ≤ most_bytes
  pub all : IfSome (g.left old) (λ xs. bytes ≡ xs)
  pub emptied : IfSome (g.left old) (λ _. g.left new ≡ Some [])

-- this status, with this text
abbrev pub IsThis : Status → List ℕ → Status → List ℕ → Type 0
IsThis status words s text = (s ≡ status) × (text ≡ words)

-- the line of a fault with a federate's name
abbrev pub federate_text : List ℕ → Parts → ℕ → List ℕ
federate_text kind p i = codes "fault " ++ kind ++ codes " " ++ (federate_at p i).name ++ codes "\n"

-- that of a federate that takes number 16,385
abbrev pub spent_text : Parts → ℕ → List ℕ
spent_text p i = federate_text (codes "SendsSpent") p i

-- and that of one which has no buffer for the message of this number
abbrev pub no_buffer_text : Parts → ℕ → ℕ → List ℕ
no_buffer_text p i number = codes "fault NoBuffer " ++ (federate_at p i).name ++ codes " " ++ decimal number ++ codes "\n"

-- what a simulation causes that has this text, or in which a federate takes number 16,385
abbrev pub SpendingCauses : Parts → Option ℕ → List ℕ → Status → List ℕ → Type 0
SpendingCauses p spends words Done text = (spends ≡ None) × (text ≡ words)
SpendingCauses p spends words (SendsSpent i) text = (spends ≡ Some i) × (text ≡ spent_text p i)
SpendingCauses p spends words _ text = ⊥

-- what the simulation of a federation causes
abbrev pub SimulationCauses : FederationCommand → Parts → Status → List ℕ → Type 0
SimulationCauses command p = SpendingCauses p (spender_of command p) (text_of command p)

-- what the simulation causes that goes on from a cut
abbrev pub ResumingCauses : Parts → Cut → Status → List ℕ → Type 0
ResumingCauses p c = SpendingCauses p (resumed_spender p c) (resumed_text p c)

-- what it causes that a simulation is saved at a time
abbrev pub SavingCauses : ℕ → Parts → Status → List ℕ → Type 0
SavingCauses time p Done text = IsSavable time p × (text ≡ save_text p time)
SavingCauses time p CutTooLong text = (spender_by p time ≡ None) × (most_saved < length (save_text p time)) × (text ≡ too_long_text)
SavingCauses time p (SendsSpent i) text = (spender_by p time ≡ Some i) × (text ≡ spent_text p i)
SavingCauses time p _ text = ⊥

-- what the end of a simulation without a text causes
abbrev pub OracleEndCauses : Parts → OracleEnd → Status → List ℕ → Type 0
OracleEndCauses p (oracle.SendsSpent i) s text = IsThis (SendsSpent i) (spent_text p i) s text
OracleEndCauses p oracle.NoMemory s text = ⊥

-- the federate that an end names is there
abbrev pub IsNamed : Parts → End → Type 0
IsNamed p ends.Done = ⊥
IsNamed p (ends.Unfinished i) = i < length p.federates
IsNamed p (ends.NoBuffer i number) = i < length p.federates
IsNamed p (ends.SendsSpent i) = i < length p.federates
IsNamed p (ends.RoundsSpent i) = i < length p.federates
IsNamed p ends.NoMemory = Unit {0}

-- what the end of a replay is told by: its federate, or, where it is Done, whole reports; a schedule ends before the rounds
-- that there may be
abbrev pub CanTell : Parts → List NodeReport → End → Type 0
CanTell p reports ends.Done = AreWholeParts p reports
CanTell p reports (ends.Unfinished i) = i < length p.federates
CanTell p reports (ends.NoBuffer i number) = i < length p.federates
CanTell p reports (ends.SendsSpent i) = i < length p.federates
CanTell p reports (ends.RoundsSpent i) = ⊥
CanTell p reports ends.NoMemory = Unit {0}

-- what an end causes that names a federate
abbrev pub BadEndCauses : Parts → End → Status → List ℕ → Type 0
BadEndCauses p ends.Done s text = ⊥
BadEndCauses p (ends.Unfinished i) s text = IsThis (Unfinished i) (federate_text (codes "Unfinished") p i) s text
BadEndCauses p (ends.NoBuffer i number) s text = IsThis (NoBuffer i number) (no_buffer_text p i number) s text
BadEndCauses p (ends.SendsSpent i) s text = IsThis (SendsSpent i) (spent_text p i) s text
BadEndCauses p (ends.RoundsSpent i) s text = IsThis (RoundsSpent i) (federate_text (codes "RoundsSpent") p i) s text
BadEndCauses p ends.NoMemory s text = ⊥

-- what the end of a replay causes
abbrev pub EndCauses : Parts → End → Status → List ℕ → Type 0
EndCauses p ends.Done s text = IsThis Done (simulation_text p) s text
EndCauses p (ends.RoundsSpent i) s text = ⊥
EndCauses p end s text = BadEndCauses p end s text

-- what a replay with a schedule causes
abbrev pub ReplayCauses : List ℕ → Parts → Option Run → Status → List ℕ → Type 0
ReplayCauses schedule p None s text = ⊥
ReplayCauses schedule p (Some r) s text = IsRunOf p schedule r × EndCauses p r.end s text

-- what a command makes of a federation
abbrev pub FederationCauses : FederationCommand → Parts → Option Run → Status → List ℕ → Type 0
FederationCauses (Replay schedule) p run s text = ReplayCauses schedule p run s text
FederationCauses Oracle p run s text = SimulationCauses Oracle p s text
FederationCauses Check p run s text = SimulationCauses Check p s text
FederationCauses (Upto time) p run s text = SimulationCauses (Upto time) p s text
FederationCauses (Save time) p run s text = SavingCauses time p s text

-- the line of a fault with its path
abbrev pub path_text : List ℕ → List ℕ → List ℕ
path_text kind path = codes "fault BadFile " ++ kind ++ codes " " ++ path ++ codes "\n"

-- the line of what is wrong with a file
abbrev pub bad_file_text : FileFault → List ℕ
bad_file_text file.NotJson = codes "fault BadFile NotJson\n"
bad_file_text (file.Missing path) = path_text (codes "Missing") path
bad_file_text (file.WrongKind path) = path_text (codes "WrongKind") path
bad_file_text (file.OutOfRange path) = path_text (codes "OutOfRange") path
bad_file_text (file.UnknownName path) = path_text (codes "UnknownName") path
bad_file_text (file.Repeated path) = path_text (codes "Repeated") path
bad_file_text (file.SendTooSoon path) = path_text (codes "SendTooSoon") path
bad_file_text (file.NotRegulating path) = path_text (codes "NotRegulating") path
bad_file_text file.NoMemory = []

-- the bytes are no JSON text, or this is the first fault of a walk
abbrev pub IsBadBy : {A : Type 0} → (Data → Answer A) → List ℕ → FileFault → Type 0
IsBadBy walk bytes file.NotJson = IsNoJson bytes
IsBadBy walk bytes (file.Missing path) = IsFirstFaultOf walk bytes (file.Missing path)
IsBadBy walk bytes (file.WrongKind path) = IsFirstFaultOf walk bytes (file.WrongKind path)
IsBadBy walk bytes (file.OutOfRange path) = IsFirstFaultOf walk bytes (file.OutOfRange path)
IsBadBy walk bytes (file.UnknownName path) = IsFirstFaultOf walk bytes (file.UnknownName path)
IsBadBy walk bytes (file.Repeated path) = IsFirstFaultOf walk bytes (file.Repeated path)
IsBadBy walk bytes (file.SendTooSoon path) = IsFirstFaultOf walk bytes (file.SendTooSoon path)
IsBadBy walk bytes (file.NotRegulating path) = IsFirstFaultOf walk bytes (file.NotRegulating path)
IsBadBy walk bytes file.NoMemory = ⊥

-- of that of a federation file, of that of a saved file, and of that of the file which a command reads
abbrev pub IsBadFile : List ℕ → FileFault → Type 0
IsBadFile = IsBadBy walk

abbrev pub IsBadSaved : List ℕ → FileFault → Type 0
IsBadSaved = IsBadBy saved_walk

abbrev pub IsBadFor : Command → List ℕ → FileFault → Type 0
IsBadFor (OnFederation command) = IsBadFile
IsBadFor Regions = IsBadFile
IsBadFor Resume = IsBadSaved

-- a fault that is to be told, with its line
abbrev pub IsTheFault : FileFault → Status → List ℕ → Type 0
IsTheFault fault s text = (fault ≢ file.NoMemory) × IsThis (BadFile fault) (bad_file_text fault) s text

-- the input is a file of this federation
abbrev pub IsInput : {S : Type 0} → Ghosts S → S → S → Parts → Type 0
IsInput g old new p = (bytes : List ℕ) × IsWhole g old new bytes × IsAccepted bytes p

-- the input is a file of this plan, or of none
abbrev pub IsPlanInput : {S : Type 0} → Ghosts S → S → S → Option Plan → Type 0
IsPlanInput g old new plan = (bytes : List ℕ) × IsWhole g old new bytes × IsAcceptedPlan bytes plan

-- the input is a saved file of this federation and this cut
abbrev pub IsSavedInput : {S : Type 0} → Ghosts S → S → S → Parts × Cut → Type 0
IsSavedInput g old new saved = (bytes : List ℕ) × IsWhole g old new bytes × IsSaved bytes saved

-- what an input causes that is none, where these are bad files
abbrev pub InputCausesBy : {S : Type 0} → Ghosts S → (List ℕ → FileFault → Type 0) → S → S → Status → List ℕ → Type 0
InputCausesBy g bad old new ReadFault text = Rose (g.faults old) (g.faults new) × TookAtMost (g.left old) (g.left new) most_bytes × (text ≡ codes "fault ReadFault\n")
InputCausesBy g bad old new TooLong text = Took (g.left old) (g.left new) (most_bytes + 1) × (text ≡ codes "fault TooLong\n")
InputCausesBy g bad old new (BadFile fault) text = (bytes : List ℕ) × IsWhole g old new bytes × bad bytes fault × (text ≡ bad_file_text fault)
InputCausesBy g bad old new s text = ⊥

-- where it is to be a federation file
abbrev pub InputCauses : {S : Type 0} → Ghosts S → S → S → Status → List ℕ → Type 0
InputCauses g = InputCausesBy g IsBadFile

-- what a command makes of the bytes of a file that is accepted
abbrev pub AcceptedCauses : Command → List ℕ → Option Run → Status → List ℕ → Type 0
AcceptedCauses (OnFederation command) bytes run s text = (p : Parts) × IsAccepted bytes p × FederationCauses command p run s text
AcceptedCauses Regions bytes run s text = (plan : Option Plan) × IsAcceptedPlan bytes plan × IsThis Done (plan_text plan) s text
AcceptedCauses Resume bytes run s text = (saved : Parts × Cut) × IsSaved bytes saved × ResumingCauses saved.0 saved.1 s text

-- what a command makes of the bytes of a file
abbrev pub FileCauses : Command → List ℕ → Option Run → Status → List ℕ → Type 0
FileCauses command bytes run (BadFile fault) text = IsBadFor command bytes fault × (text ≡ bad_file_text fault)
FileCauses command bytes run s text = AcceptedCauses command bytes run s text

-- the status that the words, the input and what was replayed cause, and its text; the source was the one and is the other
abbrev pub Causes : {S : Type 0} → Ghosts S → List (List ℕ) → S → S → Option Run → Status → List ℕ → Type 0
Causes g words old new run Usage text = IsNoCommand words × (new ≡ old) × (text ≡ codes "fault Usage\n")
Causes g words old new run ReadFault text =
    (command : Command) × IsCommand words command × Rose (g.faults old) (g.faults new) × TookAtMost (g.left old) (g.left new) most_bytes × (text ≡ codes "fault ReadFault\n")
Causes g words old new run TooLong text = (command : Command) × IsCommand words command × Took (g.left old) (g.left new) (most_bytes + 1) × (text ≡ codes "fault TooLong\n")
Causes g words old new run s text = (command : Command) × IsCommand words command × (bytes : List ℕ) × IsWhole g old new bytes × FileCauses command bytes run s text

-- a status with its text, of which these are the causes, was written: whole, or a front of it where the sink
-- failed, or nothing where there was no memory
abbrev pub Told : (Status → List ℕ → Type 0) → Option (List ℕ) → Option (List ℕ) → Status → Type 0
Told causes old new WriteFault = (s : Status) × (text : List ℕ) × causes s text × (n : ℕ) × (n < length text) × Appends old new (take n text)
Told causes old new NoMemory = new ≡ old
Told causes old new s = (text : List ℕ) × causes s text × Appends old new text

-- a status that comes with a text
abbrev pub HasText : Status → Type 0
HasText WriteFault = ⊥
HasText NoMemory = ⊥
HasText s = Unit {0}

-- nobody takes number 16,385 in what `oracle`, `check` and `upto` simulate, and what is saved can be
abbrev pub IsWithin : FederationCommand → Parts → Type 0
IsWithin (Replay schedule) p = Unit {0}
IsWithin (Save time) p = IsSavable time p
IsWithin command p = spender_of command p ≡ None

-- what a command asks of the file with these bytes: the text of the simulation of its federation, its lines up to a time, the file of its cut,
-- the text of its needs, the lines of its regions, or the text of the simulation that goes on from its cut
abbrev pub IsAsked : Command → List ℕ → List ℕ → Type 0
IsAsked (OnFederation command) bytes text = (p : Parts) × IsAccepted bytes p × IsWithin command p × (text ≡ text_of command p)
IsAsked Regions bytes text = (plan : Option Plan) × IsAcceptedPlan bytes plan × (text ≡ plan_text plan)
IsAsked Resume bytes text = (saved : Parts × Cut) × IsSaved bytes saved × (resumed_spender saved.0 saved.1 ≡ None) × (text ≡ resumed_text saved.0 saved.1)

-- the promise of each command: the input is a federation file, and what was written is what the command asks of it
pub record IsAnswered {S : Type 0} (g : Ghosts S) (words : List (List ℕ)) (from to : S) (old new : Option (List ℕ)) : Type 0 where
  pub command : Command
  pub word : IsCommand words command
  pub input : List ℕ
  pub whole : IsWhole g from to input
  pub text : List ℕ
  pub asked : IsAsked command input text
  pub written : Appends old new text

-- what is left is what the run left; nothing, where there was none
abbrev pub IsLeft : Option Run → List NodeReport → Option LbtsFloor → Option LbtsAccount → Type 0
IsLeft None reports floor account = (reports ≡ []) × (floor ≡ None) × (account ≡ None)
IsLeft (Some r) reports floor account = (reports ≡ r.reports) × (floor ≡ r.floor) × (account ≡ r.account)

-- an end by these causes: what was run, if anything was, what that left, and what was told
pub record EndsWith (causes : Option Run → Status → List ℕ → Type 0) (replays : Run → Type 0) (old new : Option (List ℕ)) (ended : Ended) : Type 0 where
  pub run : Option Run
  pub replayed : IfSome run replays
  pub left : IsLeft run ended.nodes.items ended.floor ended.account
  pub told : Told (causes run) old new ended.status

-- a run for a command and a federation, for a file of one, and for the words and the input
abbrev pub IsFederationRun : FederationCommand → Parts → Run → Type 0
IsFederationRun (Replay schedule) p r = IsRunOf p schedule r
IsFederationRun Oracle p r = ⊥
IsFederationRun Check p r = ⊥
IsFederationRun (Upto time) p r = ⊥
IsFederationRun (Save time) p r = ⊥

abbrev pub IsFileRun : Command → List ℕ → Run → Type 0
IsFileRun (OnFederation command) bytes r = (p : Parts) × IsAccepted bytes p × IsFederationRun command p r
IsFileRun Regions bytes r = ⊥
IsFileRun Resume bytes r = ⊥

abbrev pub IsRun : {S : Type 0} → Ghosts S → List (List ℕ) → S → S → Run → Type 0
IsRun g words old new r = (command : Command) × IsCommand words command × (bytes : List ℕ) × IsWhole g old new bytes × IsFileRun command bytes r

-- HOW A CALL ENDED
abbrev pub IsEnded : {S : Type 0} → Ghosts S → List (List ℕ) → S → S → Option (List ℕ) → Option (List ℕ) → Ended → Type 0
IsEnded g words from to old new ended = EndsWith (Causes g words from to) (IsRun g words from to) old new ended

-- there are as many buffers as each federate needs, where a command runs over buffers
abbrev pub HasBuffers : Command → Parts → Type 0
HasBuffers (OnFederation (Replay schedule)) p = (i : ℕ) → i < length p.federates → need_of p i ≤ p.buffers
HasBuffers _ p = Unit {0}

-- the bytes are the file that a command reads, of this federation, and nobody takes number 16,385 in its simulation, or in the one that goes on
-- from its cut
abbrev pub IsReady : Command → List ℕ → Parts → Type 0
IsReady (OnFederation command) bytes p = IsAccepted bytes p × (spender p ≡ None)
IsReady Regions bytes p = IsAccepted bytes p × (spender p ≡ None)
IsReady Resume bytes p = (c : Cut) × IsSaved bytes (p, c) × (resumed_spender p c ≡ None)

-- the words are those of the command, the source tells its bytes, they are not too many, they are the command's file of the
-- federation, and there are enough buffers
pub record CanAnswer {S : Type 0} (g : Ghosts S) (words : List (List ℕ)) (old : S) (command : Command) (federation : Parts) : Type 0 where
  pub word : IsCommand words command
  pub input : List ℕ
  pub told : g.left old ≡ Some input
  pub short : length input ≤ most_bytes
  pub ready : IsReady command input federation
  pub buffers : HasBuffers command federation

-- what `save` causes where nobody takes number 16,385: the saved file, or, where that has too many bytes, that it is too long
abbrev pub SaveAnswers : ℕ → Parts → Status → List ℕ → Type 0
SaveAnswers time p s text = (length (save_text p time) ≤ most_saved) × IsThis Done (save_text p time) s text ⊎ (most_saved < length (save_text p time)) × IsThis CutTooLong too_long_text s text

-- what a command that can be answered causes
abbrev pub Answers : Command → Parts → Status → List ℕ → Type 0
Answers (OnFederation (Replay schedule)) p s text = IsThis Done (simulation_text p) s text ⊎ (i : ℕ) × IsThis (Unfinished i) (federate_text (codes "Unfinished") p i) s text
Answers (OnFederation (Save time)) p s text = SaveAnswers time p s text
Answers (OnFederation command) p s text = IsThis Done (text_of command p) s text
Answers Regions p s text = s ≡ Done
Answers Resume p s text = s ≡ Done

module _ {S : Type 0} (g : Ghosts S) where
  -- where the source tells its bytes, and no read failed, the words and the input, and for `replay` how the run ended,
  -- cause one status and one text
  abbrev pub OneCause : Type 0
  OneCause = (words : List (List ℕ)) (old new : S) (xs : List ℕ) (q r : Option Run) (s t : Status) (a b : List ℕ) → g.left old ≡ Some xs → s ≢ ReadFault → t ≢ ReadFault
      → (IsReplayCommand words → end_of q ≡ end_of r) → Causes g words old new q s a → Causes g words old new r t b → (s ≡ t) × (a ≡ b)

  -- where a command can answer, what is caused is Done, with the text that the command asks for, or that a read failed;
  -- for `replay` it may also be that the run did not finish, and for `save` that the file would be too long
  abbrev pub Completes : Type 0
  Completes = (words : List (List ℕ)) (old new : S) (command : Command) (federation : Parts) (run : Option Run) (s : Status) (text : List ℕ)
      → CanAnswer g words old command federation → Causes g words old new run s text → Answers command federation s text ⊎ (s ≡ ReadFault)
