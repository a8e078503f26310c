-- What was told for one set of causes was told for another that follows from it.
use Rattle.std.proofs.Common.{◌≡◌, ◌≢◌, List, [], ℕ, Option, Some, None, IfSome, refl, sym, subst, ◌∙◌}
use Rattle.std.specs.Io.KnownBytes.{Appends}
use Rattle.kit_node.specs.declared.ends.End.{End}
use Rattle.kit_node.specs.declared.ends.End.TheVariants as ends
use Rattle.kit_top.specs.declared.command.Command.{Command}
use Rattle.kit_top.specs.declared.command.Command.TheVariants.{OnFederation, Regions, Resume}
use Rattle.kit_top.specs.declared.command.FederationCommand.{FederationCommand}
use Rattle.kit_top.specs.declared.command.FederationCommand.TheVariants.{Oracle, Check, Replay, Upto, Save}
use Rattle.kit_top.specs.declared.ended.Ended.{Ended}
use Rattle.kit_top.specs.declared.status.Status.{Status}
use Rattle.kit_top.specs.declared.status.Status.TheVariants.{Done, Usage, ReadFault, TooLong, BadFile, Unfinished, NoBuffer, SendsSpent, RoundsSpent, WriteFault, NoMemory, CutTooLong}
use Rattle.kit_io.specs.declared.source.Source.{Ghosts}
use Rattle.kit_rules.specs.Parts.{Parts}
use Rattle.kit_rules.specs.Text.{simulation_text}
use Rattle.kit_cut.specs.Cuts.{spender_by}
use Rattle.kit_oracle.specs.Ends.{IfSpentAt}
use Rattle.kit_oracle.specs.declared.end.OracleEnd.{OracleEnd}
use Rattle.kit_oracle.specs.declared.end.OracleEnd.TheVariants as oracle
use Rattle.kit_walk.specs.declared.fault.FileFault.{FileFault}
use Rattle.kit_walk.specs.declared.fault.FileFault.TheVariants as file
use Rattle.serde_json.specs.Data.{Data}
use Rattle.kit_walk.specs.Reading.{Answer}
use Rattle.kit_walk.specs.Answers.{IsNoJson, IsFaultAtPathOf}
use Rattle.kit_top.specs.Causes.{Told, AcceptedCauses, Causes, EndCauses, EndsWith, OracleEndCauses, FileCauses, FederationCauses, HasText, InputCausesBy, IsBadBy, IsBadFor, SavingCauses, SpendingCauses, IsCommand, IsEnded, IsFileRun, IsLeft, IsRun, IsWhole, IsWithin, IsTheFault, IsThis, IsAnswered, IsAsked, Run, spender_of, text_of}

pub told_weaker : (A B : Status → List ℕ → Type 0) (old new : Option (List ℕ)) (s : Status) → ((s : Status) (text : List ℕ) → A s text → B s text) → Told A old new s → Told B old new s
told_weaker A B old new Done f h = (h.0, f Done h.0 h.1, h.2)
told_weaker A B old new Usage f h = (h.0, f Usage h.0 h.1, h.2)
told_weaker A B old new ReadFault f h = (h.0, f ReadFault h.0 h.1, h.2)
told_weaker A B old new TooLong f h = (h.0, f TooLong h.0 h.1, h.2)
told_weaker A B old new (BadFile x) f h = (h.0, f (BadFile x) h.0 h.1, h.2)
told_weaker A B old new (Unfinished i) f h = (h.0, f (Unfinished i) h.0 h.1, h.2)
told_weaker A B old new (NoBuffer i n) f h = (h.0, f (NoBuffer i n) h.0 h.1, h.2)
told_weaker A B old new (SendsSpent i) f h = (h.0, f (SendsSpent i) h.0 h.1, h.2)
told_weaker A B old new (RoundsSpent i) f h = (h.0, f (RoundsSpent i) h.0 h.1, h.2)
told_weaker A B old new CutTooLong f h = (h.0, f CutTooLong h.0 h.1, h.2)
told_weaker A B old new WriteFault f h = (h.0, h.1, f h.0 h.1 h.2, h.3, h.4, h.5)
told_weaker A B old new NoMemory f h = h

-- the statuses that a federation may cause
abbrev IsRunStatus : Status → Type 0
IsRunStatus Done = Unit {0}
IsRunStatus (Unfinished i) = Unit {0}
IsRunStatus (NoBuffer i n) = Unit {0}
IsRunStatus (SendsSpent i) = Unit {0}
IsRunStatus CutTooLong = Unit {0}
IsRunStatus _ = ⊥

spending_status : (p : Parts) (spends : Option ℕ) (words : List ℕ) (s : Status) (text : List ℕ) → SpendingCauses p spends words s text → IsRunStatus s
spending_status p spends words Done text h = tt
spending_status p spends words (SendsSpent i) text h = tt
spending_status p spends words Usage text h = absurd h
spending_status p spends words ReadFault text h = absurd h
spending_status p spends words TooLong text h = absurd h
spending_status p spends words (BadFile x) text h = absurd h
spending_status p spends words (Unfinished i) text h = absurd h
spending_status p spends words (NoBuffer i n) text h = absurd h
spending_status p spends words (RoundsSpent i) text h = absurd h
spending_status p spends words WriteFault text h = absurd h
spending_status p spends words NoMemory text h = absurd h
spending_status p spends words CutTooLong text h = absurd h

saving_status : (time : ℕ) (p : Parts) (s : Status) (text : List ℕ) → SavingCauses time p s text → IsRunStatus s
saving_status time p Done text h = tt
saving_status time p (SendsSpent i) text h = tt
saving_status time p CutTooLong text h = tt
saving_status time p Usage text h = absurd h
saving_status time p ReadFault text h = absurd h
saving_status time p TooLong text h = absurd h
saving_status time p (BadFile x) text h = absurd h
saving_status time p (Unfinished i) text h = absurd h
saving_status time p (NoBuffer i n) text h = absurd h
saving_status time p (RoundsSpent i) text h = absurd h
saving_status time p WriteFault text h = absurd h
saving_status time p NoMemory text h = absurd h

end_status : (p : Parts) (end : End) (s : Status) (text : List ℕ) → EndCauses p end s text → IsRunStatus s
end_status p ends.Done s text h = subst IsRunStatus (sym h.0) tt
end_status p (ends.Unfinished i) s text h = subst IsRunStatus (sym h.0) tt
end_status p (ends.NoBuffer i n) s text h = subst IsRunStatus (sym h.0) tt
end_status p (ends.SendsSpent i) s text h = subst IsRunStatus (sym h.0) tt
end_status p (ends.RoundsSpent i) s text h = absurd h
end_status p ends.NoMemory s text h = absurd h

federation_status : (command : FederationCommand) (p : Parts) (run : Option Run) (s : Status) (text : List ℕ) → FederationCauses command p run s text → IsRunStatus s
federation_status Oracle p run s text h = spending_status p (spender_of Oracle p) (text_of Oracle p) s text h
federation_status Check p run s text h = spending_status p (spender_of Check p) (text_of Check p) s text h
federation_status (Upto time) p run s text h = spending_status p (spender_of (Upto time) p) (text_of (Upto time) p) s text h
federation_status (Save time) p run s text h = saving_status time p s text h
federation_status (Replay schedule) p None s text h = absurd h
federation_status (Replay schedule) p (Some r) s text h = end_status p r.end s text h.1

-- what a file causes that is accepted
accepted_status : (command : Command) (bytes : List ℕ) (run : Option Run) (s : Status) (text : List ℕ) → AcceptedCauses command bytes run s text → IsRunStatus s
accepted_status (OnFederation command) bytes run s text h = federation_status command h.0 run s text h.2
accepted_status Regions bytes run s text h = subst IsRunStatus (sym h.2.0) tt
accepted_status Resume bytes run s text h = spending_status h.0.0 _ _ s text h.2

pub accepted_causes : (command : Command) (bytes : List ℕ) (run : Option Run) (s : Status) (text : List ℕ) → AcceptedCauses command bytes run s text → FileCauses command bytes run s text
accepted_causes command bytes run (BadFile x) text h = absurd (accepted_status command bytes run (BadFile x) text h)
accepted_causes command bytes run Done text h = h
accepted_causes command bytes run Usage text h = h
accepted_causes command bytes run ReadFault text h = h
accepted_causes command bytes run TooLong text h = h
accepted_causes command bytes run (Unfinished i) text h = h
accepted_causes command bytes run (NoBuffer i n) text h = h
accepted_causes command bytes run (SendsSpent i) text h = h
accepted_causes command bytes run (RoundsSpent i) text h = h
accepted_causes command bytes run WriteFault text h = h
accepted_causes command bytes run NoMemory text h = h
accepted_causes command bytes run CutTooLong text h = h

-- what a command makes of a file, its words and a source that was read whole cause
pub command_causes : {S : Type 0} (g : Ghosts S) (words : List (List ℕ)) (old new : S) (command : Command) (bytes : List ℕ) (run : Option Run) → IsCommand words command → IsWhole g old new bytes → (s : Status) (text : List ℕ)
    → FileCauses command bytes run s text → Causes g words old new run s text
command_causes g words old new command bytes run word whole Done text h = (command, word, bytes, whole, h)
command_causes g words old new command bytes run word whole Usage text h = absurd (accepted_status command bytes run Usage text h)
command_causes g words old new command bytes run word whole ReadFault text h = absurd (accepted_status command bytes run ReadFault text h)
command_causes g words old new command bytes run word whole TooLong text h = absurd (accepted_status command bytes run TooLong text h)
command_causes g words old new command bytes run word whole (BadFile x) text h = (command, word, bytes, whole, h)
command_causes g words old new command bytes run word whole (Unfinished i) text h = (command, word, bytes, whole, h)
command_causes g words old new command bytes run word whole (NoBuffer i n) text h = (command, word, bytes, whole, h)
command_causes g words old new command bytes run word whole (SendsSpent i) text h = (command, word, bytes, whole, h)
command_causes g words old new command bytes run word whole (RoundsSpent i) text h = (command, word, bytes, whole, h)
command_causes g words old new command bytes run word whole WriteFault text h = (command, word, bytes, whole, h)
command_causes g words old new command bytes run word whole NoMemory text h = (command, word, bytes, whole, h)
command_causes g words old new command bytes run word whole CutTooLong text h = (command, word, bytes, whole, h)

-- what a reader of files says of a fault
bad_file : {X : Type 0} (walk : Data → Answer X) (bytes : List ℕ) (f : FileFault) → IsFaultAtPathOf walk bytes f → (f ≡ file.NotJson → IsNoJson bytes) → f ≢ file.NoMemory → IsBadBy walk bytes f
bad_file walk bytes file.NotJson at not_json other = not_json refl
bad_file walk bytes (file.Missing path) at not_json other = at
bad_file walk bytes (file.WrongKind path) at not_json other = at
bad_file walk bytes (file.OutOfRange path) at not_json other = at
bad_file walk bytes (file.UnknownName path) at not_json other = at
bad_file walk bytes (file.Repeated path) at not_json other = at
bad_file walk bytes (file.SendTooSoon path) at not_json other = at
bad_file walk bytes (file.NotRegulating path) at not_json other = at
bad_file walk bytes file.NoMemory at not_json other = absurd (other refl)

-- that fault, with its line, is caused by an input with these bytes
pub bad_file_causes : {S X : Type 0} (g : Ghosts S) (walk : Data → Answer X) (old new : S) (bytes : List ℕ) (f : FileFault) → IsWhole g old new bytes → IsFaultAtPathOf walk bytes f → (f ≡ file.NotJson → IsNoJson bytes)
    → (s : Status) (text : List ℕ) → IsTheFault f s text → InputCausesBy g (IsBadBy walk) old new s text
bad_file_causes g walk old new bytes f whole at not_json s text h =
    let P : Status → Type 0 = λ s. InputCausesBy g (IsBadBy walk) old new s text in
    subst P (sym h.1.0) (bytes, whole, bad_file walk bytes f at not_json h.0, h.1.1)

-- what an input causes that is no file for a command, the words of the command cause
pub input_causes : {S : Type 0} (g : Ghosts S) (words : List (List ℕ)) (old new : S) (command : Command) (run : Option Run) → IsCommand words command
    → (s : Status) (text : List ℕ) → InputCausesBy g (IsBadFor command) old new s text → Causes g words old new run s text
input_causes g words old new command run word ReadFault text h = (command, word, h.0, h.1, h.2)
input_causes g words old new command run word TooLong text h = (command, word, h.0, h.1)
input_causes g words old new command run word (BadFile x) text h = (command, word, h.0, h.1, (h.2, h.3))
input_causes g words old new command run word Done text h = absurd h
input_causes g words old new command run word Usage text h = absurd h
input_causes g words old new command run word (Unfinished i) text h = absurd h
input_causes g words old new command run word (NoBuffer i n) text h = absurd h
input_causes g words old new command run word (SendsSpent i) text h = absurd h
input_causes g words old new command run word (RoundsSpent i) text h = absurd h
input_causes g words old new command run word WriteFault text h = absurd h
input_causes g words old new command run word NoMemory text h = absurd h
input_causes g words old new command run word CutTooLong text h = absurd h

-- that the input was not read whole is caused whatever it is to be
pub read_causes : {S : Type 0} (g : Ghosts S) (bad : List ℕ → FileFault → Type 0) (old new : S) (s : Status) (text : List ℕ) → InputCausesBy g (λ bytes fault. ⊥) old new s text → InputCausesBy g bad old new s text
read_causes g bad old new ReadFault text h = h
read_causes g bad old new TooLong text h = h
read_causes g bad old new (BadFile x) text h = absurd h.2
read_causes g bad old new Done text h = absurd h
read_causes g bad old new Usage text h = absurd h
read_causes g bad old new (Unfinished i) text h = absurd h
read_causes g bad old new (NoBuffer i n) text h = absurd h
read_causes g bad old new (SendsSpent i) text h = absurd h
read_causes g bad old new (RoundsSpent i) text h = absurd h
read_causes g bad old new WriteFault text h = absurd h
read_causes g bad old new NoMemory text h = absurd h
read_causes g bad old new CutTooLong text h = absurd h

-- a status with its text that is told is that status, told
pub told_as : (status : Status) (words : List ℕ) (old new : Option (List ℕ)) → HasText status → Appends old new words → Told (IsThis status words) old new status
told_as Done words old new has h = (words, (refl, refl), h)
told_as Usage words old new has h = (words, (refl, refl), h)
told_as ReadFault words old new has h = (words, (refl, refl), h)
told_as TooLong words old new has h = (words, (refl, refl), h)
told_as (BadFile x) words old new has h = (words, (refl, refl), h)
told_as (Unfinished i) words old new has h = (words, (refl, refl), h)
told_as (NoBuffer i n) words old new has h = (words, (refl, refl), h)
told_as (SendsSpent i) words old new has h = (words, (refl, refl), h)
told_as (RoundsSpent i) words old new has h = (words, (refl, refl), h)
told_as WriteFault words old new has h = absurd has
told_as NoMemory words old new has h = absurd has
told_as CutTooLong words old new has h = (words, (refl, refl), h)

-- what was told of a status and a text was told of what causes them
pub told_by : (A : Status → List ℕ → Type 0) (status : Status) (words : List ℕ) (old new : Option (List ℕ)) (s : Status) → A status words → Told (IsThis status words) old new s → Told A old new s
told_by A status words old new s cause h = told_weaker (IsThis status words) A old new s by_this h
  where
    by_this : (s : Status) (text : List ℕ) → IsThis status words s text → A s text
    by_this s text is =
        let P : Status → Type 0 = λ s. A s words in
        let Q : List ℕ → Type 0 = λ text. A s text in
        subst Q (sym is.1) (subst P (sym is.0) cause)

-- Done has the text that the command asks for
end_done : (p : Parts) (end : End) (text : List ℕ) → EndCauses p end Done text → text ≡ simulation_text p
end_done p ends.Done text h = h.1
end_done p (ends.Unfinished i) text h = let e : Done ≡ Unfinished i = h.0 in absurd (cc)
end_done p (ends.NoBuffer i n) text h = let e : Done ≡ NoBuffer i n = h.0 in absurd (cc)
end_done p (ends.SendsSpent i) text h = let e : Done ≡ SendsSpent i = h.0 in absurd (cc)
end_done p (ends.RoundsSpent i) text h = absurd h
end_done p ends.NoMemory text h = absurd h

federation_done : (command : FederationCommand) (p : Parts) (run : Option Run) (text : List ℕ) → FederationCauses command p run Done text → IsWithin command p × (text ≡ text_of command p)
federation_done Oracle p run text h = (h.0, h.1)
federation_done Check p run text h = (h.0, h.1)
federation_done (Upto time) p run text h = (h.0, h.1)
federation_done (Save time) p run text h = (h.0, h.1)
federation_done (Replay schedule) p None text h = absurd h
federation_done (Replay schedule) p (Some r) text h = (tt, end_done p r.end text h.1)

accepted_done : (command : Command) (bytes : List ℕ) (run : Option Run) (text : List ℕ) → AcceptedCauses command bytes run Done text → IsAsked command bytes text
accepted_done (OnFederation command) bytes run text h = let done = federation_done command h.0 run text h.2 in (h.0, h.1, done.0, done.1)
accepted_done Regions bytes run text h = (h.0, h.1, h.2.1)
accepted_done Resume bytes run text h = (h.0, h.1, h.2.0, h.2.1)

-- what was told as Done is what the command asks
pub answered_told : {S : Type 0} (g : Ghosts S) (words : List (List ℕ)) (from to : S) (old new : Option (List ℕ)) (ended : Ended) → ended.status ≡ Done → IsEnded g words from to old new ended → IsAnswered g words from to old new
answered_told g words from to old new ended e h =
    let T : Status → Type 0 = λ s. Told (Causes g words from to h.run) old new s in
    done h.run (subst T e h.told)
  where
    done : (run : Option Run) → Told (Causes g words from to run) old new Done → IsAnswered g words from to old new
    done run told =
        let cause = told.1 in
        record {
          command = cause.0;
          word = cause.1;
          input = cause.2;
          whole = cause.3;
          text = told.0;
          asked = accepted_done cause.0 cause.2 run told.0 cause.4;
          written = told.2;
        }

-- an end that left nothing
pub ends_empty : (A : Option Run → Status → List ℕ → Type 0) (R : Run → Type 0) (old new : Option (List ℕ)) (ended : Ended) (status : Status) → ended.status ≡ status → ended.nodes.items ≡ [] → ended.floor ≡ None → ended.account ≡ None
    → Told (A None) old new status → EndsWith A R old new ended
ends_empty A R old new ended status e none floor account h =
    let T : Status → Type 0 = λ s. Told (A None) old new s in
    record { run = None; replayed = tt; left = (none, floor, account); told = subst T (sym e) h }

if_some_weaker : (run : Option Run) (R Q : Run → Type 0) → ((r : Run) → R r → Q r) → IfSome run R → IfSome run Q
if_some_weaker None R Q f h = tt
if_some_weaker (Some r) R Q f h = f r h

-- what ends by some causes ends by those that follow from them
pub ends_weaker : (A B : Option Run → Status → List ℕ → Type 0) (R Q : Run → Type 0) (old new : Option (List ℕ)) (ended : Ended) → ((run : Option Run) (s : Status) (text : List ℕ) → A run s text → B run s text) → ((r : Run) → R r → Q r)
    → EndsWith A R old new ended → EndsWith B Q old new ended
ends_weaker A B R Q old new ended causes runs h = record {
  run = h.run;
  replayed = if_some_weaker h.run R Q runs h.replayed;
  left = h.left;
  told = told_weaker (A h.run) (B h.run) old new ended.status (causes h.run) h.told;
}

-- a simulation that ended without a text is one in which a federate takes number 16,385
pub oracle_causes : (p : Parts) (spends : Option ℕ) (words : List ℕ) (end : OracleEnd) → IfSpentAt end (λ i. spends ≡ Some i) → (s : Status) (text : List ℕ) → OracleEndCauses p end s text → SpendingCauses p spends words s text
oracle_causes p spends words (oracle.SendsSpent i) spent s text h =
    let P : Status → Type 0 = λ s. SpendingCauses p spends words s text in
    subst P (sym h.0) (spent, h.1)
oracle_causes p spends words oracle.NoMemory spent s text h = absurd h

-- so is one that was to be saved
pub saving_ends : (time : ℕ) (p : Parts) (end : OracleEnd) → IfSpentAt end (λ i. spender_by p time ≡ Some i) → (s : Status) (text : List ℕ) → OracleEndCauses p end s text → SavingCauses time p s text
saving_ends time p (oracle.SendsSpent i) spent s text h =
    let P : Status → Type 0 = λ s. SavingCauses time p s text in
    subst P (sym h.0) (spent, h.1)
saving_ends time p oracle.NoMemory spent s text h = absurd h

-- what was replayed left no account of shared words
run_left_none : {S : Type 0} (g : Ghosts S) (words : List (List ℕ)) (old new : S) (r : Run) → IsRun g words old new r → r.account ≡ None
run_left_none g words old new r h = by h.0 h.4
  where
    by : (command : Command) → IsFileRun command h.2 r → r.account ≡ None
    by (OnFederation Oracle) x = absurd x.2
    by (OnFederation Check) x = absurd x.2
    by (OnFederation (Upto time)) x = absurd x.2
    by (OnFederation (Save time)) x = absurd x.2
    by (OnFederation (Replay schedule)) x = x.2.1
    by Regions x = absurd x
    by Resume x = absurd x

pub no_account : {S : Type 0} (g : Ghosts S) (words : List (List ℕ)) (from to : S) (old new : Option (List ℕ)) (ended : Ended) → IsEnded g words from to old new ended → ended.account ≡ None
no_account g words from to old new ended h = by h.run h.replayed h.left
  where
    by : (run : Option Run) → IfSome run (IsRun g words from to) → IsLeft run ended.nodes.items ended.floor ended.account → ended.account ≡ None
    by None is left = left.2
    by (Some r) is left = left.2 ∙ run_left_none g words from to r is
