-- Laws of what the commands with workers cause.
use Rattle.std.specs.Prelude.{◌≡◌, ◌≢◌, ℕ, ◌<◌, ◌≤◌, List, length, codes, ◌⊎◌, Option, Some, None}
use Rattle.kit_io.specs.declared.source.Source.{Ghosts}
use Rattle.kit_rules.specs.Need.{need_of}
use Rattle.kit_rules.specs.Parts.{Parts}
use Rattle.kit_rules.specs.Simulation.{spender}
use Rattle.kit_file.specs.Answers.{IsAccepted}
use Rattle.kit_gen.specs.Generator.{generated}
use Rattle.kit_top.specs.declared.status.Status.{Status}
use Rattle.kit_top.specs.declared.status.Status.TheVariants.{Done, ReadFault, RoundsSpent}
use Rattle.kit_top.specs.declared.worker_command.WorkerCommand.{WorkerCommand}
use Rattle.kit_top.specs.declared.worker_command.WorkerCommand.TheVariants as by
use Rattle.kit_top.specs.Causes.{IsThis, Run, end_of, federate_text, most_bytes}
use Rattle.kit_top.specs.WorkerRuns.{WorkerCauses, text_by}

-- there are as many buffers as each federate needs
abbrev pub HasEnoughBuffers : Parts → Type 0
HasEnoughBuffers p = (i : ℕ) → i < length p.federates → need_of p i ≤ p.buffers

-- a command can be answered whose federation is this: for one that reads its input, the source tells its bytes, they are not too
-- many, and they are the file of the federation
abbrev pub IsToRun : {S : Type 0} → Ghosts S → WorkerCommand → S → Parts → Type 0
IsToRun g (by.Trial number workers) old p = p ≡ generated number
IsToRun g _ old p = (input : List ℕ) × (g.left old ≡ Some input) × (length input ≤ most_bytes) × IsAccepted input p

-- and nobody takes number 16,385 in its simulation, and there are enough buffers
pub record CanRun {S : Type 0} (g : Ghosts S) (command : WorkerCommand) (old : S) (federation : Parts) : Type 0 where
  pub its : IsToRun g command old federation
  pub within : spender federation ≡ None
  pub buffers : HasEnoughBuffers federation

-- what such a command causes: Done with its text, or that a federate took all rounds that there may be
abbrev pub AnswersByWorkers : WorkerCommand → Parts → Status → List ℕ → Type 0
AnswersByWorkers command p s text = IsThis Done (text_by command p) s text ⊎ (i : ℕ) × IsThis (RoundsSpent i) (federate_text (codes "RoundsSpent") p i) s text

module _ {S : Type 0} (g : Ghosts S) where
  -- where the source tells its bytes, and no read failed, a command, the input and how the run ended cause one status and one text
  abbrev pub OneCauseByWorkers : Type 0
  OneCauseByWorkers = (command : WorkerCommand) (old new : S) (xs : List ℕ) (q r : Option Run) (s t : Status) (a b : List ℕ) → g.left old ≡ Some xs → s ≢ ReadFault → t ≢ ReadFault
      → end_of q ≡ end_of r → WorkerCauses g command old new q s a → WorkerCauses g command old new r t b → (s ≡ t) × (a ≡ b)

  -- where a command can be answered, no other status is caused, but that a read failed
  abbrev pub CompletesByWorkers : Type 0
  CompletesByWorkers = (command : WorkerCommand) (old new : S) (federation : Parts) (run : Option Run) (s : Status) (text : List ℕ)
      → CanRun g command old federation → WorkerCauses g command old new run s text → AnswersByWorkers command federation s text ⊎ (s ≡ ReadFault)
