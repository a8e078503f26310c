-- The words of the commands that run nodes by workers.
use Rattle.std.specs.Prelude.{◌≡◌, ℕ, ◌^◌, ◌<◌, ◌≤◌, List, [], ◌∷◌, codes, decimal}
use Rattle.kit_top.specs.declared.worker_command.WorkerCommand.{WorkerCommand}
use Rattle.kit_top.specs.declared.worker_command.WorkerCommand.TheVariants.{Lock, Run, Trial}

-- there are 1 to 16 workers
pub record AreWorkers (workers : ℕ) : Type 0 where
  pub some : 1 ≤ workers
  pub few : workers ≤ 16

-- the words are those of a command: its word, for a trial the number of a federation, and the number of workers, both in decimal
-- digits without a leading 0
abbrev pub IsWorkerCommand : List (List ℕ) → WorkerCommand → Type 0
IsWorkerCommand words (Lock workers) = AreWorkers workers × (words ≡ codes "lock" ∷ decimal workers ∷ [])
IsWorkerCommand words (Run workers) = AreWorkers workers × (words ≡ codes "run" ∷ decimal workers ∷ [])
IsWorkerCommand words (Trial number workers) = AreWorkers workers × (number < 2 ^ 64) × (words ≡ codes "trial" ∷ decimal number ∷ decimal workers ∷ [])

-- the words are those of no such command
abbrev pub IsNoWorkerCommand : List (List ℕ) → Type 0
IsNoWorkerCommand words = (command : WorkerCommand) → IsWorkerCommand words command → ⊥

abbrev pub workers_of : WorkerCommand → ℕ
workers_of (Lock workers) = workers
workers_of (Run workers) = workers
workers_of (Trial number workers) = workers

-- whether a command reads the input: a trial does not
abbrev pub ReadsInput : WorkerCommand → Type 0
ReadsInput (Trial number workers) = ⊥
ReadsInput _ = Unit {0}

-- whether its nodes run on words that threads share: those of `lock` take turns on a plain floor
abbrev pub SharesWords : WorkerCommand → Type 0
SharesWords (Lock workers) = ⊥
SharesWords _ = Unit {0}
