-- Words are those of one command with workers.
use Rattle.std.proofs.Common.{◌≡◌, ◌≢◌, ℕ, ◌<◌, List, [], ◌∷◌, get_or, codes, decimal, refl, sym, ap, ◌∙◌, arith}
use Rattle.std.proofs.lemmas.Fmt.{decimal_injective}
use Rattle.kit_top.specs.declared.worker_command.WorkerCommand.{WorkerCommand}
use Rattle.kit_top.specs.declared.worker_command.WorkerCommand.TheVariants.{Lock, Run, Trial}
use Rattle.kit_top.specs.WorkerCommands.{AreWorkers, IsWorkerCommand}
use Rattle.kit_top.proofs.OneCause.{differ}

unequal : (m n a b : ℕ) → m ≡ a → n ≡ b → a < b → m ≢ n
unequal m n a b e f less same = absurd (omega arith)

greater : (m n a b : ℕ) → m ≡ a → n ≡ b → b < a → m ≢ n
greater m n a b e f less same = absurd (omega arith)

lock_or_run : (xs ys : List (List ℕ)) → codes "lock" ∷ xs ≡ codes "run" ∷ ys → ⊥
lock_or_run xs ys e = differ (codes "lock" ∷ xs) (codes "run" ∷ ys) 108 114 e refl refl (unequal 108 114 108 114 refl refl (omega arith))

lock_or_trial : (xs ys : List (List ℕ)) → codes "lock" ∷ xs ≡ codes "trial" ∷ ys → ⊥
lock_or_trial xs ys e = differ (codes "lock" ∷ xs) (codes "trial" ∷ ys) 108 116 e refl refl (unequal 108 116 108 116 refl refl (omega arith))

run_or_trial : (xs ys : List (List ℕ)) → codes "run" ∷ xs ≡ codes "trial" ∷ ys → ⊥
run_or_trial xs ys e = differ (codes "run" ∷ xs) (codes "trial" ∷ ys) 114 116 e refl refl (unequal 114 116 114 116 refl refl (omega arith))

same_workers : (v w : ℕ) → AreWorkers v → AreWorkers w → decimal v ≡ decimal w → v ≡ w
same_workers v w a b e = decimal_injective v w (omega (arith, a.few)) (omega (arith, b.few)) e

pub one_worker_command : (words : List (List ℕ)) (c d : WorkerCommand) → IsWorkerCommand words c → IsWorkerCommand words d → c ≡ d
one_worker_command words (Lock v) (Lock w) a b = ap Lock (same_workers v w a.0 b.0 (ap (λ (ws : List (List ℕ)). get_or ws 1 []) (sym a.1 ∙ b.1)))
one_worker_command words (Run v) (Run w) a b = ap Run (same_workers v w a.0 b.0 (ap (λ (ws : List (List ℕ)). get_or ws 1 []) (sym a.1 ∙ b.1)))
one_worker_command words (Trial m v) (Trial n w) a b =
    let e = sym a.2 ∙ b.2 in
    let number : m ≡ n = decimal_injective m n a.1 b.1 (ap (λ (ws : List (List ℕ)). get_or ws 1 []) e) in
    let workers : v ≡ w = same_workers v w a.0 b.0 (ap (λ (ws : List (List ℕ)). get_or ws 2 []) e) in
    ap (λ n. Trial n v) number ∙ ap (Trial n) workers
one_worker_command words (Lock v) (Run w) a b = absurd (lock_or_run _ _ (sym a.1 ∙ b.1))
one_worker_command words (Run v) (Lock w) a b = absurd (lock_or_run _ _ (sym b.1 ∙ a.1))
one_worker_command words (Lock v) (Trial n w) a b = absurd (lock_or_trial _ _ (sym a.1 ∙ b.2))
one_worker_command words (Trial n v) (Lock w) a b = absurd (lock_or_trial _ _ (sym b.1 ∙ a.2))
one_worker_command words (Run v) (Trial n w) a b = absurd (run_or_trial _ _ (sym a.1 ∙ b.2))
one_worker_command words (Trial n v) (Run w) a b = absurd (run_or_trial _ _ (sym b.1 ∙ a.2))
