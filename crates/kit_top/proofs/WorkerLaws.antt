-- A command with workers, the input and how the run ended cause one status and one text.
use Rattle.std.proofs.Common.{◌≡◌, ◌≢◌, ◌⊎◌, inl, inr, ◌<◌, ◌+◌, ℕ, List, length, Option, Some, None, codes, refl, sym, subst, ap, ◌∙◌, arith}
use Rattle.kit_io.specs.declared.source.Source.{Ghosts}
use Rattle.kit_io.specs.Causes.{Took}
use Rattle.kit_rules.specs.Parts.{Parts}
use Rattle.kit_rules.specs.Simulation.{spender}
use Rattle.kit_walk.specs.declared.fault.FileFault.{FileFault}
use Rattle.kit_file.specs.Answers.{IsAccepted}
use Rattle.kit_node.specs.declared.ends.End.{End}
use Rattle.kit_node.specs.declared.ends.End.TheVariants as ends
use Rattle.kit_node.specs.declared.node.NodeReport.{NodeReport}
use Rattle.kit_replay.specs.Replays.{LbtsFloor}
use Rattle.kit_runner.specs.Locks.{IsLocked}
use Rattle.kit_runner.specs.Runs.{IsRan, IsRun, LbtsAccount}
use Rattle.kit_top.specs.declared.status.Status.{Status}
use Rattle.kit_top.specs.declared.status.Status.TheVariants.{Done, Usage, ReadFault, TooLong, BadFile, Unfinished, NoBuffer, SendsSpent, RoundsSpent, WriteFault, NoMemory, CutTooLong}
use Rattle.kit_top.specs.declared.worker_command.WorkerCommand.{WorkerCommand}
use Rattle.kit_top.specs.declared.worker_command.WorkerCommand.TheVariants as by
use Rattle.kit_top.specs.Causes.{IsBadFile, IsInput, IsWhole, Run, bad_file_text, end_of, most_bytes}
use Rattle.kit_top.specs.WorkerCommands.{ReadsInput}
use Rattle.kit_top.specs.WorkerLaws.{AnswersByWorkers, CompletesByWorkers, HasEnoughBuffers, IsToRun, OneCauseByWorkers}
use Rattle.kit_top.specs.WorkerRuns.{IsFederationFor, IsRunBy, WorkerCauses, WorkerEndCauses, WorkerRunCauses}
use Rattle.kit_top.proofs.Ends.{spends_not}
use Rattle.kit_top.proofs.OneCause.{accepted_not_bad, accepted_same, all_left, bad_same, not_long, read_fault_cases, some_same, this_same}
use Rattle.kit_top.proofs.WorkerTelling.{named}

-- runs of one federation that end alike cause one status and one text
end_same : (command : WorkerCommand) (p : Parts) (end : End) (s t : Status) (a b : List ℕ) → WorkerEndCauses command p end s a → WorkerEndCauses command p end t b → (s ≡ t) × (a ≡ b)
end_same command p ends.Done s t a b h k = this_same _ _ s t a b h k
end_same command p (ends.Unfinished i) s t a b h k = absurd h
end_same command p (ends.NoBuffer i n) s t a b h k = this_same _ _ s t a b h k
end_same command p (ends.SendsSpent i) s t a b h k = this_same _ _ s t a b h k
end_same command p (ends.RoundsSpent i) s t a b h k = this_same _ _ s t a b h k
end_same command p ends.NoMemory s t a b h k = absurd h

run_same : (command : WorkerCommand) (p : Parts) (q r : Option Run) (s t : Status) (a b : List ℕ) → end_of q ≡ end_of r → WorkerRunCauses command p q s a → WorkerRunCauses command p r t b → (s ≡ t) × (a ≡ b)
run_same command p None r s t a b alike h k = absurd h
run_same command p (Some x) None s t a b alike h k = absurd k
run_same command p (Some x) (Some y) s t a b alike h k =
    let P : End → Type 0 = λ end. WorkerEndCauses command p end s a in
    end_same command p y.end s t a b (subst P (some_same x.end y.end alike) h.1) k.1

-- WHAT IS CAUSED, but for a read that failed
module _ {S : Type 0} (g : Ghosts S) where
  record Long (command : WorkerCommand) (old new : S) (s : Status) (a : List ℕ) : Type 0 where
    status : s ≡ TooLong
    reads : ReadsInput command
    took : Took (g.left old) (g.left new) (most_bytes + 1)
    text : a ≡ codes "fault TooLong\n"

  record Bad (command : WorkerCommand) (old new : S) (s : Status) (a : List ℕ) : Type 0 where
    fault : FileFault
    status : s ≡ BadFile fault
    reads : ReadsInput command
    bytes : List ℕ
    whole : IsWhole g old new bytes
    bad : IsBadFile bytes fault
    text : a ≡ bad_file_text fault

  record Went (command : WorkerCommand) (old new : S) (run : Option Run) (s : Status) (a : List ℕ) : Type 0 where
    federation : Parts
    its : IsFederationFor g command old new federation
    cause : WorkerRunCauses command federation run s a

  cases : (command : WorkerCommand) (old new : S) (run : Option Run) (s : Status) (a : List ℕ) → s ≢ ReadFault → WorkerCauses g command old new run s a → Went command old new run s a ⊎ (Bad command old new s a ⊎ Long command old new s a)
  cases command old new run ReadFault a other h = absurd (other refl)
  cases command old new run TooLong a other h = inr (inr (record { status = refl; reads = h.0; took = h.1.0; text = h.1.1 }))
  cases command old new run (BadFile f) a other h = inr (inl (record { fault = f; status = refl; reads = h.0; bytes = h.1.0; whole = h.1.1; bad = h.1.2; text = h.1.3 }))
  cases command old new run Done a other h = inl (record { federation = h.0; its = h.1; cause = h.2 })
  cases command old new run Usage a other h = inl (record { federation = h.0; its = h.1; cause = h.2 })
  cases command old new run (Unfinished i) a other h = inl (record { federation = h.0; its = h.1; cause = h.2 })
  cases command old new run (NoBuffer i n) a other h = inl (record { federation = h.0; its = h.1; cause = h.2 })
  cases command old new run (SendsSpent i) a other h = inl (record { federation = h.0; its = h.1; cause = h.2 })
  cases command old new run (RoundsSpent i) a other h = inl (record { federation = h.0; its = h.1; cause = h.2 })
  cases command old new run WriteFault a other h = inl (record { federation = h.0; its = h.1; cause = h.2 })
  cases command old new run NoMemory a other h = inl (record { federation = h.0; its = h.1; cause = h.2 })
  cases command old new run CutTooLong a other h = inl (record { federation = h.0; its = h.1; cause = h.2 })

  -- a command that reads its input runs the federation of that
  reads_input : (command : WorkerCommand) (old new : S) (p : Parts) → ReadsInput command → IsFederationFor g command old new p → IsInput g old new p
  reads_input (by.Lock w) old new p reads its = its
  reads_input (by.Run w) old new p reads its = its
  reads_input (by.Trial n w) old new p reads its = absurd reads

  left_is : (old new : S) (xs bytes : List ℕ) → g.left old ≡ Some xs → IsWhole g old new bytes → bytes ≡ xs
  left_is old new xs bytes e whole = all_left (g.left old) xs bytes e whole.all

  -- bytes that were left are a file of one federation
  input_same : (old new : S) (xs : List ℕ) (p q : Parts) → g.left old ≡ Some xs → IsInput g old new p → IsInput g old new q → p ≡ q
  input_same old new xs p q e x y =
      let P : List ℕ → Type 0 = λ bytes. IsAccepted bytes p in
      let Q : List ℕ → Type 0 = λ bytes. IsAccepted bytes q in
      accepted_same xs p q (subst P (left_is old new xs x.0 e x.1) x.2) (subst Q (left_is old new xs y.0 e y.1) y.2)

  federation_same : (command : WorkerCommand) (old new : S) (xs : List ℕ) (p q : Parts) → g.left old ≡ Some xs → IsFederationFor g command old new p → IsFederationFor g command old new q → p ≡ q
  federation_same (by.Lock w) old new xs p q e x y = input_same old new xs p q e x y
  federation_same (by.Run w) old new xs p q e x y = input_same old new xs p q e x y
  federation_same (by.Trial n w) old new xs p q e x y = x.1 ∙ sym y.1

  whole_not_long : (old new : S) (xs bytes : List ℕ) → g.left old ≡ Some xs → IsWhole g old new bytes → Took (g.left old) (g.left new) (most_bytes + 1) → ⊥
  whole_not_long old new xs bytes e whole took = not_long (g.left old) (g.left new) xs bytes e (left_is old new xs bytes e whole) whole.short took

  went_not_long : (command : WorkerCommand) (old new : S) (xs : List ℕ) (run : Option Run) (s t : Status) (a b : List ℕ) → g.left old ≡ Some xs → Went command old new run s a → Long command old new t b → ⊥
  went_not_long command old new xs run s t a b e x y = let input = reads_input command old new x.federation y.reads x.its in whole_not_long old new xs input.0 e input.1 y.took

  went_not_bad : (command : WorkerCommand) (old new : S) (xs : List ℕ) (run : Option Run) (s t : Status) (a b : List ℕ) → g.left old ≡ Some xs → Went command old new run s a → Bad command old new t b → ⊥
  went_not_bad command old new xs run s t a b e x y =
      let input = reads_input command old new x.federation y.reads x.its in
      let P : List ℕ → Type 0 = λ bytes. IsAccepted bytes x.federation in
      let Q : List ℕ → Type 0 = λ bytes. IsBadFile bytes y.fault in
      accepted_not_bad xs x.federation y.fault (subst P (left_is old new xs input.0 e input.1) input.2) (subst Q (left_is old new xs y.bytes e y.whole) y.bad)

  bads_same : (command : WorkerCommand) (old new : S) (xs : List ℕ) (s t : Status) (a b : List ℕ) → g.left old ≡ Some xs → Bad command old new s a → Bad command old new t b → (s ≡ t) × (a ≡ b)
  bads_same command old new xs s t a b e x y =
      let P : List ℕ → Type 0 = λ bytes. IsBadFile bytes x.fault in
      let Q : List ℕ → Type 0 = λ bytes. IsBadFile bytes y.fault in
      let same : x.fault ≡ y.fault = bad_same xs x.fault y.fault (subst P (left_is old new xs x.bytes e x.whole) x.bad) (subst Q (left_is old new xs y.bytes e y.whole) y.bad) in
      (x.status ∙ ap BadFile same ∙ sym y.status, x.text ∙ ap bad_file_text same ∙ sym y.text)

  went_same : (command : WorkerCommand) (old new : S) (xs : List ℕ) (q r : Option Run) (s t : Status) (a b : List ℕ) → g.left old ≡ Some xs → end_of q ≡ end_of r → Went command old new q s a → Went command old new r t b → (s ≡ t) × (a ≡ b)
  went_same command old new xs q r s t a b e alike x y =
      let same : y.federation ≡ x.federation = federation_same command old new xs y.federation x.federation e y.its x.its in
      let P : Parts → Type 0 = λ p. WorkerRunCauses command p r t b in
      run_same command x.federation q r s t a b alike x.cause (subst P same y.cause)

  pub one_cause_law : OneCauseByWorkers g
  one_cause_law command old new xs q r s t a b e not_s not_t alike h k =
      elim (cases command old new q s a not_s h) [
        | inl x ↦ elim (cases command old new r t b not_t k) [
          | inl y ↦ went_same command old new xs q r s t a b e alike x y
          | inr yy ↦ elim yy [ inl y ↦ absurd (went_not_bad command old new xs q s t a b e x y) | inr y ↦ absurd (went_not_long command old new xs q s t a b e x y) ]
        ]
        | inr xx ↦ elim xx [
          | inl x ↦ elim (cases command old new r t b not_t k) [
            | inl y ↦ absurd (went_not_bad command old new xs r t s b a e y x)
            | inr yy ↦ elim yy [ inl y ↦ bads_same command old new xs s t a b e x y | inr y ↦ absurd (whole_not_long old new xs x.bytes e x.whole y.took) ]
          ]
          | inr x ↦ elim (cases command old new r t b not_t k) [
            | inl y ↦ absurd (went_not_long command old new xs r t s b a e y x)
            | inr yy ↦ elim yy [ inl y ↦ absurd (whole_not_long old new xs y.bytes e y.whole x.took) | inr y ↦ (x.status ∙ sym y.status, x.text ∙ sym y.text) ]
          ]
        ]
      ]

-- COMPLETENESS: with enough buffers and numbers a run ends Done, or a federate took all rounds
run_answers : (command : WorkerCommand) (p : Parts) (end : End) (reports : List NodeReport) (account : LbtsAccount) (s : Status) (a : List ℕ) → spender p ≡ None → HasEnoughBuffers p → IsRun p end reports account → WorkerEndCauses command p end s a → AnswersByWorkers command p s a
run_answers command p ends.Done reports account s a none buffers is h = inl h
run_answers command p (ends.Unfinished i) reports account s a none buffers is h = absurd h
run_answers command p (ends.NoBuffer i n) reports account s a none buffers is h =
    let here : i < length p.federates = named p (ends.NoBuffer i n) reports account _ i is is.cause.0 in
    absurd (omega (arith, buffers i here, is.cause.1.needs))
run_answers command p (ends.SendsSpent i) reports account s a none buffers is h = absurd (spends_not p i none is.cause.1)
run_answers command p (ends.RoundsSpent i) reports account s a none buffers is h = inr (i, h)
run_answers command p ends.NoMemory reports account s a none buffers is h = absurd h

none_answers : (command : WorkerCommand) (p : Parts) (end : End) (s : Status) (a : List ℕ) → end ≡ ends.NoMemory → WorkerEndCauses command p end s a → AnswersByWorkers command p s a
none_answers command p end s a e h = let P : End → Type 0 = λ end. WorkerEndCauses command p end s a in absurd (subst P e h)

ran_answers : (command : WorkerCommand) (p : Parts) (end : End) (reports : List NodeReport) (account : Option LbtsAccount) (s : Status) (a : List ℕ) → spender p ≡ None → HasEnoughBuffers p → IsRan p end reports account → WorkerEndCauses command p end s a → AnswersByWorkers command p s a
ran_answers command p end reports None s a none buffers is h = none_answers command p end s a is.end_is h
ran_answers command p end reports (Some account) s a none buffers is h = run_answers command p end reports account s a none buffers is h

locked_answers : (command : WorkerCommand) (p : Parts) (end : End) (reports : List NodeReport) (floor : Option LbtsFloor) (s : Status) (a : List ℕ) → spender p ≡ None → HasEnoughBuffers p → IsLocked p end reports floor → WorkerEndCauses command p end s a → AnswersByWorkers command p s a
locked_answers command p end reports None s a none buffers is h = none_answers command p end s a is.end_is h
locked_answers command p end reports (Some f) s a none buffers is h = run_answers command p end reports _ s a none buffers is.run h

by_answers : (command : WorkerCommand) (p : Parts) (r : Run) (s : Status) (a : List ℕ) → spender p ≡ None → HasEnoughBuffers p → IsRunBy command p r → WorkerEndCauses command p r.end s a → AnswersByWorkers command p s a
by_answers (by.Lock w) p r s a none buffers is h = locked_answers (by.Lock w) p r.end r.reports r.floor s a none buffers is.0 h
by_answers (by.Run w) p r s a none buffers is h = ran_answers (by.Run w) p r.end r.reports r.account s a none buffers is.0 h
by_answers (by.Trial n w) p r s a none buffers is h = ran_answers (by.Trial n w) p r.end r.reports r.account s a none buffers is.0 h

federation_answers : (command : WorkerCommand) (p : Parts) (run : Option Run) (s : Status) (a : List ℕ) → spender p ≡ None → HasEnoughBuffers p → WorkerRunCauses command p run s a → AnswersByWorkers command p s a
federation_answers command p None s a none buffers h = absurd h
federation_answers command p (Some r) s a none buffers h = by_answers command p r s a none buffers h.0 h.1

module _ {S : Type 0} (g : Ghosts S) where
  -- the federation that a command is to run is the one that it runs
  to_run_same : (command : WorkerCommand) (old new : S) (p q : Parts) → IsToRun g command old p → IsFederationFor g command old new q → q ≡ p
  to_run_same (by.Lock w) old new p q x y = let Q : List ℕ → Type 0 = λ bytes. IsAccepted bytes q in accepted_same x.0 q p (subst Q (left_is g old new x.0 y.0 x.1 y.1) y.2) x.3
  to_run_same (by.Run w) old new p q x y = let Q : List ℕ → Type 0 = λ bytes. IsAccepted bytes q in accepted_same x.0 q p (subst Q (left_is g old new x.0 y.0 x.1 y.1) y.2) x.3
  to_run_same (by.Trial n w) old new p q x y = y.1 ∙ sym x

  -- and nothing is wrong with its input
  to_run_not_long : (command : WorkerCommand) (old new : S) (p : Parts) (s : Status) (a : List ℕ) → IsToRun g command old p → Long g command old new s a → ⊥
  to_run_not_long (by.Lock w) old new p s a x y = not_long (g.left old) (g.left new) x.0 x.0 x.1 refl x.2 y.took
  to_run_not_long (by.Run w) old new p s a x y = not_long (g.left old) (g.left new) x.0 x.0 x.1 refl x.2 y.took
  to_run_not_long (by.Trial n w) old new p s a x y = absurd y.reads

  to_run_not_bad : (command : WorkerCommand) (old new : S) (p : Parts) (s : Status) (a : List ℕ) → IsToRun g command old p → Bad g command old new s a → ⊥
  to_run_not_bad (by.Lock w) old new p s a x y = let Q : List ℕ → Type 0 = λ bytes. IsBadFile bytes y.fault in accepted_not_bad x.0 p y.fault x.3 (subst Q (left_is g old new x.0 y.bytes x.1 y.whole) y.bad)
  to_run_not_bad (by.Run w) old new p s a x y = let Q : List ℕ → Type 0 = λ bytes. IsBadFile bytes y.fault in accepted_not_bad x.0 p y.fault x.3 (subst Q (left_is g old new x.0 y.bytes x.1 y.whole) y.bad)
  to_run_not_bad (by.Trial n w) old new p s a x y = absurd y.reads

  pub completes_law : CompletesByWorkers g
  completes_law command old new p run s a can h =
      elim (read_fault_cases s) [
        | inl fault ↦ inr fault
        | inr other ↦ elim (cases g command old new run s a other h) [
          | inl x ↦ inl (let P : Parts → Type 0 = λ q. WorkerRunCauses command q run s a in federation_answers command p run s a can.within can.buffers (subst P (to_run_same command old new p x.federation can.its x.its) x.cause))
          | inr xx ↦ elim xx [ inl x ↦ absurd (to_run_not_bad command old new p s a can.its x) | inr x ↦ absurd (to_run_not_long command old new p s a can.its x) ]
        ]
      ]
