-- What follows of a call with workers from how it ended.
use Rattle.std.proofs.Common.{◌≡◌, ◌⊎◌, inl, inr, ℕ, ◌<◌, List, length, Option, Some, None, IfSome, IsSome, refl, sym, subst, arith}
use Rattle.std.specs.Io.KnownBytes.{Appends}
use Rattle.kit_io.specs.declared.source.Source.{Ghosts}
use Rattle.kit_rules.specs.Parts.{Parts}
use Rattle.kit_model.specs.Journals.{IsLawful}
use Rattle.kit_node.specs.declared.ends.End.{End}
use Rattle.kit_node.specs.declared.ends.End.TheVariants as ends
use Rattle.kit_node.specs.declared.node.NodeReport.{NodeReport}
use Rattle.kit_replay.specs.Endings.{EndIs}
use Rattle.kit_replay.specs.Replays.{LbtsFloor}
use Rattle.kit_replay.specs.Reports.{AgreesWithPart}
use Rattle.kit_runner.specs.Locks.{IsLocked, account_in}
use Rattle.kit_runner.specs.Runs.{IsRan, IsRun, LbtsAccount, most_rounds}
use Rattle.kit_top.specs.declared.ended.Ended.{Ended}
use Rattle.kit_top.specs.declared.status.Status.{Status}
use Rattle.kit_top.specs.declared.status.Status.TheVariants.{Done, Usage, ReadFault, TooLong, BadFile, Unfinished, NoBuffer, SendsSpent, RoundsSpent, WriteFault, NoMemory, CutTooLong}
use Rattle.kit_top.specs.declared.worker_command.WorkerCommand.{WorkerCommand}
use Rattle.kit_top.specs.declared.worker_command.WorkerCommand.TheVariants as by
use Rattle.kit_top.specs.Causes.{IsLeft, Run, Told}
use Rattle.kit_top.specs.Headline.{AllAgreeSoFar, AllHaveFinished, AreComplete, FillsOnlyUnread, IsAccounted, IsAnsweredBy, IsBadInput, IsLeftByLock, IsOfRun, IsThere, NothingCameLate}
use Rattle.kit_top.specs.WorkerCommands.{IsWorkerCommand, SharesWords}
use Rattle.kit_top.specs.WorkerRuns.{EndsByWorkers, IsFederationFor, IsRunBy, IsWorkerRun, WorkerCauses, WorkerEndCauses, WorkerRunCauses, text_by}
use Rattle.kit_top.proofs.Ends.{at_below, some_at}
use Rattle.kit_top.proofs.Kept.{rules_keep_it_law}
use Rattle.kit_top.proofs.WorkerWords.{one_worker_command}

-- what holds for the command that the words were found to be holds for each that they are
pub for_each : (words : List (List ℕ)) (P : WorkerCommand → Type 0) (found : WorkerCommand) → IsWorkerCommand words found → P found → (command : WorkerCommand) → IsWorkerCommand words command → P command
for_each words P found is h command word = subst P (one_worker_command words found command is word) h

-- each journal of a run is lawful, and agrees with the simulation
agree_so_far : (p : Parts) (end : End) (reports : List NodeReport) (a : LbtsAccount) → IsRun p end reports a → AllAgreeSoFar p a.places
agree_so_far p end reports a h i q at =
    let below : i < length a.places = at_below a.places i q at in
    let places : length a.places ≡ length p.federates = h.account.many in
    let all : length h.nodes ≡ length p.federates = h.closed.all in
    let many : length reports ≡ length p.federates = h.closed.many in
    let e = some_at h.nodes i (omega arith) in
    let r = some_at reports i (omega arith) in
    let told = (h.closed.each i e.0 q r.0 e.1 at r.1).report in
    record { lawful = subst IsLawful told.journal told.lawful; agrees = subst (AgreesWithPart p i) told.journal told.agrees }

-- WHAT A RUN LEFT: what is so of each account of a run is so of the one that is left
ran_account : (A : LbtsAccount → Type 0) (p : Parts) (end : End) (reports : List NodeReport) (account : Option LbtsAccount) → ((a : LbtsAccount) → IsRun p end reports a → A a) → IsRan p end reports account → IfSome account A
ran_account A p end reports None f h = tt
ran_account A p end reports (Some a) f h = f a h

locked_floor : (A : LbtsFloor → Type 0) (p : Parts) (end : End) (reports : List NodeReport) (floor : Option LbtsFloor) → ((x : LbtsFloor) → IsLocked p end reports (Some x) → A x) → IsLocked p end reports floor → IfSome floor A
locked_floor A p end reports None f h = tt
locked_floor A p end reports (Some x) f h = f x h

pub none_left : {X : Type 0} (A : X → Type 0) (o : Option X) → o ≡ None → IfSome o A
none_left {X} A o e = let P : Option X → Type 0 = λ o. IfSome o A in subst P (sym e) tt

is_left : {X : Type 0} (A : X → Type 0) (o r : Option X) → o ≡ r → IfSome r A → IfSome o A
is_left {X} A o r e h = let P : Option X → Type 0 = λ o. IfSome o A in subst P (sym e) h

module _ {S : Type 0} (g : Ghosts S) (from to : S) where
  run_account : (command : WorkerCommand) (A : LbtsAccount → Type 0) (r : Run) → (SharesWords command → (p : Parts) → IsFederationFor g command from to p → (end : End) (a : LbtsAccount) → IsRun p end r.reports a → A a)
      → IsWorkerRun g command from to r → IfSome r.account A
  run_account (by.Lock w) A r f is = none_left A r.account is.2.1
  run_account (by.Run w) A r f is = ran_account A is.0 r.end r.reports r.account (λ a h. f tt is.0 is.1 r.end a h) is.2.0
  run_account (by.Trial n w) A r f is = ran_account A is.0 r.end r.reports r.account (λ a h. f tt is.0 is.1 r.end a h) is.2.0

  run_floor : (command : WorkerCommand) (r : Run) → IsWorkerRun g command from to r → IfSome r.floor (IsLeftByLock g command from to r.reports)
  run_floor (by.Lock w) r is =
      locked_floor (IsLeftByLock g (by.Lock w) from to r.reports) is.0 r.end r.reports r.floor
      (λ f h. record { federation = is.0; its = is.1; end = r.end; run = h; agree = agree_so_far is.0 r.end r.reports (account_in f) h.run }) is.2.0
  run_floor (by.Run w) r is = none_left (IsLeftByLock g (by.Run w) from to r.reports) r.floor is.2.1
  run_floor (by.Trial n w) r is = none_left (IsLeftByLock g (by.Trial n w) from to r.reports) r.floor is.2.1

  module _ (command : WorkerCommand) (old new : Option (List ℕ)) (ended : Ended) where
    pub if_account : (A : LbtsAccount → Type 0) → (SharesWords command → (p : Parts) → IsFederationFor g command from to p → (end : End) (a : LbtsAccount) → IsRun p end ended.nodes.items a → A a)
        → EndsByWorkers g command from to old new ended → IfSome ended.account A
    if_account A f h = of h.run h.replayed h.left
      where
        of : (run : Option Run) → IfSome run (IsWorkerRun g command from to) → IsLeft run ended.nodes.items ended.floor ended.account → IfSome ended.account A
        of None is left = none_left A ended.account left.2
        of (Some r) is left =
            is_left A ended.account r.account left.2
            (run_account command A r (λ shares p its end a h. f shares p its end a (let P : List NodeReport → Type 0 = λ reports. IsRun p end reports a in subst P (sym left.0) h)) is)

    pub left_floor : EndsByWorkers g command from to old new ended → IfSome ended.floor (IsLeftByLock g command from to ended.nodes.items)
    left_floor h = of h.run h.replayed h.left
      where
        of : (run : Option Run) → IfSome run (IsWorkerRun g command from to) → IsLeft run ended.nodes.items ended.floor ended.account → IfSome ended.floor (IsLeftByLock g command from to ended.nodes.items)
        of None is left = none_left (IsLeftByLock g command from to ended.nodes.items) ended.floor left.1
        of (Some r) is left =
            let P : List NodeReport → Type 0 = λ reports. IfSome r.floor (IsLeftByLock g command from to reports) in
            is_left (IsLeftByLock g command from to ended.nodes.items) ended.floor r.floor left.1 (subst P (sym left.0) (run_floor command r is))

    pub on_time : EndsByWorkers g command from to old new ended → IfSome ended.account (λ a. NothingCameLate a.places)
    on_time = if_account (λ a. NothingCameLate a.places) (λ shares p its end a h. (rules_keep_it_law a h.account.rules).on_time)

    pub unread : EndsByWorkers g command from to old new ended → IfSome ended.account FillsOnlyUnread
    unread = if_account FillsOnlyUnread (λ shares p its end a h. (rules_keep_it_law a h.account.rules).unread)

    pub accounted : (words : List (List ℕ)) → IsWorkerCommand words command → EndsByWorkers g command from to old new ended → IfSome ended.account (IsAccounted g words from to ended.nodes.items)
    accounted words word =
        if_account (IsAccounted g words from to ended.nodes.items)
        (λ shares p its end a h. record { command = command; word = word; shares = shares; federation = p; its = its; end = end; run = h; agree = agree_so_far p end ended.nodes.items a h })

-- DONE has the text that the command asks for, and comes of an end that is Done
end_done : (command : WorkerCommand) (p : Parts) (end : End) (text : List ℕ) → WorkerEndCauses command p end Done text → (text ≡ text_by command p) × (end ≡ ends.Done)
end_done command p ends.Done text h = (h.1, refl)
end_done command p (ends.Unfinished i) text h = absurd h
end_done command p (ends.NoBuffer i n) text h = let e : Done ≡ NoBuffer i n = h.0 in absurd (cc)
end_done command p (ends.SendsSpent i) text h = let e : Done ≡ SendsSpent i = h.0 in absurd (cc)
end_done command p (ends.RoundsSpent i) text h = let e : Done ≡ RoundsSpent i = h.0 in absurd (cc)
end_done command p ends.NoMemory text h = absurd h

run_done : (command : WorkerCommand) (p : Parts) (run : Option Run) (text : List ℕ) → WorkerRunCauses command p run Done text → text ≡ text_by command p
run_done command p None text h = absurd h
run_done command p (Some r) text h = (end_done command p r.end text h.1).0

have_finished : (p : Parts) (end : End) (reports : List NodeReport) (a : LbtsAccount) → end ≡ ends.Done → IsRun p end reports a → AllHaveFinished a.places
have_finished p end reports a e h = let P : End → Type 0 = EndIs p most_rounds a.places in subst P e h.cause

run_complete : (command : WorkerCommand) (p : Parts) (r : Run) → r.end ≡ ends.Done → IsRunBy command p r → AreComplete command r.floor r.account
run_complete (by.Lock w) p r e h = locked_floor (λ f. AllHaveFinished f.places) p r.end r.reports r.floor (λ f x. have_finished p r.end r.reports (account_in f) e x.run) h.0
run_complete (by.Run w) p r e h = ran_account (λ a. AllHaveFinished a.places) p r.end r.reports r.account (λ a x. have_finished p r.end r.reports a e x) h.0
run_complete (by.Trial n w) p r e h = ran_account (λ a. AllHaveFinished a.places) p r.end r.reports r.account (λ a x. have_finished p r.end r.reports a e x) h.0

-- a run that has a text left something
no_memory : (command : WorkerCommand) (p : Parts) (end : End) (s : Status) (text : List ℕ) → end ≡ ends.NoMemory → WorkerEndCauses command p end s text → ⊥
no_memory command p end s text e h = let P : End → Type 0 = λ end. WorkerEndCauses command p end s text in subst P e h

ran_there : (command : WorkerCommand) (p : Parts) (end : End) (reports : List NodeReport) (account : Option LbtsAccount) (s : Status) (text : List ℕ) → IsRan p end reports account → WorkerEndCauses command p end s text → IsSome account
ran_there command p end reports None s text is h = absurd (no_memory command p end s text is.end_is h)
ran_there command p end reports (Some a) s text is h = refl

locked_there : (command : WorkerCommand) (p : Parts) (end : End) (reports : List NodeReport) (floor : Option LbtsFloor) (s : Status) (text : List ℕ) → IsLocked p end reports floor → WorkerEndCauses command p end s text → IsSome floor
locked_there command p end reports None s text is h = absurd (no_memory command p end s text is.end_is h)
locked_there command p end reports (Some f) s text is h = refl

run_there : (command : WorkerCommand) (p : Parts) (r : Run) (s : Status) (text : List ℕ) → IsRunBy command p r → WorkerEndCauses command p r.end s text → IsThere command r.floor r.account
run_there (by.Lock w) p r s text is h = locked_there (by.Lock w) p r.end r.reports r.floor s text is.0 h
run_there (by.Run w) p r s text is h = ran_there (by.Run w) p r.end r.reports r.account s text is.0 h
run_there (by.Trial n w) p r s text is h = ran_there (by.Trial n w) p r.end r.reports r.account s text is.0 h

-- WHAT A STATUS OF A RUN WAS CAUSED BY
record Caused {S : Type 0} (g : Ghosts S) (command : WorkerCommand) (from to : S) (run : Option Run) (s : Status) : Type 0 where
  federation : Parts
  text : List ℕ
  cause : WorkerRunCauses command federation run s text

caused : {S : Type 0} (g : Ghosts S) (command : WorkerCommand) (from to : S) (old new : Option (List ℕ)) (run : Option Run) (s : Status) → IsOfRun s → Told (WorkerCauses g command from to run) old new s → Caused g command from to run s
caused g command from to old new run Done is h = record { federation = h.1.0; text = h.0; cause = h.1.2 }
caused g command from to old new run (NoBuffer i n) is h = record { federation = h.1.0; text = h.0; cause = h.1.2 }
caused g command from to old new run (SendsSpent i) is h = record { federation = h.1.0; text = h.0; cause = h.1.2 }
caused g command from to old new run (RoundsSpent i) is h = record { federation = h.1.0; text = h.0; cause = h.1.2 }
caused g command from to old new run Usage is h = absurd is
caused g command from to old new run ReadFault is h = absurd is
caused g command from to old new run TooLong is h = absurd is
caused g command from to old new run (BadFile x) is h = absurd is
caused g command from to old new run (Unfinished i) is h = absurd is
caused g command from to old new run WriteFault is h = absurd is
caused g command from to old new run NoMemory is h = absurd is
caused g command from to old new run CutTooLong is h = absurd is

both_left : (P : Option LbtsFloor → Option LbtsAccount → Type 0) (f f' : Option LbtsFloor) (a a' : Option LbtsAccount) → f ≡ f' → a ≡ a' → P f' a' → P f a
both_left P f f' a a' e d h =
    let Q : Option LbtsFloor → Type 0 = λ f. P f a' in
    let R : Option LbtsAccount → Type 0 = P f in
    subst R (sym d) (subst Q (sym e) h)

module _ {S : Type 0} (g : Ghosts S) (command : WorkerCommand) (from to : S) (old new : Option (List ℕ)) (ended : Ended) where
  pub answered : EndsByWorkers g command from to old new ended → ended.status ≡ Done → IsAnsweredBy g command from to old new
  answered h e =
      let T : Status → Type 0 = λ s. Told (WorkerCauses g command from to h.run) old new s in
      let told = subst T e h.told in
      let P : List ℕ → Type 0 = λ text. Appends old new text in
      record { federation = told.1.0; its = told.1.1; written = subst P (run_done command told.1.0 h.run told.0 told.1.2) told.2 }

  pub there : EndsByWorkers g command from to old new ended → IsOfRun ended.status → IsThere command ended.floor ended.account
  there h is = of h.run h.left (caused g command from to old new h.run ended.status is h.told)
    where
      of : (run : Option Run) → IsLeft run ended.nodes.items ended.floor ended.account → Caused g command from to run ended.status → IsThere command ended.floor ended.account
      of None left c = absurd c.cause
      of (Some r) left c = both_left (IsThere command) ended.floor r.floor ended.account r.account left.1 left.2 (run_there command c.federation r ended.status c.text c.cause.0 c.cause.1)

  pub complete : EndsByWorkers g command from to old new ended → ended.status ≡ Done → AreComplete command ended.floor ended.account
  complete h e = let T : Status → Type 0 = λ s. Told (WorkerCauses g command from to h.run) old new s in of h.run h.left (caused g command from to old new h.run Done tt (subst T e h.told))
    where
      of : (run : Option Run) → IsLeft run ended.nodes.items ended.floor ended.account → Caused g command from to run Done → AreComplete command ended.floor ended.account
      of None left c = absurd c.cause
      of (Some r) left c = both_left (AreComplete command) ended.floor r.floor ended.account r.account left.1 left.2 (run_complete command c.federation r (end_done command c.federation r.end c.text c.cause.1).1 c.cause.0)

  pub there_or_bad : EndsByWorkers g command from to old new ended → ended.status ≡ WriteFault → IsThere command ended.floor ended.account ⊎ IsBadInput g command from to
  there_or_bad h e =
      let T : Status → Type 0 = λ s. Told (WorkerCauses g command from to h.run) old new s in
      let told = subst T e h.told in
      by_cause told.0 told.1 told.2
    where
      of : (run : Option Run) → IsLeft run ended.nodes.items ended.floor ended.account → (p : Parts) (s : Status) (text : List ℕ) → WorkerRunCauses command p run s text → IsThere command ended.floor ended.account
      of None left p s text c = absurd c
      of (Some r) left p s text c = both_left (IsThere command) ended.floor r.floor ended.account r.account left.1 left.2 (run_there command p r s text c.0 c.1)

      by_cause : (s : Status) (text : List ℕ) → WorkerCauses g command from to h.run s text → IsThere command ended.floor ended.account ⊎ IsBadInput g command from to
      by_cause ReadFault text c = inr (c.0, ReadFault, text, c.1)
      by_cause TooLong text c = inr (c.0, TooLong, text, c.1)
      by_cause (BadFile x) text c = inr (c.0, BadFile x, text, c.1)
      by_cause Done text c = inl (of h.run h.left c.0 Done text c.2)
      by_cause Usage text c = inl (of h.run h.left c.0 Usage text c.2)
      by_cause (Unfinished i) text c = inl (of h.run h.left c.0 (Unfinished i) text c.2)
      by_cause (NoBuffer i n) text c = inl (of h.run h.left c.0 (NoBuffer i n) text c.2)
      by_cause (SendsSpent i) text c = inl (of h.run h.left c.0 (SendsSpent i) text c.2)
      by_cause (RoundsSpent i) text c = inl (of h.run h.left c.0 (RoundsSpent i) text c.2)
      by_cause WriteFault text c = inl (of h.run h.left c.0 WriteFault text c.2)
      by_cause NoMemory text c = inl (of h.run h.left c.0 NoMemory text c.2)
      by_cause CutTooLong text c = inl (of h.run h.left c.0 CutTooLong text c.2)
