-- The words, the input and what was replayed cause one status and one text.
use Rattle.std.proofs.Common.{◌≡◌, ◌≢◌, ◌⊎◌, inl, inr, ◌≤◌, ◌+◌, ℕ, List, [], ◌∷◌, length, get_or, Option, Some, None, IfSome, Result, Ok, Err, codes, decimal, ◌<◌, refl, sym, subst, ap, ◌∙◌, arith}
use Rattle.std.proofs.lemmas.Fmt.{decimal_injective}
use Rattle.serde_json.specs.Data.{Data}
use Rattle.kit_io.specs.declared.source.Source.{Ghosts}
use Rattle.kit_io.specs.Causes.{Took}
use Rattle.kit_rules.specs.Parts.{Parts}
use Rattle.kit_rules.specs.Simulation.{spender}
use Rattle.kit_walk.specs.declared.fault.FileFault.{FileFault}
use Rattle.kit_walk.specs.declared.fault.FileFault.TheVariants as file
use Rattle.kit_walk.specs.Faults.{file_fault, path_text}
use Rattle.kit_walk.specs.Answers.{Says, IsNoJson, IsFirstFaultOf}
use Rattle.kit_walk.specs.Reading.{Answer}
use Rattle.kit_file.specs.Answers.{IsAccepted, IsAcceptedPlan}
use Rattle.kit_file.specs.Walk.{plan_walk, walk}
use Rattle.kit_file.proofs.KeysMean.{others_have_none, plans_mean}
use Rattle.kit_regions.specs.Lowered.{federation_of}
use Rattle.kit_regions.specs.Plan.{Plan}
use Rattle.kit_node.specs.declared.ends.End.{End}
use Rattle.kit_node.specs.declared.ends.End.TheVariants as ends
use Rattle.kit_cut.proofs.Spending.{nobody_spends_by}
use Rattle.kit_schedule.specs.Schedules.{IsSchedule}
use Rattle.kit_schedule.proofs.Fronts.{words_same}
use Rattle.kit_top.specs.declared.command.Command.{Command}
use Rattle.kit_top.specs.declared.command.Command.TheVariants.{OnFederation, Regions, Resume}
use Rattle.kit_top.specs.declared.command.FederationCommand.{FederationCommand}
use Rattle.kit_top.specs.declared.command.FederationCommand.TheVariants.{Oracle, Check, Replay, Upto, Save}
use Rattle.kit_top.specs.declared.status.Status.{Status}
use Rattle.kit_top.specs.declared.status.Status.TheVariants.{Done, Usage, ReadFault, TooLong, BadFile, Unfinished, NoBuffer, SendsSpent, RoundsSpent, WriteFault, NoMemory, CutTooLong}
use Rattle.kit_cut.specs.declared.cut.Cut.{Cut}
use Rattle.kit_cut.specs.Cuts.{spender_by}
use Rattle.kit_cut.specs.Resuming.{resumed_spender}
use Rattle.kit_restore.specs.Saved.{saved_walk, IsSaved}
use Rattle.kit_save.specs.Text.{most_saved}
use Rattle.kit_top.specs.Saving.{save_text, resumed_text, IsSavable, too_long_text}
use Rattle.kit_top.specs.Causes.{AcceptedCauses, Answers, Causes, IsBadBy, IsBadFor, IsReady, ResumingCauses, SaveAnswers, SavingCauses, SpendingCauses, EndCauses, FileCauses, FederationCauses, HasBuffers, IsCommand, IsFederationCommand, IsNoCommand, IsReplayCommand, IsWhole, IsThis, IsBadFile, Run, SimulationCauses, bad_file_text, end_of, plan_text, spender_of, spent_text, text_of, OneCause, Completes, most_bytes}
use Rattle.kit_top.proofs.Ends.{IsEnough, run_is_enough}

pub some_same : {X : Type 0} (x y : X) → Some x ≡ Some y → x ≡ y
some_same x y e = cc

ok_same : {X Y : Type 0} (x y : X) (r : Result X Y) → r ≡ Ok x → r ≡ Ok y → x ≡ y
ok_same x y r a b = let e : Ok x ≡ Ok y = sym a ∙ b in cc

err_same : {X Y : Type 0} (x y : Y) (r : Result X Y) → r ≡ Err x → r ≡ Err y → x ≡ y
err_same x y r a b = let e : Err x ≡ Err y = sym a ∙ b in cc

same_under : {X Y : Type 0} (x y : X) → x ≡ y → (h : X → Y) → h x ≡ h y
same_under x y e h = ap h e

-- bytes are a JSON text of one value
says_same : (bytes : List ℕ) (d e : Data) → Says bytes d → Says bytes e → d ≡ e
says_same bytes d e a b = some_same d e (sym a.1 ∙ b.1)

-- bytes that are a JSON text are no other thing
json_is : (bytes : List ℕ) (d : Data) → Says bytes d → IsNoJson bytes → ⊥
json_is bytes d says none = let e : Some d ≡ None = sym says.1 ∙ none says.0 in absurd (cc)

-- a walk that accepts bytes gives one thing of them
given_same : {X : Type 0} (walk : Data → Answer X) (bytes : List ℕ) (p q : X) → (d : Data) × Says bytes d × (walk d ≡ Ok p) → (d : Data) × Says bytes d × (walk d ≡ Ok q) → p ≡ q
given_same walk bytes p q a b =
    let same : a.0 ≡ b.0 = says_same bytes a.0 b.0 a.1 b.1 in
    ok_same p q (walk a.0) a.2 (ap walk same ∙ b.2)

-- or has one first fault
fault_same : {X : Type 0} (walk : Data → Answer X) (bytes : List ℕ) (f g : FileFault) → IsFirstFaultOf walk bytes f → IsFirstFaultOf walk bytes g → f ≡ g
fault_same walk bytes f g a b =
    let same : a.0 ≡ b.0 = says_same bytes a.0 b.0 a.1 b.1 in
    let e : a.2 ≡ b.2 = err_same a.2 b.2 (walk a.0) a.3 (ap walk same ∙ b.3) in
    a.4 ∙ same_under a.2 b.2 e (λ x. file_fault x.kind (path_text x.path)) ∙ sym b.4

-- and not both
given_no_fault : {X : Type 0} (walk : Data → Answer X) (bytes : List ℕ) (p : X) (f : FileFault) → (d : Data) × Says bytes d × (walk d ≡ Ok p) → IsFirstFaultOf walk bytes f → ⊥
given_no_fault walk bytes p f a b =
    let same : a.0 ≡ b.0 = says_same bytes a.0 b.0 a.1 b.1 in
    let e : Ok p ≡ Err b.2 = sym a.2 ∙ ap walk same ∙ b.3 in
    absurd (cc)

-- a bad file is no JSON text, or has a first fault
bad_cases : {X : Type 0} (walk : Data → Answer X) (bytes : List ℕ) (f : FileFault) → IsBadBy walk bytes f → ((f ≡ file.NotJson) × IsNoJson bytes) ⊎ IsFirstFaultOf walk bytes f
bad_cases walk bytes file.NotJson h = inl (refl, h)
bad_cases walk bytes (file.Missing path) h = inr h
bad_cases walk bytes (file.WrongKind path) h = inr h
bad_cases walk bytes (file.OutOfRange path) h = inr h
bad_cases walk bytes (file.UnknownName path) h = inr h
bad_cases walk bytes (file.Repeated path) h = inr h
bad_cases walk bytes (file.SendTooSoon path) h = inr h
bad_cases walk bytes (file.NotRegulating path) h = inr h
bad_cases walk bytes file.NoMemory h = absurd h

bad_by_same : {X : Type 0} (walk : Data → Answer X) (bytes : List ℕ) (f g : FileFault) → IsBadBy walk bytes f → IsBadBy walk bytes g → f ≡ g
bad_by_same walk bytes f g a b =
    elim (bad_cases walk bytes f a) [
      | inl x ↦ elim (bad_cases walk bytes g b) [ inl y ↦ x.0 ∙ sym y.0 | inr y ↦ absurd (json_is bytes y.0 y.1 x.1) ]
      | inr x ↦ elim (bad_cases walk bytes g b) [ inl y ↦ absurd (json_is bytes x.0 x.1 y.1) | inr y ↦ fault_same walk bytes f g x y ]
    ]

given_not_bad : {X : Type 0} (walk : Data → Answer X) (bytes : List ℕ) (p : X) (f : FileFault) → (d : Data) × Says bytes d × (walk d ≡ Ok p) → IsBadBy walk bytes f → ⊥
given_not_bad walk bytes p f a b =
    elim (bad_cases walk bytes f b) [ inl y ↦ json_is bytes a.0 a.1 y.1 | inr y ↦ given_no_fault walk bytes p f a y ]

-- a file has one federation
pub accepted_same : (bytes : List ℕ) (p q : Parts) → IsAccepted bytes p → IsAccepted bytes q → p ≡ q
accepted_same bytes p q a b = given_same walk bytes p q a b

-- and one fault
pub bad_same : (bytes : List ℕ) (f g : FileFault) → IsBadFile bytes f → IsBadFile bytes g → f ≡ g
bad_same bytes f g a b = bad_by_same walk bytes f g a b

pub accepted_not_bad : (bytes : List ℕ) (p : Parts) (f : FileFault) → IsAccepted bytes p → IsBadFile bytes f → ⊥
accepted_not_bad bytes p f a b = given_not_bad walk bytes p f a b

-- a saved file has one federation and one cut
saved_same : (bytes : List ℕ) (p q : Parts × Cut) → IsSaved bytes p → IsSaved bytes q → p ≡ q
saved_same bytes p q a b = given_same saved_walk bytes p q a b

-- a file has one plan, or none
plan_same : (bytes : List ℕ) (p q : Option Plan) → IsAcceptedPlan bytes p → IsAcceptedPlan bytes q → p ≡ q
plan_same bytes p q a b =
    let same : a.0 ≡ b.0 = says_same bytes a.0 b.0 a.1 b.1 in
    ok_same p q (plan_walk a.0) a.2 (ap plan_walk same ∙ b.2)

-- and it has a federation too
planned_is_accepted : (bytes : List ℕ) (plan : Option Plan) → IsAcceptedPlan bytes plan → (p : Parts) × IsAccepted bytes p
planned_is_accepted bytes None a = let w = (others_have_none a.0).0 a.2 in (w.3, (a.0, a.1, w.4))
planned_is_accepted bytes (Some plan) a = (federation_of plan, (a.0, a.1, (plans_mean a.0 plan a.2).federation))

planned_not_bad : (bytes : List ℕ) (plan : Option Plan) (f : FileFault) → IsAcceptedPlan bytes plan → IsBadFile bytes f → ⊥
planned_not_bad bytes plan f a b = let w = planned_is_accepted bytes plan a in accepted_not_bad bytes w.0 f w.1 b

-- what a simulation causes: a text, or that a federate takes number 16,385
spending_cases : (p : Parts) (spends : Option ℕ) (words : List ℕ) (s : Status) (a : List ℕ) → SpendingCauses p spends words s a
    → ((s ≡ Done) × (spends ≡ None) × (a ≡ words)) ⊎ ((i : ℕ) × (s ≡ SendsSpent i) × (spends ≡ Some i) × (a ≡ spent_text p i))
spending_cases p spends words Done a h = inl (refl, h.0, h.1)
spending_cases p spends words (SendsSpent i) a h = inr (i, refl, h.0, h.1)
spending_cases p spends words Usage a h = absurd h
spending_cases p spends words ReadFault a h = absurd h
spending_cases p spends words TooLong a h = absurd h
spending_cases p spends words (BadFile f) a h = absurd h
spending_cases p spends words (Unfinished i) a h = absurd h
spending_cases p spends words (NoBuffer i n) a h = absurd h
spending_cases p spends words (RoundsSpent i) a h = absurd h
spending_cases p spends words WriteFault a h = absurd h
spending_cases p spends words NoMemory a h = absurd h
spending_cases p spends words CutTooLong a h = absurd h

none_some : (i : ℕ) → None ≡ Some i → ⊥
none_some i e = absurd (cc)

spending_same : (p : Parts) (spends : Option ℕ) (words : List ℕ) (s t : Status) (a b : List ℕ) → SpendingCauses p spends words s a → SpendingCauses p spends words t b → (s ≡ t) × (a ≡ b)
spending_same p spends words s t a b h k =
    elim (spending_cases p spends words s a h) [
      | inl x ↦ elim (spending_cases p spends words t b k) [
        | inl y ↦ (x.0 ∙ sym y.0, x.2 ∙ sym y.2)
        | inr y ↦ absurd (none_some y.0 (sym x.1 ∙ y.2))
      ]
      | inr x ↦ elim (spending_cases p spends words t b k) [
        | inl y ↦ absurd (none_some x.0 (sym y.1 ∙ x.2))
        | inr y ↦ (let same : x.0 ≡ y.0 = some_same x.0 y.0 (sym x.2 ∙ y.2) in (x.1 ∙ ap SendsSpent same ∙ sym y.1, x.3 ∙ ap (spent_text p) same ∙ sym y.3))
      ]
    ]

simulation_same : (command : FederationCommand) (p : Parts) (s t : Status) (a b : List ℕ) → SimulationCauses command p s a → SimulationCauses command p t b → (s ≡ t) × (a ≡ b)
simulation_same command p s t a b h k = spending_same p (spender_of command p) (text_of command p) s t a b h k

-- what saving causes: a file, or that it is too long, or that a federate takes number 16,385
record IsWritten (time : ℕ) (p : Parts) (s : Status) (a : List ℕ) : Type 0 where
  status : s ≡ Done
  savable : IsSavable time p
  text : a ≡ save_text p time

record IsOverlong (time : ℕ) (p : Parts) (s : Status) (a : List ℕ) : Type 0 where
  status : s ≡ CutTooLong
  within : spender_by p time ≡ None
  long : most_saved < length (save_text p time)
  text : a ≡ too_long_text

record IsSpending (time : ℕ) (p : Parts) (s : Status) (a : List ℕ) : Type 0 where
  federate : ℕ
  status : s ≡ SendsSpent federate
  spends : spender_by p time ≡ Some federate
  text : a ≡ spent_text p federate

saving_cases : (time : ℕ) (p : Parts) (s : Status) (a : List ℕ) → SavingCauses time p s a → IsWritten time p s a ⊎ (IsOverlong time p s a ⊎ IsSpending time p s a)
saving_cases time p Done a h = inl (record { status = refl; savable = h.0; text = h.1 })
saving_cases time p CutTooLong a h = inr (inl (record { status = refl; within = h.0; long = h.1; text = h.2 }))
saving_cases time p (SendsSpent i) a h = inr (inr (record { federate = i; status = refl; spends = h.0; text = h.1 }))
saving_cases time p Usage a h = absurd h
saving_cases time p ReadFault a h = absurd h
saving_cases time p TooLong a h = absurd h
saving_cases time p (BadFile f) a h = absurd h
saving_cases time p (Unfinished i) a h = absurd h
saving_cases time p (NoBuffer i n) a h = absurd h
saving_cases time p (RoundsSpent i) a h = absurd h
saving_cases time p WriteFault a h = absurd h
saving_cases time p NoMemory a h = absurd h

written_not_overlong : (time : ℕ) (p : Parts) (s t : Status) (a b : List ℕ) → IsWritten time p s a → IsOverlong time p t b → ⊥
written_not_overlong time p s t a b x y = absurd (omega (arith, x.savable.short, y.long))

none_not_spending : (time : ℕ) (p : Parts) (t : Status) (b : List ℕ) → spender_by p time ≡ None → IsSpending time p t b → ⊥
none_not_spending time p t b none y = none_some y.federate (sym none ∙ y.spends)

saving_same : (time : ℕ) (p : Parts) (s t : Status) (a b : List ℕ) → SavingCauses time p s a → SavingCauses time p t b → (s ≡ t) × (a ≡ b)
saving_same time p s t a b h k =
    elim (saving_cases time p s a h) [
      | inl x ↦ elim (saving_cases time p t b k) [
        | inl y ↦ (x.status ∙ sym y.status, x.text ∙ sym y.text)
        | inr yy ↦ elim yy [ inl y ↦ absurd (written_not_overlong time p s t a b x y) | inr y ↦ absurd (none_not_spending time p t b x.savable.within y) ]
      ]
      | inr xx ↦ elim xx [
        | inl x ↦ elim (saving_cases time p t b k) [
          | inl y ↦ absurd (written_not_overlong time p t s b a y x)
          | inr yy ↦ elim yy [ inl y ↦ (x.status ∙ sym y.status, x.text ∙ sym y.text) | inr y ↦ absurd (none_not_spending time p t b x.within y) ]
        ]
        | inr x ↦ elim (saving_cases time p t b k) [
          | inl y ↦ absurd (none_not_spending time p s a y.savable.within x)
          | inr yy ↦ elim yy [
            | inl y ↦ absurd (none_not_spending time p s a y.within x)
            | inr y ↦ (let same : x.federate ≡ y.federate = some_same x.federate y.federate (sym x.spends ∙ y.spends) in (x.status ∙ ap SendsSpent same ∙ sym y.status, x.text ∙ ap (spent_text p) same ∙ sym y.text))
          ]
        ]
      ]
    ]

-- where nobody takes that number it is a file, or too long
saving_answers : (time : ℕ) (p : Parts) (s : Status) (a : List ℕ) → spender_by p time ≡ None → SavingCauses time p s a → SaveAnswers time p s a
saving_answers time p s a none h =
    elim (saving_cases time p s a h) [
      | inl x ↦ inl (x.savable.short, (x.status, x.text))
      | inr xx ↦ elim xx [ inl x ↦ inr (x.long, (x.status, x.text)) | inr x ↦ absurd (none_not_spending time p s a none x) ]
    ]

pub this_same : (status : Status) (words : List ℕ) (s t : Status) (a b : List ℕ) → IsThis status words s a → IsThis status words t b → (s ≡ t) × (a ≡ b)
this_same status words s t a b h k = (h.0 ∙ sym k.0, h.1 ∙ sym k.1)

end_same : (p : Parts) (end : End) (s t : Status) (a b : List ℕ) → EndCauses p end s a → EndCauses p end t b → (s ≡ t) × (a ≡ b)
end_same p ends.Done s t a b h k = this_same _ _ s t a b h k
end_same p (ends.Unfinished i) s t a b h k = this_same _ _ s t a b h k
end_same p (ends.NoBuffer i n) s t a b h k = this_same _ _ s t a b h k
end_same p (ends.SendsSpent i) s t a b h k = this_same _ _ s t a b h k
end_same p (ends.RoundsSpent i) s t a b h k = absurd h
end_same p ends.NoMemory s t a b h k = absurd h

-- a command that replays
abbrev IsReplaying : FederationCommand → Type 0
IsReplaying (Replay schedule) = Unit {0}
IsReplaying _ = ⊥

-- two runs of it, if it replays, ended alike
abbrev EndAlike : FederationCommand → Option Run → Option Run → Type 0
EndAlike command q r = IsReplaying command → end_of q ≡ end_of r

federation_same : (command : FederationCommand) (p : Parts) (q r : Option Run) (s t : Status) (a b : List ℕ) → EndAlike command q r → FederationCauses command p q s a → FederationCauses command p r t b → (s ≡ t) × (a ≡ b)
federation_same Oracle p q r s t a b alike h k = simulation_same Oracle p s t a b h k
federation_same Check p q r s t a b alike h k = simulation_same Check p s t a b h k
federation_same (Upto time) p q r s t a b alike h k = simulation_same (Upto time) p s t a b h k
federation_same (Save time) p q r s t a b alike h k = saving_same time p s t a b h k
federation_same (Replay schedule) p None r s t a b alike h k = absurd h
federation_same (Replay schedule) p (Some x) None s t a b alike h k = absurd k
federation_same (Replay schedule) p (Some x) (Some y) s t a b alike h k =
    let same : x.end ≡ y.end = some_same x.end y.end (alike tt) in
    let P : End → Type 0 = λ end. EndCauses p end s a in
    end_same p y.end s t a b (subst P same h.1) k.1

-- the same of any command
abbrev AllAlike : Command → Option Run → Option Run → Type 0
AllAlike (OnFederation command) q r = EndAlike command q r
AllAlike Regions q r = Unit {0}
AllAlike Resume q r = Unit {0}

accepted_causes_same : (command : Command) (bytes : List ℕ) (q r : Option Run) (s t : Status) (a b : List ℕ) → AllAlike command q r → AcceptedCauses command bytes q s a → AcceptedCauses command bytes r t b → (s ≡ t) × (a ≡ b)
accepted_causes_same (OnFederation command) bytes q r s t a b alike h k =
    let same : k.0 ≡ h.0 = accepted_same bytes k.0 h.0 k.1 h.1 in
    let P : Parts → Type 0 = λ p. FederationCauses command p r t b in
    federation_same command h.0 q r s t a b alike h.2 (subst P same k.2)
accepted_causes_same Regions bytes q r s t a b alike h k =
    (h.2.0 ∙ sym k.2.0, h.2.1 ∙ ap plan_text (plan_same bytes h.0 k.0 h.1 k.1) ∙ sym k.2.1)
accepted_causes_same Resume bytes q r s t a b alike h k =
    let same : k.0 ≡ h.0 = saved_same bytes k.0 h.0 k.1 h.1 in
    let P : Parts × Cut → Type 0 = λ x. ResumingCauses x.0 x.1 t b in
    spending_same h.0.0 (resumed_spender h.0.0 h.0.1) (resumed_text h.0.0 h.0.1) s t a b h.2 (subst P same k.2)

-- a file that is accepted has no fault
accepted_causes_not_bad : (command : Command) (bytes : List ℕ) (run : Option Run) (s : Status) (a : List ℕ) (f : FileFault) → AcceptedCauses command bytes run s a → IsBadFor command bytes f → ⊥
accepted_causes_not_bad (OnFederation command) bytes run s a f h b = accepted_not_bad bytes h.0 f h.1 b
accepted_causes_not_bad Regions bytes run s a f h b = planned_not_bad bytes h.0 f h.1 b
accepted_causes_not_bad Resume bytes run s a f h b = given_not_bad saved_walk bytes h.0 f h.1 b

-- and a file that is not has one
bad_for_same : (command : Command) (bytes : List ℕ) (f g : FileFault) → IsBadFor command bytes f → IsBadFor command bytes g → f ≡ g
bad_for_same (OnFederation command) bytes f g a b = bad_by_same walk bytes f g a b
bad_for_same Regions bytes f g a b = bad_by_same walk bytes f g a b
bad_for_same Resume bytes f g a b = bad_by_same saved_walk bytes f g a b

-- what a file causes: its fault, or what it causes where it is accepted
file_cases : (command : Command) (bytes : List ℕ) (run : Option Run) (s : Status) (a : List ℕ) → FileCauses command bytes run s a
    → ((f : FileFault) × (s ≡ BadFile f) × IsBadFor command bytes f × (a ≡ bad_file_text f)) ⊎ AcceptedCauses command bytes run s a
file_cases command bytes run (BadFile f) a h = inl (f, refl, h.0, h.1)
file_cases command bytes run Done a h = inr h
file_cases command bytes run Usage a h = inr h
file_cases command bytes run ReadFault a h = inr h
file_cases command bytes run TooLong a h = inr h
file_cases command bytes run (Unfinished i) a h = inr h
file_cases command bytes run (NoBuffer i n) a h = inr h
file_cases command bytes run (SendsSpent i) a h = inr h
file_cases command bytes run (RoundsSpent i) a h = inr h
file_cases command bytes run WriteFault a h = inr h
file_cases command bytes run NoMemory a h = inr h
file_cases command bytes run CutTooLong a h = inr h

file_same : (command : Command) (bytes : List ℕ) (q r : Option Run) (s t : Status) (a b : List ℕ) → AllAlike command q r → FileCauses command bytes q s a → FileCauses command bytes r t b → (s ≡ t) × (a ≡ b)
file_same command bytes q r s t a b alike h k =
    elim (file_cases command bytes q s a h) [
      | inl x ↦ elim (file_cases command bytes r t b k) [
        | inl y ↦ (let same : x.0 ≡ y.0 = bad_for_same command bytes x.0 y.0 x.2 y.2 in (x.1 ∙ ap BadFile same ∙ sym y.1, x.3 ∙ ap bad_file_text same ∙ sym y.3))
        | inr y ↦ absurd (accepted_causes_not_bad command bytes r t b x.0 y x.2)
      ]
      | inr x ↦ elim (file_cases command bytes r t b k) [
        | inl y ↦ absurd (accepted_causes_not_bad command bytes q s a y.0 x y.2)
        | inr y ↦ accepted_causes_same command bytes q r s t a b alike x y
      ]
    ]

pub tail_same : (w : List ℕ) (xs ys : List (List ℕ)) → w ∷ xs ≡ w ∷ ys → xs ≡ ys
tail_same w xs ys e = cc

-- words with other first letters are others
pub differ : (a b : List (List ℕ)) (m n : ℕ) → a ≡ b → get_or (get_or a 0 []) 0 0 ≡ m → get_or (get_or b 0 []) 0 0 ≡ n → m ≢ n → ⊥
differ a b m n e here there other = other (sym here ∙ ap (λ (ws : List (List ℕ)). get_or (get_or ws 0 []) 0 0) e ∙ there)

-- and so are words of other lengths
differ_length : (a b : List (List ℕ)) (m n : ℕ) → a ≡ b → length (get_or a 0 []) ≡ m → length (get_or b 0 []) ≡ n → m ≢ n → ⊥
differ_length a b m n e here there other = other (sym here ∙ ap (λ (ws : List (List ℕ)). length (get_or ws 0 [])) e ∙ there)

o_not_c : (m n : ℕ) → m ≡ 111 → n ≡ 99 → m ≢ n
o_not_c m n a b e = absurd (omega arith)

o_not_r : (m n : ℕ) → m ≡ 111 → n ≡ 114 → m ≢ n
o_not_r m n a b e = absurd (omega arith)

c_not_r : (m n : ℕ) → m ≡ 99 → n ≡ 114 → m ≢ n
c_not_r m n a b e = absurd (omega arith)

oracle_or_check : codes "oracle" ∷ [] ≡ codes "check" ∷ [] → ⊥
oracle_or_check e = differ (codes "oracle" ∷ []) (codes "check" ∷ []) 111 99 e refl refl (o_not_c 111 99 refl refl)

oracle_or_replay : (rest : List (List ℕ)) → codes "oracle" ∷ [] ≡ codes "replay" ∷ rest → ⊥
oracle_or_replay rest e = differ (codes "oracle" ∷ []) (codes "replay" ∷ rest) 111 114 e refl refl (o_not_r 111 114 refl refl)

check_or_replay : (rest : List (List ℕ)) → codes "check" ∷ [] ≡ codes "replay" ∷ rest → ⊥
check_or_replay rest e = differ (codes "check" ∷ []) (codes "replay" ∷ rest) 99 114 e refl refl (c_not_r 99 114 refl refl)

-- a word of another first letter than `upto` is another
other_than_upto : (w : List ℕ) (ws rest : List (List ℕ)) (n : ℕ) → get_or w 0 0 ≡ n → n < 117 → w ∷ ws ≡ codes "upto" ∷ rest → ⊥
other_than_upto w ws rest n first less e = differ (w ∷ ws) (codes "upto" ∷ rest) n 117 e first refl (λ same. absurd (omega (arith, same, less)))

oracle_or_upto : (rest : List (List ℕ)) → codes "oracle" ∷ [] ≡ codes "upto" ∷ rest → ⊥
oracle_or_upto rest e = other_than_upto (codes "oracle") [] rest 111 refl (omega arith) e

check_or_upto : (rest : List (List ℕ)) → codes "check" ∷ [] ≡ codes "upto" ∷ rest → ⊥
check_or_upto rest e = other_than_upto (codes "check") [] rest 99 refl (omega arith) e

replay_or_upto : (words rest : List (List ℕ)) → codes "replay" ∷ words ≡ codes "upto" ∷ rest → ⊥
replay_or_upto words rest e = other_than_upto (codes "replay") words rest 114 refl (omega arith) e

-- and one of another first letter than `save`
other_than_save : (w : List ℕ) (ws rest : List (List ℕ)) (n : ℕ) → get_or w 0 0 ≡ n → n ≢ 115 → w ∷ ws ≡ codes "save" ∷ rest → ⊥
other_than_save w ws rest n first other e = differ (w ∷ ws) (codes "save" ∷ rest) n 115 e first refl other

oracle_or_save : (rest : List (List ℕ)) → codes "oracle" ∷ [] ≡ codes "save" ∷ rest → ⊥
oracle_or_save rest e = other_than_save (codes "oracle") [] rest 111 refl (λ same. absurd (omega (arith, same))) e

check_or_save : (rest : List (List ℕ)) → codes "check" ∷ [] ≡ codes "save" ∷ rest → ⊥
check_or_save rest e = other_than_save (codes "check") [] rest 99 refl (λ same. absurd (omega (arith, same))) e

replay_or_save : (words rest : List (List ℕ)) → codes "replay" ∷ words ≡ codes "save" ∷ rest → ⊥
replay_or_save words rest e = other_than_save (codes "replay") words rest 114 refl (λ same. absurd (omega (arith, same))) e

upto_or_save : (words rest : List (List ℕ)) → codes "upto" ∷ words ≡ codes "save" ∷ rest → ⊥
upto_or_save words rest e = other_than_save (codes "upto") words rest 117 refl (λ same. absurd (omega (arith, same))) e

-- words are those of one command on a federation
federation_command_same : (words : List (List ℕ)) (c d : FederationCommand) → IsFederationCommand words c → IsFederationCommand words d → c ≡ d
federation_command_same words Oracle Oracle a b = refl
federation_command_same words Check Check a b = refl
federation_command_same words Oracle Check a b = absurd (oracle_or_check (sym a ∙ b))
federation_command_same words Check Oracle a b = absurd (oracle_or_check (sym b ∙ a))
federation_command_same words Oracle (Replay schedule) a b = absurd (oracle_or_replay b.0 (sym a ∙ b.1))
federation_command_same words Check (Replay schedule) a b = absurd (check_or_replay b.0 (sym a ∙ b.1))
federation_command_same words (Replay schedule) Oracle a b = absurd (oracle_or_replay a.0 (sym b ∙ a.1))
federation_command_same words (Replay schedule) Check a b = absurd (check_or_replay a.0 (sym b ∙ a.1))
federation_command_same words Oracle (Upto t) a b = absurd (oracle_or_upto (decimal t ∷ []) (sym a ∙ b.1))
federation_command_same words (Upto t) Oracle a b = absurd (oracle_or_upto (decimal t ∷ []) (sym b ∙ a.1))
federation_command_same words Check (Upto t) a b = absurd (check_or_upto (decimal t ∷ []) (sym a ∙ b.1))
federation_command_same words (Upto t) Check a b = absurd (check_or_upto (decimal t ∷ []) (sym b ∙ a.1))
federation_command_same words (Replay x) (Upto t) a b = absurd (replay_or_upto a.0 (decimal t ∷ []) (sym a.1 ∙ b.1))
federation_command_same words (Upto t) (Replay x) a b = absurd (replay_or_upto b.0 (decimal t ∷ []) (sym b.1 ∙ a.1))
federation_command_same words Oracle (Save t) a b = absurd (oracle_or_save (decimal t ∷ []) (sym a ∙ b.1))
federation_command_same words (Save t) Oracle a b = absurd (oracle_or_save (decimal t ∷ []) (sym b ∙ a.1))
federation_command_same words Check (Save t) a b = absurd (check_or_save (decimal t ∷ []) (sym a ∙ b.1))
federation_command_same words (Save t) Check a b = absurd (check_or_save (decimal t ∷ []) (sym b ∙ a.1))
federation_command_same words (Replay x) (Save t) a b = absurd (replay_or_save a.0 (decimal t ∷ []) (sym a.1 ∙ b.1))
federation_command_same words (Save t) (Replay x) a b = absurd (replay_or_save b.0 (decimal t ∷ []) (sym b.1 ∙ a.1))
federation_command_same words (Upto t) (Save u) a b = absurd (upto_or_save (decimal t ∷ []) (decimal u ∷ []) (sym a.1 ∙ b.1))
federation_command_same words (Save t) (Upto u) a b = absurd (upto_or_save (decimal u ∷ []) (decimal t ∷ []) (sym b.1 ∙ a.1))
federation_command_same words (Save t) (Save u) a b =
    ap Save (decimal_injective t u (omega (arith, a.0)) (omega (arith, b.0)) (ap (λ (ws : List (List ℕ)). get_or ws 1 []) (sym a.1 ∙ b.1)))
federation_command_same words (Upto t) (Upto u) a b =
    ap Upto (decimal_injective t u (omega (arith, a.0)) (omega (arith, b.0)) (ap (λ (ws : List (List ℕ)). get_or ws 1 []) (sym a.1 ∙ b.1)))
federation_command_same words (Replay x) (Replay y) a b =
    let same : a.0 ≡ b.0 = tail_same (codes "replay") a.0 b.0 (sym a.1 ∙ b.1) in
    let P : List (List ℕ) → Type 0 = λ rest. IsSchedule rest x in
    let here : IsSchedule b.0 x = subst P same a.2 in
    ap Replay (words_same b.0 x y here.words_are b.2.words_are)

-- and those of `regions` are of none
regions_or : (words : List (List ℕ)) (c : FederationCommand) → words ≡ codes "regions" ∷ [] → IsFederationCommand words c → ⊥
regions_or words Oracle a b = differ (codes "oracle" ∷ []) (codes "regions" ∷ []) 111 114 (sym b ∙ a) refl refl (o_not_r 111 114 refl refl)
regions_or words Check a b = differ (codes "check" ∷ []) (codes "regions" ∷ []) 99 114 (sym b ∙ a) refl refl (c_not_r 99 114 refl refl)
regions_or words (Upto t) a b = other_than_upto (codes "regions") [] (decimal t ∷ []) 114 refl (omega arith) (sym a ∙ b.1)
regions_or words (Save t) a b = other_than_save (codes "regions") [] (decimal t ∷ []) 114 refl (λ same. absurd (omega (arith, same))) (sym a ∙ b.1)
regions_or words (Replay schedule) a b =
    differ_length (codes "replay" ∷ b.0) (codes "regions" ∷ []) 6 7 (sym b.1 ∙ a) refl refl (λ e. absurd (omega (arith, e)))

-- nor are those of `resume`
resume_or_replay : (rest : List (List ℕ)) → codes "resume" ∷ [] ≡ codes "replay" ∷ rest → ⊥
resume_or_replay rest e =
    let third : 115 ≡ 112 = ap (λ (ws : List (List ℕ)). get_or (get_or ws 0 []) 2 0) e in
    absurd (omega (arith, third))

resume_or : (words : List (List ℕ)) (c : FederationCommand) → words ≡ codes "resume" ∷ [] → IsFederationCommand words c → ⊥
resume_or words Oracle a b = differ (codes "oracle" ∷ []) (codes "resume" ∷ []) 111 114 (sym b ∙ a) refl refl (o_not_r 111 114 refl refl)
resume_or words Check a b = differ (codes "check" ∷ []) (codes "resume" ∷ []) 99 114 (sym b ∙ a) refl refl (c_not_r 99 114 refl refl)
resume_or words (Upto t) a b = other_than_upto (codes "resume") [] (decimal t ∷ []) 114 refl (omega arith) (sym a ∙ b.1)
resume_or words (Save t) a b = other_than_save (codes "resume") [] (decimal t ∷ []) 114 refl (λ same. absurd (omega (arith, same))) (sym a ∙ b.1)
resume_or words (Replay schedule) a b = resume_or_replay b.0 (sym a ∙ b.1)

resume_or_regions : (words : List (List ℕ)) → words ≡ codes "resume" ∷ [] → words ≡ codes "regions" ∷ [] → ⊥
resume_or_regions words a b = differ_length (codes "resume" ∷ []) (codes "regions" ∷ []) 6 7 (sym a ∙ b) refl refl (λ e. absurd (omega (arith, e)))

command_same : (words : List (List ℕ)) (c d : Command) → IsCommand words c → IsCommand words d → c ≡ d
command_same words (OnFederation c) (OnFederation d) a b = ap OnFederation (federation_command_same words c d a b)
command_same words (OnFederation c) Regions a b = absurd (regions_or words c b a)
command_same words Regions (OnFederation d) a b = absurd (regions_or words d a b)
command_same words Regions Regions a b = refl
command_same words (OnFederation c) Resume a b = absurd (resume_or words c b a)
command_same words Resume (OnFederation d) a b = absurd (resume_or words d a b)
command_same words Resume Regions a b = absurd (resume_or_regions words a b)
command_same words Regions Resume a b = absurd (resume_or_regions words b a)
command_same words Resume Resume a b = refl

-- a command of words that replays is that of `replay`
replaying : (words : List (List ℕ)) (command : FederationCommand) → IsFederationCommand words command → IsReplaying command → IsReplayCommand words
replaying words Oracle word h = absurd h
replaying words Check word h = absurd h
replaying words (Upto time) word h = absurd h
replaying words (Save time) word h = absurd h
replaying words (Replay schedule) word h = (schedule, word)

alike_all : (words : List (List ℕ)) (command : Command) (q r : Option Run) → IsCommand words command → (IsReplayCommand words → end_of q ≡ end_of r) → AllAlike command q r
alike_all words (OnFederation command) q r word alike = λ is. alike (replaying words command word is)
alike_all words Regions q r word alike = tt
alike_all words Resume q r word alike = tt

-- bytes that were taken whole are those that were left
pub all_left : (before : Option (List ℕ)) (xs bytes : List ℕ) → before ≡ Some xs → IfSome before (λ ys. bytes ≡ ys) → bytes ≡ xs
all_left None xs bytes e h = absurd (cc)
all_left (Some ys) xs bytes e h = let is : bytes ≡ ys = h in is ∙ some_same ys xs e

-- and not too many
pub not_long : (before after : Option (List ℕ)) (xs bytes : List ℕ) → before ≡ Some xs → bytes ≡ xs → length bytes ≤ most_bytes → Took before after (most_bytes + 1) → ⊥
not_long None after xs bytes e is short took = absurd (cc)
not_long (Some ys) after xs bytes e is short took =
    let same : length bytes ≡ length ys = ap length (is ∙ sym (some_same ys xs e)) in
    absurd (omega (arith, same, short, took.0))

-- the words are wrong
record Wrong (words : List (List ℕ)) (s : Status) (a : List ℕ) : Type 0 where
  status : s ≡ Usage
  word : IsNoCommand words
  text : a ≡ codes "fault Usage\n"

-- a status is that of a read that failed, or another
pub read_fault_cases : (s : Status) → (s ≡ ReadFault) ⊎ (s ≢ ReadFault)
read_fault_cases ReadFault = inl refl
read_fault_cases Done = inr (λ e. absurd (cc))
read_fault_cases Usage = inr (λ e. absurd (cc))
read_fault_cases TooLong = inr (λ e. absurd (cc))
read_fault_cases (BadFile f) = inr (λ e. absurd (cc))
read_fault_cases (Unfinished i) = inr (λ e. absurd (cc))
read_fault_cases (NoBuffer i n) = inr (λ e. absurd (cc))
read_fault_cases (SendsSpent i) = inr (λ e. absurd (cc))
read_fault_cases (RoundsSpent i) = inr (λ e. absurd (cc))
read_fault_cases WriteFault = inr (λ e. absurd (cc))
read_fault_cases NoMemory = inr (λ e. absurd (cc))
read_fault_cases CutTooLong = inr (λ e. absurd (cc))

-- a federation in which nobody takes number 16,385, with enough buffers, causes the answer to the command
answers_run : (schedule : List ℕ) (p : Parts) (r : Run) (end : End) (s : Status) (a : List ℕ) → IsEnough p end → EndCauses p end s a → Answers (OnFederation (Replay schedule)) p s a
answers_run schedule p r ends.Done s a enough h = inl h
answers_run schedule p r (ends.Unfinished i) s a enough h = inr (i, h)
answers_run schedule p r (ends.NoBuffer i n) s a enough h = absurd enough
answers_run schedule p r (ends.SendsSpent i) s a enough h = absurd enough
answers_run schedule p r (ends.RoundsSpent i) s a enough h = absurd h
answers_run schedule p r ends.NoMemory s a enough h = absurd h

federation_answers : (command : FederationCommand) (p : Parts) (run : Option Run) (s : Status) (a : List ℕ) → spender p ≡ None → HasBuffers (OnFederation command) p → FederationCauses command p run s a → Answers (OnFederation command) p s a
federation_answers Oracle p run s a none buffers h = simulation_same Oracle p s Done a (text_of Oracle p) h (none, refl)
federation_answers Check p run s a none buffers h = simulation_same Check p s Done a (text_of Check p) h (none, refl)
federation_answers (Upto time) p run s a none buffers h = simulation_same (Upto time) p s Done a (text_of (Upto time) p) h (nobody_spends_by p time none, refl)
federation_answers (Save time) p run s a none buffers h = saving_answers time p s a (nobody_spends_by p time none) h
federation_answers (Replay schedule) p None s a none buffers h = absurd h
federation_answers (Replay schedule) p (Some r) s a none buffers h = answers_run schedule p r r.end s a (run_is_enough p schedule r none buffers h.0) h.1

accepted_answers : (command : Command) (bytes : List ℕ) (p : Parts) (run : Option Run) (s : Status) (a : List ℕ) → IsReady command bytes p → HasBuffers command p → AcceptedCauses command bytes run s a → Answers command p s a
accepted_answers (OnFederation command) bytes p run s a ready buffers h =
    let P : Parts → Type 0 = λ p. FederationCauses command p run s a in
    federation_answers command p run s a ready.1 buffers (subst P (accepted_same bytes h.0 p h.1 ready.0) h.2)
accepted_answers Regions bytes p run s a ready buffers h = h.2.0
accepted_answers Resume bytes p run s a ready buffers h =
    let P : Parts × Cut → Type 0 = λ x. ResumingCauses x.0 x.1 s a in
    let c = ready.0 in
    (spending_same p (resumed_spender p c) (resumed_text p c) s Done a (resumed_text p c) (subst P (saved_same bytes h.0 (p, c) h.1 ready.1) h.2) (ready.2, refl)).0

-- a file that is ready has no fault
ready_not_bad : (command : Command) (bytes : List ℕ) (p : Parts) (f : FileFault) → IsReady command bytes p → IsBadFor command bytes f → ⊥
ready_not_bad (OnFederation command) bytes p f ready b = accepted_not_bad bytes p f ready.0 b
ready_not_bad Regions bytes p f ready b = accepted_not_bad bytes p f ready.0 b
ready_not_bad Resume bytes p f ready b = given_not_bad saved_walk bytes (p, ready.0) f ready.1 b

-- a saved file, after whose cut nobody takes number 16,385, causes the text that is resumed
pub saved_answers : (bytes : List ℕ) (p : Parts) (c : Cut) (run : Option Run) (s : Status) (a : List ℕ) → IsSaved bytes (p, c) → resumed_spender p c ≡ None → FileCauses Resume bytes run s a → (s ≡ Done) × (a ≡ resumed_text p c)
saved_answers bytes p c run s a saved none h =
    elim (file_cases Resume bytes run s a h) [
      | inl x ↦ absurd (given_not_bad saved_walk bytes (p, c) x.0 saved x.2)
      | inr x ↦ (let P : Parts × Cut → Type 0 = λ y. ResumingCauses y.0 y.1 s a in
          spending_same p (resumed_spender p c) (resumed_text p c) s Done a (resumed_text p c) (subst P (saved_same bytes x.0 (p, c) x.1 saved) x.2) (none, refl))
    ]

-- and a file that is ready causes an answer
file_answers : (command : Command) (bytes : List ℕ) (p : Parts) (run : Option Run) (s : Status) (a : List ℕ) → IsReady command bytes p → HasBuffers command p → FileCauses command bytes run s a → Answers command p s a
file_answers command bytes p run s a ready buffers h =
    elim (file_cases command bytes run s a h) [
      | inl x ↦ absurd (ready_not_bad command bytes p x.0 ready x.2)
      | inr x ↦ accepted_answers command bytes p run s a ready buffers x
    ]

module _ {S : Type 0} (g : Ghosts S) where
  -- what the words and the input cause, but for a read that failed: what the file causes, or that the input is too
  -- long, or that the words are wrong
  record Whole (words : List (List ℕ)) (old new : S) (run : Option Run) (s : Status) (a : List ℕ) : Type 0 where
    command : Command
    word : IsCommand words command
    bytes : List ℕ
    whole : IsWhole g old new bytes
    file : FileCauses command bytes run s a

  record Long (words : List (List ℕ)) (old new : S) (s : Status) (a : List ℕ) : Type 0 where
    status : s ≡ TooLong
    command : Command
    word : IsCommand words command
    took : Took (g.left old) (g.left new) (most_bytes + 1)
    text : a ≡ codes "fault TooLong\n"

  cases : (words : List (List ℕ)) (old new : S) (run : Option Run) (s : Status) (a : List ℕ) → s ≢ ReadFault → Causes g words old new run s a → Whole words old new run s a ⊎ (Long words old new s a ⊎ Wrong words s a)
  cases words old new run Usage a other h = inr (inr (record { status = refl; word = h.0; text = h.2 }))
  cases words old new run ReadFault a other h = absurd (other refl)
  cases words old new run TooLong a other h = inr (inl (record { status = refl; command = h.0; word = h.1; took = h.2; text = h.3 }))
  cases words old new run Done a other h = inl (record { command = h.0; word = h.1; bytes = h.2; whole = h.3; file = h.4 })
  cases words old new run (BadFile f) a other h = inl (record { command = h.0; word = h.1; bytes = h.2; whole = h.3; file = h.4 })
  cases words old new run (Unfinished i) a other h = inl (record { command = h.0; word = h.1; bytes = h.2; whole = h.3; file = h.4 })
  cases words old new run (NoBuffer i n) a other h = inl (record { command = h.0; word = h.1; bytes = h.2; whole = h.3; file = h.4 })
  cases words old new run (SendsSpent i) a other h = inl (record { command = h.0; word = h.1; bytes = h.2; whole = h.3; file = h.4 })
  cases words old new run (RoundsSpent i) a other h = inl (record { command = h.0; word = h.1; bytes = h.2; whole = h.3; file = h.4 })
  cases words old new run WriteFault a other h = inl (record { command = h.0; word = h.1; bytes = h.2; whole = h.3; file = h.4 })
  cases words old new run NoMemory a other h = inl (record { command = h.0; word = h.1; bytes = h.2; whole = h.3; file = h.4 })
  cases words old new run CutTooLong a other h = inl (record { command = h.0; word = h.1; bytes = h.2; whole = h.3; file = h.4 })

  whole_not_long : (words : List (List ℕ)) (old new : S) (xs : List ℕ) (run : Option Run) (s t : Status) (a b : List ℕ) → g.left old ≡ Some xs → Whole words old new run s a → Long words old new t b → ⊥
  whole_not_long words old new xs run s t a b e x y = not_long (g.left old) (g.left new) xs x.bytes e (all_left (g.left old) xs x.bytes e x.whole.all) x.whole.short y.took

  -- what bytes that were taken whole cause, the bytes that were left cause, by the command of the words
  whole_causes : (words : List (List ℕ)) (old new : S) (command : Command) (xs : List ℕ) (run : Option Run) (s : Status) (a : List ℕ) → g.left old ≡ Some xs → IsCommand words command → Whole words old new run s a → FileCauses command xs run s a
  whole_causes words old new command xs run s a e word x =
      let P : List ℕ → Type 0 = λ bytes. FileCauses x.command bytes run s a in
      let Q : Command → Type 0 = λ command. FileCauses command xs run s a in
      subst Q (command_same words x.command command x.word word) (subst P (all_left (g.left old) xs x.bytes e x.whole.all) x.file)

  whole_same : (words : List (List ℕ)) (old new : S) (xs : List ℕ) (q r : Option Run) (s t : Status) (a b : List ℕ) → g.left old ≡ Some xs → (IsReplayCommand words → end_of q ≡ end_of r) → Whole words old new q s a → Whole words old new r t b → (s ≡ t) × (a ≡ b)
  whole_same words old new xs q r s t a b e alike x y =
      file_same x.command xs q r s t a b (alike_all words x.command q r x.word alike) (whole_causes words old new x.command xs q s a e x.word x) (whole_causes words old new x.command xs r t b e x.word y)

  pub one_cause_law : OneCause g
  one_cause_law words old new xs q r s t a b e not_s not_t alike h k =
      elim (cases words old new q s a not_s h) [
        | inl x ↦ elim (cases words old new r t b not_t k) [
          | inl y ↦ whole_same words old new xs q r s t a b e alike x y
          | inr yy ↦ elim yy [ inl y ↦ absurd (whole_not_long words old new xs q s t a b e x y) | inr y ↦ absurd (y.word x.command x.word) ]
        ]
        | inr xx ↦ elim xx [
          | inl x ↦ elim (cases words old new r t b not_t k) [
            | inl y ↦ absurd (whole_not_long words old new xs r t s b a e y x)
            | inr yy ↦ elim yy [ inl y ↦ (x.status ∙ sym y.status, x.text ∙ sym y.text) | inr y ↦ absurd (y.word x.command x.word) ]
          ]
          | inr x ↦ elim (cases words old new r t b not_t k) [
            | inl y ↦ absurd (x.word y.command y.word)
            | inr yy ↦ elim yy [ inl y ↦ absurd (x.word y.command y.word) | inr y ↦ (x.status ∙ sym y.status, x.text ∙ sym y.text) ]
          ]
        ]
      ]

  pub completes_law : Completes g
  completes_law words old new command p run s a can h =
      elim (read_fault_cases s) [
        | inl fault ↦ inr fault
        | inr other ↦ elim (cases words old new run s a other h) [
          | inl x ↦ inl (file_answers command can.input p run s a can.ready can.buffers (whole_causes words old new command can.input run s a can.told can.word x))
          | inr xx ↦ elim xx [
            | inl x ↦ absurd (not_long (g.left old) (g.left new) can.input can.input can.told refl can.short x.took)
            | inr x ↦ absurd (x.word command can.word)
          ]
        ]
      ]
