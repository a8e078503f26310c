-- What the end of a replay says of its federation.
use Rattle.std.proofs.Common.{◌≡◌, ◌≢◌, ℕ, zero, suc, ◌<◌, ◌≤◌, Bool, true, false, cond, nat_eq, List, [], ◌∷◌, length, filter, get_or, Option, Some, None, option_map, find, refl, sym, subst, ap, ◌∙◌, arith, length-append}
use Rattle.std.proofs.lemmas.Bool.{false≢true}
use Rattle.std.proofs.lemmas.List.{length-map}
use mathlib.Core.Option.{some, some-injective, some-ne-none}
use lib.ListN.{get_elem?}
use Rattle.kit_base.specs.declared.message.Message.{Message}
use Rattle.kit_rules.specs.Parts.{Parts}
use Rattle.kit_rules.specs.Simulation.{is_spent, simulation, spender}
use Rattle.kit_parts.specs.OwnLaws.{Spends}
use Rattle.kit_node.specs.declared.ends.End.{End}
use Rattle.kit_node.specs.declared.ends.End.TheVariants as ends
use Rattle.kit_node.specs.declared.node.NodeReport.{NodeReport}
use Rattle.kit_replay.specs.Reports.{turns_in}
use Rattle.kit_replay.specs.Schedules.{AreTaken, FollowsSchedule, GivenTurn, entries_below, is_below, is_turn_of, turns_of, whose}
use Rattle.kit_replay.specs.Replays.{IsReplay, IsReplayed, LbtsFloor}
use Rattle.kit_top.specs.Causes.{CanTell, HasBuffers, IsNamed, IsRunOf, Run, most_rounds}
use Rattle.kit_top.specs.declared.command.Command.TheVariants.{OnFederation}
use Rattle.kit_top.specs.declared.command.FederationCommand.TheVariants.{Replay}

-- a place that is there is among the places
pub at_below : {A : Type 0} (xs : List A) (i : ℕ) (x : A) → get_elem? xs i ≡ some x → i < length xs
at_below [] i x e = absurd (some-ne-none x (sym e))
at_below (y ∷ ys) zero x e = omega arith
at_below (y ∷ ys) (suc i) x e = let more : i < length ys = at_below ys i x e in omega arith

federate_below : (p : Parts) (f : LbtsFloor) (i : ℕ) (schedule : List ℕ) (end : End) (reports : List NodeReport) → IsReplay p schedule most_rounds end reports f → i < length f.places → i < length p.federates
federate_below p f i schedule end reports h below = let many : length f.places ≡ length p.federates = h.floor.many in omega arith

-- A NODE HAS ROUNDS LEFT after any schedule, since it opens one in a turn at most
pub some_at : {A : Type 0} (xs : List A) (i : ℕ) → i < length xs → (x : A) × (get_elem? xs i ≡ some x)
some_at [] i h = absurd (omega arith)
some_at (x ∷ xs) zero h = (x, refl)
some_at (x ∷ xs) (suc i) h = some_at xs i (omega arith)

turns_at : (reports : List NodeReport) (i : ℕ) (r : NodeReport) → get_elem? reports i ≡ some r → get_or (turns_in reports) i [] ≡ r.turns.value
turns_at [] i r e = absurd (some-ne-none r (sym e))
turns_at (x ∷ xs) zero r e = ap (λ (y : NodeReport). y.turns.value) (some-injective x r e)
turns_at (x ∷ xs) (suc i) r e = turns_at xs i r e

one_test : {A : Type 0} (b : Bool) (x : A) (kept xs : List A) → length kept ≤ length xs → length (cond b (x ∷ kept) kept) ≤ length (x ∷ xs)
one_test true x kept xs h = omega arith
one_test false x kept xs h = omega arith

filter_short : {A : Type 0} (p : A → Bool) (xs : List A) → length (filter p xs) ≤ length xs
filter_short p [] = omega arith
filter_short p (x ∷ xs) = one_test (p x) x (filter p xs) xs (filter_short p xs)

taken_short : (schedule taken : List ℕ) (bad : Option ℕ) → AreTaken schedule taken bad → length taken ≤ length schedule
taken_short schedule taken None h = omega (arith, ap length h)
taken_short schedule taken (Some f) h = omega (arith, ap length h.split, length-append taken h.left)

turns_short : (n i : ℕ) (taken : List ℕ) (turns : List (List ℕ)) (steps : List ℕ) (h : FollowsSchedule n taken turns steps) → i < n → length (get_or turns i []) ≤ length taken
turns_short n i taken turns steps h below =
    let own : length (turns_of i h.given) ≡ length (filter (is_turn_of i) h.given) = length-map (filter (is_turn_of i) h.given) (λ (g : GivenTurn). g.steps) in
    let each : length (get_or turns i []) ≡ length (turns_of i h.given) = ap length (h.listed i below) in
    let given : length h.given ≡ length (entries_below n taken) = sym (length-map h.given whose) ∙ ap length h.order in
    omega (arith, own, each, given, filter_short (is_turn_of i) h.given, filter_short (is_below n) taken)

rounds_left : (p : Parts) (i : ℕ) (schedule : List ℕ) (reports : List NodeReport) (f : LbtsFloor) → length schedule ≤ 16777216 → IsReplay p schedule most_rounds (ends.RoundsSpent i) reports f → ⊥
rounds_left p i schedule reports f short h =
    let q = h.end_is.place in
    let below : i < length p.federates = federate_below p f i schedule (ends.RoundsSpent i) reports h (at_below f.places i q h.end_is.there) in
    let many : length reports ≡ length p.federates = h.reports_are.many in
    let report = some_at reports i (omega arith) in
    let r = report.0 in
    let told = h.reports_are.each i q r h.end_is.there report.1 in
    let turns : length (get_or (turns_in reports) i []) ≡ length r.turns.value = ap length (turns_at reports i r report.1) in
    let few : length (get_or (turns_in reports) i []) ≤ length h.taken = turns_short (length p.federates) i h.taken (turns_in reports) f.steps h.follows below in
    absurd (omega (arith, turns, few, told.few, told.rounds, h.end_is.holds.all, taken_short schedule h.taken h.bad h.entries))

-- WHAT THE END IS TOLD BY is there
ended_with : (p : Parts) (schedule : List ℕ) (end : End) (reports : List NodeReport) (f : LbtsFloor) → length schedule ≤ 16777216 → IsReplay p schedule most_rounds end reports f → CanTell p reports end
ended_with p schedule ends.Done reports f short h = (h.done refl).parts
ended_with p schedule (ends.Unfinished i) reports f short h = federate_below p f i schedule (ends.Unfinished i) reports h (at_below f.places i _ h.end_is.below.there)
ended_with p schedule (ends.NoBuffer i n) reports f short h = federate_below p f i schedule (ends.NoBuffer i n) reports h (at_below f.places i _ h.end_is.0.there)
ended_with p schedule (ends.SendsSpent i) reports f short h = federate_below p f i schedule (ends.SendsSpent i) reports h (at_below f.places i _ h.end_is.0.there)
ended_with p schedule (ends.RoundsSpent i) reports f short h = rounds_left p i schedule reports f short h
ended_with p schedule ends.NoMemory reports f short h = tt

pub can_tell : (p : Parts) (schedule : List ℕ) (end : End) (reports : List NodeReport) (floor : Option LbtsFloor) → length schedule ≤ 16777216 → IsReplayed p schedule most_rounds end reports floor → CanTell p reports end
can_tell p schedule end reports None short h = let P : End → Type 0 = CanTell p reports in subst P (sym h.end_is) tt
can_tell p schedule end reports (Some f) short h = ended_with p schedule end reports f short h

-- an end that is not Done names a federate that is there
pub can_name : (p : Parts) (reports : List NodeReport) (end : End) → end ≢ ends.Done → CanTell p reports end → IsNamed p end
can_name p reports ends.Done other h = other refl
can_name p reports (ends.Unfinished i) other h = h
can_name p reports (ends.NoBuffer i n) other h = h
can_name p reports (ends.SendsSpent i) other h = h
can_name p reports (ends.RoundsSpent i) other h = absurd h
can_name p reports ends.NoMemory other h = tt

-- where nobody takes number 16,385, no message has it
found_none : (b : Bool) (x : Message) (o : Option Message) → cond b (Some x) o ≡ None → (b ≡ false) × (o ≡ None)
found_none true x o e = absurd (cc)
found_none false x o e = (refl, e)

none_at : (xs : List Message) (k : ℕ) (d : Message) → k < length xs → find is_spent xs ≡ None → is_spent (get_or xs k d) ≡ false
none_at [] k d h e = absurd (omega arith)
none_at (x ∷ xs) zero d h e = (found_none (is_spent x) x (find is_spent xs) e).0
none_at (x ∷ xs) (suc k) d h e = none_at xs k d (omega arith) (found_none (is_spent x) x (find is_spent xs) e).1

sender_none : (o : Option Message) → option_map (λ (m : Message). m.sender) o ≡ None → o ≡ None
sender_none None e = refl
sender_none (Some x) e = absurd (cc)

pub spends_not : (p : Parts) (i : ℕ) → spender p ≡ None → Spends p i → ⊥
spends_not p i none s =
    let m = s.0 in
    let ms = (simulation p).messages in
    let other : is_spent m ≡ false = ap is_spent (sym s.1.2) ∙ none_at ms s.1.0 m s.1.1 (sender_none (find is_spent ms) none) in
    let spent : is_spent m ≡ true = ap (λ n. nat_eq n 16385) s.3 in
    false≢true (sym other ∙ spent)

-- an end that says neither that there are too few buffers nor that a federate takes number 16,385
abbrev pub IsEnough : Parts → End → Type 0
IsEnough p (ends.NoBuffer i n) = ⊥
IsEnough p (ends.SendsSpent i) = ⊥
IsEnough p _ = Unit {0}

floor_is_enough : (p : Parts) (schedule : List ℕ) (end : End) (reports : List NodeReport) (f : LbtsFloor) → spender p ≡ None → HasBuffers (OnFederation (Replay schedule)) p → IsReplay p schedule most_rounds end reports f → IsEnough p end
floor_is_enough p schedule ends.Done reports f none buffers h = tt
floor_is_enough p schedule (ends.Unfinished i) reports f none buffers h = tt
floor_is_enough p schedule (ends.NoBuffer i n) reports f none buffers h =
    let here : i < length p.federates = federate_below p f i schedule (ends.NoBuffer i n) reports h (at_below f.places i _ h.end_is.0.there) in
    absurd (omega (arith, buffers i here, h.end_is.1.needs))
floor_is_enough p schedule (ends.SendsSpent i) reports f none buffers h = absurd (spends_not p i none h.end_is.1)
floor_is_enough p schedule (ends.RoundsSpent i) reports f none buffers h = tt
floor_is_enough p schedule ends.NoMemory reports f none buffers h = tt

replayed_is_enough : (p : Parts) (schedule : List ℕ) (end : End) (reports : List NodeReport) (floor : Option LbtsFloor) → spender p ≡ None → HasBuffers (OnFederation (Replay schedule)) p → IsReplayed p schedule most_rounds end reports floor → IsEnough p end
replayed_is_enough p schedule end reports None none buffers h = subst (IsEnough p) (sym h.end_is) tt
replayed_is_enough p schedule end reports (Some f) none buffers h = floor_is_enough p schedule end reports f none buffers h

pub run_is_enough : (p : Parts) (schedule : List ℕ) (r : Run) → spender p ≡ None → HasBuffers (OnFederation (Replay schedule)) p → IsRunOf p schedule r → IsEnough p r.end
run_is_enough p schedule r none buffers h = replayed_is_enough p schedule r.end r.reports r.floor none buffers h.0
