-- Retractions among a federate's own sends: they name an Event before them, and have its time.
use Rattle.std.proofs.Common.{◌≡◌, ℕ, inl, inr, Bool, true, false, cond, ◌&&◌, ◌||◌, ◌+◌, ◌<◌, List, [], ◌∷◌, ◌++◌, length, get_or, find, nat_eq, nat_le, Option, Some, None, IfSome, arith, refl, sym, ap, ◌∙◌}
use Rattle.std.specs.List.{AllByRecursion, list_any}
use Rattle.std.specs.Option.{option_to_list, option_map}
use Rattle.std.proofs.lemmas.Bool.{and_parts, and_from, eq-eqb, eqb-true, ne_eqb}
use Rattle.std.proofs.lemmas.Bool.Decides.{eqb_tells}
use Rattle.std.proofs.lemmas.List.Folds.{list_any-append}
use Rattle.kit_base.specs.declared.message.Message.{Message}
use Rattle.kit_base.proofs.Lists.{all-append, each_weaker}
use Rattle.kit_rules.specs.declared.table.Action.{Action}
use Rattle.kit_rules.specs.declared.table.Action.TheVariants as action
use Rattle.kit_rules.specs.declared.table.Trigger.{Trigger}
use Rattle.kit_rules.specs.declared.table.Rule.{Rule}
use Rattle.kit_rules.specs.Parts.{Parts, federate_at}
use Rattle.kit_rules.specs.declared.scene.Scene.{Scene}
use Rattle.kit_rules.specs.declared.scene.State.{State}
use Rattle.kit_rules.specs.Step.{is_event, message_of, retraction_of, is_target, after_action, after_actions, after_rule, after_rules, same_trigger, conditions_hold, scene_of, state_after}
use Rattle.kit_rules.proofs.Growth.{AreNumbered}

-- whether a message is the Event that a Retraction names, with its time
abbrev pub is_aim : Message → Message → Bool
is_aim r x = is_event x.kind && nat_eq x.number r.value && nat_eq x.time r.time

-- a Retraction names an Event of the list, of a lower number
abbrev pub Aims : List Message → Message → Type 0
Aims xs r = is_event r.kind ≡ false → (list_any (is_aim r) xs ≡ true) × (r.value < r.number)

-- a message has a number below n
abbrev pub Under : ℕ → Message → Type 0
Under n x = x.number < n

-- the sends have numbers below the next one, and their Retractions name Events among them
pub record Aimed (s : State) : Type 0 where
  pub under : AllByRecursion (Under s.next) s.sends
  pub aims : AllByRecursion (Aims s.sends) s.sends

-- one of two tests is enough
or_true : (a : Bool) → (a || true) ≡ true
or_true true = refl
or_true false = refl

-- a list that is longer has what it had
any_more : (p : Message → Bool) (xs ys : List Message) → list_any p xs ≡ true → list_any p (xs ++ ys) ≡ true
any_more p xs ys h = list_any-append p xs ys ∙ ap (λ b. b || list_any p ys) h

-- the target of a Retraction, where there is one, is an Event of the sends
abbrev Good : List Message → ℕ → Message → Type 0
Good xs n m = (list_any (λ (x : Message). is_event x.kind && nat_eq x.number m.number && nat_eq x.time m.time) xs ≡ true) × (m.number < n)

-- an Event that is found is one of the list, of a number below n
found_good : (p : Message → Bool) (all xs : List Message) (n : ℕ) → ((m : Message) → p m ≡ true → is_event m.kind ≡ true) → AllByRecursion (Under n) xs
    → ((m : Message) → list_any (λ (x : Message). is_event x.kind && nat_eq x.number m.number && nat_eq x.time m.time) xs ≡ true → list_any (λ (x : Message). is_event x.kind && nat_eq x.number m.number && nat_eq x.time m.time) all ≡ true)
    → IfSome (find p xs) (Good all n)
found_good p all [] n event under up = tt
found_good p all (x ∷ xs) n event under up =
    let same : Message → Message → Bool = λ m x. is_event x.kind && nat_eq x.number m.number && nat_eq x.time m.time in
    let here : p x ≡ true → Good all n x = λ e.
    let self : same x x ≡ true = and_from _ _ (and_from _ _ (event x e) (eq-eqb x.number x.number refl)) (eq-eqb x.time x.time refl) in
    (up x (ap (λ b. b || list_any (same x) xs) self), under.0) in
    let rest : IfSome (find p xs) (Good all n) = found_good p all xs n event under.1 (λ m h. up m (ap (λ b. same m x || b) h ∙ or_true (same m x))) in
    elim (p x) as (λ b. (b ≡ true → Good all n x) → IfSome (cond b (Some x) (find p xs)) (Good all n)) [ true ↦ λ f. f refl | false ↦ λ f. rest ] here

-- a target is an Event
target_event : (scene : Scene) (sends : List Message) (n : ℕ) (m : Message) → is_target scene sends n m ≡ true → is_event m.kind ≡ true
target_event scene sends n m h = (and_parts _ _ (and_parts _ _ (and_parts _ _ (and_parts (is_event m.kind && (nat_eq m.number n) && nat_le m.time scene.end && nat_le (scene.time + scene.lookahead) m.time) _ h).0).0).0).0

-- a Retraction of such an Event names it
retraction_aims : (scene : Scene) (s : State) (o : Option Message) → IfSome o (Good s.sends s.next) → AllByRecursion (Aims s.sends) (option_to_list (option_map (retraction_of scene s) o))
retraction_aims scene s None h = tt
retraction_aims scene s (Some m) h = ((λ e. (h.0, h.1)), tt)

-- so what an action sends names an Event where it is a Retraction
made_aims : (scene : Scene) (s : State) (a : Action) → Aimed s → AllByRecursion (Aims s.sends) (option_to_list (message_of scene s a))
made_aims scene s (action.Set v to) h = tt
made_aims scene s (action.Add v by) h = tt
made_aims scene s (action.Sub v by) h = tt
made_aims scene s (action.Send g d x k) h = ((λ e. absurd (cc)), tt)
made_aims scene s (action.Retract v) h =
    let p = is_target scene s.sends (get_or s.vars v 0) in
    retraction_aims scene s (find p s.sends) (found_good p s.sends s.sends s.next (λ m e. target_event scene s.sends (get_or s.vars v 0) m e) h.under (λ m e. e))
made_aims scene s (action.Tar n) h = tt
made_aims scene s (action.Ner n) h = tt

-- and has a number below the next one after it
made_under : (scene : Scene) (s : State) (a : Action) → AllByRecursion (Under (s.next + length (option_to_list (message_of scene s a)))) (option_to_list (message_of scene s a))
made_under scene s (action.Set v to) = tt
made_under scene s (action.Add v by) = tt
made_under scene s (action.Sub v by) = tt
made_under scene s (action.Send g d x k) = ((omega arith), tt)
made_under scene s (action.Retract v) =
    elim (find (is_target scene s.sends (get_or s.vars v 0)) s.sends) as (λ o. AllByRecursion (Under (s.next + length (option_to_list (option_map (retraction_of scene s) o)))) (option_to_list (option_map (retraction_of scene s) o)))
    [ Some m ↦ ((omega arith), tt) | None ↦ tt ]
made_under scene s (action.Tar n) = tt
made_under scene s (action.Ner n) = tt

-- an action keeps that
aimed_by_action : (scene : Scene) (s : State) (a : Action) → Aimed s → Aimed (after_action scene s a)
aimed_by_action scene s a h =
    let made = option_to_list (message_of scene s a) in
    let up : (r : Message) → Aims s.sends r → Aims (s.sends ++ made) r = λ r f e. (any_more (is_aim r) s.sends made (f e).0, (f e).1) in
    record {
      under = all-append (Under (s.next + length made)) s.sends made (each_weaker (Under s.next) (Under (s.next + length made)) s.sends (λ x u. omega arith) h.under) (made_under scene s a);
      aims = all-append (Aims (s.sends ++ made)) s.sends made (each_weaker (Aims s.sends) (Aims (s.sends ++ made)) s.sends up h.aims) (each_weaker (Aims s.sends) (Aims (s.sends ++ made)) made up (made_aims scene s a h));
    }

-- and so do several
aimed_by_actions : (scene : Scene) (s : State) (as' : List Action) → Aimed s → Aimed (after_actions scene s as')
aimed_by_actions scene s [] h = h
aimed_by_actions scene s (a ∷ as') h = aimed_by_actions scene (after_action scene s a) as' (aimed_by_action scene s a h)

-- and so do rules
aimed_by_rules : (scene : Scene) (on : Trigger) (s : State) (rs : List Rule) → Aimed s → Aimed (after_rules scene on s rs)
aimed_by_rules scene on s [] h = h
aimed_by_rules scene on s (r ∷ rs) h =
    aimed_by_rules scene on (after_rule scene on s r) rs
    (elim (same_trigger r.on on && conditions_hold scene s.vars r.conds) as (λ b. Aimed (cond b (after_actions scene s r.actions) s)) [ true ↦ aimed_by_actions scene s r.actions h | false ↦ h ])

-- the rule step keeps that own Retractions name own Events, by number and time
pub aimed_by_step : (p : Parts) (i : ℕ) (on : Trigger) (now value : ℕ) (s : State) → Aimed s → Aimed (state_after p i on now value s)
aimed_by_step p i on now value s h = aimed_by_rules (scene_of p i now value) on s (federate_at p i).rules h

-- numbers are those of one message, so a number of a list has one time
past_all : (sender n : ℕ) (xs : List Message) (k t : ℕ) → AreNumbered sender n xs → k < n → AllByRecursion (λ (x : Message). x.number ≡ k → x.time ≡ t) xs
past_all sender n [] k t h lt = tt
past_all sender n (x ∷ xs) k t h lt = ((λ e. absurd (let a : x.number ≡ n = h.1 in omega arith)), past_all sender (n + 1) xs k t h.2 (omega arith))

-- below the first number no message is named
past_none : (sender n : ℕ) (xs : List Message) (r : Message) → AreNumbered sender n xs → r.value < n → list_any (is_aim r) xs ≡ false
past_none sender n [] r h lt = refl
past_none sender n (x ∷ xs) r h lt =
    let ne : nat_eq x.number r.value ≡ false = ne_eqb x.number r.value (λ e. let a : x.number ≡ n = h.1 in omega arith) in
    let no : is_aim r x ≡ false = ap (λ b. is_event x.kind && b && nat_eq x.time r.time) ne ∙ never (is_event x.kind) (nat_eq x.time r.time) in
    rw no (past_none sender (n + 1) xs r h.2 (omega arith))
  where
    never : (a b : Bool) → (a && false && b) ≡ false
    never true b = refl
    never false b = refl

-- an Event that a Retraction names has its time, and so has each of that number
pub one_time : (sender n : ℕ) (xs : List Message) (r : Message) → AreNumbered sender n xs → list_any (is_aim r) xs ≡ true → AllByRecursion (λ (x : Message). x.number ≡ r.value → x.time ≡ r.time) xs
one_time sender n [] r h e = tt
one_time sender n (x ∷ xs) r h e =
    elim (eqb_tells x.number r.value) [
      | inl same ↦ (let lt : r.value < n + 1 = (let a : x.number ≡ n = h.1 in let b : x.number ≡ r.value = same.1 in omega arith) in
          let none : list_any (is_aim r) xs ≡ false = past_none sender (n + 1) xs r h.2 lt in
          let here : is_aim r x ≡ true = left_true (is_aim r x) (list_any (is_aim r) xs) e none in
          ((λ q. eqb-true x.time r.time (and_parts (is_event x.kind && nat_eq x.number r.value) (nat_eq x.time r.time) here).1), past_all sender (n + 1) xs r.value r.time h.2 lt))
      | inr other ↦ (let no : is_aim r x ≡ false = ap (λ b. is_event x.kind && b && nat_eq x.time r.time) other.0 ∙ never (is_event x.kind) (nat_eq x.time r.time) in
          ((λ q. absurd (other.1 q)), one_time sender (n + 1) xs r h.2 (sym (ap (λ b. b || list_any (is_aim r) xs) no) ∙ e)))
    ]
  where
    never : (a b : Bool) → (a && false && b) ≡ false
    never true b = refl
    never false b = refl

    left_true : (a b : Bool) → (a || b) ≡ true → b ≡ false → a ≡ true
    left_true true b h e = refl
    left_true false b h e = absurd (cc)
