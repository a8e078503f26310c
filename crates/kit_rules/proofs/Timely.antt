-- What a federate sends is timed by its lookahead, and one without lookahead sends nothing.
use Rattle.std.proofs.Common.{◌≡◌, ℕ, Bool, true, false, cond, ◌&&◌, nat_eq, nat_le, ◌+◌, ◌<◌, ◌≤◌, List, [], ◌∷◌, ◌++◌, length, get_or, find, Option, Some, None, IfSome, arith, refl, sym, ap, ◌∙◌}
use Rattle.std.specs.Prelude.{unwrap_or, IsSome, IsSomeAnd}
use Rattle.std.specs.List.{All, AllByRecursion}
use Rattle.std.specs.Option.{option_to_list, option_map}
use Rattle.std.proofs.Math.Seq.{drop-append_seam}
use Rattle.std.proofs.lemmas.Bool.{and_parts, leb-true}
use Rattle.std.proofs.lemmas.List.{append_assoc, append-nil}
use Rattle.std.proofs.lemmas.List.Elements.{All-head, All-tail, All-nil, All-cons}
use Rattle.kit_base.specs.declared.message.Message.{Message}
use Rattle.kit_base.proofs.Lists.{all-append}
use Rattle.kit_rules.specs.declared.table.Action.{Action}
use Rattle.kit_rules.specs.declared.table.Action.TheVariants as action
use Rattle.kit_rules.specs.declared.table.Trigger.{Trigger}
use Rattle.kit_rules.specs.declared.table.Rule.{Rule}
use Rattle.kit_rules.specs.Parts.{Parts, federate_at, nobody, effective_lookahead}
use Rattle.kit_rules.specs.Federation.{IsFederation, IsRule, IsAction}
use Rattle.kit_rules.specs.declared.scene.Scene.{Scene}
use Rattle.kit_rules.specs.declared.scene.State.{State}
use Rattle.kit_rules.specs.Step.{is_event, message_of, retraction_of, is_target, after_action, after_actions, after_rule, after_rules, same_trigger, conditions_hold, scene_of, state_after}
use Rattle.kit_rules.specs.Laws.{SendsKeepLookahead, OnlyRegulatingSend}

-- there is a lookahead, and the message is no sooner than now and that
abbrev IsInTime : Option ℕ → ℕ → Message → Type 0
IsInTime o now m = IsSomeAnd o (λ l. now + l ≤ m.time)

-- what is sent from one state to the next
record Sends (o : Option ℕ) (now : ℕ) (old new : State) : Type 0 where
  made : List Message
  sends : new.sends ≡ old.sends ++ made
  in_time : AllByRecursion (IsInTime o now) made

-- nothing from a state to itself
sends_none : (o : Option ℕ) (now : ℕ) (s : State) → Sends o now s s
sends_none o now s = record { made = []; sends = sym (append-nil s.sends); in_time = tt }

-- and both in a row
sends_more : (o : Option ℕ) (now : ℕ) (a b c : State) → Sends o now a b → Sends o now b c → Sends o now a c
sends_more o now a b c g h = record {
  made = g.made ++ h.made;
  sends = h.sends ∙ ap (λ xs. xs ++ h.made) g.sends ∙ append_assoc a.sends g.made h.made;
  in_time = all-append (IsInTime o now) g.made h.made g.in_time h.in_time;
}

-- a delay that the lookahead allows
delayed : (o : Option ℕ) (now d : ℕ) → IsSomeAnd o (λ l. l ≤ d) → IsSomeAnd o (λ l. now + l ≤ now + d)
delayed None now d h = h
delayed (Some l) now d h = let le : l ≤ d = h in let out : now + l ≤ now + d = omega arith in out

-- a target that the effective lookahead allows, where there is a lookahead
retracted : (o : Option ℕ) (now n reach time : ℕ) → IsSome o → reach ≡ unwrap_or o n → now + reach ≤ time → IsSomeAnd o (λ l. now + l ≤ time)
retracted None now n reach time h e le = absurd (cc)
retracted (Some l) now n reach time h e le = let is : reach ≡ l = e in let out : now + l ≤ time = omega arith in out

-- what is found passes the test
found_passes : (p : Message → Bool) (xs : List Message) → IfSome (find p xs) (λ m. p m ≡ true)
found_passes p [] = tt
found_passes p (x ∷ xs) =
    let here : p x ≡ true → p x ≡ true = λ e. e in
    elim (p x) as (λ b. (b ≡ true → p x ≡ true) → IfSome (cond b (Some x) (find p xs)) (λ m. p m ≡ true)) [ true ↦ λ f. f refl | false ↦ λ f. found_passes p xs ] here

-- a target is late enough
target_in_time : (scene : Scene) (sends : List Message) (n : ℕ) (m : Message) → is_target scene sends n m ≡ true → scene.time + scene.lookahead ≤ m.time
target_in_time scene sends n m h =
    leb-true (scene.time + scene.lookahead) m.time (and_parts (is_event m.kind && nat_eq m.number n && nat_le m.time scene.end) _ (and_parts (is_event m.kind && nat_eq m.number n && nat_le m.time scene.end && nat_le (scene.time + scene.lookahead) m.time) _ h).0).1

-- so its Retraction is in time
retraction_in_time : (scene : Scene) (s : State) (o : Option ℕ) (n v : ℕ) (found : Option Message) → IsSome o → scene.lookahead ≡ unwrap_or o n → IfSome found (λ m. is_target scene s.sends v m ≡ true)
    → AllByRecursion (IsInTime o scene.time) (option_to_list (option_map (retraction_of scene s) found))
retraction_in_time scene s o n v None some e h = tt
retraction_in_time scene s o n v (Some m) some e h = (retracted o scene.time n scene.lookahead m.time some e (target_in_time scene s.sends v m h), tt)

-- what an action sends is in time
made_in_time : (scene : Scene) (groups vars n : ℕ) (o : Option ℕ) (s : State) (a : Action) → scene.lookahead ≡ unwrap_or o n → IsAction groups vars o a → AllByRecursion (IsInTime o scene.time) (option_to_list (message_of scene s a))
made_in_time scene groups vars n o s (action.Set v to) e h = tt
made_in_time scene groups vars n o s (action.Add v by) e h = tt
made_in_time scene groups vars n o s (action.Sub v by) e h = tt
made_in_time scene groups vars n o s (action.Send g d x k) e h = (delayed o scene.time d h.1, tt)
made_in_time scene groups vars n o s (action.Retract v) e h =
    let p = is_target scene s.sends (get_or s.vars v 0) in
    retraction_in_time scene s o n (get_or s.vars v 0) (find p s.sends) h.0 e (found_passes p s.sends)
made_in_time scene groups vars n o s (action.Tar step) e h = tt
made_in_time scene groups vars n o s (action.Ner step) e h = tt

-- and so is what several send
sends_by_actions : (scene : Scene) (groups vars n : ℕ) (o : Option ℕ) (s : State) (as' : List Action) → scene.lookahead ≡ unwrap_or o n → All (IsAction groups vars o) as' → Sends o scene.time s (after_actions scene s as')
sends_by_actions scene groups vars n o s [] e h = sends_none o scene.time s
sends_by_actions scene groups vars n o s (a ∷ as') e h =
    sends_more o scene.time s (after_action scene s a) _
    (record { made = option_to_list (message_of scene s a); sends = refl; in_time = made_in_time scene groups vars n o s a e (All-head (IsAction groups vars o) a as' h) })
    (sends_by_actions scene groups vars n o (after_action scene s a) as' e (All-tail (IsAction groups vars o) a as' h))

-- and so is what a rule sends
sends_by_rule : (scene : Scene) (groups vars n : ℕ) (o : Option ℕ) (on : Trigger) (s : State) (r : Rule) → scene.lookahead ≡ unwrap_or o n → IsRule groups vars o r → Sends o scene.time s (after_rule scene on s r)
sends_by_rule scene groups vars n o on s r e h =
    elim (same_trigger r.on on && conditions_hold scene s.vars r.conds) as (λ b. Sends o scene.time s (cond b (after_actions scene s r.actions) s))
    [ true ↦ sends_by_actions scene groups vars n o s r.actions e h.actions | false ↦ sends_none o scene.time s ]

-- and so is what several send
sends_by_rules : (scene : Scene) (groups vars n : ℕ) (o : Option ℕ) (on : Trigger) (s : State) (rs : List Rule) → scene.lookahead ≡ unwrap_or o n → All (IsRule groups vars o) rs → Sends o scene.time s (after_rules scene on s rs)
sends_by_rules scene groups vars n o on s [] e h = sends_none o scene.time s
sends_by_rules scene groups vars n o on s (r ∷ rs) e h =
    sends_more o scene.time s (after_rule scene on s r) _
    (sends_by_rule scene groups vars n o on s r e (All-head (IsRule groups vars o) r rs h))
    (sends_by_rules scene groups vars n o on (after_rule scene on s r) rs e (All-tail (IsRule groups vars o) r rs h))

-- and so is what the rule step of a federation sends
sends_by_step : (p : Parts) (i : ℕ) (on : Trigger) (now value : ℕ) (s : State) → IsFederation p → i < length p.federates → Sends (federate_at p i).lookahead now s (state_after p i on now value s)
unfolding effective_lookahead
sends_by_step p i on now value s h lt =
    sends_by_rules (scene_of p i now value) (length p.groups) (length (federate_at p i).vars) (p.end + 1) (federate_at p i).lookahead on s (federate_at p i).rules refl (h.federates.each i nobody lt).rules

-- a message in time is no sooner than the effective lookahead allows
reaches : (o : Option ℕ) (now n time : ℕ) → IsSomeAnd o (λ l. now + l ≤ time) → now + unwrap_or o n ≤ time
reaches None now n time h = absurd h
reaches (Some l) now n time h = h

-- and so are several
all_reach : (o : Option ℕ) (now n : ℕ) (ms : List Message) → AllByRecursion (IsInTime o now) ms → All (λ (m : Message). now + unwrap_or o n ≤ m.time) ms
all_reach o now n [] h = All-nil (λ (m : Message). now + unwrap_or o n ≤ m.time)
all_reach o now n (m ∷ ms) h = All-cons (λ (m : Message). now + unwrap_or o n ≤ m.time) m ms (reaches o now n m.time h.0) (all_reach o now n ms h.1)

-- without lookahead no message is in time
none_in_time : (o : Option ℕ) (now : ℕ) (ms : List Message) → o ≡ None → AllByRecursion (IsInTime o now) ms → ms ≡ []
none_in_time o now [] e h = refl
none_in_time None now (m ∷ ms) e h = absurd h.0
none_in_time (Some l) now (m ∷ ms) e h = absurd (cc)

-- what a rule step sends keeps the effective lookahead
pub sends_keep_lookahead : SendsKeepLookahead
unfolding effective_lookahead
sends_keep_lookahead p i on now value s h lt =
    let new = sends_by_step p i on now value s h lt in
    rw (new.sends, drop-append_seam s.sends new.made) (all_reach (federate_at p i).lookahead now (p.end + 1) new.made new.in_time)

-- and a federate that is not regulating sends nothing
pub only_regulating_send : OnlyRegulatingSend
only_regulating_send p i on now value s h lt none =
    let new = sends_by_step p i on now value s h lt in
    new.sends ∙ ap (λ ms. s.sends ++ ms) (none_in_time (federate_at p i).lookahead now new.made none new.in_time) ∙ append-nil s.sends
