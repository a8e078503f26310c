-- What rules send: nothing before now and the effective lookahead, and Retractions that name an Event before them.
use Rattle.std.proofs.Common.{◌≡◌, ℕ, inl, inr, ◌+◌, ◌<◌, ◌≤◌, length, Bool, true, false, cond, ◌&&◌, nat_eq, nat_le, not, List, [], ◌∷◌, ◌++◌, get_or, find, Option, Some, None, IfSome, arith, refl, sym, ap, ◌∙◌}
use Rattle.std.specs.List.{All, AllByRecursion, list_any}
use Rattle.std.specs.Option.{option_to_list, option_map}
use Rattle.std.proofs.lemmas.Bool.{and_parts, leb-true, eqb-true, not-true, both_ways, eq-eqb}
use Rattle.std.proofs.lemmas.List.{append_assoc, append-nil}
use Rattle.std.proofs.lemmas.List.Elements.{All-head, All-tail}
use Rattle.kit_base.specs.declared.message.Message.{Message}
use Rattle.kit_base.proofs.Lists.{all-append, each_weaker}
use Rattle.kit_rules.specs.declared.table.Action.{Action}
use Rattle.kit_rules.specs.declared.table.Action.TheVariants as action
use Rattle.kit_rules.specs.declared.table.Trigger.{Trigger}
use Rattle.kit_rules.specs.declared.table.Trigger.TheVariants.{Got, Grant}
use Rattle.kit_rules.specs.declared.table.Rule.{Rule}
use Rattle.kit_rules.specs.Parts.{Parts, federate_at, nobody, effective_lookahead}
use Rattle.kit_rules.specs.Federation.{IsFederation, IsRule, IsAction}
use Rattle.kit_rules.specs.declared.scene.Scene.{Scene}
use Rattle.kit_rules.specs.declared.scene.State.{State}
use Rattle.kit_rules.specs.Step.{is_event, takes_back, message_of, retraction_of, is_target, after_action, after_actions, after_rule, after_rules, same_trigger, conditions_hold, scene_of, state_after}
use Rattle.kit_rules.specs.Simulation.{after_deliveries, after_block}
use Rattle.kit_rules.proofs.Lookaheads.{rule_effective}
use Rattle.kit_laws.proofs.Pendings.{From}
use Rattle.kit_parts.proofs.Among.{Among, among_left, among_cases, each_of, any_among}

-- a Retraction is of an Event: it has its time and group, and names its number
abbrev pub Names : Message → Message → Type 0
Names r x = (is_event x.kind ≡ true) × (x.number ≡ r.value) × (x.time ≡ r.time) × (x.group ≡ r.group)

-- and that Event is one of these
abbrev pub Named : List Message → Message → Type 0
Named xs r = is_event r.kind ≡ false → (x : Message) × Among x xs × Names r x

-- no two Retractions name the same number
abbrev pub Once : List Message → Type 0
Once xs = (a b : Message) → Among a xs → Among b xs → is_event a.kind ≡ false → is_event b.kind ≡ false → a.value ≡ b.value → a ≡ b

-- what a step gains: messages of time t or later, and Retractions that name an Event
pub record Gain (t : ℕ) (old new : State) : Type 0 where
  pub made : List Message
  pub sends : new.sends ≡ old.sends ++ made
  pub late : AllByRecursion (From t) made
  pub named : AllByRecursion (Named old.sends) old.sends → AllByRecursion (Named new.sends) new.sends
  pub once : Once old.sends → Once new.sends

gain_none : (t : ℕ) (s : State) → Gain t s s
gain_none t s = record { made = []; sends = sym (append-nil s.sends); late = tt; named = λ h. h; once = λ h. h }

pub gain_more : (t : ℕ) (a b c : State) → Gain t a b → Gain t b c → Gain t a c
gain_more t a b c g h = record {
  made = g.made ++ h.made;
  sends = h.sends ∙ ap (λ xs. xs ++ h.made) g.sends ∙ append_assoc a.sends g.made h.made;
  late = all-append (From t) g.made h.made g.late h.late;
  named = λ n. h.named (g.named n);
  once = λ n. h.once (g.once n);
}

-- what is found passes, and is one of them
found_among : {X : Type 0} (test : X → Bool) (xs : List X) → IfSome (find test xs) (λ x. Among x xs × (test x ≡ true))
found_among test xs = of test xs xs (λ x a. a)
  where
    of : {X : Type 0} (test : X → Bool) (all xs : List X) → ((x : X) → Among x xs → Among x all) → IfSome (find test xs) (λ x. Among x all × (test x ≡ true))
    of test all [] up = tt
    of {X} test all (x ∷ xs) up =
        let rest : IfSome (find test xs) (λ x. Among x all × (test x ≡ true)) = of test all xs (λ y a. up y (inr a)) in
        let here : test x ≡ true → Among x all × (test x ≡ true) = λ t. (up x (inl refl), t) in
        elim (test x) as (λ b. (b ≡ true → Among x all × (test x ≡ true)) → IfSome (cond b (Some x) (find test xs)) (λ x. Among x all × (test x ≡ true))) [ true ↦ λ f. f refl | false ↦ λ f. rest ] here

-- a target is an Event of this number, timed now and the effective lookahead or later, and was not taken back
target_facts : (scene : Scene) (sends : List Message) (n : ℕ) (m : Message) → is_target scene sends n m ≡ true → (is_event m.kind ≡ true) × (scene.time + scene.lookahead ≤ m.time) × (m.number ≡ n) × (list_any (takes_back n) sends ≡ false)
target_facts scene sends n m h =
    let a = and_parts (is_event m.kind && nat_eq m.number n && nat_le m.time scene.end && nat_le (scene.time + scene.lookahead) m.time) (not (list_any (takes_back n) sends)) h in
    let b = and_parts (is_event m.kind && nat_eq m.number n && nat_le m.time scene.end) (nat_le (scene.time + scene.lookahead) m.time) a.0 in
    let c = and_parts (is_event m.kind && nat_eq m.number n) (nat_le m.time scene.end) b.0 in
    let d = and_parts (is_event m.kind) (nat_eq m.number n) c.0 in
    (d.0, leb-true (scene.time + scene.lookahead) m.time b.1, eqb-true m.number n d.1, not-true (list_any (takes_back n) sends) a.1)

-- a Retraction names a number that was not taken back
abbrev Fresh : List Message → Message → Type 0
Fresh xs r = is_event r.kind ≡ false → list_any (takes_back r.value) xs ≡ false

-- a list of one element at most
abbrev Single : List Message → Type 0
Single xs = (a b : Message) → Among a xs → Among b xs → a ≡ b

single_option : (o : Option Message) → Single (option_to_list o)
single_option None a b in_a in_b = elim in_a [ ]
single_option (Some m) a b (inl ea) (inl eb) = sym ea ∙ eb
single_option (Some m) a b (inl ea) (inr kb) = elim kb [ ]
single_option (Some m) a b (inr ka) in_b = elim ka [ ]

-- so with it no two name the same
once_more : (xs made : List Message) → AllByRecursion (Fresh xs) made → Single made → Once xs → Once (xs ++ made)
once_more xs made fresh single once a b in_a in_b not_a not_b e =
    elim (among_cases a xs made in_a) [
      | inl old_a ↦ elim (among_cases b xs made in_b) [
        | inl old_b ↦ once a b old_a old_b not_a not_b e
        | inr new_b ↦ absurd (stale b a new_b old_a not_b not_a (sym e))
      ]
      | inr new_a ↦ elim (among_cases b xs made in_b) [
        | inl old_b ↦ absurd (stale a b new_a old_b not_a not_b e)
        | inr new_b ↦ single a b new_a new_b
      ]
    ]
  where
    stale : (r x : Message) → Among r made → Among x xs → is_event r.kind ≡ false → is_event x.kind ≡ false → r.value ≡ x.value → ⊥
    stale r x new old not_r not_x same =
        both_ways (list_any (takes_back r.value) xs) (each_of (Fresh xs) r made fresh new not_r) (any_among (takes_back r.value) x xs old
        (ap (λ b. not b && nat_eq x.value r.value) not_x ∙ eq-eqb x.value r.value (sym same)))

retraction_gains : (scene : Scene) (s : State) (n : ℕ) (o : Option Message) → IfSome o (λ m. Among m s.sends × (is_target scene s.sends n m ≡ true))
    → AllByRecursion (From (scene.time + scene.lookahead)) (option_to_list (option_map (retraction_of scene s) o)) × AllByRecursion (Named s.sends) (option_to_list (option_map (retraction_of scene s) o)) × AllByRecursion (Fresh s.sends) (option_to_list (option_map (retraction_of scene s) o))
retraction_gains scene s n None h = (tt, tt, tt)
retraction_gains scene s n (Some m) h =
    let f = target_facts scene s.sends n m h.1 in
    ((f.1, tt), ((λ e. (m, h.0, (f.0, refl, refl, refl))), tt), ((λ e. ap (λ (k : ℕ). list_any (takes_back k) s.sends) f.2 ∙ f.3), tt))

made_gains : (scene : Scene) (groups vars : ℕ) (s : State) (a : Action) → IsAction groups vars (Some scene.lookahead) a
    → AllByRecursion (From (scene.time + scene.lookahead)) (option_to_list (message_of scene s a)) × AllByRecursion (Named s.sends) (option_to_list (message_of scene s a)) × AllByRecursion (Fresh s.sends) (option_to_list (message_of scene s a))
made_gains scene groups vars s (action.Set v to) h = (tt, tt, tt)
made_gains scene groups vars s (action.Add v by) h = (tt, tt, tt)
made_gains scene groups vars s (action.Sub v by) h = (tt, tt, tt)
made_gains scene groups vars s (action.Send g d x k) h = ((omega (arith, h.1), tt), ((λ e. absurd (cc)), tt), ((λ e. absurd (cc)), tt))
made_gains scene groups vars s (action.Retract v) h =
    let test = is_target scene s.sends (get_or s.vars v 0) in
    retraction_gains scene s (get_or s.vars v 0) (find test s.sends) (found_among test s.sends)
made_gains scene groups vars s (action.Tar n) h = (tt, tt, tt)
made_gains scene groups vars s (action.Ner n) h = (tt, tt, tt)

gain_by_action : (scene : Scene) (groups vars : ℕ) (s : State) (a : Action) → IsAction groups vars (Some scene.lookahead) a → Gain (scene.time + scene.lookahead) s (after_action scene s a)
gain_by_action scene groups vars s a h =
    let made = option_to_list (message_of scene s a) in
    let g = made_gains scene groups vars s a h in
    let up : (r : Message) → Named s.sends r → Named (s.sends ++ made) r = λ r f e. let n = f e in (n.0, among_left n.0 s.sends made n.1, n.2) in
    record {
      made = made;
      sends = refl;
      late = g.0;
      named = λ n. all-append (Named (s.sends ++ made)) s.sends made (each_weaker (Named s.sends) (Named (s.sends ++ made)) s.sends up n) (each_weaker (Named s.sends) (Named (s.sends ++ made)) made up g.1);
      once = once_more s.sends made g.2 (single_option (message_of scene s a));
    }

gain_by_actions : (scene : Scene) (groups vars : ℕ) (s : State) (as' : List Action) → All (IsAction groups vars (Some scene.lookahead)) as' → Gain (scene.time + scene.lookahead) s (after_actions scene s as')
gain_by_actions scene groups vars s [] h = gain_none (scene.time + scene.lookahead) s
gain_by_actions scene groups vars s (a ∷ as') h =
    gain_more (scene.time + scene.lookahead) _ _ _ (gain_by_action scene groups vars s a (All-head (IsAction groups vars (Some scene.lookahead)) a as' h))
    (gain_by_actions scene groups vars (after_action scene s a) as' (All-tail (IsAction groups vars (Some scene.lookahead)) a as' h))

gain_by_rule : (scene : Scene) (groups vars : ℕ) (on : Trigger) (s : State) (r : Rule) → IsRule groups vars (Some scene.lookahead) r → Gain (scene.time + scene.lookahead) s (after_rule scene on s r)
gain_by_rule scene groups vars on s r h =
    elim (same_trigger r.on on && conditions_hold scene s.vars r.conds) as (λ b. Gain (scene.time + scene.lookahead) s (cond b (after_actions scene s r.actions) s))
    [ true ↦ gain_by_actions scene groups vars s r.actions h.actions | false ↦ gain_none (scene.time + scene.lookahead) s ]

gain_by_rules : (scene : Scene) (groups vars : ℕ) (on : Trigger) (s : State) (rs : List Rule) → All (IsRule groups vars (Some scene.lookahead)) rs → Gain (scene.time + scene.lookahead) s (after_rules scene on s rs)
gain_by_rules scene groups vars on s [] h = gain_none (scene.time + scene.lookahead) s
gain_by_rules scene groups vars on s (r ∷ rs) h =
    gain_more (scene.time + scene.lookahead) _ _ _ (gain_by_rule scene groups vars on s r (All-head (IsRule groups vars (Some scene.lookahead)) r rs h))
    (gain_by_rules scene groups vars on (after_rule scene on s r) rs (All-tail (IsRule groups vars (Some scene.lookahead)) r rs h))

-- the rule step of a federation
pub gain_by_step : (p : Parts) (i : ℕ) (on : Trigger) (now value : ℕ) (s : State) → IsFederation p → i < length p.federates → Gain (now + effective_lookahead p i) s (state_after p i on now value s)
unfolding effective_lookahead
gain_by_step p i on now value s f lt =
    let fed = f.federates.each i nobody lt in
    gain_by_rules (scene_of p i now value) (length p.groups) (length (federate_at p i).vars) on s (federate_at p i).rules
    (λ k d below. rule_effective (length p.groups) (length (federate_at p i).vars) (p.end + 1) (federate_at p i).lookahead _ (fed.rules k d below))

-- the deliveries of a grant
pub gain_by_deliveries : (p : Parts) (i d : ℕ) (s : State) (due : List Message) → IsFederation p → i < length p.federates → Gain (d + effective_lookahead p i) s (after_deliveries p i d s due)
gain_by_deliveries p i d s [] f lt = gain_none (d + effective_lookahead p i) s
gain_by_deliveries p i d s (m ∷ ms) f lt =
    gain_more (d + effective_lookahead p i) _ _ _ (gain_by_step p i (Got m.group) d m.value s f lt) (gain_by_deliveries p i d (state_after p i (Got m.group) d m.value s) ms f lt)

-- and the whole grant
pub gain_by_block : (p : Parts) (i d : ℕ) (s : State) (due : List Message) → IsFederation p → i < length p.federates → Gain (d + effective_lookahead p i) s (after_block p i d s due)
gain_by_block p i d s due f lt =
    gain_more (d + effective_lookahead p i) _ _ _ (gain_by_deliveries p i d s due f lt) (gain_by_step p i Grant d 0 (after_deliveries p i d s due) f lt)
