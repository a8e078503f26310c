-- What a federate's state gains: messages of its own, numbered one after another.
use Rattle.std.proofs.Common.{◌≡◌, ℕ, suc, true, false, cond, ◌&&◌, ◌+◌, List, [], ◌∷◌, ◌++◌, length, find, Some, None, get_or, add-zero, arith, refl, sym, ap, ◌∙◌, length-append}
use Rattle.std.specs.Option.{option_to_list, option_map}
use Rattle.std.proofs.lemmas.List.{append_assoc, append-nil}
use Rattle.kit_base.specs.declared.message.Message.{Message}
use Rattle.kit_rules.specs.declared.table.Action.{Action}
use Rattle.kit_rules.specs.declared.table.Action.TheVariants as action
use Rattle.kit_rules.specs.declared.table.Trigger.{Trigger}
use Rattle.kit_rules.specs.declared.table.Rule.{Rule}
use Rattle.kit_rules.specs.Parts.{Parts, federate_at}
use Rattle.kit_rules.specs.declared.scene.Scene.{Scene}
use Rattle.kit_rules.specs.declared.scene.State.{State}
use Rattle.kit_rules.specs.Step.{message_of, retraction_of, is_target, after_action, after_actions, after_rule, after_rules, same_trigger, conditions_hold, scene_of, state_after}

-- messages of this sender, numbered from n on
abbrev pub AreNumbered : ℕ → ℕ → List Message → Type 0
AreNumbered sender n [] = Unit {0}
AreNumbered sender n (m ∷ ms) = (m.sender ≡ sender) × (m.number ≡ n) × AreNumbered sender (n + 1) ms

-- numbers go on from one list to the next
pub AreNumbered-append : (sender n : ℕ) (xs ys : List Message) → AreNumbered sender n xs → AreNumbered sender (n + length xs) ys → AreNumbered sender n (xs ++ ys)
AreNumbered-append sender n [] ys a b = rw (add-zero n) at b
AreNumbered-append sender n (x ∷ xs) ys a b =
    let e : n + suc (length xs) ≡ (n + 1) + length xs = omega arith in
    (a.0, a.1, AreNumbered-append sender (n + 1) xs ys a.2 (rw e at b))

-- what a state gains: messages of its federate, numbered from its next number on
pub record Grows (sender : ℕ) (old new : State) : Type 0 where
  pub made : List Message
  pub sends : new.sends ≡ old.sends ++ made
  pub numbered : AreNumbered sender old.next made
  pub next : new.next ≡ old.next + length made

-- a state gains nothing from itself
pub grows_none : (sender : ℕ) (s : State) → Grows sender s s
grows_none sender s = record { made = []; sends = sym (append-nil s.sends); numbered = tt; next = omega arith }

-- two gains in a row are one
pub grows_more : (sender : ℕ) (a b c : State) → Grows sender a b → Grows sender b c → Grows sender a c
grows_more sender a b c g h = record {
  made = g.made ++ h.made;
  sends = h.sends ∙ ap (λ xs. xs ++ h.made) g.sends ∙ append_assoc a.sends g.made h.made;
  numbered = AreNumbered-append sender a.next g.made h.made g.numbered (rw (← g.next) h.numbered);
  next = omega (arith, g.next, h.next, length-append g.made h.made);
}

-- what an action sends has the next number
made_numbered : (scene : Scene) (s : State) (a : Action) → AreNumbered scene.sender s.next (option_to_list (message_of scene s a))
made_numbered scene s (action.Set v to) = tt
made_numbered scene s (action.Add v by) = tt
made_numbered scene s (action.Sub v by) = tt
made_numbered scene s (action.Send g d x k) = (refl, refl, tt)
made_numbered scene s (action.Retract v) =
    elim (find (is_target scene s.sends (get_or s.vars v 0)) s.sends) as (λ o. AreNumbered scene.sender s.next (option_to_list (option_map (retraction_of scene s) o)))
    [ Some m ↦ (refl, refl, tt) | None ↦ tt ]
made_numbered scene s (action.Tar n) = tt
made_numbered scene s (action.Ner n) = tt

-- an action gains that
grows_by_action : (scene : Scene) (s : State) (a : Action) → Grows scene.sender s (after_action scene s a)
grows_by_action scene s a = record { made = option_to_list (message_of scene s a); sends = refl; numbered = made_numbered scene s a; next = refl }

-- and so do several
grows_by_actions : (scene : Scene) (s : State) (as' : List Action) → Grows scene.sender s (after_actions scene s as')
grows_by_actions scene s [] = grows_none scene.sender s
grows_by_actions scene s (a ∷ as') = grows_more scene.sender _ _ _ (grows_by_action scene s a) (grows_by_actions scene (after_action scene s a) as')

-- and so does a rule
grows_by_rule : (scene : Scene) (on : Trigger) (s : State) (r : Rule) → Grows scene.sender s (after_rule scene on s r)
grows_by_rule scene on s r =
    elim (same_trigger r.on on && conditions_hold scene s.vars r.conds) as (λ b. Grows scene.sender s (cond b (after_actions scene s r.actions) s))
    [ true ↦ grows_by_actions scene s r.actions | false ↦ grows_none scene.sender s ]

-- and so do several
pub grows_by_rules : (scene : Scene) (on : Trigger) (s : State) (rs : List Rule) → Grows scene.sender s (after_rules scene on s rs)
grows_by_rules scene on s [] = grows_none scene.sender s
grows_by_rules scene on s (r ∷ rs) = grows_more scene.sender _ _ _ (grows_by_rule scene on s r) (grows_by_rules scene on (after_rule scene on s r) rs)

-- the rule step adds messages of the federate
pub grows_by_step : (p : Parts) (i : ℕ) (on : Trigger) (now value : ℕ) (s : State) → Grows i s (state_after p i on now value s)
grows_by_step p i on now value s = grows_by_rules (scene_of p i now value) on s (federate_at p i).rules
