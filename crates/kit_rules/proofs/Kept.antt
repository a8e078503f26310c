-- What rule steps of a federation keep: steps of requests, groups of messages, and times after now.
use Rattle.std.proofs.Common.{◌≡◌, ℕ, true, false, cond, ◌&&◌, ◌+◌, ◌<◌, ◌≤◌, List, [], ◌∷◌, ◌++◌, length, get_or, find, Option, Some, None, IfSome, arith, refl, sym, ap, ◌∙◌}
use Rattle.std.specs.List.{All, AllByRecursion}
use Rattle.std.specs.Option.{option_to_list, option_map}
use Rattle.std.proofs.lemmas.List.{append_assoc, append-nil}
use Rattle.std.proofs.lemmas.List.Elements.{All-head, All-tail}
use Rattle.kit_base.specs.declared.message.Message.{Message}
use Rattle.kit_base.proofs.Lists.{all-append, all_found}
use Rattle.kit_rules.specs.declared.table.Action.{Action}
use Rattle.kit_rules.specs.declared.table.Action.TheVariants as action
use Rattle.kit_rules.specs.declared.table.Trigger.{Trigger}
use Rattle.kit_rules.specs.declared.table.Rule.{Rule}
use Rattle.kit_rules.specs.Parts.{Parts, federate_at, nobody, effective_lookahead}
use Rattle.kit_rules.specs.Federation.{IsFederation, IsRule, IsAction, IsWish}
use Rattle.kit_rules.specs.declared.scene.Scene.{Scene}
use Rattle.kit_rules.specs.declared.scene.State.{State}
use Rattle.kit_rules.specs.Step.{is_event, message_of, retraction_of, is_target, after_action, after_actions, after_rule, after_rules, same_trigger, conditions_hold, scene_of, state_after}
use Rattle.kit_rules.proofs.Lookaheads.{rule_effective, lookahead_is_positive}

-- an Event is timed after d
abbrev pub Later : ℕ → Message → Type 0
Later d m = is_event m.kind ≡ true → d < m.time

-- a message names one of so many groups
abbrev pub HasGroup : ℕ → Message → Type 0
HasGroup groups m = m.group < groups

-- what a step keeps from one state to the next: a fit wish, fit sends, and new Events after d
pub record Kept (groups d : ℕ) (old new : State) : Type 0 where
  pub wish : IsWish old.wish → IsWish new.wish
  pub fits : AllByRecursion (HasGroup groups) old.sends → AllByRecursion (HasGroup groups) new.sends
  pub made : List Message
  pub sends : new.sends ≡ old.sends ++ made
  pub later : AllByRecursion (Later d) made

-- no step keeps all of it
pub kept_none : (groups d : ℕ) (s : State) → Kept groups d s s
kept_none groups d s = record { wish = λ h. h; fits = λ h. h; made = []; sends = sym (append-nil s.sends); later = tt }

-- and two steps in a row do, where each does
pub kept_more : (groups d : ℕ) (a b c : State) → Kept groups d a b → Kept groups d b c → Kept groups d a c
kept_more groups d a b c g h = record {
  wish = λ w. h.wish (g.wish w);
  fits = λ f. h.fits (g.fits f);
  made = g.made ++ h.made;
  sends = h.sends ∙ ap (λ xs. xs ++ h.made) g.sends ∙ append_assoc a.sends g.made h.made;
  later = all-append (Later d) g.made h.made g.later h.later;
}

-- an action leaves a fit wish
wish_kept : (scene : Scene) (groups vars : ℕ) (s : State) (a : Action) → IsAction groups vars (Some scene.lookahead) a → IsWish s.wish → IsWish (after_action scene s a).wish
wish_kept scene groups vars s (action.Set v to) h w = w
wish_kept scene groups vars s (action.Add v by) h w = w
wish_kept scene groups vars s (action.Sub v by) h w = w
wish_kept scene groups vars s (action.Send g d x k) h w = w
wish_kept scene groups vars s (action.Retract v) h w = w
wish_kept scene groups vars s (action.Tar n) h w = h
wish_kept scene groups vars s (action.Ner n) h w = h

-- a Retraction names the group of its target
retraction_fits : (scene : Scene) (s : State) (groups : ℕ) (o : Option Message) → IfSome o (HasGroup groups) → AllByRecursion (HasGroup groups) (option_to_list (option_map (retraction_of scene s) o))
retraction_fits scene s groups None h = tt
retraction_fits scene s groups (Some m) h = (h, tt)

-- a Retraction is no Event
retraction_later : (scene : Scene) (s : State) (d : ℕ) (o : Option Message) → AllByRecursion (Later d) (option_to_list (option_map (retraction_of scene s) o))
retraction_later scene s d None = tt
retraction_later scene s d (Some m) = ((λ e. absurd (cc)), tt)

-- what an action sends names a group that is there
made_fits : (scene : Scene) (groups vars : ℕ) (s : State) (a : Action) → IsAction groups vars (Some scene.lookahead) a → AllByRecursion (HasGroup groups) s.sends → AllByRecursion (HasGroup groups) (option_to_list (message_of scene s a))
made_fits scene groups vars s (action.Set v to) h f = tt
made_fits scene groups vars s (action.Add v by) h f = tt
made_fits scene groups vars s (action.Sub v by) h f = tt
made_fits scene groups vars s (action.Send g d x k) h f = (h.0, tt)
made_fits scene groups vars s (action.Retract v) h f =
    retraction_fits scene s groups (find (is_target scene s.sends (get_or s.vars v 0)) s.sends) (all_found (HasGroup groups) (is_target scene s.sends (get_or s.vars v 0)) s.sends f)
made_fits scene groups vars s (action.Tar n) h f = tt
made_fits scene groups vars s (action.Ner n) h f = tt

-- and an Event that it sends is timed after now
made_later : (scene : Scene) (groups vars : ℕ) (s : State) (a : Action) → 1 ≤ scene.lookahead → IsAction groups vars (Some scene.lookahead) a → AllByRecursion (Later scene.time) (option_to_list (message_of scene s a))
made_later scene groups vars s (action.Set v to) one h = tt
made_later scene groups vars s (action.Add v by) one h = tt
made_later scene groups vars s (action.Sub v by) one h = tt
made_later scene groups vars s (action.Send g d x k) one h = ((λ e. omega (arith, one, h.1)), tt)
made_later scene groups vars s (action.Retract v) one h = retraction_later scene s scene.time (find (is_target scene s.sends (get_or s.vars v 0)) s.sends)
made_later scene groups vars s (action.Tar n) one h = tt
made_later scene groups vars s (action.Ner n) one h = tt

-- an action keeps it
kept_by_action : (scene : Scene) (groups vars : ℕ) (s : State) (a : Action) → 1 ≤ scene.lookahead → IsAction groups vars (Some scene.lookahead) a → Kept groups scene.time s (after_action scene s a)
kept_by_action scene groups vars s a one h = record {
  wish = wish_kept scene groups vars s a h;
  fits = λ f. all-append (HasGroup groups) s.sends (option_to_list (message_of scene s a)) f (made_fits scene groups vars s a h f);
  made = option_to_list (message_of scene s a);
  sends = refl;
  later = made_later scene groups vars s a one h;
}

-- and so do several
kept_by_actions : (scene : Scene) (groups vars : ℕ) (s : State) (as' : List Action) → 1 ≤ scene.lookahead → All (IsAction groups vars (Some scene.lookahead)) as' → Kept groups scene.time s (after_actions scene s as')
kept_by_actions scene groups vars s [] one h = kept_none groups scene.time s
kept_by_actions scene groups vars s (a ∷ as') one h =
    kept_more groups scene.time _ _ _ (kept_by_action scene groups vars s a one (All-head (IsAction groups vars (Some scene.lookahead)) a as' h))
    (kept_by_actions scene groups vars (after_action scene s a) as' one (All-tail (IsAction groups vars (Some scene.lookahead)) a as' h))

-- and so does a rule
kept_by_rule : (scene : Scene) (groups vars : ℕ) (on : Trigger) (s : State) (r : Rule) → 1 ≤ scene.lookahead → IsRule groups vars (Some scene.lookahead) r → Kept groups scene.time s (after_rule scene on s r)
kept_by_rule scene groups vars on s r one h =
    elim (same_trigger r.on on && conditions_hold scene s.vars r.conds) as (λ b. Kept groups scene.time s (cond b (after_actions scene s r.actions) s))
    [ true ↦ kept_by_actions scene groups vars s r.actions one h.actions | false ↦ kept_none groups scene.time s ]

-- and so do several
kept_by_rules : (scene : Scene) (groups vars : ℕ) (on : Trigger) (s : State) (rs : List Rule) → 1 ≤ scene.lookahead → All (IsRule groups vars (Some scene.lookahead)) rs → Kept groups scene.time s (after_rules scene on s rs)
kept_by_rules scene groups vars on s [] one h = kept_none groups scene.time s
kept_by_rules scene groups vars on s (r ∷ rs) one h =
    kept_more groups scene.time _ _ _ (kept_by_rule scene groups vars on s r one (All-head (IsRule groups vars (Some scene.lookahead)) r rs h))
    (kept_by_rules scene groups vars on (after_rule scene on s r) rs one (All-tail (IsRule groups vars (Some scene.lookahead)) r rs h))

-- the rule step of a federation keeps it
pub kept_by_step : (p : Parts) (i : ℕ) (on : Trigger) (now value : ℕ) (s : State) → IsFederation p → i < length p.federates → Kept (length p.groups) now s (state_after p i on now value s)
unfolding effective_lookahead
kept_by_step p i on now value s h lt =
    let f = h.federates.each i nobody lt in
    kept_by_rules (scene_of p i now value) (length p.groups) (length (federate_at p i).vars) on s (federate_at p i).rules (lookahead_is_positive p i h)
    (λ k d below. rule_effective (length p.groups) (length (federate_at p i).vars) (p.end + 1) (federate_at p i).lookahead _ (f.rules k d below))
