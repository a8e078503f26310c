-- What steps leave of a state.
use Rattle.std.proofs.Common.{◌≡◌, ℕ, suc, true, false, cond, ◌&&◌, ◌<◌, ◌≤◌, List, [], ◌∷◌, length, take, drop, get_or, arith, drop-cons, refl, ap, ◌∙◌}
use Rattle.kit_rules.specs.declared.table.Action.{Action}
use Rattle.kit_rules.specs.declared.table.Trigger.{Trigger}
use Rattle.kit_rules.specs.declared.table.Rule.{Rule}
use Rattle.kit_rules.specs.declared.scene.Scene.{Scene}
use Rattle.kit_rules.specs.declared.scene.State.{State}
use Rattle.kit_rules.specs.Step.{after_action, after_actions, after_rule, after_rules, same_trigger, conditions_hold}

-- what a first step keeps in front, a second that keeps all of its result keeps there too
pub kept_on : {X : Type 0} (a b c : List X) → take (length a) b ≡ a → take (length b) c ≡ b → take (length a) c ≡ a
kept_on [] b c h k = refl
kept_on (x ∷ xs) [] c h k = absurd (cc)
kept_on (x ∷ xs) (y ∷ ys) [] h k = absurd (cc)
kept_on {X} (x ∷ xs) (y ∷ ys) (z ∷ zs) h k =
    let first : y ≡ x = cc in
    let second : z ≡ y = cc in
    let front : take (length xs) ys ≡ xs = cc in
    let all : take (length ys) zs ≡ ys = cc in
    ap (λ (v : X). v ∷ take (length xs) zs) (second ∙ first) ∙ ap (λ (vs : List X). x ∷ vs) (kept_on xs ys zs front all)

-- the next number does not fall
pub next_grows : (scene : Scene) (s : State) (as' : List Action) → s.next ≤ (after_actions scene s as').next
next_grows scene s [] = omega arith
next_grows scene s (a ∷ as') = omega (arith, next_grows scene (after_action scene s a) as')

-- where the action at a place goes past a number, so do all from there on
pub past_from_here : (scene : Scene) (s : State) (as' : List Action) (i n : ℕ) (d : Action) → i < length as' → n < (after_action scene s (get_or as' i d)).next → n < (after_actions scene s (drop i as')).next
past_from_here scene s as' i n d h past =
    rw (drop-cons as' i d h) (omega (arith, past, next_grows scene (after_action scene s (get_or as' i d)) (drop (suc i) as')))

-- nor by a rule
pub next_grows_by_rule : (scene : Scene) (on : Trigger) (s : State) (r : Rule) → s.next ≤ (after_rule scene on s r).next
next_grows_by_rule scene on s r =
    elim (same_trigger r.on on && conditions_hold scene s.vars r.conds) as (λ b. s.next ≤ (cond b (after_actions scene s r.actions) s).next)
    [ true ↦ next_grows scene s r.actions | false ↦ omega arith ]

-- nor by several
pub next_grows_by_rules : (scene : Scene) (on : Trigger) (s : State) (rs : List Rule) → s.next ≤ (after_rules scene on s rs).next
next_grows_by_rules scene on s [] = omega arith
next_grows_by_rules scene on s (r ∷ rs) = omega (arith, next_grows_by_rule scene on s r, next_grows_by_rules scene on (after_rule scene on s r) rs)

-- and the same of a rule
pub past_from_rule : (scene : Scene) (on : Trigger) (s : State) (rs : List Rule) (i n : ℕ) (r : Rule) → i < length rs → r ≡ get_or rs i r → n < (after_rule scene on s r).next → n < (after_rules scene on s (drop i rs)).next
past_from_rule scene on s rs i n r h is past =
    rw (drop-cons rs i r h, ← is) (omega (arith, past, next_grows_by_rules scene on (after_rule scene on s r) (drop (suc i) rs)))
