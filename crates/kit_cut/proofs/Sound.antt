-- What else holds of each world of the run: unused variables are 0, those that send are regulating, and the messages are those of the federates.
use Rattle.std.proofs.Common.{◌≡◌, ℕ, zero, suc, inl, inr, ◌+◌, ◌-◌, ◌<◌, ◌≤◌, Bool, true, false, cond, ◌&&◌, List, [], ◌∷◌, ◌++◌, length, map, drop, get_or, set, replicate, Option, Some, None, IsSome, IfSome, arith, refl, sym, subst, ap, ◌∙◌, length-set, length-append}
use Rattle.std.specs.List.{AllByRecursion, range_with_len, flat_map}
use Rattle.std.proofs.lemmas.Bool.{cases_eq}
use Rattle.std.proofs.lemmas.List.{get_or-set_other, get_or-set_same}
use Rattle.std.proofs.lemmas.List.Elements.{recursion_from_All}
use Rattle.std.proofs.lemmas.List.FromFn.{get_or-map-range_with_len, length-map-range_with_len}
use Rattle.std.proofs.Math.Seq.{drop-length}
use Rattle.kit_base.specs.declared.message.Message.{Message}
use Rattle.kit_base.proofs.Lists.{all-append}
use Rattle.kit_rules.specs.declared.table.Action.{Action}
use Rattle.kit_rules.specs.declared.table.Action.TheVariants as action
use Rattle.kit_rules.specs.declared.table.Trigger.{Trigger}
use Rattle.kit_rules.specs.declared.table.Trigger.TheVariants.{Start, Grant, Got}
use Rattle.kit_rules.specs.declared.table.Rule.{Rule}
use Rattle.kit_rules.specs.declared.table.Var.{Var}
use Rattle.kit_rules.specs.declared.scene.Scene.{Scene}
use Rattle.kit_rules.specs.declared.scene.State.{State}
use Rattle.kit_rules.specs.Parts.{Parts, nobody, federate_at}
use Rattle.kit_rules.specs.Federation.{IsFederation, IsAction, IsRule}
use Rattle.kit_rules.specs.Delivery.{due_messages}
use Rattle.kit_rules.specs.Step.{kept_in, vars_after, after_action, after_actions, after_rule, after_rules, same_trigger, conditions_hold, scene_of, state_after, opening_state}
use Rattle.kit_rules.specs.Simulation.{Seat, World, world_at_start, seat_at_start, seat_at, nobody_seated, seat_after_pair, world_after_grant, world_after_pair, next_grant, next_world, after_grants, after_deliveries}
use Rattle.kit_rules.proofs.Growth.{AreNumbered, Grows}
use Rattle.kit_rules.proofs.Timely.{only_regulating_send}
use Rattle.kit_laws.proofs.Worlds.{grows_by_grant, grows_by_start}
use Rattle.kit_laws.proofs.Numbers.{gained}
use Rattle.kit_laws.proofs.Rising.{Reached, grants, reached_once, started_reached}

-- the places from n on are 0
abbrev pub Spare : ℕ → List ℕ → Type 0
Spare n vars = (k : ℕ) → n ≤ k → get_or vars k 0 ≡ 0

spare_set : (n v x : ℕ) (vars : List ℕ) → v < n → Spare n vars → Spare n (set vars v x)
spare_set n v x vars lt h k le = get_or-set_other vars v k x 0 (λ e. omega arith) ∙ h k le

spare_kept : (n number : ℕ) (vars : List ℕ) (keep : Option ℕ) → IfSome keep (λ v. v < n) → Spare n vars → Spare n (kept_in vars keep number)
spare_kept n number vars None c h = h
spare_kept n number vars (Some v) c h = spare_set n v number vars c h

spare_action : (groups n : ℕ) (la : Option ℕ) (sc : Scene) (s : State) (act : Action) → IsAction groups n la act → Spare n s.vars → Spare n (vars_after sc s act)
spare_action groups n la sc s (action.Set v to) c h = spare_set n v _ s.vars c.0 h
spare_action groups n la sc s (action.Add v by) c h = spare_set n v _ s.vars c.0 h
spare_action groups n la sc s (action.Sub v by) c h = spare_set n v _ s.vars c.0 h
spare_action groups n la sc s (action.Send g d x keep) c h = spare_kept n s.next s.vars keep c.4 h
spare_action groups n la sc s (action.Retract v) c h = h
spare_action groups n la sc s (action.Tar x) c h = h
spare_action groups n la sc s (action.Ner x) c h = h

spare_actions : (groups n : ℕ) (la : Option ℕ) (sc : Scene) (s : State) (acts : List Action) → AllByRecursion (IsAction groups n la) acts → Spare n s.vars → Spare n (after_actions sc s acts).vars
spare_actions groups n la sc s [] c h = h
spare_actions groups n la sc s (x ∷ xs) c h = spare_actions groups n la sc (after_action sc s x) xs c.1 (spare_action groups n la sc s x c.0 h)

spare_rule : (groups n : ℕ) (la : Option ℕ) (sc : Scene) (on : Trigger) (s : State) (r : Rule) → IsRule groups n la r → Spare n s.vars → Spare n (after_rule sc on s r).vars
spare_rule groups n la sc on s r c h =
    let P : Bool → Type 0 = λ b. Spare n (cond b (after_actions sc s r.actions) s).vars in
    elim (same_trigger r.on on && conditions_hold sc s.vars r.conds) as P [ true ↦ spare_actions groups n la sc s r.actions (recursion_from_All (IsAction groups n la) r.actions c.actions) h | false ↦ h ]

spare_rules : (groups n : ℕ) (la : Option ℕ) (sc : Scene) (on : Trigger) (s : State) (rs : List Rule) → AllByRecursion (IsRule groups n la) rs → Spare n s.vars → Spare n (after_rules sc on s rs).vars
spare_rules groups n la sc on s [] c h = h
spare_rules groups n la sc on s (r ∷ rs) c h = spare_rules groups n la sc on (after_rule sc on s r) rs c.1 (spare_rule groups n la sc on s r c.0 h)

-- the places past those of federate i
abbrev pub IsSpare : Parts → ℕ → State → Type 0
IsSpare p i s = Spare (length (federate_at p i).vars) s.vars

spare_step : (p : Parts) (i : ℕ) (on : Trigger) (now value : ℕ) (s : State) → IsFederation p → i < length p.federates → IsSpare p i s → IsSpare p i (state_after p i on now value s)
spare_step p i on now value s f lt h =
    let fed = federate_at p i in
    spare_rules (length p.groups) (length fed.vars) fed.lookahead (scene_of p i now value) on s fed.rules
    (recursion_from_All (IsRule (length p.groups) (length fed.vars) fed.lookahead) fed.rules (f.federates.each i nobody lt).rules) h

spare_deliveries : (p : Parts) (i d : ℕ) (due : List Message) (s : State) → IsFederation p → i < length p.federates → IsSpare p i s → IsSpare p i (after_deliveries p i d s due)
spare_deliveries p i d [] s f lt h = h
spare_deliveries p i d (m ∷ ms) s f lt h = spare_deliveries p i d ms (state_after p i (Got m.group) d m.value s) f lt (spare_step p i (Got m.group) d m.value s f lt h)

spare_grant : (p : Parts) (w : World) (g : ℕ × ℕ) → IsFederation p → g.1 < length p.federates → IsSpare p g.1 (seat_at w g.1).state → IsSpare p g.1 (seat_after_pair p w g).state
spare_grant p w g f lt h =
    let due = due_messages p g.1 g.0 (seat_at w g.1).got w.messages in
    spare_step p g.1 Grant g.0 0 (after_deliveries p g.1 g.0 (seat_at w g.1).state due) f lt (spare_deliveries p g.1 g.0 due (seat_at w g.1).state f lt h)

abbrev pub zeros_of : ℕ → List ℕ
zeros_of n = replicate n 0

pub zeros : (n k : ℕ) → get_or (zeros_of n) k 0 ≡ 0
zeros zero k = refl
zeros (suc n) zero = refl
zeros (suc n) (suc k) = zeros n k

spare_opening : (vars : List Var) (n : ℕ) → Spare (length vars) (map (λ (v : Var). v.value) vars ++ replicate n 0)
spare_opening [] n k le = zeros n k
spare_opening (v ∷ vs) n zero le = absurd (omega arith)
spare_opening (v ∷ vs) n (suc k) le = spare_opening vs n k (omega arith)

-- the federate of a message is regulating
abbrev pub Regulated : Parts → Message → Type 0
Regulated p m = IsSome (federate_at p m.sender).lookahead

still_deliveries : (p : Parts) (i d : ℕ) (due : List Message) (s : State) → IsFederation p → i < length p.federates → (federate_at p i).lookahead ≡ None → (after_deliveries p i d s due).sends ≡ s.sends
still_deliveries p i d [] s f lt none = refl
still_deliveries p i d (m ∷ ms) s f lt none = still_deliveries p i d ms (state_after p i (Got m.group) d m.value s) f lt none ∙ only_regulating_send p i (Got m.group) d m.value s f lt none

-- what is numbered is of one sender, which is regulating
all_regulated : (p : Parts) (i n : ℕ) (ms : List Message) → IsSome (federate_at p i).lookahead → AreNumbered i n ms → AllByRecursion (Regulated p) ms
all_regulated p i n [] some num = tt
all_regulated p i n (m ∷ ms) some num = ((let P : ℕ → Type 0 = λ s. IsSome (federate_at p s).lookahead in subst P (sym num.0) some), all_regulated p i (n + 1) ms some num.2)

-- what a federate gains is sent by one that is regulating
gained_regulated : (p : Parts) (i : ℕ) (a b : State) → Grows i a b → ((federate_at p i).lookahead ≡ None → b.sends ≡ a.sends) → AllByRecursion (Regulated p) (drop (length a.sends) b.sends)
gained_regulated p i a b g still = by_lookahead (federate_at p i).lookahead refl
  where
    by_lookahead : (o : Option ℕ) → (federate_at p i).lookahead ≡ o → AllByRecursion (Regulated p) (drop (length a.sends) b.sends)
    by_lookahead None e =
        let P : List Message → Type 0 = AllByRecursion (Regulated p) in
        subst P (sym (ap (drop (length a.sends)) (still e) ∙ drop-length a.sends)) tt
    by_lookahead (Some l) e =
        let P : List Message → Type 0 = AllByRecursion (Regulated p) in
        let S : Option ℕ → Type 0 = IsSome in
        let some : IsSome (federate_at p i).lookahead = subst S (sym e) refl in
        subst P (sym (gained i a b g)) (all_regulated p i a.next g.made some g.numbered)

-- how many messages the federates have sent
unfoldable pub total : List Seat → ℕ
total [] = 0
total (s ∷ ss) = length s.state.sends + total ss

total-set : (ss : List Seat) (i : ℕ) (s : Seat) → i < length ss → total (set ss i s) + length (get_or ss i nobody_seated).state.sends ≡ total ss + length s.state.sends
unfolding total
total-set [] i s lt = absurd (omega arith)
total-set (x ∷ xs) zero s lt = omega arith
total-set (x ∷ xs) (suc i) s lt = omega (arith, total-set xs i s (omega arith))

total_flat : (ss : List Seat) → length (flat_map (λ (s : Seat). s.state.sends) ss) ≡ total ss
unfolding total
total_flat [] = refl
total_flat (s ∷ ss) = length-append s.state.sends (flat_map (λ (s : Seat). s.state.sends) ss) ∙ ap (λ (n : ℕ). length s.state.sends + n) (total_flat ss)

-- what else holds of each world of the run
pub record Sound (p : Parts) (w : World) : Type 0 where
  pub spare : (k : ℕ) → k < length w.seats → IsSpare p k (seat_at w k).state
  pub regulated : AllByRecursion (Regulated p) w.messages
  pub count : length w.messages ≡ total w.seats

sound_granted : (p : Parts) (w : World) (g : ℕ × ℕ) → IsFederation p → g.1 < length w.seats → length w.seats ≡ length p.federates → Sound p w → Sound p (world_after_grant p w g)
sound_granted p w g f within count h =
    let lt : g.1 < length p.federates = omega arith in
    let old = seat_at w g.1 in
    let new = seat_after_pair p w g in
    let gr = grows_by_grant p w g in
    let due = due_messages p g.1 g.0 old.got w.messages in
    let made = drop (length old.state.sends) new.state.sends in
    let still : (federate_at p g.1).lookahead ≡ None → new.state.sends ≡ old.state.sends = λ none.
    only_regulating_send p g.1 Grant g.0 0 (after_deliveries p g.1 g.0 old.state due) f lt none ∙ still_deliveries p g.1 g.0 due old.state f lt none in
    let longer : length new.state.sends ≡ length old.state.sends + length made = ap length gr.sends ∙ length-append old.state.sends gr.made ∙ ap (λ (ms : List Message). length old.state.sends + length ms) (sym (gained g.1 old.state new.state gr)) in
    record {
      spare = λ k inside.
          let has : k < length w.seats = omega (arith, length-set w.seats g.1 new) in
          let P : ℕ → Seat → Type 0 = λ k s. IsSpare p k s.state in
          elim (cases_eq k g.1) [
            | inl e ↦ (let Q : ℕ → Type 0 = λ k. P k (get_or (set w.seats g.1 new) k nobody_seated) in
                let R : Seat → Type 0 = P g.1 in
                subst Q (sym e) (subst R (sym (get_or-set_same w.seats g.1 new nobody_seated within)) (spare_grant p w g f lt (h.spare g.1 within))))
            | inr ne ↦ (let R : Seat → Type 0 = P k in subst R (sym (get_or-set_other w.seats g.1 k new nobody_seated ne)) (h.spare k has))
          ];
      regulated = all-append (Regulated p) w.messages made h.regulated (gained_regulated p g.1 old.state new.state gr still);
      count = omega (arith, length-append w.messages made, h.count, total-set w.seats g.1 new within, longer);
    }

started_regulated : (p : Parts) (a n : ℕ) → IsFederation p → a + n ≤ length p.federates → AllByRecursion (Regulated p) (flat_map (λ (s : Seat). s.state.sends) (map (seat_at_start p) (range_with_len a n)))
started_regulated p a zero f le = tt
started_regulated p a (suc n) f le =
    let lt : a < length p.federates = omega arith in
    all-append (Regulated p) (seat_at_start p a).state.sends _
    (gained_regulated p a (opening_state (federate_at p a)) (seat_at_start p a).state (grows_by_start p a) (λ none. only_regulating_send p a Start 0 0 (opening_state (federate_at p a)) f lt none))
    (started_regulated p (a + 1) n f (omega arith))

sound_started : (p : Parts) → IsFederation p → Sound p (world_at_start p)
sound_started p f =
    let n = length p.federates in
    record {
      spare = λ k within.
          let lt : k < n = omega (arith, length-map-range_with_len (seat_at_start p) 0 n) in
          let R : Seat → Type 0 = λ s. IsSpare p k s.state in
          subst R (sym (get_or-map-range_with_len (seat_at_start p) 0 n k k nobody_seated lt (omega arith)))
          (spare_step p k Start 0 0 (opening_state (federate_at p k)) f lt (spare_opening (federate_at p k).vars (8 - length (federate_at p k).vars)));
      regulated = started_regulated p 0 n f (omega arith);
      count = total_flat (world_at_start p).seats;
    }

sound_once : (p : Parts) (last : ℕ × ℕ) (w : World) (o : Option (ℕ × ℕ)) → IsFederation p → Reached p last w → Sound p w → next_grant p w ≡ o → Sound p (world_after_pair p w o)
sound_once p last w None f r h e = h
sound_once p last w (Some g) f r h e = sound_granted p w g f (grants p last w g r e).within r.count h

sound_after : (p : Parts) (last : ℕ × ℕ) (w : World) (n : ℕ) → IsFederation p → Reached p last w → Sound p w → Sound p (after_grants p n w)
sound_after p last w zero f r h = h
sound_after p last w (suc n) f r h =
    let o = reached_once p last w (next_grant p w) f r refl in
    sound_after p o.0 (next_world p w) n f o.1 (sound_once p last w (next_grant p w) f r h refl)

pub sound : (p : Parts) (n : ℕ) → IsFederation p → Sound p (after_grants p n (world_at_start p))
sound p n f = sound_after p (0, 0) (world_at_start p) n f (started_reached p f) (sound_started p f)
