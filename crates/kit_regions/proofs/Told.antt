-- What is told of a simulation: who spends its numbers, what is needed, and the text.
use Rattle.std.proofs.Common.{◌≡◌, ℕ, zero, suc, inl, inr, ◌*◌, ◌&&◌, nat_eq, nat_lt, arith, refl, sym, ap, ◌∙◌, List, [], ◌∷◌, ◌++◌, length, map, fold, find, max, codes, decimal, count_by}
use Rattle.std.specs.List.{flat_map}
use Rattle.std.specs.Option.{option_map}
use Rattle.std.proofs.Math.Path.{fun_ext}
use Rattle.std.proofs.lemmas.Bool.{cases_lt}
use Rattle.std.proofs.lemmas.List.{get_or-map, get_or_past, length-map}
use Rattle.kit_base.specs.declared.message.Message.{Message}
use Rattle.kit_base.specs.declared.history.Line.{Line}
use Rattle.kit_base.specs.declared.history.Line.TheVariants.{Deliver, Grant}
use Rattle.kit_rules.specs.declared.table.Group.{Group}
use Rattle.kit_rules.specs.declared.table.Federate.{Federate}
use Rattle.kit_rules.specs.Parts.{no_group, group_at, federate_at}
use Rattle.kit_rules.specs.Need.{outstanding, worlds_from}
use Rattle.kit_rules.specs.Simulation.{World, seat_at, world_at_start, is_spent, lines_of, closing_vars}
use Rattle.kit_rules.specs.Text.{value_text, line_text, closing_text, closings_text, history_text}
use Rattle.kit_regions.specs.declared.region.Update.{Update}
use Rattle.kit_regions.specs.Plan.{Plan, no_update, update_at, planned_federate_at}
use Rattle.kit_regions.specs.Limits.{IsPlan}
use Rattle.kit_regions.specs.Lowered.{federation_of, lowered_group, lowered_federate}
use Rattle.kit_regions.specs.Regional.{regional_next_world, regional_world_at_start, regional_simulation}
use Rattle.kit_regions.specs.Needs.{regional_outstanding, regional_worlds_from}
use Rattle.kit_regions.specs.Text.{regional_line}
use Rattle.kit_regions.specs.Laws.{SameSpender, SameNeeds, SameText}
use Rattle.kit_regions.proofs.Receivers.{transported_same}
use Rattle.kit_regions.proofs.Steps.{federate_same}
use Rattle.kit_regions.proofs.Same.{next_world_same, start_world_same, count_same, same_simulation_law}

pub same_spender_law : SameSpender
same_spender_law plan f = ap (λ (w : World). option_map (λ (m : Message). m.sender) (find is_spent w.messages)) (same_simulation_law plan f)

outstanding_same : (plan : Plan) → IsPlan plan → (i : ℕ) (w : World) → outstanding (federation_of plan) i w ≡ regional_outstanding plan i w
outstanding_same plan f i w = ap (λ t. count_by (λ m. nat_eq m.sender i && t m && nat_lt (seat_at w i).now m.time) w.messages) (fun_ext (transported_same plan f))

worlds_same : (plan : Plan) → IsPlan plan → (n : ℕ) (w : World) → worlds_from (federation_of plan) n w ≡ regional_worlds_from plan n w
worlds_same plan f zero w = refl
worlds_same plan f (suc n) w =
    ap (λ v. w ∷ worlds_from (federation_of plan) n v) (next_world_same plan f w)
    ∙ ap (λ ws. w ∷ ws) (worlds_same plan f n (regional_next_world plan w))

pub same_needs_law : SameNeeds
same_needs_law plan f i =
    let most : List World → ℕ = λ ws. fold max 0 (map (regional_outstanding plan i) ws) in
    ap (λ t. fold max 0 (map t (worlds_from (federation_of plan) (length (federation_of plan).federates * plan.end) (world_at_start (federation_of plan))))) (fun_ext (outstanding_same plan f i))
    ∙ ap (λ n. most (worlds_from (federation_of plan) (n * plan.end) (world_at_start (federation_of plan)))) (count_same plan)
    ∙ ap (λ w. most (worlds_from (federation_of plan) (length plan.federates * plan.end) w)) (start_world_same plan)
    ∙ ap most (worlds_same plan f (length plan.federates * plan.end) (regional_world_at_start plan))

-- a group's name is its update's
group_name : (plan : Plan) (u : ℕ) → (group_at (federation_of plan) u).name ≡ (update_at plan u).name
group_name plan u =
    let up = lowered_group plan.subscriptions in
    let name : Group → List ℕ = λ g. g.name in
    elim (cases_lt u (length plan.updates)) [
      | inl lt ↦ ap name (get_or-map up plan.updates u no_update no_group lt)
      | inr ge ↦ ap name (get_or_past (map up plan.updates) u no_group (let e : length (map up plan.updates) ≡ length plan.updates = length-map plan.updates up in omega arith))
          ∙ sym (ap (λ (u : Update). u.name) (get_or_past plan.updates u no_update ge))
    ]

federate_name : (plan : Plan) (i : ℕ) → (federate_at (federation_of plan) i).name ≡ (planned_federate_at plan i).name
federate_name plan i = ap (λ (f : Federate). f.name) (federate_same plan i)

line_same : (plan : Plan) (l : Line) → line_text (federation_of plan) l ≡ regional_line plan l
line_same plan (Deliver d i m) =
    ap (λ n. decimal d ++ codes " " ++ n ++ codes " got " ++ ((group_at (federation_of plan) m.group).name ++ codes " " ++ (federate_at (federation_of plan) m.sender).name ++ codes "#" ++ decimal m.number) ++ value_text m) (federate_name plan i)
    ∙ ap (λ n. decimal d ++ codes " " ++ (planned_federate_at plan i).name ++ codes " got " ++ (n ++ codes " " ++ (federate_at (federation_of plan) m.sender).name ++ codes "#" ++ decimal m.number) ++ value_text m) (group_name plan m.group)
    ∙ ap (λ n. decimal d ++ codes " " ++ (planned_federate_at plan i).name ++ codes " got " ++ ((update_at plan m.group).name ++ codes " " ++ n ++ codes "#" ++ decimal m.number) ++ value_text m) (federate_name plan m.sender)
line_same plan (Grant t i) = ap (λ n. decimal t ++ codes " " ++ n ++ codes " grant\n") (federate_name plan i)

closings_same : (updates : List Update) (fs : List Federate) (vars : List (List ℕ)) → closings_text (map (lowered_federate updates) fs) vars ≡ closings_text fs vars
closings_same updates [] vars = refl
closings_same updates (f ∷ fs) [] = refl
closings_same updates (f ∷ fs) (v ∷ vs) = ap (λ xs. closing_text f v ++ xs) (closings_same updates fs vs)

pub same_text_law : SameText
same_text_law plan f =
    ap (λ (w : World). history_text (federation_of plan) (lines_of w.blocks) (closing_vars w)) (same_simulation_law plan f)
    ∙ ap (λ t. flat_map t (lines_of (regional_simulation plan).blocks) ++ closings_text (federation_of plan).federates (closing_vars (regional_simulation plan))) (fun_ext (line_same plan))
    ∙ ap (λ xs. flat_map (regional_line plan) (lines_of (regional_simulation plan).blocks) ++ xs) (closings_same plan.updates plan.federates (closing_vars (regional_simulation plan)))
