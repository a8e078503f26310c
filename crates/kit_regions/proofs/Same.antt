-- The simulation of the federation of a plan is that of the plan.
use Rattle.std.proofs.Common.{◌≡◌, ℕ, zero, suc, ◌+◌, ◌*◌, ◌<◌, Bool, true, false, ◌&&◌, not, nat_eq, nat_le, nat_lt, inl, inr, refl, sym, ap, ◌∙◌, cond, List, [], ◌∷◌, ◌++◌, length, map, filter, fold, drop, slice_set, Option, Some, None}
use Rattle.std.specs.List.{list_any, range_with_len, AllByRecursion, flat_map}
use Rattle.std.proofs.Math.Path.{fun_ext}
use Rattle.std.proofs.lemmas.Bool.{and_parts, and_right, cases_lt, true≢false}
use Rattle.std.proofs.lemmas.List.{length-map, get_or_past}
use Rattle.kit_base.specs.declared.message.Message.{Message}
use Rattle.kit_base.specs.Order.{put, in_order}
use Rattle.kit_rules.specs.declared.table.Trigger.TheVariants as trigger
use Rattle.kit_rules.specs.declared.scene.State.{State}
use Rattle.kit_rules.specs.Step.{is_event, state_after, opening_state}
use Rattle.kit_rules.specs.Delivery.{has_bit, receivers_of, retracts, is_same, is_pending, pending_messages, due_messages, due_time}
use Rattle.kit_rules.specs.Simulation.{Seat, World, block, request_at, least_pair, seat_at, seat_at_start, world_at_start, waiting_from, next_grant, after_deliveries, after_block, seat_after_grant, world_after_grant, world_after_pair, next_world, after_grants}
use Rattle.kit_base.proofs.Orders.{all_put}
use Rattle.kit_regions.specs.Plan.{Plan, no_update, planned_federate_at}
use Rattle.kit_regions.specs.Limits.{IsPlan}
use Rattle.kit_regions.specs.Overlap.{is_subscribed}
use Rattle.kit_regions.specs.Lowered.{lowered_federate, federation_of}
use Rattle.kit_regions.specs.Regional.{delivery_trigger, is_receiver, is_regionally_transported, is_regional_pending, regional_pending, is_regional_due, regional_due_messages, regional_state_after, regional_seat_at_start, regional_world_at_start, regional_waiting, regional_next_grant, regional_after_deliveries, regional_after_block, regional_seat_after_grant, regional_world_after_grant, regional_world_after_pair, regional_next_world, regional_after_grants}
use Rattle.kit_regions.specs.Laws.{SameSimulation}
use Rattle.kit_regions.proofs.Receivers.{none_reached, receivers_overlap_law, transported_same}
use Rattle.kit_regions.proofs.Steps.{own_same, got_same, opening_same}

pending_same : (plan : Plan) → IsPlan plan → (i : ℕ) (got sent : List Message) (m : Message) → is_pending (federation_of plan) i got sent m ≡ is_regional_pending plan i got sent m
pending_same plan f i got sent m =
    ap (λ b. is_event m.kind && b && has_bit (receivers_of (federation_of plan) m.sender m.group) i && not (list_any (is_same m) got) && not (list_any (retracts m) sent)) (transported_same plan f m)
    ∙ ap (λ b. is_event m.kind && is_regionally_transported plan m && b && not (list_any (is_same m) got) && not (list_any (retracts m) sent)) (receivers_overlap_law plan f m.sender m.group i)

all_pending_same : (plan : Plan) → IsPlan plan → (i : ℕ) (got sent : List Message) → pending_messages (federation_of plan) i got sent ≡ regional_pending plan i got sent
all_pending_same plan f i got sent = ap (λ t. filter t sent) (fun_ext (pending_same plan f i got sent))

due_same : (plan : Plan) → IsPlan plan → (i d : ℕ) (got sent : List Message) → due_messages (federation_of plan) i d got sent ≡ regional_due_messages plan i d got sent
due_same plan f i d got sent = ap (λ t. in_order (filter (λ m. nat_le m.time d && t m) sent)) (fun_ext (pending_same plan f i got sent))

-- what is due was sent with an update that is there
abbrev HasUpdate : Plan → Message → Type 0
HasUpdate plan m = m.group < length plan.updates

received_is_there : (plan : Plan) (m : Message) (j : ℕ) → is_receiver plan m j ≡ true → HasUpdate plan m
received_is_there plan m j e = elim (cases_lt m.group (length plan.updates)) [
  | inl lt ↦ lt
  | inr ge ↦ absurd (true≢false (sym e ∙ ap (λ u. not (nat_eq j m.sender) && is_subscribed plan.subscriptions u j) (get_or_past plan.updates m.group no_update ge)
      ∙ and_right (not (nat_eq j m.sender)) (is_subscribed plan.subscriptions no_update j) (none_reached plan.subscriptions j)))
]

due_is_there : (plan : Plan) (i d : ℕ) (got sent : List Message) (m : Message) → is_regional_due plan i d got sent m ≡ true → HasUpdate plan m
due_is_there plan i d got sent m e =
    let one = and_parts (nat_le m.time d) (is_regional_pending plan i got sent m) e in
    let two = and_parts (is_event m.kind && is_regionally_transported plan m && is_receiver plan m i && not (list_any (is_same m) got)) (not (list_any (retracts m) sent)) one.1 in
    let three = and_parts (is_event m.kind && is_regionally_transported plan m && is_receiver plan m i) (not (list_any (is_same m) got)) two.0 in
    let four = and_parts (is_event m.kind && is_regionally_transported plan m) (is_receiver plan m i) three.0 in
    received_is_there plan m i four.1

kept_pass : (P : Message → Type 0) (p : Message → Bool) (xs : List Message) → ((m : Message) → p m ≡ true → P m) → AllByRecursion P (filter p xs)
kept_pass P p [] h = tt
kept_pass P p (x ∷ xs) h = one (p x) refl (kept_pass P p xs h) where
  one : (b : Bool) → p x ≡ b → AllByRecursion P (filter p xs) → AllByRecursion P (cond b (x ∷ filter p xs) (filter p xs))
  one true e rest = (h x e, rest)
  one false e rest = rest

all_in_order : (P : Message → Type 0) (acc xs : List Message) → AllByRecursion P acc → AllByRecursion P xs → AllByRecursion P (fold (λ (sorted : List Message) (m : Message). put m sorted) acc xs)
all_in_order P acc [] a h = a
all_in_order P acc (x ∷ xs) a h = all_in_order P (put x acc) xs (all_put P x acc h.0 a) h.1

due_are_there : (plan : Plan) (i d : ℕ) (got sent : List Message) → AllByRecursion (HasUpdate plan) (regional_due_messages plan i d got sent)
due_are_there plan i d got sent =
    all_in_order (HasUpdate plan) [] (filter (is_regional_due plan i d got sent) sent) tt (kept_pass (HasUpdate plan) (is_regional_due plan i d got sent) sent (due_is_there plan i d got sent))

-- the rules of the deliveries, and of a grant
deliveries_same : (plan : Plan) (i d : ℕ) (s : State) (ms : List Message) → AllByRecursion (HasUpdate plan) ms → after_deliveries (federation_of plan) i d s ms ≡ regional_after_deliveries plan i d s ms
deliveries_same plan i d s [] h = refl
deliveries_same plan i d s (m ∷ ms) h =
    ap (λ x. after_deliveries (federation_of plan) i d x ms) (got_same plan i m.group d m.value s h.0)
    ∙ deliveries_same plan i d (regional_state_after plan i (delivery_trigger plan m) d m.value s) ms h.1

block_same : (plan : Plan) (i d : ℕ) (s : State) (ms : List Message) → AllByRecursion (HasUpdate plan) ms → after_block (federation_of plan) i d s ms ≡ regional_after_block plan i d s ms
block_same plan i d s ms h =
    ap (state_after (federation_of plan) i trigger.Grant d 0) (deliveries_same plan i d s ms h)
    ∙ own_same plan i trigger.Grant d 0 (regional_after_deliveries plan i d s ms) (λ k. refl)

-- a federate after a grant, of these deliveries and with this state
abbrev seated : Plan → ℕ → Seat → List Message → State → Seat
seated plan d s due after = record { now = d; request = cond (nat_lt d plan.end) (request_at after.wish d plan.end) s.request; state = after; got = s.got ++ due }

seat_same : (plan : Plan) → IsPlan plan → (i d : ℕ) (sent : List Message) (s : Seat) → seat_after_grant (federation_of plan) i d sent s ≡ regional_seat_after_grant plan i d sent s
seat_same plan f i d sent s =
    ap (λ due. seated plan d s due (after_block (federation_of plan) i d s.state due)) (due_same plan f i d s.got sent)
    ∙ ap (seated plan d s (regional_due_messages plan i d s.got sent)) (block_same plan i d s.state (regional_due_messages plan i d s.got sent) (due_are_there plan i d s.got sent))

-- a world after a grant, with this seat and these deliveries
abbrev with_grant : World → ℕ × ℕ → Seat → List Message → World
with_grant w g new due = record { seats = slice_set w.seats g.1 new; messages = w.messages ++ drop (length (seat_at w g.1).state.sends) new.state.sends; blocks = w.blocks ++ block g.1 g.0 due ∷ [] }

granted_same : (plan : Plan) → IsPlan plan → (w : World) (g : ℕ × ℕ) → world_after_grant (federation_of plan) w g ≡ regional_world_after_grant plan w g
granted_same plan f w g =
    ap (λ new. with_grant w g new (due_messages (federation_of plan) g.1 g.0 (seat_at w g.1).got w.messages)) (seat_same plan f g.1 g.0 w.messages (seat_at w g.1))
    ∙ ap (with_grant w g (regional_seat_after_grant plan g.1 g.0 w.messages (seat_at w g.1))) (due_same plan f g.1 g.0 (seat_at w g.1).got w.messages)

pair_same : (plan : Plan) → IsPlan plan → (w : World) (o : Option (ℕ × ℕ)) → world_after_pair (federation_of plan) w o ≡ regional_world_after_pair plan w o
pair_same plan f w None = refl
pair_same plan f w (Some g) = granted_same plan f w g

-- who is next
waiting_same : (plan : Plan) → IsPlan plan → (sent : List Message) (i : ℕ) (ss : List Seat) → waiting_from (federation_of plan) sent i ss ≡ regional_waiting plan sent i ss
waiting_same plan f sent i [] = refl
waiting_same plan f sent i (s ∷ ss) =
    ap (λ ms. cond (nat_lt s.now plan.end) ((due_time s.request ms, i) ∷ waiting_from (federation_of plan) sent (i + 1) ss) (waiting_from (federation_of plan) sent (i + 1) ss)) (all_pending_same plan f i s.got sent)
    ∙ ap (λ xs. cond (nat_lt s.now plan.end) ((due_time s.request (regional_pending plan i s.got sent), i) ∷ xs) xs) (waiting_same plan f sent (i + 1) ss)

next_same : (plan : Plan) → IsPlan plan → (w : World) → next_grant (federation_of plan) w ≡ regional_next_grant plan w
next_same plan f w = ap (least_pair None) (waiting_same plan f w.messages 0 w.seats)

pub next_world_same : (plan : Plan) → IsPlan plan → (w : World) → next_world (federation_of plan) w ≡ regional_next_world plan w
next_world_same plan f w = ap (world_after_pair (federation_of plan) w) (next_same plan f w) ∙ pair_same plan f w (regional_next_grant plan w)

after_same : (plan : Plan) → IsPlan plan → (n : ℕ) (w : World) → after_grants (federation_of plan) n w ≡ regional_after_grants plan n w
after_same plan f zero w = refl
after_same plan f (suc n) w = ap (after_grants (federation_of plan) n) (next_world_same plan f w) ∙ after_same plan f n (regional_next_world plan w)

-- the start
abbrev opened : Plan → State → Seat
opened plan s = record { now = 0; request = request_at s.wish 0 plan.end; state = s; got = [] }

start_same : (plan : Plan) (i : ℕ) → seat_at_start (federation_of plan) i ≡ regional_seat_at_start plan i
start_same plan i =
    ap (opened plan) (ap (state_after (federation_of plan) i trigger.Start 0 0) (opening_same plan i) ∙ own_same plan i trigger.Start 0 0 (opening_state (planned_federate_at plan i)) (λ k. refl))

abbrev opened_all : List Seat → World
opened_all seats = record { seats = seats; messages = flat_map (λ (s : Seat). s.state.sends) seats; blocks = [] }

pub count_same : (plan : Plan) → length (federation_of plan).federates ≡ length plan.federates
count_same plan = length-map plan.federates (lowered_federate plan.updates)

pub start_world_same : (plan : Plan) → world_at_start (federation_of plan) ≡ regional_world_at_start plan
start_world_same plan =
    ap (λ t. opened_all (map t (range_with_len 0 (length (federation_of plan).federates)))) (fun_ext (start_same plan))
    ∙ ap (λ n. opened_all (map (regional_seat_at_start plan) (range_with_len 0 n))) (count_same plan)

pub same_simulation_law : SameSimulation
same_simulation_law plan f =
    ap (λ n. after_grants (federation_of plan) (n * plan.end) (world_at_start (federation_of plan))) (count_same plan)
    ∙ ap (after_grants (federation_of plan) (length plan.federates * plan.end)) (start_world_same plan)
    ∙ after_same plan f (length plan.federates * plan.end) (regional_world_at_start plan)
