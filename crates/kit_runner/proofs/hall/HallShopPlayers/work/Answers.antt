use Rattle.std.proofs.Common.{◌≡◌, Option, sym, ap, ◌∙◌, subst}
use Rattle.std.specs.Box.{with_value}
use Rattle.kit_ground.specs.declared.place.Place.{Place}
use Rattle.kit_deal.specs.Dealings.{is_last_turn}
use Rattle.kit_floor.specs.FloorViews.{CanStand, place_of}
use Rattle.kit_lbts.specs.declared.view.LbtsView.{LbtsView}
use Rattle.kit_lbts.specs.Progress.{lbts_first}
use Rattle.kit_node.specs.declared.ends.Turn.{Turn}
use Rattle.kit_replay.specs.Stages.{QueueNode}
use Rattle.kit_rules.specs.Parts.{Parts}
use Rattle.kit_runner.specs.declared.hall.Player.{Player}
use Rattle.kit_runner.specs.Halls.{FitsRun, HasPlayed, IsPlayerOf, RunName, SharedFloor, node_in, place_on_floor, run_on}
use Rattle.kit_runner.proofs.Playing.{plays}
use Rattle.kit_runner.proofs.hall.HallShopPlayers.work.Goals as goal

abbrev P : Type 0
P = Place LbtsView

-- what a turn came to, by other names
played_by : (p : Parts) (answer : Turn) (n m n' : QueueNode) (q r q' r' : P) → n ≡ m → q ≡ r → q' ≡ r' → HasPlayed p answer n n' q q' → HasPlayed p answer m n' r r'
played_by p answer n m n' q r q' r' same before after played =
    subst (λ (x : QueueNode × P × P). HasPlayed p answer x.0 n' x.1 x.2) (λ t. (same t, before t, after t)) played

pub returns-clause-fits : goal.returns-clause-fits
returns-clause-fits g c =
    let hall = c.args.self.now in
    let run : RunName = run_on hall.floor.now hall.federation.now in
    let x : Player = c.args.item in
    let y : Player = record { node = with_value x.node c.give_turn-turn.new.node; seat = c.leave-seat.result; has_ended = c.is_last.result } in
    let before = c.new-standing.result.ground in
    let after = c.give_turn-turn.new.standing.ground in
    let came = c.give_turn-turn.ensures.came in
    let was : IsPlayerOf run x = subst (λ (o : Option RunName). FitsRun o x) hall.named c.requires.fits in
    let floor_before : before.floor.now ≡ run.floor = ap (λ f. f.floor.now) c.new-standing.ensures ∙ c.stand.ensures.floor in
    let seat_before : before.seat ≡ x.seat = ap (λ f. f.seat) c.new-standing.ensures ∙ c.stand.ensures.seat in
    let floor_after : after.floor.now ≡ run.floor = came.floor ∙ floor_before in
    let seat_after : after.seat ≡ y.seat = sym (c.leave-seat.ensures.seat ∙ ap (λ f. f.seat) c.leave.ensures) in
    let stands : CanStand run.floor y.seat = subst (λ (f : SharedFloor). CanStand f y.seat) (ap (λ f. f.floor.now) c.leave.ensures ∙ floor_after) c.leave-seat.ensures.stands in
    let played : HasPlayed run.federation c.give_turn-turn.result (node_in x) (node_in y) (place_on_floor run.floor x) (place_on_floor run.floor y) =
    played_by run.federation c.give_turn-turn.result _ (node_in x) (node_in y) _ _ _ _
    c.deref_mut.ensures.value (λ t. place_of lbts_first (floor_before t) (seat_before t)) (λ t. place_of lbts_first (floor_after t) (seat_after t)) c.give_turn-turn.ensures.played in
    subst (λ (o : Option RunName). FitsRun o y) (sym hall.named)
    (plays run x y was c.requires.goes_on stands (ap (λ s. s.number) (sym seat_after) ∙ (came.number ∙ ap (λ s. s.number) seat_before))
    c.give_turn-turn.result played (c.is_last.ensures ∙ ap is_last_turn c.activity_of-activity.ensures))
