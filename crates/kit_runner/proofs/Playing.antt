-- A turn of a player, with the step that sets the stop word after a bad end: it is a player of the run again.
use Rattle.std.proofs.Common.{◌≡◌, true, false, Option, Some, None, sym, ap, ◌∙◌, subst}
use Rattle.kit_ground.specs.declared.place.Place.{Place}
use Rattle.kit_deal.specs.Dealings.{is_last_turn}
use Rattle.kit_floor.specs.FloorViews.{CanStand}
use Rattle.kit_lbts.specs.declared.view.LbtsView.{LbtsView}
use Rattle.kit_node.specs.declared.ends.NodeEnd.{NodeEnd}
use Rattle.kit_node.specs.declared.ends.NodeEnd.TheVariants as node_end
use Rattle.kit_node.specs.declared.ends.Turn.{Turn}
use Rattle.kit_node.specs.declared.ends.Turn.TheVariants as turn
use Rattle.kit_node.specs.Frames.{last_stop}
use Rattle.kit_node.specs.Nodes.{end_in}
use Rattle.kit_node.specs.Seats.{IsSeatOf}
use Rattle.kit_node.specs.Turns.{HasTurned, TurnIs}
use Rattle.kit_replay.specs.Stages.{QueueNode, shown}
use Rattle.kit_runner.specs.declared.hall.Player.{Player}
use Rattle.kit_runner.specs.Ends.{activity_by, is_bad_answer}
use Rattle.kit_runner.specs.Halls.{HasPlayed, IsPlayerOf, RunName, node_in, place_on_floor, place_then}
use Rattle.kit_runner.proofs.StopSteps.{seat_stays, stopped_place}

abbrev P : Type 0
P = Place LbtsView

none_some : {X : Type 0} {x : X} → Some x ≡ None → ⊥
none_some e = cc

module _ (run : RunName) (x y : Player) (was : IsPlayerOf run x) (q : P)
    (stands : CanStand run.floor y.seat) (number : y.seat.number ≡ x.seat.number) (seat : IsSeatOf shown run.federation (node_in y) q) where
  abbrev n : QueueNode
  n = node_in x

  abbrev n' : QueueNode
  n' = node_in y

  module _ (answer : Turn) (turned : HasTurned answer n n' (place_on_floor run.floor x) q) where
    -- the answer is no bad end
    well : place_on_floor run.floor y ≡ q → (y.has_ended ≡ false → end_in n' ≡ None) → (y.has_ended ≡ true → end_in n' ≡ None → (last_stop q).gave ≡ true) → IsPlayerOf run y
    well place goes_on stopped = record {
      stands = stands;
      number = turned.me ∙ (was.number ∙ sym number);
      seat = subst (IsSeatOf shown run.federation n') (sym place) seat;
      limit = turned.limit ∙ was.limit;
      goes_on = goes_on;
      stopped = λ e f. subst (λ (p : P). (last_stop p).gave ≡ true) (sym place) (stopped e f);
    }

    -- it is this bad end, and the stop word was set
    badly : (end : NodeEnd) → n'.ended ≡ Some end → (end ≡ node_end.Finished → ⊥) → place_on_floor run.floor y ≡ stopped_place q → y.has_ended ≡ true → IsPlayerOf run y
    badly end is other place ended = record {
      stands = stands;
      number = turned.me ∙ (was.number ∙ sym number);
      seat = subst (IsSeatOf shown run.federation n') (sym place) (seat_stays n' q shown run.federation end is other seat);
      limit = turned.limit ∙ was.limit;
      goes_on = λ e. absurd (false_true (sym e ∙ ended));
      stopped = λ e f. absurd (none_some (sym is ∙ f));
    }
      where
        false_true : false ≡ true → ⊥
        false_true e = cc

  true_false : true ≡ false → ⊥
  true_false e = cc

  by_answer : (answer : Turn) → HasTurned answer n n' (place_on_floor run.floor x) q → place_on_floor run.floor y ≡ place_then (is_bad_answer answer) q
      → y.has_ended ≡ is_last_turn (activity_by answer) → IsPlayerOf run y
  by_answer turn.Worked t place ended = well turn.Worked t place (λ _. t.ended) (λ e _. absurd (true_false (sym e ∙ ended)))
  by_answer turn.Idle t place ended = well turn.Idle t place (λ _. t.ended) (λ e _. absurd (true_false (sym e ∙ ended)))
  by_answer turn.Stopped t place ended = well turn.Stopped t place (λ _. t.ended) (λ _ _. ap (λ (p : P). (last_stop p).gave) t.cause.place)
  by_answer turn.Finished t place ended = well turn.Finished t place (λ e. absurd (true_false (sym ended ∙ e))) (λ _ e. absurd (none_some (sym t.ended ∙ e)))
  by_answer (turn.NoBuffer number) t place ended = badly (turn.NoBuffer number) t (node_end.NoBuffer number) t.ended (λ e. cc) place ended
  by_answer turn.SendsSpent t place ended = badly turn.SendsSpent t node_end.SendsSpent t.ended (λ e. cc) place ended
  by_answer turn.RoundsSpent t place ended = badly turn.RoundsSpent t node_end.RoundsSpent t.ended (λ e. cc) place ended
  by_answer turn.NoMemory t place ended = badly turn.NoMemory t node_end.NoMemory t.ended (λ e. cc) place ended

  -- a turn of a player that had not ended
  plays_on : (answer : Turn) → x.has_ended ≡ false → TurnIs n.ended answer n n' (place_on_floor run.floor x) q
      → place_on_floor run.floor y ≡ place_then (is_bad_answer answer) q → y.has_ended ≡ is_last_turn (activity_by answer) → IsPlayerOf run y
  plays_on answer fresh t place ended =
      by_answer answer (subst (λ (o : Option NodeEnd). TurnIs o answer n n' (place_on_floor run.floor x) q) (was.goes_on fresh) t) place ended

-- the same, by what a turn comes to
pub plays : (run : RunName) (x y : Player) → IsPlayerOf run x → x.has_ended ≡ false → CanStand run.floor y.seat → y.seat.number ≡ x.seat.number → (answer : Turn)
    → HasPlayed run.federation answer (node_in x) (node_in y) (place_on_floor run.floor x) (place_on_floor run.floor y) → y.has_ended ≡ is_last_turn (activity_by answer) → IsPlayerOf run y
plays run x y was fresh stands number answer played ended =
    plays_on run x y was played.after_turn stands number played.seat answer fresh played.turn played.place ended
