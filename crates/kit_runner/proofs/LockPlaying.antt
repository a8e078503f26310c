-- A turn of a member, with the step that sets the stop word after a bad end: it is a member again.
use Rattle.std.proofs.Common.{◌≡◌, ℕ, true, false, Option, Some, None, sym, ap, ◌∙◌, subst, arith}
use Rattle.kit_ground.specs.declared.place.Place.{Place}
use Rattle.kit_deal.specs.Dealings.{is_last_turn}
use Rattle.kit_rules.specs.Parts.{Parts}
use Rattle.kit_lbts.specs.declared.view.LbtsView.{LbtsView}
use Rattle.kit_node.specs.declared.ends.NodeEnd.{NodeEnd}
use Rattle.kit_node.specs.declared.ends.NodeEnd.TheVariants as node_end
use Rattle.kit_node.specs.declared.ends.Turn.{Turn}
use Rattle.kit_node.specs.declared.ends.Turn.TheVariants as turn
use Rattle.kit_node.specs.Frames.{last_stop}
use Rattle.kit_node.specs.Nodes.{end_in}
use Rattle.kit_node.specs.Seats.{IsSeatOf}
use Rattle.kit_node.specs.Turns.{HasTurned, TurnIs}
use Rattle.kit_replay.specs.Stages.{QueueNode, shown}
use Rattle.kit_runner.specs.declared.stage.Member.{Member}
use Rattle.kit_runner.specs.Ends.{activity_by, is_bad_answer}
use Rattle.kit_runner.specs.Halls.{HasPlayed, place_then}
use Rattle.kit_runner.specs.LockStages.{IsMemberAt}
use Rattle.kit_runner.proofs.StopSteps.{seat_stays, stopped_place}

abbrev P : Type 0
P = Place LbtsView

none_some : {X : Type 0} {x : X} → Some x ≡ None → ⊥
none_some e = cc

some_is : {a b : NodeEnd} → Some a ≡ Some b → a ≡ b
some_is e = cc

true_false : true ≡ false → ⊥
true_false e = cc

module _ (p : Parts) (i : ℕ) (x y : Member) (before q after : P) (was : IsMemberAt p i x before) (seat : IsSeatOf shown p y.node q) where
  abbrev n : QueueNode
  n = x.node

  abbrev n' : QueueNode
  n' = y.node

  module _ (answer : Turn) (turned : HasTurned answer n n' before q) where
    -- the answer is no bad end
    well : after ≡ q → (y.has_ended ≡ false → end_in n' ≡ None) → (y.has_ended ≡ true → end_in n' ≡ None → (last_stop q).gave ≡ true) → ((e : NodeEnd) → end_in n' ≡ Some e → e ≡ node_end.Finished)
        → IsMemberAt p i y after
    well place goes_on stopped good = record {
      number = turned.me ∙ was.number;
      seat = subst (IsSeatOf shown p n') (sym place) seat;
      limit = turned.limit ∙ was.limit;
      goes_on = goes_on;
      stopped = λ e f. subst (λ (u : P). (last_stop u).gave ≡ true) (sym place) (stopped e f);
      told = λ e is bad. absurd (bad (good e is));
    }

    -- it is this bad end, and the stop word was set
    badly : (end : NodeEnd) → n'.ended ≡ Some end → (end ≡ node_end.Finished → ⊥) → after ≡ stopped_place q → y.has_ended ≡ true → IsMemberAt p i y after
    badly end is other place ended = record {
      number = turned.me ∙ was.number;
      seat = subst (IsSeatOf shown p n') (sym place) (seat_stays n' q shown p end is other seat);
      limit = turned.limit ∙ was.limit;
      goes_on = λ e. absurd (true_false (sym ended ∙ e));
      stopped = λ e f. absurd (none_some (sym is ∙ f));
      told = λ _ _ _. let stops = ap (λ (u : P). u.own.stops) place in omega arith;
    }

  by_answer : (answer : Turn) → HasTurned answer n n' before q → after ≡ place_then (is_bad_answer answer) q
      → y.has_ended ≡ is_last_turn (activity_by answer) → IsMemberAt p i y after
  by_answer turn.Worked t place ended = well turn.Worked t place (λ _. t.ended) (λ e _. absurd (true_false (sym e ∙ ended))) (λ e is. absurd (none_some (sym is ∙ t.ended)))
  by_answer turn.Idle t place ended = well turn.Idle t place (λ _. t.ended) (λ e _. absurd (true_false (sym e ∙ ended))) (λ e is. absurd (none_some (sym is ∙ t.ended)))
  by_answer turn.Stopped t place ended = well turn.Stopped t place (λ _. t.ended) (λ _ _. ap (λ (u : P). (last_stop u).gave) t.cause.place) (λ e is. absurd (none_some (sym is ∙ t.ended)))
  by_answer turn.Finished t place ended = well turn.Finished t place (λ e. absurd (true_false (sym ended ∙ e))) (λ _ e. absurd (none_some (sym t.ended ∙ e))) (λ e is. some_is (sym is ∙ t.ended))
  by_answer (turn.NoBuffer number) t place ended = badly (turn.NoBuffer number) t (node_end.NoBuffer number) t.ended (λ e. cc) place ended
  by_answer turn.SendsSpent t place ended = badly turn.SendsSpent t node_end.SendsSpent t.ended (λ e. cc) place ended
  by_answer turn.RoundsSpent t place ended = badly turn.RoundsSpent t node_end.RoundsSpent t.ended (λ e. cc) place ended
  by_answer turn.NoMemory t place ended = badly turn.NoMemory t node_end.NoMemory t.ended (λ e. cc) place ended

-- a turn of a member that had not ended
pub plays : (p : Parts) (i : ℕ) (x y : Member) (before after : P) → IsMemberAt p i x before → x.has_ended ≡ false → (answer : Turn)
    → HasPlayed p answer x.node y.node before after → y.has_ended ≡ is_last_turn (activity_by answer) → IsMemberAt p i y after
plays p i x y before after was fresh answer played ended =
    by_answer p i x y before played.after_turn after was played.seat answer
    (subst (λ (o : Option NodeEnd). TurnIs o answer x.node y.node before played.after_turn) (was.goes_on fresh) played.turn) played.place ended
