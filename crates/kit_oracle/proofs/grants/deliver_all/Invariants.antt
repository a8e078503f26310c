-- what the rest do to what the deliveries so far did is what all do
use Rattle.std.proofs.Common.{◌≡◌, ◌≤◌, ◌++◌, length, map, drop}
use Rattle.kit_base.specs.declared.history.Line.TheVariants as line
use Rattle.kit_rules.specs.Simulation.{after_deliveries}
use Rattle.kit_oracle.specs.Pending.{front_until, rest_after}
use Rattle.kit_oracle.proofs.Observed.{Comes}
use Rattle.kit_oracle.proofs.grants.deliver_all.Given as goal

abbrev pub invariant-loop-message : goal.invariant-loop-message
invariant-loop-message g l = record {
  state : after_deliveries l.federation l.i l.d l.state (front_until l.d l.queue) ≡ after_deliveries l.federation l.i l.d l.initial.state (front_until l.d l.initial.queue);
  queue : rest_after l.d l.queue ≡ rest_after l.d l.initial.queue;
  more : length l.initial.state.sends ≤ length l.state.sends;
  made : l.made.items ≡ l.initial.made.items ++ drop (length l.initial.state.sends) l.state.sends;
  lines : Comes g.O.Observer.shows l.initial.observer l.observer (map (line.Deliver l.d l.i) (front_until l.d l.queue)) (map (line.Deliver l.d l.i) (front_until l.d l.initial.queue));
}

abbrev pub decreases-loop-message : goal.decreases-loop-message
decreases-loop-message g l = length l.queue
