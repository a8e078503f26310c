use Rattle.std.proofs.Common.{◌≡◌, ◌≤◌, ◌++◌, length, drop}
use Rattle.kit_rules.specs.Simulation.{after_deliveries}
use Rattle.kit_node.specs.Granting.{behind_due, front_due}
use Rattle.kit_node.proofs.grant.deliver_all.Given as goal

-- what the rest does to what was done so far is what all do
abbrev pub invariant-loop-entry : goal.invariant-loop-entry
invariant-loop-entry g l =
    let before = g.Q.Order.entries l.initial.queue in
    let now = g.Q.Order.entries l.queue in
    (after_deliveries l.federation l.me l.due l.course.state (front_due l.due now) ≡ after_deliveries l.federation l.me l.due l.initial.course.state (front_due l.due before))
    × (behind_due l.due now ≡ behind_due l.due before)
    × (l.delivered.items ++ front_due l.due now ≡ front_due l.due before)
    × (length l.initial.course.state.sends ≤ length l.course.state.sends)
    × (l.made.items ≡ l.initial.made.items ++ drop (length l.initial.course.state.sends) l.course.state.sends)
    × (l.course.now ≡ l.initial.course.now)
    × (l.course.request ≡ l.initial.course.request)

abbrev pub decreases-loop-entry : goal.decreases-loop-entry
decreases-loop-entry g l = length (g.Q.Order.entries l.queue)
