use Rattle.std.proofs.Common.{rules, [], List, length}
use Rattle.kit_base.specs.declared.message.Message.{Message}
use Rattle.kit_laws.proofs.Joins.{sent_in_a_row}
use Rattle.std.proofs.Common.{ℕ, ◌≡◌, ◌<◌, ◌≤◌, arith}
use Rattle.std.specs.Prelude.{Err}
use Rattle.kit_node.specs.declared.ends.NodeEnd.TheVariants.{SendsSpent}
use Rattle.kit_rules.specs.declared.table.Trigger.TheVariants.{Grant}
use Rattle.kit_rules.specs.Simulation.{after_deliveries}
use Rattle.kit_node.specs.Granting.{front_due}
use Rattle.kit_node.proofs.Delivering.{state_grows}
use Rattle.kit_node.proofs.node.Node.run_block.Goals as goal

pub returns-clause-run : goal.returns-clause-run
returns-clause-run g c =
    let none : List Message = [] in
    let row = sent_in_a_row none c.deliver_all.new.course.state.sends c.run.new.self.state.sends (length c.args.self.now.course.state.sends) c.in_ok-deliver_all.ensures.longer c.run.ensures.kept in
    search rules

pub returns-in_err-deliver_all-clause-spent : goal.returns-in_err-deliver_all-clause-spent
returns-in_err-deliver_all-clause-spent g c is =
    let n = c.args.self.now in
    let end : c.deliver_all.result ≡ Err SendsSpent = search rules in
    let past = c.deliver_all.ensures.spent end in
    let more = state_grows c.args.federation.now n.me Grant c.args.due 0 (after_deliveries c.args.federation.now n.me c.args.due n.course.state (front_due c.args.due (g.Q.Order.entries n.inbox.queue))) in
    omega (arith, past, more)
