use Rattle.std.proofs.Common.{rules, ◌++◌, [], ◌∷◌, List, length, drop, ap, sym, ◌∙◌, append_assoc, arith}
use Rattle.kit_base.specs.declared.message.Message.{Message}
use Rattle.kit_queue.specs.declared.entry.Entry.{Entry}
use Rattle.kit_laws.proofs.Joins.{sent_in_a_row, kept_longer}
use Rattle.kit_node.specs.Granting.{front_due}
use Rattle.kit_node.proofs.Delivering.{front_first, numbers_grow}
use Rattle.std.proofs.Common.{ℕ, ◌≡◌, ◌<◌, ◌≤◌}
use Rattle.std.specs.Prelude.{Err}
use Rattle.kit_node.specs.declared.ends.NodeEnd.TheVariants.{SendsSpent}
use Rattle.kit_rules.specs.declared.scene.State.{State}
use Rattle.kit_rules.specs.Parts.{Parts}
use Rattle.kit_rules.specs.Simulation.{after_deliveries}
use Rattle.kit_node.proofs.grant.deliver_all.Goals as goal

pub loop-entry-preserved : goal.loop-entry-preserved
loop-entry-preserved g c =
    let a : List Message = c.loop-entry.course.state.sends in
    let b : List Message = c.deliver.new.course.state.sends in
    let e : Entry = c.in-Some.entry in
    let q : List Entry = g.Q.Order.entries c.loop-entry.queue in
    let rest : List Entry = g.Q.Order.entries c.pop_due.new.self in
    let done : List Message = c.loop-entry.delivered.items in
    let inv = c.loop-entry.invariant in
    let kept = c.in_ok-deliver.ensures.kept in
    let row = sent_in_a_row c.args.made.now.items a b (length c.args.course.now.state.sends) inv.3 kept in
    let longer = kept_longer a b kept in
    let first = front_first c.args.due e q rest c.in-Some.ensures.rest c.in-Some.ensures.first in (
      search rules,
      search rules,
      ap (λ xs. xs ++ front_due c.args.due rest) c.in_ok-deliver.ensures.delivered ∙ append_assoc done (e.message ∷ []) (front_due c.args.due rest) ∙ ap (λ xs. done ++ xs) (sym first) ∙ inv.2,
      omega (arith, inv.3, longer),
      c.in_ok-deliver.ensures.made ∙ ap (λ xs. xs ++ drop (length a) b) inv.4 ∙ row,
      search rules,
      search rules,
    )

pub returns-in_err-deliver-clause-spent : goal.returns-in_err-deliver-clause-spent
returns-in_err-deliver-clause-spent g c is =
    let f : Parts = c.args.federation.now in
    let me : ℕ = c.args.me in
    let d : ℕ = c.args.due in
    let s : State = c.loop-entry.course.state in
    let e : Entry = c.in-Some.entry in
    let q : List Entry = g.Q.Order.entries c.loop-entry.queue in
    let rest : List Entry = g.Q.Order.entries c.pop_due.new.self in
    let first = front_first d e q rest c.in-Some.ensures.rest c.in-Some.ensures.first in
    let end : c.deliver.result ≡ Err SendsSpent = search rules in
    let past : 16385 < (after_deliveries f me d s (e.message ∷ [])).next = c.deliver.ensures.spent end in
    let more : (after_deliveries f me d s (e.message ∷ [])).next ≤ (after_deliveries f me d s (e.message ∷ front_due d rest)).next = numbers_grow f me d (after_deliveries f me d s (e.message ∷ [])) (front_due d rest) in
    let same : (after_deliveries f me d s (front_due d q)).next ≡ (after_deliveries f me d s (e.message ∷ front_due d rest)).next = ap (λ (ms : List Message). (after_deliveries f me d s ms).next) first in
    let all = ap (λ (t : State). t.next) c.loop-entry.invariant.0 in
    omega (arith, past, more, same, all)
