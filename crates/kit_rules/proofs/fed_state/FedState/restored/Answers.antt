use Rattle.std.proofs.Common.{◌≡◌, ◌∙◌, length, ap, arith}
use Rattle.kit_rules.proofs.Restoring.{restored_is_kept}
use Rattle.kit_rules.proofs.fed_state.FedState.restored.Goals as goal

pub invariant_of-result : goal.invariant_of-result
invariant_of-result c =
    restored_is_kept c.args.federate c.args.next c.args.own.now c.from_vec-sends.result c.resize.new.self.items
    c.requires.low c.requires.high c.requires.numbers (c.from_vec-sends.ensures ∙ c.in_ok-sends.ensures)
    (let same : length c.from_vec-sends.result ≡ length c.in_ok-sends.sends.items = ap length c.from_vec-sends.ensures in
    omega (arith, c.in_ok-resize.ensures.len, c.len.ensures, same))
