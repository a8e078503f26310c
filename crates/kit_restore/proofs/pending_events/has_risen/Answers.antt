-- the last comes after all others
use Rattle.std.proofs.Common.{◌≡◌, ◌≤◌, ◌-◌, length, get_or, sym, ap, ◌∙◌}
use Rattle.std.proofs.lemmas.Bool.{ltb-true}
use Rattle.kit_base.specs.declared.message.Message.{Message}
use Rattle.kit_base.specs.Order.{is_before}
use Rattle.kit_restore.specs.CutWalk.{message_in}
use Rattle.kit_restore.proofs.PendingSteps.{after_the_last}
use Rattle.kit_restore.proofs.pending_events.has_risen.Goals as goal

pub returns-in-Some : goal.returns-in-Some
returns-in-Some c =
    let xs = c.args.done.now in
    let m = message_in c.args.row.now in
    let z = c.in-Some.last.now in
    let here : z ≡ get_or xs (length xs - 1) z = c.in-Some.ensures.item.1 in
    let some : 1 ≤ length xs = ltb-true 0 (length xs) (sym c.in-Some.ensures.item.0) in
    c.comes_before.ensures ∙ ap (λ (b : Message). is_before b m) here ∙ sym (after_the_last xs z m c.requires.rise some)
