-- the last is the greatest
use Rattle.std.proofs.Common.{◌≡◌, ◌≤◌, ◌-◌, length, get_or, nat_lt, sym, ap, ◌∙◌}
use Rattle.std.proofs.lemmas.Bool.{ltb-true}
use Rattle.kit_rules.specs.declared.own.Own.{Own}
use Rattle.kit_restore.proofs.LastOnes.{risen_by_last}
use Rattle.kit_restore.proofs.own_events.has_risen.Goals as goal

pub returns-in-Some : goal.returns-in-Some
returns-in-Some c =
    let xs = c.args.done.now in
    let n = get_or c.args.row.now 0 0 in
    let z = c.in-Some.last.now in
    let here : z ≡ get_or xs (length xs - 1) z = c.in-Some.ensures.item.1 in
    let some : 1 ≤ length xs = ltb-true 0 (length xs) (sym c.in-Some.ensures.item.0) in
    ap (λ (o : Own). nat_lt o.number n) here ∙ sym (risen_by_last xs z n c.requires.rise some)
