use Rattle.std.proofs.Common.{append_assoc, ◌+◌, ◌-◌, take, drop, arith, ap, ◌∙◌}
use Rattle.std.proofs.lemmas.List.Edits.{drop-paste}
use Rattle.std.proofs.lemmas.List.{length-drop}
use Rattle.kit_calendar.proofs.Places.{taken_out, same_later}
use Rattle.kit_calendar.proofs.rows.remove_at.Goals as goal

pub returns-clause-row : goal.returns-clause-row
returns-clause-row c =
    let xs = c.args.places.now.items in
    let a = c.args.row.start in
    let p = a + c.args.at in
    let n = (a + c.args.row.len) - (p + 1) in
    ap (λ ys. take (c.args.row.len - 1) (drop a ys)) (c.copy_within.ensures.items ∙ append_assoc (take p xs) (take n (drop (p + 1) xs)) (drop (p + n) xs))
    ∙ taken_out xs (drop (p + n) xs) a c.args.at n p (p + 1) c.args.row.len (c.args.row.len - 1) (omega arith) (omega arith) (omega arith) (omega arith) (omega arith)

pub returns-clause-behind : goal.returns-clause-behind
returns-clause-behind c =
    let xs = c.args.places.now.items in
    let p = c.args.row.start + c.args.at in
    let n = (c.args.row.start + c.args.row.len) - (p + 1) in
    let b = c.args.row.start + c.args.row.room in
    ap (drop b) c.copy_within.ensures.items
    ∙ same_later _ xs (p + n) b (omega arith) (drop-paste xs p (drop (p + 1) xs) n (omega arith) (omega (arith, length-drop (p + 1) xs)))
