use Rattle.std.proofs.Common.{append_assoc, ◌+◌, ◌-◌, take, drop, set, ◌++◌, arith, ap, ◌∙◌}
use Rattle.std.proofs.lemmas.List.Edits.{drop-paste}
use Rattle.std.proofs.lemmas.List.{length-drop}
use Rattle.kit_calendar.proofs.Places.{set_last, put_in, same_later, set_before}
use Rattle.kit_calendar.proofs.rows.insert_at.Goals as goal

pub returns-clause-row : goal.returns-clause-row
returns-clause-row c =
    let xs = c.args.places.now.items in
    let a = c.args.row.start in
    let p = a + c.args.at in
    let n = (a + c.args.row.len) - p in
    let rest = drop (p + 1 + n) xs in
    ap (λ ys. take (c.args.row.len + 1) (drop a (set ys p c.args.entry))) (c.copy_within.ensures.items ∙ append_assoc (take (p + 1) xs) (take n (drop p xs)) rest)
    ∙ ap (λ ys. take (c.args.row.len + 1) (drop a ys)) (set_last xs (take n (drop p xs) ++ rest) p (p + 1) c.args.entry (omega arith) (omega arith))
    ∙ put_in xs rest a c.args.at n p c.args.row.len (c.args.row.len + 1) c.args.entry (omega arith) (omega arith) (omega arith) (omega arith)

pub returns-clause-behind : goal.returns-clause-behind
returns-clause-behind c =
    let xs = c.args.places.now.items in
    let p = c.args.row.start + c.args.at in
    let n = (c.args.row.start + c.args.row.len) - p in
    let b = c.args.row.start + c.args.row.room in
    set_before c.copy_within.new.self.items p b c.args.entry (omega arith)
    ∙ ap (drop b) c.copy_within.ensures.items
    ∙ same_later _ xs (p + 1 + n) b (omega arith) (drop-paste xs (p + 1) (drop p xs) n (omega arith) (omega (arith, length-drop p xs)))
