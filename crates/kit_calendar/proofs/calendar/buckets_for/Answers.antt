use Rattle.std.proofs.Common.{◌≡◌, ◌*◌, ◌<◌, ◌≤◌, sym, ap, ◌∙◌, arith}
use Rattle.kit_calendar.specs.Buckets.{doubled}
use Rattle.kit_calendar.proofs.Shapes.{doubles, stays}
use Rattle.kit_calendar.proofs.calendar.buckets_for.Goals as goal

pub loop-doubled-preserved : goal.loop-doubled-preserved
loop-doubled-preserved c =
    let b = c.loop-doubled.doubled in
    let more : 2 * b < c.args.room = omega arith in
    let twice : b * 2 ≡ 2 * b = omega arith in
    record {
      some = omega arith;
      grown = omega arith;
      same = ap (doubled c.args.room c.args.room) twice ∙ doubles c.args.room b c.loop-doubled.invariant.some more ∙ c.loop-doubled.invariant.same;
    }

pub returns-clause-value : goal.returns-clause-value
returns-clause-value c =
    let enough : c.args.room ≤ 2 * c.loop-doubled.doubled = omega arith in
    sym (stays c.args.room c.loop-doubled.doubled enough) ∙ c.loop-doubled.invariant.same
