use Rattle.std.proofs.Common.{rules, arith, ◌≤◌, length, decimal}
use Rattle.std.proofs.lemmas.Fmt.{length-decimal-le}
use Rattle.kit_report.proofs.history_text.put_number.Goals as goal

pub write_digits-requires : goal.write_digits-requires
write_digits-requires c =
    let short : length (decimal c.args.number) ≤ 20 = search (rules, length-decimal-le 20) in
    (omega (arith, short, c.requires.low), c.requires.high)

pub returns-clause-most : goal.returns-clause-most
returns-clause-most c =
    let short : length (decimal c.args.number) ≤ 20 = search (rules, length-decimal-le 20) in
    omega (arith, short, c.write_digits.ensures.start)
