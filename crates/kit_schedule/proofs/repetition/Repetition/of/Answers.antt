use Rattle.std.proofs.Common.{◌+◌, subst, sym}
use Rattle.kit_schedule.specs.Schedules.{AreLetters}
use Rattle.kit_schedule.proofs.Words.{always_if_none, rest_whole, starred_is, weaker_if_none}
use Rattle.kit_schedule.proofs.repetition.Repetition.of.Goals as goal

pub returns-in_err-times-clause-none : goal.returns-in_err-times-clause-none
returns-in_err-times-clause-none c =
    let at = c.in-Some.ensures in
    always_if_none c.from_residual.result
    (λ times letters r. c.in_err-times.ensures.none times (starred_is c.args.word.now letters c.in-Some.star times at.within at.here at.first r).count)

pub returns-clause-none : goal.returns-clause-none
returns-clause-none c =
    let at = c.in-Some.ensures in
    weaker_if_none c.new-2.result
    (λ none times letters r. none (subst AreLetters (sym (rest_whole c.args.word.now (c.in-Some.star + 1))) (starred_is c.args.word.now letters c.in-Some.star times at.within at.here at.first r).letters_are))
    c.new-2.ensures.none
