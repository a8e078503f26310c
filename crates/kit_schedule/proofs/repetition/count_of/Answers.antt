use Rattle.std.proofs.Common.{◌≡◌, ◌<◌, refl, sym, ◌∙◌, arith}
use Rattle.std.proofs.lemmas.Bool.{false≢true}
use Rattle.kit_schedule.proofs.Counts.{count_digits, count_first, count_is, count_value, read_on, reading_all, reading_beyond, reading_stops, zero_first, zero_not_first}
use Rattle.kit_schedule.proofs.repetition.count_of.Goals as goal

pub returns-then-starts_with-clause-none : goal.returns-then-starts_with-clause-none
returns-then-starts_with-clause-none c count is =
    count_first c.args.digits.now count is (zero_first c.args.digits.now c.starts_with.result c.starts_with.ensures.value c.if-starts_with.true)

pub returns-then-not-is_ascii_digit-clause-none : goal.returns-then-not-is_ascii_digit-clause-none
returns-then-not-is_ascii_digit-clause-none c count is =
    let ds = c.args.digits.now in
    let other = reading_stops ds c.loop-digit.digit-index c.loop-digit.count _ c.loop-digit-test.true refl (sym c.is_ascii_digit.ensures.value ∙ c.if-not-is_ascii_digit.true) c.loop-digit.invariant in
    false≢true (sym other ∙ count_digits ds count is)

pub returns-then-count-gt-MOST_TIMES-clause-none : goal.returns-then-count-gt-MOST_TIMES-clause-none
returns-then-count-gt-MOST_TIMES-clause-none c count is =
    let ds = c.args.digits.now in
    let above : 1000000 < read_on 0 ds = reading_beyond ds c.loop-digit.digit-index c.loop-digit.count _ c.loop-digit-test.true refl (omega (arith, c.from.ensures)) c.loop-digit.invariant in
    let same : read_on 0 ds ≡ count = count_value ds count is in
    absurd (omega (arith, is.most))

pub returns-then-count-eq0-clause-none : goal.returns-then-count-eq0-clause-none
returns-then-count-eq0-clause-none c count is =
    let all = reading_all c.args.digits.now c.loop-digit.digit-index c.loop-digit.count (omega arith) c.loop-digit.invariant in
    let value : read_on 0 c.args.digits.now ≡ count = count_value c.args.digits.now count is in
    let same : read_on 0 c.args.digits.now ≡ c.loop-digit.count = all.1 in
    absurd (omega (arith, is.least))

pub returns-else-count-eq0-clause-some : goal.returns-else-count-eq0-clause-some
returns-else-count-eq0-clause-some c =
    let all = reading_all c.args.digits.now c.loop-digit.digit-index c.loop-digit.count (omega arith) c.loop-digit.invariant in
    count_is c.args.digits.now c.loop-digit.count all.0 all.1 (omega arith) (omega (arith, c.loop-digit.invariant.most))
    (zero_not_first c.args.digits.now c.starts_with.result c.starts_with.ensures.value c.if-starts_with.false)
