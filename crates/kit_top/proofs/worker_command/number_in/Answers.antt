use Rattle.std.proofs.Common.{◌≡◌, ◌≤◌, ◌+◌, ◌-◌, ◌*◌, get_or, refl, sym, ◌∙◌, arith}
use Rattle.std.proofs.lemmas.Bool.{false≢true}
use Rattle.kit_top.proofs.Decimals.{IsWritten, read_on, reading_all, reading_grows, reading_stops, written_digits, written_is, written_leads, written_some, written_value}
use Rattle.kit_top.proofs.worker_command.number_in.Goals as goal

pub returns-then-not-may_be_decimal-clause-none : goal.returns-then-not-may_be_decimal-clause-none
returns-then-not-may_be_decimal-clause-none c n small is =
    let ds = c.args.digits.now in
    let w : IsWritten ds n = record { small = small; written = is } in
    c.may_be_decimal.ensures.no c.if-not-may_be_decimal.true (written_some ds n w) (written_leads ds n w)

pub returns-then-not-is_ascii_digit-clause-none : goal.returns-then-not-is_ascii_digit-clause-none
returns-then-not-is_ascii_digit-clause-none c n small is =
    let ds = c.args.digits.now in
    let w : IsWritten ds n = record { small = small; written = is } in
    let other = reading_stops ds c.loop-digit.digit-index c.loop-digit.number _ c.loop-digit-test.true refl (sym c.is_ascii_digit.ensures.value ∙ c.if-not-is_ascii_digit.true) c.loop-digit.invariant in
    false≢true (sym other ∙ written_digits ds n w)

pub returns-in_default-clause-none : goal.returns-in_default-clause-none
returns-in_default-clause-none c n small is =
    let ds = c.args.digits.now in
    let w : IsWritten ds n = record { small = small; written = is } in
    let grows : 10 * c.loop-digit.number + (get_or ds c.loop-digit.digit-index 0 - 48) ≤ read_on 0 ds = reading_grows ds c.loop-digit.digit-index c.loop-digit.number _ c.loop-digit-test.true refl c.loop-digit.invariant in
    let value : read_on 0 ds ≡ n = written_value ds n w in
    absurd (omega (arith, c.in_default.ensures.none))

pub returns-clause-some : goal.returns-clause-some
returns-clause-some c =
    let ds = c.args.digits.now in
    let all = reading_all ds c.loop-digit.digit-index c.loop-digit.number (omega arith) c.loop-digit.invariant in
    written_is ds c.loop-digit.number all.0 all.1 c.loop-digit.invariant.room (c.may_be_decimal.ensures.some c.if-not-may_be_decimal.false) (c.may_be_decimal.ensures.zero c.if-not-may_be_decimal.false)

pub returns-clause-room : goal.returns-clause-room
returns-clause-room c = c.loop-digit.invariant.room
