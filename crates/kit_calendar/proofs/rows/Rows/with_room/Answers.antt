use Rattle.std.proofs.Common.{length, refl, sym, ap, ◌∙◌, subst}
use Rattle.kit_calendar.specs.Rows.{lists, joined, AreWithin, AreApart}
use Rattle.kit_calendar.proofs.Packed.{within_none, apart_none, lists_none, joined_none}
use Rattle.kit_calendar.proofs.rows.Rows.with_room.Goals as goal

pub invariant_of-result-clause-within : goal.invariant_of-result-clause-within
invariant_of-result-clause-within c = subst (AreWithin (length c.in_ok-with_capacity.field-0.items)) (sym c.in_ok-made.ensures) (within_none _ c.args.rows)

pub invariant_of-result-clause-apart : goal.invariant_of-result-clause-apart
invariant_of-result-clause-apart c = subst AreApart (sym c.in_ok-made.ensures) (apart_none c.args.rows)

pub invariant_of-result-clause-counted : goal.invariant_of-result-clause-counted
invariant_of-result-clause-counted c =
    let es = c.in_ok-with_capacity.field-0.items in
    sym (ap (λ rs. length (joined (lists es rs))) c.in_ok-made.ensures ∙ ap (λ ls. length (joined ls)) (lists_none es c.args.rows) ∙ ap length (joined_none c.args.rows))

pub returns : goal.returns
returns c =
    let es = c.in_ok-with_capacity.field-0.items in
    (ap (lists es) c.in_ok-made.ensures ∙ lists_none es c.args.rows, (refl, refl))
