use Rattle.std.proofs.Common.{length, sym, ap, subst}
use Rattle.std.specs.List.{IsDistinct}
use Rattle.kit_calendar.specs.Rows.{lists, joined, AreWithin, AreApart}
use Rattle.kit_calendar.proofs.rows.Rows.none.Goals as goal

pub invariant_of-result-clause-within : goal.invariant_of-result-clause-within
invariant_of-result-clause-within c = subst (AreWithin (length c.new.result.items)) (sym c.new-2.ensures.items) tt

pub invariant_of-result-clause-apart : goal.invariant_of-result-clause-apart
unfolding IsDistinct
invariant_of-result-clause-apart c = subst AreApart (sym c.new-2.ensures.items) tt

pub invariant_of-result-clause-counted : goal.invariant_of-result-clause-counted
invariant_of-result-clause-counted c = sym (ap (λ rs. length (joined (lists c.new.result.items rs))) c.new-2.ensures.items)
