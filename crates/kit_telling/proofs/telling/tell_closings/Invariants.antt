-- what is written, and the text of the rest, is the text of all
use Rattle.std.proofs.Common.{◌≡◌, ◌++◌, drop, map}
use Rattle.kit_rules.specs.Text.{closings_text}
use Rattle.kit_telling.specs.Tellings.{vars_reported}
use Rattle.kit_telling.proofs.telling.tell_closings.Given as goal

abbrev pub invariant-loop-at : goal.invariant-loop-at
invariant-loop-at l = l.text.items ++ closings_text (drop l.at l.federation.federates) (map vars_reported (drop l.at l.nodes)) ≡ l.fn.text.items ++ closings_text l.federation.federates (map vars_reported l.nodes)
