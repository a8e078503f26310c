-- those so far have words
use Rattle.std.proofs.Common.{take}
use Rattle.std.specs.List.{All}
use Rattle.std.specs.Prelude.{◌^◌, ◌<◌}
use Rattle.kit_save.proofs.widths.values_have_words.Given as goal

abbrev pub invariant-loop-value : goal.invariant-loop-value
invariant-loop-value l = All (λ n. n < 2 ^ 32) (take l.value-index l.values)
