use Rattle.std.proofs.Common.{◌≡◌, map}
use Rattle.std.specs.List.{range_with_len}
use Rattle.kit_rules.specs.Own.{past_message}
use Rattle.kit_rules.proofs.own.past_sends.Given as goal

abbrev pub invariant-loop-place : goal.invariant-loop-place
invariant-loop-place l = l.sends.items ≡ map (past_message l.federate) (range_with_len 1 l.place)
