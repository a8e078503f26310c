use Rattle.std.proofs.Common.{◌≡◌, take, map, filter}
use Rattle.kit_rules.specs.Own.{is_untaken, own_of}
use Rattle.kit_rules.proofs.own.own_events.Given as goal

abbrev pub invariant-loop-message : goal.invariant-loop-message
invariant-loop-message l = l.own ≡ map own_of (filter (is_untaken l.sends) (take l.message-index l.sends))
