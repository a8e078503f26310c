use Rattle.kit_rules.proofs.Fitness.{rules_can_run}
use Rattle.kit_rules.proofs.running.apply.Goals as goal

pub run-requires-clause-rules : goal.run-requires-clause-rules
run-requires-clause-rules c =
    rw (c.as_slice.ensures, c.federate-rules.ensures.value, c.effective_lookahead.ensures.value) (rules_can_run _ _ c.federate-rules.ensures.sound c.requires.federate)
