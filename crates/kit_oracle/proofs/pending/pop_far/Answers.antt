use Rattle.kit_oracle.proofs.Keeping.{none_at_front}
use Rattle.kit_oracle.proofs.pending.pop_far.Goals as goal

pub returns-in_default-clause-none : goal.returns-in_default-clause-none
returns-in_default-clause-none c =
    none_at_front c.args.by c.args.far.now.entries c.in-Some.field-0-0.now c.in-Some.message.now c.in-Some.ensures.first c.if-message-by.false
