use Rattle.std.proofs.Common.{◌∙◌, get_or, sym}
use Rattle.kit_rules.specs.Step.{no_message}
use Rattle.kit_cut.proofs.BelowNext.{named_later}
use Rattle.kit_cut.proofs.Posting.{named_next, named_here}
use Rattle.kit_cut.proofs.postings.named_time.Goals as goal

pub loop-message-preserved : goal.loop-message-preserved
loop-message-preserved c =
    named_next c.args.retraction.now c.args.pending.now c.loop-message.message-index no_message c.loop-message-test.true (sym c.is_named.ensures ∙ c.if-is_named.false) ∙ c.loop-message.invariant

pub returns-then-is_named : goal.returns-then-is_named
returns-then-is_named c =
    named_here c.args.retraction.now c.args.pending.now c.loop-message.message-index no_message c.loop-message-test.true (sym c.is_named.ensures ∙ c.if-is_named.true) ∙ c.loop-message.invariant

pub returns-then-next-retraction : goal.returns-then-next-retraction
returns-then-next-retraction c = sym (named_later c.args.retraction.now c.args.next c.args.pending.now c.requires c.if-next-retraction.true)
