use Rattle.std.proofs.Common.{None, refl}
use Rattle.kit_top.specs.declared.status.Status.TheVariants.{Usage}
use Rattle.kit_top.specs.Causes.{Causes, IsRun}
use Rattle.kit_top.proofs.Telling.{ends_empty, told_by}
use Rattle.kit_top.proofs.commands.answer.Goals as goal

pub returns-in-Ok-None-clause-told : goal.returns-in-Ok-None-clause-told
returns-in-Ok-None-clause-told g c =
    let words = c.args.words.now in
    let A = Causes g.S.Source words c.args.source.now c.args.source.now in
    let e = c.empty.ensures in
    ends_empty A (IsRun g.S.Source words c.args.source.now c.args.source.now) _ _ c.empty.result c.tell.result e.status e.nodes e.floor e.account
    (told_by (A None) Usage _ _ _ c.tell.result (rw c.in-Ok-None.field-0-is at c.in-Ok-None.ensures.none, refl, refl) c.tell.ensures.told)
