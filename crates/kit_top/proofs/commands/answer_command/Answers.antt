use Rattle.std.proofs.Common.{subst}
use Rattle.kit_top.specs.declared.command.Command.{Command}
use Rattle.kit_top.specs.Causes.{Causes, IsCommand, IsRun}
use Rattle.kit_top.proofs.Telling.{ends_empty}
use Rattle.kit_top.proofs.commands.answer_command.Goals as goal

pub returns-in-Regions-clause-told : goal.returns-in-Regions-clause-told
returns-in-Regions-clause-told g c words word =
    let old = c.args.source.now in
    let new = c.answer_regions.new.source in
    let e = c.empty.ensures in
    let P : Command → Type 0 = IsCommand words in
    ends_empty (Causes g.S.Source words old new) (IsRun g.S.Source words old new) _ _ c.empty.result c.answer_regions.result e.status e.nodes e.floor e.account (c.answer_regions.ensures.told words (subst P c.in-Regions.is word))

pub returns-in-Resume-clause-told : goal.returns-in-Resume-clause-told
returns-in-Resume-clause-told g c words word =
    let old = c.args.source.now in
    let new = c.answer_resume.new.source in
    let e = c.empty-in-Resume.ensures in
    let P : Command → Type 0 = IsCommand words in
    ends_empty (Causes g.S.Source words old new) (IsRun g.S.Source words old new) _ _ c.empty-in-Resume.result c.answer_resume.result e.status e.nodes e.floor e.account (c.answer_resume.ensures.told words (subst P c.in-Resume.is word))
