use Rattle.std.proofs.Common.{◌≡◌, ◌⊎◌, IfSome, drop}
use Rattle.kit_top.specs.declared.worker_command.WorkerCommand.{WorkerCommand}
use Rattle.kit_top.specs.declared.status.Status.TheVariants.{Done, WriteFault}
use Rattle.kit_top.specs.Headline.{AreComplete, FillsOnlyUnread, IsAccounted, IsAnsweredBy, IsBadInput, IsLeftByLock, IsOfRun, IsThere, NothingCameLate}
use Rattle.kit_top.specs.WorkerCommands.{ReadsInput, workers_of}
use Rattle.kit_top.specs.WorkerRuns.{EndsByWorkers}
use Rattle.kit_top.proofs.Headlines.{accounted, answered, complete, for_each, left_floor, none_left, on_time, there, there_or_bad, unread}
use Rattle.kit_top.proofs.Telling.{no_account}
use Rattle.kit_top.proofs.top.rtik.Goals as goal

pub returns-in-Some-clause-on_time : goal.returns-in-Some-clause-on_time
returns-in-Some-clause-on_time g c = on_time g.S.Source _ _ c.in-Some.command _ _ c.answer_by_workers.result c.answer_by_workers.ensures.ended

pub returns-in-Some-clause-unread : goal.returns-in-Some-clause-unread
returns-in-Some-clause-unread g c = unread g.S.Source _ _ c.in-Some.command _ _ c.answer_by_workers.result c.answer_by_workers.ensures.ended

pub returns-in-Some-clause-account : goal.returns-in-Some-clause-account
returns-in-Some-clause-account g c = accounted g.S.Source _ _ c.in-Some.command _ _ c.answer_by_workers.result c.args.words.now c.in-Some.ensures.some c.answer_by_workers.ensures.ended

pub returns-in-Some-clause-done : goal.returns-in-Some-clause-done
returns-in-Some-clause-done g c =
    let ended = c.answer_by_workers.result in
    let P : WorkerCommand → Type 0 = λ command. ended.status ≡ Done → IsAnsweredBy g.S.Source command c.args.source.now c.answer_by_workers.new.source (g.K.Sink.holds c.args.sink.now) (g.K.Sink.holds c.answer_by_workers.new.sink) in
    for_each c.args.words.now P c.in-Some.command c.in-Some.ensures.some (answered g.S.Source c.in-Some.command _ _ _ _ ended c.answer_by_workers.ensures.ended)

pub returns-in-Some-clause-complete : goal.returns-in-Some-clause-complete
returns-in-Some-clause-complete g c =
    let ended = c.answer_by_workers.result in
    let P : WorkerCommand → Type 0 = λ command. ended.status ≡ Done → AreComplete command ended.floor ended.account in
    for_each c.args.words.now P c.in-Some.command c.in-Some.ensures.some (complete g.S.Source c.in-Some.command _ _ _ _ ended c.answer_by_workers.ensures.ended)

pub returns-in-Some-clause-floor : goal.returns-in-Some-clause-floor
returns-in-Some-clause-floor g c =
    let ended = c.answer_by_workers.result in
    let P : WorkerCommand → Type 0 = λ command. IfSome ended.floor (IsLeftByLock g.S.Source command c.args.source.now c.answer_by_workers.new.source ended.nodes.items) in
    for_each c.args.words.now P c.in-Some.command c.in-Some.ensures.some (left_floor g.S.Source _ _ c.in-Some.command _ _ ended c.answer_by_workers.ensures.ended)

pub returns-in-Some-clause-there : goal.returns-in-Some-clause-there
returns-in-Some-clause-there g c =
    let ended = c.answer_by_workers.result in
    let P : WorkerCommand → Type 0 = λ command. IsOfRun ended.status → IsThere command ended.floor ended.account in
    for_each c.args.words.now P c.in-Some.command c.in-Some.ensures.some (there g.S.Source c.in-Some.command _ _ _ _ ended c.answer_by_workers.ensures.ended)

pub returns-in-Some-clause-unwritten : goal.returns-in-Some-clause-unwritten
returns-in-Some-clause-unwritten g c =
    let ended = c.answer_by_workers.result in
    let P : WorkerCommand → Type 0 = λ command. ended.status ≡ WriteFault → IsThere command ended.floor ended.account ⊎ IsBadInput g.S.Source command c.args.source.now c.answer_by_workers.new.source in
    for_each c.args.words.now P c.in-Some.command c.in-Some.ensures.some (there_or_bad g.S.Source c.in-Some.command _ _ _ _ ended c.answer_by_workers.ensures.ended)

pub returns-in-Some-clause-ended : goal.returns-in-Some-clause-ended
returns-in-Some-clause-ended g c =
    let P : WorkerCommand → Type 0 = λ command. EndsByWorkers g.S.Source command c.args.source.now c.answer_by_workers.new.source (g.K.Sink.holds c.args.sink.now) (g.K.Sink.holds c.answer_by_workers.new.sink) c.answer_by_workers.result in
    for_each c.args.words.now P c.in-Some.command c.in-Some.ensures.some c.answer_by_workers.ensures.ended

pub returns-in-Some-clause-not_read : goal.returns-in-Some-clause-not_read
returns-in-Some-clause-not_read g c =
    let P : WorkerCommand → Type 0 = λ command. (ReadsInput command → ⊥) → c.answer_by_workers.new.source ≡ c.args.source.now in
    for_each c.args.words.now P c.in-Some.command c.in-Some.ensures.some c.answer_by_workers.ensures.unread

pub returns-in-Some-clause-idle : goal.returns-in-Some-clause-idle
returns-in-Some-clause-idle g c =
    let P : WorkerCommand → Type 0 = λ command. drop (workers_of command) c.answer_by_workers.new.gates ≡ drop (workers_of command) c.args.gates.now in
    for_each c.args.words.now P c.in-Some.command c.in-Some.ensures.some c.answer_by_workers.ensures.idle

pub returns-in-Some-clause-plain : goal.returns-in-Some-clause-plain
returns-in-Some-clause-plain g c none = absurd (none c.in-Some.command c.in-Some.ensures.some)

pub returns-in-Some-clause-plain_done : goal.returns-in-Some-clause-plain_done
returns-in-Some-clause-plain_done g c none = absurd (none c.in-Some.command c.in-Some.ensures.some)

pub returns-in-Some-clause-plain_unread : goal.returns-in-Some-clause-plain_unread
returns-in-Some-clause-plain_unread g c none = absurd (none c.in-Some.command c.in-Some.ensures.some)

pub returns-in-Some-clause-plain_gates : goal.returns-in-Some-clause-plain_gates
returns-in-Some-clause-plain_gates g c none = absurd (none c.in-Some.command c.in-Some.ensures.some)

pub returns-in-None-clause-on_time : goal.returns-in-None-clause-on_time
returns-in-None-clause-on_time g c = none_left (λ a. NothingCameLate a.places) c.plain.result.account (no_account g.S.Source c.args.words.now _ _ _ _ c.plain.result c.plain.ensures.told)

pub returns-in-None-clause-unread : goal.returns-in-None-clause-unread
returns-in-None-clause-unread g c = none_left FillsOnlyUnread c.plain.result.account (no_account g.S.Source c.args.words.now _ _ _ _ c.plain.result c.plain.ensures.told)

pub returns-in-None-clause-account : goal.returns-in-None-clause-account
returns-in-None-clause-account g c =
    none_left (IsAccounted g.S.Source c.args.words.now c.args.source.now c.plain.new.source c.plain.result.nodes.items) c.plain.result.account (no_account g.S.Source c.args.words.now _ _ _ _ c.plain.result c.plain.ensures.told)

pub returns-in-None-clause-done : goal.returns-in-None-clause-done
returns-in-None-clause-done g c command word = absurd (c.in-None.ensures.none command word)

pub returns-in-None-clause-complete : goal.returns-in-None-clause-complete
returns-in-None-clause-complete g c command word = absurd (c.in-None.ensures.none command word)

pub returns-in-None-clause-floor : goal.returns-in-None-clause-floor
returns-in-None-clause-floor g c command word = absurd (c.in-None.ensures.none command word)

pub returns-in-None-clause-there : goal.returns-in-None-clause-there
returns-in-None-clause-there g c command word = absurd (c.in-None.ensures.none command word)

pub returns-in-None-clause-unwritten : goal.returns-in-None-clause-unwritten
returns-in-None-clause-unwritten g c command word = absurd (c.in-None.ensures.none command word)

pub returns-in-None-clause-ended : goal.returns-in-None-clause-ended
returns-in-None-clause-ended g c command word = absurd (c.in-None.ensures.none command word)

pub returns-in-None-clause-not_read : goal.returns-in-None-clause-not_read
returns-in-None-clause-not_read g c command word = absurd (c.in-None.ensures.none command word)

pub returns-in-None-clause-idle : goal.returns-in-None-clause-idle
returns-in-None-clause-idle g c command word = absurd (c.in-None.ensures.none command word)
