use Rattle.std.proofs.Common.{Option, sym, subst}
use Rattle.kit_rules.specs.Parts.{Parts}
use Rattle.kit_replay.specs.Replays.{LbtsFloor}
use Rattle.kit_runner.specs.declared.stage.Stage.{Stage}
use Rattle.kit_runner.specs.Locks.{IsLocked}
use Rattle.kit_runner.proofs.LockRuns.{few, is_lock_run, numbered}
use Rattle.kit_runner.proofs.lock.lock_named.Goals as goal

pub close-requires-clause-numbers : goal.close-requires-clause-numbers
close-requires-clause-numbers g c = numbered c.args.federation.now c.finish.new.self c.finish.ensures.stage

pub close-requires-clause-few : goal.close-requires-clause-few
close-requires-clause-few g c = few c.args.federation.now c.finish.new.self c.finish.ensures.stage

pub close-requires-clause-room : goal.close-requires-clause-room
close-requires-clause-room g c = c.finish.ensures.stage.room

pub close-requires-clause-none : goal.close-requires-clause-none
close-requires-clause-none g c = c.finish.ensures.stage.none

pub returns : goal.returns
returns g c =
    let p : Parts = c.args.federation.now in
    let s : Stage = c.finish.new.self in
    subst (λ (o : Option LbtsFloor). IsLocked p c.close.result.end c.close.result.nodes.items o) (sym c.close.ensures.floor)
    (is_lock_run p s c.finish.ensures.stage c.close.ensures.ruled c.finish.ensures.ended c.close.result.nodes.items c.close.ensures.nodes c.close.result.end c.close.ensures.end)
