use Rattle.std.proofs.Common.{ℕ, List, take}
use Rattle.kit_rules.specs.Parts.{Parts}
use Rattle.kit_replay.proofs.Running.{goes_further, goes_on, stops_here}
use Rattle.kit_replay.proofs.stage.Stage.run.Goals as goal

pub returns-in-Some : goal.returns-in-Some
returns-in-Some c limit start =
    let p : Parts = c.args.federation.now in
    let schedule : List ℕ = c.args.schedule.now in
    let i : ℕ = c.loop-federate.federate-index in
    stops_here p schedule i c.loop-federate-test.true limit c.in-Some.end c.give_turn.new.self
    (c.in-Some.ensures limit (take i schedule) (c.loop-federate.invariant.stage limit start))

pub loop-federate-preserved : goal.loop-federate-preserved
loop-federate-preserved c =
    let p : Parts = c.args.federation.now in
    let schedule : List ℕ = c.args.schedule.now in
    let i : ℕ = c.loop-federate.federate-index in
    record {
      goes_on = goes_on p _ c.loop-federate.self c.give_turn.new.self c.loop-federate.invariant.goes_on c.in_default.ensures;
      stage = λ limit start. goes_further p schedule i c.loop-federate-test.true limit c.give_turn.new.self (c.in_default.ensures limit (take i schedule) (c.loop-federate.invariant.stage limit start));
    }
