-- What the rules of a federate do where they run.
use Rattle.std.specs.Prelude.{◌≡◌, ◌<◌, List, ◌++◌, length, drop, Result, Err, OnOk}
use Rattle.kit_base.specs.declared.message.Message.{Message}
use Rattle.kit_rules.specs.declared.scene.State.{State}
use Rattle.kit_rules.specs.declared.scene.ApplyEnd.{ApplyEnd}
use Rattle.kit_rules.specs.declared.scene.ApplyEnd.TheVariants.{SendsSpent}

-- rules ran: their federate's state is the target, and what they sent stands behind the messages made before; they
-- were refused a number only where the target has gone past 16,384
pub record RunsTo (target old new : State) (result : Result (Unit {0}) ApplyEnd) (before after : List Message) : Type 0 where
  pub state : OnOk result (new ≡ target)
  pub made : OnOk result (after ≡ before ++ drop (length old.sends) new.sends)
  pub spent : result ≡ Err SendsSpent → 16385 < target.next
