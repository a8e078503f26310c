-- What rules do to the state of their federate where they run.
use Rattle.std.specs.Prelude.{◌≡◌, ◌<◌, ◌≤◌, length, take, Result, Err, OnOk}
use Rattle.kit_rules.specs.declared.scene.ApplyEnd.{ApplyEnd}
use Rattle.kit_rules.specs.declared.scene.ApplyEnd.TheVariants.{SendsSpent}
use Rattle.kit_rules.specs.declared.scene.State.{State}

-- rules that ran came to the target, with a number left for it; what was sent before stays first among the sends; and
-- they were refused a number only where the target has gone past 16,384
pub record ComesTo (target old new : State) (result : Result (Unit {0}) ApplyEnd) : Type 0 where
  pub state : OnOk result (new ≡ target)
  pub kept : take (length old.sends) new.sends ≡ old.sends
  pub spent : result ≡ Err SendsSpent → 16385 < target.next
  pub room : OnOk result (new.next ≤ 16385)
