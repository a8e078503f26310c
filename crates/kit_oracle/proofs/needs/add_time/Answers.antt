use Rattle.std.proofs.Common.{sym, ◌∙◌}
use Rattle.std.proofs.lemmas.Result.{on_ok_weaker}
use Rattle.kit_oracle.proofs.Later.{later_sent}
use Rattle.kit_oracle.proofs.needs.add_time.Goals as goal

pub returns : goal.returns
returns c =
    on_ok_weaker c.push.result (λ h t. later_sent c.args.federation.now t c.args.message.now c.args.times.now c.push.new.self (sym c.transported.ensures ∙ c.if-not-transported.false) (h t)) c.push.ensures
