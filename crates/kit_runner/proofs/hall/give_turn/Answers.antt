use Rattle.kit_lbts.proofs.WithAgreement.{stops_agree}
use Rattle.kit_runner.proofs.hall.give_turn.Goals as goal

pub stop-requires : goal.stop-requires
stop-requires g c = record { rule = stops_agree (g.H.Ground.place c.turn-turn.new.ground) }
