use denote.Param.Send.{sendable}
use Rattle.std.proofs.Crossing.{crosses}
use Rattle.kit_known.proofs.Crossing.{known_send}
use Rattle.kit_courier.proofs.Openings.{opens_told}
use Rattle.kit_courier.proofs.tests.a_floor_goes_to_another_thread.Goals as goal

pub new-requires-2-clause-rule : goal.new-requires-2-clause-rule
new-requires-2-clause-rule g c = opens_told c.new.result.value 2 1 c.new.ensures

pub join-one-requires-send-F : goal.join-one-requires-send-F
join-one-requires-send-F g c κs = search (sendable, crosses, known_send) depth 40
