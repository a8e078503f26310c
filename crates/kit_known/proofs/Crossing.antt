-- A `Known` owns nothing: it may go to another thread, and any thread may share it.
use denote.RattleType.{RattleType}
use denote.Param.Send.{IsSend, IsSync, part_keyless}
use Rattle.kit_known.specs.contracts.Known.{the_row}

pub known_send : (T : RattleType) → IsSend (the_row T)
known_send T = record { owned = λ d vs. ((λ vss. (tt, ((λ uss. (tt, tt)), tt))), tt); leaving = λ k f vs. tt }

pub known_sync : (T : RattleType) → IsSync (the_row T)
known_sync T = record { shared = λ d b o κ q. part_keyless (the_row T) (known_send T) q d b o }

pub ruleset crosses = (known_send, known_sync)
