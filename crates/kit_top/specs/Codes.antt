-- The exit status of each end.
use Rattle.std.specs.Prelude.{ℕ}
use Rattle.kit_top.specs.declared.status.Status.{Status}
use Rattle.kit_top.specs.declared.status.Status.TheVariants.{Done, Usage, ReadFault, TooLong, BadFile, Unfinished, NoBuffer, SendsSpent, RoundsSpent, WriteFault, NoMemory, CutTooLong}

abbrev pub code_of : Status → ℕ
code_of Done = 0
code_of Usage = 2
code_of ReadFault = 3
code_of TooLong = 4
code_of (BadFile fault) = 5
code_of (Unfinished federate) = 6
code_of (NoBuffer federate number) = 7
code_of (SendsSpent federate) = 8
code_of (RoundsSpent federate) = 9
code_of WriteFault = 10
code_of NoMemory = 11
code_of CutTooLong = 12
