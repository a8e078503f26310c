-- The numbers of a cut that no condition of its own bounds have 32 bits, and there are 8 values of variables, as the types say.
use Rattle.std.specs.Prelude.{◌≡◌, ◌^◌, ◌<◌, length, All}
use Rattle.kit_base.specs.declared.message.Message.{Message}
use Rattle.kit_cut.specs.declared.cut.Standing.{Standing}
use Rattle.kit_cut.specs.declared.cut.Cut.{Cut}

-- the value of a message
abbrev pub IsWordMessage : Message → Type 0
IsWordMessage m = m.value < 2 ^ 32

-- the values of variables, and those of the pending messages
pub record HasStandingWords (s : Standing) : Type 0 where
  pub places : length s.vars ≡ 8
  pub vars : All (λ n. n < 2 ^ 32) s.vars
  pub pending : All IsWordMessage s.pending

-- those of a cut
abbrev pub HasCutWords : Cut → Type 0
HasCutWords c = All HasStandingWords c.federates
