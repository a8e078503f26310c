-- What a message or a line names is there.
use Rattle.std.specs.Prelude.{◌<◌, length}
use Rattle.kit_base.specs.declared.message.Message.{Message}
use Rattle.kit_base.specs.declared.history.Line.{Line}
use Rattle.kit_base.specs.declared.history.Line.TheVariants.{Deliver, Grant}
use Rattle.kit_rules.specs.Parts.{Parts}

-- the sender and the group of a message are there
abbrev pub MessageFits : Parts → Message → Type 0
MessageFits p m = (m.sender < length p.federates) × (m.group < length p.groups)

-- and so are those of a line, and its federate
abbrev pub LineFits : Parts → Line → Type 0
LineFits p (Deliver d i m) = (i < length p.federates) × (m.sender < length p.federates) × (m.group < length p.groups)
LineFits p (Grant t i) = i < length p.federates
