-- The rule holds at the opening.
use Rattle.std.specs.Prelude.{length}
use Rattle.kit_ground.specs.Rules.{zero_memory, places_at_first}
use Rattle.kit_rules.specs.Federation.{IsFederation}
use Rattle.kit_lbts.specs.declared.lbts.Opening.{Opening}
use Rattle.kit_lbts.specs.Progress.{lbts_first}
use Rattle.kit_lbts.specs.Rule.{LbtsRule}

-- on a new floor for the federates of a federation, with as many buffers as it says
abbrev pub OpeningsHold : Type 0
OpeningsHold = (o : Opening) → IsFederation o.federation.value
    → LbtsRule zero_memory (places_at_first (lbts_first o) (length o.federation.value.federates) o.federation.value.buffers)
