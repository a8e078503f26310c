-- What lookahead means for what is sent.
use Rattle.std.specs.Prelude.{◌≡◌, ℕ, ◌+◌, ◌<◌, ◌≤◌, List, None, length, drop, All}
use Rattle.kit_base.specs.declared.message.Message.{Message}
use Rattle.kit_rules.specs.declared.table.Trigger.{Trigger}
use Rattle.kit_rules.specs.declared.table.Request.{Request}
use Rattle.kit_rules.specs.declared.scene.State.{State}
use Rattle.kit_rules.specs.Parts.{Parts, federate_at, effective_lookahead}
use Rattle.kit_rules.specs.Federation.{IsFederation}
use Rattle.kit_rules.specs.Step.{state_after}
use Rattle.kit_rules.specs.Delivery.{due_time, request_due, least_time}

-- of the pending messages only the least time decides when a request is due
abbrev pub DuesByTheLeast : Type 0
DuesByTheLeast = (request : Request) (pending : List Message) → due_time request pending ≡ request_due request (least_time pending)

-- every effective lookahead is at least 1
abbrev pub LookaheadsArePositive : Type 0
LookaheadsArePositive = (p : Parts) (i : ℕ) → IsFederation p → 1 ≤ effective_lookahead p i

-- what a federate sends at a time, Retractions among it, is timed no sooner than that time and its effective lookahead
abbrev pub SendsKeepLookahead : Type 0
SendsKeepLookahead = (p : Parts) (i : ℕ) (on : Trigger) (now value : ℕ) (s : State) → IsFederation p → i < length p.federates
    → All (λ (m : Message). now + effective_lookahead p i ≤ m.time) (drop (length s.sends) (state_after p i on now value s).sends)

-- a federate that is not regulating sends nothing
abbrev pub OnlyRegulatingSend : Type 0
OnlyRegulatingSend = (p : Parts) (i : ℕ) (on : Trigger) (now value : ℕ) (s : State) → IsFederation p → i < length p.federates
    → (federate_at p i).lookahead ≡ None → (state_after p i on now value s).sends ≡ s.sends
