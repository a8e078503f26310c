-- Retractions name Events of lower numbers.
use Rattle.std.proofs.Common.{ℕ, List, [], ◌∷◌}
use Rattle.kit_base.specs.declared.message.Message.{Message}
use Rattle.kit_rules.specs.Parts.{Parts, federate_at}
use Rattle.kit_rules.specs.declared.scene.State.{State}
use Rattle.kit_rules.specs.declared.table.Trigger.TheVariants.{Got, Grant, Start}
use Rattle.kit_rules.specs.Step.{state_after, opening_state}
use Rattle.kit_rules.specs.Simulation.{Seat, Block, after_deliveries, seat_at_start}
use Rattle.kit_rules.proofs.Backs.{Aimed, aimed_by_step}
use Rattle.kit_parts.specs.Fronts.{seat_with, seat_from, seat_after}

aimed_by_deliveries : (p : Parts) (i d : ℕ) (s : State) (due : List Message) → Aimed s → Aimed (after_deliveries p i d s due)
aimed_by_deliveries p i d s [] h = h
aimed_by_deliveries p i d s (m ∷ ms) h = aimed_by_deliveries p i d (state_after p i (Got m.group) d m.value s) ms (aimed_by_step p i (Got m.group) d m.value s h)

aimed_with : (p : Parts) (i : ℕ) (b : Block) (s : Seat) → Aimed s.state → Aimed (seat_with p i b s).state
aimed_with p i b s h = aimed_by_step p i Grant b.time 0 (after_deliveries p i b.time s.state b.delivered) (aimed_by_deliveries p i b.time s.state b.delivered h)

aimed_from : (p : Parts) (i : ℕ) (s : Seat) (bs : List Block) → Aimed s.state → Aimed (seat_from p i s bs).state
aimed_from p i s [] h = h
aimed_from p i s (b ∷ bs) h = aimed_from p i (seat_with p i b s) bs (aimed_with p i b s h)

-- after any blocks
pub aimed_after : (p : Parts) (i : ℕ) (done : List Block) → Aimed (seat_after p i done).state
aimed_after p i done = aimed_from p i (seat_at_start p i) done (aimed_by_step p i Start 0 0 (opening_state (federate_at p i)) (record { under = tt; aims = tt }))
