-- The last block of a federate is the end.
use Rattle.std.proofs.Common.{inl, inr, ◌<◌, length, arith, sym, ap, ◌∙◌}
use Rattle.std.proofs.lemmas.Bool.{cases_lt}
use Rattle.std.proofs.lemmas.List.{take_all}
use Rattle.kit_rules.specs.Simulation.{Seat, simulation}
use Rattle.kit_laws.proofs.Least.{next_stands}
use Rattle.kit_laws.proofs.Rising.{last_grants}
use Rattle.kit_parts.specs.Fronts.{part}
use Rattle.kit_parts.specs.OwnLaws.{PartsEnd, EndsAreWhole, NothingComesLate}
use Rattle.kit_parts.proofs.Sent.{comes, seat_then}
use Rattle.kit_parts.proofs.Whole.{whole_way, whole_seat}

-- the end
pub parts_end_law : PartsEnd
parts_end_law p f i lt =
    let within : i < length (simulation p).seats = omega (arith, (whole_way p f).1.reached.count) in
    ap (λ (s : Seat). s.now) (sym (whole_seat p i f lt)) ∙ last_grants p f i within

pub ends_are_whole_law : EndsAreWhole
ends_are_whole_law p f i lt done front le =
    elim (cases_lt (length done) (length (part p i))) [
      | inr ge ↦ front ∙ take_all (length done) (part p i) ge
      | inl short ↦ absurd (
          let c = comes p i done f front short in
          let st = next_stands p c.world.messages c.world.seats (c.due, i) c.next in
          let seat = seat_then p i done c lt in
          omega (arith, st.below, ap (λ (s : Seat). s.now) seat))
    ]

pub nothing_comes_late_law : NothingComesLate
nothing_comes_late_law p bound i received heard m whole here new =
    elim (cases_lt m.time bound) [
      | inl lt ↦ absurd (new (heard.came m whole here lt))
      | inr ge ↦ ge
    ]
