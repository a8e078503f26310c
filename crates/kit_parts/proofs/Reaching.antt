-- Where the simulation reaches the first blocks of a federate's part, and what it leaves there.
use Rattle.std.proofs.Common.{◌≡◌, inl, inr, ◌*◌, length, arith, sym, ap, ◌∙◌}
use Rattle.std.proofs.lemmas.Bool.{cases_lt}
use Rattle.std.proofs.lemmas.List.{take_all}
use Rattle.kit_rules.specs.Simulation.{World, seat_at, simulation}
use Rattle.kit_parts.specs.Fronts.{blocks_of, part, seat_after}
use Rattle.kit_parts.specs.OwnLaws.{FrontsAreReached, FrontsSend, WholePartsAreSeats}
use Rattle.kit_parts.proofs.Among.{among_contains, contains_among}
use Rattle.kit_parts.proofs.Sent.{Comes, comes, seat_then}
use Rattle.kit_parts.proofs.Whole.{front_sent, whole_seat}

pub whole_parts_are_seats_law : WholePartsAreSeats
whole_parts_are_seats_law p f i lt = whole_seat p i f lt

pub fronts_are_reached_law : FrontsAreReached
fronts_are_reached_law p f i lt done front = elim (cases_lt (length done) (length (part p i))) [
  | inl less ↦
      let c : Comes p i done = comes p i done f front less in
      record {
        grants = c.index;
        within = omega (arith, c.within);
        blocks = ap (λ (w : World). blocks_of i w.blocks) c.at ∙ c.before;
        seat = ap (λ (w : World). seat_at w i) c.at ∙ seat_then p i done c lt;
      }
  | inr all ↦
      let whole : done ≡ part p i = front ∙ take_all (length done) (part p i) all in
      record {
        grants = length p.federates * p.end;
        within = omega arith;
        blocks = sym whole;
        seat = whole_seat p i f lt ∙ ap (seat_after p i) (sym whole);
      }
]

pub fronts_send_law : FrontsSend
fronts_send_law p f i lt done front m has =
    let t = front_sent p i done m f lt front (contains_among m (seat_after p i done).state.sends has) in
    (among_contains m (simulation p).messages t.0, t.1)
