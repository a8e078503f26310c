-- What the trait asks of the steps of a seat, shown for a floor that threads share. An impl's proofs of its trait's laws stand in specs, since the
-- impl names them.
use Rattle.std.proofs.Common.{◌≡◌, ℕ, ◌≤◌, refl, ◌∙◌, arith}
use Rattle.kit_ground.specs.declared.place.Place.{Place}
use Rattle.kit_ground.specs.Steps.{IsSameSeat}
use Rattle.kit_floor.specs.Standing.{AreStepsOfSeat}

module _ {F V : Type 0} where
  pub came_here : (f : F) (number : ℕ) (p : Place V) → AreStepsOfSeat f number p f number p
  came_here f number p =
      let same : p.own.steps ≤ p.own.steps = omega arith in
      record { floor = refl; number = refl; seat = record { number = refl; federates = refl; buffers = refl }; steps = same }

  module _ (f : F) (i : ℕ) (p : Place V) (g : F) (j : ℕ) (q : Place V) where
    pub came_on : (h : F) (k : ℕ) (r : Place V) → AreStepsOfSeat f i p g j q → AreStepsOfSeat g j q h k r → AreStepsOfSeat f i p h k r
    came_on h k r a b =
        let x = a.steps in
        let y = b.steps in
        let more : p.own.steps ≤ r.own.steps = omega arith in
        record {
          floor = b.floor ∙ a.floor;
          number = b.number ∙ a.number;
          seat = record { number = b.seat.number ∙ a.seat.number; federates = b.seat.federates ∙ a.seat.federates; buffers = b.seat.buffers ∙ a.seat.buffers };
          steps = more;
        }

    pub came_same : AreStepsOfSeat f i p g j q → IsSameSeat p q
    came_same a = a.seat

    pub came_later : AreStepsOfSeat f i p g j q → p.own.steps ≤ q.own.steps
    came_later a = a.steps
