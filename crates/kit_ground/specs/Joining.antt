-- What the trait asks of the steps of a seat, shown for a plain floor. An impl's proofs of its trait's laws stand in specs, since the impl names them.
use Rattle.std.proofs.Common.{◌≡◌, ℕ, zero, suc, ◌+◌, ◌≤◌, ◌∷◌, ◌++◌, replicate, refl, sym, ap, ◌∙◌, arith, append_assoc, append-nil}
use Rattle.kit_ground.specs.Coming.{AreSteps}
use Rattle.kit_ground.specs.Floors.{Floor, place_of}
use Rattle.kit_ground.specs.Steps.{IsSameSeat}

replicate-add : {A : Type 0} (m n : ℕ) (x : A) → replicate m x ++ replicate n x ≡ replicate (m + n) x
replicate-add zero n x = let e : n ≡ 0 + n = omega arith in ap (λ (k : ℕ). replicate k x) e
replicate-add (suc m) n x = let e : suc (m + n) ≡ suc m + n = omega arith in ap (λ l. x ∷ l) (replicate-add m n x) ∙ ap (λ (k : ℕ). replicate k x) e

module _ {O V : Type 0} (first : O → ℕ → V) where
  pub came_here : (f : Floor O V) → AreSteps first f f
  came_here f = record {
    opening = refl;
    buffers = refl;
    seated = refl;
    seat = record { number = refl; federates = refl; buffers = refl };
    many = refl;
    others = λ k other. refl;
    made = 0;
    steps = sym (append-nil f.steps);
    counted = omega arith;
  }

  pub came_on : (f g h : Floor O V) → AreSteps first f g → AreSteps first g h → AreSteps first f h
  came_on f g h a b = record {
    opening = b.opening ∙ a.opening;
    buffers = b.buffers ∙ a.buffers;
    seated = b.seated ∙ a.seated;
    seat = record { number = b.seat.number ∙ a.seat.number; federates = b.seat.federates ∙ a.seat.federates; buffers = b.seat.buffers ∙ a.seat.buffers };
    many = b.many ∙ a.many;
    others = λ k other. b.others k (λ e. other (e ∙ a.seated)) ∙ a.others k other;
    made = a.made + b.made;
    steps = b.steps ∙ ((λ i. a.steps i ++ replicate b.made (a.seated i)) ∙ (append_assoc f.steps (replicate a.made f.seated) (replicate b.made f.seated) ∙ ap (λ l. f.steps ++ l) (replicate-add a.made b.made f.seated)));
    counted = let x = a.counted in let y = b.counted in omega arith;
  }

  pub came_same : (f g : Floor O V) → AreSteps first f g → IsSameSeat (place_of first f) (place_of first g)
  came_same f g came = came.seat

  pub came_later : (f g : Floor O V) → AreSteps first f g → (place_of first f).own.steps ≤ (place_of first g).own.steps
  came_later f g came = let x = came.counted in omega arith
