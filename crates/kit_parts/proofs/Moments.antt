-- Moments on the way of a run.
use Rattle.std.proofs.Common.{◌≡◌, ℕ, inl, ◌+◌, ◌<◌, ◌≤◌, Bool, true, false, List, [], ◌∷◌, length, get_or, Option, Some, arith, refl, sym, subst}
use Rattle.std.specs.List.{All}
use Rattle.std.proofs.lemmas.Bool.{both_ways}
use Rattle.std.proofs.lemmas.List.Elements.{All-contains, Contains-get_or}
use Rattle.kit_base.specs.declared.message.Message.{Message}
use Rattle.kit_rules.specs.Parts.{Parts, effective_lookahead}
use Rattle.kit_rules.specs.Federation.{IsFederation}
use Rattle.kit_rules.specs.Simulation.{Block}
use Rattle.kit_parts.specs.Fronts.{seat_after, Standing}
use Rattle.kit_parts.specs.Promises.{promise, promise_after}
use Rattle.kit_parts.specs.Cuts.{AreSound, Carries}
use Rattle.kit_parts.specs.Flows.{Moment, Bounds}
use Rattle.kit_parts.proofs.Among.{Among, among_contains, contains_among}
use Rattle.kit_parts.proofs.Promising.{waiting_keeps_promise_law}

-- a moment that is sound
abbrev pub Sound : Parts → Moment → Type 0
Sound p a = AreSound p a.all a.transit a.waiting

-- one moment follows another
abbrev pub Next : Parts → Moment → Moment → Type 0
Next p a c = Carries p a.all a.transit a.waiting c.all c.transit

-- what waits is held back by its sender
pub record HeldBack (p : Parts) (j : ℕ) (q : Standing) (m : Message) : Type 0 where
  pub waits : q.waits ≡ true
  pub done : List Block
  pub is : q.done ≡ Some done
  pub late : (seat_after p j done).now + effective_lookahead p j ≤ m.time

-- a moment on the way
pub record Good (p : Parts) (a : Moment) : Type 0 where
  pub base : Bounds p 1 a
  pub held : (j k : ℕ) → j < length p.federates → k < length p.federates → (m : Message) → Among m (a.waiting j k) → HeldBack p j (a.all j) m
  pub ahead : (j : ℕ) → j < length p.federates → (done : List Block) → (a.all j).done ≡ Some done → (known : ℕ) × ((seat_after p j done).now < known) × Bounds p known a

-- it is timed the promise or later
pub held_late : (p : Parts) (f : IsFederation p) (j : ℕ) (q : Standing) (m : Message) → j < length p.federates → HeldBack p j q m → promise p j q ≤ m.time
held_late p f j q m lt h =
    let P : Bool → Type 0 = λ w. promise_after p j w q.received q.done ≤ m.time in
    let Q : Option (List Block) → Type 0 = λ o. promise_after p j true q.received o ≤ m.time in
    subst P (sym h.waits) (subst Q (sym h.is) (omega (arith, waiting_keeps_promise_law p f j lt q.received h.done, h.late)))

-- a federate of which nothing waits
pub none_held : (p : Parts) (j : ℕ) (q : Standing) (xs : List Message) → q.waits ≡ false → ((m : Message) → Among m xs → HeldBack p j q m) → xs ≡ []
none_held p j q [] idle held = refl
none_held p j q (x ∷ xs) idle held = absurd (both_ways q.waits idle (held x (inl refl)).waits)

-- all by recursion on membership
pub all_of : (P : Message → Type 0) (xs : List Message) → ((m : Message) → Among m xs → P m) → All P xs
all_of P xs h k d lt = h (get_or xs k d) (contains_among (get_or xs k d) xs (Contains-get_or xs k d lt))

pub one_of : (P : Message → Type 0) (xs : List Message) (m : Message) → All P xs → Among m xs → P m
one_of P xs m h a = All-contains P xs m h (among_contains m xs a)
