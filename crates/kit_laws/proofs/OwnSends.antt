-- Of the messages in a world, those of one sender are what its seat has sent.
use Rattle.std.proofs.Common.{◌≡◌, ◌≢◌, ℕ, zero, suc, inl, inr, ◌⊎◌, ◌+◌, ◌<◌, ◌≤◌, Bool, List, [], ◌∷◌, ◌++◌, length, map, drop, filter, nat_eq, arith, refl, sym, ap, ◌∙◌, subst}
use Rattle.std.specs.List.{range_with_len, flat_map}
use Rattle.std.proofs.lemmas.Bool.{cases_eq, cases_lt, eq-eqb, ne_eqb}
use Rattle.std.proofs.lemmas.List.{append-nil, get_or-set_other, get_or-set_same, get_or_past}
use Rattle.std.proofs.lemmas.List.Elements.{filter-append}
use Rattle.std.proofs.lemmas.List.FromFn.{get_or-map-range_with_len, length-map-range_with_len}
use Rattle.kit_base.specs.declared.message.Message.{Message}
use Rattle.kit_rules.specs.Parts.{Parts}
use Rattle.kit_rules.specs.Simulation.{Seat, World, nobody_seated, seat_after_pair, seat_at, seat_at_start, world_after_grant, world_at_start}
use Rattle.kit_rules.proofs.Growth.{AreNumbered}
use Rattle.kit_laws.proofs.Numbers.{gained}
use Rattle.kit_laws.proofs.Worlds.{grows_by_grant, grows_by_start}

-- whether a message is of federate k
abbrev pub from : ℕ → Message → Bool
from k x = nat_eq x.sender k

-- a federate's own messages are all of them
pub filter_own : (k n : ℕ) (ms : List Message) → AreNumbered k n ms → filter (from k) ms ≡ ms
filter_own k n [] h = refl
filter_own k n (m ∷ ms) h = rw (eq-eqb m.sender k h.0) (ap (λ xs. m ∷ xs) (filter_own k (n + 1) ms h.2))

-- and none of another's
pub filter_other : (k j n : ℕ) (ms : List Message) → j ≢ k → AreNumbered k n ms → filter (from j) ms ≡ []
filter_other k j n [] ne h = refl
filter_other k j n (m ∷ ms) ne h = rw (ne_eqb m.sender j (λ e. ne (sym e ∙ h.0))) (filter_other k j (n + 1) ms ne h.2)

-- a federate's messages at the start are numbered from 1
pub own_numbered : (p : Parts) (i : ℕ) → AreNumbered i 1 (seat_at_start p i).state.sends
own_numbered p i =
    let gr = grows_by_start p i in
    let L : List Message → Type 0 = AreNumbered i 1 in
    subst L (sym gr.sends) gr.numbered

-- what the federates from number a on send at the start
abbrev pub starts : Parts → ℕ → ℕ → List Message
starts p a n = flat_map (λ (s : Seat). s.state.sends) (map (seat_at_start p) (range_with_len a n))

starts_none : (p : Parts) (j a n : ℕ) → (j < a) ⊎ (a + n ≤ j) → filter (from j) (starts p a n) ≡ []
starts_none p j a zero out = refl
starts_none p j a (suc n) out =
    let ne : j ≢ a = λ e. elim out [ inl l ↦ (let l' : j < a = l in omega arith) | inr g ↦ (let g' : a + suc n ≤ j = g in omega arith) ] in
    let rest : (j < a + 1) ⊎ ((a + 1) + n ≤ j) = elim out [ inl l ↦ inl (let l' : j < a = l in omega arith) | inr g ↦ inr (let g' : a + suc n ≤ j = g in omega arith) ] in
    filter-append (from j) (seat_at_start p a).state.sends (starts p (a + 1) n)
    ∙ ap (λ xs. xs ++ filter (from j) (starts p (a + 1) n)) (filter_other a j 1 (seat_at_start p a).state.sends ne (own_numbered p a))
    ∙ starts_none p j (a + 1) n rest

starts_own : (p : Parts) (j a n : ℕ) → a ≤ j → j < a + n → filter (from j) (starts p a n) ≡ (seat_at_start p j).state.sends
starts_own p j a zero low high = absurd (omega arith)
starts_own p j a (suc n) low high =
    let here = (seat_at_start p a).state.sends in
    let rest = starts p (a + 1) n in
    filter-append (from j) here rest ∙ elim (cases_eq j a) [
      | inl e ↦ (let Q : ℕ → Type 0 = λ j. filter (from j) here ++ filter (from j) rest ≡ (seat_at_start p j).state.sends in
          subst Q (sym e) (ap (λ xs. xs ++ filter (from a) rest) (filter_own a 1 here (own_numbered p a)) ∙ ap (λ xs. here ++ xs) (starts_none p a (a + 1) n (inl (omega arith))) ∙ append-nil here))
      | inr ne ↦ (ap (λ xs. xs ++ filter (from j) rest) (filter_other a j 1 here ne (own_numbered p a)) ∙ starts_own p j (a + 1) n (let n' : j ≢ a = ne in omega arith) (omega arith))
    ]

pub seat_started : (p : Parts) (j : ℕ) → j < length p.federates → seat_at (world_at_start p) j ≡ seat_at_start p j
seat_started p j lt = get_or-map-range_with_len (seat_at_start p) 0 (length p.federates) j j nobody_seated lt (omega arith)

-- so it is at the start
pub own_at_start : (p : Parts) (j : ℕ) → filter (from j) (world_at_start p).messages ≡ (seat_at (world_at_start p) j).state.sends
own_at_start p j = elim (cases_lt j (length p.federates)) [
  | inl lt ↦ starts_own p j 0 (length p.federates) (omega arith) (omega arith) ∙ ap (λ (s : Seat). s.state.sends) (sym (seat_started p j lt))
  | inr ge ↦ starts_none p j 0 (length p.federates) (inr (omega arith))
      ∙ ap (λ (s : Seat). s.state.sends) (sym (get_or_past (world_at_start p).seats j nobody_seated (omega (arith, length-map-range_with_len (seat_at_start p) 0 (length p.federates)))))
]

-- and a grant keeps it
pub own_after_grant : (p : Parts) (w : World) (g : ℕ × ℕ) (j : ℕ) → g.1 < length w.seats → filter (from j) w.messages ≡ (seat_at w j).state.sends
    → filter (from j) (world_after_grant p w g).messages ≡ (seat_at (world_after_grant p w g) j).state.sends
own_after_grant p w g j within own =
    let old = (seat_at w g.1).state in
    let new = seat_after_pair p w g in
    let grow = grows_by_grant p w g in
    let made : List Message = drop (length old.sends) new.state.sends in
    let is : made ≡ grow.made = gained g.1 old new.state grow in
    filter-append (from j) w.messages made ∙ ap (λ xs. xs ++ filter (from j) made) own ∙ elim (cases_eq j g.1) [
      | inl e ↦ (let Q : ℕ → Type 0 = λ k. (seat_at w k).state.sends ++ filter (from k) made ≡ (seat_at (world_after_grant p w g) k).state.sends in
          subst Q (sym e) (ap (λ xs. old.sends ++ filter (from g.1) xs) is ∙ ap (λ xs. old.sends ++ xs) (filter_own g.1 old.next grow.made grow.numbered)
          ∙ sym grow.sends ∙ ap (λ (s : Seat). s.state.sends) (sym (get_or-set_same w.seats g.1 new nobody_seated within))))
      | inr ne ↦ ap (λ xs. (seat_at w j).state.sends ++ filter (from j) xs) is ∙ ap (λ xs. (seat_at w j).state.sends ++ xs) (filter_other g.1 j old.next grow.made ne grow.numbered)
          ∙ append-nil (seat_at w j).state.sends ∙ ap (λ (s : Seat). s.state.sends) (sym (get_or-set_other w.seats g.1 j new nobody_seated ne))
    ]
