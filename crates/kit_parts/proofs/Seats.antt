-- What holds of a federate after any blocks: its sends are numbered, and more blocks only add to them.
use Rattle.std.proofs.Common.{◌≡◌, ℕ, inl, inr, ◌+◌, ◌<◌, ◌≤◌, true, false, ◌&&◌, not, nat_eq, List, [], ◌∷◌, ◌++◌, length, arith, refl, sym, ap, ◌∙◌, subst, length-append}
use Rattle.std.specs.List.{AllByRecursion}
use Rattle.std.proofs.lemmas.Bool.{and_parts, eqb-true, not-true}
use Rattle.kit_base.specs.declared.message.Message.{Message}
use Rattle.kit_rules.specs.Parts.{Parts, federate_at, effective_lookahead}
use Rattle.kit_rules.specs.Federation.{IsFederation}
use Rattle.kit_rules.specs.declared.scene.State.{State}
use Rattle.kit_rules.specs.declared.table.Trigger.TheVariants.{Start}
use Rattle.kit_rules.specs.Step.{is_event, opening_state}
use Rattle.kit_rules.specs.Delivery.{retracts}
use Rattle.kit_rules.specs.Simulation.{Seat, Block, seat_at_start}
use Rattle.kit_rules.proofs.Growth.{Grows, AreNumbered, AreNumbered-append, grows_by_step}
use Rattle.kit_laws.proofs.Joins.{grows_by_block}
use Rattle.kit_parts.specs.Fronts.{seat_with, seat_from, seat_after}
use Rattle.kit_parts.proofs.Among.{Among, among_left, each_of, Distinct}
use Rattle.kit_parts.proofs.Gains.{Gain, Once, Named, gain_by_step, gain_by_block}

-- messages of one sender, numbered one after another
pub numbered_sender : (i n : ℕ) (xs : List Message) (m : Message) → AreNumbered i n xs → Among m xs → (m.sender ≡ i) × (n ≤ m.number) × (m.number < n + length xs)
numbered_sender i n [] m h a = elim a [ ]
numbered_sender i n (x ∷ xs) m h (inl e) =
    let s : m.sender ≡ i = ap (λ (y : Message). y.sender) (sym e) ∙ h.0 in
    let k : m.number ≡ n = ap (λ (y : Message). y.number) (sym e) ∙ h.1 in
    (s, omega arith, omega arith)
numbered_sender i n (x ∷ xs) m h (inr a) = let r = numbered_sender i (n + 1) xs m h.2 a in (r.0, omega (arith, r.1), omega (arith, r.2))

-- those of one number are one
pub numbered_one : (i n : ℕ) (xs : List Message) (a b : Message) → AreNumbered i n xs → Among a xs → Among b xs → a.number ≡ b.number → a ≡ b
numbered_one i n [] a b h in_a in_b e = elim in_a [ ]
numbered_one i n (x ∷ xs) a b h (inl ea) (inl eb) e = sym ea ∙ eb
numbered_one i n (x ∷ xs) a b h (inl ea) (inr kb) e =
    let k : a.number ≡ n = ap (λ (y : Message). y.number) (sym ea) ∙ h.1 in
    let r = numbered_sender i (n + 1) xs b h.2 kb in absurd (omega (arith, r.1))
numbered_one i n (x ∷ xs) a b h (inr ka) (inl eb) e =
    let k : b.number ≡ n = ap (λ (y : Message). y.number) (sym eb) ∙ h.1 in
    let r = numbered_sender i (n + 1) xs a h.2 ka in absurd (omega (arith, r.1))
numbered_one i n (x ∷ xs) a b h (inr ka) (inr kb) e = numbered_one i (n + 1) xs a b h.2 ka kb e

pub numbered_distinct : (i n : ℕ) (xs : List Message) → AreNumbered i n xs → Distinct xs
numbered_distinct i n [] h = tt
numbered_distinct i n (x ∷ xs) h = ((λ a. let r = numbered_sender i (n + 1) xs x h.2 a in absurd (let k : x.number ≡ n = h.1 in omega (arith, r.1))), numbered_distinct i (n + 1) xs h.2)

-- what holds of a federate's sends
pub record Sound (i : ℕ) (s : State) : Type 0 where
  pub numbered : AreNumbered i 1 s.sends
  pub next : s.next ≡ 1 + length s.sends
  pub named : AllByRecursion (Named s.sends) s.sends
  pub once : Once s.sends

pub sound_more : (i t : ℕ) (a b : State) → Grows i a b → Gain t a b → Sound i a → Sound i b
sound_more i t a b g h s =
    let P : List Message → Type 0 = AreNumbered i 1 in
    let Q : ℕ → Type 0 = λ n. AreNumbered i n g.made in
    record {
      numbered = subst P (sym g.sends) (AreNumbered-append i 1 a.sends g.made s.numbered (subst Q s.next g.numbered));
      next = omega (arith, g.next, s.next, ap length g.sends, length-append a.sends g.made);
      named = h.named s.named;
      once = h.once s.once;
    }

pub sound_start : (p : Parts) (i : ℕ) → IsFederation p → i < length p.federates → Sound i (seat_at_start p i).state
sound_start p i f lt =
    sound_more i (0 + effective_lookahead p i) (opening_state (federate_at p i)) (seat_at_start p i).state (grows_by_step p i Start 0 0 (opening_state (federate_at p i))) (gain_by_step p i Start 0 0 (opening_state (federate_at p i)) f lt)
    (record { numbered = tt; next = refl; named = tt; once = λ a b in_a in_b. elim in_a [ ] })

pub sound_with : (p : Parts) (i : ℕ) (b : Block) (s : Seat) → IsFederation p → i < length p.federates → Sound i s.state → Sound i (seat_with p i b s).state
sound_with p i b s f lt h = sound_more i (b.time + effective_lookahead p i) s.state (seat_with p i b s).state (grows_by_block p i b.time s.state b.delivered) (gain_by_block p i b.time s.state b.delivered f lt) h

pub sound_from : (p : Parts) (i : ℕ) (s : Seat) (bs : List Block) → IsFederation p → i < length p.federates → Sound i s.state → Sound i (seat_from p i s bs).state
sound_from p i s [] f lt h = h
sound_from p i s (b ∷ bs) f lt h = sound_from p i (seat_with p i b s) bs f lt (sound_with p i b s f lt h)

-- after any blocks
pub sound_after : (p : Parts) (i : ℕ) (done : List Block) → IsFederation p → i < length p.federates → Sound i (seat_after p i done).state
sound_after p i done f lt = sound_from p i (seat_at_start p i) done f lt (sound_start p i f lt)

-- blocks in two pieces
pub from_append : (p : Parts) (i : ℕ) (s : Seat) (xs ys : List Block) → seat_from p i s (xs ++ ys) ≡ seat_from p i (seat_from p i s xs) ys
from_append p i s [] ys = refl
from_append p i s (x ∷ xs) ys = from_append p i (seat_with p i x s) xs ys

-- what a grant adds to the sends
pub with_more : (p : Parts) (i : ℕ) (b : Block) (s : Seat) (m : Message) → Among m s.state.sends → Among m (seat_with p i b s).state.sends
with_more p i b s m a =
    let g = grows_by_block p i b.time s.state b.delivered in
    let P : List Message → Type 0 = Among m in
    subst P (sym g.sends) (among_left m s.state.sends g.made a)

-- more blocks only add to the sends
pub from_more : (p : Parts) (i : ℕ) (s : Seat) (bs : List Block) (m : Message) → Among m s.state.sends → Among m (seat_from p i s bs).state.sends
from_more p i s [] m a = a
from_more p i s (b ∷ bs) m a = from_more p i (seat_with p i b s) bs m (with_more p i b s m a)

pub after_more : (p : Parts) (i : ℕ) (xs ys : List Block) (m : Message) → Among m (seat_after p i xs).state.sends → Among m (seat_after p i (xs ++ ys)).state.sends
after_more p i xs ys m a =
    let P : Seat → Type 0 = λ s. Among m s.state.sends in
    subst P (sym (from_append p i (seat_at_start p i) xs ys)) (from_more p i (seat_after p i xs) ys m a)

-- a Retraction of one of a federate's Events has its time and receivers
pub retracts_facts : (m r : Message) → retracts m r ≡ true → (is_event r.kind ≡ false) × (r.sender ≡ m.sender) × (r.value ≡ m.number)
retracts_facts m r h =
    let a = and_parts (not (is_event r.kind) && nat_eq r.sender m.sender) (nat_eq r.value m.number) h in
    let b = and_parts (not (is_event r.kind)) (nat_eq r.sender m.sender) a.0 in
    (not-true (is_event r.kind) b.0, eqb-true r.sender m.sender b.1, eqb-true r.value m.number a.1)

pub retraction_like : (i : ℕ) (s : State) (m r : Message) → Sound i s → Among m s.sends → Among r s.sends → retracts m r ≡ true → (r.time ≡ m.time) × (r.group ≡ m.group)
retraction_like i s m r h in_m in_r e =
    let f = retracts_facts m r e in
    let n = each_of (Named s.sends) r s.sends h.named in_r f.0 in
    let same : n.0 ≡ m = numbered_one i 1 s.sends n.0 m h.numbered n.1 in_m (n.2.1 ∙ f.2) in
    (sym n.2.2 ∙ ap (λ (x : Message). x.time) same, sym n.2.3 ∙ ap (λ (x : Message). x.group) same)
