-- The start's numbers, and what they say of a new message: nothing has it yet, and a Retraction finds its Event by time, sender and number.
use Rattle.std.proofs.Common.{Option, Some, None, ◌≡◌, ℕ, zero, suc, inl, inr, ◌+◌, ◌<◌, ◌≤◌, Bool, true, false, cond, not, ◌&&◌, ◌||◌, List, [], ◌∷◌, ◌++◌, length, drop, filter, nat_eq, arith, refl, sym, subst, ap, ◌∙◌}
use Rattle.std.specs.List.{AllByRecursion, list_any}
use Rattle.std.proofs.lemmas.Bool.{ne_eqb, eq-eqb, eqb-true}
use Rattle.std.proofs.lemmas.Bool.Decides.{eqb_tells}
use Rattle.std.proofs.lemmas.List.FromFn.{length-map-range_with_len}
use Rattle.kit_base.specs.declared.message.Message.{Message}
use Rattle.kit_base.proofs.Lists.{all-append, all_drop, each_weaker}
use Rattle.kit_rules.specs.Parts.{Parts, federate_at}
use Rattle.kit_rules.specs.Federation.{IsFederation}
use Rattle.kit_laws.proofs.Rising.{Reached, grants, reached_once, started_reached}
use Rattle.kit_rules.specs.declared.table.Trigger.TheVariants.{Start}
use Rattle.kit_rules.specs.Step.{is_event, opening_state}
use Rattle.kit_rules.proofs.Growth.{AreNumbered}
use Rattle.kit_rules.proofs.Backs.{Aimed, Aims, aimed_by_step, one_time}
use Rattle.kit_rules.specs.Delivery.{is_same, retracts}
use Rattle.kit_rules.specs.Simulation.{Seat, World, world_at_start, seat_at_start, seat_at, seat_after_pair, world_after_grant, world_after_pair, next_grant, next_world, after_grants}
use Rattle.kit_oracle.specs.Pending.{has_key, without_key}
use Rattle.kit_laws.proofs.Worlds.{grows_by_start}
use Rattle.kit_oracle.proofs.Fronts.{filter_same}
use Rattle.kit_laws.proofs.OwnSends.{from, own_at_start, own_numbered, seat_started, starts}
use Rattle.kit_oracle.proofs.Numbering.{Below, OwnSends, Counted, below_numbered, aimed_by_grant, granted_counted}

-- its next number is above them
next_start : (p : Parts) (i : ℕ) → (seat_at_start p i).state.next ≡ 1 + length (seat_at_start p i).state.sends
next_start p i =
    let gr = grows_by_start p i in
    gr.next ∙ ap (λ (xs : List Message). 1 + length xs) (sym gr.sends)

-- its Retractions name Events of its own
aimed_start : (p : Parts) (i : ℕ) → Aimed (seat_at_start p i).state
aimed_start p i = aimed_by_step p i Start 0 0 (opening_state (federate_at p i)) (record { under = tt; aims = tt })

-- their numbers are below the next of their senders
starts_below : (p : Parts) (a n : ℕ) → a + n ≤ length p.federates → AllByRecursion (Below (world_at_start p)) (starts p a n)
starts_below p a zero le = tt
starts_below p a (suc n) le =
    let own = (seat_at_start p a).state.sends in
    let here : seat_at (world_at_start p) a ≡ seat_at_start p a = seat_started p a (omega arith) in
    let N : Seat → Type 0 = λ s. 1 + length own ≤ s.state.next in
    all-append (Below (world_at_start p)) own (starts p (a + 1) n) (below_numbered (world_at_start p) a 1 own (own_numbered p a) (subst N (sym here) (omega (arith, next_start p a)))) (starts_below p (a + 1) n (omega arith))

-- the numbers of the start
pub started_counted : (p : Parts) → Counted (world_at_start p)
started_counted p =
    let n = length p.federates in
    record {
      below = starts_below p 0 n (omega arith);
      each = λ k inside.
          let lt : k < n = omega (arith, length-map-range_with_len (seat_at_start p) 0 n) in
          let here : seat_at (world_at_start p) k ≡ seat_at_start p k = seat_started p k lt in
          let T : Seat → Type 0 = λ s. AreNumbered k 1 s.state.sends in
          let U : Seat → Type 0 = λ s. s.state.next ≡ 1 + length s.state.sends in
          let V : Seat → Type 0 = λ s. Aimed s.state in
          let W : Seat → Type 0 = λ s. AllByRecursion (Below (world_at_start p)) s.got in
          record {
            own = own_at_start p k;
            numbered = subst T (sym here) (own_numbered p k);
            next = subst U (sym here) (next_start p k);
            aimed = subst V (sym here) (aimed_start p k);
            got = subst W (sym here) tt;
          };
    }

-- Retractions name lower numbers than their own
abbrev pub Backward : Message → Type 0
Backward r = is_event r.kind ≡ false → r.value < r.number

-- so do those that a grant makes
pub made_backward : (p : Parts) (w : World) (g : ℕ × ℕ) → Aimed (seat_at w g.1).state → AllByRecursion Backward (drop (length (seat_at w g.1).state.sends) (seat_after_pair p w g).state.sends)
made_backward p w g a =
    let new = seat_after_pair p w g in
    all_drop Backward (length (seat_at w g.1).state.sends) new.state.sends (each_weaker (Aims new.state.sends) Backward new.state.sends (λ r f e. (f e).1) (aimed_by_grant p w g a).aims)

-- so do all after a grant
pub granted_backward : (p : Parts) (w : World) (g : ℕ × ℕ) → Aimed (seat_at w g.1).state → AllByRecursion Backward w.messages → AllByRecursion Backward (world_after_grant p w g).messages
granted_backward p w g a h = all-append Backward w.messages (drop (length (seat_at w g.1).state.sends) (seat_after_pair p w g).state.sends) h (made_backward p w g a)

-- a test and one that fails
and_false : (b : Bool) → (b && false) ≡ false
and_false true = refl
and_false false = refl

-- a test that fails between two others
never : (a b : Bool) → (a && false && b) ≡ false
never true b = refl
never false b = refl

-- a lower number of the same sender is another message
differs : (m x : Message) → (x.sender ≡ m.sender → x.number < m.number) → is_same m x ≡ false
differs m x f =
    elim (eqb_tells x.sender m.sender) [
      | inl same ↦ (ap (λ b. nat_eq x.time m.time && nat_eq x.sender m.sender && b) (ne_eqb x.number m.number (λ e. let lt : x.number < m.number = f same.1 in omega arith)) ∙ and_false (nat_eq x.time m.time && nat_eq x.sender m.sender))
      | inr other ↦ (ap (λ b. nat_eq x.time m.time && b && nat_eq x.number m.number) other.0 ∙ never (nat_eq x.time m.time) (nat_eq x.number m.number))
    ]

-- a sender's lower numbers
abbrev pub LowerThan : Message → Message → Type 0
LowerThan m x = x.sender ≡ m.sender → x.number < m.number

-- a message is none of those with lower numbers
pub not_got : (m : Message) (got : List Message) → AllByRecursion (LowerThan m) got → list_any (is_same m) got ≡ false
not_got m [] h = refl
not_got m (x ∷ xs) h = ap (λ b. b || list_any (is_same m) xs) (differs m x h.0) ∙ not_got m xs h.1

-- a Retraction with a lower number does not name the message
unaimed : (m r : Message) (b : Bool) → (b ≡ false → r.value < r.number) → LowerThan m r → (not b && nat_eq r.sender m.sender && nat_eq r.value m.number) ≡ false
unaimed m r true f g = refl
unaimed m r false f g =
    elim (eqb_tells r.sender m.sender) [
      | inl same ↦ (ap (λ b. nat_eq r.sender m.sender && b) (ne_eqb r.value m.number (λ e. let lt : r.number < m.number = g same.1 in let back : r.value < r.number = f refl in omega arith)) ∙ and_false (nat_eq r.sender m.sender))
      | inr other ↦ ap (λ b. b && nat_eq r.value m.number) other.0
    ]

-- so none of those sent before takes it back
pub not_retracted : (m : Message) (sent : List Message) → AllByRecursion Backward sent → AllByRecursion (LowerThan m) sent → list_any (retracts m) sent ≡ false
not_retracted m [] b h = refl
not_retracted m (r ∷ rs) b h = ap (λ c. c || list_any (retracts m) rs) (unaimed m r (is_event r.kind) b.0 h.0) ∙ not_retracted m rs b.1 h.1

-- the number of a message by its place
pub number_at : (s n : ℕ) (xs ys : List Message) (m : Message) → AreNumbered s n (xs ++ m ∷ ys) → (m.sender ≡ s) × (m.number ≡ n + length xs)
number_at s n [] ys m h = (h.0, omega (arith, h.1))
number_at s n (x ∷ xs) ys m h = let r = number_at s (n + 1) xs ys m h.2 in (r.0, omega (arith, r.1))

-- the numbers before a place are lower
pub under_at : (s n : ℕ) (xs ys : List Message) (m : Message) → AreNumbered s n (xs ++ ys) → n + length xs ≤ m.number → AllByRecursion (LowerThan m) xs
under_at s n [] ys m h le = tt
under_at s n (x ∷ xs) ys m h le = ((λ e. omega (arith, h.1)), under_at s (n + 1) xs ys m h.2 (omega arith))

-- numbers below the next are lower than a new one
pub lower_of_below : (w : World) (m : Message) (xs : List Message) → (seat_at w m.sender).state.next ≤ m.number → AllByRecursion (Below w) xs → AllByRecursion (LowerThan m) xs
lower_of_below w m xs le h =
    each_weaker (Below w) (LowerThan m) xs (λ x b e. let P : ℕ → Type 0 = λ s. x.number < (seat_at w s).state.next in let here : x.number < (seat_at w m.sender).state.next = subst P e b in omega arith) h

-- what a Retraction names has its time
abbrev pub Timed : Message → Message → Type 0
Timed r x = x.sender ≡ r.sender → x.number ≡ r.value → x.time ≡ r.time

-- what holds of a federate's own messages holds of all of that sender
pub of_own : (P : Message → Type 0) (k : ℕ) (ms : List Message) → AllByRecursion P (filter (from k) ms) → AllByRecursion (λ (x : Message). x.sender ≡ k → P x) ms
of_own P k [] h = tt
of_own P k (x ∷ xs) h =
    elim (eqb_tells x.sender k) [
      | inl same ↦ (let A : Bool → Type 0 = λ b. AllByRecursion P (cond b (x ∷ filter (from k) xs) (filter (from k) xs)) in
          let both : AllByRecursion P (x ∷ filter (from k) xs) = subst A same.0 h in
          ((λ e. both.0), of_own P k xs both.1))
      | inr other ↦ (let A : Bool → Type 0 = λ b. AllByRecursion P (cond b (x ∷ filter (from k) xs) (filter (from k) xs)) in
          ((λ e. absurd (other.1 e)), of_own P k xs (subst A other.0 h)))
    ]

-- what a Retraction of federate k names has its time
pub each_timed : (w : World) (k : ℕ) → OwnSends w k → AllByRecursion (λ (r : Message). is_event r.kind ≡ false → AllByRecursion (λ (x : Message). x.sender ≡ k → x.number ≡ r.value → x.time ≡ r.time) w.messages) (seat_at w k).state.sends
each_timed w k o =
    let sends = (seat_at w k).state.sends in
    each_weaker (Aims sends) (λ (r : Message). is_event r.kind ≡ false → AllByRecursion (λ (x : Message). x.sender ≡ k → x.number ≡ r.value → x.time ≡ r.time) w.messages) sends
    (λ r f e.
    let P : Message → Type 0 = λ x. x.number ≡ r.value → x.time ≡ r.time in
    let A : List Message → Type 0 = AllByRecursion P in
    of_own P k w.messages (subst A (sym o.own) (one_time k 1 sends r o.numbered (f e).0)))
    o.aimed.aims

-- a test that follows from two others adds nothing to them
and_more : (t a b : Bool) → (a ≡ true → b ≡ true → t ≡ true) → (a && b) ≡ (t && (a && b))
and_more t true true f = sym (ap (λ c. c && true) (f refl refl))
and_more t true false f = sym (and_false t)
and_more t false b f = sym (and_false t)

-- a Retraction names what has its key
by_key : (r x : Message) → is_event r.kind ≡ false → Timed r x → retracts x r ≡ has_key r.time r.sender r.value x
by_key r x e t =
    ap (λ b. not b && nat_eq r.sender x.sender && nat_eq r.value x.number) e
    ∙ and_more (nat_eq r.time x.time) (nat_eq r.sender x.sender) (nat_eq r.value x.number) (λ s n. eq-eqb r.time x.time (sym (t (sym (eqb-true r.sender x.sender s)) (sym (eqb-true r.value x.number n)))))

-- and so for each message
pub by_key_each : (r : Message) (xs : List Message) → is_event r.kind ≡ false → AllByRecursion (Timed r) xs → AllByRecursion (λ (x : Message). not (retracts x r) ≡ not (has_key r.time r.sender r.value x)) xs
by_key_each r [] e h = tt
by_key_each r (x ∷ xs) e h = (ap not (by_key r x e h.0), by_key_each r xs e h.1)

-- so taking out by time, sender and number is taking out what it names
pub retraction_by_key : (r : Message) (xs : List Message) → is_event r.kind ≡ false → AllByRecursion (Timed r) xs → filter (λ (x : Message). not (retracts x r)) xs ≡ without_key r.time r.sender r.value xs
retraction_by_key r xs e h = filter_same (λ (x : Message). not (retracts x r)) (λ (x : Message). not (has_key r.time r.sender r.value x)) xs (by_key_each r xs e h)

-- what is told of each world of the run
pub record Told (w : World) : Type 0 where
  pub counted : Counted w
  pub backward : AllByRecursion Backward w.messages

-- the Retractions of the start name lower numbers
starts_backward : (p : Parts) (a n : ℕ) → AllByRecursion Backward (starts p a n)
starts_backward p a zero = tt
starts_backward p a (suc n) =
    let own = (seat_at_start p a).state.sends in
    all-append Backward own (starts p (a + 1) n) (each_weaker (Aims own) Backward own (λ r f e. (f e).1) (aimed_start p a).aims) (starts_backward p (a + 1) n)

-- a turn keeps what is told
pub told_once : (p : Parts) (last : ℕ × ℕ) (w : World) (o : Option (ℕ × ℕ)) → Reached p last w → next_grant p w ≡ o → Told w → Told (world_after_pair p w o)
told_once p last w None r e t = t
told_once p last w (Some g) r e t =
    let within : g.1 < length w.seats = (grants p last w g r e).within in
    record { counted = granted_counted p w g within t.counted; backward = granted_backward p w g (t.counted.each g.1 within).aimed t.backward }

-- so do any number of turns
told_after : (p : Parts) (last : ℕ × ℕ) (w : World) (n : ℕ) → IsFederation p → Reached p last w → Told w → Told (after_grants p n w)
told_after p last w zero f r t = t
told_after p last w (suc n) f r t =
    let o = reached_once p last w (next_grant p w) f r refl in
    told_after p o.0 (next_world p w) n f o.1 (told_once p last w (next_grant p w) r refl t)

-- so it is told of each world of the run
pub told : (p : Parts) (n : ℕ) → IsFederation p → Told (after_grants p n (world_at_start p))
told p n f = told_after p (0, 0) (world_at_start p) n f (started_reached p f) (record { counted = started_counted p; backward = starts_backward p 0 (length p.federates) })
