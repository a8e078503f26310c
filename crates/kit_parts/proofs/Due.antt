-- What is pending by what a federate received, against what is pending in a world of the simulation.
use Rattle.std.proofs.Common.{◌≡◌, ℕ, inl, inr, ◌⊎◌, ◌<◌, ◌≤◌, min, true, false, ◌&&◌, not, List, [], ◌∷◌, fold, Some, arith, refl, ap, ◌∙◌, subst}
use Rattle.std.specs.List.{list_any}
use Rattle.std.proofs.lemmas.Bool.{and_parts, and_from, not-true, cases_Bool, cases_lt, both_ways}
use Rattle.kit_base.specs.declared.message.Message.{Message}
use Rattle.kit_rules.specs.declared.table.Request.{Request}
use Rattle.kit_rules.specs.declared.table.Request.TheVariants as request
use Rattle.kit_rules.specs.Parts.{Parts}
use Rattle.kit_rules.specs.Federation.{IsFederation}
use Rattle.kit_rules.specs.Step.{is_event}
use Rattle.kit_rules.specs.Delivery.{is_pending, pending_messages, is_transported, has_bit, receivers_of, is_same, retracts, due_time}
use Rattle.kit_rules.specs.Simulation.{World, next_grant, world_after_grant, after_grants, simulation}
use Rattle.kit_laws.proofs.Sane.{time_of}
use Rattle.kit_laws.proofs.Pendings.{earliest_low, not_false}
use Rattle.kit_parts.specs.Fronts.{is_transported_to}
use Rattle.kit_parts.proofs.Among.{Among, among_left, among_filter, filter_among, any_among, among_any}
use Rattle.kit_parts.proofs.Ways.{OnWay, made_by}
use Rattle.kit_parts.proofs.Sent.{later_sent, stays_sent}
use Rattle.kit_parts.proofs.Whole.{retraction_same}

-- what it is to be pending
pub record Held (p : Parts) (i : ℕ) (got sent : List Message) (m : Message) : Type 0 where
  pub event : is_event m.kind ≡ true
  pub here : is_transported_to p i m ≡ true
  pub fresh : list_any (is_same m) got ≡ false
  pub kept : list_any (retracts m) sent ≡ false

pub held : (p : Parts) (i : ℕ) (got sent : List Message) (m : Message) → is_pending p i got sent m ≡ true → Held p i got sent m
held p i got sent m h =
    let for = is_transported p m in
    let bit = has_bit (receivers_of p m.sender m.group) i in
    let a = and_parts (is_event m.kind && for && bit && not (list_any (is_same m) got)) (not (list_any (retracts m) sent)) h in
    let b = and_parts (is_event m.kind && for && bit) (not (list_any (is_same m) got)) a.0 in
    let c = and_parts (is_event m.kind && for) bit b.0 in
    let d = and_parts (is_event m.kind) for c.0 in
    record { event = d.0; here = and_from for bit d.1 c.1; fresh = not-true (list_any (is_same m) got) b.1; kept = not-true (list_any (retracts m) sent) a.1 }

pub is_held : (p : Parts) (i : ℕ) (got sent : List Message) (m : Message) → Held p i got sent m → is_pending p i got sent m ≡ true
is_held p i got sent m h =
    let for = is_transported p m in
    let bit = has_bit (receivers_of p m.sender m.group) i in
    let e = and_parts for bit h.here in
    and_from _ _ (and_from _ _ (and_from _ _ (and_from _ _ h.event e.0) e.1) (not_false (list_any (is_same m) got) h.fresh)) (not_false (list_any (retracts m) sent) h.kept)

-- it depends on the Retractions alone
pub held_by : (p : Parts) (i : ℕ) (got a b : List Message) (m : Message) → Held p i got a m → ((r : Message) → Among r b → retracts m r ≡ true → ⊥) → Held p i got b m
held_by p i got a b m h none = record {
  event = h.event;
  here = h.here;
  fresh = h.fresh;
  kept = elim (cases_Bool (list_any (retracts m) b)) [
    | inl t ↦ absurd (let r = among_any (retracts m) b t in none r.0 r.1 r.2)
    | inr e ↦ e
  ];
}

pub not_kept : (p : Parts) (i : ℕ) (got sent : List Message) (m r : Message) → Held p i got sent m → Among r sent → retracts m r ≡ true → ⊥
not_kept p i got sent m r h a e = both_ways (list_any (retracts m) sent) h.kept (any_among (retracts m) r sent a e)

-- pending ones are of the list
pub pending_among : (p : Parts) (i : ℕ) (got sent : List Message) (m : Message) → Among m (pending_messages p i got sent) → Among m sent × Held p i got sent m
pending_among p i got sent m a = let r = filter_among (is_pending p i got sent) m sent a in (r.0, held p i got sent m r.1)

pub among_pending : (p : Parts) (i : ℕ) (got sent : List Message) (m : Message) → Among m sent → Held p i got sent m → Among m (pending_messages p i got sent)
among_pending p i got sent m a h = among_filter (is_pending p i got sent) m sent a (is_held p i got sent m h)

-- the earliest is the time that was given, or that of one of them
pub earliest_cases : (t : ℕ) (ms : List Message) → (fold (λ (t : ℕ) (m : Message). min t m.time) t ms ≡ t) ⊎ ((m : Message) × Among m ms × (m.time ≡ fold (λ (t : ℕ) (m : Message). min t m.time) t ms))
earliest_cases t [] = inl refl
earliest_cases t (x ∷ xs) =
    elim (earliest_cases (min t x.time) xs) [
      | inl e ↦ elim (cases_lt x.time t) [
        | inl lt ↦ inr (x, inl refl, (let l : x.time < t = lt in omega (arith, e)))
        | inr ge ↦ inl (let g : t ≤ x.time = ge in omega (arith, e))
      ]
      | inr f ↦ inr (f.0, inr f.1, f.2)
    ]

pub earliest_among : (t : ℕ) (ms : List Message) (m : Message) → Among m ms → fold (λ (t : ℕ) (m : Message). min t m.time) t ms ≤ m.time
earliest_among t [] m a = elim a [ ]
earliest_among t (x ∷ xs) m (inl e) = let s : x.time ≡ m.time = ap (λ (y : Message). y.time) e in omega (arith, earliest_low (min t x.time) xs)
earliest_among t (x ∷ xs) m (inr a) = earliest_among (min t x.time) xs m a

-- where the pending one that makes a request due is pending elsewhere too, the request is due there no later
pub due_no_later : (r : Request) (ms ns : List Message) → ((m : Message) → Among m ms → m.time ≡ due_time r ms → Among m ns ⊎ (due_time r ns ≤ m.time)) → due_time r ns ≤ due_time r ms
due_no_later (request.Tar t) ms ns f = omega arith
due_no_later (request.Ner t) ms ns f =
    elim (earliest_cases t ms) [
      | inl e ↦ omega (arith, e, earliest_low t ns)
      | inr g ↦ elim (f g.0 g.1 g.2) [
        | inl a ↦ omega (arith, g.2, earliest_among t ns g.0 a)
        | inr le ↦ (let l : due_time (request.Ner t) ns ≤ g.0.time = le in omega (arith, g.2))
      ]
    ]

-- a request is due no later than any pending one, where it is a next event request
pub due_by : (r : Request) (ms : List Message) → due_time r ms ≤ time_of r
due_by (request.Tar t) ms = omega arith
due_by (request.Ner t) ms = earliest_low t ms

-- a world whose next grant is this
module _ (p : Parts) (f : IsFederation p) (n : ℕ) (last : ℕ × ℕ) (w : World) (g : ℕ × ℕ) (way : OnWay p last w) (next : next_grant p w ≡ Some g) (goes : after_grants p n (world_after_grant p w g) ≡ simulation p) where
  -- its messages are of the simulation
  pub of_whole : (m : Message) → Among m w.messages → Among m (simulation p).messages
  of_whole m a =
      let P : World → Type 0 = λ v. Among m v.messages in
      subst P goes (stays_sent p n (world_after_grant p w g) m (among_left m w.messages (made_by p w g) a))

  -- what is pending there at the time of the grant is pending by what was received
  pub pending_there : (i : ℕ) (got received : List Message) (m : Message) → ((r : Message) → Among r received → Among r (simulation p).messages)
      → Among m w.messages → m.time ≤ g.0 → Held p i got w.messages m → Held p i got received m
  pending_there i got received m real a le h = held_by p i got w.messages received m h (λ r in_r e.
      let whole = real r in_r in
      let same = retraction_same p m r f (of_whole m a) whole e in
      elim (later_sent p n last w g r f way next goes whole) [
        | inl old ↦ not_kept p i got w.messages m r h old e
        | inr late ↦ (let l : g.0 < r.time = late in omega (arith, same.0))
      ])

  -- and what is pending by that, and timed below what is known, is pending there
  pub pending_here : (bound i : ℕ) (got received : List Message) (m : Message) → ((r : Message) → Among r (simulation p).messages → is_transported_to p i r ≡ true → r.time < bound → Among r received)
      → Among m (simulation p).messages → m.time < bound → Held p i got received m → Held p i got w.messages m
  pending_here bound i got received m full a lt h = held_by p i got received w.messages m h (λ r in_r e.
      let whole = of_whole r in_r in
      let same = retraction_same p m r f a whole e in
      not_kept p i got received m r h (full r whole (same.1 i ∙ h.here) (omega (arith, same.0))) e)
