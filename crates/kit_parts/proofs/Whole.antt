-- Facts of all messages of the simulation: who sent them, and that each is one by sender and number.
use Rattle.std.proofs.Common.{◌≡◌, ◌+◌, ℕ, zero, suc, inl, inr, ◌*◌, ◌<◌, ◌≤◌, Bool, true, false, cond, ◌&&◌, not, nat_eq, nat_le, List, [], ◌∷◌, ◌++◌, length, drop, filter, Option, Some, None, arith, refl, sym, ap, ◌∙◌, subst}
use Rattle.std.specs.declared.cmp.Ordering.TheVariants.{Equal}
use Rattle.std.proofs.lemmas.Bool.{cases_lt, eq-eqb, eqb-true}
use Rattle.std.proofs.lemmas.List.{take-append-drop, get_or_past}
use Rattle.kit_base.specs.declared.message.Message.{Message}
use Rattle.kit_base.specs.Order.{key_cmp}
use Rattle.kit_rules.specs.Parts.{Parts, effective_lookahead}
use Rattle.kit_rules.specs.Federation.{IsFederation}
use Rattle.kit_rules.specs.Delivery.{retracts, receivers_of, has_bit}
use Rattle.kit_rules.specs.Simulation.{Seat, Block, World, seat_at, nobody_seated, world_at_start, world_after_pair, next_grant, next_world, after_grants, simulation}
use Rattle.kit_parts.specs.Fronts.{seat_after, blocks_of, part, IsFront, is_by, is_transported_to}
use Rattle.kit_parts.proofs.Among.{Among, among_filter, filter_among, Distinct}
use Rattle.kit_parts.proofs.Seats.{sound_after, after_more, numbered_one, numbered_distinct, retracts_facts, retraction_like}
use Rattle.kit_rules.specs.Parts.{federate_at, effective_lookahead}
use Rattle.kit_rules.specs.declared.table.Trigger.TheVariants.{Start}
use Rattle.kit_rules.specs.Step.{opening_state}
use Rattle.kit_rules.specs.Simulation.{seat_at_start}
use Rattle.kit_rules.proofs.Lookaheads.{lookahead_is_positive}
use Rattle.kit_laws.proofs.Pendings.{From}
use Rattle.kit_parts.proofs.Among.{each_of}
use Rattle.kit_parts.proofs.Gains.{gain_by_step}
use Rattle.kit_parts.proofs.Sent.{made_or_old}
use Rattle.kit_laws.proofs.OwnSends.{seat_started}
use Rattle.kit_parts.proofs.Ways.{OnWay, started_way, granted_way}
use Rattle.kit_parts.proofs.Orders.{equal_keys}

-- worlds after any number of grants are on the way
way_once : (p : Parts) (last : ℕ × ℕ) (w : World) (o : Option (ℕ × ℕ)) → IsFederation p → OnWay p last w → next_grant p w ≡ o → (l : ℕ × ℕ) × OnWay p l (world_after_pair p w o)
way_once p last w None f way e = (last, way)
way_once p last w (Some g) f way e = (g, granted_way p last w g f way e)

pub way_after : (p : Parts) (n : ℕ) (last : ℕ × ℕ) (w : World) → IsFederation p → OnWay p last w → (l : ℕ × ℕ) × OnWay p l (after_grants p n w)
way_after p zero last w f way = (last, way)
way_after p (suc n) last w f way = let o = way_once p last w (next_grant p w) f way refl in way_after p n o.0 (next_world p w) f o.1

pub whole_way : (p : Parts) → IsFederation p → (l : ℕ × ℕ) × OnWay p l (simulation p)
whole_way p f = way_after p (length p.federates * p.end) (0, 0) (world_at_start p) f (started_way p f)

-- a message of a world is among its sender's sends
pub sender_has : (p : Parts) (last : ℕ × ℕ) (w : World) (m : Message) → OnWay p last w → Among m w.messages → Among m (seat_at w m.sender).state.sends
sender_has p last w m way a =
    let P : List Message → Type 0 = Among m in
    subst P (way.own m.sender) (among_filter (is_by m.sender) m w.messages a (eq-eqb m.sender m.sender refl))

-- and its sender is there
pub sender_within : (p : Parts) (last : ℕ × ℕ) (w : World) (m : Message) → OnWay p last w → Among m w.messages → m.sender < length p.federates
sender_within p last w m way a =
    elim (cases_lt m.sender (length p.federates)) [
      | inl lt ↦ lt
      | inr ge ↦ absurd (
          let P : Seat → Type 0 = λ s. Among m s.state.sends in
          let none : Among m [] = subst P (get_or_past w.seats m.sender nobody_seated (let g : length p.federates ≤ m.sender = ge in omega (arith, way.reached.count))) (sender_has p last w m way a) in
          none)
    ]

-- a send of a federate is a message of the world, with the federate as its sender
pub send_is : (p : Parts) (last : ℕ × ℕ) (w : World) (j : ℕ) (m : Message) → OnWay p last w → Among m (seat_at w j).state.sends → Among m w.messages × (m.sender ≡ j)
send_is p last w j m way a =
    let P : List Message → Type 0 = Among m in
    let r = filter_among (is_by j) m w.messages (subst P (sym (way.own j)) a) in
    (r.0, eqb-true m.sender j r.1)

-- a front is the beginning of the part
pub front_split : (p : Parts) (i : ℕ) (done : List Block) → IsFront p i done → part p i ≡ done ++ drop (length done) (part p i)
front_split p i done front = sym (take-append-drop (length done) (part p i)) ∙ ap (λ xs. xs ++ drop (length done) (part p i)) (sym front)

-- the seat at the end is that after the part
pub whole_seat : (p : Parts) (i : ℕ) → IsFederation p → i < length p.federates → seat_at (simulation p) i ≡ seat_after p i (part p i)
whole_seat p i f lt = (whole_way p f).1.seats i lt

-- what a federate sent at a front is of the simulation
pub front_sent : (p : Parts) (j : ℕ) (done : List Block) (m : Message) → IsFederation p → j < length p.federates → IsFront p j done → Among m (seat_after p j done).state.sends → Among m (simulation p).messages × (m.sender ≡ j)
front_sent p j done m f lt front a =
    let way = whole_way p f in
    let P : List Block → Type 0 = λ bs. Among m (seat_after p j bs).state.sends in
    let Q : Seat → Type 0 = λ s. Among m s.state.sends in
    let all : Among m (seat_after p j (part p j)).state.sends = subst P (sym (front_split p j done front)) (after_more p j done (drop (length done) (part p j)) m a) in
    send_is p way.0 (simulation p) j m way.1 (subst Q (sym (whole_seat p j f lt)) all)

-- the sends of federate i in the whole simulation
abbrev pub own_whole : (p : Parts) (i : ℕ) → List Message
own_whole p i = (seat_after p i (part p i)).state.sends

pub own_in : (p : Parts) (m : Message) → IsFederation p → Among m (simulation p).messages → (m.sender < length p.federates) × Among m (own_whole p m.sender)
own_in p m f a =
    let way = whole_way p f in
    let lt = sender_within p way.0 (simulation p) m way.1 a in
    let Q : Seat → Type 0 = λ s. Among m s.state.sends in
    (lt, subst Q (whole_seat p m.sender f lt) (sender_has p way.0 (simulation p) m way.1 a))

-- those of one sender and number are one
pub one_message : (p : Parts) (a b : Message) → IsFederation p → Among a (simulation p).messages → Among b (simulation p).messages → a.sender ≡ b.sender → a.number ≡ b.number → a ≡ b
one_message p a b f in_a in_b s n =
    let oa = own_in p a f in_a in
    let ob = own_in p b f in_b in
    let P : ℕ → Type 0 = λ k. Among b (own_whole p k) in
    numbered_one a.sender 1 (own_whole p a.sender) a b (sound_after p a.sender (part p a.sender) f oa.0).numbered oa.1 (subst P (sym s) ob.1) n

pub one_key : (p : Parts) (a b : Message) → IsFederation p → Among a (simulation p).messages → Among b (simulation p).messages → key_cmp a b ≡ Equal → a ≡ b
one_key p a b f in_a in_b e = let k = equal_keys a b e in one_message p a b f in_a in_b k.0 k.1

-- all messages of a world differ
pub apart_each : (xs : List Message) → ((j : ℕ) → Distinct (filter (is_by j) xs)) → Distinct xs
apart_each [] d = tt
apart_each (x ∷ xs) d = (
  (λ a. let here : Distinct (x ∷ filter (is_by x.sender) xs) = rw (eq-eqb x.sender x.sender refl) at (d x.sender) in here.0 (among_filter (is_by x.sender) x xs a (eq-eqb x.sender x.sender refl))),
  apart_each xs (λ j. rest (nat_eq x.sender j) x (filter (is_by j) xs) (d j)),
)
  where
    rest : (b : Bool) (x : Message) (ys : List Message) → Distinct (cond b (x ∷ ys) ys) → Distinct ys
    rest true x ys h = h.1
    rest false x ys h = h

pub world_distinct : (p : Parts) (last : ℕ × ℕ) (w : World) → IsFederation p → OnWay p last w → Distinct w.messages
world_distinct p last w f way = apart_each w.messages (λ j. elim (cases_lt j (length p.federates)) [
  | inl lt ↦ (let P : List Message → Type 0 = Distinct in
      let Q : Seat → Type 0 = λ s. Distinct s.state.sends in
      subst P (sym (way.own j)) (subst Q (sym (way.seats j lt)) (numbered_distinct j 1 (seat_after p j (blocks_of j w.blocks)).state.sends (sound_after p j (blocks_of j w.blocks) f lt).numbered)))
  | inr ge ↦ (let P : List Message → Type 0 = Distinct in
      let Q : Seat → Type 0 = λ s. Distinct s.state.sends in
      subst P (sym (way.own j)) (subst Q (sym (get_or_past w.seats j nobody_seated (let g : length p.federates ≤ j = ge in omega (arith, way.reached.count)))) tt))
])

-- a Retraction has the time and the group of what it takes back
pub retraction_group : (p : Parts) (m r : Message) → IsFederation p → Among m (simulation p).messages → Among r (simulation p).messages → retracts m r ≡ true → (r.time ≡ m.time) × (r.group ≡ m.group)
retraction_group p m r f in_m in_r e =
    let om = own_in p m f in_m in
    let o = own_in p r f in_r in
    let s : r.sender ≡ m.sender = (retracts_facts m r e).1 in
    let P : ℕ → Type 0 = λ k. Among r (own_whole p k) in
    retraction_like m.sender (seat_after p m.sender (part p m.sender)).state m r (sound_after p m.sender (part p m.sender) f om.0) om.1 (subst P s o.1) e

-- so it is for the same federates
pub retraction_same : (p : Parts) (m r : Message) → IsFederation p → Among m (simulation p).messages → Among r (simulation p).messages → retracts m r ≡ true → (r.time ≡ m.time) × ((i : ℕ) → is_transported_to p i r ≡ is_transported_to p i m)
retraction_same p m r f in_m in_r e =
    let s : r.sender ≡ m.sender = (retracts_facts m r e).1 in
    let like = retraction_group p m r f in_m in_r e in (
      like.0,
      λ i. ap (λ (t : ℕ). nat_le t p.end && not (nat_eq (receivers_of p r.sender r.group) 0) && has_bit (receivers_of p r.sender r.group) i) like.0
          ∙ ap (λ (t : ℕ). nat_le m.time p.end && not (nat_eq (receivers_of p t r.group) 0) && has_bit (receivers_of p t r.group) i) s
          ∙ ap (λ (t : ℕ). nat_le m.time p.end && not (nat_eq (receivers_of p m.sender t) 0) && has_bit (receivers_of p m.sender t) i) like.1,
    )

-- each message of the simulation is timed after the start
later_once : (p : Parts) (last : ℕ × ℕ) (w : World) (m : Message) (o : Option (ℕ × ℕ)) → IsFederation p → OnWay p last w → next_grant p w ≡ o → (Among m w.messages → 0 < m.time) → (l : ℕ × ℕ) × OnWay p l (world_after_pair p w o) × (Among m (world_after_pair p w o).messages → 0 < m.time)
later_once p last w m None f way e h = (last, way, h)
later_once p last w m (Some g) f way e h = (
  g,
  granted_way p last w g f way e,
  λ a. elim (made_or_old p last w g f way e m a) [
    | inl old ↦ h old
    | inr late ↦ (let l : g.0 + effective_lookahead p g.1 ≤ m.time = late in omega (arith, lookahead_is_positive p g.1 f))
  ],
)

later_after : (p : Parts) (n : ℕ) (last : ℕ × ℕ) (w : World) (m : Message) → IsFederation p → OnWay p last w → (Among m w.messages → 0 < m.time) → Among m (after_grants p n w).messages → 0 < m.time
later_after p zero last w m f way h a = h a
later_after p (suc n) last w m f way h a = let o = later_once p last w m (next_grant p w) f way refl h in later_after p n o.0 (next_world p w) m f o.1 o.2 a

pub message_later : (p : Parts) (m : Message) → IsFederation p → Among m (simulation p).messages → 0 < m.time
message_later p m f a = later_after p (length p.federates * p.end) (0, 0) (world_at_start p) m f (started_way p f) (λ b.
    let way = started_way p f in
    let lt = sender_within p (0, 0) (world_at_start p) m way b in
    let P : Seat → Type 0 = λ s. Among m s.state.sends in
    let own : Among m (seat_at_start p m.sender).state.sends = subst P (seat_started p m.sender lt) (sender_has p (0, 0) (world_at_start p) m way b) in
    let k = gain_by_step p m.sender Start 0 0 (opening_state (federate_at p m.sender)) f lt in
    let Q : List Message → Type 0 = Among m in
    let l : 0 + effective_lookahead p m.sender ≤ m.time = each_of (From (0 + effective_lookahead p m.sender)) m k.made k.late (subst Q k.sends own) in
    omega (arith, lookahead_is_positive p m.sender f)) a
