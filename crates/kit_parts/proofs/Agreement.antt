-- A grant that is due below what a federate has heard of is the simulation's next block of it.
use Rattle.std.proofs.Common.{◌≡◌, ℕ, inl, inr, ◌<◌, ◌≤◌, true, nat_le, List, [], ◌∷◌, ◌++◌, length, filter, arith, sym, ap, ◌∙◌, subst}
use Rattle.std.proofs.lemmas.Bool.{cases_lt, and_parts, and_from, leb-true, le-leb}
use Rattle.std.proofs.lemmas.List.{take_all}
use Rattle.kit_base.specs.declared.message.Message.{Message}
use Rattle.kit_rules.specs.Parts.{Parts}
use Rattle.kit_rules.specs.Federation.{IsFederation}
use Rattle.kit_rules.specs.Delivery.{is_pending, pending_messages, is_due, due_messages, due_time}
use Rattle.kit_rules.specs.Simulation.{Seat, Block, block, seat_at, seat_due, simulation}
use Rattle.kit_laws.proofs.Least.{next_stands}
use Rattle.kit_laws.proofs.Rising.{last_grants}
use Rattle.kit_parts.specs.Fronts.{seat_after, part, IsFront, is_transported_to}
use Rattle.kit_parts.specs.Cuts.{HasAllBelow}
use Rattle.kit_parts.specs.Laws.{GrantsAgree}
use Rattle.kit_parts.proofs.Among.{Among, contains_among, among_contains, among_filter, filter_among, distinct_filter, pairs_distinct}
use Rattle.kit_parts.proofs.Ways.{next_block}
use Rattle.kit_parts.proofs.Sent.{later_sent, Comes, comes, front_next, seat_then}
use Rattle.kit_parts.proofs.Whole.{one_key, world_distinct, whole_seat, whole_way}
use Rattle.kit_parts.proofs.Due.{Held, held, is_held, pending_among, among_pending, due_no_later, of_whole, pending_there, pending_here}
use Rattle.kit_parts.proofs.Orders.{same_in_order}

-- the parts of being due
pub due_parts : (p : Parts) (i d : ℕ) (got sent : List Message) (m : Message) → Among m (filter (is_due p i d got sent) sent) → Among m sent × (m.time ≤ d) × Held p i got sent m
due_parts p i d got sent m a =
    let r = filter_among (is_due p i d got sent) m sent a in
    let t = and_parts (nat_le m.time d) (is_pending p i got sent m) r.1 in
    (r.0, leb-true m.time d t.0, held p i got sent m t.1)

pub due_from_parts : (p : Parts) (i d : ℕ) (got sent : List Message) (m : Message) → Among m sent → m.time ≤ d → Held p i got sent m → Among m (filter (is_due p i d got sent) sent)
due_from_parts p i d got sent m a le h = among_filter (is_due p i d got sent) m sent a (and_from (nat_le m.time d) (is_pending p i got sent m) (le-leb m.time d le) (is_held p i got sent m h))

-- a federate below the end has a block to come
pub unfinished : (p : Parts) (i : ℕ) (done : List Block) → IsFederation p → i < length p.federates → IsFront p i done → (seat_after p i done).now < p.end → length done < length (part p i)
unfinished p i done f lt front below =
    elim (cases_lt (length done) (length (part p i))) [
      | inl short ↦ short
      | inr ge ↦ absurd (
          let all : done ≡ part p i = front ∙ take_all (length done) (part p i) ge in
          let seat : seat_at (simulation p) i ≡ seat_after p i done = whole_seat p i f lt ∙ ap (seat_after p i) (sym all) in
          let within : i < length (simulation p).seats = omega (arith, (whole_way p f).1.reached.count) in
          omega (arith, last_grants p f i within, ap (λ (s : Seat). s.now) seat))
    ]

-- the world of a next block, and what a federate has heard of
module _ (p : Parts) (f : IsFederation p) (bound i : ℕ) (received : List Message) (heard : HasAllBelow p bound i received) (done : List Block) (c : Comes p i done) where
  real : (r : Message) → Among r received → Among r (simulation p).messages
  real r a = contains_among r (simulation p).messages (heard.sent r (among_contains r received a)).0

  full : (r : Message) → Among r (simulation p).messages → is_transported_to p i r ≡ true → r.time < bound → Among r received
  full r a here lt = contains_among r received (heard.came r (among_contains r (simulation p).messages a) here lt)

  -- it is due when the simulation grants it, or not below the bound
  pub due_agrees : seat_due p received i (seat_at c.world i) < bound → seat_due p received i (seat_at c.world i) ≡ c.due
  due_agrees lt =
      let s = seat_at c.world i in
      let g : ℕ × ℕ = (c.due, i) in
      let st = next_stands p c.world.messages c.world.seats g c.next in
      let here = pending_messages p i s.got received in
      let there = pending_messages p i s.got c.world.messages in
      let later : due_time s.request here ≤ due_time s.request there = due_no_later s.request there here (λ m a e.
      let h = pending_among p i s.got c.world.messages m a in
      elim (cases_lt m.time bound) [
        | inl below ↦ inl (among_pending p i s.got received m (full m (of_whole p f c.left c.last c.world g c.way c.next c.goes m h.0) h.1.here below)
            (pending_there p f c.left c.last c.world g c.way c.next c.goes i s.got received m real h.0 (omega (arith, e, st.due)) h.1))
        | inr past ↦ inr (let q : bound ≤ m.time = past in omega arith)
      ]) in
      let sooner : due_time s.request there ≤ due_time s.request here = due_no_later s.request here there (λ m a e.
      let h = pending_among p i s.got received m a in
      let whole = real m h.0 in
      elim (later_sent p c.left c.last c.world g m f c.way c.next c.goes whole) [
        | inl old ↦ inl (among_pending p i s.got c.world.messages m old (pending_here p f c.left c.last c.world g c.way c.next c.goes bound i s.got received m full whole (omega (arith, e)) h.1))
        | inr late ↦ inr (let q : c.due < m.time = late in omega (arith, st.due))
      ]) in
      omega (arith, st.due)

  -- and the same is delivered, in the same order
  pub deliveries_agree : c.due < bound → due_messages p i c.due (seat_at c.world i).got c.world.messages ≡ due_messages p i c.due (seat_at c.world i).got received
  deliveries_agree lt =
      let s = seat_at c.world i in
      let g : ℕ × ℕ = (c.due, i) in
      let w = c.world.messages in
      same_in_order (λ m. Among m (simulation p).messages) (λ a b x y e. one_key p a b f x y e)
      (filter (is_due p i c.due s.got w) w) (filter (is_due p i c.due s.got received) received)
      (distinct_filter (is_due p i c.due s.got w) w (world_distinct p c.last c.world f c.way))
      (distinct_filter (is_due p i c.due s.got received) received (pairs_distinct received heard.once))
      (λ m a. of_whole p f c.left c.last c.world g c.way c.next c.goes m (due_parts p i c.due s.got w m a).0)
      (λ m a. real m (due_parts p i c.due s.got received m a).0)
      (λ m a. let d = due_parts p i c.due s.got w m a in
      due_from_parts p i c.due s.got received m (full m (of_whole p f c.left c.last c.world g c.way c.next c.goes m d.0) d.2.here (omega (arith, d.1))) d.1
      (pending_there p f c.left c.last c.world g c.way c.next c.goes i s.got received m real d.0 d.1 d.2))
      (λ m a. let d = due_parts p i c.due s.got received m a in
      let whole = real m d.0 in
      elim (later_sent p c.left c.last c.world g m f c.way c.next c.goes whole) [
        | inl old ↦ due_from_parts p i c.due s.got w m old d.1 (pending_here p f c.left c.last c.world g c.way c.next c.goes bound i s.got received m full whole (omega (arith, d.1)) d.2)
        | inr late ↦ absurd (let q : c.due < m.time = late in omega (arith, d.1))
      ])

  -- so the block is the simulation's
  pub block_agrees : seat_due p received i (seat_at c.world i) < bound
      → next_block p c.world (c.due, i) ≡ block i (seat_due p received i (seat_at c.world i)) (due_messages p i (seat_due p received i (seat_at c.world i)) (seat_at c.world i).got received)
  block_agrees lt =
      let s = seat_at c.world i in
      let e = due_agrees lt in
      ap (block i c.due) (deliveries_agree (omega (arith, e))) ∙ ap (λ (d : ℕ). block i d (due_messages p i d s.got received)) (sym e)

pub grants_agree_law : GrantsAgree
grants_agree_law p f bound i lt received heard done front below due =
    let c = comes p i done f front (unfinished p i done f lt front below) in
    let seat = seat_then p i done c lt in
    let P : Seat → Type 0 = λ s. seat_due p received i s < bound in
    let Q : Seat → Type 0 = λ s. IsFront p i (done ++ block i (seat_due p received i s) (due_messages p i (seat_due p received i s) s.got received) ∷ []) in
    let there : seat_due p received i (seat_at c.world i) < bound = subst P (sym seat) due in
    let R : Block → Type 0 = λ b. IsFront p i (done ++ b ∷ []) in
    subst Q seat (subst R (block_agrees p f bound i received heard done c there) (front_next p i done c))
