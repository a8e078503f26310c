-- At a cut nobody will send below the bound.
use Rattle.std.proofs.Common.{◌≡◌, ℕ, zero, suc, inl, inr, ◌⊎◌, ◌+◌, ◌*◌, ◌<◌, ◌≤◌, Bool, true, false, List, [], ◌∷◌, ◌++◌, length, take, drop, Option, Some, None, IfSome, arith, refl, sym, ap, ◌∙◌, subst, length-append}
use Rattle.std.specs.List.{Contains}
use Rattle.std.proofs.lemmas.Bool.{cases_eq, cases_lt, lt-ltb}
use Rattle.kit_base.specs.declared.message.Message.{Message}
use Rattle.kit_rules.specs.Federation.{IsFederation}
use Rattle.kit_rules.specs.Delivery.{pending_messages, due_time}
use Rattle.kit_rules.specs.Parts.{Parts, federate_at, effective_lookahead}
use Rattle.kit_rules.specs.declared.table.Trigger.TheVariants.{Start}
use Rattle.kit_rules.specs.Step.{opening_state}
use Rattle.std.proofs.lemmas.List.{get_or-set_other, get_or-set_same}
use Rattle.kit_rules.specs.Simulation.{World, Seat, Block, seat_at, nobody_seated, seat_due, next_grant, world_at_start, seat_at_start, world_after_grant, seat_after_pair, world_after_pair, after_grants, simulation}
use Rattle.kit_laws.proofs.Least.{next_stands}
use Rattle.kit_laws.proofs.Pendings.{From}
use Rattle.kit_laws.proofs.Rising.{grants}
use Rattle.kit_parts.specs.Fronts.{seat_after, blocks_of, part, IsFront, Standing, sent_by, sends_after, AreFront}
use Rattle.kit_parts.specs.Promises.{promise_after, seat_promise, promise_at}
use Rattle.kit_parts.specs.Cuts.{Cut}
use Rattle.kit_parts.specs.Laws.{NobodySendsBelow, AllIsHeard}
use Rattle.kit_parts.proofs.Among.{Among, contains_among, among_contains, each_of}
use Rattle.kit_parts.proofs.Gains.{gain_by_step}
use Rattle.kit_parts.proofs.Seats.{after_more}
use Rattle.kit_laws.proofs.OwnSends.{seat_started}
use Rattle.kit_parts.proofs.Ways.{OnWay, started_way, granted_way, next_block, blocks_here, blocks_there}
use Rattle.kit_parts.proofs.Sent.{granted_within, made_or_old, front_of}
use Rattle.kit_parts.proofs.Whole.{sender_has, sender_within, send_is, front_sent, whole_way}
use Rattle.kit_parts.proofs.Due.{pending_among, among_pending, due_no_later, pending_there}

-- federate j of a world is not past its front, of which these are the blocks
pub record Within (p : Parts) (j : ℕ) (q : Standing) (w : World) : Type 0 where
  pub blocks : List Block
  pub done : q.done ≡ Some blocks
  pub short : length (blocks_of j w.blocks) ≤ length blocks

-- all that is sent in a world and timed below the bound is in the fronts, and who is past its front sends no more below it
pub record Safe (p : Parts) (bound : ℕ) (all : ℕ → Standing) (w : World) : Type 0 where
  pub sent : (m : Message) → Among m w.messages → m.time < bound → Among m (sent_by p m.sender (all m.sender))
  pub each : (j : ℕ) → j < length p.federates → Within p j (all j) w ⊎ (bound ≤ (seat_at w j).now + effective_lookahead p j)

-- a prefix of a front
short_front : (p : Parts) (j : ℕ) (xs ys : List Block) → IsFront p j xs → IsFront p j ys → length xs ≤ length ys → (more : List Block) × (ys ≡ xs ++ more)
short_front p j xs ys fx fy le =
    let both : xs ≡ take (length xs) ys = fx ∙ sym (ap (take (length xs)) fy ∙ take_less (length xs) (length ys) (part p j) le) in
    (drop (length xs) ys, sym (take_drop (length xs) ys) ∙ ap (λ zs. zs ++ drop (length xs) ys) (sym both))
  where
    take_less : {X : Type 0} (a b : ℕ) (xs : List X) → a ≤ b → take a (take b xs) ≡ take a xs
    take_less zero b xs le = refl
    take_less (suc a) zero xs le = absurd (omega arith)
    take_less (suc a) (suc b) [] le = refl
    take_less (suc a) (suc b) (x ∷ xs) le = ap (λ ys. x ∷ ys) (take_less a b xs (omega arith))

    take_drop : {X : Type 0} (n : ℕ) (xs : List X) → take n xs ++ drop n xs ≡ xs
    take_drop zero xs = refl
    take_drop (suc n) [] = refl
    take_drop (suc n) (x ∷ xs) = ap (λ ys. x ∷ ys) (take_drop n xs)

-- what a federate within its front sent is among what its front sent
pub within_sent : (p : Parts) (last : ℕ × ℕ) (w : World) (n j : ℕ) (q : Standing) (m : Message) → OnWay p last w → after_grants p n w ≡ simulation p → j < length p.federates → AreFront p j q → Within p j q w
    → Among m (seat_at w j).state.sends → Among m (sent_by p j q)
within_sent p last w n j q m way goes lt front within a =
    let F : Option (List Block) → Type 0 = λ o. IfSome o (IsFront p j) in
    let is : IsFront p j within.blocks = subst F within.done front in
    let more = short_front p j (blocks_of j w.blocks) within.blocks (front_of p j n w goes) is within.short in
    let P : Seat → Type 0 = λ s. Among m s.state.sends in
    let Q : List Block → Type 0 = λ bs. Among m (seat_after p j bs).state.sends in
    let R : Option (List Block) → Type 0 = λ o. Among m (sends_after p j o) in
    subst R (sym within.done) (subst Q (sym more.1) (after_more p j (blocks_of j w.blocks) more.0 m (subst P (way.seats j lt) a)))

module _ (p : Parts) (f : IsFederation p) (bound : ℕ) (all : ℕ → Standing) (cut : Cut p bound all) where
  -- whatever was received is of the simulation
  pub received_real : (i : ℕ) → i < length p.federates → (r : Message) → Among r (all i).received → Among r (simulation p).messages
  received_real i lt r a =
      let s = cut.sent i lt r (among_contains r (all i).received a) in
      of r (all r.sender).done (cut.fronts r.sender s.0) (contains_among r (sent_by p r.sender (all r.sender)) s.1) s.0
    where
      of : (r : Message) (o : Option (List Block)) → IfSome o (IsFront p r.sender) → Among r (sends_after p r.sender o) → r.sender < length p.federates → Among r (simulation p).messages
      of r None front a lt = elim a [ ]
      of r (Some done) front a lt = (front_sent p r.sender done r f lt front a).0

  -- a federate at its front, which is granted next: the bound is not above its time and its lookahead
  pub caught_up : (n : ℕ) (last : ℕ × ℕ) (w : World) (g : ℕ × ℕ) → OnWay p last w → (next : next_grant p w ≡ Some g) → after_grants p n (world_after_grant p w g) ≡ simulation p → Safe p bound all w
      → (within : Within p g.1 (all g.1) w) → length within.blocks ≤ length (blocks_of g.1 w.blocks) → after_grants p (suc n) w ≡ simulation p → bound ≤ g.0 + effective_lookahead p g.1
  caught_up n last w g way next goes safe within le whole =
      let i = g.1 in
      let lt = granted_within p last w g way next in
      let gr = grants p last w g way.reached next in
      let st = next_stands p w.messages w.seats g next in
      let F : Option (List Block) → Type 0 = λ o. IfSome o (IsFront p i) in
      let is : IsFront p i within.blocks = subst F within.done (cut.fronts i lt) in
      let same : blocks_of i w.blocks ≡ within.blocks = front_of p i (suc n) w whole ∙ ap (λ (c : ℕ). take c (part p i)) (let e : length (blocks_of i w.blocks) ≡ length within.blocks = omega (arith, within.short) in e) ∙ sym is in
      let s = seat_at w i in
      let seat : s ≡ seat_after p i within.blocks = way.seats i lt ∙ ap (seat_after p i) same in
      let R : Option (List Block) → Type 0 = λ o. bound ≤ promise_after p i (all i).waits (all i).received o in
      let Q : Seat → Type 0 = λ s. bound ≤ seat_promise p i (all i).waits (all i).received s in
      let promised : bound ≤ seat_promise p i (all i).waits (all i).received s = subst Q (sym seat) (subst R within.done (cut.promised i lt)) in
      let now : bound ≤ promise_at p.end (effective_lookahead p i) s.now (seat_due p (all i).received i s) (all i).waits = rw (lt-ltb s.now p.end st.below) at promised in
      by (all i).waits now
    where
      by : (waits : Bool) → bound ≤ promise_at p.end (effective_lookahead p g.1) (seat_at w g.1).now (seat_due p (all g.1).received g.1 (seat_at w g.1)) waits → bound ≤ g.0 + effective_lookahead p g.1
      by true h = let gr = grants p last w g way.reached next in omega (arith, h, gr.forward)
      by false h =
          let st = next_stands p w.messages w.seats g next in
          let lt = granted_within p last w g way next in
          let s = seat_at w g.1 in
          elim (cases_lt g.0 bound) [
            | inr ge ↦ (let q : bound ≤ g.0 = ge in omega arith)
            | inl below ↦ (let q : g.0 < bound = below in
                let sooner : due_time s.request (pending_messages p g.1 s.got (all g.1).received) ≤ due_time s.request (pending_messages p g.1 s.got w.messages) =
                due_no_later s.request (pending_messages p g.1 s.got w.messages) (pending_messages p g.1 s.got (all g.1).received) (λ m a e.
                let h2 = pending_among p g.1 s.got w.messages m a in
                let time : m.time ≡ g.0 = e ∙ sym st.due in
                let sender = sender_within p last w m way h2.0 in
                let sent : Among m (sent_by p m.sender (all m.sender)) = safe.sent m h2.0 (omega (arith, time)) in
                let came : Contains (all g.1).received m = cut.came g.1 m.sender lt sender m (among_contains m (sent_by p m.sender (all m.sender)) sent) h2.1.here (omega (arith, time)) in
                inl (among_pending p g.1 s.got (all g.1).received m (contains_among m (all g.1).received came)
                (pending_there p f n last w g way next goes g.1 s.got (all g.1).received m (received_real g.1 lt) h2.0 (omega (arith, time)) h2.1))) in
                omega (arith, h, sooner, st.due))
          ]

  -- what a grant leaves of it
  each_granted : (n : ℕ) (last : ℕ × ℕ) (w : World) (g : ℕ × ℕ) → OnWay p last w → (next : next_grant p w ≡ Some g) → after_grants p n (world_after_grant p w g) ≡ simulation p → Safe p bound all w → after_grants p (suc n) w ≡ simulation p
      → (j : ℕ) → j < length p.federates → Within p j (all j) (world_after_grant p w g) ⊎ (bound ≤ (seat_at (world_after_grant p w g) j).now + effective_lookahead p j)
  each_granted n last w g way next goes safe whole j lt =
      let gr = grants p last w g way.reached next in
      let here : seat_at (world_after_grant p w g) g.1 ≡ seat_after_pair p w g = get_or-set_same w.seats g.1 (seat_after_pair p w g) nobody_seated gr.within in
      let Q : ℕ → Type 0 = λ k. Within p k (all k) (world_after_grant p w g) ⊎ (bound ≤ (seat_at (world_after_grant p w g) k).now + effective_lookahead p k) in
      let N : Seat → Type 0 = λ s. bound ≤ s.now + effective_lookahead p g.1 in
      let one : length (blocks_of g.1 (world_after_grant p w g).blocks) ≡ length (blocks_of g.1 w.blocks) + 1 = ap length (blocks_here g.1 w.blocks (next_block p w g) refl) ∙ length-append (blocks_of g.1 w.blocks) (next_block p w g ∷ []) in
      elim (cases_eq j g.1) [
        | inl e ↦ subst Q (sym e) (elim (safe.each g.1 (granted_within p last w g way next)) [
          | inl within ↦ elim (cases_lt (length (blocks_of g.1 w.blocks)) (length within.blocks)) [
            | inl short ↦ inl (record { blocks = within.blocks; done = within.done; short = (let s : length (blocks_of g.1 w.blocks) < length within.blocks = short in omega arith) })
            | inr full ↦ inr (subst N (sym here) (caught_up n last w g way next goes safe within full whole))
          ]
          | inr past ↦ inr (subst N (sym here) (let q : bound ≤ (seat_at w g.1).now + effective_lookahead p g.1 = past in omega (arith, gr.forward)))
        ])
        | inr ne ↦ (let M : Seat → Type 0 = λ s. bound ≤ s.now + effective_lookahead p j in
            let same : seat_at (world_after_grant p w g) j ≡ seat_at w j = get_or-set_other w.seats g.1 j (seat_after_pair p w g) nobody_seated ne in
            let few : blocks_of j (world_after_grant p w g).blocks ≡ blocks_of j w.blocks = blocks_there j w.blocks (next_block p w g) (λ q. ne (sym q)) in
            elim (safe.each j lt) [
              | inl within ↦ inl (record { blocks = within.blocks; done = within.done; short = omega (arith, ap length few, within.short) })
              | inr past ↦ inr (subst M (sym same) past)
            ])
      ]

  safe_granted : (n : ℕ) (last : ℕ × ℕ) (w : World) (g : ℕ × ℕ) → OnWay p last w → (next : next_grant p w ≡ Some g) → after_grants p n (world_after_grant p w g) ≡ simulation p → Safe p bound all w → after_grants p (suc n) w ≡ simulation p → Safe p bound all (world_after_grant p w g)
  safe_granted n last w g way next goes safe whole =
      let gr = grants p last w g way.reached next in
      let way2 = granted_way p last w g f way next in
      let each2 = each_granted n last w g way next goes safe whole in
      record {
        sent = λ m a lt.
            let within = sender_within p g (world_after_grant p w g) m way2 a in
            let has = sender_has p g (world_after_grant p w g) m way2 a in
            elim (made_or_old p last w g f way next m a) [
              | inl old ↦ safe.sent m old lt
              | inr late ↦ elim (cases_eq m.sender g.1) [
                | inr ne ↦ (let P : Seat → Type 0 = λ s. Among m s.state.sends in
                    let same : seat_at (world_after_grant p w g) m.sender ≡ seat_at w m.sender = get_or-set_other w.seats g.1 m.sender (seat_after_pair p w g) nobody_seated ne in
                    safe.sent m (send_is p last w m.sender m way (subst P same has)).0 lt)
                | inl e ↦ elim (each2 m.sender within) [
                  | inl inside ↦ within_sent p g (world_after_grant p w g) n m.sender (all m.sender) m way2 goes within (cut.fronts m.sender within) inside has
                  | inr past ↦ absurd (
                      let N : Seat → Type 0 = λ s. bound ≤ s.now + effective_lookahead p g.1 in
                      let R : ℕ → Type 0 = λ k. bound ≤ (seat_at (world_after_grant p w g) k).now + effective_lookahead p k in
                      let q : bound ≤ g.0 + effective_lookahead p g.1 = subst N (get_or-set_same w.seats g.1 (seat_after_pair p w g) nobody_seated gr.within) (subst R e past) in
                      let l : g.0 + effective_lookahead p g.1 ≤ m.time = late in
                      omega arith)
                ]
              ]
            ];
        each = each2;
      }

  safe_once : (n : ℕ) (last : ℕ × ℕ) (w : World) → OnWay p last w → Safe p bound all w
      → ((l : ℕ × ℕ) (v : World) → OnWay p l v → after_grants p n v ≡ simulation p → Safe p bound all v → Safe p bound all (simulation p))
      → (o : Option (ℕ × ℕ)) → next_grant p w ≡ o → after_grants p (suc n) w ≡ simulation p → after_grants p n (world_after_pair p w o) ≡ simulation p → Safe p bound all (simulation p)
  safe_once n last w way safe rest None e whole goes = rest last w way goes safe
  safe_once n last w way safe rest (Some g) e whole goes = rest g (world_after_grant p w g) (granted_way p last w g f way e) goes (safe_granted n last w g way e goes safe whole)

  safe_after : (n : ℕ) (last : ℕ × ℕ) (w : World) → OnWay p last w → after_grants p n w ≡ simulation p → Safe p bound all w → Safe p bound all (simulation p)
  safe_after zero last w way goes safe = subst (Safe p bound all) goes safe
  safe_after (suc n) last w way goes safe = safe_once n last w way safe (λ l v q h s. safe_after n l v q h s) (next_grant p w) refl goes goes

  -- the start
  start_late : (j : ℕ) (m : Message) → j < length p.federates → Among m (seat_at_start p j).state.sends → effective_lookahead p j ≤ m.time
  start_late j m lt a =
      let k = gain_by_step p j Start 0 0 (opening_state (federate_at p j)) f lt in
      let P : List Message → Type 0 = λ xs. Among m xs → effective_lookahead p j ≤ m.time in
      subst P (sym k.sends) (λ b. let l : From (0 + effective_lookahead p j) m = each_of (From (0 + effective_lookahead p j)) m k.made k.late b in omega arith) a

  each_started : (j : ℕ) → j < length p.federates → (o : Option (List Block)) → (all j).done ≡ o → Within p j (all j) (world_at_start p) ⊎ (bound ≤ effective_lookahead p j)
  each_started j lt (Some done) e = inl (record { blocks = done; done = e; short = omega arith })
  each_started j lt None e =
      let R : Option (List Block) → Type 0 = λ o. bound ≤ promise_after p j (all j).waits (all j).received o in
      let h : bound ≤ promise_at p.end (effective_lookahead p j) 0 0 true = subst R e (cut.promised j lt) in inr (omega arith)

  safe_started : Safe p bound all (world_at_start p)
  safe_started =
      let way = started_way p f in
      record {
        sent = λ m a lt.
            let within = sender_within p (0, 0) (world_at_start p) m way a in
            let has = sender_has p (0, 0) (world_at_start p) m way a in
            let P : Seat → Type 0 = λ s. Among m s.state.sends in
            elim (each_started m.sender within (all m.sender).done refl) [
              | inl inside ↦ within_sent p (0, 0) (world_at_start p) (length p.federates * p.end) m.sender (all m.sender) m way refl within (cut.fronts m.sender within) inside has
              | inr past ↦ absurd (let q : bound ≤ effective_lookahead p m.sender = past in omega (arith, start_late m.sender m within (subst P (seat_started p m.sender within) has)))
            ];
        each = λ j lt. elim (each_started j lt (all j).done refl) [
          | inl inside ↦ inl inside
          | inr past ↦ inr (let N : Seat → Type 0 = λ s. bound ≤ s.now + effective_lookahead p j in subst N (sym (seat_started p j lt)) (let q : bound ≤ effective_lookahead p j = past in omega arith))
        ];
      }

  -- in the whole simulation
  pub safe_whole : Safe p bound all (simulation p)
  safe_whole = safe_after (length p.federates * p.end) (0, 0) (world_at_start p) (started_way p f) refl safe_started

pub nobody_sends_below_law : NobodySendsBelow
nobody_sends_below_law p f bound all cut m c lt =
    let a = contains_among m (simulation p).messages c in
    let way = whole_way p f in
    (sender_within p way.0 (simulation p) m way.1 a, among_contains m (sent_by p m.sender (all m.sender)) ((safe_whole p f bound all cut).sent m a lt))

pub all_is_heard_law : AllIsHeard
all_is_heard_law p f bound all cut i lt = record {
  sent = λ m c. (among_contains m (simulation p).messages (received_real p f bound all cut i lt m (contains_among m (all i).received c)), (cut.sent i lt m c).2);
  once = cut.once i lt;
  came = λ m c here below. let s = nobody_sends_below_law p f bound all cut m c below in cut.came i m.sender lt s.0 m s.1 here below;
}
