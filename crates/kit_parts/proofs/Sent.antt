-- What is sent later is timed later; and the world in which a federate's next block comes.
use Rattle.std.proofs.Common.{◌≡◌, ℕ, zero, suc, inl, inr, ◌⊎◌, ◌+◌, ◌*◌, ◌<◌, ◌≤◌, List, [], ◌∷◌, ◌++◌, length, take, drop, Option, Some, None, arith, refl, sym, ap, ◌∙◌, subst, add-one, length-append}
use Rattle.std.specs.List.{AllByRecursion}
use Rattle.std.proofs.lemmas.Bool.{cases_eq, cases_lt}
use Rattle.std.proofs.lemmas.List.{append-nil, append_assoc}
use Rattle.std.proofs.lemmas.List.Elements.{filter-append}
use Rattle.std.proofs.Math.Seq.{drop-append_seam}
use Rattle.kit_base.specs.declared.message.Message.{Message}
use Rattle.kit_rules.specs.Parts.{Parts, effective_lookahead}
use Rattle.kit_rules.specs.Federation.{IsFederation}
use Rattle.kit_rules.specs.Delivery.{due_messages}
use Rattle.kit_rules.specs.Simulation.{Block, World, seat_at, world_at_start, world_after_grant, world_after_pair, next_grant, next_world, after_grants, simulation}
use Rattle.kit_rules.proofs.Lookaheads.{lookahead_is_positive}
use Rattle.kit_laws.proofs.Least.{Rank}
use Rattle.kit_laws.proofs.Pendings.{From}
use Rattle.kit_laws.proofs.Rising.{grants, after_suc}
use Rattle.kit_parts.specs.Fronts.{seat_after, is_grant_of, blocks_of, part, IsFront}
use Rattle.kit_parts.proofs.Among.{Among, among_left, among_cases, each_of}
use Rattle.kit_parts.proofs.Gains.{gain_by_block}
use Rattle.kit_parts.proofs.Ways.{OnWay, started_way, granted_way, next_block, made_by, blocks_here, blocks_there}

-- a granted federate is there
pub granted_within : (p : Parts) (last : ℕ × ℕ) (w : World) (g : ℕ × ℕ) → OnWay p last w → next_grant p w ≡ Some g → g.1 < length p.federates
granted_within p last w g way next = let gr = grants p last w g way.reached next in omega (arith, gr.within, way.reached.count)

-- what a grant makes is timed its time and the effective lookahead or later
pub made_late : (p : Parts) (w : World) (g : ℕ × ℕ) → IsFederation p → g.1 < length p.federates → AllByRecursion (From (g.0 + effective_lookahead p g.1)) (made_by p w g)
made_late p w g f lt =
    let s = (seat_at w g.1).state in
    let k = gain_by_block p g.1 g.0 s (due_messages p g.1 g.0 (seat_at w g.1).got w.messages) f lt in
    let P : List Message → Type 0 = AllByRecursion (From (g.0 + effective_lookahead p g.1)) in
    subst P (sym (ap (drop (length s.sends)) k.sends ∙ drop-append_seam s.sends k.made)) k.late

-- a message of the world after a grant was there before, or is late
pub made_or_old : (p : Parts) (last : ℕ × ℕ) (w : World) (g : ℕ × ℕ) → IsFederation p → OnWay p last w → next_grant p w ≡ Some g → (m : Message) → Among m (world_after_grant p w g).messages
    → Among m w.messages ⊎ (g.0 + effective_lookahead p g.1 ≤ m.time)
made_or_old p last w g f way next m a =
    elim (among_cases m w.messages (made_by p w g) a) [
      | inl old ↦ inl old
      | inr new ↦ inr (each_of (From (g.0 + effective_lookahead p g.1)) m (made_by p w g) (made_late p w g f (granted_within p last w g way next)) new)
    ]

-- what is sent by the last of so many grants is there, or timed after the last grant before them
sent_once : (p : Parts) (last : ℕ × ℕ) (w : World) (n : ℕ) (m : Message) → IsFederation p → OnWay p last w
    → ((l : ℕ × ℕ) (v : World) → OnWay p l v → Among m (after_grants p n v).messages → Among m v.messages ⊎ (l.0 < m.time))
    → (o : Option (ℕ × ℕ)) → next_grant p w ≡ o → Among m (after_grants p n (world_after_pair p w o)).messages → Among m w.messages ⊎ (last.0 < m.time)
sent_once p last w n m f way rest None e a = rest last w way a
sent_once p last w n m f way rest (Some g) e a =
    let gr = grants p last w g way.reached e in
    let lt = granted_within p last w g way e in
    let few : length p.federates ≤ 16 = f.federates.count.1 in
    let one = lookahead_is_positive p g.1 f in
    elim (rest g (world_after_grant p w g) (granted_way p last w g f way e) a) [
      | inl there ↦ elim (made_or_old p last w g f way e m there) [
        | inl old ↦ inl old
        | inr late ↦ inr (let late' : g.0 + effective_lookahead p g.1 ≤ m.time = late in let up : last.0 ≤ g.0 = rise last g gr.rises (omega (arith, lt)) in omega arith)
      ]
      | inr late ↦ inr (let late' : g.0 < m.time = late in let up : last.0 ≤ g.0 = rise last g gr.rises (omega (arith, lt)) in omega arith)
    ]
  where
    rise : (a b : ℕ × ℕ) → Rank a < Rank b → b.1 < 16 → a.0 ≤ b.0
    rise a b h few = omega arith

sent_after : (p : Parts) (n : ℕ) (last : ℕ × ℕ) (w : World) (m : Message) → IsFederation p → OnWay p last w → Among m (after_grants p n w).messages → Among m w.messages ⊎ (last.0 < m.time)
sent_after p zero last w m f way a = inl a
sent_after p (suc n) last w m f way a = sent_once p last w n m f way (λ l v q b. sent_after p n l v m f q b) (next_grant p w) refl a

-- Where the next grant is at a time, each message of the simulation is already sent or timed after that.
pub later_sent : (p : Parts) (n : ℕ) (last : ℕ × ℕ) (w : World) (g : ℕ × ℕ) (m : Message) → IsFederation p → OnWay p last w → next_grant p w ≡ Some g → after_grants p n (world_after_grant p w g) ≡ simulation p
    → Among m (simulation p).messages → Among m w.messages ⊎ (g.0 < m.time)
later_sent p n last w g m f way next goes a =
    let P : World → Type 0 = λ v. Among m v.messages in
    let lt = granted_within p last w g way next in
    let one = lookahead_is_positive p g.1 f in
    elim (sent_after p n g (world_after_grant p w g) m f (granted_way p last w g f way next) (subst P (sym goes) a)) [
      | inl there ↦ elim (made_or_old p last w g f way next m there) [
        | inl old ↦ inl old
        | inr late ↦ inr (let late' : g.0 + effective_lookahead p g.1 ≤ m.time = late in omega arith)
      ]
      | inr late ↦ inr late
    ]

-- what was sent stays sent
old_once : (p : Parts) (w : World) (m : Message) (o : Option (ℕ × ℕ)) → Among m w.messages → Among m (world_after_pair p w o).messages
old_once p w m None a = a
old_once p w m (Some g) a = among_left m w.messages (made_by p w g) a

pub stays_sent : (p : Parts) (n : ℕ) (w : World) (m : Message) → Among m w.messages → Among m (after_grants p n w).messages
stays_sent p zero w m a = a
stays_sent p (suc n) w m a = stays_sent p n (next_world p w) m (old_once p w m (next_grant p w) a)

-- grants add blocks
blocks_once : (p : Parts) (w : World) (o : Option (ℕ × ℕ)) → (more : List Block) × ((world_after_pair p w o).blocks ≡ w.blocks ++ more)
blocks_once p w None = ([], sym (append-nil w.blocks))
blocks_once p w (Some g) = (next_block p w g ∷ [], refl)

pub blocks_grow : (p : Parts) (n : ℕ) (w : World) → (more : List Block) × ((after_grants p n w).blocks ≡ w.blocks ++ more)
blocks_grow p zero w = ([], sym (append-nil w.blocks))
blocks_grow p (suc n) w =
    let a = blocks_once p w (next_grant p w) in
    let b = blocks_grow p n (next_world p w) in
    (a.0 ++ b.0, b.1 ∙ ap (λ xs. xs ++ b.0) a.1 ∙ append_assoc w.blocks a.0 b.0)

-- blocks of a world on the way are the first of the part
pub front_of : (p : Parts) (i n : ℕ) (w : World) → after_grants p n w ≡ simulation p → IsFront p i (blocks_of i w.blocks)
front_of p i n w goes =
    let b = blocks_grow p n w in
    let whole : part p i ≡ blocks_of i w.blocks ++ blocks_of i b.0 = ap (λ (v : World). blocks_of i v.blocks) (sym goes) ∙ ap (blocks_of i) b.1 ∙ filter-append (is_grant_of i) w.blocks b.0 in
    sym (ap (take (length (blocks_of i w.blocks))) whole ∙ front (blocks_of i w.blocks) (blocks_of i b.0))
  where
    front : {X : Type 0} (xs ys : List X) → take (length xs) (xs ++ ys) ≡ xs
    front [] ys = refl
    front (x ∷ xs) ys = ap (λ zs. x ∷ zs) (front xs ys)

-- the world in which federate i's next block after these comes
pub record Comes (p : Parts) (i : ℕ) (done : List Block) : Type 0 where
  pub world : World
  pub last : ℕ × ℕ
  pub left : ℕ
  pub due : ℕ
  pub way : OnWay p last world
  pub next : next_grant p world ≡ Some (due, i)
  pub goes : after_grants p left (world_after_grant p world (due, i)) ≡ simulation p
  pub before : blocks_of i world.blocks ≡ done
  pub index : ℕ
  pub at : after_grants p index (world_at_start p) ≡ world
  pub within : index < length p.federates * p.end

-- one grant more from the start
pub one_more : (p : Parts) (t : ℕ) (w : World) → after_grants p t (world_at_start p) ≡ w → after_grants p (t + 1) (world_at_start p) ≡ next_world p w
one_more p t w e = ap (λ (k : ℕ). after_grants p k (world_at_start p)) (add-one t) ∙ after_suc p t (world_at_start p) ∙ ap (next_world p) e

comes_once : (p : Parts) (i n k t : ℕ) (last : ℕ × ℕ) (w : World) → IsFederation p → OnWay p last w → length (blocks_of i w.blocks) ≤ k → after_grants p t (world_at_start p) ≡ w → t < length p.federates * p.end
    → ((l : ℕ × ℕ) (v : World) → OnWay p l v → after_grants p n v ≡ simulation p → length (blocks_of i v.blocks) ≤ k → after_grants p (t + 1) (world_at_start p) ≡ v → Comes p i (take k (part p i)))
    → (o : Option (ℕ × ℕ)) → next_grant p w ≡ o → after_grants p (suc n) w ≡ simulation p → after_grants p n (world_after_pair p w o) ≡ simulation p → Comes p i (take k (part p i))
comes_once p i n k t last w f way le at within rest None e whole goes = rest last w way goes le (one_more p t w at ∙ ap (world_after_pair p w) e)
comes_once p i n k t last w f way le at within rest (Some g) e whole goes =
    let then : after_grants p (t + 1) (world_at_start p) ≡ world_after_grant p w g = one_more p t w at ∙ ap (world_after_pair p w) e in
    let next_way = granted_way p last w g f way e in
    elim (cases_eq g.1 i) [
      | inl same ↦ elim (cases_lt (length (blocks_of i w.blocks)) k) [
        | inl lt ↦ rest g (world_after_grant p w g) next_way goes (omega (arith, ap length (blocks_here i w.blocks (next_block p w g) same), length-append (blocks_of i w.blocks) (next_block p w g ∷ []))) then
        | inr ge ↦ (let eq : length (blocks_of i w.blocks) ≡ k = omega arith in
            let P : ℕ → Type 0 = λ j. (next_grant p w ≡ Some (g.0, j)) × (after_grants p n (world_after_grant p w (g.0, j)) ≡ simulation p) in
            let here = subst P same (e, goes) in
            record {
              world = w;
              last = last;
              left = n;
              due = g.0;
              way = way;
              next = here.0;
              goes = here.1;
              before = front_of p i (suc n) w whole ∙ ap (λ (c : ℕ). take c (part p i)) eq;
              index = t;
              at = at;
              within = within;
            })
      ]
      | inr ne ↦ rest g (world_after_grant p w g) next_way goes (omega (arith, ap length (blocks_there i w.blocks (next_block p w g) ne))) then
    ]

comes_from : (p : Parts) (i k n t : ℕ) (last : ℕ × ℕ) (w : World) → IsFederation p → OnWay p last w → after_grants p n w ≡ simulation p → length (blocks_of i w.blocks) ≤ k → k < length (part p i) → after_grants p t (world_at_start p) ≡ w → t + n ≡ length p.federates * p.end → Comes p i (take k (part p i))
comes_from p i k zero t last w f way goes le lt at sum = absurd (omega (arith, ap (λ (v : World). length (blocks_of i v.blocks)) goes))
comes_from p i k (suc n) t last w f way goes le lt at sum =
    comes_once p i n k t last w f way le at (omega arith) (λ l v q g h a. comes_from p i k n (t + 1) l v f q g h lt a (omega arith)) (next_grant p w) refl goes goes

-- where a front is not the whole part, there is one
pub comes : (p : Parts) (i : ℕ) (done : List Block) → IsFederation p → IsFront p i done → length done < length (part p i) → Comes p i done
comes p i done f front lt =
    let P : List Block → Type 0 = Comes p i in
    subst P (sym front) (comes_from p i (length done) (length p.federates * p.end) 0 (0, 0) (world_at_start p) f (started_way p f) refl (omega arith) lt refl (omega arith))

-- with that block it is a front again
pub front_next : (p : Parts) (i : ℕ) (done : List Block) (c : Comes p i done) → IsFront p i (done ++ next_block p c.world (c.due, i) ∷ [])
front_next p i done c =
    let b = next_block p c.world (c.due, i) in
    let P : List Block → Type 0 = IsFront p i in
    subst P (blocks_here i c.world.blocks b refl ∙ ap (λ xs. xs ++ b ∷ []) c.before) (front_of p i c.left (world_after_grant p c.world (c.due, i)) c.goes)

-- and the federate stands there where its blocks leave it
pub seat_then : (p : Parts) (i : ℕ) (done : List Block) (c : Comes p i done) → i < length p.federates → seat_at c.world i ≡ seat_after p i done
seat_then p i done c lt = c.way.seats i lt ∙ ap (seat_after p i) c.before
