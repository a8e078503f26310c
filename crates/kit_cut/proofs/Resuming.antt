-- The simulation is what it does up to a time, and what is resumed from the cut at that time.
use Rattle.std.proofs.Common.{◌≡◌, ◌⊎◌, ℕ, zero, suc, inl, inr, ◌+◌, ◌*◌, ◌<◌, ◌≤◌, cond, List, [], ◌∷◌, ◌++◌, length, map, drop, get_or, Option, Some, None, nat_le, arith, refl, sym, subst, ap, ◌∙◌, append_assoc}
use Rattle.std.specs.List.{AllByRecursion}
use Rattle.std.specs.Prelude.{unwrap_or}
use Rattle.std.proofs.lemmas.Bool.{lt-ltb}
use Rattle.std.proofs.lemmas.Bool.Decides.{leb_tells}
use Rattle.std.proofs.lemmas.List.{append-nil}
use Rattle.std.proofs.lemmas.List.Elements.{filter-append}
use Rattle.kit_base.specs.declared.message.Message.{Message}
use Rattle.kit_base.specs.Order.{in_order}
use Rattle.kit_base.proofs.Lists.{all-append}
use Rattle.kit_rules.specs.declared.table.Request.TheVariants as request
use Rattle.kit_rules.specs.Parts.{Parts}
use Rattle.kit_rules.specs.Federation.{IsFederation}
use Rattle.kit_rules.specs.Delivery.{pending_messages, due_messages}
use Rattle.kit_rules.specs.Simulation.{Seat, World, Block, least_pair, block, world_at_start, seat_at, nobody_seated, world_after_grant, world_after_pair, next_grant, next_world, after_grants, simulation, closing_vars}
use Rattle.kit_rules.proofs.Backs.{Aimed}
use Rattle.kit_rules.proofs.Growth.{AreNumbered}
use Rattle.kit_laws.proofs.Least.{Rank}
use Rattle.kit_laws.proofs.Worlds.{after_none, after_next}
use Rattle.kit_laws.proofs.Rising.{Reached, grants, started_reached, granted_reached, reached_once, reached_after, simulated_done}
use Rattle.kit_oracle.proofs.Starting.{Told, told, told_once}
use Rattle.kit_oracle.proofs.Freshness.{grant_fresh}
use Rattle.kit_oracle.proofs.Progress.{after_more}
use Rattle.kit_cut.specs.declared.cut.Cut.{Cut}
use Rattle.kit_cut.specs.declared.cut.Standing.{Standing}
use Rattle.kit_cut.specs.Cuts.{due_by, after_grants_by, standing_of, standings_from, cut_of}
use Rattle.kit_cut.specs.ValidCuts.{nobody_stands, standing_at}
use Rattle.kit_cut.specs.Resuming.{since_cut, seats_restored, world_restored, next_since, seat_after_since, world_after_since, world_after_pair_since, after_grants_since, resumed}
use Rattle.kit_cut.specs.Laws.{blocks_by, SimulationIsCutInTwo}
use Rattle.kit_cut.proofs.Restored.{kept_same}
use Rattle.kit_cut.proofs.Parting.{IsEvent, Twins, twins_wait, twins_granted}
use Rattle.kit_cut.proofs.Standings.{pending_events, pending_restored}

-- what the federates of a world are whose cut is restored
abbrev pub Own : ℕ → Seat → Type 0
Own i s = Aimed s.state × AreNumbered i 1 s.state.sends × (s.state.next ≡ 1 + length s.state.sends)

abbrev pub Owns : ℕ → List Seat → Type 0
Owns i [] = Unit {0}
Owns i (s ∷ ss) = Own i s × Owns (i + 1) ss

-- the restored federates are twins of those that were cut
restored_twins : (p : Parts) (c : Cut) (sent : List Message) (a : ℕ) (ss : List Seat) → IsFederation p → Owns a ss → ((k : ℕ) → k < length ss → standing_at c (a + k) ≡ get_or (standings_from p sent a ss) k nobody_stands)
    → Twins p c a sent [] ss (seats_restored a (map (λ (s : Seat). s.state.next) ss) (standings_from p sent a ss))
restored_twins p c sent a [] f h at = tt
restored_twins p c sent a (s ∷ ss) f h at =
    let here : standing_at c a ≡ standing_of p sent a s = ap (standing_at c) (let e : a ≡ a + 0 = omega arith in e) ∙ at 0 (omega arith) in
    let base : (standing_at c a).pending ≡ in_order (pending_messages p a s.got sent) = ap (λ (x : Standing). x.pending) here in
    let E : List Message → Type 0 = AllByRecursion IsEvent in (
      record {
        now = refl;
        request = λ lt. ap (λ b. unwrap_or (cond b (Some s.request) None) (request.Tar 0)) (lt-ltb s.now p.end lt);
        state = refl;
        since = s.now;
        early = omega arith;
        same = kept_same p a s.now s.state f h.0.0 h.0.1 h.0.2;
        had = s.got;
        got = sym (append-nil s.got);
        events = subst E (sym base) (pending_events p a s.got sent);
        pending = sym (ap (λ (ms : List Message). in_order (pending_messages p a [] ms)) (append-nil (standing_at c a).pending ∙ base) ∙ pending_restored p a s.got sent);
      },
      restored_twins p c sent (a + 1) ss f h.1 (λ k lt. ap (standing_at c) (let e : (a + 1) + k ≡ a + suc k = omega arith in e) ∙ at (suc k) (omega arith)),
    )

-- twins have the same variables
twins_vars : (p : Parts) (c : Cut) (i : ℕ) (sent later : List Message) (ss ts : List Seat) → Twins p c i sent later ss ts → map (λ (s : Seat). s.state.vars) ts ≡ map (λ (s : Seat). s.state.vars) ss
twins_vars p c i sent later [] [] h = refl
twins_vars p c i sent later [] (t ∷ ts) h = absurd h
twins_vars p c i sent later (s ∷ ss) [] h = absurd h
twins_vars p c i sent later (s ∷ ss) (t ∷ ts) h = ap (λ x. x.vars ∷ map (λ (s : Seat). s.state.vars) ts) h.0.state ∙ ap (λ xs. s.state.vars ∷ xs) (twins_vars p c (i + 1) sent later ss ts h.1)

-- a resumed world that goes on as a world does, where that one's messages and blocks came before it
record Goes (p : Parts) (c : Cut) (before : World) (w : World) (r : World) : Type 0 where
  twins : Twins p c 0 w.messages r.messages w.seats r.seats
  messages : w.messages ≡ before.messages ++ r.messages
  blocks : w.blocks ≡ before.blocks ++ r.blocks

goes_granted : (p : Parts) (c : Cut) (before w : World) (last : ℕ × ℕ) (r : World) (g : ℕ × ℕ) → Reached p last w → Told w → next_grant p w ≡ Some g → Goes p c before w r
    → Goes p c before (world_after_grant p w g) (world_after_since p c r g)
goes_granted p c before w last r g reached t next h =
    let gr = grants p last w g reached next in
    let x = twins_granted p c g before.messages w r h.twins h.messages gr.within (omega (arith, gr.forward)) (grant_fresh p w g gr.within t) in
    let made = drop (length (seat_at r g.1).state.sends) (seat_after_since p c r g).state.sends in
    let due = due_messages p g.1 g.0 (seat_at r g.1).got (since_cut c g.1 r.messages) in
    record {
      twins = x.twins;
      messages = ap (λ ms. w.messages ++ ms) (sym x.made) ∙ ap (λ ms. ms ++ made) h.messages ∙ append_assoc before.messages r.messages made;
      blocks = ap (λ ms. w.blocks ++ block g.1 g.0 ms ∷ []) (sym x.due) ∙ ap (λ bs. bs ++ block g.1 g.0 due ∷ []) h.blocks ∙ append_assoc before.blocks r.blocks (block g.1 g.0 due ∷ []);
    }

goes_once : (p : Parts) (c : Cut) (before w : World) (last : ℕ × ℕ) (r : World) (o : Option (ℕ × ℕ)) → Reached p last w → Told w → next_grant p w ≡ o → Goes p c before w r
    → Goes p c before (world_after_pair p w o) (world_after_pair_since p c r o)
goes_once p c before w last r None reached t e h = h
goes_once p c before w last r (Some g) reached t e h = goes_granted p c before w last r g reached t e h

-- the same pair is next
same_pair : (p : Parts) (c : Cut) (before w r : World) → Goes p c before w r → next_since p c r ≡ next_grant p w
same_pair p c before w r h = ap (least_pair None) (twins_wait p c 0 w.messages r.messages w.seats r.seats h.twins)

goes_on : (p : Parts) (c : Cut) (before : World) (n : ℕ) (w : World) (last : ℕ × ℕ) (r : World) → IsFederation p → Reached p last w → Told w → Goes p c before w r
    → Goes p c before (after_grants p n w) (after_grants_since p c n r)
goes_on p c before zero w last r f reached t h = h
goes_on p c before (suc n) w last r f reached t h =
    let o = reached_once p last w (next_grant p w) f reached refl in
    let G : Option (ℕ × ℕ) → Type 0 = λ x. Goes p c before (after_grants p n (next_world p w)) (after_grants_since p c n (world_after_pair_since p c r x)) in
    subst G (sym (same_pair p c before w r h))
    (goes_on p c before n (next_world p w) o.0 (world_after_pair_since p c r (next_grant p w)) f o.1 (told_once p last w (next_grant p w) reached refl t) (goes_once p c before w last r (next_grant p w) reached t refl h))

-- a pair that is due by a time is one that is next, and its time is not later
pub due_is_next : (t : ℕ) (o : Option (ℕ × ℕ)) (g : ℕ × ℕ) → due_by t o ≡ Some g → (o ≡ Some g) × (g.0 ≤ t)
due_is_next t None g e = absurd (cc)
due_is_next t (Some h) g e =
    elim (leb_tells h.0 t) [
      | inl le ↦ (let is : Some h ≡ Some g = sym (ap (λ b. cond b (Some h) None) le.0) ∙ e in let same : h ≡ g = cc in (is, let lo : h.0 ≤ t = le.1 in let at : h.0 ≡ g.0 = ap (λ (x : ℕ × ℕ). x.0) same in omega arith))
      | inr gt ↦ absurd (let is : None ≡ Some g = sym (ap (λ b. cond b (Some h) None) gt.0) ∙ e in cc)
    ]

-- where none is due by a time, the next is later
pub none_is_later : (t : ℕ) (g : ℕ × ℕ) → due_by t (Some g) ≡ None → t < g.0
none_is_later t g e =
    elim (leb_tells g.0 t) [
      | inl le ↦ absurd (let is : Some g ≡ None = sym (ap (λ b. cond b (Some g) None) le.0) ∙ e in cc)
      | inr gt ↦ gt.1
    ]

later_is_none : (t : ℕ) (g : ℕ × ℕ) → t < g.0 → due_by t (Some g) ≡ None
later_is_none t g lt =
    elim (leb_tells g.0 t) [
      | inl le ↦ absurd (let h : g.0 ≤ t = le.1 in omega arith)
      | inr gt ↦ ap (λ b. cond b (Some g) None) gt.0
    ]

-- where none is due by a time, nothing more is done by it
pub by_stops : (p : Parts) (t n : ℕ) (w : World) → due_by t (next_grant p w) ≡ None → after_grants_by p t n w ≡ w
by_stops p t zero w e = refl
by_stops p t (suc n) w e = ap (λ o. after_grants_by p t n (world_after_pair p w o)) e ∙ by_stops p t n w e

-- the world by a time is the world after so many grants
pub record IsAfter (p : Parts) (t n : ℕ) (w : World) : Type 0 where
  pub count : ℕ
  pub few : count ≤ n
  pub is : after_grants_by p t n w ≡ after_grants p count w
  pub over : (count ≡ n) ⊎ (due_by t (next_grant p (after_grants p count w)) ≡ None)

after_next_by : (p : Parts) (t n : ℕ) (w : World) → ((v : World) → IsAfter p t n v) → (o : Option (ℕ × ℕ)) → due_by t (next_grant p w) ≡ o → IsAfter p t (suc n) w
after_next_by p t n w rests None e = record { count = 0; few = omega arith; is = by_stops p t (suc n) w e; over = inr e }
after_next_by p t n w rests (Some g) e =
    let rest = rests (world_after_grant p w g) in
    let more : after_grants p (suc rest.count) w ≡ after_grants p rest.count (world_after_grant p w g) = after_next p rest.count w g (due_is_next t (next_grant p w) g e).0 in
    record {
      count = suc rest.count;
      few = omega (arith, rest.few);
      is = ap (λ o. after_grants_by p t n (world_after_pair p w o)) e ∙ rest.is ∙ sym more;
      over = elim rest.over [ inl all ↦ inl (ap suc all) | inr none ↦ inr (ap (λ v. due_by t (next_grant p v)) more ∙ none) ];
    }

pub by_is_after : (p : Parts) (t n : ℕ) (w : World) → IsAfter p t n w
by_is_after p t zero w = record { count = 0; few = omega arith; is = refl; over = inl refl }
by_is_after p t (suc n) w = after_next_by p t n w (λ v. by_is_after p t n v) (due_by t (next_grant p w)) refl

-- what is done by a time is timed then or earlier
abbrev Early : ℕ → Block → Type 0
Early t b = b.time ≤ t

early_next : (p : Parts) (t n : ℕ) (w : World) → ((v : World) → AllByRecursion (Early t) v.blocks → AllByRecursion (Early t) (after_grants_by p t n v).blocks) → AllByRecursion (Early t) w.blocks
    → (o : Option (ℕ × ℕ)) → due_by t (next_grant p w) ≡ o → AllByRecursion (Early t) (after_grants_by p t n (world_after_pair p w o)).blocks
early_next p t n w rests h None e = rests w h
early_next p t n w rests h (Some g) e =
    let here : g.0 ≤ t = (due_is_next t (next_grant p w) g e).1 in
    rests (world_after_grant p w g) (all-append (Early t) w.blocks (block g.1 g.0 (due_messages p g.1 g.0 (seat_at w g.1).got w.messages) ∷ []) h (here, tt))

by_is_early : (p : Parts) (t n : ℕ) (w : World) → AllByRecursion (Early t) w.blocks → AllByRecursion (Early t) (after_grants_by p t n w).blocks
by_is_early p t zero w h = h
by_is_early p t (suc n) w h = early_next p t n w (λ v k. by_is_early p t n v k) h (due_by t (next_grant p w)) refl

-- what is done after it is later
abbrev Late : ℕ → Block → Type 0
Late t b = t < b.time

record Later (p : Parts) (t n : ℕ) (w : World) : Type 0 where
  more : List Block
  blocks : (after_grants p n w).blocks ≡ w.blocks ++ more
  late : AllByRecursion (Late t) more

-- after a later grant the next is later
still_later : (p : Parts) (t : ℕ) (w : World) (g : ℕ × ℕ) → IsFederation p → t < g.0 → Reached p g w → (o : Option (ℕ × ℕ)) → next_grant p w ≡ o → due_by t (next_grant p w) ≡ None
still_later p t w g f lt r None e = ap (due_by t) e
still_later p t w g f lt r (Some h) e =
    let hr = grants p g w h r e in
    let up : Rank g < Rank h = hr.rises in
    let few : h.1 < 16 = omega (arith, hr.within, r.count, f.federates.count.1) in
    ap (due_by t) e ∙ later_is_none t h (omega arith)

later_next : (p : Parts) (t n : ℕ) (last : ℕ × ℕ) (w : World) → IsFederation p → Reached p last w → due_by t (next_grant p w) ≡ None
    → ((l : ℕ × ℕ) (v : World) → Reached p l v → due_by t (next_grant p v) ≡ None → Later p t n v) → (o : Option (ℕ × ℕ)) → next_grant p w ≡ o → Later p t (suc n) w
later_next p t n last w f r none rests None e =
    let rest = rests last w r none in
    record { more = rest.more; blocks = ap (λ o. (after_grants p n (world_after_pair p w o)).blocks) e ∙ rest.blocks; late = rest.late }
later_next p t n last w f r none rests (Some g) e =
    let lt : t < g.0 = none_is_later t g (sym (ap (due_by t) e) ∙ none) in
    let next = granted_reached p last w g f r e in
    let rest = rests g (world_after_grant p w g) next (still_later p t (world_after_grant p w g) g f lt next (next_grant p (world_after_grant p w g)) refl) in
    let here = block g.1 g.0 (due_messages p g.1 g.0 (seat_at w g.1).got w.messages) in
    record {
      more = here ∷ rest.more;
      blocks = ap (λ (v : World). v.blocks) (after_next p n w g e) ∙ rest.blocks ∙ append_assoc w.blocks (here ∷ []) rest.more;
      late = (lt, rest.late);
    }

later_after : (p : Parts) (t n : ℕ) (last : ℕ × ℕ) (w : World) → IsFederation p → Reached p last w → due_by t (next_grant p w) ≡ None → Later p t n w
later_after p t zero last w f r none = record { more = []; blocks = sym (append-nil w.blocks); late = tt }
later_after p t (suc n) last w f r none = later_next p t n last w f r none (λ l v q h. later_after p t n l v f q h) (next_grant p w) refl

-- the blocks of a time or earlier are those
all_early : (t : ℕ) (bs : List Block) → AllByRecursion (Early t) bs → blocks_by t bs ≡ bs
all_early t [] h = refl
all_early t (b ∷ bs) h =
    elim (leb_tells b.time t) [
      | inl le ↦ (ap (λ x. cond x (b ∷ blocks_by t bs) (blocks_by t bs)) le.0 ∙ ap (λ xs. b ∷ xs) (all_early t bs h.1))
      | inr gt ↦ absurd (let a : b.time ≤ t = h.0 in let c : t < b.time = gt.1 in omega arith)
    ]

none_early : (t : ℕ) (bs : List Block) → AllByRecursion (Late t) bs → blocks_by t bs ≡ []
none_early t [] h = refl
none_early t (b ∷ bs) h =
    elim (leb_tells b.time t) [
      | inl le ↦ absurd (let a : t < b.time = h.0 in let c : b.time ≤ t = le.1 in omega arith)
      | inr gt ↦ (ap (λ x. cond x (b ∷ blocks_by t bs) (blocks_by t bs)) gt.0 ∙ none_early t bs h.1)
    ]

-- the simulation goes on from any world on its way
goes_to_the_end : (p : Parts) (k : ℕ) → IsFederation p → simulation p ≡ after_grants p (length p.federates * p.end) (after_grants p k (world_at_start p))
goes_to_the_end p k f =
    let most = length p.federates * p.end in
    sym (after_none p k (simulation p) (simulated_done p f)) ∙ sym (after_more p most k (k + most) (world_at_start p) (omega arith)) ∙ after_more p k most (k + most) (world_at_start p) (omega arith)

-- the parts of the law, of a world on the way
record IsCut (p : Parts) (t : ℕ) (w : World) : Type 0 where
  upto : w.blocks ≡ blocks_by t (simulation p).blocks
  blocks : (simulation p).blocks ≡ blocks_by t (simulation p).blocks ++ (resumed p (cut_of p t w)).blocks
  messages : (simulation p).messages ≡ w.messages ++ (resumed p (cut_of p t w)).messages
  vars : closing_vars (simulation p) ≡ closing_vars (resumed p (cut_of p t w))

-- the federates of a list from what is known at each place
owns_from : (a : ℕ) (ss : List Seat) → ((k : ℕ) → k < length ss → Own (a + k) (get_or ss k nobody_seated)) → Owns a ss
owns_from a [] h = tt
owns_from a (s ∷ ss) h =
    let P : ℕ → Type 0 = λ i. Own i s in
    (subst P (let e : a + 0 ≡ a = omega arith in e) (h 0 (omega arith)), owns_from (a + 1) ss (λ k lt. let Q : ℕ → Type 0 = λ i. Own i (get_or ss k nobody_seated) in subst Q (let e : a + suc k ≡ (a + 1) + k = omega arith in e) (h (suc k) (omega arith))))

seats_own : (p : Parts) (k : ℕ) → IsFederation p → Owns 0 (after_grants p k (world_at_start p)).seats
seats_own p k f =
    let w = after_grants p k (world_at_start p) in
    owns_from 0 w.seats (λ i lt. let o = (told p k f).counted.each i lt in let P : ℕ → Type 0 = λ n. Own n (seat_at w i) in subst P (let e : i ≡ 0 + i = omega arith in e) (o.aimed, o.numbered, o.next))

cut_at_count : (p : Parts) (t k : ℕ) → IsFederation p → AllByRecursion (Early t) (after_grants p k (world_at_start p)).blocks → due_by t (next_grant p (after_grants p k (world_at_start p))) ≡ None
    → IsCut p t (after_grants p k (world_at_start p))
cut_at_count p t k f early none =
    let most = length p.federates * p.end in
    let w = after_grants p k (world_at_start p) in
    let end = goes_to_the_end p k f in
    let reached = reached_after p (0, 0) (world_at_start p) k f (started_reached p f) in
    let c = cut_of p t w in
    let r = world_restored c in
    let begins : Goes p c w w r = record {
      twins = restored_twins p c w.messages 0 w.seats f (seats_own p k f) (λ j lt. ap (λ (n : ℕ). standing_at c n) (let e : 0 + j ≡ j = omega arith in e));
      messages = sym (append-nil w.messages);
      blocks = sym (append-nil w.blocks);
    } in
    let goes = goes_on p c w most w reached.0 r f reached.1 (told p k f) begins in
    let later = later_after p t most reached.0 w f reached.1 none in
    let whole : (simulation p).blocks ≡ w.blocks ++ later.more = ap (λ (v : World). v.blocks) end ∙ later.blocks in
    let upto : w.blocks ≡ blocks_by t (simulation p).blocks =
    sym (ap (blocks_by t) whole ∙ filter-append (λ (b : Block). nat_le b.time t) w.blocks later.more
    ∙ ap (λ xs. xs ++ blocks_by t later.more) (all_early t w.blocks early) ∙ ap (λ xs. w.blocks ++ xs) (none_early t later.more later.late) ∙ append-nil w.blocks) in
    let rest = after_grants_since p c most r in
    let full = after_grants p most w in
    record {
      upto = upto;
      blocks = ap (λ (v : World). v.blocks) end ∙ goes.blocks ∙ ap (λ xs. xs ++ rest.blocks) upto;
      messages = ap (λ (v : World). v.messages) end ∙ goes.messages;
      vars = ap closing_vars end ∙ sym (twins_vars p c 0 full.messages rest.messages full.seats rest.seats goes.twins);
    }

pub cut_in_two : SimulationIsCutInTwo
cut_in_two p f t =
    let most = length p.federates * p.end in
    let x = by_is_after p t most (world_at_start p) in
    let k = x.count in
    let none : due_by t (next_grant p (after_grants p k (world_at_start p))) ≡ None =
    elim x.over [ inl all ↦ (ap (λ n. due_by t (next_grant p (after_grants p n (world_at_start p)))) all ∙ ap (due_by t) (simulated_done p f)) | inr none ↦ none ] in
    let E : World → Type 0 = λ w. AllByRecursion (Early t) w.blocks in
    let early = subst E x.is (by_is_early p t most (world_at_start p) tt) in
    let C : World → Type 0 = IsCut p t in
    let c = subst C (sym x.is) (cut_at_count p t k f early none) in
    record { upto = c.upto; blocks = c.blocks; messages = c.messages; vars = c.vars }
