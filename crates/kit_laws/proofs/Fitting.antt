-- Lines and messages of the simulation name what is there.
use Rattle.std.proofs.Common.{◌≡◌, ℕ, zero, suc, inl, inr, ◌+◌, ◌*◌, ◌<◌, ◌≤◌, List, [], ◌∷◌, length, map, drop, get_or, set, filter, fold, Option, Some, None, IfSome, find, arith, refl, sym, subst, length-set}
use Rattle.std.specs.List.{AllByRecursion, range_with_len, flat_map, All}
use Rattle.std.specs.Option.{option_map}
use Rattle.std.proofs.lemmas.Bool.{cases_eq}
use Rattle.std.proofs.lemmas.List.{get_or-set_other, get_or-set_same}
use Rattle.std.proofs.lemmas.List.Elements.{All-from_recursion}
use Rattle.std.proofs.lemmas.List.FromFn.{get_or-map-range_with_len, length-map-range_with_len}
use Rattle.kit_base.proofs.Orders.{all_put}
use Rattle.kit_base.specs.declared.message.Message.{Message}
use Rattle.kit_base.proofs.Lists.{all-append, all_drop, all_filter, all_found}
use Rattle.kit_base.specs.declared.history.Line.TheVariants as line
use Rattle.kit_rules.specs.Parts.{Parts, federate_at}
use Rattle.kit_rules.specs.Federation.{IsFederation}
use Rattle.kit_rules.specs.declared.scene.State.{State}
use Rattle.kit_rules.specs.Step.{opening_state}
use Rattle.kit_rules.proofs.Growth.{Grows, AreNumbered}
use Rattle.kit_rules.proofs.Kept.{Kept, HasGroup}
use Rattle.kit_base.specs.Order.{put}
use Rattle.kit_rules.specs.Delivery.{is_due, due_messages}
use Rattle.kit_rules.specs.Fits.{MessageFits, LineFits}
use Rattle.kit_rules.specs.Simulation.{Seat, Block, World, next_grant, world_at_start, seat_at_start, seat_at, nobody_seated, seat_after_pair, world_after_grant, world_after_pair, next_world, after_grants, simulation, block, block_lines, lines_of, is_spent, spender}
use Rattle.kit_laws.proofs.Numbers.{gained}
use Rattle.kit_laws.proofs.Worlds.{grows_by_grant, grows_by_start}
use Rattle.kit_laws.proofs.Rising.{Reached, grants, kept_by_grant, kept_by_start, started_reached, granted_reached}

pub all_in_order : (P : Message → Type 0) (acc xs : List Message) → AllByRecursion P acc → AllByRecursion P xs → AllByRecursion P (fold (λ (sorted : List Message) (m : Message). put m sorted) acc xs)
all_in_order P acc [] a h = a
all_in_order P acc (x ∷ xs) a h = all_in_order P (put x acc) xs (all_put P x acc h.0 a) h.1

all_map : {X Y : Type 0} (P : X → Type 0) (Q : Y → Type 0) (f : X → Y) (xs : List X) → ((x : X) → P x → Q (f x)) → AllByRecursion P xs → AllByRecursion Q (map f xs)
all_map P Q f [] g h = tt
all_map P Q f (x ∷ xs) g h = (g x h.0, all_map P Q f xs g h.1)

fits_of : (p : Parts) (sender n : ℕ) (ms : List Message) → sender < length p.federates → AreNumbered sender n ms → AllByRecursion (HasGroup (length p.groups)) ms → AllByRecursion (MessageFits p) ms
fits_of p sender n [] lt a g = tt
fits_of p sender n (m ∷ ms) lt a g = ((let s : m.sender ≡ sender = a.0 in omega arith, g.0), fits_of p sender (n + 1) ms lt a.2 g.1)

-- what a block names is there
abbrev pub BlockFits : Parts → Block → Type 0
BlockFits p b = (b.federate < length p.federates) × AllByRecursion (MessageFits p) b.delivered

pub record Fit (p : Parts) (w : World) : Type 0 where
  pub messages : AllByRecursion (MessageFits p) w.messages
  pub blocks : AllByRecursion (BlockFits p) w.blocks
  pub sends : (k : ℕ) → k < length w.seats → AllByRecursion (HasGroup (length p.groups)) (get_or w.seats k nobody_seated).state.sends

gained_fits : (p : Parts) (i d : ℕ) (a b : State) → i < length p.federates → Grows i a b → Kept (length p.groups) d a b → AllByRecursion (HasGroup (length p.groups)) a.sends
    → AllByRecursion (MessageFits p) (drop (length a.sends) b.sends)
gained_fits p i d a b lt g k h =
    let P : List Message → Type 0 = λ ms. AllByRecursion (HasGroup (length p.groups)) ms in
    let Q : List Message → Type 0 = AllByRecursion (MessageFits p) in
    let made : AllByRecursion (HasGroup (length p.groups)) g.made = subst P (gained i a b g) (all_drop (HasGroup (length p.groups)) (length a.sends) b.sends (k.fits h)) in
    subst Q (sym (gained i a b g)) (fits_of p i a.next g.made lt g.numbered made)

block_lines_fit : (p : Parts) (b : Block) → BlockFits p b → AllByRecursion (LineFits p) (block_lines b)
block_lines_fit p b h = all-append (LineFits p) (map (line.Deliver b.time b.federate) b.delivered) (line.Grant b.time b.federate ∷ []) (all_map (MessageFits p) (LineFits p) (line.Deliver b.time b.federate) b.delivered (λ m f. (h.0, f.0, f.1)) h.1) (h.0, tt)

lines_fit : (p : Parts) (bs : List Block) → AllByRecursion (BlockFits p) bs → AllByRecursion (LineFits p) (lines_of bs)
lines_fit p [] h = tt
lines_fit p (b ∷ bs) h = all-append (LineFits p) (block_lines b) (lines_of bs) (block_lines_fit p b h.0) (lines_fit p bs h.1)

granted_fit : (p : Parts) (w : World) (g : ℕ × ℕ) → IsFederation p → g.1 < length w.seats → g.1 < length p.federates → Fit p w → Fit p (world_after_grant p w g)
granted_fit p w g f within lt fit =
    let old = seat_at w g.1 in
    let new = seat_after_pair p w g in
    let k = kept_by_grant p w g f lt in
    let due : AllByRecursion (MessageFits p) (due_messages p g.1 g.0 old.got w.messages) =
    all_in_order (MessageFits p) [] (filter (is_due p g.1 g.0 old.got w.messages) w.messages) tt (all_filter (MessageFits p) (is_due p g.1 g.0 old.got w.messages) w.messages fit.messages) in
    record {
      messages = all-append (MessageFits p) w.messages (drop (length old.state.sends) new.state.sends) fit.messages (gained_fits p g.1 g.0 old.state new.state lt (grows_by_grant p w g) k (fit.sends g.1 within));
      blocks = all-append (BlockFits p) w.blocks (block g.1 g.0 (due_messages p g.1 g.0 old.got w.messages) ∷ []) fit.blocks ((lt, due), tt);
      sends = λ j inside.
          let has : j < length w.seats = omega (arith, length-set w.seats g.1 new) in
          let P : Seat → Type 0 = λ s. AllByRecursion (HasGroup (length p.groups)) s.state.sends in
          elim (cases_eq j g.1) [
            | inl e ↦ (let R : ℕ → Type 0 = λ j. P (get_or (set w.seats g.1 new) j nobody_seated) in
                subst R (sym e) (subst P (sym (get_or-set_same w.seats g.1 new nobody_seated within)) (k.fits (fit.sends g.1 within))))
            | inr ne ↦ subst P (sym (get_or-set_other w.seats g.1 j new nobody_seated ne)) (fit.sends j has)
          ];
    }

started_fits : (p : Parts) (a n : ℕ) → IsFederation p → a + n ≤ length p.federates → AllByRecursion (MessageFits p) (flat_map (λ (s : Seat). s.state.sends) (map (seat_at_start p) (range_with_len a n)))
started_fits p a zero f le = tt
started_fits p a (suc n) f le =
    let lt : a < length p.federates = omega arith in
    all-append (MessageFits p) (seat_at_start p a).state.sends _
    (gained_fits p a 0 (opening_state (federate_at p a)) (seat_at_start p a).state lt (grows_by_start p a) (kept_by_start p a f lt) tt)
    (started_fits p (a + 1) n f (omega arith))

pub started_fit : (p : Parts) → IsFederation p → Fit p (world_at_start p)
started_fit p f = record {
  messages = started_fits p 0 (length p.federates) f (omega arith);
  blocks = tt;
  sends = λ k within.
      let lt : k < length p.federates = omega (arith, length-map-range_with_len (seat_at_start p) 0 (length p.federates)) in
      let P : Seat → Type 0 = λ s. AllByRecursion (HasGroup (length p.groups)) s.state.sends in
      subst P (sym (get_or-map-range_with_len (seat_at_start p) 0 (length p.federates) k k nobody_seated lt (omega arith))) ((kept_by_start p k f lt).fits tt);
}

fit_once : (p : Parts) (last : ℕ × ℕ) (w : World) (o : Option (ℕ × ℕ)) → IsFederation p → Reached p last w → Fit p w → next_grant p w ≡ o → (l : ℕ × ℕ) × Reached p l (world_after_pair p w o) × Fit p (world_after_pair p w o)
fit_once p last w None f r fit e = (last, r, fit)
fit_once p last w (Some g) f r fit e =
    let gr = grants p last w g r e in
    (g, granted_reached p last w g f r e, granted_fit p w g f gr.within (omega (arith, gr.within, r.count)) fit)

pub fit_after : (p : Parts) (last : ℕ × ℕ) (w : World) (n : ℕ) → IsFederation p → Reached p last w → Fit p w → (l : ℕ × ℕ) × Reached p l (after_grants p n w) × Fit p (after_grants p n w)
fit_after p last w zero f r fit = (last, r, fit)
fit_after p last w (suc n) f r fit = let o = fit_once p last w (next_grant p w) f r fit refl in fit_after p o.0 (next_world p w) n f o.1 o.2

pub simulated_fits : (p : Parts) → IsFederation p → All (LineFits p) (lines_of (simulation p).blocks)
simulated_fits p f =
    let a = fit_after p (0, 0) (world_at_start p) (length p.federates * p.end) f (started_reached p f) (started_fit p f) in
    All-from_recursion (LineFits p) (lines_of (simulation p).blocks) (lines_fit p (simulation p).blocks a.2.blocks)

pub simulated_count : (p : Parts) → IsFederation p → length (simulation p).seats ≡ length p.federates
simulated_count p f = (fit_after p (0, 0) (world_at_start p) (length p.federates * p.end) f (started_reached p f) (started_fit p f)).1.count

sender_within : (p : Parts) (o : Option Message) (i : ℕ) → IfSome o (MessageFits p) → option_map (λ (m : Message). m.sender) o ≡ Some i → i < length p.federates
sender_within p None i h e = absurd (cc)
sender_within p (Some m) i h e = let same : m.sender ≡ i = cc in let fits : MessageFits p m = h in omega (arith, fits.0, same)

-- the federate that takes number 16,385 is there
pub spender_within : (p : Parts) (i : ℕ) → IsFederation p → spender p ≡ Some i → i < length p.federates
spender_within p i f e =
    let a = fit_after p (0, 0) (world_at_start p) (length p.federates * p.end) f (started_reached p f) (started_fit p f) in
    sender_within p (find is_spent (simulation p).messages) i (all_found (MessageFits p) is_spent (simulation p).messages a.2.messages) e
