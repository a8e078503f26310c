-- What the messages and lines of a world since a cut name is there.
use Rattle.std.proofs.Common.{◌≡◌, ℕ, zero, suc, inl, inr, ◌+◌, ◌<◌, ◌≤◌, List, [], ◌∷◌, ◌++◌, length, map, drop, get_or, set, filter, arith, refl, sym, subst, ap, ◌∙◌, length-set}
use Rattle.std.specs.List.{AllByRecursion}
use Rattle.std.proofs.lemmas.Bool.{cases_eq}
use Rattle.std.proofs.lemmas.List.{get_or-set_other, get_or-set_same}
use Rattle.std.proofs.Math.Seq.{drop-append_seam}
use Rattle.kit_base.specs.declared.message.Message.{Message}
use Rattle.kit_base.specs.declared.history.Line.{Line}
use Rattle.kit_base.specs.declared.history.Line.TheVariants as line
use Rattle.kit_base.proofs.Lists.{all-append, all_filter, each_weaker}
use Rattle.kit_rules.specs.declared.own.Own.{Own}
use Rattle.kit_rules.specs.declared.scene.State.{State}
use Rattle.kit_rules.specs.declared.table.Trigger.TheVariants.{Grant, Got}
use Rattle.kit_rules.specs.Parts.{Parts, effective_lookahead}
use Rattle.kit_rules.specs.Federation.{IsFederation}
use Rattle.kit_rules.specs.Fits.{MessageFits, LineFits}
use Rattle.kit_rules.specs.Step.{state_after}
use Rattle.kit_rules.specs.Delivery.{is_due, due_messages}
use Rattle.kit_rules.specs.Own.{own_message}
use Rattle.kit_rules.specs.Simulation.{Seat, World, Block, block, block_lines, lines_of, after_deliveries, after_block, seat_at, nobody_seated}
use Rattle.kit_rules.proofs.Growth.{AreNumbered}
use Rattle.kit_rules.proofs.Kept.{Kept, HasGroup, kept_none, kept_more, kept_by_step}
use Rattle.kit_laws.proofs.Fitting.{all_in_order}
use Rattle.kit_laws.proofs.Numbers.{gained}
use Rattle.kit_laws.proofs.Worlds.{grows_by_grant}
use Rattle.kit_oracle.proofs.Progress.{lines_more}
use Rattle.kit_cut.specs.declared.cut.Cut.{Cut}
use Rattle.kit_cut.specs.ValidCuts.{IsNextNumber, standing_at, IsValidCut}
use Rattle.kit_cut.specs.Resuming.{since_cut, world_restored, seat_after_since, world_after_since}
use Rattle.kit_cut.proofs.Alike.{Same, with_sends}
use Rattle.kit_cut.proofs.Pairwise.{all_map}
use Rattle.kit_cut.proofs.Parting.{follows_block}
use Rattle.kit_cut.proofs.Restored.{restored_same}
use Rattle.kit_cut.proofs.SinceShown.{world_for}
use Rattle.kit_cut.proofs.WasPending.{was_pending, was_own}
use Rattle.kit_cut.proofs.Since.{Since, length_restored, seat_is_restored, since_restored}
use Rattle.kit_cut.proofs.FreshSince.{all_back}

-- the rules of a federate run as over fewer sends, whose groups are there: past sends, which can't be taken back, name none
pub record Lean (p : Parts) (k : ℕ) (s : State) : Type 0 where
  pub few : List Message
  pub same : Same (effective_lookahead p k) p.end 0 s.next s.sends few
  pub groups : AllByRecursion (HasGroup (length p.groups)) few

kept_by_deliveries : (p : Parts) (i d : ℕ) (s : State) (due : List Message) → IsFederation p → i < length p.federates → Kept (length p.groups) d s (after_deliveries p i d s due)
kept_by_deliveries p i d s [] f lt = kept_none (length p.groups) d s
kept_by_deliveries p i d s (m ∷ ms) f lt =
    kept_more (length p.groups) d _ _ _ (kept_by_step p i (Got m.group) d m.value s f lt) (kept_by_deliveries p i d (state_after p i (Got m.group) d m.value s) ms f lt)

kept_by_block : (p : Parts) (i d : ℕ) (s : State) (due : List Message) → IsFederation p → i < length p.federates → Kept (length p.groups) d s (after_block p i d s due)
kept_by_block p i d s due f lt =
    kept_more (length p.groups) d _ _ _ (kept_by_deliveries p i d s due f lt) (kept_by_step p i Grant d 0 (after_deliveries p i d s due) f lt)

-- what a block makes of such a state: another, and messages whose groups are there
record Leaner (p : Parts) (i : ℕ) (old new : State) : Type 0 where
  lean : Lean p i new
  made : AllByRecursion (HasGroup (length p.groups)) (drop (length old.sends) new.sends)

lean_block : (p : Parts) (i d : ℕ) (s : State) (due : List Message) → IsFederation p → i < length p.federates → Lean p i s → Leaner p i s (after_block p i d s due)
lean_block p i d s due f lt h =
    let G : List Message → Type 0 = AllByRecursion (HasGroup (length p.groups)) in
    let x = follows_block p i 0 d due s h.few (omega arith) h.same in
    let kept = kept_by_block p i d (with_sends s h.few) due f lt in
    let all : AllByRecursion (HasGroup (length p.groups)) (h.few ++ x.made) = subst G (ap (λ (t : State). t.sends) x.there) (kept.fits h.groups) in
    record {
      lean = record { few = h.few ++ x.made; same = x.same; groups = all };
      made = subst G (sym (ap (drop (length s.sends)) x.sends ∙ drop-append_seam s.sends x.made)) (all_back (HasGroup (length p.groups)) h.few x.made all);
    }

-- messages of one federate whose groups are there fit
fits_of : (p : Parts) (i n : ℕ) (ms : List Message) → i < length p.federates → AreNumbered i n ms → AllByRecursion (HasGroup (length p.groups)) ms → AllByRecursion (MessageFits p) ms
fits_of p i n [] lt num h = tt
fits_of p i n (m ∷ ms) lt num h = ((let is : m.sender ≡ i = num.0 in omega arith, h.0), fits_of p i (n + 1) ms lt num.2 h.1)

-- what is known of what a world since a cut names
pub record FitSince (p : Parts) (w : World) : Type 0 where
  pub messages : AllByRecursion (MessageFits p) w.messages
  pub lines : AllByRecursion (LineFits p) (lines_of w.blocks)
  pub lean : (k : ℕ) → k < length w.seats → Lean p k (seat_at w k).state

-- a grant keeps it
pub fit_granted_since : (p : Parts) (c : Cut) (w : World) (g : ℕ × ℕ) → IsFederation p → IsValidCut p c → g.1 < length w.seats → g.1 < length p.federates → FitSince p w → FitSince p (world_after_since p c w g)
fit_granted_since p c w g f valid within lt h =
    let u = world_for c g.1 w in
    let old = seat_at w g.1 in
    let new = seat_after_since p c w g in
    let reach = since_cut c g.1 w.messages in
    let due = due_messages p g.1 g.0 old.got reach in
    let made = drop (length old.state.sends) new.state.sends in
    let gr = grows_by_grant p u g in
    let more = lean_block p g.1 g.0 old.state due f lt (h.lean g.1 within) in
    let N : List Message → Type 0 = AreNumbered g.1 old.state.next in
    let sent : AllByRecursion (MessageFits p) made = fits_of p g.1 old.state.next made lt (subst N (sym (gained g.1 old.state new.state gr)) gr.numbered) more.made in
    let dues : AllByRecursion (MessageFits p) due =
    all_in_order (MessageFits p) [] (filter (is_due p g.1 g.0 old.got reach) reach) tt
    (all_filter (MessageFits p) (is_due p g.1 g.0 old.got reach) reach (all-append (MessageFits p) (standing_at c g.1).pending w.messages (was_pending p c g.1 valid lt).fits h.messages)) in
    let b = block g.1 g.0 due in
    let here : AllByRecursion (LineFits p) (block_lines b) =
    all-append (LineFits p) (map (line.Deliver g.0 g.1) due) (line.Grant g.0 g.1 ∷ []) (all_map (MessageFits p) (LineFits p) (line.Deliver g.0 g.1) due (λ m fits. (lt, fits.0, fits.1)) dues) (lt, tt) in
    let L : List Line → Type 0 = AllByRecursion (LineFits p) in
    record {
      messages = all-append (MessageFits p) w.messages made h.messages sent;
      lines = subst L (sym (lines_more w.blocks b)) (all-append (LineFits p) (lines_of w.blocks) (block_lines b) h.lines here);
      lean = λ k inside.
          let has : k < length w.seats = omega (arith, length-set w.seats g.1 new) in
          elim (cases_eq k g.1) [
            | inl e ↦ (let Q : ℕ → Type 0 = λ j. Lean p j (get_or (set w.seats g.1 new) j nobody_seated).state in
                let R : Seat → Type 0 = λ s. Lean p g.1 s.state in
                subst Q (sym e) (subst R (sym (get_or-set_same w.seats g.1 new nobody_seated within)) more.lean))
            | inr ne ↦ (let R : Seat → Type 0 = λ s. Lean p k s.state in subst R (sym (get_or-set_other w.seats g.1 k new nobody_seated ne)) (h.lean k has))
          ];
    }

-- it holds of the world as a valid cut has it
pub fit_restored : (p : Parts) (c : Cut) → IsFederation p → IsValidCut p c → FitSince p (world_restored c)
fit_restored p c f v = record {
  messages = tt;
  lines = tt;
  lean = λ k inside.
      let lt : k < length p.federates = omega (arith, (since_restored p c v).sane.count) in
      let next = get_or c.next k 0 in
      let own = (standing_at c k).own in
      let bounds : IsNextNumber next = v.nexts k 0 (omega (arith, v.each_next)) in
      let was = was_own p c k v lt in
      let R : Seat → Type 0 = λ s. Lean p k s.state in
      subst R (sym (seat_is_restored p c k v lt)) (record {
        few = map (own_message k) own;
        same = restored_same p k next own f bounds.0 was.numbers was.rise;
        groups = all_map (λ (o : Own). o.group < length p.groups) (HasGroup (length p.groups)) (own_message k) own (λ o g. g) was.groups;
      });
}
