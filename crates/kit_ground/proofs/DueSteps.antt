-- Who is in a set of a buffer after a step was in one before, or was just charged for.
use Rattle.std.proofs.Common.{◌≡◌, ◌⊎◌, inl, ℕ, ◌<◌, ◌≤◌, List, map, sym, ap, ◌∙◌, subst, arith}
use Rattle.std.proofs.lemmas.List.{map-set, set-get_or}
use Rattle.std.specs.Prelude.{slice_index, slice_set}
use Rattle.std.specs.Int.{bit_at}
use Rattle.kit_ground.specs.declared.address.Address.{Address}
use Rattle.kit_ground.specs.declared.address.Address.TheVariants.{Register, Stop, Mail, Count, Part}
use Rattle.kit_ground.specs.declared.place.Deed.{Deed}
use Rattle.kit_ground.specs.declared.place.Deed.TheVariants.{Looked, Published, Stopped, SawStop, SawFree, Wrote, Charged, PostedTo, Collected, ReadPart, Released}
use Rattle.kit_ground.specs.declared.place.SeatState.{SeatState}
use Rattle.kit_ground.specs.declared.place.SeatBuffers.{SeatBuffers}
use Rattle.kit_ground.specs.Laws.{ChargesFor, ReadersWereCharged}
use Rattle.kit_ground.specs.Memory.{Memory, with_word}
use Rattle.kit_ground.specs.Rules.{stock_of}
use Rattle.kit_ground.specs.Sets.{Pool, due, no_buffers, stock_at}
use Rattle.kit_ground.specs.Steps.{Allowed, place_after, address_of, becomes, buffer_of, stock_after}
use Rattle.kit_ground.proofs.BufferSteps.{charge_due, post_due, see_due, write_due}
use Rattle.kit_ground.proofs.FloorSteps.{mine}
use Rattle.kit_ground.proofs.HoldSteps.{collect_due, release_due}
use Rattle.kit_ground.proofs.Memories.{stored_same}
use Rattle.kit_ground.proofs.SetFacts.{charge_is, holding_due, release_fits}

-- the seat is named by o itself
module _ (m : Memory) (stocks : List SeatBuffers) (o : SeatState) (few : o.federates ≤ 16) (h : Pool m stocks o.federates o.buffers) (is : stock_at stocks o.number ≡ o.stock) (inside : o.number < o.federates)
    (i x j : ℕ) (li : i < o.federates) (lx : x < o.buffers) (lj : j < o.federates) where
  abbrev Told : Deed → Type 0
  Told deed = due (with_word m (address_of o deed) (becomes deed (m (address_of o deed)))) (slice_set stocks o.number (stock_after deed o.stock)) i x j ≡ 1 → (due m stocks i x j ≡ 1) ⊎ ChargesFor o.number deed i x j

  same_stocks : slice_set stocks o.number o.stock ≡ stocks
  same_stocks = ap (λ (s : SeatBuffers). slice_set stocks o.number s) (sym is) ∙ set-get_or stocks o.number no_buffers

  -- nothing of it changes
  unchanged : (a : Address) → due (with_word m a (m a)) (slice_set stocks o.number o.stock) i x j ≡ due m stocks i x j
  unchanged a = λ t. due (stored_same m a t) (same_stocks t) i x j

  by_step : (deed : Deed) → Allowed o deed (m (address_of o deed)) → Told deed
  unfolding due
  by_step (Looked r word) a one = inl (sym (unchanged (Register r)) ∙ one)
  by_step (Published r word) a one = inl ((λ t. due (with_word m (Register r) word) (sym same_stocks t) i x j) ∙ one)
  by_step Stopped a one = inl ((λ t. due (with_word m Stop 1) (sym same_stocks t) i x j) ∙ one)
  by_step (SawStop set) a one = inl (sym (unchanged Stop) ∙ one)
  by_step (SawFree k free) a one = inl (sym (see_due m stocks o.federates o.buffers o.number o.stock h is inside k a.0 free i x j) ∙ ((λ t. due (sym (stored_same m (Count o.number k)) t) (slice_set stocks o.number (stock_after (SawFree k free) o.stock)) i x j) ∙ one))
  by_step (Wrote k p word) a one = inl (sym (write_due m stocks o.federates o.buffers o.number o.stock h is inside k a.0 p word i x j) ∙ one)
  by_step (Charged k mask) a one =
      let value = charge_is m stocks o.federates o.buffers h o.number k inside a.0 few mask a.2.1 (ap (λ (s : SeatBuffers). (buffer_of s k).free) is ∙ a.1.0) in
      charge_due m stocks o.federates o.buffers o.number o.stock h is inside k a.0 mask a.1.0 i x j lj
      ((λ t. due (with_word m (Count o.number k) (sym value t)) (slice_set stocks o.number (stock_after (Charged k mask) o.stock)) i x j) ∙ one)
  by_step (PostedTo k y) a one = inl (sym (post_due m stocks o.federates o.buffers o.number o.stock h is inside k a.0 y a.1 a.2 i x j lj) ∙ one)
  by_step (Collected f w mail) a one =
      inl (sym (collect_due m stocks o.federates o.buffers o.number o.stock h is inside f a.0 w i x j lx)
      ∙ ((λ t. due (with_word m (Mail o.number f w) 0) (slice_set stocks o.number (stock_after (Collected f w (sym a.3 t)) o.stock)) i x j) ∙ one))
  by_step (ReadPart f k p word) a one = inl (sym (unchanged (Part f k p)) ∙ one)
  by_step (Released f k) a one =
      let held = ap (λ (s : SeatBuffers). bit_at (slice_index s.holds f) k) is ∙ a.2 in
      let counted = holding_due m stocks o.federates o.buffers h f k a.0 a.1 o.number inside held in
      let value = release_fits m stocks o.federates o.buffers h f k a.0 a.1 few o.number inside counted.0 in
      inl (release_due m stocks o.federates o.buffers o.number o.stock h is inside f a.0 k a.1 a.2 i x j
      ((λ t. due (with_word m (Count f k) (sym value t)) (slice_set stocks o.number (stock_after (Released f k) o.stock)) i x j) ∙ one))

pub were_charged : {V : Type 0} → ReadersWereCharged V
were_charged {V} b m places me p next deed h at allowed i k j li lk lj one =
    let mine' = mine b m places me p h at in
    let own = h.each me p at in
    let number = own.number in let federates = own.federates in let buffers = own.buffers in
    let stocks : List SeatBuffers = map stock_of places in
    let few = h.few in
    let inside = mine'.inside in
    let pool : Pool m stocks p.own.federates p.own.buffers = subst (λ (x : ℕ × ℕ). Pool m stocks x.0 x.1) (λ t. (sym federates t, sym buffers t)) h.pool in
    let now : Memory = with_word m (address_of p.own deed) (becomes deed (m (address_of p.own deed))) in
    let moved : due now (slice_set stocks p.own.number (stock_after deed p.own.stock)) i k j ≡ 1 =
    ap (λ (x : ℕ). due now (slice_set stocks x (stock_after deed p.own.stock)) i k j) number ∙ (ap (λ (s : List SeatBuffers). due now s i k j) (sym (map-set stock_of places me (place_after next deed p))) ∙ one) in
    subst (λ (x : ℕ). (due m stocks i k j ≡ 1) ⊎ ChargesFor x deed i k j) number
    (by_step m stocks p.own (omega arith) pool (ap (stock_at stocks) number ∙ mine'.stock) (omega arith) i k j (omega arith) (omega arith) (omega arith) deed allowed moved)
