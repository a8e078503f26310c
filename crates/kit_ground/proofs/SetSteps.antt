-- Each step that is allowed keeps the rule of the sets.
use Rattle.std.proofs.Common.{true, ◌≡◌, ℕ, ◌<◌, ◌≤◌, List, sym, ap, ◌∙◌, subst, arith, eqb-true}
use Rattle.std.proofs.lemmas.List.{set-get_or}
use Rattle.std.specs.Prelude.{slice_index, slice_set}
use Rattle.std.specs.Int.{bit_at}
use Rattle.kit_ground.specs.declared.address.Reg.{Reg}
use Rattle.kit_ground.specs.declared.address.Address.{Address}
use Rattle.kit_ground.specs.declared.address.Address.TheVariants.{Register, Stop, Mail, Count, Part}
use Rattle.kit_ground.specs.declared.place.Buffer.{Buffer}
use Rattle.kit_ground.specs.declared.place.Deed.{Deed}
use Rattle.kit_ground.specs.declared.place.Deed.TheVariants.{Looked, Published, Stopped, SawStop, SawFree, Wrote, Charged, PostedTo, Collected, ReadPart, Released}
use Rattle.kit_ground.specs.declared.place.SeatState.{SeatState}
use Rattle.kit_ground.specs.declared.place.SeatBuffers.{SeatBuffers}
use Rattle.kit_ground.specs.Memory.{Memory, with_word}
use Rattle.kit_ground.specs.Sets.{Pool, due, no_buffers, stock_at}
use Rattle.kit_ground.specs.Steps.{Allowed, address_of, becomes, buffer_of, stock_after_collect, stock_after}
use Rattle.kit_ground.proofs.BufferSteps.{sees, writes, charges, posts}
use Rattle.kit_ground.proofs.HoldSteps.{collects, releases}
use Rattle.kit_ground.proofs.Memories.{stored_same}
use Rattle.kit_ground.proofs.SetFacts.{charge_is, holding_due, release_fits}

-- registers and the stop word do not matter
register_aside : (m : Memory) (stocks : List SeatBuffers) (n b : ℕ) (r : Reg) (v : ℕ) → Pool m stocks n b → Pool (with_word m (Register r) v) stocks n b
unfolding due
register_aside m stocks n b r v h = record {
  seats = h.seats;
  sized = h.sized;
  counted = h.counted;
  once = h.once;
  others = h.others;
  free = h.free;
  content = h.content;
  narrow = h.narrow;
  held = h.held;
  owed = h.owed;
}

stop_aside : (m : Memory) (stocks : List SeatBuffers) (n b v : ℕ) → Pool m stocks n b → Pool (with_word m Stop v) stocks n b
unfolding due
stop_aside m stocks n b v h = record {
  seats = h.seats;
  sized = h.sized;
  counted = h.counted;
  once = h.once;
  others = h.others;
  free = h.free;
  content = h.content;
  narrow = h.narrow;
  held = h.held;
  owed = h.owed;
}

-- the seat `me` has o
pub record Mine (stocks : List SeatBuffers) (n b me : ℕ) (o : SeatState) : Type 0 where
  pub stock : stock_at stocks me ≡ o.stock
  pub number : o.number ≡ me
  pub federates : o.federates ≡ n
  pub buffers : o.buffers ≡ b
  pub inside : me < n

-- the seat is named by o itself
module _ (m : Memory) (stocks : List SeatBuffers) (o : SeatState) (few : o.federates ≤ 16) (h : Pool m stocks o.federates o.buffers) (is : stock_at stocks o.number ≡ o.stock) (inside : o.number < o.federates) where
  abbrev After : Deed → Type 0
  After deed = Pool (with_word m (address_of o deed) (becomes deed (m (address_of o deed)))) (slice_set stocks o.number (stock_after deed o.stock)) o.federates o.buffers

  same_stocks : slice_set stocks o.number o.stock ≡ stocks
  same_stocks = ap (λ (s : SeatBuffers). slice_set stocks o.number s) (sym is) ∙ set-get_or stocks o.number no_buffers

  -- nothing of it changes
  unchanged : (a : Address) → Pool (with_word m a (m a)) (slice_set stocks o.number o.stock) o.federates o.buffers
  unchanged a = subst (λ (x : Memory × List SeatBuffers). Pool x.0 x.1 o.federates o.buffers) (λ i. (sym (stored_same m a) i, sym same_stocks i)) h

  -- a look at a count leaves the word
  with_other_word : (a : Address) (after : List SeatBuffers) → Pool m after o.federates o.buffers → Pool (with_word m a (m a)) after o.federates o.buffers
  with_other_word a after = subst (λ (x : Memory). Pool x after o.federates o.buffers) (sym (stored_same m a))

  abbrev old : ℕ → Buffer
  old k = buffer_of o.stock k

  step : (deed : Deed) → Allowed o deed (m (address_of o deed)) → After deed
  step (Looked r word) a = unchanged (Register r)
  step (Published r word) a = subst (λ (x : List SeatBuffers). Pool (with_word m (Register r) word) x o.federates o.buffers) (sym same_stocks) (register_aside m stocks o.federates o.buffers r word h)
  step Stopped a = subst (λ (x : List SeatBuffers). Pool (with_word m Stop 1) x o.federates o.buffers) (sym same_stocks) (stop_aside m stocks o.federates o.buffers 1 h)
  step (SawStop set) a = unchanged Stop
  step (SawFree k free) a = with_other_word (Count o.number k) _
      (sees m stocks o.federates o.buffers o.number o.stock h is inside k a.0 free (λ e. eqb-true (m (Count o.number k)) 0 (sym a.2 ∙ e)))
  step (Wrote k p word) a = writes m stocks o.federates o.buffers o.number o.stock h is inside k a.0 p word a.1
  step (Charged k mask) a =
      let free : (old k).free ≡ true = a.1.0 in
      let value = charge_is m stocks o.federates o.buffers h o.number k inside a.0 few mask a.2.1 (ap (λ (s : SeatBuffers). (buffer_of s k).free) is ∙ free) in
      subst (λ (v : ℕ). Pool (with_word m (Count o.number k) v) (slice_set stocks o.number (stock_after (Charged k mask) o.stock)) o.federates o.buffers) (sym value)
      (charges m stocks o.federates o.buffers o.number o.stock h is inside k a.0 mask free a.2.1 a.2.2)
  step (PostedTo k j) a = posts m stocks o.federates o.buffers o.number o.stock h is inside k a.0 j a.1 a.2
  step (Collected i w mail) a =
      subst (λ (x : ℕ). Pool (with_word m (Mail o.number i w) 0) (slice_set stocks o.number (stock_after_collect i w x o.stock)) o.federates o.buffers) (sym a.3)
      (collects m stocks o.federates o.buffers o.number o.stock h is inside i a.0 w)
  step (ReadPart i k p word) a = unchanged (Part i k p)
  step (Released i k) a =
      let held = ap (λ (s : SeatBuffers). bit_at (slice_index s.holds i) k) is ∙ a.2 in
      let one = holding_due m stocks o.federates o.buffers h i k a.0 a.1 o.number inside held in
      let value = release_fits m stocks o.federates o.buffers h i k a.0 a.1 few o.number inside one.0 in
      subst (λ (v : ℕ). Pool (with_word m (Count i k) v) (slice_set stocks o.number (stock_after (Released i k) o.stock)) o.federates o.buffers) (sym value)
      (releases m stocks o.federates o.buffers o.number o.stock h is inside i a.0 k a.1 a.2)

pub pool_after : (m : Memory) (stocks : List SeatBuffers) (n b me : ℕ) (o : SeatState) → n ≤ 16 → b ≤ 1024 → Pool m stocks n b → Mine stocks n b me o → (deed : Deed)
    → Allowed o deed (m (address_of o deed))
    → Pool (with_word m (address_of o deed) (becomes deed (m (address_of o deed)))) (slice_set stocks me (stock_after deed o.stock)) n b
pool_after m stocks n b me o few small h mine deed allowed =
    let number = mine.number in
    let federates = mine.federates in
    let inside = mine.inside in
    let named : Pool m stocks o.federates o.buffers = subst (λ (x : ℕ × ℕ). Pool m stocks x.0 x.1) (λ i. (sym federates i, sym mine.buffers i)) h in
    let made = step m stocks o (omega arith) named (ap (stock_at stocks) number ∙ mine.stock) (omega arith) deed allowed in
    subst (λ (x : ℕ × ℕ × ℕ). Pool (with_word m (address_of o deed) (becomes deed (m (address_of o deed)))) (slice_set stocks x.0 (stock_after deed o.stock)) x.1 x.2) (λ i. (number i, federates i, mine.buffers i)) made
