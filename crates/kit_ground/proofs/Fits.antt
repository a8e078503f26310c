-- The rule of the sets, buffer by buffer.
use Rattle.std.proofs.Common.{◌≡◌, ◌≢◌, ℕ, ◌+◌, ◌*◌, ◌^◌, ◌<◌, ◌≤◌, true, List, length, refl, sym, ap, ◌∙◌, subst, arith, length-set}
use Rattle.std.specs.Prelude.{slice_index, slice_set}
use Rattle.std.specs.Int.{bit_at}
use mathlib.Core.Logic.{dite}
use native.Mathlib.Decide.{ℕ_discrete}
use Rattle.kit_ground.specs.declared.address.Address.TheVariants.{Mail, Count, Part}
use Rattle.kit_ground.specs.declared.place.Buffer.{Buffer}
use Rattle.kit_ground.specs.declared.place.SeatBuffers.{SeatBuffers}
use Rattle.kit_ground.specs.Memory.{Memory}
use Rattle.kit_ground.specs.Sets.{Pool, buffer_at, due, stock_at, sum_to, to_be_posted, posted, holding}
use Rattle.kit_ground.specs.Steps.{part_of}
use Rattle.kit_ground.proofs.Stocks.{of_each}
use Rattle.kit_ground.proofs.Sums.{sum_same}

pub due_is : (m : Memory) (stocks : List SeatBuffers) (i k j : ℕ) → due m stocks i k j ≡ to_be_posted m stocks i k j + posted m stocks i k j + holding m stocks i k j
unfolding due
due_is m stocks i k j = refl

-- each bit in the mail is of a buffer that there is
abbrev pub Narrow : Memory → ℕ → ℕ → Type 0
Narrow m n b = (j i w k : ℕ) → j < n → i < n → bit_at (m (Mail j i w)) k ≡ 1 → (k < 64) × (64 * w + k < b)

-- what the rule says of the buffer k of i
pub record Fits (m : Memory) (stocks : List SeatBuffers) (n i k : ℕ) : Type 0 where
  pub counted : m (Count i k) ≡ sum_to (due m stocks i k) n
  pub once : (j : ℕ) → j < n → due m stocks i k j ≤ 1
  pub others : due m stocks i k i ≡ 0
  pub free : (buffer_at m stocks i k).free ≡ true → m (Count i k) ≡ 0
  pub content : (p : ℕ) → p < 2 → m (Part i k p) ≡ part_of p (buffer_at m stocks i k)
  pub owed : (buffer_at m stocks i k).to_post < 2 ^ n

module _ (m : Memory) (stocks : List SeatBuffers) (n b : ℕ) (h : Pool m stocks n b) where
  pub fits : (i k : ℕ) → i < n → k < b → Fits m stocks n i k
  fits i k li lk = record {
    counted = h.counted i k li lk;
    once = λ j. h.once i k j li lk;
    others = h.others i k li lk;
    free = h.free i k li lk;
    content = λ p. h.content i k p li lk;
    owed = h.owed i k li lk;
  }

  pub seat_inside : (me : ℕ) → me < n → me < length stocks
  seat_inside me lme = let e = h.seats in omega arith

  module _ (me : ℕ) (s : SeatBuffers) (is : stock_at stocks me ≡ s) (lme : me < n) where
    pub buffers_long : length s.buffers ≡ b
    buffers_long = ap (λ (q : SeatBuffers). length q.buffers) (sym is) ∙ (h.sized me lme).0

    pub holds_long : length s.holds ≡ n
    holds_long = ap (λ (q : SeatBuffers). length q.holds) (sym is) ∙ (h.sized me lme).1

    pub holds_below : (i : ℕ) → i < n → slice_index s.holds i < 2 ^ b
    holds_below i li = subst (λ (q : SeatBuffers). slice_index q.holds i < 2 ^ b) is (h.held me i lme li)

  -- the rule after a step of the seat `me`
  pub pool_from_fits : (now : Memory) (me : ℕ) (q : SeatBuffers) → me < length stocks → length q.buffers ≡ b → length q.holds ≡ n
      → ((i : ℕ) → i < n → slice_index q.holds i < 2 ^ b)
      → ((i k : ℕ) → i < n → k < b → Fits now (slice_set stocks me q) n i k)
      → Narrow now n b
      → Pool now (slice_set stocks me q) n b
  pool_from_fits now me q inside buffers holds below each narrow = record {
    seats = length-set stocks me q ∙ h.seats;
    sized = of_each (λ i s. i < n → (length s.buffers ≡ b) × (length s.holds ≡ n)) stocks me q inside (λ _. (buffers, holds)) (λ i _ li. h.sized i li);
    counted = λ i k li lk. (each i k li lk).counted;
    once = λ i k j li lk lj. (each i k li lk).once j lj;
    others = λ i k li lk. (each i k li lk).others;
    free = λ i k li lk. (each i k li lk).free;
    content = λ i k p li lk lp. (each i k li lk).content p lp;
    narrow = narrow;
    held = λ j i. of_each (λ j s. j < n → i < n → slice_index s.holds i < 2 ^ b) stocks me q inside (λ _. below i) (λ j _ lj. h.held j i lj) j;
    owed = λ i k li lk. (each i k li lk).owed;
  }

-- a buffer for which each federate counts as before
module _ (m now : Memory) (stocks new : List SeatBuffers) (n i k : ℕ) where
  pub fits_as_before : i < n → Fits m stocks n i k → now (Count i k) ≡ m (Count i k) → ((j : ℕ) → j < n → due now new i k j ≡ due m stocks i k j)
      → ((buffer_at now new i k).free ≡ true → m (Count i k) ≡ 0) → ((p : ℕ) → p < 2 → now (Part i k p) ≡ part_of p (buffer_at now new i k)) → (buffer_at now new i k).to_post < 2 ^ n → Fits now new n i k
  fits_as_before li h count same free content owed = record {
    counted = count ∙ (h.counted ∙ sum_same (due m stocks i k) (due now new i k) n (λ j lj. sym (same j lj)));
    once = λ j lj. subst (λ (x : ℕ). x ≤ 1) (sym (same j lj)) (h.once j lj);
    others = same i li ∙ h.others;
    free = λ is. count ∙ free is;
    content = content;
    owed = owed;
  }

  -- so it is where he is in the same of its sets
  pub due_same : (j : ℕ) → to_be_posted now new i k j ≡ to_be_posted m stocks i k j → posted now new i k j ≡ posted m stocks i k j → holding now new i k j ≡ holding m stocks i k j
      → due now new i k j ≡ due m stocks i k j
  due_same j post mail hold = due_is now new i k j ∙ ((λ t. post t + mail t + hold t) ∙ sym (due_is m stocks i k j))

  pub fits_aside : i < n → Fits m stocks n i k → now (Count i k) ≡ m (Count i k) → ((p : ℕ) → p < 2 → now (Part i k p) ≡ m (Part i k p))
      → buffer_at now new i k ≡ buffer_at m stocks i k → ((j : ℕ) → j < n → due now new i k j ≡ due m stocks i k j) → Fits now new n i k
  fits_aside li h count parts buffer same = fits_as_before li h count same
      (λ is. h.free (sym (ap (λ (c : Buffer). c.free) buffer) ∙ is))
      (λ p lp. parts p lp ∙ (h.content p lp ∙ ap (part_of p) (sym buffer)))
      (subst (λ (c : Buffer). c.to_post < 2 ^ n) (sym buffer) h.owed)

-- a fact about each buffer, from the one at hand and all others
pub at_buffer : (F : ℕ → ℕ → Type 0) (n b me k : ℕ) → F me k → ((i x : ℕ) → i < n → x < b → (i ≡ me → x ≢ k) → F i x) → (i x : ℕ) → i < n → x < b → F i x
at_buffer F n b me k here others i x li lx = dite (ℕ_discrete i me)
    (λ mine. dite (ℕ_discrete x k) (λ same. subst (λ (y : ℕ × ℕ). F y.0 y.1) (λ t. (sym mine t, sym same t)) here) (λ apart. others i x li lx (λ _. apart)))
    (λ apart. others i x li lx (λ e. absurd (apart e)))
