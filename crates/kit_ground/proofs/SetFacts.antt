-- What the rule of the sets tells.
use Rattle.std.proofs.Common.{Bool, true, false, ◌≡◌, ℕ, ◌+◌, ◌-◌, ◌*◌, ◌%◌, ◌^◌, ◌<◌, ◌≤◌, List, refl, sym, ◌∙◌, subst, arith}
use Rattle.std.proofs.lemmas.Nat.{ones-le}
use Rattle.std.specs.Prelude.{slice_index}
use Rattle.std.specs.Int.{bit_at}
use Rattle.std.specs.Int.Count.{ones}
use Rattle.kit_ground.specs.declared.address.Address.TheVariants.{Mail, Count}
use Rattle.kit_ground.specs.declared.place.SeatBuffers.{SeatBuffers}
use Rattle.kit_ground.specs.Memory.{Memory}
use Rattle.kit_ground.specs.Sets.{Pool, buffer_at, due, stock_at, to_be_posted, posted, holding, sum_to}
use Rattle.kit_ground.proofs.Bits.{none_by_bits}
use Rattle.kit_ground.proofs.Fits.{due_is}
use Rattle.kit_ground.proofs.MailWords.{bit_of, word_of}
use Rattle.kit_ground.proofs.Sums.{sum_none, sum_at_most, sum_has}

-- one of three parts of a number that is at most 1
pub only_first : (d x y z : ℕ) → d ≡ x + y + z → d ≤ 1 → x ≡ 1 → (d ≡ 1) × (y ≡ 0) × (z ≡ 0)
only_first d x y z e h is = (omega arith, omega arith, omega arith)

none_left : (d x y z : ℕ) → d ≡ x + y + z → d ≡ 0 → (x ≡ 0) × (y ≡ 0) × (z ≡ 0)
none_left d x y z e h = (omega arith, omega arith, omega arith)

-- the federate j is in none of the three sets of the buffer k of i
pub record InNone (m : Memory) (stocks : List SeatBuffers) (i k j : ℕ) : Type 0 where
  pub to_be_posted : to_be_posted m stocks i k j ≡ 0
  pub posted : posted m stocks i k j ≡ 0
  pub holding : holding m stocks i k j ≡ 0

module _ (m : Memory) (stocks : List SeatBuffers) (n b : ℕ) (h : Pool m stocks n b) where
  module _ (i k : ℕ) (li : i < n) (lk : k < b) where
    -- a count is no more than the number of federates
    pub count_small : m (Count i k) ≤ n
    count_small = subst (λ (x : ℕ). x ≤ n) (sym (h.counted i k li lk)) (sum_at_most (due m stocks i k) n (λ j. h.once i k j li lk))

    module _ (j : ℕ) (lj : j < n) where
      pub none_due : m (Count i k) ≡ 0 → due m stocks i k j ≡ 0
      none_due e = sum_none (due m stocks i k) n (sym (h.counted i k li lk) ∙ e) j lj

      pub in_none : m (Count i k) ≡ 0 → InNone m stocks i k j
      in_none e =
          let t = none_left (due m stocks i k j) (to_be_posted m stocks i k j) (posted m stocks i k j) (holding m stocks i k j) (due_is m stocks i k j) (none_due e) in
          record { to_be_posted = t.0; posted = t.1; holding = t.2 }

      -- a buffer that was seen free is in nobody's hands
      pub free_in_none : (buffer_at m stocks i k).free ≡ true → InNone m stocks i k j
      free_in_none is = in_none (h.free i k li lk is)

      -- a buffer whose reader is counted is not free
      pub count_above : due m stocks i k j ≡ 1 → 0 < m (Count i k)
      count_above one =
          let has : due m stocks i k j ≤ sum_to (due m stocks i k) n = sum_has (due m stocks i k) n j lj in
          let c = h.counted i k li lk in
          omega arith

      pub due_not_free : due m stocks i k j ≡ 1 → (buffer_at m stocks i k).free ≡ false
      due_not_free one = by (buffer_at m stocks i k).free refl
        where
          by : (t : Bool) → (buffer_at m stocks i k).free ≡ t → t ≡ false
          by true e = let z = h.free i k li lk e in let a = count_above one in absurd (omega arith)
          by false e = refl

      -- who is in one of the sets is counted, and in no other
      pub to_be_posted_due : to_be_posted m stocks i k j ≡ 1 → (due m stocks i k j ≡ 1) × (posted m stocks i k j ≡ 0) × (holding m stocks i k j ≡ 0)
      to_be_posted_due = only_first (due m stocks i k j) (to_be_posted m stocks i k j) (posted m stocks i k j) (holding m stocks i k j) (due_is m stocks i k j) (h.once i k j li lk lj)

      pub posted_due : posted m stocks i k j ≡ 1 → (due m stocks i k j ≡ 1) × (to_be_posted m stocks i k j ≡ 0) × (holding m stocks i k j ≡ 0)
      posted_due = only_first (due m stocks i k j) (posted m stocks i k j) (to_be_posted m stocks i k j) (holding m stocks i k j) (due_is m stocks i k j ∙ turn (to_be_posted m stocks i k j) (posted m stocks i k j) (holding m stocks i k j)) (h.once i k j li lk lj)
        where
          turn : (x y z : ℕ) → x + y + z ≡ y + x + z
          turn x y z = omega arith

      pub holding_due : holding m stocks i k j ≡ 1 → (due m stocks i k j ≡ 1) × (to_be_posted m stocks i k j ≡ 0) × (posted m stocks i k j ≡ 0)
      holding_due = only_first (due m stocks i k j) (holding m stocks i k j) (to_be_posted m stocks i k j) (posted m stocks i k j) (due_is m stocks i k j ∙ turn (to_be_posted m stocks i k j) (posted m stocks i k j) (holding m stocks i k j)) (h.once i k j li lk lj)
        where
          turn : (x y z : ℕ) → x + y + z ≡ z + x + y
          turn x y z = omega arith

    -- a charge does not wrap the count, and what it leaves is the number of those in the mask
    pub charge_fits : n ≤ 16 → (mask : ℕ) → mask < 2 ^ n → (buffer_at m stocks i k).free ≡ true → (m (Count i k) + ones mask) % 2 ^ 64 ≡ m (Count i k) + ones mask
    charge_fits few mask fits is = let z = h.free i k li lk is in let most : ones mask ≤ n = ones-le n mask fits in omega arith

    pub charge_is : n ≤ 16 → (mask : ℕ) → mask < 2 ^ n → (buffer_at m stocks i k).free ≡ true → (m (Count i k) + ones mask) % 2 ^ 64 ≡ ones mask
    charge_is few mask fits is = let z = h.free i k li lk is in charge_fits few mask fits is ∙ omega arith

    -- nor does a release of one who is counted
    pub release_fits : n ≤ 16 → (j : ℕ) → j < n → due m stocks i k j ≡ 1 → (m (Count i k) + (2 ^ 64 - 1)) % 2 ^ 64 ≡ m (Count i k) - 1
    release_fits few j lj one = let a = count_above j lj one in let most = count_small in omega arith

  -- who is in no set of any buffer of i holds none of them
  pub none_held : (i : ℕ) → i < n → (j : ℕ) → j < n → ((k : ℕ) → k < b → due m stocks i k j ≡ 0) → slice_index (stock_at stocks j).holds i ≡ 0
  none_held i li j lj none = none_by_bits (slice_index (stock_at stocks j).holds i) b (h.held j i lj li)
      (λ k lk. (none_left (due m stocks i k j) (to_be_posted m stocks i k j) (posted m stocks i k j) (holding m stocks i k j) (due_is m stocks i k j) (none k lk)).2)

  -- a buffer for which nobody is in a set is to be posted to nobody
  pub none_owed : (i k : ℕ) → i < n → k < b → ((j : ℕ) → j < n → due m stocks i k j ≡ 0) → (buffer_at m stocks i k).to_post ≡ 0
  none_owed i k li lk none = none_by_bits (buffer_at m stocks i k).to_post n (h.owed i k li lk)
      (λ j lj. (none_left (due m stocks i k j) (to_be_posted m stocks i k j) (posted m stocks i k j) (holding m stocks i k j) (due_is m stocks i k j) (none j lj)).0)

  -- each bit of a mail word is of a buffer that there is
  pub mail_within : (j i w c : ℕ) → j < n → i < n → bit_at (m (Mail j i w)) c ≡ 1 → (c < 64) × (64 * w + c < b)
  mail_within j i w c lj li on = h.narrow j i w c lj li on

  -- and it was due
  pub mail_due : (j i w c : ℕ) → j < n → i < n → bit_at (m (Mail j i w)) c ≡ 1 → due m stocks i (64 * w + c) j ≡ 1
  mail_due j i w c lj li on =
      let l = h.narrow j i w c lj li on in
      (posted_due i (64 * w + c) li l.1 j lj ((λ t. bit_at (m (Mail j i (word_of w c l.0 t))) (bit_of w c l.0 t)) ∙ on)).0
