-- A row of looks at the clocks of others, one after another.
use Rattle.std.proofs.Common.{◌≡◌, ◌≢◌, ℕ, ◌+◌, ◌-◌, ◌^◌, ◌<◌, ◌≤◌, inl, inr, List, refl, sym, ap, ◌∙◌, subst, ⊎_elim, arith, get_or-set_same, get_or-set_other}
use Rattle.std.specs.Prelude.{slice_index, slice_set}
use mathlib.Core.Logic.{dite}
use native.Mathlib.Decide.{ℕ_discrete}
use Rattle.kit_ground.specs.declared.address.Address.{Address}
use Rattle.kit_ground.specs.declared.address.Address.TheVariants.{Register}
use Rattle.kit_ground.specs.declared.place.Deed.TheVariants.{Looked, Published}
use Rattle.kit_ground.specs.declared.place.Glance.{Glance}
use Rattle.kit_ground.specs.declared.place.Place.{Place}
use Rattle.kit_ground.specs.Rules.{WasFound}
use Rattle.kit_ground.specs.Steps.{IsSameSeat, place_after, reg_index}
use Rattle.kit_ground.proofs.WorldFacts.{few_federates, fits_here, told_by_world}
use Rattle.kit_courier.specs.declared.view.CourierView.{CourierView}
use Rattle.kit_courier.specs.Calls.{AdvanceLeaves, HasLooked, IsLeast, last_look}
use Rattle.kit_courier.specs.Couriers.{courier_rule}
use Rattle.kit_courier.specs.Deliveries.{view_after}
use Rattle.kit_ground.specs.Layout.{clock_of}

abbrev P : Type 0
P = Place CourierView

-- one look was made for each clock below n but the own
pub record HasLookedOnce (p : P) (n : ℕ) (q : P) : Type 0 where
  pub skipped : ℕ
  pub own_below : p.own.number < n → skipped ≡ 1
  pub own_above : n ≤ p.own.number → skipped ≡ 0
  pub steps : q.own.steps + skipped ≡ p.own.steps + n
  pub looks : q.own.looks + skipped ≡ p.own.looks + n

-- the seat p has come to q, has looked at each other clock below n, and has found `least`
pub record HasSearched (p : P) (n least : ℕ) (q : P) : Type 0 where
  pub seat : IsSameSeat p q
  pub shown : q.own.shown ≡ p.own.shown
  pub later : p.own.steps ≤ q.own.steps
  pub leaves : AdvanceLeaves p q
  pub pace : HasLookedOnce p n q
  pub looked : HasLooked p n q
  pub lowest : IsLeast q.client.known n p.own.number least

pub none_looked : (p : P) → HasSearched p 0 (2 ^ 64 - 1) p
none_looked p = record {
  seat = record { number = refl; federates = refl; buffers = refl };
  shown = refl;
  later = omega arith;
  leaves = record { stops = refl; registers = λ r lr. refl; counts = refl; mail = refl; stop = refl; shown = λ slot other. refl; collects = refl; stock = refl; known = refl; sent = refl; reading = refl; got = refl };
  pace = record { skipped = 0; own_below = λ lt. absurd (omega arith); own_above = λ le. refl; steps = omega arith; looks = omega arith };
  looked = record { since = λ k lk. absurd (omega arith); found = λ k lk. absurd (omega arith) };
  lowest = record { below = λ k lk. absurd (omega arith); found = inl refl };
}

-- what holds below n, and at n unless n is `me`, holds below n + 1
one_more : (F : ℕ → Type 0) (n me : ℕ) → ((k : ℕ) → k < n → k ≢ me → F k) → (n ≢ me → F n) → (k : ℕ) → k < n + 1 → k ≢ me → F k
one_more F n me below here k lt other = dite (ℕ_discrete k n) (λ same. subst F (sym same) (here (λ e. other (same ∙ e)))) (λ apart. below k (omega arith) other)

-- the own clock is not looked at
pub own_skipped : (p : P) (n least : ℕ) (q : P) → HasSearched p n least q → n ≡ p.own.number → HasSearched p (n + 1) least q
own_skipped p n least q h own = record {
  seat = h.seat;
  shown = h.shown;
  later = h.later;
  leaves = h.leaves;
  pace =
      let x : ℕ = h.pace.skipped in
      let zero : x ≡ 0 = h.pace.own_above (omega arith) in
      let steps : q.own.steps + x ≡ p.own.steps + n = h.pace.steps in
      let looks : q.own.looks + x ≡ p.own.looks + n = h.pace.looks in
      record { skipped = 1; own_below = λ lt. refl; own_above = λ le. absurd (omega arith); steps = omega arith; looks = omega arith };
  looked = record {
    since = one_more (λ k. p.own.steps < (last_look q k).step) n p.own.number h.looked.since (λ no. absurd (no own));
    found = one_more (λ k. (last_look q k).gave ≡ slice_index q.client.known k) n p.own.number h.looked.found (λ no. absurd (no own));
  };
  lowest = record {
    below = one_more (λ k. least ≤ slice_index q.client.known k) n p.own.number h.lowest.below (λ no. absurd (no own));
    found = ⊎_elim (λ none. inl none) (λ x. inr (x.0, omega (arith, x.1), x.2, x.3)) h.lowest.found;
  };
}

-- a look at the clock n
module _ (p : P) (n least word : ℕ) (q : P) (h : HasSearched p n least q) (ln : n < p.own.federates) (other : n ≢ p.own.number) (t : WasFound courier_rule q (Register (clock_of n)) word) where
  abbrev now : P
  now = place_after view_after (Looked (clock_of n) word) q

  abbrev known : List ℕ
  known = slice_set q.client.known n word

  abbrev glance : Glance ℕ
  glance = record { step = q.own.steps + 1; gave = word }

  known_here : slice_index known n ≡ word
  known_here =
      let w = t.2 in
      let few = few_federates courier_rule q t.0 t.1 w in
      let many = h.seat.federates in
      let wide = (w.client.clocks.each q.own.number q w.here).wide in
      let all = (fits_here courier_rule q t.0 t.1 w).federates in
      get_or-set_same q.client.known n word 0 (omega arith)

  known_else : (k : ℕ) → k < n → slice_index known k ≡ slice_index q.client.known k
  known_else k lk = get_or-set_other q.client.known n k word 0 (λ e. omega arith)

  look_here : last_look now n ≡ glance
  look_here =
      let fits = fits_here courier_rule q t.0 t.1 t.2 in
      let long = fits.registers in
      let many = h.seat.federates in
      let all = fits.federates in
      get_or-set_same q.own.registers (reg_index (clock_of n)) glance (record { step = 0; gave = 0 }) (omega arith)

  look_else : (k : ℕ) → k < n → last_look now k ≡ last_look q k
  look_else k lk = get_or-set_other q.own.registers (reg_index (clock_of n)) (reg_index (clock_of k)) glance (record { step = 0; gave = 0 }) (λ e. omega arith)

  has_looked : HasLooked p (n + 1) now
  has_looked = record {
    since = one_more (λ k. p.own.steps < (last_look now k).step) n p.own.number
        (λ k lk apart. subst (λ (s : Glance ℕ). p.own.steps < s.step) (sym (look_else k lk)) (h.looked.since k lk apart))
        (λ _. let l = h.later in subst (λ (s : Glance ℕ). p.own.steps < s.step) (sym look_here) (omega arith));
    found = one_more (λ k. (last_look now k).gave ≡ slice_index known k) n p.own.number
        (λ k lk apart. ap (λ (s : Glance ℕ). s.gave) (look_else k lk) ∙ (h.looked.found k lk apart ∙ sym (known_else k lk)))
        (λ _. ap (λ (s : Glance ℕ). s.gave) look_here ∙ sym known_here);
  }

  below_still : (low : ℕ) → low ≤ least → low ≤ word → (k : ℕ) → k < n + 1 → k ≢ p.own.number → low ≤ slice_index known k
  below_still low a b = one_more (λ k. low ≤ slice_index known k) n p.own.number
      (λ k lk apart. let x = h.lowest.below k lk apart in let y = known_else k lk in omega arith)
      (λ _. let y = known_here in omega arith)

  leaves_on : AdvanceLeaves p now
  leaves_on = record {
    stops = h.leaves.stops;
    registers = λ r lr. get_or-set_other q.own.registers (reg_index (clock_of n)) (reg_index r) glance (record { step = 0; gave = 0 }) (λ e. omega arith) ∙ h.leaves.registers r lr;
    counts = h.leaves.counts;
    mail = h.leaves.mail;
    stop = h.leaves.stop;
    shown = h.leaves.shown;
    collects = h.leaves.collects;
    stock = h.leaves.stock;
    known = get_or-set_other q.client.known n p.own.number word 0 (λ e. other (sym e)) ∙ h.leaves.known;
    sent = h.leaves.sent;
    reading = h.leaves.reading;
    got = h.leaves.got;
  }

  paced : HasLookedOnce p (n + 1) now
  paced =
      let x : ℕ = h.pace.skipped in
      let steps : q.own.steps + x ≡ p.own.steps + n = h.pace.steps in
      let looks : q.own.looks + x ≡ p.own.looks + n = h.pace.looks in
      record { skipped = x; own_below = λ lt. h.pace.own_below (below lt); own_above = λ le. h.pace.own_above (omega arith); steps = omega arith; looks = omega arith }
    where
      below : p.own.number < n + 1 → p.own.number < n
      below lt = omega (arith, lt, other)

  searched : (low : ℕ) → IsLeast known (n + 1) p.own.number low → HasSearched p (n + 1) low now
  searched low lowest = record { seat = record { number = h.seat.number; federates = h.seat.federates; buffers = h.seat.buffers }; shown = h.shown; later = let l = h.later in omega arith; leaves = leaves_on; pace = paced; looked = has_looked; lowest = lowest }

  pub found_lower : word < least → HasSearched p (n + 1) word now
  found_lower lower = searched word (record {
    below = below_still word (omega arith) (omega arith);
    found = inr (n, omega arith, other, known_here);
  })

  pub found_no_lower : least ≤ word → HasSearched p (n + 1) least now
  found_no_lower above = searched least (record {
    below = below_still least (omega arith) above;
    found = ⊎_elim (λ none. inl none) (λ x. inr (x.0, omega (arith, x.1), x.2, known_else x.0 x.1 ∙ x.3)) h.lowest.found;
  })

-- the last step shows the own clock, and leaves all else
module _ (p : P) (n least : ℕ) (q : P) (h : HasSearched p n least q) (k to : ℕ) where
  pub shows_leave : AdvanceLeaves p (place_after view_after (Published (clock_of k) to) q)
  shows_leave = record {
    stops = h.leaves.stops;
    registers = h.leaves.registers;
    counts = h.leaves.counts;
    mail = h.leaves.mail;
    stop = h.leaves.stop;
    shown = λ slot other. get_or-set_other q.own.shown 12 slot to 0 other ∙ h.leaves.shown slot other;
    collects = h.leaves.collects;
    stock = h.leaves.stock;
    known = h.leaves.known;
    sent = h.leaves.sent;
    reading = h.leaves.reading;
    got = h.leaves.got;
  }

  -- in as many steps as there are federates
  pub paced_whole : {a : Address} {found : ℕ} → WasFound courier_rule q a found → n ≡ p.own.federates → (q.own.steps + 1 ≡ p.own.steps + p.own.federates) × (q.own.looks + 1 ≡ p.own.looks + p.own.federates)
  paced_whole t all =
      let here = (told_by_world courier_rule q t.0 t.1 t.2).number in
      let number = h.seat.number in
      let federates = h.seat.federates in
      let x : ℕ = h.pace.skipped in
      let one : x ≡ 1 = h.pace.own_below (omega arith) in
      let steps : q.own.steps + x ≡ p.own.steps + n = h.pace.steps in
      let looks : q.own.looks + x ≡ p.own.looks + n = h.pace.looks in
      (omega arith, omega arith)

-- the own clock is shown at the end
pub shown_here : (q : P) (a : Address) (found k word : ℕ) → WasFound courier_rule q a found → slice_index (place_after view_after (Published (clock_of k) word) q).own.shown 12 ≡ word
shown_here q a found k word t = let long = (fits_here courier_rule q t.0 t.1 t.2).shown in get_or-set_same q.own.shown 12 word 0 (omega arith)
