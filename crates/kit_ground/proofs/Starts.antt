-- The floor's rule holds at the opening.
use Rattle.std.proofs.Common.{◌≡◌, ℕ, zero, suc, ◌+◌, ◌*◌, ◌%◌, ◌^◌, ◌<◌, ◌≤◌, List, length, map, replicate, refl, sym, ap, ◌∙◌, subst, arith}
use Rattle.std.proofs.lemmas.List.{length-replicate, length-map}
use Rattle.std.proofs.lemmas.Nat.{pow_pos}
use Rattle.std.proofs.lemmas.Nat.Bits.{bit_at-zero}
use Rattle.std.specs.Prelude.{slice_index}
use Rattle.std.specs.Int.{bit_at}
use mathlib.Core.Option.{some, some-injective, some-ne-none}
use lib.ListN.{get_elem?}
use Rattle.kit_ground.specs.declared.place.Buffer.{Buffer}
use Rattle.kit_ground.specs.declared.place.Place.{Place}
use Rattle.kit_ground.specs.declared.place.SeatBuffers.{SeatBuffers}
use Rattle.kit_ground.specs.Layout.{mail_words}
use Rattle.kit_ground.specs.Rules.{FloorHolds, OwnFits, zero_memory, own_at_first, places_at_first, places_from, stock_of}
use Rattle.kit_ground.specs.Sets.{Pool, buffer_at, due, stock_at}
use Rattle.kit_ground.specs.Steps.{buffer_of, part_of, fresh_buffer}
use Rattle.kit_ground.proofs.Fits.{due_is}
use Rattle.kit_ground.proofs.Lists.{same_everywhere}
use Rattle.kit_ground.proofs.Sums.{sum_zero}

untouched_part : (p : ℕ) → part_of p fresh_buffer ≡ 0
untouched_part zero = refl
untouched_part (suc p) = refl

module _ {V : Type 0} (first : ℕ → V) (n b : ℕ) where
  pub length_places_from : (k m : ℕ) → length (places_from first n b k m) ≡ m
  length_places_from k zero = refl
  length_places_from k (suc m) = ap suc (length_places_from (k + 1) m)

  pub place_from : (k m j : ℕ) (p : Place V) → get_elem? (places_from first n b k m) j ≡ some p → (p.client ≡ first (k + j)) × (p.own ≡ own_at_first n b (k + j))
  place_from k zero j p e = absurd (some-ne-none p (sym e))
  place_from k (suc m) zero p e =
      let same : k ≡ k + 0 = omega arith in
      let is = sym (some-injective (record { own = own_at_first n b k; client = first k }) p e) in
      (ap (λ (q : Place V). q.client) is ∙ ap first same, ap (λ (q : Place V). q.own) is ∙ ap (own_at_first n b) same)
  place_from k (suc m) (suc j) p e =
      let same : (k + 1) + j ≡ k + suc j = omega arith in
      subst (λ (x : ℕ). (p.client ≡ first x) × (p.own ≡ own_at_first n b x)) same (place_from (k + 1) m j p e)

  -- the place of each federate at the opening
  pub client_at_first : (j : ℕ) (p : Place V) → get_elem? (places_at_first first n b) j ≡ some p → (p.client ≡ first j) × (p.own ≡ own_at_first n b j)
  client_at_first j p e = let same : 0 + j ≡ j = omega arith in subst (λ (x : ℕ). (p.client ≡ first x) × (p.own ≡ own_at_first n b x)) same (place_from 0 n j p e)

  pub own_fits_at_first : (j : ℕ) → OwnFits zero_memory n b j (own_at_first n b j)
  own_fits_at_first j = record {
    number = refl;
    federates = refl;
    buffers = refl;
    registers = length-replicate (13 * n) _;
    counts = length-replicate b _;
    mail = length-replicate (mail_words b * n) _;
    shown = length-replicate {A = ℕ} 13 0;
    collects = length-replicate {A = ℕ} (mail_words b * n) 0;
    shows = λ s ls. sym (same_everywhere 13 s 0);
    stopped = λ some. absurd (omega (arith, some));
  }

  abbrev stock : SeatBuffers
  stock = record { buffers = replicate b fresh_buffer; holds = replicate n 0 }

  stock_from : (k m j : ℕ) → j < m → stock_at (map stock_of (places_from first n b k m)) j ≡ stock
  stock_from k zero j lt = absurd (omega arith)
  stock_from k (suc m) zero lt = refl
  stock_from k (suc m) (suc j) lt = stock_from (k + 1) m j (omega arith)

  abbrev stocks : List SeatBuffers
  stocks = map stock_of (places_at_first first n b)

  buffer_at_first : (i k : ℕ) → i < n → buffer_at zero_memory stocks i k ≡ fresh_buffer
  buffer_at_first i k li = ap (λ (s : SeatBuffers). buffer_of s k) (stock_from 0 n i li) ∙ same_everywhere b k fresh_buffer

  none_due : (i k j : ℕ) → i < n → j < n → due zero_memory stocks i k j ≡ 0
  none_due i k j li lj =
      due_is zero_memory stocks i k j
      ∙ ((λ t. (ap (λ (c : Buffer). bit_at c.to_post j) (buffer_at_first i k li) ∙ bit_at-zero j) t + bit_at-zero (k % 64) t
      + (ap (λ (s : SeatBuffers). bit_at (slice_index s.holds i) k) (stock_from 0 n j lj) ∙ (ap (λ (w : ℕ). bit_at w k) (same_everywhere n i 0) ∙ bit_at-zero k)) t)
      ∙ omega arith)

  pub pool_at_first : Pool zero_memory stocks n b
  pool_at_first = record {
    seats = length-map (places_at_first first n b) stock_of ∙ length_places_from 0 n;
    sized = λ i li. (ap (λ (s : SeatBuffers). length s.buffers) (stock_from 0 n i li) ∙ length-replicate b fresh_buffer, ap (λ (s : SeatBuffers). length s.holds) (stock_from 0 n i li) ∙ length-replicate n 0);
    counted = λ i k li lk. sym (sum_zero (due zero_memory stocks i k) n (λ j lj. none_due i k j li lj));
    once = λ i k j li lk lj. let z = none_due i k j li lj in omega arith;
    others = λ i k li lk. none_due i k i li li;
    free = λ i k li lk is. refl;
    content = λ i k p li lk lp. sym (ap (part_of p) (buffer_at_first i k li) ∙ untouched_part p);
    narrow = λ j i w k lj li on. let z : 0 ≡ 1 = sym (bit_at-zero k) ∙ on in absurd (omega arith);
    held = λ j i lj li. subst (λ (x : ℕ). x < 2 ^ b) (sym (ap (λ (s : SeatBuffers). slice_index s.holds i) (stock_from 0 n j lj) ∙ same_everywhere n i 0)) (pow_pos b);
    owed = λ i k li lk. subst (λ (c : Buffer). c.to_post < 2 ^ n) (sym (buffer_at_first i k li)) (pow_pos n);
  }

  pub floored_at_first : n ≤ 16 → b ≤ 1024 → FloorHolds b zero_memory (places_at_first first n b)
  floored_at_first few small =
      let long = length_places_from 0 n in
      let zero_small : 0 ≤ 1 = omega arith in
      record {
        few = subst (λ (k : ℕ). k ≤ 16) (sym long) few;
        small = small;
        each = λ j p e. subst (λ (x : ℕ). OwnFits zero_memory x b j p.own) (sym long) (subst (OwnFits zero_memory n b j) (sym (client_at_first j p e).1) (own_fits_at_first j));
        pool = subst (λ (k : ℕ). Pool zero_memory stocks k b) (sym long) pool_at_first;
        stop = zero_small;
      }
