-- What is left where a floor is closed with a seat that has taken all others in.
use Rattle.std.proofs.Common.{◌≡◌, ℕ, zero, suc, ◌+◌, ◌-◌, ◌<◌, ◌≤◌, Bool, true, if◌then◌else◌, List, [], ◌∷◌, ◌++◌, length, map, refl, sym, ap, ◌∙◌, subst, arith}
use mathlib.Core.Option.{some, some-injective, some-ne-none}
use lib.ListN.{get_elem?}
use Rattle.std.proofs.lemmas.Bool.{le-ltb, lt-ltb}
use Rattle.std.specs.Cmp.Derive.{both_true}
use Rattle.std.specs.Prelude.{slice_index}
use Rattle.atomic_table.proofs.Lists.{at_longer}
use Rattle.atomic_table.specs.Table.{State, Final, Seen}
use Rattle.kit_ground.specs.declared.address.Address.{Address}
use Rattle.kit_ground.specs.declared.address.Address.TheVariants.{Register}
use Rattle.kit_ground.specs.declared.ground.Protocol.{Ghosts}
use Rattle.kit_ground.specs.declared.place.Place.{Place}
use Rattle.kit_ground.specs.Layout.{index_of, is_there, memory_of}
use Rattle.kit_ground.specs.Rules.{Rule}
use Rattle.kit_ground.specs.Words.{RuledWords}
use Rattle.kit_pool.specs.declared.guest.GuestSeat.{GuestSeat}
use Rattle.kit_pool.specs.declared.seat.TableSeat.{TableSeat}
use Rattle.kit_pool.specs.GuestViews.{guest_desk_of}
use Rattle.kit_pool.specs.Seating.{TableHolds}
use Rattle.kit_pool.specs.SeatViews.{desk_of}
use Rattle.kit_pool.specs.Seats.{IsOwn, desks_taken_in}
use Rattle.kit_pool.specs.Watching.{AreGuests}
use Rattle.kit_pool.proofs.Behind.{at_before, at_behind}
use Rattle.kit_pool.proofs.Holding.{held_at}
use Rattle.kit_pool.proofs.Owning.{own_numbers}
use Rattle.kit_floor.specs.declared.floor.TableFloor.{TableFloor}
use Rattle.kit_floor.specs.Accounts.{count_of_federates, places_in_order}
use Rattle.kit_floor.specs.FloorViews.{CanStand, federates_of, place_of}
use Rattle.kit_floor.specs.GuestViews.{IsGuestOf}
use Rattle.kit_floor.proofs.Covering.{all_in_order}

module _ {V : Type 0} where
  -- both rules hold of the words and of all places in the order of the federates, each federate's place that the seat has stands at its number,
  -- and the rule of guests holds of each other
  pub record Closes (rule : Rule V) (n b : ℕ) (words : List ℕ) (desk : List (Place V)) : Type 0 where
    pub ruled : RuledWords rule b words (places_in_order n desk)
    pub many : length (places_in_order n desk) ≡ n
    pub each : (k : ℕ) (p : Place V) → get_elem? desk k ≡ some p → p.own.number < n → get_elem? (places_in_order n desk) p.own.number ≡ some p
    pub sees : (k : ℕ) (p : Place V) → get_elem? desk k ≡ some p → n ≤ p.own.number → rule.sees (memory_of (length (places_in_order n desk)) b words) (places_in_order n desk) p

  pub closes : {S : Type 0} (rule : Rule V) (n b id : ℕ) (desk : List (Place V)) (words : List ℕ) (slots : List S)
      → Final (Seen (λ (s : State S (List (Place V))). TableHolds rule n b [] s.words s.views) id desk) words slots → count_of_federates n desk ≡ n → Closes rule n b words desk
  closes rule n b id desk words slots f long =
      let s = f.0 in
      let r = f.1.0 in
      let all : List (Place V) = r.federates ++ r.guests in
      let held = r.held id desk f.1.1 in
      let enough : count_of_federates (length r.federates) desk ≡ length r.federates = subst (λ (k : ℕ). count_of_federates k desk ≡ k) (sym r.many) long in
      let same : places_in_order n desk ≡ r.federates = ap (λ (k : ℕ). places_in_order k desk) (sym r.many) ∙ all_in_order all r.owner id r.federates r.guests refl desk held enough in
      record {
        ruled = subst (λ (x : List ℕ × List (Place V)). RuledWords rule b x.0 x.1) (λ i. (f.2 i, sym same i)) r.ruled;
        many = ap length same ∙ r.many;
        each = λ k p e inside.
            let many = r.many in
            let among : p.own.number < length r.federates = omega (arith, many, inside) in
            ap (λ l. get_elem? l p.own.number) same ∙ (sym (at_before r.federates r.guests p.own.number among) ∙ held_at all r.owner id desk held k p e);
        sees = λ k p e behind.
            let many = r.many in
            let j : ℕ = p.own.number - length r.federates in
            let number : length r.federates + j ≡ p.own.number = omega (arith, many, behind) in
            let at : get_elem? r.guests j ≡ some p = sym (at_behind r.federates r.guests j) ∙ (ap (get_elem? all) number ∙ held_at all r.owner id desk held k p e) in
            subst (λ (x : List ℕ × List (Place V)). rule.sees (memory_of (length x.1) b x.0) x.1 p) (λ i. (f.2 i, sym same i)) (r.watched j p at).world.sees;
      }

  pub count-append : (n : ℕ) (xs ys : List (Place V)) → count_of_federates n (xs ++ ys) ≡ count_of_federates n xs + count_of_federates n ys
  count-append n [] ys = let e : count_of_federates n ys ≡ 0 + count_of_federates n ys = omega arith in e
  count-append n (x ∷ xs) ys = let rest = count-append n xs ys in omega (arith, rest)

  -- a federate's place alone
  count-alone : (n m b number : ℕ) (desk : List (Place V)) → length desk ≡ 1 → IsOwn number m b desk → number < n → count_of_federates n desk ≡ 1
  count-alone n m b number [] long own inside = absurd (omega arith)
  count-alone n m b number (p ∷ []) long own inside =
      let is = (own.own p (λ i. some p)).0 in
      let here : p.own.number < n = omega arith in
      ap (λ (t : Bool). (if t then 1 else 0) + 0) (lt-ltb p.own.number n here)
  count-alone n m b number (p ∷ q ∷ ps) long own inside = absurd (omega arith)

  -- guests' places are none of federates
  pub count-guests : (n : ℕ) (desk : List (Place V)) → AreGuests n desk → count_of_federates n desk ≡ 0
  count-guests n [] guests = refl
  count-guests n (p ∷ ps) guests =
      let rest = count-guests n ps (λ k q e. guests (suc k) q e) in
      ap (λ (t : Bool). (if t then 1 else 0) + count_of_federates n ps) (le-ltb p.own.number n (guests 0 p (λ i. some p))) ∙ omega (arith, rest)

  -- seats that are taken in, of each of which one place is a federate's
  pub count-gathered : {A : Type 0} (f : A → List (Place V)) (n : ℕ) (xs : List A) → ((k : ℕ) (x : A) → get_elem? xs k ≡ some x → count_of_federates n (f x) ≡ 1) → count_of_federates n (desks_taken_in (map f xs)) ≡ length xs
  count-gathered f n [] h = refl
  count-gathered f n (x ∷ xs) h =
      let rest = count-gathered f n xs (λ k y e. h (suc k) y e) in
      let one = h 0 x (λ i. some x) in
      count-append n (desks_taken_in (map f xs)) (f x) ∙ omega (arith, rest, one)

  -- or none
  pub none-gathered : {A : Type 0} (f : A → List (Place V)) (n : ℕ) (xs : List A) → ((k : ℕ) (x : A) → get_elem? xs k ≡ some x → count_of_federates n (f x) ≡ 0) → count_of_federates n (desks_taken_in (map f xs)) ≡ 0
  none-gathered f n [] h = refl
  none-gathered f n (x ∷ xs) h =
      let rest = none-gathered f n xs (λ k y e. h (suc k) y e) in
      let none = h 0 x (λ i. some x) in
      count-append n (desks_taken_in (map f xs)) (f x) ∙ omega (arith, rest, none)

module _ {P V O : Type 0} {g : Ghosts P V O} (floor : TableFloor P V O) where
  -- the number of a seat that can stand is that of a federate
  inside : (s : TableSeat P V O g) → CanStand floor s → s.number < federates_of floor
  inside s stands = let many = stands.seat.as_many in let below = s.within.inside in omega (arith, many, below)

  pub place-inside : (first : O → ℕ → V) (s : TableSeat P V O g) → CanStand floor s → (place_of first floor s).own.number < federates_of floor
  place-inside first s stands =
      let is = (own_numbers (first floor.table.shared.key.opening.value) s.number s.federates s.buffers s.seat.me.0 s.own).0 in
      let below = inside s stands in
      omega (arith, is, below)

  -- it has one place of a federate
  pub stands-alone : (s : TableSeat P V O g) → CanStand floor s → count_of_federates (federates_of floor) (desk_of s) ≡ 1
  stands-alone s stands = count-alone (federates_of floor) s.federates s.buffers s.number s.seat.me.0 stands.alone s.own (inside s stands)

  -- and a guest's seat has none
  pub guest-none : (s : GuestSeat P V O g) → IsGuestOf floor s → count_of_federates (federates_of floor) (guest_desk_of s) ≡ 0
  guest-none s guest = count-guests (federates_of floor) s.seat.me.0 (subst (λ (n : ℕ). AreGuests n s.seat.me.0) (sym guest.as_many) s.guests)

  -- as many seats that can stand, all taken in, have as many places of federates
  pub seats-count : (seats : List (TableSeat P V O g)) → ((k : ℕ) (s : TableSeat P V O g) → get_elem? seats k ≡ some s → CanStand floor s) → count_of_federates (federates_of floor) (desks_taken_in (map desk_of seats)) ≡ length seats
  seats-count seats h = count-gathered desk_of (federates_of floor) seats (λ k s e. stands-alone s (h k s e))

  pub guests-count : (guests : List (GuestSeat P V O g)) → ((k : ℕ) (s : GuestSeat P V O g) → get_elem? guests k ≡ some s → IsGuestOf floor s) → count_of_federates (federates_of floor) (desks_taken_in (map guest_desk_of guests)) ≡ 0
  guests-count guests h = none-gathered guest_desk_of (federates_of floor) guests (λ k s e. guest-none s (h k s e))

-- what one of the lists has stands somewhere among all
pub gathered_has : {A B : Type 0} (f : A → List B) (xs : List A) (k : ℕ) (x : A) (j : ℕ) (b : B) → get_elem? xs k ≡ some x → get_elem? (f x) j ≡ some b → (i : ℕ) × (get_elem? (desks_taken_in (map f xs)) i ≡ some b)
gathered_has f [] k x j b at has = absurd (some-ne-none x (sym at))
gathered_has f (y ∷ ys) zero x j b at has = (length (desks_taken_in (map f ys)) + j, at_behind (desks_taken_in (map f ys)) (f y) j ∙ (ap (λ z. get_elem? (f z) j) (some-injective y x at) ∙ has))
gathered_has f (y ∷ ys) (suc k) x j b at has = let t = gathered_has f ys k x j b at has in (t.0, at_longer (desks_taken_in (map f ys)) (f y) t.0 b t.1)

read_at : (l : List ℕ) (i a : ℕ) → get_elem? l i ≡ some a → slice_index l i ≡ a
read_at [] i a e = absurd (some-ne-none a (sym e))
read_at (x ∷ xs) zero a e = some-injective x a e
read_at (x ∷ xs) (suc i) a e = read_at xs i a e

-- the word that was read at the place of an address
pub word_is : (n b : ℕ) (words : List ℕ) (a : Address) (i w : ℕ) → is_there n b a ≡ true → i ≡ index_of n b a → get_elem? words i ≡ some w → w ≡ memory_of n b words a
word_is n b words a i w there is at =
    sym (ap (λ (t : Bool). if t then slice_index words (index_of n b a) else 0) there ∙ (ap (slice_index words) (sym is) ∙ read_at words i w at))

pub clock_there : (n b k : ℕ) → k < n → is_there n b (Register (record { owner = k; slot = 12 })) ≡ true
clock_there n b k lk = let slot : 12 < 13 = omega arith in both_true (lt-ltb k n lk) (lt-ltb 12 13 slot)
