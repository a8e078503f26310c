-- What changes where a part of a turn did something: a post is told, and the return of a buffer changes what is held.
use Rattle.std.proofs.Common.{◌≡◌, ◌≢◌, ℕ, zero, suc, ◌+◌, ◌^◌, ◌<◌, ◌≤◌, ◌==◌, ◌&&◌, inl, inr, nat_lt, Bool, true, false, List, [], ◌∷◌, ◌++◌, length, take, filter, map, refl, sym, ap, ◌∙◌, subst, arith, eq-eqb, if◌then◌else◌}
use Rattle.std.proofs.Math.Bool.{and-false}
use Rattle.std.specs.Prelude.{All, IfSome, Option, Some, None, count_by, slice_index, is_some}
use Rattle.std.specs.Int.{bit_at}
use Rattle.std.specs.List.{Contains, range_with_len}
use Rattle.std.proofs.lemmas.Bool.{cases_lt}
use Rattle.std.proofs.lemmas.List.{length-append, length-map}
use Rattle.std.proofs.lemmas.List.Elements.{All-head, All-tail}
use Rattle.std.proofs.lemmas.List.FromFn.{get_or-range_with_len, length-range_with_len}
use Rattle.std.proofs.lemmas.List.Sums.{length-filter}
use Rattle.std.proofs.lemmas.Nat.{pow_pos}
use Rattle.std.proofs.lemmas.Nat.Bits.{bit_at-zero, same_from_bits_below}
use Rattle.kit_base.specs.declared.message.Message.{Message}
use Rattle.kit_ground.specs.declared.place.Place.{Place}
use Rattle.kit_queue.specs.declared.entry.Entry.{Entry}
use Rattle.kit_queue.specs.Entries.{is_settleable, without_buffer}
use Rattle.kit_queue.proofs.Places.{has_buffer}
use Rattle.kit_rules.specs.Delivery.{has_bit, is_transported, receivers_of}
use Rattle.kit_rules.specs.Parts.{Parts}
use Rattle.kit_lbts.specs.declared.view.LbtsView.{LbtsView}
use Rattle.kit_lbts.specs.declared.view.Posting.{Posting}
use Rattle.kit_lbts.specs.Letters.{letter_of}
use Rattle.kit_lbts.specs.SeatLaws.{IsInWorld}
use Rattle.kit_lbts.specs.Seats.{is_buffer, waits_in}
use Rattle.kit_lbts.specs.Views.{is_in_hand, is_spent}
use Rattle.kit_lbts.proofs.Hands.{count_cons, count_has, one_if}
use Rattle.kit_lbts.proofs.SeatFacts.{places_tell}
use Rattle.kit_node.specs.Mirrors.{IsCalm}
use Rattle.kit_node.specs.Sending.{copies_of, copies_of_all}
use Rattle.kit_node.specs.Settling.{HasSettled, settled_below, settled_or_same}
use Rattle.kit_rules.proofs.ReceiverMasks.{bit_off, receivers_below, transported_some}

abbrev P : Type 0
P = Place LbtsView

-- A MESSAGE that is transported has a copy
some_bit : (mask n : ℕ) → mask < 2 ^ n → mask ≢ 0 → 0 < length (filter (has_bit mask) (range_with_len 0 n))
some_bit mask n small other = elim (cases_lt 0 (length (filter (has_bit mask) (range_with_len 0 n)))) [
  | inl some_ ↦ some_
  | inr none ↦ absurd (other (same_from_bits_below n mask 0 small (pow_pos n) (λ i lt. bit_off mask i (unset none i lt (has_bit mask i) refl) ∙ sym (bit_at-zero i))))
]
  where
    unset : length (filter (has_bit mask) (range_with_len 0 n)) ≤ 0 → (i : ℕ) → i < n → (b : Bool) → has_bit mask i ≡ b → has_bit mask i ≡ false
    unset none i lt false is = is
    unset none i lt true is =
        let count = length-filter (has_bit mask) (range_with_len 0 n) in
        let long = length-range_with_len 0 n in
        let at : Contains (range_with_len 0 n) i = (i, omega (arith, lt, long), get_or-range_with_len 0 n i i lt ∙ (let e : 0 + i ≡ i = omega arith in e)) in
        let some_ = count_has (has_bit mask) (range_with_len 0 n) i at is in
        absurd (omega (arith, none, count, some_))

copies_some : (v : LbtsView) (n : ℕ) (m : Message) → length v.federation.federates ≡ n → receivers_of v.federation m.sender m.group < 2 ^ length v.federation.federates
    → receivers_of v.federation m.sender m.group ≢ 0 → 0 < length (copies_of v n m)
copies_some v n m many small other =
    let mask : ℕ = receivers_of v.federation m.sender m.group in
    let some_ = some_bit mask n (subst (λ (k : ℕ). mask < 2 ^ k) many small) other in
    let posting : ℕ → Posting = λ j. record { to = j; filled = letter_of v m } in
    let long = length-map (filter (has_bit mask) (range_with_len 0 n)) posting in
    omega (arith, some_, long)

-- so where some of the outbox is posted, the posts are more
pub posts_more : (p : P) → IsInWorld p → (v : LbtsView) → v.federation ≡ p.client.federation → (count : ℕ) → 0 < count → count ≤ length p.client.outbox → 0 < length (copies_of_all v p.own.federates (take count p.client.outbox))
posts_more p w v same count some_ few = by p.client.outbox count some_ few (places_tell p w).sends.transported
  where
    by : (ms : List Message) (c : ℕ) → 0 < c → c ≤ length ms → All (λ (m : Message). is_transported p.client.federation m ≡ true) ms → 0 < length (copies_of_all v p.own.federates (take c ms))
    by [] c some_ few all = absurd (omega (arith, some_, few))
    by (m ∷ ms) zero some_ few all = absurd (omega (arith, some_))
    by (m ∷ ms) (suc c) some_ few all =
        let t = places_tell p w in
        let f : Parts = p.client.federation in
        let there = All-head (λ (x : Message). is_transported f x ≡ true) m ms all in
        let small = receivers_below f t.federation m.sender m.group in
        let other = transported_some f m there in
        let one = copies_some v p.own.federates m (ap (λ (x : Parts). length x.federates) same ∙ sym t.federates) (subst (λ (x : Parts). receivers_of x m.sender m.group < 2 ^ length x.federates) (sym same) small)
        (subst (λ (x : Parts). receivers_of x m.sender m.group ≢ 0) (sym same) other) in
        let long = length-append (copies_of v p.own.federates m) (copies_of_all v p.own.federates (take c ms)) in
        omega (arith, one, long)

-- A BUFFER that is given back is held no more
none_if : (b : Bool) → b ≡ false → one_if b ≡ 0
none_if b e = ap one_if e

fewer_one : (i k : ℕ) (e : Entry) (b : Bool) → one_if (waits_in i k (if b then without_buffer e else e)) ≤ one_if (waits_in i k e)
fewer_one i k e true = let z = none_if (waits_in i k (without_buffer e)) (and-false (e.message.sender == i)) in omega (arith, z)
fewer_one i k e false = omega arith

fewer_wait : (bound i k : ℕ) (es : List Entry) → count_by (waits_in i k) (settled_below bound es) ≤ count_by (waits_in i k) es
fewer_wait bound i k [] = omega arith
fewer_wait bound i k (e ∷ es) =
    let a = count_cons (waits_in i k) (settled_or_same bound e) (settled_below bound es) in
    let b = count_cons (waits_in i k) e es in
    let one = fewer_one i k e (is_settleable bound e) in
    let rest = fewer_wait bound i k es in
    omega (arith, a, b, one, rest)

pub record Drops (bound federates buffers : ℕ) (es : List Entry) : Type 0 where
  pub i : ℕ
  pub k : ℕ
  pub from : i < federates
  pub inside : k < buffers
  pub less : count_by (waits_in i k) (settled_below bound es) < count_by (waits_in i k) es

module _ (bound federates buffers : ℕ) where
  abbrev IsThere : Entry → Type 0
  IsThere e = (e.message.sender < federates) × IfSome e.buffer (λ k. k < buffers)

  drops_first : (e : Entry) (es : List Entry) → is_settleable bound e ≡ true → IsThere e → Drops bound federates buffers (e ∷ es)
  drops_first e es may there = by e.buffer refl
    where
      by : (o : Option ℕ) → e.buffer ≡ o → Drops bound federates buffers (e ∷ es)
      by None is = absurd (has_buffer bound e may is)
      by (Some k) is =
          let i : ℕ = e.message.sender in
          let a = count_cons (waits_in i k) (settled_or_same bound e) (settled_below bound es) in
          let b = count_cons (waits_in i k) e es in
          let gone : one_if (waits_in i k (settled_or_same bound e)) ≡ 0 =
          ap (λ (c : Bool). one_if (waits_in i k (if c then without_buffer e else e))) may ∙ none_if (waits_in i k (without_buffer e)) (and-false (e.message.sender == i)) in
          let here : one_if (waits_in i k e) ≡ 1 = ap one_if (ap (λ (o : Option ℕ). (e.message.sender == i) && is_buffer k o) is ∙ ((λ t. eq-eqb i i refl t && eq-eqb k k refl t))) in
          let rest = fewer_wait bound i k es in
          record { i = i; k = k; from = there.0; inside = subst (λ (o : Option ℕ). IfSome o (λ x. x < buffers)) is there.1; less = omega (arith, a, b, gone, here, rest) }

  drops_later : (e : Entry) (es : List Entry) → is_settleable bound e ≡ false → Drops bound federates buffers es → Drops bound federates buffers (e ∷ es)
  drops_later e es no_ d =
      let a = count_cons (waits_in d.i d.k) (settled_or_same bound e) (settled_below bound es) in
      let b = count_cons (waits_in d.i d.k) e es in
      let same : one_if (waits_in d.i d.k (settled_or_same bound e)) ≡ one_if (waits_in d.i d.k e) = ap (λ (c : Bool). one_if (waits_in d.i d.k (if c then without_buffer e else e))) no_ in
      let less = d.less in
      record { i = d.i; k = d.k; from = d.from; inside = d.inside; less = omega (arith, a, b, same, less) }

  drops : (es : List Entry) → All IsThere es → 0 < count_by (is_settleable bound) es → Drops bound federates buffers es
  drops [] all some_ = absurd (omega (arith, some_))
  drops (e ∷ es) all some_ = by (is_settleable bound e) refl (λ more. drops es (All-tail IsThere e es all) more)
    where
      by : (b : Bool) → is_settleable bound e ≡ b → (0 < count_by (is_settleable bound) es → Drops bound federates buffers es) → Drops bound federates buffers (e ∷ es)
      by true may rest = drops_first e es may (All-head IsThere e es all)
      by false may rest =
          let c = count_cons (is_settleable bound) e es in
          let z = ap one_if may in
          drops_later e es may (rest (omega (arith, some_, c, z)))

pub settles_change : (bound : ℕ) (p q : P) → IsInWorld p → IsInWorld q → IsCalm p.client → IsCalm q.client → HasSettled bound true p q → q.own.stock.holds ≡ p.own.stock.holds → ⊥
settles_change bound p q w wq calm calm_q h same =
    let t = places_tell p w in
    let u = places_tell q wq in
    let d = drops bound p.own.federates p.own.buffers p.client.queue t.holdings.queue (h.some refl) in
    let from : d.i < q.own.federates = (let f = d.from in let e = h.seat.federates in omega (arith, f, e)) in
    let inside : d.k < q.own.buffers = (let f = d.inside in let e = h.seat.buffers in omega (arith, f, e)) in
    let a = t.holdings.each d.i d.k d.from d.inside in
    let b = u.holdings.each d.i d.k from inside in
    let queue = ap (λ (x : LbtsView). count_by (waits_in d.i d.k) x.queue) h.view in
    let holds = ap (λ (l : List ℕ). bit_at (slice_index l d.i) d.k) same in
    let hand = ap (λ l. count_by (is_in_hand d.i d.k) l) calm.in_hand in
    let spent = ap (λ l. count_by (is_spent d.i d.k) l) calm.spent in
    let hand_q = ap (λ l. count_by (is_in_hand d.i d.k) l) calm_q.in_hand in
    let spent_q = ap (λ l. count_by (is_spent d.i d.k) l) calm_q.spent in
    let less = d.less in
    omega (arith, a, b, queue, holds, hand, spent, hand_q, spent_q, less)
