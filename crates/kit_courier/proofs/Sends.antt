-- The places through which a seat goes when it sends a letter.
use mathlib.Core.Logic.{dite}
use native.Mathlib.Decide.{ℕ_discrete}
use Rattle.std.proofs.Common.{get_or-set_other, Bool, ◌≡◌, ◌≢◌, ℕ, ◌+◌, ◌^◌, ◌<◌, true, false, [], ◌∷◌, ◌++◌, length, refl, sym, ap, ◌∙◌, subst, arith, length-set, get_or-set_same}
use Rattle.std.proofs.Math.Pow.{pow-lt}
use Rattle.std.proofs.lemmas.Nat.Bits.{bit_at-pow_other, bit_at-pow_same, bit_at-zero}
use Rattle.std.specs.Int.{bit_at}
use Rattle.std.specs.Int.Bits.{xor_self}
use Rattle.std.specs.Prelude.{bit_xor}
use Rattle.kit_ground.specs.declared.address.Address.{Address}
use Rattle.kit_ground.specs.declared.place.Buffer.{Buffer}
use Rattle.kit_ground.specs.declared.place.Deed.TheVariants.{SawFree, Wrote, Charged, PostedTo}
use Rattle.kit_ground.specs.declared.place.Glance.{Glance}
use Rattle.kit_ground.specs.declared.place.SeatState.{SeatState}
use Rattle.kit_ground.specs.declared.place.Place.{Place}
use Rattle.kit_ground.specs.declared.place.SeatBuffers.{SeatBuffers}
use Rattle.kit_ground.specs.Rules.{WasFound}
use Rattle.kit_ground.specs.Steps.{IsChargeable, IsMask, place_after, buffer_of, buffer_after_charge, buffer_after_post, buffer_after_look, fresh_buffer, with_buffer, buffer_after_write}
use Rattle.kit_ground.proofs.PlaceSteps.{stage}
use Rattle.kit_ground.proofs.WorldFacts.{buffers_long, fits_here}
use Rattle.kit_courier.specs.declared.view.CourierView.{CourierView}
use Rattle.kit_courier.specs.declared.view.Letter.{Letter}
use Rattle.kit_courier.specs.Calls.{HasSeen, OwesTheSame, SendLeaves, last_count}
use Rattle.kit_courier.specs.Couriers.{courier_rule}
use Rattle.kit_courier.specs.Deliveries.{view_after, letter_of}

abbrev P : Type 0
P = Place CourierView

-- the buffer that was changed
changed_here : (s : SeatBuffers) (k : ℕ) (c : Buffer) → k < length s.buffers → buffer_of (with_buffer k c s) k ≡ c
changed_here s k c lk = get_or-set_same s.buffers k c fresh_buffer lk

-- what a step tells of the seat's own buffers
pub in_stock : (p : P) (k : ℕ) → k < p.own.buffers → {a : Address} {word : ℕ} → WasFound courier_rule p a word → k < length p.own.stock.buffers
in_stock p k lk t = let long = buffers_long courier_rule p t.0 t.1 t.2 in omega arith

pub in_counts : (p : P) (k : ℕ) → k < p.own.buffers → {a : Address} {word : ℕ} → WasFound courier_rule p a word → k < length p.own.counts
in_counts p k lk t = let long = (fits_here courier_rule p t.0 t.1 t.2).counts in omega arith

-- a look at a buffer's count
pub sees : (p : P) (k : ℕ) (free : Bool) → k < length p.own.counts → HasSeen p k free (place_after view_after (SawFree k free) p)
sees p k free lk =
    let glance : Glance Bool = record { step = p.own.steps + 1; gave = free } in
    let is : last_count (place_after view_after (SawFree k free) p) k ≡ glance = get_or-set_same p.own.counts k glance (record { step = 0; gave = false }) lk in
    record { since = subst (λ (s : Glance Bool). p.own.steps < s.step) (sym is) (omega arith); found = ap (λ (s : Glance Bool). s.gave) is }

-- the others
changed_else : (s : SeatBuffers) (k : ℕ) (c : Buffer) (x : ℕ) → x ≢ k → buffer_of (with_buffer k c s) x ≡ buffer_of s x
changed_else s k c x other = get_or-set_other s.buffers k x c fresh_buffer other

-- the mask of one other federate
pub only_mask : (o : SeatState) (j : ℕ) → j < o.federates → j ≢ o.number → IsMask o (2 ^ j)
only_mask o j inside other = (
  λ zero. let one = bit_at-pow_same j in let none : bit_at (2 ^ j) j ≡ 0 = ap (λ (mask : ℕ). bit_at mask j) zero ∙ bit_at-zero j in absurd (omega arith),
  pow-lt inside,
  bit_at-pow_other j o.number (λ e. other (sym e)),
)

-- a look leaves all else
pub look_leaves : (p : P) (k : ℕ) (free : Bool) → SendLeaves p k (place_after view_after (SawFree k free) p)
look_leaves p k free = record {
  looks = refl;
  stops = refl;
  registers = refl;
  mail = refl;
  stop = refl;
  shown = refl;
  collects = refl;
  holds = refl;
  known = refl;
  reading = refl;
  got = refl;
  counts = λ x other. get_or-set_other p.own.counts k x (record { step = p.own.steps + 1; gave = free }) (record { step = 0; gave = false }) other;
  buffers = λ x other. changed_else p.own.stock k (buffer_after_look free (buffer_of p.own.stock k)) x other;
}

-- and what is still to be posted
pub owed_after_look : (p : P) (k : ℕ) (free : Bool) → k < length p.own.stock.buffers → OwesTheSame p (place_after view_after (SawFree k free) p)
owed_after_look p k free lk x = dite (ℕ_discrete x k)
    (λ same. ap (λ (y : ℕ). (buffer_of (place_after view_after (SawFree k free) p).own.stock y).to_post) same ∙ (ap (λ (c : Buffer). c.to_post) (changed_here p.own.stock k (buffer_after_look free (buffer_of p.own.stock k)) lk) ∙ ap (λ (y : ℕ). (buffer_of p.own.stock y).to_post) (sym same)))
    (λ other. ap (λ (c : Buffer). c.to_post) (changed_else p.own.stock k (buffer_after_look free (buffer_of p.own.stock k)) x other))

module _ (p : P) (k : ℕ) (letter : Letter) (j : ℕ) where
  abbrev pub seen_free : P
  seen_free = place_after view_after (SawFree k true) p

  abbrev pub with_head : P
  with_head = place_after view_after (Wrote k 0 letter.head) seen_free

  abbrev pub with_body : P
  with_body = place_after view_after (Wrote k 1 letter.body) with_head

  abbrev pub after_charge : P
  after_charge = place_after view_after (Charged k (2 ^ j)) with_body

  abbrev pub after_post : P
  after_post = place_after view_after (PostedTo k j) after_charge

  module _ (lk : k < length p.own.stock.buffers) where
    buffer_seen : buffer_of seen_free.own.stock k ≡ buffer_after_look true (buffer_of p.own.stock k)
    buffer_seen = changed_here p.own.stock k (buffer_after_look true (buffer_of p.own.stock k)) lk

    pub free_seen : (buffer_of seen_free.own.stock k).free ≡ true
    free_seen = ap (λ (c : Buffer). c.free) buffer_seen

    lk1 : k < length seen_free.own.stock.buffers
    lk1 = let e : length seen_free.own.stock.buffers ≡ length p.own.stock.buffers = length-set p.own.stock.buffers k (buffer_after_look true (buffer_of p.own.stock k)) in omega arith

    buffer_head : buffer_of with_head.own.stock k ≡ buffer_after_write 0 letter.head (buffer_of seen_free.own.stock k)
    buffer_head = changed_here seen_free.own.stock k (buffer_after_write 0 letter.head (buffer_of seen_free.own.stock k)) lk1

    pub free_head : (buffer_of with_head.own.stock k).free ≡ true
    free_head = ap (λ (c : Buffer). c.free) buffer_head ∙ free_seen

    lk2 : k < length with_head.own.stock.buffers
    lk2 = let e : length with_head.own.stock.buffers ≡ length seen_free.own.stock.buffers = length-set seen_free.own.stock.buffers k (buffer_after_write 0 letter.head (buffer_of seen_free.own.stock k)) in let l = lk1 in omega arith

    buffer_body : buffer_of with_body.own.stock k ≡ buffer_after_write 1 letter.body (buffer_of with_head.own.stock k)
    buffer_body = changed_here with_head.own.stock k (buffer_after_write 1 letter.body (buffer_of with_head.own.stock k)) lk2

    pub chargeable : IsChargeable with_body.own k
    chargeable = (ap (λ (c : Buffer). c.free) buffer_body ∙ free_head, ap (λ (c : Buffer). c.has_head) buffer_body ∙ ap (λ (c : Buffer). c.has_head) buffer_head, ap (λ (c : Buffer). c.has_body) buffer_body)

    written_whole : letter_of (buffer_of with_body.own.stock k) ≡ letter
    written_whole = ap letter_of buffer_body ∙ ap (λ (c : Buffer). record { head = c.head; body = letter.body }) buffer_head

    pub sent_whole : after_post.client.sent ≡ p.client.sent ++ record { to = 2 ^ j; letter = letter } ∷ []
    sent_whole = ap (λ (l : Letter). p.client.sent ++ record { to = 2 ^ j; letter = l } ∷ []) written_whole

    lk3 : k < length with_body.own.stock.buffers
    lk3 = let e : length with_body.own.stock.buffers ≡ length with_head.own.stock.buffers = length-set with_head.own.stock.buffers k (buffer_after_write 1 letter.body (buffer_of with_head.own.stock k)) in let l = lk2 in omega arith

    buffer_charged : buffer_of after_charge.own.stock k ≡ buffer_after_charge (2 ^ j) (buffer_of with_body.own.stock k)
    buffer_charged = changed_here with_body.own.stock k (buffer_after_charge (2 ^ j) (buffer_of with_body.own.stock k)) lk3

    pub owed : (buffer_of after_charge.own.stock k).to_post ≡ 2 ^ j
    owed = ap (λ (c : Buffer). c.to_post) buffer_charged

    lk4 : k < length after_charge.own.stock.buffers
    lk4 = let e : length after_charge.own.stock.buffers ≡ length with_body.own.stock.buffers = length-set with_body.own.stock.buffers k (buffer_after_charge (2 ^ j) (buffer_of with_body.own.stock k)) in let l = lk3 in omega arith

    buffer_posted : buffer_of after_post.own.stock k ≡ buffer_after_post j (buffer_of after_charge.own.stock k)
    buffer_posted = changed_here after_charge.own.stock k (buffer_after_post j (buffer_of after_charge.own.stock k)) lk4

    pub none_owed : (buffer_of after_post.own.stock k).to_post ≡ 0
    none_owed = ap (λ (c : Buffer). c.to_post) buffer_posted ∙ (ap (λ (mask : ℕ). bit_xor mask (2 ^ j)) owed ∙ xor_self (2 ^ j))

    others_as_before : (x : ℕ) → x ≢ k → buffer_of after_post.own.stock x ≡ buffer_of p.own.stock x
    others_as_before x other =
        changed_else after_charge.own.stock k (buffer_after_post j (buffer_of after_charge.own.stock k)) x other
        ∙ (changed_else with_body.own.stock k (buffer_after_charge (2 ^ j) (buffer_of with_body.own.stock k)) x other
        ∙ (changed_else with_head.own.stock k (buffer_after_write 1 letter.body (buffer_of with_head.own.stock k)) x other
        ∙ (changed_else seen_free.own.stock k (buffer_after_write 0 letter.head (buffer_of seen_free.own.stock k)) x other
        ∙ changed_else p.own.stock k (buffer_after_look true (buffer_of p.own.stock k)) x other)))

    -- the buffer has the letter
    pub letter_there : letter_of (buffer_of after_post.own.stock k) ≡ letter
    letter_there = ap letter_of buffer_posted ∙ (ap letter_of buffer_charged ∙ written_whole)

    pub send_leaves : SendLeaves p k after_post
    send_leaves = record {
      looks = refl;
      stops = refl;
      registers = refl;
      mail = refl;
      stop = refl;
      shown = refl;
      collects = refl;
      holds = refl;
      known = refl;
      reading = refl;
      got = refl;
      counts = λ x other. get_or-set_other p.own.counts k x (record { step = p.own.steps + 1; gave = true }) (record { step = 0; gave = false }) other;
      buffers = others_as_before;
    }

    -- what was charged is posted
    pub owed_after_post : (buffer_of p.own.stock k).to_post ≡ 0 → OwesTheSame p after_post
    owed_after_post none x = dite (ℕ_discrete x k)
        (λ same. ap (λ (y : ℕ). (buffer_of after_post.own.stock y).to_post) same ∙ (none_owed ∙ (sym none ∙ ap (λ (y : ℕ). (buffer_of p.own.stock y).to_post) (sym same))))
        (λ other. ap (λ (c : Buffer). c.to_post) (others_as_before x other))

  -- no later step looks again
  pub seen_free_since : k < length p.own.counts → HasSeen p k true after_post
  seen_free_since lk = let h = sees p k true lk in record { since = h.since; found = h.found }

  -- the steps of a letter that is sent lead through these places
  module _ (free : Bool) (q1 : P) (look : q1 ≡ place_after view_after (SawFree k free) p) (is_free : free ≡ true) where
    pub at1 : q1 ≡ seen_free
    at1 = look ∙ ap (λ (x : Bool). place_after view_after (SawFree k x) p) is_free

    module _ (q2 : P) (head : q2 ≡ place_after view_after (Wrote k 0 letter.head) q1) where
      pub at2 : q2 ≡ with_head
      at2 = stage view_after (Wrote k 0 letter.head) seen_free q1 q2 head at1

      module _ (q3 : P) (body : q3 ≡ place_after view_after (Wrote k 1 letter.body) q2) where
        pub at3 : q3 ≡ with_body
        at3 = stage view_after (Wrote k 1 letter.body) with_head q2 q3 body at2

        module _ (mask : ℕ) (only : mask ≡ 2 ^ j) (q4 : P) (charge : q4 ≡ place_after view_after (Charged k mask) q3) where
          pub at4 : q4 ≡ after_charge
          at4 = stage view_after (Charged k (2 ^ j)) with_body q3 q4 (charge ∙ ap (λ (x : ℕ). place_after view_after (Charged k x) q3) only) at3

          pub at5 : (q5 : P) → q5 ≡ place_after view_after (PostedTo k j) q4 → q5 ≡ after_post
          at5 q5 post = stage view_after (PostedTo k j) after_charge q4 q5 post at4
