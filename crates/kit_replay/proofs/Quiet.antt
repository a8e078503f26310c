-- Where all federates were granted the end, nothing is on its way: no mail waits, and no buffer is counted.
use Rattle.std.proofs.Common.{◌≡◌, ℕ, zero, suc, ◌+◌, ◌*◌, ◌/◌, ◌%◌, ◌<◌, ◌≤◌, nat_le, List, [], ◌∷◌, ◌++◌, length, map, replicate, Option, Some, None, IfSome, refl, sym, ap, ◌∙◌, subst, arith}
use Rattle.std.specs.List.{All, Contains, filter}
use Rattle.std.specs.Prelude.{slice_index, unwrap_or}
use Rattle.std.specs.Int.{bit_at}
use Rattle.std.proofs.lemmas.Bool.{and_parts, leb-true}
use Rattle.std.proofs.lemmas.List.Elements.{All-cons, All-head, All-nil, All-tail}
use Rattle.std.proofs.lemmas.Nat.Bits.{bit_at-lt, bit_at-zero}
use mathlib.Core.Logic.{dite}
use mathlib.Core.Option.{some}
use native.Mathlib.Decide.{ℕ_discrete}
use lib.ListN.{get_elem?}
use Rattle.kit_base.specs.declared.message.Message.{Message}
use Rattle.kit_ground.specs.declared.address.Address.TheVariants.{Mail, Count}
use Rattle.kit_ground.specs.declared.place.Place.{Place}
use Rattle.kit_ground.specs.declared.place.SeatBuffers.{SeatBuffers}
use Rattle.kit_ground.specs.Memory.{Memory}
use Rattle.kit_ground.specs.Rules.{FloorHolds, World, stock_of}
use Rattle.kit_ground.specs.Sets.{due, no_buffers, stock_at}
use Rattle.kit_ground.specs.Steps.{buffer_of}
use Rattle.kit_ground.proofs.Bits.{below_by_bits}
use Rattle.kit_ground.proofs.Lists.{at_inside, at_map_or}
use Rattle.kit_ground.proofs.Sums.{sum_zero}
use Rattle.kit_model.specs.Journals.{last_grant}
use Rattle.kit_rules.specs.Delivery.{is_transported}
use Rattle.kit_rules.specs.Parts.{Parts}
use Rattle.kit_rules.specs.Step.{no_message}
use Rattle.kit_lbts.specs.declared.view.Filled.{Filled}
use Rattle.kit_lbts.specs.declared.view.LbtsView.{LbtsView}
use Rattle.kit_lbts.specs.Agreement.{AgreeingRule, agreeing_rule, messages_on_way, place_at}
use Rattle.kit_lbts.specs.Letters.{letter_in}
use Rattle.kit_lbts.specs.Promises.{bound_of}
use Rattle.kit_lbts.specs.Rule.{FederateRule}
use Rattle.kit_lbts.specs.Views.{entries_of, filled_in}
use Rattle.kit_lbts.specs.Ways.{copies_on_way, mark_in_mail}
use Rattle.kit_lbts.proofs.Copies.{contains_filter}
use Rattle.kit_lbts.proofs.GrantAgreement.{without_agreement}
use Rattle.kit_lbts.proofs.Moments.{known_bounds_are_bounds}
use Rattle.kit_lbts.proofs.Worlds.{sound, within}
use Rattle.kit_node.specs.Seats.{HasFinished}
use Rattle.kit_replay.proofs.Lists.{at_some, read_at}

abbrev P : Type 0
P = Place LbtsView

-- ---- lists of messages on their way
all_first : (A : Message → Type 0) (xs ys : List Message) → All A (xs ++ ys) → All A xs
all_first A [] ys h = All-nil A
all_first A (x ∷ xs) ys h = All-cons A x xs (All-head A x (xs ++ ys) h) (all_first A xs ys (All-tail A x (xs ++ ys) h))

all_last : (A : Message → Type 0) (xs ys : List Message) → All A (xs ++ ys) → All A ys
all_last A [] ys h = h
all_last A (x ∷ xs) ys h = all_last A xs ys (All-tail A x (xs ++ ys) h)

none_repeated : (A : Message → Type 0) (n : ℕ) (x : Message) → All A (replicate n x) → (A x → ⊥) → n ≡ 0
none_repeated A zero x h unlike = refl
none_repeated A (suc n) x h unlike = absurd (unlike (All-head A x (replicate n x) h))

-- where no letter is as all that is on its way must be, no copy is on its way
none_on_way : (A : Message → Type 0) (letter : ℕ → Filled) (copies : ℕ → ℕ) (b : ℕ) → All A (messages_on_way letter copies b)
    → ((k : ℕ) → k < b → A (letter k).message → ⊥) → (k : ℕ) → k < b → copies k ≡ 0
none_on_way A letter copies zero h unlike k lt = absurd (omega arith)
none_on_way A letter copies (suc b) h unlike k lt = dite (ℕ_discrete k b)
    (λ same. ap copies same ∙ none_repeated A (copies b) (letter b).message (all_last A (messages_on_way letter copies b) (replicate (copies b) (letter b).message) h) (unlike b (omega arith)))
    (λ other. none_on_way A letter copies b (all_first A (messages_on_way letter copies b) (replicate (copies b) (letter b).message) h) (λ l ll. unlike l (omega arith)) k (omega arith))

-- ---- a known bound is past the end, and a letter is timed by the end
last_below : (o : Option ℕ) (end bound : ℕ) → IfSome o (λ t. t < bound) → unwrap_or o 0 ≡ end → 1 ≤ end → end < bound
last_below None end bound below is some_ = absurd (omega arith)
last_below (Some t) end bound below is some_ = omega arith

letter_time : (f : Parts) (sends : List Message) (o : Option Filled) → ((x : Filled) → o ≡ Some x → Contains (filter (is_transported f) sends) x.message)
    → (unwrap_or o (record { message = no_message; colour = 0 })).message.time ≤ f.end
letter_time f sends None h = omega arith
letter_time f sends (Some x) h =
    let t = (contains_filter (is_transported f) sends x.message (h x refl)).0 in
    leb-true x.message.time f.end (and_parts (nat_le x.message.time f.end) _ t).0

-- ---- the floor
module _ (m : Memory) (places : List P) (b : ℕ) (floor : FloorHolds b m places) (rule : AgreeingRule m places)
    (done : (i : ℕ) (q : P) → get_elem? places i ≡ some q → HasFinished q) where
  world_at : (i : ℕ) (q : P) → get_elem? places i ≡ some q → World agreeing_rule q m places
  world_at i q at =
      let fits = floor.each i q at in record {
        floor = subst (λ (x : ℕ). FloorHolds x m places) (sym fits.buffers) floor;
        client = rule;
        here = subst (λ (x : ℕ). get_elem? places x ≡ some q) (sym fits.number) at;
      }

  of : (i : ℕ) (q : P) → get_elem? places i ≡ some q → FederateRule m places i q
  of i q at = rule.floor.each i q at

  module _ (j i : ℕ) (p q : P) (atj : get_elem? places j ≡ some p) (ati : get_elem? places i ≡ some q) where
    past_end : p.client.federation.end < bound_of p.client
    past_end = last_below (last_grant (entries_of p.client)) p.client.federation.end (bound_of p.client) (of j p atj).granting.below (done j p atj).granted ((sound m places rule j p atj).end.0)

    letters_early : (k : ℕ) → k < p.own.buffers → (bound_of p.client ≤ (letter_in p.client k).message.time) → ⊥
    letters_early k lk late =
        let e = letter_time p.client.federation p.client.state.sends (filled_in p.client k) ((of j p atj).sends.once.sent k) in
        let b = past_end in omega arith

    late : All (λ (x : Message). bound_of p.client ≤ x.time) (messages_on_way (letter_in p.client) (copies_on_way (mark_in_mail m j i) j q.client.in_hand) p.own.buffers)
    late =
        let w = world_at j p atj in
        let bounded = known_bounds_are_bounds p m places (without_agreement p m places w) rule.agree in
        let f : Parts = p.client.federation in
        let lj : j < length f.federates = within m places rule j p atj in
        let li : i < length f.federates = let n = rule.floor.common.many in let e = ap (λ (x : Parts). length x.federates) (rule.floor.common.each j p atj).0 in let k = at_inside places i q ati in omega arith in
        let B : P → P → Type 0 = λ s u. All (λ (x : Message). bound_of p.client ≤ x.time) (messages_on_way (letter_in s.client) (copies_on_way (mark_in_mail m j i) j u.client.in_hand) s.own.buffers) in
        subst (λ (u : P). B p u) (read_at places i q p ati) (subst (λ (s : P). B s (place_at p places i)) (read_at places j p p atj) (bounded.transit_late j i lj li))

    none_marked : (k : ℕ) → k < b → mark_in_mail m j i k ≡ 0
    none_marked k lk =
        let fits = (floor.each j p atj).buffers in
        let n = none_on_way (λ (x : Message). bound_of p.client ≤ x.time) (letter_in p.client) (copies_on_way (mark_in_mail m j i) j q.client.in_hand) p.own.buffers late letters_early k (omega arith) in
        omega arith

  -- the mail of i from j is 0
  pub mail_is_empty : (i j w : ℕ) → i < length places → j < length places → m (Mail i j w) ≡ 0
  mail_is_empty i j w li lj =
      let p = at_some places j lj in
      let q = at_some places i li in
      let bits : (c : ℕ) → 0 ≤ c → bit_at (m (Mail i j w)) c ≡ 0 = λ c _. dite (ℕ_discrete (bit_at (m (Mail i j w)) c) 1)
      (λ one.
      let n = floor.pool.narrow i j w c li lj one in
      let none = none_marked j i p.0 q.0 p.1 q.1 (64 * w + c) n.1 in
      let word : (64 * w + c) / 64 ≡ w = let lt = n.0 in omega arith in
      let bit : (64 * w + c) % 64 ≡ c = let lt = n.0 in omega arith in
      let is : bit_at (m (Mail i j ((64 * w + c) / 64))) ((64 * w + c) % 64) ≡ bit_at (m (Mail i j w)) c = λ t. bit_at (m (Mail i j (word t))) (bit t) in
      sym is ∙ none)
      (λ other. let lt = bit_at-lt (m (Mail i j w)) c in omega arith) in
      let lt = below_by_bits (m (Mail i j w)) 0 bits in omega arith

  nobody_due : (j i k : ℕ) (p q : P) → get_elem? places j ≡ some p → get_elem? places i ≡ some q → k < b → due m (map stock_of places) i k j ≡ 0
  unfolding due
  nobody_due j i k p q atj ati lk =
      let seller : stock_at (map stock_of places) i ≡ q.own.stock = at_map_or stock_of places i q no_buffers ati in
      let reader : stock_at (map stock_of places) j ≡ p.own.stock = at_map_or stock_of places j p no_buffers atj in
      let letters = (of i q ati).letters in
      let none_owed : (buffer_of q.own.stock k).to_post ≡ 0 = dite (ℕ_discrete (buffer_of q.own.stock k).to_post 0) (λ e. e) (λ owed.
      let s = letters.sending k (letters.others k owed) in
      let e : [] ≡ s.first ∷ s.rest = sym (done i q ati).sent ∙ s.outbox in absurd (let l = ap length e in omega arith)) in
      let a : bit_at (buffer_of (stock_at (map stock_of places) i) k).to_post j ≡ 0 = ap (λ (x : SeatBuffers). bit_at (buffer_of x k).to_post j) seller ∙ (ap (λ (x : ℕ). bit_at x j) none_owed ∙ bit_at-zero j) in
      let c : mark_in_mail m i j k ≡ 0 = none_marked i j q p ati atj k lk in
      let fits = floor.each j p atj in
      let h : bit_at (slice_index (stock_at (map stock_of places) j).holds i) k ≡ 0 =
      ap (λ (x : SeatBuffers). bit_at (slice_index x.holds i) k) reader
      ∙ (done j p atj).free i k (let li = at_inside places i q ati in let n = fits.federates in omega arith) (let n = fits.buffers in omega arith) in
      omega arith

  -- no buffer of i is counted
  pub nothing_counted : (i k : ℕ) → i < length places → k < b → m (Count i k) ≡ 0
  nothing_counted i k li lk =
      let q = at_some places i li in
      floor.pool.counted i k li lk ∙ sum_zero (due m (map stock_of places) i k) (length places) (λ j lj. let p = at_some places j lj in nobody_due j i k p.0 q.0 p.1 q.1 lk)
