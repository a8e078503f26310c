-- What is published has room in a word: a federate posts and receives 15 * 16,384 copies at most, as each has
-- sent 16,384 messages at most.
use Rattle.std.proofs.Common.{◌≡◌, ℕ, zero, suc, ◌+◌, ◌*◌, ◌-◌, ◌/◌, ◌^◌, ◌<◌, ◌≤◌, ◌==◌, ◌&&◌, nat_le, nat_lt, inl, inr, min, Bool, true, false, cond, List, [], ◌∷◌, length, map, filter, take, get_or, refl, sym, ap, ◌∙◌, subst, arith, eq-eqb}
use Rattle.std.specs.List.{All, count_by}
use Rattle.std.proofs.lemmas.Bool.{and_from, cases_eq, cases_lt, le-ltb, lt-ltb, ne_eqb}
use Rattle.std.proofs.lemmas.List.{length-append, length-map, length-take}
use Rattle.std.proofs.lemmas.List.Elements.{All-cons, All-filter, All-head, All-tail, filter_passes}
use Rattle.std.proofs.lemmas.List.Sums.{count_by-le-length, length-filter, sum_by-le}
use Rattle.std.proofs.lemmas.List.FromFn.{length-range_with_len}
use mathlib.Core.Option.{some}
use lib.ListN.{get_elem?}
use Rattle.kit_base.specs.declared.message.Message.{Message}
use Rattle.kit_ground.specs.declared.place.Place.{Place}
use Rattle.kit_ground.specs.Memory.{Memory}
use Rattle.kit_ground.specs.Rules.{World}
use Rattle.kit_ground.proofs.Lists.{at_inside, at_or}
use Rattle.kit_model.specs.declared.share.Share.{Share}
use Rattle.kit_model.specs.Blocks.{everybody, in_block, share_sum_over, width}
use Rattle.kit_model.specs.Counts.{is_old}
use Rattle.kit_model.specs.Shares.{FitsWord}
use Rattle.kit_model.proofs.Sieves.{all_pass, least_le_start}
use Rattle.kit_base.proofs.Counting.{count_cons, one_if, one_false, one_true}
use Rattle.kit_parts.proofs.Itself.{nobody_sends_to_itself_law}
use Rattle.kit_rounds.specs.declared.contribution.Contribution.{Contribution}
use Rattle.kit_rounds.specs.Ledgers.{Copy, Ledger, at_round, colours, nothing}
use Rattle.kit_rounds.specs.Rounds.{HasContributed}
use Rattle.kit_rules.specs.Delivery.{has_bit, is_transported, receivers_of}
use Rattle.kit_rules.specs.Federation.{IsFederation}
use Rattle.kit_rules.specs.Parts.{Parts}
use Rattle.kit_lbts.specs.declared.view.Filled.{Filled}
use Rattle.kit_lbts.specs.declared.view.Posting.{Posting}
use Rattle.kit_lbts.specs.declared.view.LbtsView.{LbtsView}
use Rattle.kit_lbts.specs.Views.{due_of, has_receiver, is_waiting, receipts, time_of, transported_of}
use Rattle.kit_lbts.specs.Promises.{added_of, copy_posted, copy_received, ledger_of, ledgers_of, next_contribution, next_run, promise_of, promise_by}
use Rattle.kit_lbts.specs.Reduction.{back_stage, share_stage, takes_in, value_at}
use Rattle.kit_lbts.specs.Registers.{IsPlace, shares_at}
use Rattle.kit_lbts.specs.Seats.{left_of}
use Rattle.kit_lbts.specs.Ways.{letters_posted_to, letters_received_from}
use Rattle.kit_lbts.specs.Rule.{FederateRule, lbts_rule}
use Rattle.kit_lbts.proofs.Contributions.{low_le}
use Rattle.kit_lbts.proofs.Gathering.{value_of_stage}
use Rattle.kit_lbts.proofs.Hands.{below_row}
use Rattle.kit_lbts.proofs.Knowledge.{before_share, takes_in_stage}
use Rattle.kit_lbts.proofs.RoundSteps.{ledger_before}

abbrev P : Type 0
P = Place LbtsView

-- ---- lists
count_all : {X : Type 0} (xs : List X) → count_by (λ _. true) xs ≡ length xs
count_all [] = refl
count_all (x ∷ xs) = let c = count_cons (λ _. true) x xs in let r = count_all xs in omega arith

none_pass : {X : Type 0} (t : X → Bool) (xs : List X) → All (λ x. t x ≡ false) xs → length (filter t xs) ≡ 0
none_pass t [] h = refl
none_pass t (x ∷ xs) h = ap (λ b. length (cond b (x ∷ filter t xs) (filter t xs))) (All-head (λ x. t x ≡ false) x xs h) ∙ none_pass t xs (All-tail (λ x. t x ≡ false) x xs h)

all_unmapped : {X Y : Type 0} (Q : Y → Type 0) (g : X → Y) (xs : List X) → All Q (map g xs) → All (λ x. Q (g x)) xs
all_unmapped Q g [] h = λ k d lt. absurd (omega (arith, lt))
all_unmapped Q g (x ∷ xs) h = All-cons (λ x. Q (g x)) x xs (All-head Q (g x) (map g xs) h) (all_unmapped Q g xs (All-tail Q (g x) (map g xs) h))

-- keys below a number
module _ {X : Type 0} (key : X → ℕ) where
  next_key : (k m : ℕ) → one_if (nat_lt k (suc m)) ≡ one_if (nat_lt k m) + one_if (k == m)
  next_key k m = elim (cases_lt k m) [
    | inl lt ↦
        let a = one_true (nat_lt k (suc m)) (lt-ltb k (suc m) (omega (arith, lt))) in let b = one_true (nat_lt k m) (lt-ltb k m lt) in
        let c = one_false (k == m) (ne_eqb k m (λ e. omega (arith, e, lt))) in omega arith
    | inr ge ↦ elim (cases_eq k m) [
      | inl e ↦
          let a = one_true (nat_lt k (suc m)) (lt-ltb k (suc m) (omega (arith, e))) in let b = one_false (nat_lt k m) (le-ltb k m ge) in
          let c = one_true (k == m) (eq-eqb k m e) in omega arith
      | inr ne ↦
          let above : suc m ≤ k = grind (arith, ne, ge) in
          let a = one_false (nat_lt k (suc m)) (le-ltb k (suc m) above) in let b = one_false (nat_lt k m) (le-ltb k m ge) in
          let c = one_false (k == m) (ne_eqb k m ne) in omega arith
    ]
  ]

  count_next : (m : ℕ) (xs : List X) → count_by (λ x. nat_lt (key x) (suc m)) xs ≡ count_by (λ x. nat_lt (key x) m) xs + count_by (λ x. key x == m) xs
  count_next m [] = refl
  count_next m (x ∷ xs) =
      let a = count_cons (λ x. nat_lt (key x) (suc m)) x xs in let b = count_cons (λ x. nat_lt (key x) m) x xs in let c = count_cons (λ x. key x == m) x xs in
      let r = count_next m xs in let n = next_key (key x) m in omega arith

  count_none : (xs : List X) → count_by (λ x. nat_lt (key x) 0) xs ≡ 0
  count_none [] = refl
  count_none (x ∷ xs) = let a = count_cons (λ x. nat_lt (key x) 0) x xs in let b = one_false (nat_lt (key x) 0) (le-ltb (key x) 0 (omega arith)) in let r = count_none xs in omega arith

  count_below : (n : ℕ) (xs : List X) → All (λ x. key x < n) xs → count_by (λ x. nat_lt (key x) n) xs ≡ length xs
  count_below n [] h = refl
  count_below n (x ∷ xs) h =
      let a = count_cons (λ x. nat_lt (key x) n) x xs in let b = one_true (nat_lt (key x) n) (lt-ltb (key x) n (All-head (λ x. key x < n) x xs h)) in
      let r = count_below n xs (All-tail (λ x. key x < n) x xs h) in omega arith

  -- each key is that of 16,384 at most, and one key of none
  spread : (n j : ℕ) (xs : List X) → ((i : ℕ) → i < n → count_by (λ x. key x == i) xs ≤ 16384) → count_by (λ x. key x == j) xs ≡ 0
      → (m : ℕ) → m ≤ n → (m ≤ j → count_by (λ x. nat_lt (key x) m) xs ≤ m * 16384) × (j < m → count_by (λ x. nat_lt (key x) m) xs + 16384 ≤ m * 16384)
  spread n j xs each own zero le = (λ h. omega (arith, count_none xs), λ h. absurd (omega (arith, h)))
  spread n j xs each own (suc m) le =
      let r = spread n j xs each own m (omega (arith, le)) in
      let c = count_next m xs in
      let e = each m (omega (arith, le)) in (
        λ h. omega (arith, c, e, r.0 (omega (arith, h))),
        λ h. elim (cases_eq j m) [
          | inl same ↦
              let none : count_by (λ x. key x == m) xs ≡ 0 = subst (λ i. count_by (λ x. key x == i) xs ≡ 0) same own in
              omega (arith, c, none, r.0 (omega (arith, same)))
          | inr other ↦ omega (arith, c, e, r.1 (grind (arith, h, other)))
        ],
      )

  pub few_by_keys : (n j : ℕ) (xs : List X) → n ≤ 16 → j < n → All (λ x. key x < n) xs → ((i : ℕ) → i < n → count_by (λ x. key x == i) xs ≤ 16384) → count_by (λ x. key x == j) xs ≡ 0
      → length xs ≤ 245760
  few_by_keys n j xs few lt below each own = omega (arith, few, count_below n xs below, (spread n j xs each own n (omega arith)).1 lt)

-- no promise goes past the end and 1
capped : (end add now due : ℕ) (waiting : Bool) → promise_by end add now due waiting ≤ end + 1
capped end add now due waiting = by (nat_le end now) (cond waiting now due)
  where
    by : (b : Bool) (t : ℕ) → cond b (end + 1) (min (end + 1) (t + add)) ≤ end + 1
    by true t = omega arith
    by false t = omega arith

promise_within : (p : P) → promise_of p ≤ p.client.federation.end + 1
promise_within p = capped p.client.federation.end (added_of p) (time_of p.client) (due_of p.client) (is_waiting p.client)

-- ---- the copies of a federate
module _ (at_p : P) (m : Memory) (places : List P) (w : World lbts_rule at_p m places) where
  abbrev n : ℕ
  n = length places

  abbrev ledgers : ℕ → Ledger
  ledgers = ledgers_of places

  module _ (j : ℕ) (p : P) (at : get_elem? places j ≡ some p) where
    seat : FederateRule m places j p
    seat = w.client.each j p at

    many : p.own.federates ≡ length places
    many = (w.floor.each j p at).federates

    to_few : (i : ℕ) → i < length places → length (letters_posted_to i p.client) ≤ 16384
    to_few i lt =
        let f : Parts = p.client.federation in
        omega (
          arith,
          ap length (seat.sends.each i (omega (arith, lt, many))),
          length-append (map (λ (x : Filled). x.message) (letters_posted_to i p.client)) (left_of p.client.sending p.own.stock f i p.client.outbox),
          length-map (letters_posted_to i p.client) (λ (x : Filled). x.message),
          length-filter (has_receiver f i) (transported_of p.client),
          count_by-le-length (has_receiver f i) (transported_of p.client),
          length-filter (is_transported f) p.client.state.sends,
          count_by-le-length (is_transported f) p.client.state.sends,
          seat.sends.few,
        )

    to_itself : length (letters_posted_to j p.client) ≡ 0
    to_itself =
        let f : Parts = p.client.federation in
        let nothing_for : All (λ (x : Message). has_receiver f j x ≡ false) (transported_of p.client) = λ k d lt.
        let x : Message = get_or (transported_of p.client) k d in
        let own : x.sender ≡ j = All-filter (is_transported f) (λ (y : Message). y.sender ≡ j) p.client.state.sends seat.sends.own k d lt in
        let goes : is_transported f x ≡ true = filter_passes (is_transported f) p.client.state.sends k d lt in
        subst (λ (b : Bool). (b && has_bit (receivers_of f x.sender x.group) j) ≡ false) goes (nobody_sends_to_itself_law f j x own) in
        omega (
          arith,
          ap length (seat.sends.each j (omega (arith, at_inside places j p at, many))),
          length-append (map (λ (x : Filled). x.message) (letters_posted_to j p.client)) (left_of p.client.sending p.own.stock f j p.client.outbox),
          length-map (letters_posted_to j p.client) (λ (x : Filled). x.message),
          none_pass (has_receiver f j) (transported_of p.client) nothing_for,
        )

    to_count : (i : ℕ) → count_by (λ (x : Posting). x.to == i) p.client.posted ≡ length (letters_posted_to i p.client)
    to_count i = sym (length-filter (λ (x : Posting). x.to == i) p.client.posted) ∙ sym (length-map (filter (λ (x : Posting). x.to == i) p.client.posted) (λ (x : Posting). x.filled))

    pub posts_few : length p.client.posted ≤ 245760
    posts_few = few_by_keys (λ (x : Posting). x.to) n j p.client.posted w.floor.few (at_inside places j p at)
        (subst (λ (k : ℕ). All (λ (x : Posting). x.to < k) p.client.posted) many seat.sends.receivers)
        (λ i lt. omega (arith, to_count i, to_few i lt)) (to_count j ∙ to_itself)

  module _ (j : ℕ) (p : P) (at : get_elem? places j ≡ some p) where
    from_count : (i : ℕ) → count_by (λ (x : Filled). x.message.sender == i) (receipts p.client) ≡ length (letters_received_from i p.client)
    from_count i = sym (length-filter (λ (x : Filled). x.message.sender == i) (receipts p.client))

    from_few : (i : ℕ) (q : P) (there : get_elem? places i ≡ some q) → length (letters_received_from i p.client) ≤ length (letters_posted_to j q.client)
    from_few i q there =
        omega (arith, (w.client.ways i j q p there at).copies (λ _. true), count_all (letters_posted_to j q.client), count_all (letters_received_from i p.client))

    pub senders : All (λ (x : Filled). x.message.sender < length places) (receipts p.client)
    senders = all_unmapped (λ (c : Copy). c.peer < n) copy_received (receipts p.client)
        (subst (λ (l : Ledger). All (λ (c : Copy). c.peer < n) l.received) (ledger_before places j p p at) (w.client.rounds.1.channels.received j (at_inside places j p at)))

    pub receipts_few : length (receipts p.client) ≤ 245760
    receipts_few = few_by_keys (λ (x : Filled). x.message.sender) n j (receipts p.client) w.floor.few (at_inside places j p at) senders
        (λ i lt. let q = get_or places i p in let there = at_or places i p lt in omega (arith, from_count i, from_few i q there, to_few i q there j (at_inside places j p at)))
        (let t = to_itself j p at in let f = from_few j p at in let c = from_count j in omega arith)

    -- so what it contributes next has room in a word
    pub next_fits : FitsWord (next_contribution p).share
    next_fits =
        let l : Ledger = ledger_of p in
        let run : ℕ = next_run p.client in
        let sound : IsFederation p.client.federation = subst IsFederation (sym (w.client.common.each j p at).0) w.client.common.sound in
        record {
          out_fits = omega (arith, count_by-le-length (is_old run) (colours l.posted), length-map l.posted (λ (c : Copy). c.stamp.colour), length-map p.client.posted copy_posted, posts_few j p at);
          inn_fits = omega (arith, count_by-le-length (is_old run) (colours l.received), length-map l.received (λ (c : Copy). c.stamp.colour), length-map (receipts p.client) copy_received, receipts_few);
          low_fits = omega (arith, low_le run l.promise l.posted, promise_within p, sound.end.1);
        }

    -- and so had what it contributed
    pub counts_few : (k : ℕ) → HasContributed (ledgers_of places j) k → ((at_round (ledgers_of places j) k).share.out ≤ 245760) × ((at_round (ledgers_of places j) k).share.inn ≤ 245760)
    counts_few k has =
        let before = ledger_before places j p p at in
        let c : Contribution = at_round (ledgers j) k in
        let h = w.client.rounds.1.rounds.faithful j k (at_inside places j p at) has in (
          omega (
            arith,
            h.out,
            count_by-le-length (is_old c.run) (colours (take c.posts (ledgers j).posted)),
            length-map (take c.posts (ledgers j).posted) (λ (x : Copy). x.stamp.colour),
            length-take c.posts (ledgers j).posted,
            ap (λ (l : Ledger). length l.posted) before,
            length-map p.client.posted copy_posted,
            posts_few j p at,
          ),
          omega (
            arith,
            h.inn,
            count_by-le-length (is_old c.run) (colours (take c.receipts (ledgers j).received)),
            length-map (take c.receipts (ledgers j).received) (λ (x : Copy). x.stamp.colour),
            length-take c.receipts (ledgers j).received,
            ap (λ (l : Ledger). length l.received) before,
            length-map (receipts p.client) copy_received,
            receipts_few,
          ),
        )

    pub low_fits : (k : ℕ) → HasContributed (ledgers_of places j) k → (at_round (ledgers_of places j) k).share.low < 2 ^ 17
    low_fits k has =
        let before = ledger_before places j p p at in
        subst (λ (l : Ledger). HasContributed l k → (at_round l k).share.low < 2 ^ 17) (sym before) (λ lt. (w.client.each j p at).registers.lows k nothing lt) has

  place_of : (j : ℕ) → j < length places → (p : P) × (get_elem? places j ≡ some p)
  place_of j lt = (get_or places j at_p, at_or places j at_p lt)

  -- the shares of some who contributed, together
  over_fits : (k one : ℕ) (t : ℕ → Bool) → one < length places → HasContributed (ledgers_of places one) k → ((j : ℕ) → j < length places → t j ≡ true → HasContributed (ledgers_of places j) k)
      → FitsWord (share_sum_over (shares_at (ledgers_of places) k) one (filter t (everybody (length places))))
  over_fits k one t lt has made =
      let ys : List ℕ = filter t (everybody n) in
      let share : ℕ → Share = shares_at ledgers k in
      let below : All (λ (j : ℕ). j < n) ys = All-filter t (λ (j : ℕ). j < n) (everybody n) (below_row n 0 n (omega arith)) in
      let passes : All (λ (j : ℕ). t j ≡ true) ys = filter_passes t (everybody n) in
      let each : (x d : ℕ) → x < length ys → ((share (get_or ys x d)).out ≤ 245760) × ((share (get_or ys x d)).inn ≤ 245760) = λ x d lx.
      let j : ℕ = get_or ys x d in
      let s = place_of j (below x d lx) in
      counts_few j s.0 s.1 k (made j (below x d lx) (passes x d lx)) in
      let short : length ys ≤ 16 = omega (arith, length-filter t (everybody n), count_by-le-length t (everybody n), length-range_with_len 0 n, w.floor.few) in
      let outs = sum_by-le (λ y. (share y).out) 245760 ys (λ x d lx. (each x d lx).0) in
      let inns = sum_by-le (λ y. (share y).inn) 245760 ys (λ x d lx. (each x d lx).1) in
      let s = place_of one lt in
      record {
        out_fits = omega (arith, outs, short);
        inn_fits = omega (arith, inns, short);
        low_fits = omega (arith, least_le_start (λ y. (share y).low) (share one).low ys, low_fits one s.0 s.1 k has);
      }

  -- the value of a place to which all have contributed whom it takes in has room in a word
  pub value_fits : (owner stage k : ℕ) → IsPlace (length places) owner stage → ((j : ℕ) → j < length places → takes_in (length places) owner stage j ≡ true → HasContributed (ledgers_of places j) k)
      → FitsWord (value_at (length places) (shares_at (ledgers_of places) k) owner stage)
  value_fits owner stage k place made =
      let share : ℕ → Share = shares_at ledgers k in
      elim (cases_eq stage share_stage) [
        | inl four ↦
            let has = made owner place.there (ap (λ s. takes_in n owner s owner) four ∙ eq-eqb owner owner refl) in
            let s = place_of owner place.there in
            let c = counts_few owner s.0 s.1 k has in
            let own : FitsWord (share owner) = record { out_fits = omega (arith, c.0); inn_fits = omega (arith, c.1); low_fits = low_fits owner s.0 s.1 k has } in
            subst (λ s. FitsWord (value_at n share owner s)) (sym four) own
        | inr not_four ↦ elim (cases_eq stage back_stage) [
          | inl five ↦
              let all : (j : ℕ) → j < n → HasContributed (ledgers j) k = λ j lt. made j lt (ap (λ s. takes_in n owner s j) five ∙ lt-ltb j n lt) in
              let some_one : 0 < n = omega (arith, place.there) in
              let h : FitsWord (share_sum_over share 0 (everybody n)) =
              subst (λ ys. FitsWord (share_sum_over share 0 ys)) (all_pass (λ _. true) 0 n (λ y low lt. refl)) (over_fits k 0 (λ _. true) some_one (all 0 some_one) (λ j lt e. all j lt)) in
              subst (λ s. FitsWord (value_at n share owner s)) (sym five) h
          | inr not_five ↦
              let early : stage < 4 = before_share stage place.known not_four not_five in
              let block : (j : ℕ) → j < n → in_block n stage owner j ≡ true → HasContributed (ledgers j) k = λ j lt e. made j lt (takes_in_stage n owner stage j not_four not_five ∙ e) in
              let itself : in_block n stage owner owner ≡ true =
              and_from (nat_lt owner n) _ (lt-ltb owner n place.there) (eq-eqb _ _ (ap (λ b. cond b owner (owner - width n) / 2 ^ stage) (lt-ltb owner (width n) (place.inside early)))) in
              subst FitsWord (sym (value_of_stage n share owner stage early)) (over_fits k owner (in_block n stage owner) place.there (block owner place.there itself) block)
        ]
      ]
