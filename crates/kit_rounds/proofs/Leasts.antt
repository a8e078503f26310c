-- The least of the numbers of a round, and the balance of its old copies.
use Rattle.std.proofs.Common.{◌≡◌, ℕ, zero, suc, ◌+◌, ◌<◌, ◌≤◌, ◌==◌, inl, inr, Bool, true, false, cond, min, List, [], ◌∷◌, ◌++◌, length, fold, filter, arith, refl, sym, ap, subst, ◌∙◌, eq-eqb}
use Rattle.std.specs.List.{All, range_with_len, flat_map, sum_by}
use Rattle.std.proofs.lemmas.Bool.{cases_lt, lt-ltb, le-ltb, eqb-true, ltb-true, false≢true}
use Rattle.std.proofs.lemmas.List.Elements.{All-nil, All-cons, All-head, All-tail, All-append}
use Rattle.kit_model.specs.Blocks.{everybody}
use Rattle.kit_model.specs.Counts.{is_old}
use Rattle.kit_rounds.specs.Ledgers.{Copy, Ledger, at_round}
use Rattle.kit_rounds.specs.Channels.{passing, all_receipts}
use Rattle.kit_rounds.specs.Rounds.{run_of}
use Rattle.kit_rounds.specs.Rule.{IsTimed, IsOldTimed, received_after}
use Rattle.kit_rounds.specs.Laws.{is_old_stamp}
use Rattle.kit_rounds.specs.Least.{times, numbers_of, least_number, LeastIsGreatest, LeastIsKept, LeastIsAll, counted_by, came_after, came_to_others, OldCopiesBalance}
use Rattle.kit_rounds.proofs.Lists.{all_front, weaker}
use Rattle.kit_rounds.proofs.Sums.{sum_same, sum_plus}
use Rattle.kit_rounds.proofs.Ways.{way_balances}
use Rattle.kit_rounds.proofs.Balances.{inn_is}

-- w is at most each
abbrev AllFrom : ℕ → List ℕ → Type 0
AllFrom w xs = All (λ x. w ≤ x) xs

least_below : (w top : ℕ) (xs : List ℕ) → w ≤ top → AllFrom w xs → w ≤ fold (λ a b. min a b) top xs
least_below w top [] h all = h
least_below w top (x ∷ xs) h all = least_below w (min top x) xs (omega (arith, All-head (λ y. w ≤ y) x xs all)) (All-tail (λ y. w ≤ y) x xs all)

below_least : (w top : ℕ) (xs : List ℕ) → w ≤ fold (λ a b. min a b) top xs → (w ≤ top) × AllFrom w xs
below_least w top [] h = (h, All-nil (λ y. w ≤ y))
below_least w top (x ∷ xs) h =
    let rest = below_least w (min top x) xs h in
    (omega (arith, rest.0), All-cons (λ y. w ≤ y) x xs (omega (arith, rest.0)) rest.1)

all_flat : (w : ℕ) (f : ℕ → List ℕ) (low len : ℕ) → ((j : ℕ) → j < low + len → AllFrom w (f j)) → AllFrom w (flat_map f (range_with_len low len))
all_flat w f low zero h = All-nil (λ y. w ≤ y)
all_flat w f low (suc len) h =
    All-append (λ y. w ≤ y) (f low) (flat_map f (range_with_len (low + 1) len)) (h low (omega arith)) (all_flat w f (low + 1) len (λ j lt. h j (omega arith)))

all_back : {X : Type 0} (P : X → Type 0) (xs ys : List X) → All P (xs ++ ys) → All P ys
all_back P [] ys h = h
all_back P (x ∷ xs) ys h = all_back P xs ys (All-tail P x (xs ++ ys) h)

flat_each : (w : ℕ) (f : ℕ → List ℕ) (low len : ℕ) → AllFrom w (flat_map f (range_with_len low len)) → (j : ℕ) → low ≤ j → j < low + len → AllFrom w (f j)
flat_each w f low zero h j le lt = absurd (omega arith)
flat_each w f low (suc len) h j le lt =
    let rest = flat_map f (range_with_len (low + 1) len) in
    elim (cases_lt low j) [
      | inl above ↦ flat_each w f (low + 1) len (all_back (λ y. w ≤ y) (f low) rest h) j (omega arith) (omega arith)
      | inr ge ↦ let e : low ≡ j = omega arith in subst (λ k. AllFrom w (f k)) e (all_front (λ y. w ≤ y) (f low) rest h)
    ]

-- the times of the copies that pass a test
times_from : (w : ℕ) (p : Copy → Bool) (cs : List Copy) → All (λ (c : Copy). p c ≡ true → w ≤ c.stamp.time) cs → AllFrom w (times (filter p cs))
times_from w p [] h = All-nil (λ y. w ≤ y)
times_from w p (c ∷ cs) h = step (p c) refl (times_from w p cs (All-tail (λ (x : Copy). p x ≡ true → w ≤ x.stamp.time) c cs h))
  where
    step : (b : Bool) → p c ≡ b → AllFrom w (times (filter p cs)) → AllFrom w (times (cond b (c ∷ filter p cs) (filter p cs)))
    step true is rest = All-cons (λ y. w ≤ y) c.stamp.time (times (filter p cs)) (All-head (λ (x : Copy). p x ≡ true → w ≤ x.stamp.time) c cs h is) rest
    step false is rest = rest

from_times : (w : ℕ) (p : Copy → Bool) (cs : List Copy) → AllFrom w (times (filter p cs)) → All (λ (c : Copy). p c ≡ true → w ≤ c.stamp.time) cs
from_times w p [] h = All-nil (λ (x : Copy). p x ≡ true → w ≤ x.stamp.time)
from_times w p (c ∷ cs) h = step (p c) refl (from_times w p cs) h
  where
    P : Copy → Type 0
    P x = p x ≡ true → w ≤ x.stamp.time

    step : (b : Bool) → p c ≡ b → (AllFrom w (times (filter p cs)) → All (λ (x : Copy). p x ≡ true → w ≤ x.stamp.time) cs) → AllFrom w (times (cond b (c ∷ filter p cs) (filter p cs)))
        → All (λ (x : Copy). p x ≡ true → w ≤ x.stamp.time) (c ∷ cs)
    step true is more all =
        All-cons (λ (x : Copy). p x ≡ true → w ≤ x.stamp.time) c cs (λ _. All-head (λ y. w ≤ y) c.stamp.time (times (filter p cs)) all) (more (All-tail (λ y. w ≤ y) c.stamp.time (times (filter p cs)) all))
    step false is more all =
        All-cons (λ (x : Copy). p x ≡ true → w ≤ x.stamp.time) c cs (λ e. absurd (false≢true (sym is ∙ e))) (more all)

-- of one federate: w is at most its numbers
abbrev Under : ℕ → ℕ → ℕ → Ledger → Type 0
Under run done w l =
    ((done < length l.contributions) → (w ≤ (at_round l done).share.low) × All (IsOldTimed run w) (received_after l done))
    × ((length l.contributions ≤ done) → All (IsTimed run w) l.posted)

numbers_under : (run done w : ℕ) (l : Ledger) → Under run done w l → AllFrom w (numbers_of run done l)
numbers_under run done w l h =
    elim (cases_lt done (length l.contributions)) [
      | inl has ↦
          let low = (at_round l done).share.low in
          let late = times (filter (λ c. is_old run c.stamp.colour) (received_after l done)) in
          subst (λ b. AllFrom w (cond b (low ∷ late) (times (filter (λ c. c.stamp.colour == run) l.posted)))) (sym (lt-ltb done (length l.contributions) has))
          (All-cons (λ y. w ≤ y) low late (h.0 has).0
          (times_from w (λ c. is_old run c.stamp.colour) (received_after l done)
          (weaker (IsOldTimed run w) (λ c. is_old run c.stamp.colour ≡ true → w ≤ c.stamp.time) (received_after l done) (λ c k e. k (ltb-true c.stamp.colour run e)) (h.0 has).1)))
      | inr out ↦
          let low = (at_round l done).share.low in
          let late = times (filter (λ c. is_old run c.stamp.colour) (received_after l done)) in
          subst (λ b. AllFrom w (cond b (low ∷ late) (times (filter (λ c. c.stamp.colour == run) l.posted)))) (sym (le-ltb done (length l.contributions) out))
          (times_from w (λ c. c.stamp.colour == run) l.posted
          (weaker (IsTimed run w) (λ c. (c.stamp.colour == run) ≡ true → w ≤ c.stamp.time) l.posted (λ c k e. k (eqb-true c.stamp.colour run e)) (h.1 out)))
    ]

under_numbers : (run done w : ℕ) (l : Ledger) → AllFrom w (numbers_of run done l) → Under run done w l
under_numbers run done w l h =
    let low = (at_round l done).share.low in
    let late = times (filter (λ c. is_old run c.stamp.colour) (received_after l done)) in
    let posts = times (filter (λ c. c.stamp.colour == run) l.posted) in (
      λ has.
          let all : AllFrom w (low ∷ late) = subst (λ b. AllFrom w (cond b (low ∷ late) posts)) (lt-ltb done (length l.contributions) has) h in (
            All-head (λ y. w ≤ y) low late all,
            weaker (λ c. is_old run c.stamp.colour ≡ true → w ≤ c.stamp.time) (IsOldTimed run w) (received_after l done) (λ c k lt. k (lt-ltb c.stamp.colour run lt))
                (from_times w (λ c. is_old run c.stamp.colour) (received_after l done) (All-tail (λ y. w ≤ y) low late all)),
          ),
      λ out.
          let all : AllFrom w posts = subst (λ b. AllFrom w (cond b (low ∷ late) posts)) (le-ltb done (length l.contributions) out) h in
          weaker (λ c. (c.stamp.colour == run) ≡ true → w ≤ c.stamp.time) (IsTimed run w) l.posted (λ c k e. k (eq-eqb c.stamp.colour run e))
          (from_times w (λ c. c.stamp.colour == run) l.posted all),
    )

pub least_is_greatest : LeastIsGreatest
least_is_greatest top n run done w ledgers =
    let f : ℕ → List ℕ = λ j. numbers_of run done (ledgers j) in (
      λ h. least_below w top (flat_map f (everybody n)) h.0
          (all_flat w f 0 n (λ j lt. numbers_under run done w (ledgers j)
          (λ has. (h.1.lows j (omega arith) has, h.1.receipts j (omega arith) has), λ out. h.1.posts j (omega arith) out))),
      λ h.
          let both = below_least w top (flat_map f (everybody n)) h in
          let each : (j : ℕ) → j < n → Under run done w (ledgers j) = λ j lt. under_numbers run done w (ledgers j) (flat_each w f 0 n both.1 j (omega arith) (omega arith)) in (
            both.0,
            record {
              lows = λ j lt has. ((each j lt).0 has).0;
              posts = λ j lt out. (each j lt).1 out;
              receipts = λ j lt has. ((each j lt).0 has).1;
            },
          ),
    )

pub least_is_kept : LeastIsKept
least_is_kept top n done ledgers rule =
    let run = run_of n ledgers done in
    rule.current (least_number top n run ledgers done) ((least_is_greatest top n run done (least_number top n run ledgers done) ledgers).1 (omega arith)).1

pub least_is_all : LeastIsAll
least_is_all top n run done ledgers above w le below =
    let lower : w ≤ least_number top n run ledgers done = (least_is_greatest top n run done w ledgers).0 (le, below) in
    record {
      copies = λ j lt. weaker (IsTimed run (least_number top n run ledgers done)) (IsTimed run w) (ledgers j).posted (λ c h e. omega (arith, lower, h e)) (above.copies j lt);
      promises = λ j lt has. omega (arith, lower, above.promises j lt has);
    }

pub old_copies_balance : OldCopiesBalance
old_copies_balance n done ledgers rule =
    let run = run_of n ledgers done in
    let p = is_old_stamp run in
    let counted : ℕ → ℕ = λ j. counted_by (ledgers j) done in
    let after : ℕ → ℕ = λ j. came_after run (ledgers j) done in
    let others : ℕ → ℕ = λ j. came_to_others run (ledgers j) done in
    let each : all_receipts p n ledgers ≡ sum_by (λ j. counted j + after j + others j) (everybody n) =
    sum_same (λ j. passing p (ledgers j).received) (λ j. counted j + after j + others j) n (λ j lt. split run done (ledgers j)
    (λ has. let e = rule.rounds.runs j done lt has in
    ap (λ r. passing (is_old_stamp r) (ledgers j).received) (sym e) ∙ inn_is (ledgers j) (at_round (ledgers j) done) (rule.rounds.faithful j done lt has)
    ∙ ap (λ r. (at_round (ledgers j) done).share.inn + passing (is_old_stamp r) (received_after (ledgers j) done)) e)) in
    omega (arith, way_balances p n ledgers rule.channels, each, sum_plus (λ j. counted j + after j) others (everybody n), sum_plus counted after (everybody n))
  where
    split : (run done : ℕ) (l : Ledger) → (done < length l.contributions → passing (is_old_stamp run) l.received ≡ (at_round l done).share.inn + passing (is_old_stamp run) (received_after l done))
        → passing (is_old_stamp run) l.received ≡ counted_by l done + came_after run l done + came_to_others run l done
    split run done l h =
        let goal : Bool → Type 0 = λ b. passing (is_old_stamp run) l.received
        ≡ cond b (at_round l done).share.inn 0 + cond b (passing (is_old_stamp run) (received_after l done)) 0 + cond b 0 (passing (is_old_stamp run) l.received) in
        elim (cases_lt done (length l.contributions)) [
          | inl has ↦ subst goal (sym (lt-ltb done (length l.contributions) has)) (omega (arith, h has))
          | inr out ↦ subst goal (sym (le-ltb done (length l.contributions) out)) (omega arith)
        ]
