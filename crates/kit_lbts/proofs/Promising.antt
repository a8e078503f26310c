-- How the promise of a federate changes.
use Rattle.std.proofs.Common.{◌≡◌, ℕ, ◌+◌, ◌<◌, ◌≤◌, min, Bool, true, false, cond, inl, inr, arith, ap}
use Rattle.std.proofs.lemmas.Bool.{cases_lt, le-leb, lt-leb}
use Rattle.kit_lbts.specs.Promises.{promise_by}

-- before the end was granted it is by the logical time or by the due time; after that it is above the end
pub promised_below : (end lookahead now due : ℕ) (waiting : Bool) → now < end → promise_by end lookahead now due waiting ≡ min (end + 1) ((cond waiting now due) + lookahead)
promised_below end lookahead now due waiting lt = ap (λ b. cond b (end + 1) (min (end + 1) ((cond waiting now due) + lookahead))) (lt-leb end now lt)

pub promised_end : (end lookahead now due : ℕ) (waiting : Bool) → end ≤ now → promise_by end lookahead now due waiting ≡ end + 1
promised_end end lookahead now due waiting le = ap (λ b. cond b (end + 1) (min (end + 1) ((cond waiting now due) + lookahead))) (le-leb end now le)

-- while it waits, no message that is late enough is timed below it
pub late_enough : (end lookahead now due time : ℕ) → 1 ≤ lookahead → now + lookahead ≤ time → promise_by end lookahead now due true ≤ time
late_enough end lookahead now due time some late =
    elim (cases_lt now end) [
      | inl lt ↦ omega (arith, promised_below end lookahead now due true lt)
      | inr ge ↦ omega (arith, promised_end end lookahead now due true ge)
    ]

-- it rises where nothing is left to be posted
pub rises_idle : (end lookahead now due : ℕ) → now ≤ due → promise_by end lookahead now due true ≤ promise_by end lookahead now due false
rises_idle end lookahead now due le =
    elim (cases_lt now end) [
      | inl lt ↦ omega (arith, promised_below end lookahead now due true lt, promised_below end lookahead now due false lt)
      | inr ge ↦ omega (arith, promised_end end lookahead now due true ge, promised_end end lookahead now due false ge)
    ]

-- it falls to the time of a message at most, as the due time does
pub falls_to : (end lookahead now due later time w : ℕ) (waiting : Bool) → ((v : ℕ) → v ≤ due → v ≤ time → v ≤ later)
    → w ≤ promise_by end lookahead now due waiting → w ≤ time → w ≤ promise_by end lookahead now later waiting
falls_to end lookahead now due later time w true h low le =
    elim (cases_lt now end) [
      | inl lt ↦ omega (arith, promised_below end lookahead now due true lt, promised_below end lookahead now later true lt)
      | inr ge ↦ omega (arith, promised_end end lookahead now due true ge, promised_end end lookahead now later true ge)
    ]
falls_to end lookahead now due later time w false h low le =
    elim (cases_lt now end) [
      | inl lt ↦
          let least : min due time ≤ later = h (min due time) (omega arith) (omega arith) in
          omega (arith, promised_below end lookahead now due false lt, promised_below end lookahead now later false lt)
      | inr ge ↦ omega (arith, promised_end end lookahead now due false ge, promised_end end lookahead now later false ge)
    ]

-- a grant of the due time keeps it
pub granted_rises : (end lookahead now due later : ℕ) (waiting : Bool) → now ≤ due → due ≤ later → promise_by end lookahead now due false ≤ promise_by end lookahead due later waiting
granted_rises end lookahead now due later waiting le more =
    elim (cases_lt now end) [
      | inl lt ↦ elim (cases_lt due end) [
        | inl below ↦ elim waiting as (λ b. promise_by end lookahead now due false ≤ promise_by end lookahead due later b) [
          | true ↦ omega (arith, promised_below end lookahead now due false lt, promised_below end lookahead due later true below)
          | false ↦ omega (arith, promised_below end lookahead now due false lt, promised_below end lookahead due later false below)
        ]
        | inr ge ↦ omega (arith, promised_below end lookahead now due false lt, promised_end end lookahead due later waiting ge)
      ]
      | inr ge ↦ omega (arith, promised_end end lookahead now due false ge, promised_end end lookahead due later waiting (omega arith))
    ]
