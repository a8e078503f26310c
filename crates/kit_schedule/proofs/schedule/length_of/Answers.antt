use Rattle.std.proofs.Common.{ℕ, List, subst, arith}
use Rattle.kit_schedule.specs.Schedules.{IsRepetition}
use Rattle.kit_schedule.proofs.Fronts.{front_stops, measured_beyond, measured_more, measured_whole}
use Rattle.kit_schedule.proofs.Words.{always_if_none}
use Rattle.kit_schedule.proofs.schedule.length_of.Goals as goal

pub returns-in_err-of-clause-none : goal.returns-in_err-of-clause-none
returns-in_err-of-clause-none c =
    let word = c.word-item.result in
    let P : List ℕ → Type 0 = λ w. (times : ℕ) (letters : List ℕ) → IsRepetition w times letters → ⊥ in
    let none : P word = subst P c.bytes.ensures c.in_err-of.ensures.none in
    let m = c.loop-word.invariant in
    always_if_none c.from_residual.result (front_stops c.args.words.now c.loop-word.word-index m.done word (omega arith) c.word-item.is none m.front)

pub returns-in_err-added-clause-none : goal.returns-in_err-added-clause-none
returns-in_err-added-clause-none c =
    let word = c.word-item.result in
    let r = c.in_ok-of.field-0 in
    let P : List ℕ → Type 0 = λ w. IsRepetition w r.times r.letters.now in
    let is : P word = subst P c.bytes.ensures c.in_ok-of.ensures.some in
    always_if_none c.from_residual-in_err-added.result
    (measured_beyond c.args.words.now c.loop-word.word-index c.loop-word.length word r.letters.now r.times (omega arith) c.word-item.is is (omega (arith, c.in_err-added.ensures.none)) c.loop-word.invariant)

pub returns-then-added-length-clause-none : goal.returns-then-added-length-clause-none
returns-then-added-length-clause-none c =
    let word = c.word-item.result in
    let r = c.in_ok-of.field-0 in
    let P : List ℕ → Type 0 = λ w. IsRepetition w r.times r.letters.now in
    let is : P word = subst P c.bytes.ensures c.in_ok-of.ensures.some in
    measured_beyond c.args.words.now c.loop-word.word-index c.loop-word.length word r.letters.now r.times (omega arith) c.word-item.is is (omega (arith, c.in_ok-added.ensures.some, c.loop-word.invariant.short)) c.loop-word.invariant

pub loop-word-preserved : goal.loop-word-preserved
loop-word-preserved c =
    let word = c.word-item.result in
    let r = c.in_ok-of.field-0 in
    let P : List ℕ → Type 0 = λ w. IsRepetition w r.times r.letters.now in
    let is : P word = subst P c.bytes.ensures c.in_ok-of.ensures.some in
    measured_more c.args.words.now c.loop-word.word-index c.loop-word.length c.in_ok-added.added word r.letters.now r.times (omega arith) c.word-item.is is c.in_ok-added.ensures.some (omega arith) c.loop-word.invariant

pub returns-clause-some : goal.returns-clause-some
returns-clause-some c = measured_whole c.args.words.now c.loop-word.word-index c.loop-word.length (omega arith) c.loop-word.invariant
