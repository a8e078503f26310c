use Rattle.std.proofs.Common.{ℕ, List, ◌+◌, refl, sym, subst, arith}
use Rattle.kit_schedule.specs.Schedules.{IsRepetition, entries_of}
use Rattle.kit_schedule.proofs.Fronts.{IsFront, front_more, front_stops}
use Rattle.kit_schedule.proofs.schedule.schedule_of.Goals as goal

pub returns-in_default-of-clause-none : goal.returns-in_default-of-clause-none
returns-in_default-of-clause-none c =
    let word = c.word-item.result in
    let P : List ℕ → Type 0 = λ w. (times : ℕ) (letters : List ℕ) → IsRepetition w times letters → ⊥ in
    let none : P word = subst P c.bytes.ensures c.in_default-of.ensures.none in
    front_stops c.args.words.now c.loop-word.word-index c.loop-word.entries.items word (omega arith) c.word-item.is none c.loop-word.invariant

pub loop-word-preserved : goal.loop-word-preserved
loop-word-preserved c =
    let word = c.word-item.result in
    let r = c.in-Some-of.repetition in
    let P : List ℕ → Type 0 = λ w. IsRepetition w r.times r.letters.now in
    let is : P word = subst P c.bytes.ensures c.in-Some-of.ensures.some in
    let first = entries_of r.times r.letters.now in
    let Q : List ℕ → Type 0 = IsFront c.args.words.now (c.loop-word.word-index + 1) in
    subst Q (sym c.in_ok-write.ensures)
    (front_more c.args.words.now c.loop-word.word-index c.loop-word.entries.items word first (omega arith) c.word-item.is
    (record { times = r.times; letters = r.letters.now; repetition = is; entries_are = refl }) c.loop-word.invariant)
