use Rattle.std.proofs.Common.{◌++◌, map, ap, sym, ◌∙◌}
use Rattle.std.proofs.lemmas.List.{append_assoc}
use Rattle.kit_schedule.specs.Schedules.{entries_of, federate_of}
use Rattle.kit_schedule.proofs.Words.{entries_of-more}
use Rattle.kit_schedule.proofs.repetition.Repetition.write.Goals as goal

pub loop-preserved : goal.loop-preserved
loop-preserved c =
    let old = c.args.entries.now.items in
    let letters = c.args.self.now.letters.now in
    let once = map federate_of letters in
    let before = entries_of c.loop.counter letters in
    c.in_ok-push_federates.ensures ∙ ap (λ xs. xs ++ once) c.loop.invariant ∙ append_assoc old before once
    ∙ ap (λ xs. old ++ xs) (sym (entries_of-more c.loop.counter letters))
