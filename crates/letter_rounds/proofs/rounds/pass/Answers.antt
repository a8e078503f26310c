use Rattle.std.proofs.Common.{ℕ, List, ap, sym, ◌∙◌, arith}
use Rattle.std.specs.Prelude.{slice_index_or}
use Rattle.kit_ground.specs.declared.place.Buffer.{Buffer}
use Rattle.kit_ground.specs.Steps.{fresh_buffer}
use Rattle.kit_ground.proofs.MailWords.{some_words}
use Rattle.letter_rounds.proofs.Quieting.{F, quiet_seated, quiet_after, place_number, place_federates, place_buffers, place_owed}
use Rattle.letter_rounds.proofs.rounds.pass.Goals as goal

pub seat-requires : goal.seat-requires
seat-requires c = let n = c.requires.quiet.federates in omega (arith, n, c.requires.from)

pub send-requires-clause-buffer : goal.send-requires-clause-buffer
send-requires-clause-buffer c =
    let n = place_buffers _ c.seat.ensures.ruled (quiet_seated _ _ _ c.requires.quiet c.seat.ensures.seated) in omega (arith, n, c.requires.buffer)

pub send-requires-clause-to : goal.send-requires-clause-to
send-requires-clause-to c =
    let n = place_federates _ c.seat.ensures.ruled (quiet_seated _ _ _ c.requires.quiet c.seat.ensures.seated) in omega (arith, n, c.requires.to)

pub send-requires-clause-other : goal.send-requires-clause-other
send-requires-clause-other c e =
    let me = place_number _ c.seat.ensures.ruled (quiet_seated _ _ _ c.requires.quiet c.seat.ensures.seated) in
    let from = ap (λ (f : F). f.seated) c.seat.ensures.seated in
    c.requires.other (sym (e ∙ (me ∙ from)))

pub send-requires-clause-posted : goal.send-requires-clause-posted
send-requires-clause-posted c = place_owed _ c.seat.ensures.ruled (quiet_seated _ _ _ c.requires.quiet c.seat.ensures.seated) c.args.buffer

pub seat-requires-2 : goal.seat-requires-2
seat-requires-2 c =
    let sent = quiet_after _ c.seat.ensures.ruled (quiet_seated _ _ _ c.requires.quiet c.seat.ensures.seated) _ c.send.ensures.came c.send.ensures.owed in
    let n = sent.federates in omega (arith, n, c.requires.to)

pub receive-requires-clause-from : goal.receive-requires-clause-from
receive-requires-clause-from c =
    let sent = quiet_after _ c.seat.ensures.ruled (quiet_seated _ _ _ c.requires.quiet c.seat.ensures.seated) _ c.send.ensures.came c.send.ensures.owed in
    let n = place_federates _ c.seat-2.ensures.ruled (quiet_seated _ _ _ sent c.seat-2.ensures.seated) in omega (arith, n, c.requires.from)

pub receive-requires-clause-other : goal.receive-requires-clause-other
receive-requires-clause-other c e =
    let sent = quiet_after _ c.seat.ensures.ruled (quiet_seated _ _ _ c.requires.quiet c.seat.ensures.seated) _ c.send.ensures.came c.send.ensures.owed in
    let me = place_number _ c.seat-2.ensures.ruled (quiet_seated _ _ _ sent c.seat-2.ensures.seated) in
    let to = ap (λ (f : F). f.seated) c.seat-2.ensures.seated in
    c.requires.other (e ∙ (me ∙ to))

pub receive-requires-clause-word : goal.receive-requires-clause-word
receive-requires-clause-word c =
    let sent = quiet_after _ c.seat.ensures.ruled (quiet_seated _ _ _ c.requires.quiet c.seat.ensures.seated) _ c.send.ensures.came c.send.ensures.owed in
    let n = place_buffers _ c.seat-2.ensures.ruled (quiet_seated _ _ _ sent c.seat-2.ensures.seated) in some_words _ (omega (arith, n))

pub returns : goal.returns
returns c =
    let sent = quiet_after _ c.seat.ensures.ruled (quiet_seated _ _ _ c.requires.quiet c.seat.ensures.seated) _ c.send.ensures.came c.send.ensures.owed in
    record {
      quiet = quiet_after _ c.seat-2.ensures.ruled (quiet_seated _ _ _ sent c.seat-2.ensures.seated) _ c.receive.ensures.came
          (λ k. ap (λ (l : List Buffer). (slice_index_or l k fresh_buffer).to_post) c.receive.ensures.leaves.buffers);
    }
