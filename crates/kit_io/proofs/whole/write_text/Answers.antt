use Rattle.std.proofs.Common.{◌≡◌, ◌∙◌, ◌-◌, List, ℕ, subst, sym, arith, length, take, drop}
use Rattle.std.specs.Io.KnownBytes.{Appends}
use Rattle.kit_io.proofs.Pieces.{taken_more, rest_more, slice_from}
use Rattle.kit_io.proofs.whole.write_text.Goals as goal

pub loop-rest-preserved : goal.loop-rest-preserved
loop-rest-preserved g c =
    let rest = c.loop-rest.rest.now in
    let text = c.args.text.now in
    let n = c.in-Ok.count in
    let P : List ℕ → Type 0 = λ xs. Appends (g.K.Sink.holds c.args.sink.now) (g.K.Sink.holds c.write.new.self) (take (length text - length xs) text) in
    let Q : List ℕ → Type 0 = λ xs. xs ≡ drop (length text - length xs) text in
    record {
      told = subst P (sym (slice_from n rest)) (taken_more _ _ _ text rest n c.in-Ok.ensures.bound c.loop-rest.invariant.rest c.loop-rest.invariant.told c.in-Ok.ensures.bytes);
      rest = subst Q (sym (slice_from n rest)) (rest_more text rest n c.in-Ok.ensures.bound c.loop-rest.invariant.rest);
      tells = c.write.ensures.tells ∙ c.loop-rest.invariant.tells;
      later = omega (arith, c.loop-rest.invariant.later, c.write.ensures.cause.later);
    }
