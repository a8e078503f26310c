use Rattle.std.proofs.Common.{ℕ, [], ◌∷◌, ◌+◌, sym, ap, subst, arith, length, length-append}
use Rattle.std.proofs.lemmas.List.{length-replicate}
use Rattle.kit_ground.specs.Layout.{size_of}
use Rattle.kit_ground.specs.Rules.{places_from}
use Rattle.kit_pool.specs.Seating.{TableHolds}
use Rattle.kit_pool.proofs.Splitting.{opens}
use Rattle.kit_pool.proofs.dealing.lay.Goals as goal

pub of_words-requires : goal.of_words-requires
of_words-requires g c =
    let rule = g.P.Protocol.rule in
    let first = g.P.Protocol.first in
    let n = c.args.federates in
    let b = c.args.buffers in
    let front = g.F.Front.front n in
    let made = opens rule (first c.args.opening.now.value) n b c.args.guests front c.args.words.now c.requires.federates.0 c.requires.federates.1 c.requires.buffers.1 c.requires.rule c.requires.sees c.requires.words in
    subst (λ o. TableHolds rule n b front c.args.words.now (places_from (first o) n b 0 (n + c.args.guests) ∷ [])) (sym c.again.ensures) made

pub returns-clause-sized : goal.returns-clause-sized
returns-clause-sized g c =
    let n = c.args.federates in
    let b = c.args.buffers in
    let all = ap length c.requires.words in
    let made = c.in_ok-table.ensures in
    record { words = omega (arith, length-append (g.F.Front.front n) c.args.words.now, all, length-replicate {A = ℕ} (size_of n b) 0, made.0); slots = made.1 }
