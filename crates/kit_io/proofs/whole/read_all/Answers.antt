use Rattle.std.proofs.Common.{◌≡◌, ◌∙◌, ◌+◌, List, ℕ, ap, subst, sym, arith, length, take}
use Rattle.std.specs.Io.KnownBytes.{Consumes}
use Rattle.kit_io.proofs.Pieces.{written_back, read_more}
use Rattle.kit_io.proofs.whole.read_all.Goals as goal

pub loop-taken-preserved : goal.loop-taken-preserved
loop-taken-preserved g c =
    let items = c.loop-taken.buffer.items in
    let new = c.read_behind.new.buffer in
    let k = c.loop-taken.taken in
    let n = c.in-Ok.count in
    let same : length new ≡ length items = c.read_behind.auto.buffer ∙ ap length c.deref_mut.ensures.value in
    let back = written_back new items c.loop-taken.buffer.len c.loop-taken.buffer.ok.0 same in
    let P : List ℕ → Type 0 = λ xs. Consumes (g.S.Source.left c.args.source.now) (g.S.Source.left c.read_behind.new.source) (take (k + n) xs) in
    record {
      told = subst P (sym back) (read_more _ _ _ items new k n (c.read_behind.ensures.kept ∙ ap (take k) c.deref_mut.ensures.value) c.loop-taken.invariant.told c.in-Ok.ensures.bytes.0);
      room = ap length back ∙ same ∙ c.loop-taken.invariant.room;
      tells = c.read_behind.ensures.tells ∙ c.loop-taken.invariant.tells;
      within = omega (arith, c.in-Ok.ensures.bound, same, c.loop-taken.invariant.room, ap length c.deref_mut.ensures.value);
      later = omega (arith, c.loop-taken.invariant.later, c.read_behind.ensures.cause.later);
    }
