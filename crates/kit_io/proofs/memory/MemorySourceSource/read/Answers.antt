use Rattle.std.proofs.Common.{◌∙◌, ◌≤◌, ◌+◌, ◌-◌, ap, sym, arith, length, take, drop, length-append, length-drop, length-take}
use Rattle.kit_io.specs.Memory.{MemoryInput}
use Rattle.kit_io.proofs.Pieces.{front_given, nothing_left}
use Rattle.kit_io.proofs.memory.MemorySourceSource.read.Goals as goal

pub returns-clause-bytes : goal.returns-clause-bytes
returns-clause-bytes c =
    let b = c.self.inside.bytes.items in
    let at = c.self.inside.at in
    let n = c.min-count.result in
    let within : at + n ≤ length b = omega arith in (
      sym (ap (λ (v : MemoryInput). v.left) c.self.view_is)
          ∙ front_given b c.args.into.now c.copy_from_slice.new.self at n within (c.copy_from_slice.ensures.after ∙ ap (λ xs. take (at + n - at) (drop at xs)) c.deref.ensures.value),
      λ z some. nothing_left b at n (omega (arith, z, some, length-append c.copy_from_slice.new.self (drop n c.args.into.now), length-drop n c.args.into.now, ap length c.copy_from_slice.ensures.after, length-take (at + n - at) (drop at c.deref.result.now), c.min.ensures, c.min-count.ensures, c.len.ensures)) z,
    )
