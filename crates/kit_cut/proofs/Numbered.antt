-- What may be pending has a sender there is, and a number there is.
use Rattle.std.proofs.Common.{◌≡◌, ℕ, List, length, get_or, Option, Some, None, arith, refl, sym, subst}
use Rattle.std.specs.List.{All}
use Rattle.kit_base.specs.declared.message.Message.{Message}
use Rattle.kit_rules.specs.declared.table.Request.{Request}
use Rattle.kit_rules.specs.Parts.{Parts}
use Rattle.kit_rules.specs.Federation.{IsFederation}
use Rattle.kit_cut.specs.ValidCuts.{AreTimely, IsNumbered, IsNextNumber}

pub timely_numbered : (p : Parts) (at : ℕ) (nexts : List ℕ) (i now : ℕ) (request : Option Request) (ms : List Message) → IsFederation p → length nexts ≡ length p.federates → All IsNextNumber nexts
    → AreTimely p at nexts i now request ms → All IsNumbered ms
timely_numbered p at nexts i now None ms f len low h =
    let A : List Message → Type 0 = All IsNumbered in
    subst A (sym (h.unasked refl)) (λ k d lt. absurd (omega arith))
timely_numbered p at nexts i now (Some r) ms f len low h = λ k d lt.
    let m = get_or ms k d in
    let is = h.asked r refl k d lt in
    let next : IsNextNumber (get_or nexts m.sender 0) = low m.sender 0 (omega (arith, is.sender, len)) in
    (omega (arith, is.sender, f.federates.count.1), omega (arith, is.number, next.1))
