-- Who has taken in all shows all.
use Rattle.std.proofs.Common.{◌≡◌, ◌/◌, ◌%◌, ◌^◌, true, length, sym, ap, ◌∙◌, arith}
use Rattle.std.specs.Prelude.{slice_index}
use Rattle.kit_lbts.specs.Reduction.{publishes, reg_of}
use Rattle.kit_fly.specs.Laws.{WholeRoundsShow}
use Rattle.kit_fly.proofs.Slots.{few_needed}

pub whole_rounds_show : WholeRoundsShow
whole_rounds_show scheme k p f shown all stage known does started =
    let does' : publishes scheme k.federates k.number stage ≡ true = sym (λ i. publishes (f.scheme_is i) (f.federates i) (f.number i) stage) ∙ does in
    let h = shown stage known does' (omega (arith, few_needed scheme k.federates k.number stage does', all)) in
    let at : slice_index p.own.shown (reg_of p.own.number stage (length p.client.contributions)).slot ≡ slice_index p.own.shown (reg_of k.number stage k.round).slot =
    λ i. slice_index p.own.shown (reg_of (f.number i) stage (f.round i)).slot in
    ap (λ w. w / 2 ^ 61) at ∙ (h ∙ ap (λ r. r % 8) (sym f.round))
