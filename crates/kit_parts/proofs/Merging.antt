-- The parts of the simulation are blocks of their federates whose times rise.
use Rattle.std.proofs.Common.{List, [], length, arith, sym, subst}
use Rattle.std.proofs.lemmas.List.FromFn.{get_or-map-range_with_len, length-map-range_with_len}
use Rattle.kit_rules.specs.Simulation.{Block}
use Rattle.kit_parts.specs.Fronts.{part}
use Rattle.kit_parts.specs.Merging.{IsPart, PartsArePart}
use Rattle.kit_parts.proofs.Rising.{parts_rise_law}

pub parts_are_part_law : PartsArePart
parts_are_part_law p f k lt =
    let n = length-map-range_with_len (part p) 0 (length p.federates) in
    let r = parts_rise_law p f k in
    let P : List Block → Type 0 = IsPart k in
    subst P (sym (get_or-map-range_with_len (part p) 0 (length p.federates) k k [] (omega arith) (omega arith))) (record { own = λ i d within. (r.1 i d within).0; rise = r.0 })
