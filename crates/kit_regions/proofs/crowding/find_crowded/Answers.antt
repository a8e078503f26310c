use Rattle.std.proofs.Common.{◌≡◌, ◌∙◌, ◌<◌, ℕ, Bool, true, false, length, sym, ap, arith, slice_index_or}
use Rattle.std.proofs.lemmas.Bool.{lt-ltb, le-ltb}
use Rattle.std.proofs.lemmas.List.{get_or_default}
use Rattle.kit_rules.specs.Parts.{nobody}
use Rattle.kit_regions.specs.Lowered.{lowered_rules, is_crowded}
use Rattle.kit_regions.proofs.Growing.{found_first, none_yet}
use Rattle.kit_regions.proofs.crowding.find_crowded.Goals as goal

pub returns-then-count_rules-gt-MOST_RULES : goal.returns-then-count_rules-gt-MOST_RULES
returns-then-count_rules-gt-MOST_RULES c =
    let updates = c.args.updates.now in
    let p : ℕ → Bool = λ i. is_crowded updates (slice_index_or c.args.federates.now i nobody) in
    let here = c.index-federates-i.is ∙ get_or_default c.args.federates.now c.loop-i.i c.index-federates-i.result nobody c.loop-i-test.true in
    let counted = c.count_rules.ensures ∙ ap (λ rs. length (lowered_rules updates rs)) c.as_slice.ensures in
    let many : 64 < length (lowered_rules updates c.index-federates-i.result.rules) = omega (arith, counted, c.if-count_rules-gt-MOST_RULES.true) in
    let passes : p c.loop-i.i ≡ true = sym (ap (is_crowded updates) here) ∙ lt-ltb 64 (length (lowered_rules updates c.index-federates-i.result.rules)) many in
    sym (found_first p 0 c.loop-i.i (length c.args.federates.now) c.loop-i.i c.loop-i.invariant (omega arith) c.loop-i-test.true passes)

pub loop-i-preserved : goal.loop-i-preserved
loop-i-preserved c =
    let updates = c.args.updates.now in
    let p : ℕ → Bool = λ i. is_crowded updates (slice_index_or c.args.federates.now i nobody) in
    let here = c.index-federates-i.is ∙ get_or_default c.args.federates.now c.loop-i.i c.index-federates-i.result nobody c.loop-i-test.true in
    let counted = c.count_rules.ensures ∙ ap (λ rs. length (lowered_rules updates rs)) c.as_slice.ensures in
    let few = le-ltb 64 (length (lowered_rules updates c.index-federates-i.result.rules)) (omega (arith, counted, c.if-count_rules-gt-MOST_RULES.false)) in
    none_yet p c.loop-i.i c.loop-i.invariant (sym (ap (is_crowded updates) here) ∙ few)
