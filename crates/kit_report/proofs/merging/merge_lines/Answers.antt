use Rattle.std.proofs.Common.{◌≡◌, ◌<◌, ◌++◌, ℕ, length, sym, ap, subst, ◌∙◌, arith}
use Rattle.std.proofs.lemmas.List.{get_or_read}
use Rattle.kit_rules.specs.Merging.{lines_at}
use Rattle.kit_report.specs.Merges.{HaveNoTime, IsSoonest, behind_grant, first_grant_time, last_lines, left_at, left_in, through_grant, time_at, time_in}
use Rattle.kit_report.proofs.MergeStates.{part_lines}
use Rattle.kit_report.proofs.Places.{all_taken, begins_parts, left_by, left_of, no_place, part_rest, under_way}
use Rattle.kit_report.proofs.merging.merge_lines.Goals as goal

pub loop-at-init : goal.loop-at-init
loop-at-init c = begins_parts c.args.parts.now c.in_ok-places.places.items c.new-lines.result c.in_ok-places.ensures c.new-lines.ensures

pub loop-at-preserved : goal.loop-at-preserved
loop-at-preserved c =
    let parts = c.args.parts.now in
    let places = c.loop-at.places.items in
    let lines = c.loop-at.lines in
    let k : ℕ = c.in-Some.at in
    let soonest : IsSoonest (time_at places) (length places) k = subst (λ ps. IsSoonest (time_at ps) (length ps) k) c.deref.ensures.value c.in-Some.ensures.some in
    let there : k < length places = soonest.inside in
    let inside : k < length parts = (let many = c.loop-at.invariant.many in omega arith) in
    let same : lines_at parts k ≡ c.index-parts-at.result.lines = part_lines parts k c.index-parts-at.result inside c.index-parts-at.is in
    let again : lines_at parts k ≡ c.index-parts-at-in-Some.result.lines = part_lines parts k c.index-parts-at-in-Some.result inside c.index-parts-at-in-Some.is in
    let before : left_at places k ≡ c.index.result.now.left = left_of places k c.index.result.now no_place there (get_or_read places k c.index.result.now there c.index.ensures no_place) in
    let whole : last_lines c.index.result.now.left c.index-parts-at.result.lines ≡ left_by (part_rest parts) places k =
    ap (λ n. last_lines n c.index-parts-at.result.lines) (sym before) ∙ ap (λ l. last_lines (left_at places k) l) (sym same) in
    let after : ℕ = c.in_ok-left.left in
    let left : c.place_in.result.left ≡ after = ap left_in c.place_in.ensures in
    let e = c.in_ok-left.ensures in
    under_way parts (part_rest parts) places lines c.take_block.new.lines k c.place_in.result c.loop-at.invariant soonest
    (e.taken ∙ ap (λ l. lines ++ through_grant l) whole)
    (ap (λ n. last_lines n (lines_at parts k)) left ∙ (ap (λ l. last_lines after l) same ∙ (e.rest ∙ ap behind_grant whole)))
    (ap time_in c.place_in.ensures ∙ (ap (λ l. first_grant_time (last_lines after l)) (sym again) ∙ ap (λ n. first_grant_time (last_lines n (lines_at parts k))) (sym left)))

pub returns : goal.returns
returns c =
    let parts = c.args.parts.now in
    let places = c.loop-at.places.items in
    all_taken parts (part_rest parts) places c.loop-at.lines c.loop-at.invariant (subst (λ ps. HaveNoTime (time_at ps) (length ps)) c.deref.ensures.value c.in_default.ensures.none)
