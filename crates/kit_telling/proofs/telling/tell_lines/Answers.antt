use Rattle.std.proofs.Common.{◌≡◌, ◌++◌, ◌<◌, ◌≤◌, ℕ, List, length, ap, subst, sym, ◌∙◌, arith}
use Rattle.std.specs.List.{AllByRecursion}
use Rattle.kit_rules.specs.Fits.{LineFits}
use Rattle.kit_model.specs.declared.journal.JournalEntry.{JournalEntry}
use Rattle.kit_model.specs.Journals.{lines_told}
use Rattle.kit_report.specs.Merges.{HaveNoTime, IsSoonest, behind_grant, through_grant, time_at}
use Rattle.kit_telling.specs.Tellings.{first_time, last_entries, lines_text}
use Rattle.kit_telling.proofs.Nodes.{entries_left, falls, has_line, left_fits, left_is, tells_nothing, tells_on, tells_whole}
use Rattle.kit_telling.proofs.telling.tell_lines.Goals as goal

pub loop-at-init : goal.loop-at-init
loop-at-init c = tells_nothing c.args.federation.now c.args.nodes.now c.in_ok-places.places.items c.args.text.now.items c.in_ok-places.ensures

pub tell_block-requires : goal.tell_block-requires
tell_block-requires c =
    let p = c.args.federation.now in
    let nodes = c.args.nodes.now in
    let places = c.loop-at.places.items in
    let k : ℕ = c.in-Some.at in
    let soonest : IsSoonest (time_at places) (length places) k = subst (λ ps. IsSoonest (time_at ps) (length ps) k) c.deref.ensures.value c.in-Some.ensures.some in
    let there : k < length places = soonest.inside in
    let many = c.loop-at.invariant.many in
    let inside : k < length nodes = omega (arith, there, many) in
    let P : List JournalEntry → Type 0 = λ es. AllByRecursion (LineFits p) (lines_told k es) in
    let is : c.last_entries-entries.result.now ≡ entries_left nodes places k = left_is nodes places k c.index-nodes-at.result c.index.result.now c.entries.result.now c.last_entries-entries.result.now inside there c.index.ensures c.entries.ensures c.last_entries-entries.ensures in
    subst P (sym is) (left_fits p c.keeps_its_limits.ensures nodes c.requires places k inside)

pub loop-at-smaller : goal.loop-at-smaller
loop-at-smaller c =
    let p = c.args.federation.now in
    let nodes = c.args.nodes.now in
    let places = c.loop-at.places.items in
    let k : ℕ = c.in-Some.at in
    let soonest : IsSoonest (time_at places) (length places) k = subst (λ ps. IsSoonest (time_at ps) (length ps) k) c.deref.ensures.value c.in-Some.ensures.some in
    let there : k < length places = soonest.inside in
    let many = c.loop-at.invariant.many in
    let inside : k < length nodes = omega (arith, there, many) in
    let q = c.in_ok-places-2.field-0 in
    let given : List JournalEntry = c.last_entries-entries.result.now in
    let is : given ≡ entries_left nodes places k = left_is nodes places k c.index-nodes-at.result c.index.result.now c.entries.result.now given inside there c.index.ensures c.entries.ensures c.last_entries-entries.ensures in
    let line = has_line p nodes places c.args.text.now.items c.loop-at.text.items k c.loop-at.invariant soonest in
    let less : q.left < length given = c.in_ok-places-2.ensures.less (λ none. line (ap first_time (sym is) ∙ none)) in
    falls nodes places k q there (subst (λ (es : List JournalEntry). q.left < length es) is less)

pub loop-at-preserved : goal.loop-at-preserved
loop-at-preserved c =
    let p = c.args.federation.now in
    let nodes = c.args.nodes.now in
    let places = c.loop-at.places.items in
    let k : ℕ = c.in-Some.at in
    let soonest : IsSoonest (time_at places) (length places) k = subst (λ ps. IsSoonest (time_at ps) (length ps) k) c.deref.ensures.value c.in-Some.ensures.some in
    let there : k < length places = soonest.inside in
    let many = c.loop-at.invariant.many in
    let inside : k < length nodes = omega (arith, there, many) in
    let q = c.in_ok-places-2.field-0 in
    let given : List JournalEntry = c.last_entries-entries.result.now in
    let is : given ≡ entries_left nodes places k = left_is nodes places k c.index-nodes-at.result c.index.result.now c.entries.result.now given inside there c.index.ensures c.entries.ensures c.last_entries-entries.ensures in
    let now : List ℕ = c.loop-at.text.items in
    let after : List ℕ = c.tell_block.new.text.items in
    let e = c.in_ok-places-2.ensures in
    tells_on p nodes places c.args.text.now.items now after k q c.loop-at.invariant soonest
    (subst (λ (es : List JournalEntry). after ≡ now ++ lines_text p (through_grant (lines_told k es))) is e.told)
    (subst (λ (es : List JournalEntry). lines_told k (last_entries q.left es) ≡ behind_grant (lines_told k es)) is e.rest)
    (subst (λ (es : List JournalEntry). q.time ≡ first_time (last_entries q.left es)) is e.time)
    (subst (λ (es : List JournalEntry). q.left ≤ length es) is e.within)

pub returns : goal.returns
returns c =
    let places = c.loop-at.places.items in
    tells_whole c.args.federation.now c.args.nodes.now places c.args.text.now.items c.loop-at.text.items c.loop-at.invariant
    (subst (λ ps. HaveNoTime (time_at ps) (length ps)) c.deref.ensures.value c.in_default.ensures.none)
