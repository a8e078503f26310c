-- In the midst of telling the journals of nodes, with a place in each.
use Rattle.std.proofs.Common.{◌≡◌, ◌≢◌, ℕ, ◌<◌, ◌≤◌, List, [], ◌++◌, length, map, refl, sym, ap, ◌∙◌, arith, slice_set}
use Rattle.std.specs.Prelude.{None, slice_index_or}
use Rattle.std.specs.List.{AllByRecursion, sum_by}
use Rattle.std.proofs.lemmas.List.Sums.{sum_by-set}
use Rattle.std.proofs.lemmas.Grind.{flat_map-append}
use Rattle.std.proofs.lemmas.List.{append_assoc, append-nil, get_or-map, length-map, length-set}
use Rattle.kit_base.specs.declared.history.Line.{Line}
use Rattle.kit_rules.specs.Federation.{IsFederation}
use Rattle.kit_rules.specs.Fits.{LineFits}
use Rattle.kit_rules.specs.Merging.{vars_in}
use Rattle.kit_rules.specs.Parts.{Parts}
use Rattle.kit_rules.specs.Text.{closings_text, line_text, simulation_text}
use mathlib.Core.Option.{some}
use lib.ListN.{get_elem?}
use Rattle.kit_ground.proofs.Lists.{at_map_or}
use Rattle.kit_model.specs.declared.journal.JournalEntry.{JournalEntry}
use Rattle.kit_model.specs.Journals.{lines_told}
use Rattle.kit_node.specs.declared.node.NodeReport.{NodeReport}
use Rattle.kit_replay.specs.Parts.{WholePartsMerge}
use Rattle.kit_replay.specs.Reports.{AreWholeParts}
use Rattle.kit_replay.proofs.Lists.{at_some}
use Rattle.kit_report.specs.declared.merging.Place.{Place}
use Rattle.kit_report.specs.Merges.{HaveNoTime, IsSoonest, behind_grant, first_grant_time, left_at, left_in, time_at, time_in, through_grant}
use Rattle.kit_report.proofs.Places.{IsUnderWay, all_taken, has_block, left_by, left_of, no_place, none_taken, time_at_is, under_way}
use Rattle.kit_telling.specs.Tellings.{AreTold, first_place, first_time, last_entries, lines_text, parts_told, vars_reported}
use Rattle.kit_telling.proofs.Entries.{first_told, fits_rest, last_all, last_last, last_short}
use Rattle.kit_telling.proofs.Reports.{are_told, entries_at, entries_in, lines_of_report, parts_long, vars_told, whole_fits}

-- the lines that a journal still tells
abbrev pub told_rest : List NodeReport → ℕ → ℕ → List Line
told_rest nodes k n = lines_told k (last_entries n (entries_at nodes k))

-- the entries that are left
abbrev pub entries_left : List NodeReport → List Place → ℕ → List JournalEntry
entries_left nodes places k = last_entries (left_at places k) (entries_at nodes k)

-- the lines that were told, and the places behind them
pub record IsTelling (p : Parts) (nodes : List NodeReport) (places : List Place) (before now : List ℕ) : Type 0 where
  pub many : length places ≡ length nodes
  pub lines : List Line
  pub way : IsUnderWay (parts_told nodes) (told_rest nodes) places lines
  pub text : now ≡ before ++ lines_text p lines

pub tells_nothing : (p : Parts) (nodes : List NodeReport) (places : List Place) (before : List ℕ) → places ≡ map first_place nodes → IsTelling p nodes places before before
tells_nothing p nodes places before is = record {
  many = many;
  lines = [];
  way = none_taken (parts_told nodes) (told_rest nodes) places [] (many ∙ sym long) times (λ k lt. told k (omega (arith, long, lt)) ∙ sym (lines_of_report nodes k (omega (arith, long, lt)))) refl;
  text = sym (append-nil before);
}
  where
    long : length (parts_told nodes) ≡ length nodes
    long = parts_long 0 nodes

    many : length places ≡ length nodes
    many = ap (λ (l : List Place). length l) is ∙ length-map nodes first_place

    place_is : (k : ℕ) (r : NodeReport) → get_elem? nodes k ≡ some r → first_place r ≡ slice_index_or places k no_place
    place_is k r at = sym (ap (λ (l : List Place). slice_index_or l k no_place) is ∙ at_map_or first_place nodes k r no_place at)

    entries_are : (k : ℕ) (r : NodeReport) → get_elem? nodes k ≡ some r → entries_at nodes k ≡ r.journal.entries
    entries_are k r at = at_map_or entries_in nodes k r [] at

    left : (k : ℕ) → k < length nodes → left_at places k ≡ length (entries_at nodes k)
    left k lt =
        let r = at_some nodes k lt in
        left_of places k (first_place r.0) no_place (omega (arith, many, lt)) (place_is k r.0 r.1) ∙ ap (λ (l : List JournalEntry). length l) (sym (entries_are k r.0 r.1))

    told : (k : ℕ) → k < length nodes → left_by (told_rest nodes) places k ≡ lines_told k (entries_at nodes k)
    told k lt = ap (told_rest nodes k) (left k lt) ∙ ap (lines_told k) (last_all (entries_at nodes k))

    times : (k : ℕ) → k < length (parts_told nodes) → time_at places k ≡ first_grant_time (left_by (told_rest nodes) places k)
    times k lk =
        let lt : k < length nodes = omega (arith, long, lk) in
        let r = at_some nodes k lt in
        time_at_is places k no_place (omega (arith, many, lt)) ∙ (ap time_in (sym (place_is k r.0 r.1)) ∙ (ap first_time (sym (entries_are k r.0 r.1))
        ∙ (sym (first_told k (entries_at nodes k)) ∙ ap first_grant_time (sym (told k lt)))))

pub tells_on : (p : Parts) (nodes : List NodeReport) (places : List Place) (before now after : List ℕ) (k : ℕ) (q : Place) → IsTelling p nodes places before now → IsSoonest (time_at places) (length places) k
    → after ≡ now ++ lines_text p (through_grant (lines_told k (entries_left nodes places k)))
    → lines_told k (last_entries q.left (entries_left nodes places k)) ≡ behind_grant (lines_told k (entries_left nodes places k))
    → q.time ≡ first_time (last_entries q.left (entries_left nodes places k))
    → q.left ≤ length (entries_left nodes places k)
    → IsTelling p nodes (slice_set places k q) before after
tells_on p nodes places before now after k q t soonest written behind time within =
    let es = entries_at nodes k in
    let more : List Line = through_grant (left_by (told_rest nodes) places k) in
    let same : last_entries q.left (entries_left nodes places k) ≡ last_entries q.left es = last_last es (left_at places k) q.left within in
    record {
      many = length-set places k q ∙ t.many;
      lines = t.lines ++ more;
      way = under_way (parts_told nodes) (told_rest nodes) places t.lines (t.lines ++ more) k q t.way soonest refl
          (ap (lines_told k) (sym same) ∙ behind) (time ∙ (ap first_time same ∙ sym (first_told k (last_entries q.left es))));
      text = written ∙ (ap (λ xs. xs ++ lines_text p more) t.text ∙ (append_assoc before (lines_text p t.lines) (lines_text p more) ∙ ap (λ xs. before ++ xs) (sym (flat_map-append (line_text p) t.lines more))));
    }

pub tells_whole : (p : Parts) (nodes : List NodeReport) (places : List Place) (before now : List ℕ) → IsTelling p nodes places before now → HaveNoTime (time_at places) (length places) → AreTold p nodes before now
tells_whole p nodes places before now t none = record {
  lines = t.lines;
  merged = all_taken (parts_told nodes) (told_rest nodes) places t.lines t.way none;
  text = t.text;
}

-- a federate's number is a byte
pub few_nodes : (p : Parts) → IsFederation p → (nodes : List NodeReport) → AreWholeParts p nodes → length nodes < 256
few_nodes p f nodes whole = let many : length nodes ≡ length p.federates = whole.many in omega (arith, f.federates.count.1)

pub left_fits : (p : Parts) → IsFederation p → (nodes : List NodeReport) → AreWholeParts p nodes → (places : List Place) (k : ℕ) → k < length nodes → AllByRecursion (LineFits p) (lines_told k (entries_left nodes places k))
left_fits p f nodes whole places k lt = fits_rest (LineFits p) k _ (entries_at nodes k) (whole_fits p f nodes whole k lt)

-- what the program reads of a journal is what is left
pub left_is : (nodes : List NodeReport) (places : List Place) (k : ℕ) (r : NodeReport) (q : Place) (es given : List JournalEntry) → k < length nodes → k < length places → q ≡ slice_index_or places k q
    → es ≡ (slice_index_or nodes k r).journal.entries → given ≡ last_entries q.left es → given ≡ entries_left nodes places k
left_is nodes places k r q es given ln lp qi ei gi =
    let at : entries_at nodes k ≡ (slice_index_or nodes k r).journal.entries = get_or-map entries_in nodes k r [] ln in
    gi ∙ (ap (last_entries q.left) (ei ∙ sym at) ∙ ap (λ n. last_entries n (entries_at nodes k)) (sym (left_of places k q q lp qi)))

-- there is a line at the soonest place, so less is left behind its block
pub has_line : (p : Parts) (nodes : List NodeReport) (places : List Place) (before now : List ℕ) (k : ℕ) → IsTelling p nodes places before now → IsSoonest (time_at places) (length places) k → first_time (entries_left nodes places k) ≢ None
has_line p nodes places before now k t soonest none = has_block (parts_told nodes) (told_rest nodes) places t.lines k t.way soonest (first_told k (entries_left nodes places k) ∙ none)

pub falls : (nodes : List NodeReport) (places : List Place) (k : ℕ) (q : Place) → k < length places → q.left < length (entries_left nodes places k) → sum_by left_in (slice_set places k q) < sum_by left_in places
falls nodes places k q lt less =
    let s = sum_by-set left_in places k q no_place lt in
    let l = left_of places k (slice_index_or places k no_place) no_place lt refl in
    let short = last_short (entries_at nodes k) (left_at places k) in
    omega (arith, s, l, short, less)

-- what was told of whole parts, and their closing lines, are the text of the simulation
pub whole_text : WholePartsMerge → (p : Parts) → IsFederation p → (nodes : List NodeReport) → AreWholeParts p nodes → (told text : List ℕ) → AreTold p nodes [] told
    → text ≡ told ++ closings_text p.federates (map vars_reported nodes) → text ≡ simulation_text p
whole_text law p f nodes whole told text a written =
    let parts = parts_told nodes in
    let s = law p f nodes parts a.lines (map vars_in parts) whole (are_told nodes) (record { lines_are = a.merged; vars_are = refl }) in
    written ∙ (ap (λ (xs : List ℕ). xs ++ closings_text p.federates (map vars_reported nodes)) a.text
    ∙ (ap (λ vars. lines_text p a.lines ++ closings_text p.federates vars) (sym (vars_told 0 nodes)) ∙ s.text_is))
