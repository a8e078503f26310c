-- The parts that reports tell, and what their lines name.
use Rattle.std.proofs.Common.{◌≡◌, ℕ, zero, suc, ◌+◌, ◌<◌, List, [], ◌∷◌, length, map, refl, sym, ap, subst, ◌∙◌, arith}
use Rattle.std.specs.Prelude.{slice_index_or}
use Rattle.std.specs.List.{AllByRecursion}
use Rattle.std.proofs.lemmas.List.Elements.{recursion_from_All}
use mathlib.Core.Option.{some, some-injective, some-ne-none}
use lib.ListN.{get_elem?}
use Rattle.kit_base.proofs.Lists.{all-append, all_filter, all_front}
use Rattle.kit_base.specs.declared.history.Line.{Line}
use Rattle.kit_base.specs.declared.history.Part.{Part}
use Rattle.kit_rules.specs.Federation.{IsFederation}
use Rattle.kit_rules.specs.Fits.{LineFits}
use Rattle.kit_rules.specs.Merging.{is_grant_of, lines_at, vars_in}
use Rattle.kit_rules.specs.Parts.{Parts}
use Rattle.kit_rules.specs.Simulation.{Block, block_lines, lines_of, simulation}
use Rattle.kit_laws.proofs.Fitting.{simulated_fits}
use Rattle.kit_parts.specs.Fronts.{part}
use Rattle.kit_ground.proofs.Lists.{at_map_or}
use Rattle.kit_model.specs.declared.journal.JournalEntry.{JournalEntry}
use Rattle.kit_model.specs.Journals.{lines_told}
use Rattle.kit_node.specs.declared.node.NodeReport.{NodeReport}
use Rattle.kit_replay.specs.Parts.{AreToldParts}
use Rattle.kit_replay.specs.Reports.{AreWholeParts}
use Rattle.kit_replay.proofs.Lists.{at_some}
use Rattle.kit_telling.specs.Tellings.{parts_from, parts_told, vars_reported}
use Rattle.kit_telling.proofs.Entries.{all_back}

abbrev pub entries_in : NodeReport → List JournalEntry
entries_in r = r.journal.entries

abbrev pub entries_at : List NodeReport → ℕ → List JournalEntry
entries_at reports k = slice_index_or (map entries_in reports) k []

pub parts_long : (i : ℕ) (rs : List NodeReport) → length (parts_from i rs) ≡ length rs
parts_long i [] = refl
parts_long i (r ∷ rs) = ap suc (parts_long (i + 1) rs)

-- the federate's number
next : (i k : ℕ) → i + 1 + k ≡ i + suc k
next i k = omega arith

first : (i : ℕ) → i ≡ i + 0
first i = omega arith

lines_from : (i k : ℕ) (rs : List NodeReport) → k < length rs → lines_at (parts_from i rs) k ≡ lines_told (i + k) (entries_at rs k)
lines_from i k [] lt = absurd (omega arith)
lines_from i zero (r ∷ rs) lt = ap (λ n. lines_told n r.journal.entries) (first i)
lines_from i (suc k) (r ∷ rs) lt = lines_from (i + 1) k rs (omega arith) ∙ ap (λ n. lines_told n (entries_at rs k)) (next i k)

pub lines_of_report : (rs : List NodeReport) (k : ℕ) → k < length rs → lines_at (parts_told rs) k ≡ lines_told k (entries_at rs k)
lines_of_report rs k lt = lines_from 0 k rs lt ∙ ap (λ n. lines_told n (entries_at rs k)) (let e : 0 + k ≡ k = omega arith in e)

told_at : (i k : ℕ) (rs : List NodeReport) (r : NodeReport) (q : Part) → get_elem? rs k ≡ some r → get_elem? (parts_from i rs) k ≡ some q → (q.lines ≡ lines_told (i + k) r.journal.entries) × (q.vars ≡ r.vars)
told_at i k [] r q er eq = absurd (some-ne-none r (sym er))
told_at i zero (x ∷ rs) r q er eq =
    let a = some-injective x r er in
    let b = some-injective _ q eq in
    (ap (λ (y : Part). y.lines) (sym b) ∙ (ap (λ (y : NodeReport). lines_told i y.journal.entries) a ∙ ap (λ n. lines_told n r.journal.entries) (first i)), ap (λ (y : Part). y.vars) (sym b) ∙ ap (λ (y : NodeReport). y.vars) a)
told_at i (suc k) (x ∷ rs) r q er eq =
    let t = told_at (i + 1) k rs r q er eq in
    (t.0 ∙ ap (λ n. lines_told n r.journal.entries) (next i k), t.1)

pub are_told : (rs : List NodeReport) → AreToldParts rs (parts_told rs)
are_told rs = record {
  many = parts_long 0 rs;
  each = λ k r q er eq. let t = told_at 0 k rs r q er eq in (t.0 ∙ ap (λ n. lines_told n r.journal.entries) (let e : 0 + k ≡ k = omega arith in e), t.1);
}

pub vars_told : (i : ℕ) (rs : List NodeReport) → map vars_in (parts_from i rs) ≡ map vars_reported rs
vars_told i [] = refl
vars_told i (r ∷ rs) = ap (λ (l : List (List ℕ)). r.vars ∷ l) (vars_told (i + 1) rs)

-- what holds of the lines of blocks holds of those of each
split : (P : Line → Type 0) (bs : List Block) → AllByRecursion P (lines_of bs) → AllByRecursion (λ (b : Block). AllByRecursion P (block_lines b)) bs
split P [] h = tt
split P (b ∷ bs) h = (all_front P (block_lines b) (lines_of bs) h, split P bs (all_back P (block_lines b) (lines_of bs) h))

join : (P : Line → Type 0) (bs : List Block) → AllByRecursion (λ (b : Block). AllByRecursion P (block_lines b)) bs → AllByRecursion P (lines_of bs)
join P [] h = tt
join P (b ∷ bs) h = all-append P (block_lines b) (lines_of bs) h.0 (join P bs h.1)

part_fits : (p : Parts) → IsFederation p → (k : ℕ) → AllByRecursion (LineFits p) (lines_of (part p k))
part_fits p f k = join (LineFits p) (part p k) (all_filter (λ (b : Block). AllByRecursion (LineFits p) (block_lines b)) (is_grant_of k) (simulation p).blocks
    (split (LineFits p) (simulation p).blocks (recursion_from_All (LineFits p) (lines_of (simulation p).blocks) (simulated_fits p f))))

-- the lines of whole parts name what is there
pub whole_fits : (p : Parts) → IsFederation p → (rs : List NodeReport) → AreWholeParts p rs → (k : ℕ) → k < length rs → AllByRecursion (LineFits p) (lines_told k (entries_at rs k))
whole_fits p f rs whole k lt =
    let r = at_some rs k lt in
    let is : lines_told k (entries_at rs k) ≡ lines_of (part p k) = ap (lines_told k) (at_map_or entries_in rs k r.0 [] r.1) ∙ (whole.each k r.0 r.1).lines in
    subst (AllByRecursion (LineFits p)) (sym is) (part_fits p f k)
