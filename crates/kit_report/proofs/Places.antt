-- In the midst of a merge, with a place in each part.
use Rattle.std.proofs.Common.{◌≡◌, ◌≢◌, ℕ, ◌-◌, ◌<◌, ◌++◌, List, [], length, map, drop, refl, sym, ap, ◌∙◌, arith, slice_set, get_or-set_same, get_or-set_other}
use Rattle.std.specs.Prelude.{None, Option, slice_index_or}
use Rattle.std.proofs.lemmas.Option.{none-some}
use Rattle.std.proofs.lemmas.List.{get_or-map, length-map, length-set, map-set}
use mathlib.Core.Logic.{dite}
use native.Mathlib.Decide.{ℕ_discrete}
use Rattle.kit_base.specs.declared.history.Line.{Line}
use Rattle.kit_base.specs.declared.history.Part.{Part}
use Rattle.kit_rules.specs.Simulation.{Block}
use Rattle.kit_rules.specs.Merging.{ArePartsOf, IsMerged, lines_at}
use Rattle.kit_report.specs.declared.merging.Place.{Place}
use Rattle.kit_report.specs.Merges.{HaveNoTime, IsSoonest, behind_grant, first_grant_time, first_place, last_lines, left_at, left_in, through_grant, time_at, time_in}
use Rattle.kit_report.proofs.MergeStates.{States, begins_all, ends, goes_on}

-- `rest k n` are the lines that are left of part k where so much of it is left
abbrev pub left_by : (ℕ → ℕ → List Line) → List Place → ℕ → List Line
left_by rest places k = rest k (left_at places k)

-- the lines that were taken, and the places behind them
pub record IsUnderWay (parts : List Part) (rest : ℕ → ℕ → List Line) (places : List Place) (lines : List Line) : Type 0 where
  pub states : States parts (left_by rest places) lines
  pub many : length places ≡ length parts
  pub times : (k : ℕ) → k < length parts → time_at places k ≡ first_grant_time (left_by rest places k)

pub no_place : Place
no_place = record { left = 0; time = None }

pub left_of : (places : List Place) (k : ℕ) (q d : Place) → k < length places → q ≡ slice_index_or places k d → left_at places k ≡ q.left
left_of places k q d lt is = get_or-map left_in places k d 0 lt ∙ ap left_in (sym is)

time_of : (places : List Place) (k : ℕ) (q d : Place) → k < length places → q ≡ slice_index_or places k d → time_at places k ≡ q.time
time_of places k q d lt is = get_or-map time_in places k d None lt ∙ ap time_in (sym is)

pub time_at_is : (places : List Place) (k : ℕ) (d : Place) → k < length places → time_at places k ≡ (slice_index_or places k d).time
time_at_is places k d lt = get_or-map time_in places k d None lt

-- a place is set
left_set : (places : List Place) (k : ℕ) (q : Place) → k < length places → left_at (slice_set places k q) k ≡ q.left
left_set places k q lt = left_of (slice_set places k q) k q no_place (let e = length-set places k q in omega arith) (sym (get_or-set_same places k q no_place lt))

time_set : (places : List Place) (k : ℕ) (q : Place) → k < length places → time_at (slice_set places k q) k ≡ q.time
time_set places k q lt = time_of (slice_set places k q) k q no_place (let e = length-set places k q in omega arith) (sym (get_or-set_same places k q no_place lt))

left_kept : (places : List Place) (k j : ℕ) (q : Place) → j ≢ k → left_at (slice_set places k q) j ≡ left_at places j
left_kept places k j q other = ap (λ (xs : List ℕ). slice_index_or xs j 0) (map-set left_in places k q) ∙ get_or-set_other (map left_in places) k j q.left 0 other

time_kept : (places : List Place) (k j : ℕ) (q : Place) → j ≢ k → time_at (slice_set places k q) j ≡ time_at places j
time_kept places k j q other = ap (λ (xs : List (Option ℕ)). slice_index_or xs j None) (map-set time_in places k q) ∙ get_or-set_other (map time_in places) k j q.time None other

-- the times are those of what is left
same_soonest : (times these : ℕ → Option ℕ) (count n k : ℕ) → n ≡ count → ((j : ℕ) → j < count → times j ≡ these j) → IsSoonest times n k → IsSoonest these count k
same_soonest times these count n k same at s =
    let inside = s.inside in
    record {
      inside = omega (arith, same, inside);
      time = s.time;
      time_is = sym (at k (omega (arith, same, inside))) ∙ s.time_is;
      least = λ j u lt is. s.least j u (omega (arith, same)) (at j lt ∙ is);
    }

pub under_way : (parts : List Part) (rest : ℕ → ℕ → List Line) (places : List Place) (lines now : List Line) (k : ℕ) (q : Place) → IsUnderWay parts rest places lines → IsSoonest (time_at places) (length places) k
    → now ≡ lines ++ through_grant (left_by rest places k) → rest k q.left ≡ behind_grant (left_by rest places k) → q.time ≡ first_grant_time (rest k q.left)
    → IsUnderWay parts rest (slice_set places k q) now
under_way parts rest places lines now k q u soonest taken behind time =
    let inside : k < length places = soonest.inside in
    let after = slice_set places k q in
    let s = same_soonest (time_at places) (λ j. first_grant_time (left_by rest places j)) (length parts) (length places) k u.many u.times soonest in
    record {
      states = goes_on parts (left_by rest places) (left_by rest after) lines now k u.states s taken
          (ap (rest k) (left_set places k q inside) ∙ behind) (λ j lj other. ap (rest j) (left_kept places k j q other));
      many = length-set places k q ∙ u.many;
      times = λ j lj. dite (ℕ_discrete j k)
          (λ same. ap (time_at after) same ∙ (time_set places k q inside ∙ (time ∙ (ap (λ n. first_grant_time (rest k n)) (sym (left_set places k q inside)) ∙ ap (λ x. first_grant_time (left_by rest after x)) (sym same)))))
          (λ other. time_kept places k j q other ∙ (u.times j lj ∙ ap (λ n. first_grant_time (rest j n)) (sym (left_kept places k j q other))));
    }

-- there is a block at the soonest place
pub has_block : (parts : List Part) (rest : ℕ → ℕ → List Line) (places : List Place) (lines : List Line) (k : ℕ) → IsUnderWay parts rest places lines → IsSoonest (time_at places) (length places) k → first_grant_time (left_by rest places k) ≢ None
has_block parts rest places lines k u soonest none =
    let inside = soonest.inside in
    none-some soonest.time (sym none ∙ (sym (u.times k (omega (arith, u.many, inside))) ∙ soonest.time_is))

pub all_taken : (parts : List Part) (rest : ℕ → ℕ → List Line) (places : List Place) (lines : List Line) → IsUnderWay parts rest places lines → HaveNoTime (time_at places) (length places)
    → (blocks : List (List Block)) → ArePartsOf parts blocks → IsMerged blocks lines
all_taken parts rest places lines u none = ends parts (left_by rest places) lines u.states (λ k lt. sym (u.times k lt) ∙ none k (omega (arith, u.many, lt)))

pub none_taken : (parts : List Part) (rest : ℕ → ℕ → List Line) (places : List Place) (lines : List Line) → length places ≡ length parts → ((k : ℕ) → k < length parts → time_at places k ≡ first_grant_time (left_by rest places k))
    → ((k : ℕ) → k < length parts → left_by rest places k ≡ lines_at parts k) → lines ≡ [] → IsUnderWay parts rest places lines
none_taken parts rest places lines many times all none = record { states = begins_all parts (left_by rest places) lines all none; many = many; times = times }

-- THE LINES OF PARTS: what is left of a part's lines
abbrev pub part_rest : List Part → ℕ → ℕ → List Line
part_rest parts k n = last_lines n (lines_at parts k)

drop_none : (ls : List Line) → last_lines (length ls) ls ≡ ls
drop_none ls = ap (λ (n : ℕ). drop n ls) none
  where
    none : length ls - length ls ≡ 0
    none = omega arith

no_part : Part
no_part = record { lines = []; vars = [] }

pub begins_parts : (parts : List Part) (places : List Place) (lines : List Line) → places ≡ map first_place parts → lines ≡ [] → IsUnderWay parts (part_rest parts) places lines
begins_parts parts places lines is none = none_taken parts (part_rest parts) places lines many times all none
  where
    many : length places ≡ length parts
    many = ap (λ (l : List Place). length l) is ∙ length-map parts first_place

    at : (k : ℕ) → k < length parts → slice_index_or places k no_place ≡ first_place (slice_index_or parts k no_part)
    at k lt = ap (λ (l : List Place). slice_index_or l k no_place) is ∙ get_or-map first_place parts k no_part no_place lt

    lines_are : (k : ℕ) → k < length parts → lines_at parts k ≡ (slice_index_or parts k no_part).lines
    lines_are k lt = get_or-map (λ (p : Part). p.lines) parts k no_part [] lt

    left : (k : ℕ) → k < length parts → left_at places k ≡ length (lines_at parts k)
    left k lt = left_of places k (slice_index_or places k no_place) no_place (omega (arith, many, lt)) refl ∙ (ap left_in (at k lt) ∙ ap (λ (l : List Line). length l) (sym (lines_are k lt)))

    all : (k : ℕ) → k < length parts → left_by (part_rest parts) places k ≡ lines_at parts k
    all k lt = ap (λ n. last_lines n (lines_at parts k)) (left k lt) ∙ drop_none (lines_at parts k)

    times : (k : ℕ) → k < length parts → time_at places k ≡ first_grant_time (left_by (part_rest parts) places k)
    times k lt = time_of places k (slice_index_or places k no_place) no_place (omega (arith, many, lt)) refl ∙ (ap time_in (at k lt)
        ∙ (ap first_grant_time (drop_none (slice_index_or parts k no_part).lines ∙ (sym (lines_are k lt) ∙ sym (all k lt)))))
