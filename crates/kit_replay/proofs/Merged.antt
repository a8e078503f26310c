-- Whole parts, merged, are the sequential simulation.
use Rattle.std.proofs.Common.{◌≡◌, ℕ, ◌<◌, List, [], length, map, get_or, sym, ap, ◌∙◌, arith}
use Rattle.std.proofs.lemmas.List.{length-map, same_lists}
use Rattle.std.proofs.lemmas.List.FromFn.{get_or-map-range_with_len, length-map-range_with_len}
use mathlib.Core.Option.{some}
use lib.ListN.{get_elem?}
use Rattle.kit_base.specs.declared.history.Line.{Line}
use Rattle.kit_base.specs.declared.history.Part.{Part}
use Rattle.kit_ground.proofs.Lists.{at_map_or}
use Rattle.kit_rules.specs.Federation.{IsFederation}
use Rattle.kit_rules.specs.Merging.{ArePartsOf, lines_in, vars_in}
use Rattle.kit_rules.specs.Parts.{Parts}
use Rattle.kit_rules.specs.Simulation.{closing_vars, lines_of, simulation}
use Rattle.kit_rules.specs.Text.{history_text}
use Rattle.kit_parts.specs.Fronts.{part, seat_after}
use Rattle.kit_parts.specs.Merging.{parts_of, vars_of}
use Rattle.kit_parts.proofs.Merged.{one_merge_law, parts_merge_law, vars_close}
use Rattle.kit_parts.proofs.Merging.{parts_are_part_law}
use Rattle.kit_node.specs.declared.node.NodeReport.{NodeReport}
use Rattle.kit_replay.specs.Parts.{AreMerged, AreSimulated, AreToldParts, WholePartsMerge}
use Rattle.kit_replay.specs.Reports.{AreWholeParts}
use Rattle.kit_replay.proofs.Lists.{at_some}

module _ (p : Parts) (sound : IsFederation p) (reports : List NodeReport) (parts : List Part) (whole : AreWholeParts p reports) (told : AreToldParts reports parts) where
  many : length parts ≡ length p.federates
  many = told.many ∙ whole.many

  -- what a part has, by its federate
  part_at : (k : ℕ) → k < length parts → (q : Part) × (get_elem? parts k ≡ some q) × (q.lines ≡ lines_of (part p k)) × (q.vars ≡ (seat_after p k (part p k)).state.vars)
  part_at k lt =
      let q = at_some parts k lt in
      let r = at_some reports k (let e = told.many in omega arith) in
      let t = told.each k r.0 q.0 r.1 q.1 in
      let w = whole.each k r.0 r.1 in
      (q.0, q.1, t.0 ∙ w.lines, t.1 ∙ w.vars)

  blocks_at : (k : ℕ) → k < length parts → get_or (parts_of p) k [] ≡ part p k
  blocks_at k lt = get_or-map-range_with_len (part p) 0 (length p.federates) k k [] (let e = many in omega arith) (omega arith)

  parts_are : ArePartsOf parts (parts_of p)
  parts_are = record {
    count = length-map-range_with_len (part p) 0 (length p.federates) ∙ sym many;
    lines = λ k lt. let q = part_at k lt in at_map_or lines_in parts k q.0 [] q.1 ∙ (q.2 ∙ ap lines_of (sym (blocks_at k lt)));
    parts_are = parts_are_part_law p sound;
  }

  vars_are : map vars_in parts ≡ vars_of p
  vars_are =
      let vars : ℕ → List ℕ = λ i. (seat_after p i (part p i)).state.vars in
      let n = length-map-range_with_len vars 0 (length p.federates) in
      let m = length-map parts vars_in in
      same_lists (map vars_in parts) (vars_of p) (let e = many in omega arith) (λ k d lt.
      let inside : k < length parts = omega arith in
      let q = part_at k inside in
      at_map_or vars_in parts k q.0 d q.1 ∙ (q.3 ∙ sym (get_or-map-range_with_len vars 0 (length p.federates) k k d (let e = many in omega arith) (omega arith))))

  pub simulated : (lines : List Line) (vars : List (List ℕ)) → AreMerged parts lines vars → AreSimulated p lines vars
  simulated lines vars merged =
      let is = merged.lines_are (parts_of p) parts_are in
      let blocks : is.all ≡ (simulation p).blocks = one_merge_law (parts_of p) is.all (simulation p).blocks is.merge (parts_merge_law p sound) in
      let all_lines : lines ≡ lines_of (simulation p).blocks = is.lines_are ∙ ap lines_of blocks in
      let all_vars : vars ≡ closing_vars (simulation p) = merged.vars_are ∙ (vars_are ∙ vars_close p sound) in
      record {
        lines_are = all_lines;
        vars_are = all_vars;
        text_is = λ t. history_text p (all_lines t) (all_vars t);
      }

pub whole_parts_merge : WholePartsMerge
whole_parts_merge p sound reports parts lines vars whole told merged = simulated p sound reports parts whole told lines vars merged
