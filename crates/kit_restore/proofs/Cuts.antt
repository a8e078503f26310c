-- A cut that was read is valid.
use Rattle.std.proofs.Common.{◌≡◌, ℕ, suc, ◌+◌, ◌<◌, List, [], ◌∷◌, ◌++◌, length, Ok, codes, refl, sym, subst, inl, inr, arith}
use Rattle.std.specs.Prelude.{slice_index_or}
use Rattle.std.proofs.Math.Seq.{get_or-append_seam}
use Rattle.std.proofs.lemmas.Bool.{cases_lt}
use Rattle.std.proofs.lemmas.List.{get_or_append_left}
use Rattle.serde_json.specs.Data.{Data}
use Rattle.kit_rules.specs.Parts.{Parts}
use Rattle.kit_walk.specs.Paths.{key_path, item_path}
use Rattle.kit_walk.specs.Reading.{within, each}
use Rattle.kit_walk.specs.Places.{object, member, number, list}
use Rattle.kit_cut.specs.declared.cut.Standing.{Standing}
use Rattle.kit_cut.specs.declared.cut.Cut.{Cut}
use Rattle.kit_cut.specs.ValidCuts.{IsStanding, nobody_stands, IsValidCut}
use Rattle.kit_restore.specs.CutWalk.{numbers_of, standing_of, standing_step, standings_of, cut_in, cut_of}
use Rattle.kit_restore.specs.Laws.{ReadCutsAreValid}
use Rattle.kit_restore.proofs.Answered.{bind_ok, within_ok, gave_same, number_ok, list_ok, each_kept, appended, one_longer}
use Rattle.kit_restore.proofs.Numbers.{numbers_within}
use Rattle.kit_restore.proofs.Standings.{standing_is}

-- what was read of so many federates
abbrev StandSoFar : Parts → ℕ → List ℕ → ℕ → List Standing → Type 0
StandSoFar p at nexts n done = (length done ≡ n) × ((k : ℕ) → k < n → IsStanding p at nexts k (slice_index_or done k nobody_stands))

-- one more
standing_more : (p : Parts) (at : ℕ) (nexts : List ℕ) (i : ℕ) (done : List Standing) (s : Standing) → StandSoFar p at nexts i done → IsStanding p at nexts i s → StandSoFar p at nexts (suc i) (done ++ s ∷ [])
standing_more p at nexts i done s h is = (one_longer done s i h.0, each_stands)
  where
    each_stands : (k : ℕ) → k < suc i → IsStanding p at nexts k (slice_index_or (done ++ s ∷ []) k nobody_stands)
    each_stands k lt =
        elim (cases_lt k i) [
          | inl before ↦ (
              let inside : k < length done = omega (arith, before, h.0) in
              subst (IsStanding p at nexts k) (sym (get_or_append_left done (s ∷ []) nobody_stands k inside)) (h.1 k before))
          | inr behind ↦ (
              let last : i ≡ k = omega (arith, lt, behind) in
              let long : length done ≡ k = omega (arith, last, h.0) in
              let found : slice_index_or (done ++ s ∷ []) (length done) nobody_stands ≡ s = get_or-append_seam done s [] nobody_stands in
              subst (λ n. IsStanding p at nexts n (slice_index_or (done ++ s ∷ []) k nobody_stands)) last
              (subst (λ n. IsStanding p at nexts i (slice_index_or (done ++ s ∷ []) n nobody_stands)) long
              (subst (IsStanding p at nexts i) (sym found) is)))
        ]

-- the step that reads it
standing_kept : (p : Parts) (at : ℕ) (nexts : List ℕ) (i : ℕ) (done : List Standing) (d : Data) (t : List Standing) → StandSoFar p at nexts i done → standing_step p at nexts i done d ≡ Ok t → StandSoFar p at nexts (suc i) t
unfolding standing_step
standing_kept p at nexts i done d t h e =
    let s = appended (item_path (codes "federates") i) (standing_of p at nexts i d) done t e in
    subst (StandSoFar p at nexts (suc i)) s.2 (standing_more p at nexts i done s.0 h (standing_is p at nexts i d s.0 s.1))

-- the list federates that was read
standings_are : (p : Parts) (at : ℕ) (nexts : List ℕ) (d : Data) (ss : List Standing) → standings_of p at nexts d ≡ Ok ss → StandSoFar p at nexts (length p.federates) ss
unfolding standings_of
standings_are p at nexts d ss e =
    let ds = bind_ok (list (codes "federates") (length p.federates) (length p.federates) d) (λ ds. each (standing_step p at nexts) 0 [] ds) ss e in
    let many = list_ok (codes "federates") (length p.federates) (length p.federates) d ds.0 ds.1 in
    let exact : 0 + length ds.0 ≡ length p.federates = omega (arith, many.0, many.1) in
    subst (λ n. StandSoFar p at nexts n ss) exact (each_kept (StandSoFar p at nexts) (standing_step p at nexts) (standing_kept p at nexts) 0 [] ds.0 ss (refl, λ k lt. absurd (omega (arith, lt))) ds.2)

-- the cut that a value says
cut_is : (p : Parts) (d : Data) (c : Cut) → cut_in p d ≡ Ok c → IsValidCut p c
unfolding cut_in
cut_is p d c e =
    let u = bind_ok (object d) _ c e in
    let at = bind_ok (number (codes "at") 0 p.end d) _ c u.2 in
    let next = bind_ok (numbers_of (codes "next") (length p.federates) 1 16385 d) _ c at.2 in
    let federates = bind_ok (standings_of p at.0 next.0 d) _ c next.2 in
    let nexts = numbers_within (codes "next") (length p.federates) 1 16385 d next.0 next.1 in
    let stand = standings_are p at.0 next.0 d federates.0 federates.1 in
    let read : Cut = record { at = at.0; next = next.0; federates = federates.0 } in
    let is : IsValidCut p read = record { at = (number_ok (codes "at") 0 p.end d at.0 at.1).1; each_next = nexts.1; nexts = nexts.0; each = stand.0; federates = stand.1 } in
    subst (IsValidCut p) (gave_same read c federates.2) is

-- the key cut
pub read_cuts_valid : ReadCutsAreValid
unfolding cut_of
read_cuts_valid p d c e =
    let v = bind_ok (member (codes "cut") d) (λ v. within (key_path (codes "cut")) (cut_in p v)) c e in
    cut_is p v.0 c (within_ok (key_path (codes "cut")) (cut_in p v.0) c v.2)
