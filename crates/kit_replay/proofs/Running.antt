-- A schedule, entry by entry.
use Rattle.std.proofs.Common.{◌≡◌, ℕ, suc, ◌+◌, ◌<◌, List, [], ◌∷◌, ◌++◌, length, get_or, take, drop, Some, None, sym, ap, ◌∙◌, subst, arith}
use Rattle.std.proofs.lemmas.List.{take-append-drop}
use Rattle.kit_rules.specs.Parts.{Parts}
use Rattle.kit_node.specs.declared.ends.End.{End}
use Rattle.kit_replay.specs.declared.stage.Stage.{Stage}
use Rattle.kit_replay.specs.Stages.{EndsWithin, GoesOn, IsStage, TurnsTo}
use Rattle.kit_replay.proofs.Lists.{take_more}

module _ (p : Parts) (schedule : List ℕ) (i : ℕ) (inside : i < length schedule) where
  abbrev entry : ℕ
  entry = get_or schedule i 0

  more : take (i + 1) schedule ≡ take i schedule ++ entry ∷ []
  more = let e : i + 1 ≡ suc i = omega arith in ap (λ (k : ℕ). take k schedule) e ∙ take_more schedule i 0 inside

  pub goes_further : (limit : ℕ) (s : Stage) → TurnsTo p limit (take i schedule ++ entry ∷ []) None s → IsStage p limit (take (i + 1) schedule) None s
  goes_further limit s stage = subst (λ (l : List ℕ). IsStage p limit l None s) (sym more) stage

  pub stops_here : (limit : ℕ) (end : End) (s : Stage) → TurnsTo p limit (take i schedule ++ entry ∷ []) (Some end) s → EndsWithin p limit schedule end s
  stops_here limit end s ends = record {
    taken = take i schedule ++ entry ∷ [];
    left = drop (i + 1) schedule;
    split = sym (take-append-drop (i + 1) schedule) ∙ ap (λ (l : List ℕ). l ++ drop (i + 1) schedule) more;
    ends = ends;
  }

pub goes_on : (p : Parts) (entry : ℕ) (before s : Stage) (g : GoesOn p before) → ((limit : ℕ) (taken : List ℕ) → IsStage p limit taken None before → TurnsTo p limit (taken ++ entry ∷ []) None s) → GoesOn p s
goes_on p entry before s g turn = record { limit = g.limit; taken = g.taken ++ entry ∷ []; stage = turn g.limit g.taken g.stage }
