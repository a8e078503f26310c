-- The reports of the members and the end of a run, one member more at a time.
use Rattle.std.proofs.Common.{◌≡◌, ℕ, List, [], ◌∷◌, ◌++◌, length, map, Option, refl, sym, ap, ◌∙◌, subst}
use Rattle.std.proofs.lemmas.List.{length-map}
use mathlib.Core.Option.{some}
use lib.ListN.{get_elem?}
use Rattle.kit_node.specs.declared.ends.End.{End}
use Rattle.kit_node.specs.declared.ends.NodeEnd.{NodeEnd}
use Rattle.kit_node.specs.declared.node.NodeReport.{NodeReport}
use Rattle.kit_node.specs.Nodes.{IsReported}
use Rattle.kit_replay.specs.Stages.{AreReported, QueueNode}
use Rattle.kit_replay.proofs.Reported.{reported_more}
use Rattle.kit_runner.specs.declared.stage.Member.{Member}
use Rattle.kit_runner.specs.Ends.{EndsWith, end_more}
use Rattle.kit_runner.specs.LockStages.{end_of, node_of}
use Rattle.kit_runner.proofs.EndsOn.{ends_more}

map_push : {A B : Type 0} (f : A → B) (l : List A) (x : A) → map f (l ++ x ∷ []) ≡ map f l ++ f x ∷ []
map_push f [] x = refl
map_push f (y ∷ ys) x = ap (λ (l : List _). f y ∷ l) (map_push f ys x)

-- the member after these
pub at_middle : (before rest all : List Member) (x : Member) → before ++ x ∷ rest ≡ all → get_elem? all (length before) ≡ some x
at_middle before rest all x is = ap (λ (l : List Member). get_elem? l (length before)) (sym is) ∙ there before
  where
    there : (l : List Member) → get_elem? (l ++ x ∷ rest) (length l) ≡ some x
    there [] = refl
    there (y ∷ ys) = there ys

pub ends_with_more : (before : List Member) (x : Member) (so_far end : End) (i : ℕ) → EndsWith (map end_of before) so_far → i ≡ length before → end ≡ end_more so_far i (end_of x)
    → EndsWith (map end_of (before ++ x ∷ [])) end
ends_with_more before x so_far end i h at is =
    let more = ends_more (map end_of before) so_far (end_of x) h in
    let n : length (map end_of before) ≡ i = length-map before end_of ∙ sym at in
    subst (λ (e : End). EndsWith (map end_of (before ++ x ∷ [])) e) (ap (λ (k : ℕ). end_more so_far k (end_of x)) n ∙ sym is)
    (subst (λ (l : List (Option NodeEnd)). EndsWith l (end_more so_far (length (map end_of before)) (end_of x))) (sym (map_push end_of before x)) more)

pub are_reported_more : (before : List Member) (x : Member) (reports : List NodeReport) (r : NodeReport) → AreReported (map node_of before) reports → IsReported (node_of x) r
    → AreReported (map node_of (before ++ x ∷ [])) (reports ++ r ∷ [])
are_reported_more before x reports r h is =
    subst (λ (l : List QueueNode). AreReported l (reports ++ r ∷ [])) (sym (map_push node_of before x)) (reported_more (map node_of before) reports (node_of x) r h is)
